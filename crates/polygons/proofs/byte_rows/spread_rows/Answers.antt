use Rattle.polygons.proofs.ByteRows.{row_doubled, rows_spread, from_one, from_two, from_four}
use Rattle.polygons.proofs.byte_rows.spread_rows.Goals as goal

pub returns : goal.returns
returns c = rows_spread c.args.word _ _ _ (row_doubled 1 c.args.word _ from_one) (row_doubled 2 _ _ from_two) (row_doubled 4 _ _ from_four)
