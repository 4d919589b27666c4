use Rattle.polygons.proofs.ByteRows.{last_first, last_carry}
use Rattle.polygons.proofs.byte_rows.last_column.Goals as goal

pub returns : goal.returns
returns c = record { bits = last_first c.args.word; carry = last_carry c.args.word }
