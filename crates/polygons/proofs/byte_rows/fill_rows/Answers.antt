use Rattle.std.proofs.Common.{◌∙◌, arith}
use Rattle.polygons.proofs.ByteRows.{with_carry}
use Rattle.polygons.proofs.byte_rows.fill_rows.Goals as goal

pub returns : goal.returns
returns c = record {
  filled = λ r j lr lj. c.spread_rows-filled.ensures r j lr lj ∙ with_carry c.args.word c.args.carry r j c.requires lr lj;
  next = λ r lr. c.last_column-next.ensures.bits r lr ∙ c.spread_rows-filled.ensures r 7 lr (omega arith) ∙ with_carry c.args.word c.args.carry r 7 c.requires lr (omega arith);
  carry = c.last_column-next.ensures.carry;
}
