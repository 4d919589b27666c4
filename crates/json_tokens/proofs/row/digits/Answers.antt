use Rattle.std.proofs.Common.{refl, arith}
use Rattle.json_tokens.proofs.Eights.{digits_are_written}
use Rattle.json_tokens.proofs.Rows.{begins, passed, digits_within}
use Rattle.json_tokens.proofs.row.digits.Goals as goal

pub number-size-requires : goal.number-size-requires
number-size-requires c =
    begins c.args.bytes.now c.offsets_at.result c.args.ahead.at c.args.ahead.others _ c.requires c.if-ahead-eq0.false refl c.if-count-eq0.false c.if-count-ge8.false c.offsets_at.ensures

pub returns : goal.returns
returns c =
    let text = c.args.bytes.now in
    let at = c.args.ahead.at in
    let within = c.requires.within in
    let v = c.offsets_at.result in
    let is = begins text v at c.args.ahead.others _ c.requires c.if-ahead-eq0.false refl c.if-count-eq0.false c.if-count-ge8.false c.offsets_at.ensures in (
      digits_are_written text v at _ c.number-size.result (λ k. (c.type_inv.bytes k).fits) (omega (arith, within)) c.offsets_at.ensures is c.number-size.ensures.value c.number-size.ensures.below,
      passed text at c.args.ahead.others _ c.requires (digits_within text at c.args.ahead.others c.requires c.if-ahead-eq0.false),
    )
