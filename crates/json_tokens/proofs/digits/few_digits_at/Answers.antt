use Rattle.std.proofs.Common.{◌≡◌, length}
use Rattle.json_tokens.specs.Eight.{BeginsWithDigits}
use Rattle.json_tokens.proofs.Eights.{begins_with_digits, digits_are_written, length-offsets}
use Rattle.json_tokens.proofs.digits.few_digits_at.Goals as goal

pub number-requires : goal.number-requires
number-requires c = begins_with_digits c.offsets_at-offsets.result c.digit_count-count.result c.type_inv.offsets.0 c.if-count-eq0.false c.if-count-ge8.false c.digit_count-count.ensures

pub returns : goal.returns
returns c =
    let text = c.args.bytes.now in
    let v = c.offsets_at-offsets.result in
    let n = c.digit_count-count.result in
    let long : length v ≡ 8 = length-offsets text v c.args.from c.requires c.offsets_at-offsets.ensures in
    let is : BeginsWithDigits v n = begins_with_digits v n long c.if-count-eq0.false c.if-count-ge8.false c.digit_count-count.ensures in
    digits_are_written text v c.args.from n c.number.result (λ k. (c.type_inv.bytes k).fits) c.requires c.offsets_at-offsets.ensures is c.number.ensures.value c.number.ensures.below
