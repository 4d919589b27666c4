use Rattle.std.proofs.Common.{SFits, w64, to_z-of_z, arith}
use Rattle.std.proofs.lemmas.Int.{ints}
use Rattle.json_tokens.proofs.Lexing.{some_size, integer_is}
use Rattle.json_tokens.proofs.integer.integer_at.Goals as goal

pub returns : goal.returns
returns c =
    let minus = c.sign_at-has_minus.result.0 in
    let n = c.in_ok-size.size in
    let fits : SFits w64 c.signed.result = grind (arith, ints) in
    (c.in_ok-size.ensures.digits.within, λ stop. rw (to_z-of_z fits, c.signed.ensures) (integer_is c.args.bytes.now c.args.from c.sign_at-has_minus.result.1 c.in_ok-size.end n minus c.sign_at-has_minus.ensures c.in_ok-size.ensures (some_size minus n c.else-has_minus.either) stop))
