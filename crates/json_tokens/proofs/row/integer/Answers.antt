use Rattle.std.proofs.Common.{SFits, w64, to_z-of_z, drop, sym, subst, arith}
use Rattle.std.proofs.lemmas.Int.{ints}
use Rattle.fast_float.specs.Text.{with_sign}
use Rattle.json_tokens.specs.Lexed.{TookInteger}
use Rattle.json_tokens.specs.Tokens.{tokens_from}
use Rattle.json_tokens.proofs.Lexing.{some_size}
use Rattle.json_tokens.proofs.Rows.{integer_taken}
use Rattle.json_tokens.proofs.row.integer.Goals as goal

pub returns : goal.returns
returns c =
    let text = c.args.bytes.now in
    let at = c.args.ahead.at in
    let minus = c.pass_sign-has_minus.result.0 in
    let first = c.pass_sign-has_minus.result.1.at in
    let n = c.in_ok-size.size in
    let next = c.in_ok-next.ensures in
    let fits : SFits w64 c.signed.result = grind (arith, ints) in (
      λ p may. rw (to_z-of_z fits, c.signed.ensures) (subst (λ new. TookInteger (tokens_from p (drop at text)) (with_sign minus n) new) (sym next.1)
          (integer_taken text at first c.in_ok-size.end.at n minus p c.pass_sign-has_minus.ensures.sign c.in_ok-size.ensures.0 (some_size minus n c.else-has_minus.either) next.0 may)),
      next.2,
    )
