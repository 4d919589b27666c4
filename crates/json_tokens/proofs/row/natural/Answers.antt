use Rattle.std.proofs.Common.{pos, drop, false, refl, sym, subst}
use Rattle.std.proofs.lemmas.Bool.{false≢true}
use Rattle.json_tokens.specs.Lexed.{TookInteger}
use Rattle.json_tokens.specs.Tokens.{tokens_from}
use Rattle.json_tokens.proofs.Rows.{integer_taken}
use Rattle.json_tokens.proofs.row.natural.Goals as goal

pub returns : goal.returns
returns c =
    let text = c.args.bytes.now in
    let at = c.args.ahead.at in
    let n = c.in_ok-size.size in
    let next = c.in_ok-next.ensures in (
      λ p may. subst (λ new. TookInteger (tokens_from p (drop at text)) (pos n) new) (sym next.1)
          (integer_taken text at at c.in_ok-size.end.at n false p refl c.in_ok-size.ensures.0 (λ e. absurd (false≢true e)) next.0 may),
      next.2,
    )
