use Rattle.std.proofs.Common.{◌≡◌, ◌||◌, true, get_or, refl, sym, ap, ◌∙◌}
use Rattle.json.specs.Word.{is_operator, is_space}
use Rattle.json_tokens.proofs.Lexing.{boolean_lexed}
use Rattle.json_tokens.proofs.plain.truth_at.Goals as goal

pub returns : goal.returns
returns c =
    let text = c.args.bytes.now in
    let end = c.in_ok-found.end in
    let stop : (is_operator (get_or text end 0) || is_space (get_or text end 0)) ≡ true = ap (λ x. is_operator x || is_space x) (sym c.byte_at.ensures.value) ∙ c.if-not-ends_word.ensures refl in
    (boolean_lexed text c.args.from end c.in_ok-found.found c.in_ok-found.ensures.0 stop, c.in_ok-found.ensures.1)
