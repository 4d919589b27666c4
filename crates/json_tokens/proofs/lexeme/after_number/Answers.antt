use Rattle.std.proofs.Common.{◌≡◌, ◌<◌, ◌||◌, length, get_or, refl, sym, ap, ◌∙◌, arith}
use Rattle.json.specs.Word.{is_operator, is_space}
use Rattle.json_tokens.specs.Lexed.{MayEnd}
use Rattle.json_tokens.proofs.Lexing.{operator_lexed}
use Rattle.json_tokens.proofs.Places.{comma_passed, may_end_at}
use Rattle.json_tokens.proofs.lexeme.after_number.Goals as goal

pub returns-then-stop-eq44 : goal.returns-then-stop-eq44
returns-then-stop-eq44 c =
    let text = c.args.bytes.now in
    let end = c.args.end in
    let here : get_or text end 0 ≡ 44 = grind arith in
    let within : end < length text = grind arith in
    (may_end_at text end 44 here refl, sym (comma_passed _ _ (operator_lexed text end 44 refl within here)), omega arith)

pub returns : goal.returns
returns c =
    let text = c.args.bytes.now in
    let stop : MayEnd text c.args.end = ap (λ x. is_operator x || is_space x) (sym c.byte_at-stop.ensures.value) ∙ c.if-not-ends_word.ensures refl in
    (stop, c.after_value.ensures.same, c.after_value.ensures.within)
