use Rattle.std.proofs.Common.{◌≡◌, ◌<◌, length, get_or, refl, sym, ap, ◌∙◌, arith}
use Rattle.json.specs.Word.{is_space}
use Rattle.json_tokens.proofs.Lexing.{blank_passed}
use Rattle.json_tokens.proofs.blank.skip_blanks.Goals as goal

pub returns-then-byte_at-gt32-clause-same : goal.returns-then-byte_at-gt32-clause-same
returns-then-byte_at-gt32-clause-same c =
    let text = c.args.bytes.now in
    let from = c.args.from in
    let here : get_or text from 0 ≡ 32 = sym c.byte_at-byte.ensures.value ∙ c.if-byte-eq32.true in
    let within : from < length text = grind arith in
    blank_passed text from within (ap is_space here ∙ refl)
