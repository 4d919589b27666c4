use Rattle.std.proofs.Common.{◌≡◌, ◌<◌, length, true, get_or, sym, ap, ◌∙◌}
use Rattle.json.specs.Word.{is_space}
use Rattle.json_tokens.proofs.Lexing.{blank_passed, blank_within}
use Rattle.json_tokens.proofs.blank.skip_some_blanks.Goals as goal

pub blanks-preserved : goal.blanks-preserved
blanks-preserved c =
    let text = c.args.bytes.now in
    let at = c.blanks.at in
    let blank : is_space (get_or text at 0) ≡ true = ap is_space (sym c.byte_at.ensures.value) ∙ sym c.is_blank.ensures ∙ c.blanks-test.true in
    let within : at < length text = blank_within text at blank in
    record { same = c.skip_spaces-at.ensures.same ∙ blank_passed text at within blank ∙ c.blanks.invariant.same; within = c.skip_spaces-at.ensures.within.1 }
