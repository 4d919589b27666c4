use Rattle.std.proofs.Common.{◌≡◌, true, sym, ◌∙◌}
use Rattle.json_tokens.specs.Tokens.{closes_at}
use Rattle.json_tokens.proofs.Places.{over}
use Rattle.json_tokens.proofs.cursor.Cursor.is_over.Goals as goal

pub returns-then-skip_blanks-self : goal.returns-then-skip_blanks-self
returns-then-skip_blanks-self c closes =
    let a = c.self.inside in
    let may : closes_at a.place ≡ true = sym c.may_close.ensures ∙ closes in
    sym c.self.view_is ∙ over a.place a.bytes.now a.at c.skip_blanks.result may c.skip_blanks.ensures.same c.if-skip_blanks-self.true
