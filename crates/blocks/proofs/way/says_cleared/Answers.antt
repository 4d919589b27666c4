use Rattle.std.proofs.Common.{rules, ◌≡◌, length}
use Rattle.std.specs.Prelude.{replicate}
use Rattle.std.proofs.lemmas.Bool.Decides.{Decides-eqb}
use Rattle.std.proofs.lemmas.Slice.Eq.{slice_eq-Decides}
use Rattle.blocks.proofs.Ways.{all_cleared, reds_of_cleared}
use Rattle.blocks.proofs.way.says_cleared.Goals as goal

pub returns-then-state-ne0 : goal.returns-then-state-ne0
returns-then-state-ne0 c =
    let state = c.args.state.now in
    let decides = slice_eq-Decides Decides-eqb state.r (replicate 64 1) c.eq.result c.eq.ensures in
    let long : length state.r ≡ 64 = search rules in
    (λ e. all_cleared state.g state.r c.if-state-ne0.true (decides.0 e), λ all. decides.1 (reds_of_cleared state.g state.r long all))
