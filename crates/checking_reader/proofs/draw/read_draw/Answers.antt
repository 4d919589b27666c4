use Rattle.std.proofs.Common.{Some, ap, ◌∙◌}
use Rattle.std.proofs.lemmas.Result.{err_from_is_err_and}
use Rattle.serde_json.specs.View.{view}
use Rattle.checking_reader.proofs.Memory.{state_never}
use Rattle.checking_reader.proofs.draw.read_draw.Goals as goal

pub returns-in_err-state-clause-memory : goal.returns-in_err-state-clause-memory
returns-in_err-state-clause-memory c =
    let p = err_from_is_err_and c.from_residual-in_err-state.result c.from_residual-in_err-state.ensures.1 in
    rw (p.1, p.2) (λ memory. absurd (state_never (view c.args.value.now) (c.in_err-state.ensures ∙ ap Some memory)))
