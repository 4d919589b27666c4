use Rattle.std.proofs.Common.{◌≡◌, ℕ, length, subst, arith}
use Rattle.list_history.specs.Counts.{IsRowAfter}
use Rattle.list_history.proofs.row.SampleRow.follow.Goals as goal

pub returns : goal.returns
returns c =
    let all : c.loop-k.k ≡ length c.args.self.now.list.now.triangles = omega (arith, c.triangles-k-end.ensures.value) in
    subst (λ (k : ℕ). IsRowAfter c.args.self.now.list.now c.args.self.now.number c.args.self.now.py c.args.self.now.s c.args.self.now.columns k c.loop-k.row) all c.loop-k.invariant.after
