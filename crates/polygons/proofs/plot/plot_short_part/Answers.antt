use Rattle.std.proofs.Common.{refl, arith, ℕ, ◌+◌, ◌-◌, ◌*◌}
use Rattle.polygons.proofs.Parts.{part_put}
use Rattle.polygons.proofs.plot.plot_short_part.Goals as goal

pub returns : goal.returns
returns c =
    let cells = c.args.cells.now in
    let n = λ (m : ℕ). c.args.part * m + m - c.args.part * m in
    part_put c.args.starts.now.strip c.args.part _ cells _ c.plot_short_samples.new.flags c.plot_short_samples.new.counters _ (n cells.flagged) _ (n cells.counted) c.requires.part c.requires.room refl (omega arith) refl (omega arith) refl refl
    c.plot_short_samples.ensures refl refl refl refl refl refl
