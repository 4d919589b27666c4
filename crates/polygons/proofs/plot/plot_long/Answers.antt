use Rattle.std.proofs.Common.{subst, arith}
use Rattle.polygons.specs.declared.edge.Edge.{Edge}
use Rattle.polygons.specs.Rows.{direction}
use Rattle.polygons.specs.Cells.{signed}
use Rattle.polygons.specs.Plotting.{ArePlotted}
use Rattle.polygons.proofs.Parts.{no_parts, one_part_more, all_parts}
use Rattle.polygons.proofs.Plotted.{parts_kept}
use Rattle.polygons.proofs.plot.plot_long.Goals as goal

pub plot_long_part-requires-clause-part : goal.plot_long_part-requires-clause-part
plot_long_part-requires-clause-part g c = omega (arith, c.requires.parts, c.loop-part-test.true)

pub plot_long_part-requires-clause-room : goal.plot_long_part-requires-clause-room
plot_long_part-requires-clause-room g c = parts_kept c.args.starts.now.strip c.args.cells.now c.loop-part.cells c.loop-part.invariant.same c.requires.room

pub loop-part-init : goal.loop-part-init
loop-part-init g c = no_parts c.args.starts.now.strip _ c.args.cells.now

pub loop-part-preserved : goal.loop-part-preserved
loop-part-preserved g c = one_part_more c.args.starts.now.strip _ c.loop-part.part c.args.cells.now c.loop-part.cells _ c.loop-part.invariant c.plot_long_part.ensures

pub returns : goal.returns
returns g c =
    let e = c.of-descent.ensures.edge in
    subst (λ (e : Edge). ArePlotted c.args.starts.now.strip (λ p. signed c.args.forward (direction e p)) c.args.cells.now c.loop-part.cells) e
    (all_parts c.args.starts.now.strip _ c.loop-part.part _ _ (omega (arith, c.requires.parts, c.loop-part-test.false)) c.loop-part.invariant)
