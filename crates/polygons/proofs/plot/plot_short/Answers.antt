use Rattle.std.proofs.Common.{◌∙◌, arith, ap, ◌+◌, ◌*◌}
use Rattle.std.proofs.lemmas.Nat.Bits.{bit_at-zero}
use Rattle.std.specs.Int.{bit_at}
use Rattle.polygons.specs.Strip.{start_of}
use Rattle.polygons.proofs.Parts.{no_parts, one_part_more, all_parts}
use Rattle.polygons.proofs.Plotted.{parts_kept, part_nowhere, signed_none, all_same}
use Rattle.polygons.proofs.Samples.{in_part}
use Rattle.polygons.proofs.ShortEdges.{missed_row}
use Rattle.polygons.proofs.plot.plot_short.Goals as goal

pub returns-then-crossings-eq0 : goal.returns-then-crossings-eq0
returns-then-crossings-eq0 g c =
    let cells = c.args.cells.now in
    let strip = c.args.starts.now.strip in
    let e = c.args.edge.now in
    record {
      plotted = λ part l. part_nowhere cells.rule strip part _ _ _ (λ s row k h few _.
          signed_none c.args.forward _ (missed_row e (start_of strip (4 * part + s)) row k c.requires.runs_down
          (c.of-crossings.ensures.missed (4 * part + s) (in_part strip.count part s l h) (ap (λ n. bit_at n (4 * part + s)) c.if-crossings-eq0.true ∙ bit_at-zero (4 * part + s))) few));
      same = all_same cells;
    }

pub plot_short_part-requires-clause-part : goal.plot_short_part-requires-clause-part
plot_short_part-requires-clause-part g c = omega (arith, c.requires.parts, c.loop-part-test.true)

pub plot_short_part-requires-clause-room : goal.plot_short_part-requires-clause-room
plot_short_part-requires-clause-room g c = parts_kept c.args.starts.now.strip c.args.cells.now c.loop-part.cells c.loop-part.invariant.same c.requires.room

pub loop-part-init : goal.loop-part-init
loop-part-init g c = no_parts c.args.starts.now.strip _ c.args.cells.now

pub loop-part-preserved : goal.loop-part-preserved
loop-part-preserved g c = one_part_more c.args.starts.now.strip _ c.loop-part.part c.args.cells.now c.loop-part.cells _ c.loop-part.invariant c.plot_short_part.ensures

pub returns : goal.returns
returns g c = all_parts c.args.starts.now.strip _ c.loop-part.part _ _ (omega (arith, c.requires.parts, c.loop-part-test.false)) c.loop-part.invariant
