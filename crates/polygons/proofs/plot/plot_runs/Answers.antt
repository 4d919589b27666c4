use Rattle.std.proofs.Common.{◌≡◌, sym, ap, ◌∙◌, arith, ◌+◌, ◌-◌, ◌<◌, ◌≤◌, List, length}
use Rattle.grid.specs.Position.{Position}
use Rattle.polygons.specs.Crossing.{winding}
use Rattle.polygons.specs.Polygon.{path_edges, path_end}
use Rattle.polygons.specs.Rings.{corners_between, end_of}
use Rattle.polygons.specs.Runs.{corner_at}
use Rattle.polygons.proofs.Plotted.{plotted_none, plotted_both, plotted_as, one_more, nothing_left}
use Rattle.polygons.proofs.Seen.{corner_seen, part_seen}
use Rattle.polygons.proofs.RunBoxes.{between_none, last_between, run_step, end_step, crossed_as_chord, from_first}
use Rattle.polygons.proofs.plot.plot_runs.Goals as goal

pub loop-next-init : goal.loop-next-init
loop-next-init g c =
    let corners = c.args.rings.now.corners.now in
    let rest = corners_between corners (c.args.begin + 1) c.args.end in
    let at : c.args.begin ≡ c.args.begin + 1 - 1 = omega arith in
    record {
      first = omega arith;
      last = omega (arith, c.requires.some);
      from = c.at-from.ensures ∙ ap (corner_at corners) at;
      plotted = plotted_none c.args.starts.now.strip _ c.args.cells.now (from_first (corner_at corners c.args.begin) c.at-from.result rest c.at-from.ensures);
      path = ap (λ (q : Position). path_end q rest) (sym c.at-from.ensures);
    }

pub at-from-requires : goal.at-from-requires
at-from-requires g c =
    let rings = c.args.rings.now in
    corner_seen rings.corners.now rings.start (end_of rings.start rings.ends.now) rings.seen c.args.begin c.requires.first (omega (arith, c.requires.some, c.requires.last)) (omega (arith, c.requires.some, c.requires.within))

pub plot_run-from-requires-clause-corners : goal.plot_run-from-requires-clause-corners
plot_run-from-requires-clause-corners g c =
    let rings = c.args.rings.now in
    let v = c.loop-next.invariant in
    let run = c.run_of-run.ensures in
    let rise : c.loop-next.next ≤ c.min-behind.result = omega (arith, v.first, c.requires.first, c.loop-next-test.true, run.ends, c.min-behind.ensures) in
    part_seen rings.corners.now rings.start (end_of rings.start rings.ends.now) rings.seen c.loop-next.next c.min-behind.result (omega (arith, v.first, c.requires.first)) rise (omega (arith, c.requires.last, c.min-behind.ensures))

pub plot_run-from-requires-clause-chord : goal.plot_run-from-requires-clause-chord
plot_run-from-requires-clause-chord g c t s row k h l =
    let v = c.loop-next.invariant in
    let run = c.run_of-run.ensures in
    let rise : c.loop-next.next ≤ c.min-behind.result = omega (arith, v.first, c.requires.first, c.loop-next-test.true, run.ends, c.min-behind.ensures) in
    crossed_as_chord c.args.runs.now c.args.rings.now c.args.starts.now.strip c.loop-next.cells.columns c.run_of-run.result.0 c.loop-next.next c.min-behind.result c.loop-next.from c.requires.runs (c.is_beside-is_beside.ensures.known t)
    (omega (arith, v.first)) rise (omega (arith, v.first, c.requires.first, run.begins)) (omega (arith, run.held, c.min-behind.ensures)) (omega (arith, c.requires.last, c.min-behind.ensures)) (omega (arith, c.requires.within, c.min-behind.ensures))
    v.from (c.is_beside-is_beside.ensures.beside t) s row k h l

pub loop-next-preserved : goal.loop-next-preserved
loop-next-preserved g c =
    let v = c.loop-next.invariant in
    let corners = c.args.rings.now.corners.now in
    let next = c.loop-next.next in
    let behind = c.min-behind.result in
    let from = c.loop-next.from in
    let to = c.plot_run-from.result in
    let end = c.args.end in
    let run = c.run_of-run.ensures in
    let rise : next < behind = omega (arith, v.first, c.requires.first, c.loop-next-test.true, run.ends, c.min-behind.ensures) in
    let most : behind ≤ end = omega (arith, c.min-behind.ensures) in
    let within : behind ≤ length corners = omega (arith, most, c.requires.within) in
    let upto : next ≤ behind = omega (arith, rise) in
    record {
      first = omega (arith, v.first, rise);
      last = most;
      from = c.plot_run-from.ensures.end ∙ last_between from corners next behind rise within;
      plotted = plotted_both c.args.starts.now.strip _ _ _ _ _ _
          (λ p. one_more (winding (path_edges (corner_at corners c.args.begin) (corners_between corners (c.args.begin + 1) end)) p) _ _ _ (run_step corners next behind end from to upto most c.plot_run-from.ensures.end p))
          v.plotted c.plot_run-from.ensures.plotted;
      path = v.path ∙ end_step corners next behind end from to upto most c.plot_run-from.ensures.end;
    }

pub returns-clause-plotted : goal.returns-clause-plotted
returns-clause-plotted g c =
    let corners = c.args.rings.now.corners.now in
    let none = between_none corners c.loop-next.next c.args.end (omega (arith, c.loop-next-test.false)) in
    plotted_as c.args.starts.now.strip _ _ _ _
    (λ p. nothing_left (winding (path_edges (corner_at corners c.args.begin) (corners_between corners (c.args.begin + 1) c.args.end)) p) _ (ap (λ (qs : List Position). winding (path_edges c.loop-next.from qs) p) none))
    c.loop-next.invariant.plotted
