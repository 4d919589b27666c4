use Rattle.std.proofs.Common.{refl, sym, ap, arith, ℕ, List}
use Rattle.polygons.specs.Crossing.{winding}
use Rattle.polygons.specs.Polygon.{polygon_edges}
use Rattle.polygons.specs.Rings.{rings_from}
use Rattle.polygons.proofs.Plotted.{parts_kept, plotted_none, plotted_both, plotted_as, none_left, nothing_yet, one_more, nothing_left}
use Rattle.polygons.proofs.RingParts.{ring_step, next_start, begins_within, ends_within}
use Rattle.polygons.proofs.plot.plot.Goals as goal

pub plot_ring-requires : goal.plot_ring-requires
plot_ring-requires g c =
    let rings = c.args.rings.now in
    let i = c.loop-ring_end.ring_end-index in
    let first = begins_within rings.start rings.ends.now _ i rings.rising c.loop-ring_end-test.true in
    record {
      parts = rw c.new-starts.ensures c.requires.parts;
      room = rw c.new-starts.ensures (parts_kept c.args.strip.now c.args.cells.now c.loop-ring_end.cells c.loop-ring_end.invariant.plotted.same c.requires.room);
      runs = c.requires.runs;
      first = omega (arith, first, c.loop-ring_end.invariant.place);
      last = ends_within rings.start rings.ends.now _ i rings.rising c.loop-ring_end-test.true;
      within = rings.rising.within i c.loop-ring_end-test.true;
    }

pub loop-ring_end-init : goal.loop-ring_end-init
loop-ring_end-init g c =
    let rings = c.args.rings.now in
    record {
      plotted = plotted_none c.args.strip.now _ c.args.cells.now (λ p. nothing_yet (winding (polygon_edges (rings_from rings.corners.now rings.start rings.ends.now)) p));
      place = refl;
    }

pub loop-ring_end-preserved : goal.loop-ring_end-preserved
loop-ring_end-preserved g c =
    let rings = c.args.rings.now in
    let i = c.loop-ring_end.ring_end-index in
    let v = c.loop-ring_end.invariant in
    record {
      plotted = plotted_both c.args.strip.now _ _ _ _ _ _
          (λ p. one_more (winding (polygon_edges (rings_from rings.corners.now rings.start rings.ends.now)) p) _ _ _ (ring_step rings.corners.now c.loop-ring_end.begin rings.ends.now i p c.loop-ring_end-test.true))
          v.plotted (rw c.new-starts.ensures at c.plot_ring.ensures);
      place = sym (next_start rings.start rings.ends.now i);
    }

pub returns : goal.returns
returns g c =
    let rings = c.args.rings.now in
    let none = none_left rings.ends.now c.loop-ring_end.ring_end-index c.loop-ring_end-test.false in
    let v = c.loop-ring_end.invariant.plotted in
    record {
      plotted = plotted_as c.args.strip.now _ _ _ _
          (λ p. nothing_left (winding (polygon_edges (rings_from rings.corners.now rings.start rings.ends.now)) p) _ (ap (λ (es : List ℕ). winding (polygon_edges (rings_from rings.corners.now c.loop-ring_end.begin es)) p) none)) v;
      same_flags = v.same.flags;
      same_counters = v.same.counters;
    }
