use Rattle.std.proofs.Common.{◌≡◌, refl, sym, ap, ◌∙◌, arith, ◌<◌, ◌≤◌, ℕ, List, map, drop, get_or, length, pos}
use Rattle.std.proofs.lemmas.List.{get_or-map, length-map}
use Rattle.std.proofs.lemmas.List.Elements.{All-get_or}
use Rattle.grid.specs.Position.{Position, IsInGuardBand}
use Rattle.polygons.specs.declared.corner.Corner.{Corner}
use Rattle.polygons.specs.Crossing.{winding}
use Rattle.polygons.specs.Polygon.{path_edges, path_end}
use Rattle.polygons.specs.Rings.{position_of}
use Rattle.polygons.proofs.Plotted.{plotted_none, plotted_both, plotted_as, path_step, end_step, none_left, nothing_yet, one_more, nothing_left}
use Rattle.polygons.proofs.plot.plot_path.Goals as goal

abbrev zeros : Corner
zeros = record { x = pos 0; y = pos 0 }

pub at-to-requires : goal.at-to-requires
at-to-requires g c = All-get_or (λ k. IsInGuardBand (position_of k)) c.args.corners.now c.loop-corner.corner-index zeros c.loop-corner-test.true c.requires.corners

pub loop-corner-init : goal.loop-corner-init
loop-corner-init g c = record {
  plotted = plotted_none c.args.starts.now.strip _ c.args.cells.now (λ p. nothing_yet (winding (path_edges c.args.from (map position_of c.args.corners.now)) p));
  end = refl;
}

item_of : (to : Position) (cs : List Corner) (i : ℕ) → i < length cs → to ≡ position_of (get_or cs i zeros) → to ≡ get_or (map position_of cs) i to
item_of to cs i small at = at ∙ sym (get_or-map position_of cs i zeros to small)

inside : (cs : List Corner) (i : ℕ) → i < length cs → i < length (map position_of cs)
inside cs i h = omega (arith, length-map cs position_of)

pub loop-corner-preserved : goal.loop-corner-preserved
loop-corner-preserved g c =
    let v = c.loop-corner.invariant in
    let i = c.loop-corner.corner-index in
    let from = c.loop-corner.from in
    let to = c.at-to.result in
    let corners = c.args.corners.now in
    let cs = map position_of corners in
    let small = inside corners i c.loop-corner-test.true in
    let item = item_of to corners i c.loop-corner-test.true c.at-to.ensures in
    record {
      plotted = plotted_both c.args.starts.now.strip _ _ _ _ _ _
          (λ p. one_more (winding (path_edges c.args.from cs) p) _ _ _ (path_step from to cs i p small item))
          v.plotted c.plot_edge.ensures;
      end = v.end ∙ end_step from to cs i small item;
    }

pub returns : goal.returns
returns g c =
    let v = c.loop-corner.invariant in
    let cs = map position_of c.args.corners.now in
    let past : length cs ≤ c.loop-corner.corner-index = omega (arith, length-map c.args.corners.now position_of, c.loop-corner-test.false) in
    let none = none_left cs c.loop-corner.corner-index past in
    record {
      plotted = plotted_as c.args.starts.now.strip _ _ _ _
          (λ p. nothing_left (winding (path_edges c.args.from cs) p) _ (ap (λ (r : List Position). winding (path_edges c.loop-corner.from r) p) none))
          v.plotted;
      end = sym_end (path_end c.loop-corner.from (drop c.loop-corner.corner-index cs)) v.end (ap (path_end c.loop-corner.from) none);
    }
  where
    sym_end : {a b : Position} (z : Position) → a ≡ z → z ≡ b → b ≡ a
    sym_end {a} {b} z e f = sym (e ∙ f)
