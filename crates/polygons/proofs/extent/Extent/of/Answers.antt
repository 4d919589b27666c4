use Rattle.std.proofs.Common.{inl, inr, refl, arith, ℕ, ◌≡◌, ◌+◌, ◌<◌, ◌≤◌, List, map, take, get_or, length, pos}
use Rattle.std.specs.List.{All}
use Rattle.std.proofs.lemmas.Bool.{cases_lt}
use Rattle.std.proofs.lemmas.List.{get_or-map, get_or-take, length-map, length-take, take_all, take-take}
use Rattle.std.proofs.lemmas.List.Elements.{All-more, All-take, All-weaker}
use Rattle.grid.specs.Position.{Position}
use Rattle.polygons.specs.declared.corner.Corner.{Corner}
use Rattle.polygons.specs.declared.extent.Extent.{Extent}
use Rattle.polygons.specs.Rings.{position_of, IsInClosedExtent}
use Rattle.polygons.proofs.extent.Extent.of.Goals as goal

abbrev zeros : Corner
zeros = record { x = pos 0; y = pos 0 }

one_more : (e f : Extent) (ring : List Corner) (i : ℕ) → i < length ring → ((p : Position) → IsInClosedExtent e p → IsInClosedExtent f p) → IsInClosedExtent f (position_of (get_or ring i zeros))
    → All (IsInClosedExtent e) (take i (map position_of ring)) → All (IsInClosedExtent f) (take (i + 1) (map position_of ring))
one_more e f ring i h grows here before =
    let long = length-map ring position_of in
    All-more (IsInClosedExtent f) (map position_of ring) i (position_of zeros) (omega (arith, h, long)) (All-weaker (IsInClosedExtent e) (IsInClosedExtent f) grows (take i (map position_of ring)) before)
    (rw (get_or-map position_of ring i zeros (position_of zeros) h) here)

-- another box that holds one corner more
last_held : (f : Extent) (ring : List Corner) (i : ℕ) → i < length ring → All (IsInClosedExtent f) (take (i + 1) (map position_of ring)) → IsInClosedExtent f (position_of (get_or ring i zeros))
last_held f ring i h all =
    let long = length-map ring position_of in
    let many = length-take (i + 1) (map position_of ring) in
    let last = all i (position_of zeros) (omega (arith, h, long, many)) in
    rw (get_or-take (i + 1) (map position_of ring) i (position_of zeros) (omega arith), get_or-map position_of ring i zeros (position_of zeros) h) at last

before_held : (f : Extent) (ring : List Corner) (i : ℕ) → All (IsInClosedExtent f) (take (i + 1) (map position_of ring)) → All (IsInClosedExtent f) (take i (map position_of ring))
before_held f ring i all =
    let cut = All-take {X = Position} (IsInClosedExtent f) i (take (i + 1) (map position_of ring)) all in
    rw (take-take i (i + 1) (map position_of ring) (omega arith)) at cut

pub loop-corner-init : goal.loop-corner-init
loop-corner-init c = record {
  held = λ k d h. absurd (omega (arith, h));
  none = λ same. refl;
  least = λ some. absurd (omega (arith, some));
}

pub loop-corner-preserved : goal.loop-corner-preserved
loop-corner-preserved c =
    let ring = c.args.corners.now in
    let i = c.loop-corner.corner-index in
    let v = c.loop-corner.invariant in
    record {
      held = one_more c.loop-corner.extent c.with-extent.result ring i c.loop-corner-test.true c.with-extent.ensures.others c.with-extent.ensures.corner v.held;
      none = λ zero. absurd (omega (arith, zero));
      least = λ some f all.
          let last = last_held f ring i c.loop-corner-test.true all in
          elim (cases_lt 0 i) [
            | inl later ↦ c.with-extent.ensures.least f (v.least later f (before_held f ring i all)) last
            | inr now ↦ c.with-extent.ensures.first (v.none (omega (arith, now))) f last
          ];
    }

all_taken : (ring : List Corner) (i : ℕ) → length ring ≤ i → take i (map position_of ring) ≡ map position_of ring
all_taken ring i h = let long = length-map ring position_of in take_all i (map position_of ring) (omega (arith, long, h))

pub returns : goal.returns
returns c =
    let ring = c.args.corners.now in
    let i = c.loop-corner.corner-index in
    let v = c.loop-corner.invariant in
    let long = length-map ring position_of in
    let whole = all_taken ring i (omega (arith, c.loop-corner-test.false)) in
    record {
      held = rw whole at v.held;
      none = λ zero. v.none (omega (arith, zero, long, c.loop-corner.auto.corner-index-end));
      least = λ some f all. v.least (omega (arith, some, long, c.loop-corner-test.false)) f (rw (← whole) at all);
    }
