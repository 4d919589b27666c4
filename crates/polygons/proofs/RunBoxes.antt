-- Runs of corners and their boxes.
use Rattle.std.proofs.Common.{◌≡◌, ◌≢◌, inl, inr, refl, sym, ap, subst, ◌∙◌, arith, ℕ, suc, ◌+◌, ◌-◌, ◌*◌, ◌/◌, ◌%◌, ◌<◌, ◌≤◌, min, set, List, [], ◌∷◌, ◌++◌, map, take, drop, drop-cons, add-one, length, length-drop, get_or, pos, ◌+ℤ◌, ◌-ℤ◌}
use Rattle.std.specs.List.{All}
use Rattle.std.proofs.Math.Nat.{div-mul-le_self, lt-div-mul-add, lt_of_mul-lt-mul_right}
use Rattle.std.proofs.Math.Seq.{take-add}
use Rattle.std.proofs.lemmas.Int.{ints}
use Rattle.std.proofs.lemmas.List.{get_or-map, get_or-set_same, get_or-set_other, get_or-take, get_or-drop, length-take, length-map, map-append, drop-drop}
use Rattle.std.proofs.lemmas.List.Elements.{All-from_get_or, All-get_or}
use Rattle.std.proofs.lemmas.Bool.{cases_lt}
use Rattle.std.proofs.lemmas.Grind.{div_ceil_times}
use Rattle.grid.specs.Position.{Position}
use Rattle.polygons.specs.declared.corner.Corner.{Corner}
use Rattle.polygons.specs.declared.edge.Edge.{Edge}
use Rattle.polygons.specs.declared.extent.Extent.{Extent}
use Rattle.polygons.specs.declared.rings.Rings.{Rings}
use Rattle.polygons.specs.declared.runs.Runs.{Runs}
use Rattle.polygons.specs.declared.strip.Strip.{Strip}
use Rattle.polygons.specs.Apart.{LiesBeside}
use Rattle.polygons.specs.Crossing.{winding}
use Rattle.polygons.specs.Polygon.{path_edges, path_end, ring_edges}
use Rattle.polygons.specs.Rings.{position_of, end_of, IsInClosedExtent, corners_between}
use Rattle.polygons.specs.Rows.{direction}
use Rattle.polygons.specs.Runs.{corner_at, box_of, AreRunsOf, IsCrossedAsChord}
use Rattle.polygons.specs.Strip.{strip_sample}
use Rattle.polygons.proofs.Boxes.{path_outside}
use Rattle.polygons.proofs.Plotted.{winding-cons, ring_closed, nothing_yet}

-- where a run ends
pub run_ends : (corner n : ℕ) → 0 < n → (corner / n * n ≤ corner) × ((corner / n + 1) * n ≡ corner / n * n + n) × (corner < corner / n * n + n)
run_ends corner n h = (div-mul-le_self corner n, grind arith, lt-div-mul-add h)

abbrev pub zeros : Corner
zeros = record { x = pos 0; y = pos 0 }

abbrev nowhere : Extent
nowhere = record { left = pos 0; top = pos 0; right = pos 0; bottom = pos 0 }

-- ---- paths in parts
pub path_joined : (a : Position) (xs ys : List Position) (p : Position) → winding (path_edges a (xs ++ ys)) p ≡ winding (path_edges a xs) p +ℤ winding (path_edges (path_end a xs) ys) p
path_joined a [] ys p = omega (arith, ints)
path_joined a (x ∷ xs) ys p =
    let e : Edge = record { a = a; b = x } in
    let rest = path_joined x xs ys p in
    let w = winding-cons e (path_edges x (xs ++ ys)) p in
    let v = winding-cons e (path_edges x xs) p in
    omega (arith, ints)

pub end_joined : (a : Position) (xs ys : List Position) → path_end a (xs ++ ys) ≡ path_end (path_end a xs) ys
end_joined a [] ys = refl
end_joined a (x ∷ xs) ys = end_joined x xs ys

pub path_last : (a : Position) (cs : List Corner) → 1 ≤ length cs → path_end a (map position_of cs) ≡ position_of (get_or cs (length cs - 1) zeros)
path_last a [] h = absurd (omega arith)
path_last a (c ∷ []) h = refl
path_last a (c ∷ d ∷ ds) h =
    let n : length (c ∷ d ∷ ds) - 1 ≡ suc (length (d ∷ ds) - 1) = omega arith in
    path_last (position_of c) (d ∷ ds) (omega arith) ∙ sym (ap (λ k. position_of (get_or (c ∷ d ∷ ds) k zeros)) n)

pub no_path : (a : Position) (cs : List Corner) → length cs < 1 → (p : Position) → winding (path_edges a (map position_of cs)) p ≡ pos 0
no_path a [] h p = refl
no_path a (c ∷ cs) h p = absurd (omega arith)

pub no_end : (a : Position) (cs : List Corner) → length cs < 1 → a ≡ path_end a (map position_of cs)
no_end a [] h = refl
no_end a (c ∷ cs) h = absurd (omega arith)

-- ---- corners between two indices
pub between_joined : (cs : List Corner) (begin mid end : ℕ) → begin ≤ mid → mid ≤ end → corners_between cs begin end ≡ corners_between cs begin mid ++ corners_between cs mid end
between_joined cs begin mid end h l =
    let n : end - begin ≡ (mid - begin) + (end - mid) = omega (arith, h, l) in
    let parts = take-add (mid - begin) (end - mid) (drop begin cs) in
    let at : drop (mid - begin) (drop begin cs) ≡ drop mid cs = drop-drop (mid - begin) begin cs ∙ ap (λ k. drop k cs) (let e : begin + (mid - begin) ≡ mid = omega (arith, h) in e) in
    ap (λ k. map position_of (take k (drop begin cs))) n
    ∙ ap (map position_of) (parts ∙ ap (λ (ys : List Corner). take (mid - begin) (drop begin cs) ++ take (end - mid) ys) at)
    ∙ map-append position_of (take (mid - begin) (drop begin cs)) (take (end - mid) (drop mid cs))

pub between_some : (cs : List Corner) (begin end : ℕ) → begin < end → end ≤ length cs → corners_between cs begin end ≡ corner_at cs begin ∷ corners_between cs (begin + 1) end
between_some cs begin end h l =
    let n : end - begin ≡ suc (end - (begin + 1)) = omega (arith, h) in
    let first = drop-cons cs begin zeros (omega (arith, h, l)) in
    let rest : drop begin cs ≡ get_or cs begin zeros ∷ drop (begin + 1) cs = rw add-one first in
    ap (λ k. map position_of (take k (drop begin cs))) n ∙ ap (λ (ys : List Corner). map position_of (take (suc (end - (begin + 1))) ys)) rest

pub between_none : (cs : List Corner) (begin end : ℕ) → end ≤ begin → corners_between cs begin end ≡ []
between_none cs begin end h = let n : end - begin ≡ 0 = omega (arith, h) in ap (λ k. map position_of (take k (drop begin cs))) n

in_between : (cs : List Corner) (begin end i : ℕ) (d : Position) → end ≤ length cs → i < length (corners_between cs begin end) → (get_or (corners_between cs begin end) i d ≡ corner_at cs (begin + i)) × (begin + i < end)
in_between cs begin end i d l h =
    let part = take (end - begin) (drop begin cs) in
    let long = length-map part position_of in
    let most = length-take (end - begin) (drop begin cs) in
    let small : i < end - begin = omega (arith, h, long, most) in
    (get_or-map position_of part i zeros d (omega (arith, h, long)) ∙ ap position_of (get_or-take (end - begin) (drop begin cs) i zeros small ∙ get_or-drop begin cs i zeros), omega (arith, small))

pub last_between : (a : Position) (cs : List Corner) (begin end : ℕ) → begin < end → end ≤ length cs → path_end a (corners_between cs begin end) ≡ corner_at cs (end - 1)
last_between a cs begin end h l =
    let part = take (end - begin) (drop begin cs) in
    let most = length-take (end - begin) (drop begin cs) in
    let rest = length-drop begin cs in
    let n : length part ≡ end - begin = omega (arith, h, l, most, rest) in
    let at : begin + (length part - 1) ≡ end - 1 = omega (arith, h, n) in
    path_last a part (omega (arith, h, n)) ∙ ap position_of (get_or-take (end - begin) (drop begin cs) (length part - 1) zeros (omega (arith, h, n)) ∙ get_or-drop begin cs (length part - 1) zeros ∙ ap (λ k. get_or cs k zeros) at)

-- ---- a path run by run
pub from_first : (a b : Position) (rest : List Position) → b ≡ a → (p : Position) → winding (path_edges a rest) p -ℤ winding (path_edges b rest) p ≡ pos 0
from_first a b rest is p = ap (λ (q : Position). winding (path_edges a rest) p -ℤ winding (path_edges q rest) p) is ∙ nothing_yet (winding (path_edges a rest) p)

pub run_step : (cs : List Corner) (next behind end : ℕ) (from to : Position) → next ≤ behind → behind ≤ end → to ≡ path_end from (corners_between cs next behind)
    → (p : Position) → winding (path_edges from (corners_between cs next end)) p ≡ winding (path_edges from (corners_between cs next behind)) p +ℤ winding (path_edges to (corners_between cs behind end)) p
run_step cs next behind end from to h l is p =
    ap (λ (qs : List Position). winding (path_edges from qs) p) (between_joined cs next behind end h l)
    ∙ path_joined from (corners_between cs next behind) (corners_between cs behind end) p
    ∙ ap (λ (q : Position). winding (path_edges from (corners_between cs next behind)) p +ℤ winding (path_edges q (corners_between cs behind end)) p) (sym is)

pub end_step : (cs : List Corner) (next behind end : ℕ) (from to : Position) → next ≤ behind → behind ≤ end → to ≡ path_end from (corners_between cs next behind)
    → path_end from (corners_between cs next end) ≡ path_end to (corners_between cs behind end)
end_step cs next behind end from to h l is =
    ap (path_end from) (between_joined cs next behind end h l) ∙ end_joined from (corners_between cs next behind) (corners_between cs behind end) ∙ ap (λ (q : Position). path_end q (corners_between cs behind end)) (sym is)

pub ring_joined : (cs : List Corner) (begin end : ℕ) (first last : Position) → begin < end → end ≤ length cs → first ≡ corner_at cs begin → last ≡ path_end (corner_at cs begin) (corners_between cs (begin + 1) end)
    → (p : Position) → winding (ring_edges (corners_between cs begin end)) p ≡ winding (path_edges (corner_at cs begin) (corners_between cs (begin + 1) end)) p +ℤ direction (record { a = last; b = first }) p
ring_joined cs begin end first last h l is at p =
    ring_closed (corners_between cs begin end) (corner_at cs begin) last (corners_between cs (begin + 1) end) (between_some cs begin end h l) at p
    ∙ ap (λ (q : Position). winding (path_edges (corner_at cs begin) (corners_between cs (begin + 1) end)) p +ℤ direction (record { a = last; b = q }) p) (sym is)

-- ---- one box more
abbrev pub Held : List Extent → ℕ → List Corner → ℕ → ℕ → ℕ → Type 0
Held boxes count cs start n end =
    (run i : ℕ) → run < count → start + run * n ≤ i → i ≤ start + (run + 1) * n → i < end → IsInClosedExtent (get_or boxes run nowhere) (corner_at cs i)

pub one_box_more : (boxes : List Extent) (count : ℕ) (cs : List Corner) (start n end first behind : ℕ) (box : Extent) → count < length boxes → first ≡ start + count * n → behind ≡ min (first + n + 1) end → end ≤ length cs
    → All (IsInClosedExtent box) (corners_between cs first behind) → Held boxes count cs start n end → Held (set boxes count box) (count + 1) cs start n end
one_box_more boxes count cs start n end first behind box room at ends within all held run i h low high before =
    elim (cases_lt run count) [
      | inl less ↦
          let other : run ≢ count = λ e. omega (arith, less, e) in
          subst (λ (b : Extent). IsInClosedExtent b (corner_at cs i)) (sym (get_or-set_other boxes count run box nowhere other)) (held run i less low high before)
      | inr more ↦
          let same : run ≡ count = omega (arith, more, h) in
          let times = ap (λ k. k * n) same in
          let next : (run + 1) * n ≡ run * n + n = grind arith in
          let from : first ≤ i = omega (arith, at, times, low) in
          let here : i - first < behind - first = omega (arith, at, times, next, high, before, ends, from) in
          let part = take (behind - first) (drop first cs) in
          let long = length-map part position_of in
          let most = length-take (behind - first) (drop first cs) in
          let rest = length-drop first cs in
          let inside : i - first < length (corners_between cs first behind) = omega (arith, here, long, most, rest, ends, within) in
          let there = in_between cs first behind (i - first) (position_of zeros) (omega (arith, ends, within)) inside in
          let place : first + (i - first) ≡ i = omega (arith, from) in
          let it = All-get_or (IsInClosedExtent box) (corners_between cs first behind) (i - first) (position_of zeros) inside all in
          subst (λ (b : Extent). IsInClosedExtent b (corner_at cs i)) (sym (ap (λ k. get_or (set boxes count box) k nowhere) same ∙ get_or-set_same boxes count box nowhere room))
          (subst (IsInClosedExtent box) (there.0 ∙ ap (corner_at cs) place) it)
    ]

-- no more than the boxes of a polygon
pub few_runs : (corners n : ℕ) → 0 < n → corners / 1024 + min 1 (corners % 1024) ≤ n → corners / n + min 1 (corners % n) ≤ 1024
few_runs corners n some long =
    let a = div_ceil_times corners 1024 (omega arith) in
    let b = div_ceil_times corners n some in
    let most : corners ≤ n * 1024 = omega (arith, a.0, long) in
    let times : 1025 * n ≡ n * 1024 + n = omega arith in
    let less : (corners / n + min 1 (corners % n)) * n < 1025 * n = let c = b.1 in omega (arith, c, most, times) in
    let few = lt_of_mul-lt-mul_right n less in
    omega (arith, few)

-- ---- a run whose box lies beside the strip
pub crossed_as_chord : (runs : Runs) (rings : Rings) (strip : Strip) (columns run next behind : ℕ) (from : Position) → AreRunsOf runs rings → run < runs.count → 1 ≤ next → next ≤ behind
    → rings.start + run * runs.length ≤ next - 1 → behind ≤ rings.start + (run + 1) * runs.length + 1 → behind ≤ end_of rings.start rings.ends.now → behind ≤ length rings.corners.now → from ≡ corner_at rings.corners.now (next - 1)
    → LiesBeside (box_of runs run) strip columns → (s row k : ℕ) → row < 64 → k < 8 * columns → IsCrossedAsChord from (corners_between rings.corners.now next behind) (strip_sample strip s row k)
crossed_as_chord runs rings strip columns run next behind from held known some rises begins ends last within is beside s row k h l =
    let box = box_of runs run in
    let cs = rings.corners.now in
    let first : IsInClosedExtent box from = subst (IsInClosedExtent box) (sym is) (held run (next - 1) known begins (omega (arith, rises, some, ends)) (omega (arith, rises, some, last))) in
    path_outside box from (corners_between cs next behind) (strip_sample strip s row k) first
    (All-from_get_or (IsInClosedExtent box) (corners_between cs next behind) from (λ i m.
    let at = in_between cs next behind i from within m in
    let small = at.1 in
    subst (IsInClosedExtent box) (sym at.0) (held run (next + i) known (omega (arith, begins, some)) (omega (arith, ends, small)) (omega (arith, last, small)))))
    (beside s row k h l)
