-- The flags of one column of blocks are zeros, and a polygon that was looked at is inside of the guard band.
use Rattle.std.proofs.Common.{◌≡◌, refl, arith, rules, ℕ, zero, suc, ◌<◌, [], ◌∷◌, length, slice_index}
use Rattle.polygons.specs.ManyRows.{row_of}
use Rattle.polygons.proofs.Filling.{zero_of}
use Rattle.worked_values.proofs.polygon.strip_of.Goals as goal

zeros : (column i : ℕ) → slice_index (row_of ((0 ∷ 0 ∷ 0 ∷ 0 ∷ 0 ∷ 0 ∷ 0 ∷ 0 ∷ 0 ∷ 0 ∷ 0 ∷ 0 ∷ 0 ∷ 0 ∷ 0 ∷ 0 ∷ 0 ∷ 0 ∷ 0 ∷ 0 ∷ 0 ∷ 0 ∷ 0 ∷ 0 ∷ 0 ∷ 0 ∷ 0 ∷ 0 ∷ 0 ∷ 0 ∷ 0 ∷ 0 ∷ []) ∷ []) column) i ≡ 0
zeros zero i = zero_of (0 ∷ 0 ∷ 0 ∷ 0 ∷ 0 ∷ 0 ∷ 0 ∷ 0 ∷ 0 ∷ 0 ∷ 0 ∷ 0 ∷ 0 ∷ 0 ∷ 0 ∷ 0 ∷ 0 ∷ 0 ∷ 0 ∷ 0 ∷ 0 ∷ 0 ∷ 0 ∷ 0 ∷ 0 ∷ 0 ∷ 0 ∷ 0 ∷ 0 ∷ 0 ∷ 0 ∷ 0 ∷ []) refl i
zeros (suc column) i = refl

pub cover_parts-requires-clause-flags : goal.cover_parts-requires-clause-flags
cover_parts-requires-clause-flags c = zeros

pub rings-rings-requires-clause-seen : goal.rings-rings-requires-clause-seen
rings-rings-requires-clause-seen c =
    let some : 0 < length c.in_ok-polygons.polygons.polygon_ends.now = omega (arith, c.count.ensures, c.if-count-eq0.false) in
    c.are_seen.ensures.seen (search rules) 0 some
