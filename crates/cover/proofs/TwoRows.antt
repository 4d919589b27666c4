-- An edge's function over the pixels of a block, in lanes.
use Rattle.std.proofs.Common.{◌≡◌, ◌↔◌, ◌≤◌, inl, inr, refl, sym, ap, ap₂, ◌∙◌, subst, arith, [], ◌∷◌, ℕ, ◌+◌, ◌-◌, ◌*◌, ◌/◌, ◌%◌, ◌^◌, ◌<◌, List, Bool, false, cond, length, get_or, map, ℤ, pos, ◌+ℤ◌, ◌*ℤ◌, ◌<ℤ◌, ◌≤ℤ◌, w32, w64, to_z, of_z, FitsSigned}
use Rattle.std.proofs.lemmas.Int.{ints, to_z-of_z}
use Rattle.std.proofs.lemmas.Simd.{bit_mask_l, mask_l-lt, Each1-from_get_or}
use Rattle.std.proofs.lemmas.List.{get_or-map}
use Rattle.std.proofs.lemmas.List.FromFn.{get_or-map-range_with_len}
use Rattle.std.proofs.lemmas.Nat.Bits.{bit_at_not}
use Rattle.std.specs.Int.{bit_at, bit_not, IsBitSet}
use Rattle.grid.specs.Bounds.{IsWithin}
use Rattle.grid.proofs.Bounds.{IsWithin-mul}
use Rattle.grid.proofs.Ring.{var, lit, plus, times, ring}
use lib.Lanes.{Each1, mask_l}
use lib.ListN.{length-map}
use Rattle.cover.specs.declared.edge.Edge.{Edge}
use Rattle.cover.specs.Block.{CanGrow, IsMaskSide, is_negative, growth, growths}
use Rattle.cover.specs.Edge.{grown}
use Rattle.cover.proofs.Words.{AreBits, joined, four_groups, passes_exactly}

-- ---- the growths to sixteen pixels of a square, row by row
pub record IsSixteenth (side k : ℕ) : Type 0 where
  pub column : k % side < 8
  pub row : k / side < 8

sixteenth : (side k : ℕ) → IsMaskSide side → k < 16 → IsSixteenth side k
sixteenth side k (inl e) lt = subst (λ n. IsSixteenth n k) (sym e) (record { column = omega arith; row = omega arith })
sixteenth side k (inr e) lt = subst (λ n. IsSixteenth n k) (sym e) (record { column = omega arith; row = omega arith })

growth_within : (side : ℕ) (right down : ℤ) (k : ℕ) → IsMaskSide side → IsWithin (2 ^ 25) right → IsWithin (2 ^ 25) down → k < 16 → IsWithin (2 ^ 29) (growth side right down k)
growth_within side right down k square r d lt =
    let place = sixteenth side k square lt in
    let column = place.column in
    let row = place.row in
    let across : IsWithin (2 ^ 28) (right *ℤ pos (k % side)) = IsWithin-mul right (pos (k % side)) (2 ^ 25) 8 r (record { low = omega (arith, ints); high = omega (arith, ints) }) in
    let along : IsWithin (2 ^ 28) (down *ℤ pos (k / side)) = IsWithin-mul down (pos (k / side)) (2 ^ 25) 8 d (record { low = omega (arith, ints); high = omega (arith, ints) }) in
    sum_within _ _ across along
  where
    sum_within : (m n : ℤ) → IsWithin (2 ^ 28) m → IsWithin (2 ^ 28) n → IsWithin (2 ^ 29) (m +ℤ n)
    sum_within m n h k = record { low = omega (arith, ints); high = omega (arith, ints) }

length_growths : (side : ℕ) (right down : ℤ) → length (growths side right down) ≡ 16
unfolding growths
length_growths side right down = refl

growth_at : (side : ℕ) (right down : ℤ) (k : ℕ) → k < 16 → get_or (growths side right down) k (pos 0) ≡ growth side right down k
unfolding growths
growth_at side right down k lt = get_or-map-range_with_len (growth side right down) 0 16 k k (pos 0) lt (omega arith)

each_growth : (P : ℤ → Type 0) (side : ℕ) (right down : ℤ) → ((k : ℕ) → k < 16 → P (growth side right down k)) → Each1 P (growths side right down)
each_growth P side right down h =
    Each1-from_get_or P (growths side right down) (pos 0)
    (λ i lt. let within : i < 16 = omega (arith, lt, length_growths side right down) in subst P (sym (growth_at side right down i within)) (h i within))

-- lanes that fit come back from their bits
back : (xs : List ℤ) → Each1 (FitsSigned w32) xs → map (to_z w32) (map (of_z w32) xs) ≡ xs
back [] fits = refl
back (x ∷ xs) fits = ap₂ (λ a l. a ∷ l) (to_z-of_z w32 x fits.0) (back xs fits.1)

-- lanes that are growths, and of what size they are
pub record AreGrowths (side : ℕ) (right down : ℤ) (lanes : List ℤ) : Type 0 where
  pub square : IsMaskSide side
  pub right_size : IsWithin (2 ^ 25) right
  pub down_size : IsWithin (2 ^ 25) down
  pub exact : lanes ≡ growths side right down

pub rows_of : (e : Edge) → AreGrowths 8 e.right e.down e.rows
rows_of e = record { square = inr refl; right_size = e.size.1; down_size = e.size.2; exact = e.exact }

same_lanes : {side : ℕ} {right down : ℤ} {lanes : List ℤ} → AreGrowths side right down lanes → map (to_z w32) (map (of_z w32) lanes) ≡ growths side right down
same_lanes {side} {right} {down} {lanes} h =
    ap (λ l. map (to_z w32) (map (of_z w32) l)) h.exact
    ∙ back (growths side right down) (each_growth (FitsSigned w32) side right down (λ k lt. let w = growth_within side right down k h.square h.right_size h.down_size lt in fits _ w))
  where
    fits : (z : ℤ) → IsWithin (2 ^ 29) z → FitsSigned w32 z
    fits z h = omega (arith, ints)

-- a number that is passed
abbrev pub bits32 : ℤ → ℤ
bits32 z = to_z w32 (of_z w32 z)

-- the lanes as the code forms them
abbrev times_right : ℤ → ℕ → ℤ
times_right right n = bits32 (pos n *ℤ bits32 right)

abbrev below_it : ℤ → ℤ → ℤ
below_it down z = bits32 (bits32 down +ℤ z)

times_is : (right : ℤ) (n : ℕ) → IsWithin (2 ^ 25) right → n < 8 → times_right right n ≡ pos n *ℤ right
times_is right n h lt =
    let same : bits32 right ≡ right = to_z-of_z w32 right (omega (arith, ints)) in
    let size : IsWithin (2 ^ 28) (pos n *ℤ right) = IsWithin-mul (pos n) right 8 (2 ^ 25) (record { low = omega (arith, ints); high = omega (arith, ints) }) h in
    ap (λ z. bits32 (pos n *ℤ z)) same ∙ to_z-of_z w32 (pos n *ℤ right) (fit _ size)
  where
    fit : (z : ℤ) → IsWithin (2 ^ 28) z → FitsSigned w32 z
    fit z w = omega (arith, ints)

below_is : (right down z : ℤ) (n : ℕ) → IsWithin (2 ^ 25) right → IsWithin (2 ^ 25) down → n < 8 → z ≡ pos n *ℤ right → below_it down z ≡ down +ℤ pos n *ℤ right
below_is right down z n r d lt e =
    let same : bits32 down ≡ down = to_z-of_z w32 down (omega (arith, ints)) in
    let size : IsWithin (2 ^ 28) (pos n *ℤ right) = IsWithin-mul (pos n) right 8 (2 ^ 25) (record { low = omega (arith, ints); high = omega (arith, ints) }) r in
    ap₂ (λ x y. bits32 (x +ℤ y)) same e ∙ to_z-of_z w32 (down +ℤ pos n *ℤ right) (fit _ size)
  where
    fit : (z : ℤ) → IsWithin (2 ^ 28) z → FitsSigned w32 (down +ℤ z)
    fit z w = omega (arith, ints)

pub two_rows_are : (right down : ℤ) → IsWithin (2 ^ 25) right → IsWithin (2 ^ 25) down
    → pos 0 ∷ bits32 right ∷ times_right right 2 ∷ times_right right 3 ∷ times_right right 4 ∷ times_right right 5 ∷ times_right right 6 ∷ times_right right 7
    ∷ bits32 down ∷ below_it down (bits32 right) ∷ below_it down (times_right right 2) ∷ below_it down (times_right right 3) ∷ below_it down (times_right right 4)
    ∷ below_it down (times_right right 5) ∷ below_it down (times_right right 6) ∷ below_it down (times_right right 7) ∷ [] ≡ growths 8 right down
unfolding growths
two_rows_are right down r d =
    let one : bits32 right ≡ right = to_z-of_z w32 right (omega (arith, ints)) in
    let under : bits32 down ≡ down = to_z-of_z w32 down (omega (arith, ints)) in
    let once : bits32 right ≡ pos 1 *ℤ right = one ∙ omega (arith, ints) in
    let e0 : pos 0 ≡ growth 8 right down 0 = omega (arith, ints) in
    let e1 : bits32 right ≡ growth 8 right down 1 = one ∙ omega (arith, ints) in
    let e2 : times_right right 2 ≡ growth 8 right down 2 = times_is right 2 r (omega arith) ∙ omega (arith, ints) in
    let e3 : times_right right 3 ≡ growth 8 right down 3 = times_is right 3 r (omega arith) ∙ omega (arith, ints) in
    let e4 : times_right right 4 ≡ growth 8 right down 4 = times_is right 4 r (omega arith) ∙ omega (arith, ints) in
    let e5 : times_right right 5 ≡ growth 8 right down 5 = times_is right 5 r (omega arith) ∙ omega (arith, ints) in
    let e6 : times_right right 6 ≡ growth 8 right down 6 = times_is right 6 r (omega arith) ∙ omega (arith, ints) in
    let e7 : times_right right 7 ≡ growth 8 right down 7 = times_is right 7 r (omega arith) ∙ omega (arith, ints) in
    let e8 : bits32 down ≡ growth 8 right down 8 = under ∙ omega (arith, ints) in
    let e9 : below_it down (bits32 right) ≡ growth 8 right down 9 = below_is right down (bits32 right) 1 r d (omega arith) once ∙ omega (arith, ints) in
    let e10 : below_it down (times_right right 2) ≡ growth 8 right down 10 = below_is right down _ 2 r d (omega arith) (times_is right 2 r (omega arith)) ∙ omega (arith, ints) in
    let e11 : below_it down (times_right right 3) ≡ growth 8 right down 11 = below_is right down _ 3 r d (omega arith) (times_is right 3 r (omega arith)) ∙ omega (arith, ints) in
    let e12 : below_it down (times_right right 4) ≡ growth 8 right down 12 = below_is right down _ 4 r d (omega arith) (times_is right 4 r (omega arith)) ∙ omega (arith, ints) in
    let e13 : below_it down (times_right right 5) ≡ growth 8 right down 13 = below_is right down _ 5 r d (omega arith) (times_is right 5 r (omega arith)) ∙ omega (arith, ints) in
    let e14 : below_it down (times_right right 6) ≡ growth 8 right down 14 = below_is right down _ 6 r d (omega arith) (times_is right 6 r (omega arith)) ∙ omega (arith, ints) in
    let e15 : below_it down (times_right right 7) ≡ growth 8 right down 15 = below_is right down _ 7 r d (omega arith) (times_is right 7 r (omega arith)) ∙ omega (arith, ints) in
    λ i. e0 i ∷ e1 i ∷ e2 i ∷ e3 i ∷ e4 i ∷ e5 i ∷ e6 i ∷ e7 i ∷ e8 i ∷ e9 i ∷ e10 i ∷ e11 i ∷ e12 i ∷ e13 i ∷ e14 i ∷ e15 i ∷ []

-- a lane of four rows, as the code forms it
pub record IsExactLane (r c d w : ℤ) : Type 0 where
  pub fits : FitsSigned w32 (bits32 (bits32 r *ℤ bits32 c) +ℤ bits32 (bits32 d *ℤ bits32 w))
  pub value : bits32 (bits32 (bits32 r *ℤ bits32 c) +ℤ bits32 (bits32 d *ℤ bits32 w)) ≡ r *ℤ c +ℤ d *ℤ w

growth_kept : (r c : ℤ) → IsWithin (2 ^ 25) r → IsWithin 4 c → (IsWithin (2 ^ 27) (r *ℤ c)) × (bits32 (bits32 r *ℤ bits32 c) ≡ r *ℤ c)
growth_kept r c h k =
    let size : IsWithin (2 ^ 27) (r *ℤ c) = IsWithin-mul r c (2 ^ 25) 4 h k in
    (size, (λ i. bits32 (to_z-of_z w32 r (omega (arith, ints, h)) i *ℤ to_z-of_z w32 c (omega (arith, ints, k)) i)) ∙ to_z-of_z w32 (r *ℤ c) (fit _ size))
  where
    fit : (z : ℤ) → IsWithin (2 ^ 27) z → FitsSigned w32 z
    fit z w = omega (arith, ints)

pub exact_lane : (r c d w : ℤ) → IsWithin (2 ^ 25) r → IsWithin 4 c → IsWithin (2 ^ 25) d → IsWithin 4 w → IsExactLane r c d w
exact_lane r c d w hr hc hd hw =
    let first = growth_kept r c hr hc in
    let second = growth_kept d w hd hw in
    let same : bits32 (bits32 r *ℤ bits32 c) +ℤ bits32 (bits32 d *ℤ bits32 w) ≡ r *ℤ c +ℤ d *ℤ w = λ i. first.1 i +ℤ second.1 i in
    let fits : FitsSigned w32 (r *ℤ c +ℤ d *ℤ w) = fit _ _ first.0 second.0 in
    record { fits = rw same fits; value = ap bits32 same ∙ to_z-of_z w32 (r *ℤ c +ℤ d *ℤ w) fits }
  where
    fit : (y z : ℤ) → IsWithin (2 ^ 27) y → IsWithin (2 ^ 27) z → FitsSigned w32 (y +ℤ z)
    fit y z v w = omega (arith, ints)

-- and as it is handed on
lane_kept : (right down z : ℤ) (m n : ℕ) → IsWithin (2 ^ 25) right → IsWithin (2 ^ 25) down → m < 4 → n < 4 → z ≡ bits32 right *ℤ pos m +ℤ bits32 down *ℤ pos n → bits32 z ≡ right *ℤ pos m +ℤ down *ℤ pos n
lane_kept right down z m n r d lm ln is =
    let same : z ≡ right *ℤ pos m +ℤ down *ℤ pos n = is ∙ (λ i. to_z-of_z w32 right (omega (arith, ints, r)) i *ℤ pos m +ℤ to_z-of_z w32 down (omega (arith, ints, d)) i *ℤ pos n) in
    let across : IsWithin (2 ^ 27) (right *ℤ pos m) = IsWithin-mul right (pos m) (2 ^ 25) 4 r (record { low = omega (arith, ints); high = omega (arith, ints) }) in
    let along : IsWithin (2 ^ 27) (down *ℤ pos n) = IsWithin-mul down (pos n) (2 ^ 25) 4 d (record { low = omega (arith, ints); high = omega (arith, ints) }) in
    ap bits32 same ∙ to_z-of_z w32 (right *ℤ pos m +ℤ down *ℤ pos n) (fit _ _ across along)
  where
    fit : (y z : ℤ) → IsWithin (2 ^ 27) y → IsWithin (2 ^ 27) z → FitsSigned w32 (y +ℤ z)
    fit y z v w = omega (arith, ints)

module _ (right down : ℤ) (r : IsWithin (2 ^ 25) right) (d : IsWithin (2 ^ 25) down) where
  abbrev IsLane : ℤ → ℕ → ℕ → Type 0
  IsLane z m n = z ≡ bits32 right *ℤ pos m +ℤ bits32 down *ℤ pos n

  lane_is : (z : ℤ) (m n : ℕ) → m < 4 → n < 4 → IsLane z m n → bits32 z ≡ right *ℤ pos m +ℤ down *ℤ pos n
  lane_is z m n lm ln is = lane_kept right down z m n r d lm ln is

  pub four_rows_are : (z0 z1 z2 z3 z4 z5 z6 z7 z8 z9 z10 z11 z12 z13 z14 z15 : ℤ)
      → IsLane z0 0 0 → IsLane z1 1 0 → IsLane z2 2 0 → IsLane z3 3 0 → IsLane z4 0 1 → IsLane z5 1 1 → IsLane z6 2 1 → IsLane z7 3 1
      → IsLane z8 0 2 → IsLane z9 1 2 → IsLane z10 2 2 → IsLane z11 3 2 → IsLane z12 0 3 → IsLane z13 1 3 → IsLane z14 2 3 → IsLane z15 3 3
      → bits32 z0 ∷ bits32 z1 ∷ bits32 z2 ∷ bits32 z3 ∷ bits32 z4 ∷ bits32 z5 ∷ bits32 z6 ∷ bits32 z7 ∷ bits32 z8 ∷ bits32 z9 ∷ bits32 z10 ∷ bits32 z11 ∷ bits32 z12 ∷ bits32 z13 ∷ bits32 z14 ∷ bits32 z15 ∷ [] ≡ growths 4 right down
  unfolding growths
  four_rows_are z0 z1 z2 z3 z4 z5 z6 z7 z8 z9 z10 z11 z12 z13 z14 z15 h0 h1 h2 h3 h4 h5 h6 h7 h8 h9 h10 h11 h12 h13 h14 h15 =
      let e0 : bits32 z0 ≡ growth 4 right down 0 = lane_is z0 0 0 (omega arith) (omega arith) h0 in
      let e1 : bits32 z1 ≡ growth 4 right down 1 = lane_is z1 1 0 (omega arith) (omega arith) h1 in
      let e2 : bits32 z2 ≡ growth 4 right down 2 = lane_is z2 2 0 (omega arith) (omega arith) h2 in
      let e3 : bits32 z3 ≡ growth 4 right down 3 = lane_is z3 3 0 (omega arith) (omega arith) h3 in
      let e4 : bits32 z4 ≡ growth 4 right down 4 = lane_is z4 0 1 (omega arith) (omega arith) h4 in
      let e5 : bits32 z5 ≡ growth 4 right down 5 = lane_is z5 1 1 (omega arith) (omega arith) h5 in
      let e6 : bits32 z6 ≡ growth 4 right down 6 = lane_is z6 2 1 (omega arith) (omega arith) h6 in
      let e7 : bits32 z7 ≡ growth 4 right down 7 = lane_is z7 3 1 (omega arith) (omega arith) h7 in
      let e8 : bits32 z8 ≡ growth 4 right down 8 = lane_is z8 0 2 (omega arith) (omega arith) h8 in
      let e9 : bits32 z9 ≡ growth 4 right down 9 = lane_is z9 1 2 (omega arith) (omega arith) h9 in
      let e10 : bits32 z10 ≡ growth 4 right down 10 = lane_is z10 2 2 (omega arith) (omega arith) h10 in
      let e11 : bits32 z11 ≡ growth 4 right down 11 = lane_is z11 3 2 (omega arith) (omega arith) h11 in
      let e12 : bits32 z12 ≡ growth 4 right down 12 = lane_is z12 0 3 (omega arith) (omega arith) h12 in
      let e13 : bits32 z13 ≡ growth 4 right down 13 = lane_is z13 1 3 (omega arith) (omega arith) h13 in
      let e14 : bits32 z14 ≡ growth 4 right down 14 = lane_is z14 2 3 (omega arith) (omega arith) h14 in
      let e15 : bits32 z15 ≡ growth 4 right down 15 = lane_is z15 3 3 (omega arith) (omega arith) h15 in
      λ i. e0 i ∷ e1 i ∷ e2 i ∷ e3 i ∷ e4 i ∷ e5 i ∷ e6 i ∷ e7 i ∷ e8 i ∷ e9 i ∷ e10 i ∷ e11 i ∷ e12 i ∷ e13 i ∷ e14 i ∷ e15 i ∷ []

-- the lanes that an edge keeps, as the code forms them
pub rows_kept : (side : ℕ) (xs : List ℤ) (right down : ℤ) → IsMaskSide side → IsWithin (2 ^ 25) right → IsWithin (2 ^ 25) down → xs ≡ growths side (to_z w32 (of_z w32 (to_z w64 (of_z w64 right)))) (to_z w32 (of_z w32 (to_z w64 (of_z w64 down))))
    → map (to_z w32) (map (of_z w32) xs) ≡ growths side (to_z w64 (of_z w64 right)) (to_z w64 (of_z w64 down))
rows_kept side xs right down square r d is =
    let r32 : to_z w32 (of_z w32 right) ≡ right = to_z-of_z w32 right (omega (arith, ints)) in
    let d32 : to_z w32 (of_z w32 down) ≡ down = to_z-of_z w32 down (omega (arith, ints)) in
    let r64 : to_z w64 (of_z w64 right) ≡ right = to_z-of_z w64 right (omega (arith, ints)) in
    let d64 : to_z w64 (of_z w64 down) ≡ down = to_z-of_z w64 down (omega (arith, ints)) in
    let same : xs ≡ growths side right down = is ∙ ap₂ (growths side) (ap (λ z. to_z w32 (of_z w32 z)) r64 ∙ r32) (ap (λ z. to_z w32 (of_z w32 z)) d64 ∙ d32) in
    ap (λ l. map (to_z w32) (map (of_z w32) l)) same
    ∙ back (growths side right down) (each_growth (FitsSigned w32) side right down (λ k lt. let w = growth_within side right down k square r d lt in fit _ w))
    ∙ sym (ap₂ (growths side) r64 d64)
  where
    fit : (z : ℤ) → IsWithin (2 ^ 29) z → FitsSigned w32 z
    fit z w = omega (arith, ints)

-- ---- how far a lane is moved
abbrev pub IsMove : ℤ → Type 0
IsMove = IsWithin (2 ^ 30 + 2 ^ 28)

pub can_grow : {side : ℕ} {right down : ℤ} {lanes : List ℤ} → AreGrowths side right down lanes → (by by' : ℤ) → IsMove by → by' ≡ to_z w32 (of_z w32 by) → CanGrow (map (to_z w32) (map (of_z w32) lanes)) by'
can_grow {side} {right} {down} {lanes} g by by' h is =
    let same : by' ≡ by = is ∙ to_z-of_z w32 by (omega (arith, ints)) in
    subst (λ (l : List ℤ). CanGrow l by') (sym (same_lanes g))
    (subst (λ (z : ℤ). CanGrow (growths side right down) z) (sym same) (record {
      long = length_growths side right down;
      fit = each_growth (FitsSigned w32) side right down (λ k lt. let w = growth_within side right down k g.square g.right_size g.down_size lt in fit _ w);
      sums = each_growth (λ v. FitsSigned w32 (v +ℤ by)) side right down (λ k lt. let w = growth_within side right down k g.square g.right_size g.down_size lt in sum_fits _ w);
    }))
  where
    fit : (z : ℤ) → IsWithin (2 ^ 29) z → FitsSigned w32 z
    fit z w = omega (arith, ints)

    sum_fits : (z : ℤ) → IsWithin (2 ^ 29) z → FitsSigned w32 (z +ℤ by)
    sum_fits z w = omega (arith, ints)

-- the moves of a block's rows, as the code forms them
abbrev pub move_once : ℤ → ℤ → ℤ
move_once first below = bits32 first +ℤ bits32 below

abbrev pub move_by : ℕ → ℤ → ℤ → ℤ
move_by n first below = bits32 first +ℤ bits32 (pos n *ℤ bits32 below)

pub record IsStart (at first : ℤ) : Type 0 where
  pub low : (pos 256 *ℤ first) ≤ℤ at
  pub high : at <ℤ (pos 256 *ℤ first +ℤ pos 256)
  pub size : IsWithin (2 ^ 30) first

pub start_is : (at first : ℤ) → IsWithin (2 ^ 38) at → (pos 256 *ℤ first) ≤ℤ to_z w64 (of_z w64 at) → to_z w64 (of_z w64 at) <ℤ (pos 256 *ℤ first +ℤ pos 256) → IsStart at first
start_is at first h low high =
    let same : to_z w64 (of_z w64 at) ≡ at = to_z-of_z w64 at (omega (arith, ints)) in
    bounded (subst (λ (z : ℤ). (pos 256 *ℤ first) ≤ℤ z) same low) (subst (λ (z : ℤ). z <ℤ (pos 256 *ℤ first +ℤ pos 256)) same high)
  where
    bounded : (pos 256 *ℤ first) ≤ℤ at → at <ℤ (pos 256 *ℤ first +ℤ pos 256) → IsStart at first
    bounded low high = record { low = low; high = high; size = record { low = omega (arith, ints); high = omega (arith, ints) } }

pub move_none : (first : ℤ) → IsWithin (2 ^ 30) first → IsMove first
move_none first h = record { low = omega (arith, ints); high = omega (arith, ints) }

-- each move is what it reads as
pub record IsMoveTo (first below by : ℤ) (n : ℕ) : Type 0 where
  pub size : IsMove by
  pub is : by ≡ first +ℤ pos n *ℤ below

pub one_move : (first below : ℤ) → IsWithin (2 ^ 30) first → IsWithin (2 ^ 26) below → IsMoveTo first below (move_once first below) 1
one_move first below h k =
    let f : bits32 first ≡ first = to_z-of_z w32 first (omega (arith, ints)) in
    let b : bits32 below ≡ below = to_z-of_z w32 below (omega (arith, ints)) in
    record { size = record { low = omega (arith, ints); high = omega (arith, ints) }; is = omega (arith, ints) }

pub two_moves : (first below : ℤ) → IsWithin (2 ^ 30) first → IsWithin (2 ^ 26) below → IsMoveTo first below (move_by 2 first below) 2
two_moves first below h k =
    let f : bits32 first ≡ first = to_z-of_z w32 first (omega (arith, ints)) in
    let b : bits32 below ≡ below = to_z-of_z w32 below (omega (arith, ints)) in
    let m : bits32 (pos 2 *ℤ bits32 below) ≡ pos 2 *ℤ below = ap (λ z. bits32 (pos 2 *ℤ z)) b ∙ to_z-of_z w32 (pos 2 *ℤ below) (omega (arith, ints)) in
    sum (bits32 first) _ f m
  where
    sum : (x y : ℤ) → x ≡ first → y ≡ pos 2 *ℤ below → IsMoveTo first below (x +ℤ y) 2
    sum x y e d = record { size = record { low = omega (arith, ints); high = omega (arith, ints) }; is = omega (arith, ints) }

pub three_moves : (first below : ℤ) → IsWithin (2 ^ 30) first → IsWithin (2 ^ 26) below → IsMoveTo first below (move_by 3 first below) 3
three_moves first below h k =
    let f : bits32 first ≡ first = to_z-of_z w32 first (omega (arith, ints)) in
    let b : bits32 below ≡ below = to_z-of_z w32 below (omega (arith, ints)) in
    let m : bits32 (pos 3 *ℤ bits32 below) ≡ pos 3 *ℤ below = ap (λ z. bits32 (pos 3 *ℤ z)) b ∙ to_z-of_z w32 (pos 3 *ℤ below) (omega (arith, ints)) in
    sum (bits32 first) _ f m
  where
    sum : (x y : ℤ) → x ≡ first → y ≡ pos 3 *ℤ below → IsMoveTo first below (x +ℤ y) 3
    sum x y e d = record { size = record { low = omega (arith, ints); high = omega (arith, ints) }; is = omega (arith, ints) }

-- ---- the bits of two rows
abbrev pub bit_of : ℤ → ℕ
bit_of z = cond (is_negative z) 1 0

-- the lanes of an edge, moved, as the code forms them
abbrev pub IsMaskOf : List ℤ → ℤ → ℕ → Type 0
IsMaskOf lanes by n = n ≡ mask_l (map (λ v. is_negative (v +ℤ by)) (map (to_z w32) (map (of_z w32) lanes)))

pub bits_of_rows : {side : ℕ} {right down : ℤ} {lanes : List ℤ} → AreGrowths side right down lanes → (n : ℕ) (by by' : ℤ) (want : ℕ → ℕ) → IsMove by → by' ≡ to_z w32 (of_z w32 by)
    → IsMaskOf lanes by' n
    → ((j : ℕ) → j < 16 → bit_of (growth side right down j +ℤ by) ≡ want j)
    → AreBits want 16 n
bits_of_rows {side} {right} {down} {lanes} g n by by' want h same is wants =
    let to : by' ≡ by = same ∙ to_z-of_z w32 by (omega (arith, ints)) in
    let test : ℤ → Bool = λ v. is_negative (v +ℤ by) in
    let mask : n ≡ mask_l (map test (growths side right down)) = is ∙ (λ i. mask_l (map (λ v. is_negative (v +ℤ to i)) (same_lanes g i))) in
    let long : length (map test (growths side right down)) ≡ 16 = length-map (growths side right down) test ∙ length_growths side right down in
    record {
      low = omega (arith, mask, long, mask_l-lt (map test (growths side right down)), ap (λ k. 2 ^ k) long);
      bits = λ j lt.
          ap (λ m. bit_at m j) mask ∙ bit_mask_l (map test (growths side right down)) j
          ∙ ap (λ b. cond b 1 0) (get_or-map test (growths side right down) j (pos 0) false (omega (arith, lt, length_growths side right down)) ∙ ap test (growth_at side right down j lt))
          ∙ wants j lt;
    }

-- ---- the whole block, from where the function by 256 is `first`
abbrev pub wanted : ℕ → Edge → ℤ → ℕ → ℕ
wanted side e first k = bit_of (growth side e.right e.down k +ℤ first)

next_rows : (e : Edge) (first by : ℤ) (rows j : ℕ) → by ≡ first +ℤ pos rows *ℤ (pos 2 *ℤ e.down) → bit_of (growth 8 e.right e.down j +ℤ by) ≡ wanted 8 e first (16 * rows + j)
next_rows e first by rows j is =
    let column : (16 * rows + j) % 8 ≡ j % 8 = omega arith in
    let row : (16 * rows + j) / 8 ≡ j / 8 + 2 * rows = omega arith in
    ap bit_of (ap (λ z. growth 8 e.right e.down j +ℤ z) is ∙ ring (e.right ∷ e.down ∷ pos (j % 8) ∷ pos (j / 8) ∷ first ∷ pos rows ∷ [])
    (plus (plus (times (var 0) (var 2)) (times (var 1) (var 3))) (plus (var 4) (times (var 5) (times (lit (pos 2)) (var 1)))))
    (plus (plus (times (var 0) (var 2)) (times (var 1) (plus (var 3) (times (lit (pos 2)) (var 5))))) (var 4)) refl
    ∙ sym (ap₂ (λ m n. (e.right *ℤ pos m +ℤ e.down *ℤ pos n) +ℤ first) column row))

pub here : (e : Edge) (at : ℤ) (row column : ℕ) → grown e at (256 * column) (256 * row) ≡ at +ℤ pos 256 *ℤ (e.right *ℤ pos column +ℤ e.down *ℤ pos row)
here e at row column =
    let step = lit (pos 256) in
    ring (at ∷ e.right ∷ e.down ∷ pos column ∷ pos row ∷ [])
    (plus (plus (var 0) (times (var 1) (times step (var 3)))) (times (var 2) (times step (var 4))))
    (plus (var 0) (times step (plus (times (var 1) (var 3)) (times (var 2) (var 4))))) refl

-- a sum of multiples of 256 has the sign of its 256th, rounded down
same_sign : (at first m : ℤ) → (pos 256 *ℤ first) ≤ℤ at → at <ℤ (pos 256 *ℤ first +ℤ pos 256) → (pos 0 ≤ℤ (m +ℤ first)) ↔ (pos 0 ≤ℤ (at +ℤ pos 256 *ℤ m))
same_sign at first m low high = (λ h. omega (arith, ints), λ h. omega (arith, ints))

-- the pixel in a row and a column of a square of pixels, row by row
pub record IsPlace (side k row column bits : ℕ) : Type 0 where
  pub below : k < bits
  pub across : k % side ≡ column
  pub along : k / side ≡ row

pub block_bit : (side : ℕ) (e : Edge) (at first : ℤ) (bits outside k row column : ℕ) → (pos 256 *ℤ first) ≤ℤ at → at <ℤ (pos 256 *ℤ first +ℤ pos 256)
    → AreBits (wanted side e first) bits outside → outside < 2 ^ 64 → bits ≤ 64 → IsPlace side k row column bits
    → IsBitSet (bit_not w64 outside) k ↔ (pos 0 ≤ℤ grown e at (256 * column) (256 * row))
block_bit side e at first bits outside k row column low high are fits few place =
    let m = e.right *ℤ pos column +ℤ e.down *ℤ pos row in
    let value : growth side e.right e.down k ≡ m = λ i. e.right *ℤ pos (place.across i) +ℤ e.down *ℤ pos (place.along i) in
    let bit : bit_at (bit_not w64 outside) k ≡ 1 - bit_of (m +ℤ first) = bit_at_not w64 outside k fits (omega (arith, place.below, few)) ∙ ap (λ b. 1 - b) (are.bits k place.below ∙ ap (λ z. bit_of (z +ℤ first)) value) in
    let set = passes_exactly (bit_not w64 outside) k (m +ℤ first) bit in
    let sign = same_sign at first m low high in
    let there = here e at row column in
    (λ s. rw there (sign.0 (set.0 s)), λ h. set.1 (sign.1 (rw there at h)))

-- the four masks of a block together
pub block_is : (e : Edge) (at first below : ℤ) (a b c d : ℕ) → IsStart at first → below ≡ pos 2 *ℤ e.down → IsWithin (2 ^ 26) below
    → IsMaskOf e.rows (bits32 first) a → IsMaskOf e.rows (bits32 (move_once first below)) b → IsMaskOf e.rows (bits32 (move_by 2 first below)) c → IsMaskOf e.rows (bits32 (move_by 3 first below)) d
    → (row column : ℕ) → row < 8 → column < 8
    → IsBitSet (bit_not w64 (joined (joined (joined a b 16) c 32) d 48)) (8 * row + column) ↔ (pos 0 ≤ℤ grown e at (256 * column) (256 * row))
block_is e at first below a b c d start is size p q r s row column lt within =
    let rows = rows_of e in
    let once = one_move first below start.size size in
    let twice = two_moves first below start.size size in
    let thrice = three_moves first below start.size size in
    let to : (n : ℕ) → first +ℤ pos n *ℤ below ≡ first +ℤ pos n *ℤ (pos 2 *ℤ e.down) = λ n. ap (λ z. first +ℤ pos n *ℤ z) is in
    let bits = four_groups (wanted 8 e first) a b c d
    (bits_of_rows rows a first _ (wanted 8 e first) (move_none first start.size) refl p (λ j l. refl))
    (bits_of_rows rows b _ _ (λ j. wanted 8 e first (16 + j)) once.size refl q (λ j l. next_rows e first _ 1 j (once.is ∙ to 1)))
    (bits_of_rows rows c _ _ (λ j. wanted 8 e first (32 + j)) twice.size refl r (λ j l. next_rows e first _ 2 j (twice.is ∙ to 2)))
    (bits_of_rows rows d _ _ (λ j. wanted 8 e first (48 + j)) thrice.size refl s (λ j l. next_rows e first _ 3 j (thrice.is ∙ to 3))) in
    block_bit 8 e at first 64 _ (8 * row + column) row column start.low start.high bits bits.low (omega arith) (record { below = omega (arith, lt, within); across = omega (arith, within); along = omega (arith, within) })

-- the mask of four rows of four pixels
pub four_rows_of : (e : Edge) (lanes : List ℤ) → lanes ≡ growths 4 e.right e.down → AreGrowths 4 e.right e.down lanes
four_rows_of e lanes exact = record { square = inl refl; right_size = e.size.1; down_size = e.size.2; exact = exact }

pub patch_is : (e : Edge) (at first : ℤ) (lanes : List ℤ) (a : ℕ) → lanes ≡ growths 4 e.right e.down → IsStart at first → IsMaskOf lanes (bits32 first) a
    → (row column : ℕ) → row < 4 → column < 4 → IsBitSet (bit_not w64 a) (4 * row + column) ↔ (pos 0 ≤ℤ grown e at (256 * column) (256 * row))
patch_is e at first lanes a exact start p row column lt within =
    let bits = bits_of_rows (four_rows_of e lanes exact) a first _ (wanted 4 e first) (move_none first start.size) refl p (λ j l. refl) in
    block_bit 4 e at first 16 _ (4 * row + column) row column start.low start.high bits (omega (arith, bits.low)) (omega arith) (record { below = omega (arith, lt, within); across = omega (arith, within); along = omega (arith, within) })

-- the bits of a square by the number of pixels of a side
pub by_side : (side n word : ℕ) (P : ℕ → ℕ → Type 0) → side ≡ n → ((row column : ℕ) → row < n → column < n → (IsBitSet word (n * row + column) ↔ P row column))
    → (row column : ℕ) → row < side → column < side → (IsBitSet word (side * row + column) ↔ P row column)
by_side side n word P e h = subst (λ (k : ℕ). (row column : ℕ) → row < k → column < k → (IsBitSet word (k * row + column) ↔ P row column)) (sym e) h
