use Rattle.std.proofs.Common.{◌≡◌, ◌∙◌, sym, ap, arith, ℕ, ◌^◌, ◌<◌, ◌≤◌, ℤ, pos, negsuc, nat_abs, ◌+ℤ◌, ◌-ℤ◌, ◌*ℤ◌, neg_ℤ, ◌<ℤ◌, ◌≤ℤ◌, w32, w64, to_z, of_z, FitsSigned}
use Rattle.std.proofs.lemmas.Int.{ints, clamps}
use Rattle.std.specs.Int.{int_div_euclid, int_rem_euclid, int_max, int_min}
use Rattle.grid.specs.Bounds.{IsWithin}
use Rattle.grid.specs.Position.{Position, IsInBand}
use Rattle.grid.specs.Edge.{side}
use Rattle.grid.proofs.Bounds.{passed}
use Rattle.polygons.specs.declared.edge.Edge.{Edge}
use Rattle.polygons.specs.declared.strip.Strip.{Strip}
use Rattle.polygons.specs.Screen.{IsPixelInBand}
use Rattle.polygons.specs.Columns.{along}
use Rattle.polygons.specs.Walking.{corner_of}
use Rattle.polygons.proofs.Columns.{from_zero}
use Rattle.polygons.proofs.Division.{division}
use Rattle.polygons.proofs.Exact.{negated64, difference64, times_256}
use Rattle.polygons.proofs.walk.Descent.of.Goals as goal

-- ---- the row of pixels in which an edge begins, or the first of the strip
record IsBegin (row y b : ℤ) : Type 0 where
  at_row : row ≤ℤ b
  low : negsuc 32767 ≤ℤ b
  high : b ≤ℤ pos 32767
  above : (n : ℕ) → (row +ℤ pos n) <ℤ b → (pos 256 *ℤ (row +ℤ pos n) +ℤ pos 256) ≤ℤ y

begin : (row y z q b : ℤ) → IsPixelInBand row → IsInBand z → z ≡ y → q ≡ int_div_euclid (to_z w32 (of_z w32 z)) (pos 256) → b ≡ int_max (to_z w32 (of_z w32 row)) (to_z w32 (of_z w32 q)) → IsBegin row y b
begin row y z q b k h e is_q is_b =
    let q_is : q ≡ int_div_euclid y (pos 256) = is_q ∙ ap (λ x. int_div_euclid x (pos 256)) (passed z y h e) in
    let law = division y (pos 256) (omega (arith, ints)) in
    by_numbers (int_div_euclid y (pos 256)) (int_rem_euclid y (pos 256)) q_is law.sum law.low law.high
  where
    by_numbers : (d r : ℤ) → q ≡ d → y ≡ d *ℤ pos 256 +ℤ r → pos 0 ≤ℤ r → r <ℤ pos 256 → IsBegin row y b
    by_numbers d r q_is sum low high =
        let r_is : to_z w32 (of_z w32 row) ≡ row = omega (arith, ints) in
        let d_is : to_z w32 (of_z w32 q) ≡ d = omega (arith, ints) in
        let b_is : b ≡ int_max row d = is_b ∙ (λ i. int_max (r_is i) (d_is i)) in
        record { at_row = omega (arith, ints, clamps); low = omega (arith, ints, clamps); high = omega (arith, ints, clamps); above = λ n l. omega (arith, ints, clamps) }

-- ---- the row from which on it has ended
record IsEnd (row y : ℤ) (m : ℕ) : Type 0 where
  most : m ≤ 64
  rows : (n : ℕ) → m ≤ n → n < 64 → y ≤ℤ (pos 256 *ℤ (row +ℤ pos n))

end_fits : (row z q : ℤ) → IsPixelInBand row → IsInBand z → q ≡ int_div_euclid (to_z w32 (of_z w32 z)) (pos 256) → FitsSigned w32 (to_z w32 (of_z w32 (to_z w32 (of_z w32 q) +ℤ pos 1)) -ℤ to_z w32 (of_z w32 row))
end_fits row z q k h is =
    let law = division (to_z w32 (of_z w32 z)) (pos 256) (omega (arith, ints)) in
    by_numbers (int_div_euclid (to_z w32 (of_z w32 z)) (pos 256)) (int_rem_euclid (to_z w32 (of_z w32 z)) (pos 256)) is law.sum law.low law.high
  where
    by_numbers : (d r : ℤ) → q ≡ d → to_z w32 (of_z w32 z) ≡ d *ℤ pos 256 +ℤ r → pos 0 ≤ℤ r → r <ℤ pos 256 → FitsSigned w32 (to_z w32 (of_z w32 (to_z w32 (of_z w32 q) +ℤ pos 1)) -ℤ to_z w32 (of_z w32 row))
    by_numbers d r q_is sum low high = omega (arith, ints)

end_of : (row y z q x : ℤ) → IsPixelInBand row → IsInBand z → z ≡ y → q ≡ int_div_euclid (to_z w32 (of_z w32 z)) (pos 256)
    → x ≡ int_max (pos 0) (int_min (to_z w32 (of_z w32 (to_z w32 (of_z w32 (to_z w32 (of_z w32 q) +ℤ pos 1)) -ℤ to_z w32 (of_z w32 row)))) (pos 64)) → IsEnd row y (nat_abs (to_z w32 (of_z w32 x)))
end_of row y z q x k h e is_q is_x =
    let q_is : q ≡ int_div_euclid y (pos 256) = is_q ∙ ap (λ w. int_div_euclid w (pos 256)) (passed z y h e) in
    let law = division y (pos 256) (omega (arith, ints)) in
    by_numbers (int_div_euclid y (pos 256)) (int_rem_euclid y (pos 256)) q_is law.sum law.low law.high
  where
    of_cut : (d r n x : ℤ) → y ≡ d *ℤ pos 256 +ℤ r → pos 0 ≤ℤ r → r <ℤ pos 256 → n ≡ (d +ℤ pos 1) -ℤ row → x ≡ int_max (pos 0) (int_min n (pos 64)) → IsEnd row y (nat_abs (to_z w32 (of_z w32 x)))
    of_cut d r n x sum low high is_n is_x = record { most = omega (arith, ints, clamps); rows = λ m l o. omega (arith, ints, clamps) }

    by_numbers : (d r : ℤ) → q ≡ d → y ≡ d *ℤ pos 256 +ℤ r → pos 0 ≤ℤ r → r <ℤ pos 256 → IsEnd row y (nat_abs (to_z w32 (of_z w32 x)))
    by_numbers d r q_is sum low high =
        of_cut d r (to_z w32 (of_z w32 (to_z w32 (of_z w32 (to_z w32 (of_z w32 q) +ℤ pos 1)) -ℤ to_z w32 (of_z w32 row)))) x sum low high (omega (arith, ints)) is_x

-- ---- the corner
first_is : (row b : ℤ) → row ≤ℤ b → IsPixelInBand row → b ≤ℤ pos 32767 → pos (nat_abs (to_z w32 (of_z w32 (to_z w32 (of_z w32 b) -ℤ to_z w32 (of_z w32 row))))) ≡ b -ℤ row
first_is row b l k m = omega (arith, ints)

corner_is : (strip : Strip) (b : ℤ) (n : ℕ) (p : Position) → IsPixelInBand strip.column → negsuc 32767 ≤ℤ b → b ≤ℤ pos 32767 → pos n ≡ b -ℤ strip.row
    → p ≡ record { x = to_z w32 (of_z w32 (pos 256 *ℤ to_z w32 (of_z w32 strip.column))); y = to_z w32 (of_z w32 (pos 256 *ℤ to_z w32 (of_z w32 b))) } → p ≡ corner_of strip n
corner_is strip b n p k l m is e =
    let x : to_z w32 (of_z w32 (pos 256 *ℤ to_z w32 (of_z w32 strip.column))) ≡ pos 256 *ℤ strip.column = omega (arith, ints) in
    let y : to_z w32 (of_z w32 (pos 256 *ℤ to_z w32 (of_z w32 b))) ≡ pos 256 *ℤ (strip.row +ℤ pos n) = omega (arith, ints) in
    e ∙ (λ i. record { x = x i; y = y i })

-- ---- the edge function there
height_range : (h x y : ℤ) → IsInBand x → IsInBand y → h ≡ to_z w32 (of_z w32 (to_z w32 (of_z w32 x) -ℤ to_z w32 (of_z w32 y))) → IsWithin (2 ^ 25) h
height_range h x y k l e = record { low = omega (arith, ints); high = omega (arith, ints) }

times_size : (h : ℤ) → IsWithin (2 ^ 25) h → to_z w64 (of_z w64 (pos 256 *ℤ to_z w64 (of_z w64 h))) ≤ℤ pos (2 ^ 33)
times_size h k = omega (arith, ints)

small_height : (h u v : ℤ) → h ≡ u -ℤ v → IsInBand u → IsInBand v → IsWithin (2 ^ 25) h
small_height h u v e k l = record { low = omega (arith, ints); high = omega (arith, ints) }

small_side : (s t : ℤ) → s ≡ t → IsWithin (2 ^ 48) s → IsWithin (2 ^ 50) s
small_side s t e h = record { low = omega (arith, ints); high = omega (arith, ints) }

same64 : (z : ℤ) → IsWithin (2 ^ 50) z → to_z w64 (of_z w64 z) ≡ z
same64 z h = omega (arith, ints)

small_part : (r h : ℤ) → IsWithin (2 ^ 25) h → pos 0 ≤ℤ r → r <ℤ h → IsWithin (2 ^ 25) r
small_part r h k l u = record { low = omega (arith, ints); high = omega (arith, ints) }

widen : (z : ℤ) → IsWithin (2 ^ 25) z → IsWithin (2 ^ 50) z
widen z h = record { low = omega (arith, ints); high = omega (arith, ints) }

negated_size : (z : ℤ) → IsWithin (2 ^ 50) z → IsWithin (2 ^ 50) (neg_ℤ z)
negated_size z h = record { low = omega (arith, ints); high = omega (arith, ints) }

small_above : (m h : ℤ) → IsWithin (2 ^ 25) h → pos 0 ≤ℤ m → m <ℤ (pos 256 *ℤ h) → IsWithin (2 ^ 50) m
small_above m h k l u = record { low = omega (arith, ints); high = omega (arith, ints) }

at_column : (e : Edge) (p : Position) (n d k m h : ℤ) → n ≡ neg_ℤ (side e.a e.b p) → d ≡ pos 256 *ℤ h → h ≡ e.b.y -ℤ e.a.y → n ≡ k *ℤ d +ℤ m → neg_ℤ (side e.a e.b (along p (neg_ℤ k))) ≡ m
at_column e p n d k m h is_n is_d tall sum =
    let s = from_zero e.a e.b p k in
    let by : d ≡ pos 256 *ℤ (e.b.y -ℤ e.a.y) = is_d ∙ ap (λ z. pos 256 *ℤ z) tall in
    let total : neg_ℤ (side e.a e.b p) ≡ k *ℤ (pos 256 *ℤ (e.b.y -ℤ e.a.y)) +ℤ m = sym is_n ∙ sum ∙ ap (λ z. k *ℤ z +ℤ m) by in
    omega (arith, ints)

pub overflow_mul-begin : goal.overflow_mul-begin
overflow_mul-begin c =
    let b = begin c.args.strip.now.row _ _ _ c.max-begin.result c.args.strip.now.below c.y.ensures.in_band c.y.ensures.value c.div_euclid.ensures c.max-begin.ensures.value in
    let l = b.low in let h = b.high in omega (arith, ints)

pub point_at-corner-requires-clause-y : goal.point_at-corner-requires-clause-y
point_at-corner-requires-clause-y c =
    let b = begin c.args.strip.now.row _ _ _ c.max-begin.result c.args.strip.now.below c.y.ensures.in_band c.y.ensures.value c.div_euclid.ensures c.max-begin.ensures.value in
    let l = b.low in let h = b.high in record { low = omega (arith, ints); high = omega (arith, ints) }

pub divide_near-left-requires-clause-by : goal.divide_near-left-requires-clause-by
divide_near-left-requires-clause-by c =
    let a = c.y-3.ensures in let b = c.y-2.ensures in
    let down = c.requires in
    positive _ _ _ _ _ a.in_band b.in_band a.value b.value c.from-height.ensures down
  where
    positive : (x y u v h : ℤ) → IsInBand y → IsInBand x → y ≡ v → x ≡ u → h ≡ to_z w32 (of_z w32 (to_z w32 (of_z w32 x) -ℤ to_z w32 (of_z w32 y))) → v <ℤ u → pos 0 <ℤ to_z w64 (of_z w64 (pos 256 *ℤ to_z w64 (of_z w64 h)))
    positive x y u v h k l e f is down = omega (arith, ints)

pub divide_near-left-requires-clause-small : goal.divide_near-left-requires-clause-small
divide_near-left-requires-clause-small c = times_size _ (height_range _ _ _ c.y-2.ensures.in_band c.y-3.ensures.in_band c.from-height.ensures)

pub divide_near-left-requires-clause-number : goal.divide_near-left-requires-clause-number
divide_near-left-requires-clause-number c =
    let s = c.side.ensures.size in
    record { low = omega (arith, ints); high = omega (arith, ints) }

pub overflow_sub-result : goal.overflow_sub-result
overflow_sub-result c =
    let b = begin c.args.strip.now.row _ _ _ c.max-begin.result c.args.strip.now.below c.y.ensures.in_band c.y.ensures.value c.div_euclid.ensures c.max-begin.ensures.value in
    let l = b.low in let h = b.high in let k = c.args.strip.now.below in let k' = k.low in let k'' = k.high in omega (arith, ints)

pub overflow_cast-result : goal.overflow_cast-result
overflow_cast-result c =
    let b = begin c.args.strip.now.row _ _ _ c.max-begin.result c.args.strip.now.below c.y.ensures.in_band c.y.ensures.value c.div_euclid.ensures c.max-begin.ensures.value in
    let l = b.low in let h = b.high in let m = b.at_row in let k = c.args.strip.now.below in let k' = k.low in let k'' = k.high in (omega (arith, ints), omega (arith, ints))

pub overflow_sub-div_euclid : goal.overflow_sub-div_euclid
overflow_sub-div_euclid c = end_fits c.args.strip.now.row _ _ c.args.strip.now.below c.y-4.ensures.in_band c.div_euclid-2.ensures

pub returns-clause-descent : goal.returns-clause-descent
returns-clause-descent c =
    let e = c.args.edge in
    let strip = c.args.strip.now in
    let a = c.y-3.ensures in let b = c.y-2.ensures in
    let start = begin strip.row _ _ _ c.max-begin.result strip.below c.y.ensures.in_band c.y.ensures.value c.div_euclid.ensures c.max-begin.ensures.value in
    let end = end_of strip.row _ _ _ c.clamp.result strip.below c.y-4.ensures.in_band c.y-4.ensures.value c.div_euclid-2.ensures c.clamp.ensures.value in
    let first = first_is strip.row c.max-begin.result start.at_row strip.below start.high in
    let corner = corner_is strip c.max-begin.result _ c.point_at-corner.result strip.across start.low start.high first c.point_at-corner.ensures in
    let H : ℤ = to_z w64 (of_z w64 c.from-height.result) in
    let h : H ≡ e.b.y -ℤ e.a.y = difference64 _ _ e.b.y e.a.y c.from-height.result b.in_band a.in_band b.value a.value c.from-height.ensures in
    let small = small_height H e.b.y e.a.y h (rw b.value at b.in_band) (rw a.value at a.in_band) in
    let d = times_256 H small in
    let slope = c.of-slope.result in
    let step = c.of-slope.ensures.step in
    let size = c.of-slope.ensures.size in
    let left = c.divide_near-left.ensures in
    let n = negated64 c.side.result (small_side _ _ c.side.ensures.value c.side.ensures.size) ∙ ap neg_ℤ c.side.ensures.value in
    let part = small_part slope.part (e.b.y -ℤ e.a.y) (rw h at small) step.part_low step.part_high in
    let q = same64 slope.columns (widen _ size) in
    let r = same64 slope.part (widen _ part) in
    let high : c.divide_near-left.result.1 <ℤ (pos 256 *ℤ H) = rw d at left.high in
    let m = same64 c.divide_near-left.result.1 (small_above _ H small left.low high) in
    let k = negated64 c.divide_near-left.result.0 left.size in
    let place = at_column e c.point_at-corner.result _ _ c.divide_near-left.result.0 c.divide_near-left.result.1 H n d h left.sum in
    record {
      small = record { height = small; columns = rw q size; part = rw r part };
      tall = h;
      step = rw (q, r) step;
      place = rw (k, m) (rw corner at place);
      above_low = rw m left.low;
      above_high = rw m high;
      column = rw k (negated_size _ left.size);
      rows_above = λ row l. start.above row (let f = first in omega (arith, ints));
      rows_below = end.rows;
      most = end.most;
    }
