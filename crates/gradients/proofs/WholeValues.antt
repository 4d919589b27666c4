-- Values that are whole multiples of a part of the area.
use Rattle.std.proofs.Common.{◌≡◌, refl, sym, ap, ◌∙◌, subst, List, [], ◌∷◌, arith, None, Some, Option, IfSome, IsTrue, false, ℕ, zero, suc, slice_index, ◌+◌, ◌*◌, ◌/◌, ◌%◌, ◌<◌, ◌≤◌, ◌^◌, ℤ, pos, negsuc, FitsSigned, w32, w64, to_z, of_z, neg_ℤ, ◌+ℤ◌, ◌-ℤ◌, ◌*ℤ◌}
use Rattle.std.specs.Int.{◌∣◌, int_rem_euclid}
use Rattle.std.specs.Option.{is_some}
use Rattle.std.specs.Int.RustNames.{unsigned_abs}
use Rattle.std.proofs.lemmas.Int.{ints, to_z-of_z, unsigned_abs-mul}
use Rattle.std.proofs.Math.Nat.{one-dvd}
use Rattle.std.proofs.lemmas.Nat.{div-add-mod'}
use Rattle.std.proofs.lemmas.Nat.Gcd.{mod-eq-zero_of_dvd, dvd_trans}
use Rattle.grid.specs.declared.sample_count.SampleCount.{SampleCount}
use Rattle.grid.specs.declared.sample_count.SampleCount.TheVariants.{One, Two, Four, Eight, Sixteen}
use Rattle.grid.specs.Samples.{offsets_x, offsets_y, sample_position}
use Rattle.grid.specs.Bounds.{IsWithin}
use Rattle.grid.proofs.Bounds.{IsWithin-mul}
use Rattle.grid.proofs.Ring.{neg_mul, var, plus, neg, times, ring}
use Rattle.gradients.specs.Multiple.{IsMultiple, IsSixteenth}
use Rattle.gradients.specs.Slope.{numerator}
use Rattle.gradients.specs.Whole.{IsCommonDivisor, IsPast, IsWholeSlope}
use Rattle.gradients.specs.declared.slope.Slope.{Slope}

-- ---- multiples
pub multiple_sum : (n : ℕ) (x y : ℤ) → IsMultiple n x → IsMultiple n y → IsMultiple n (x +ℤ y)
multiple_sum n x y h k =
    let both = ring (h.times ∷ k.times ∷ pos n ∷ []) (plus (times (var 0) (var 2)) (times (var 1) (var 2))) (times (plus (var 0) (var 1)) (var 2)) refl in
    record { times = h.times +ℤ k.times; is = ap (λ z. z +ℤ y) h.is ∙ ap (λ z. h.times *ℤ pos n +ℤ z) k.is ∙ both }

pub multiple_difference : (n : ℕ) (x y : ℤ) → IsMultiple n x → IsMultiple n y → IsMultiple n (x -ℤ y)
multiple_difference n x y h k =
    let both = ring (h.times ∷ k.times ∷ pos n ∷ []) (plus (times (var 0) (var 2)) (neg (times (var 1) (var 2)))) (times (plus (var 0) (neg (var 1))) (var 2)) refl in
    record { times = h.times -ℤ k.times; is = ap (λ z. z -ℤ y) h.is ∙ ap (λ z. h.times *ℤ pos n -ℤ z) k.is ∙ both }

pub multiple_product : (n : ℕ) (x y : ℤ) → IsMultiple n y → IsMultiple n (x *ℤ y)
multiple_product n x y h =
    let both = ring (x ∷ h.times ∷ pos n ∷ []) (times (var 0) (times (var 1) (var 2))) (times (times (var 0) (var 1)) (var 2)) refl in
    record { times = x *ℤ h.times; is = ap (λ z. x *ℤ z) h.is ∙ both }

-- sixteenths of a pixel by the growth over 1/256 pixel
multiple_growth : (g : ℕ) (w n : ℤ) → IsSixteenth w → IsMultiple g (pos 16 *ℤ n) → IsMultiple g (w *ℤ n)
multiple_growth g w n h k =
    let both : h.times *ℤ pos 16 *ℤ n ≡ h.times *ℤ (pos 16 *ℤ n) = ring (h.times ∷ pos 16 ∷ n ∷ []) (times (times (var 0) (var 1)) (var 2)) (times (var 0) (times (var 1) (var 2))) refl in
    let same : w *ℤ n ≡ h.times *ℤ (pos 16 *ℤ n) = ap (λ z. z *ℤ n) h.is ∙ both in
    subst (IsMultiple g) (sym same) (multiple_product g h.times (pos 16 *ℤ n) k)

pub multiple_of_size : (g : ℕ) (z : ℤ) → g ∣ unsigned_abs z → IsMultiple g z
multiple_of_size g (pos n) h =
    let none : n % g ≡ 0 = mod-eq-zero_of_dvd g h in
    let parts = div-add-mod' n g in
    record { times = pos (n / g); is = omega (arith, ints, none, parts) }
multiple_of_size g (negsuc n) h =
    let none : suc n % g ≡ 0 = mod-eq-zero_of_dvd g h in
    let parts = div-add-mod' (suc n) g in
    let turned = neg_mul (pos (suc n / g)) (pos g) in
    record { times = neg_ℤ (pos (suc n / g)); is = omega (arith, ints, none, parts, turned) }

-- whole pixels
pub pixels_sixteenth : (n : ℕ) → IsSixteenth (pos (256 * n))
pixels_sixteenth n = record { times = pos (16 * n); is = omega (arith, ints) }

pub sixteenth_from : (z : ℤ) → IsSixteenth (z -ℤ int_rem_euclid z (pos 16))
sixteenth_from (pos a) = record { times = pos (a / 16); is = omega (arith, ints) }
sixteenth_from (negsuc a) = record { times = negsuc (a / 16); is = omega (arith, ints) }

-- ---- the numerator at a sample, counted from the multiples of a sixteenth that the slope's vertex is past by r and q
counted : (start x y sx sy r q nx ny : ℤ)
    → start +ℤ (x -ℤ sx) *ℤ nx +ℤ (y -ℤ sy) *ℤ ny
    ≡ start +ℤ (x -ℤ (sx -ℤ r)) *ℤ nx +ℤ (y -ℤ (sy -ℤ q)) *ℤ ny -ℤ (r *ℤ nx +ℤ q *ℤ ny)
counted start x y sx sy r q nx ny =
    ring (start ∷ x ∷ y ∷ sx ∷ sy ∷ r ∷ q ∷ nx ∷ ny ∷ [])
    (plus (plus (var 0) (times (plus (var 1) (neg (var 3))) (var 7))) (times (plus (var 2) (neg (var 4))) (var 8)))
    (plus
    (plus (plus (var 0) (times (plus (var 1) (neg (plus (var 3) (neg (var 5))))) (var 7))) (times (plus (var 2) (neg (plus (var 4) (neg (var 6))))) (var 8)))
    (neg (plus (times (var 5) (var 7)) (times (var 6) (var 8)))))
    refl

pub whole_numerator : (g area : ℕ) (s : Slope) (m n : ℤ) → g ∣ area → IsMultiple g (pos 16 *ℤ s.across) → IsMultiple g (pos 16 *ℤ s.down)
    → IsPast s.x s.across m → IsPast s.y s.down n → IsMultiple g (m +ℤ n)
    → (x y : ℤ) → IsSixteenth x → IsSixteenth y → IsMultiple g (numerator s area x y)
whole_numerator g area s m n divides across down past_x past_y corner x y on_x on_y =
    let r = past_x.by in
    let q = past_y.by in
    let start : IsMultiple g (pos (s.first * area)) = multiple_product g (pos s.first) (pos area) (multiple_of_size g (pos area) divides) in
    let right = multiple_growth g (x -ℤ (s.x -ℤ r)) s.across (multiple_difference 16 x (s.x -ℤ r) on_x past_x.sixteenth) across in
    let below = multiple_growth g (y -ℤ (s.y -ℤ q)) s.down (multiple_difference 16 y (s.y -ℤ q) on_y past_y.sixteenth) down in
    let least : IsMultiple g (r *ℤ s.across +ℤ q *ℤ s.down) = rw (past_x.is, past_y.is) at corner in
    let whole = multiple_difference g _ _ (multiple_sum g _ _ (multiple_sum g _ _ start right) below) least in
    subst (IsMultiple g) (sym (counted (pos (s.first * area)) x y s.x s.y r q s.across s.down)) whole

-- ---- numbers as the code passes them
pub record IsExactPast (z growth f : ℤ) : Type 0 where
  pub fits : FitsSigned w64 (to_z w64 (of_z w64 f) *ℤ to_z w64 (of_z w64 growth))
  pub past : IsPast z growth (to_z w64 (of_z w64 (to_z w64 (of_z w64 f) *ℤ to_z w64 (of_z w64 growth))))
  pub size : IsWithin (2 ^ 46) (to_z w64 (of_z w64 (to_z w64 (of_z w64 f) *ℤ to_z w64 (of_z w64 growth))))

pub exact_past : (z growth f r : ℤ) → FitsSigned w32 z → FitsSigned w64 growth → unsigned_abs growth < 2 ^ 41
    → r ≡ int_rem_euclid (to_z w32 (of_z w32 z)) (pos 16) → IsWithin 16 r → f ≡ r → IsExactPast z growth f
exact_past z growth f r fits fits' bound e small same =
    let past : r ≡ int_rem_euclid z (pos 16) = rw (to_z-of_z w32 z fits) at e in
    let narrow : FitsSigned w64 f = omega (arith, ints, small, same) in
    let few : IsWithin (2 ^ 41) growth = record { low = omega (arith, ints, bound); high = omega (arith, ints, bound) } in
    let size : IsWithin (16 * 2 ^ 41) (f *ℤ growth) = IsWithin-mul f growth 16 (2 ^ 41) (rw same small) few in
    let product : FitsSigned w64 (f *ℤ growth) = omega (arith, ints, size) in
    record {
      fits = simp to_z-of_z product;
      past = simp to_z-of_z (record { by = f; sixteenth = rw (same, past) (sixteenth_from z); is = refl });
      size = simp to_z-of_z (record { low = omega (arith, ints, size); high = omega (arith, ints, size) });
    }

-- ---- a divisor that is found
pub divisor_from : (r : Option ℕ) (area across down corner least h k : ℕ) → 0 < least → h ∣ area → h ∣ across → k ∣ h → k ∣ down → IfSome r (λ g. least ≤ g) → IfSome r (λ g. g ∣ k) → IfSome r (λ g. g ∣ corner)
    → IfSome r (λ g. IsCommonDivisor area across down corner g)
divisor_from None area across down corner least h k some first second third fourth high divides last = tt
divisor_from (Some g) area across down corner least h k some first second third fourth high divides last = record {
  some = omega (arith, some, high);
  of_area = dvd_trans g divides (dvd_trans k third first);
  of_across = dvd_trans g divides (dvd_trans k third second);
  of_down = dvd_trans g divides fourth;
  of_corner = last;
}

-- a multiple in size
multiple_of_16 : (g : ℕ) (z : ℤ) (a b : ℕ) → a ≡ unsigned_abs z → b ≡ 16 * a → g ∣ b → IsMultiple g (pos 16 *ℤ z)
multiple_of_16 g z a b e f h =
    let size : b ≡ unsigned_abs (pos 16 *ℤ z) = f ∙ ap (λ n. 16 * n) e ∙ sym (unsigned_abs-mul (pos 16) z) in
    multiple_of_size g (pos 16 *ℤ z) (subst (λ n. g ∣ n) size h)

none : IsTrue false → ⊥
none e = cc

pub whole_from : (k area : ℕ) (s : Slope) (m n : ℤ) (r : Option ℕ) (across a down d corner : ℕ) → a ≡ unsigned_abs s.across → d ≡ unsigned_abs s.down → across ≡ 16 * a → down ≡ 16 * d
    → corner ≡ unsigned_abs (m +ℤ n) → IsPast s.x s.across m → IsPast s.y s.down n
    → IfSome r (λ g. 6 * area < g * 2 ^ k) → IfSome r (λ g. IsCommonDivisor area across down corner g) → IsTrue (is_some r) → IsWholeSlope k area s
whole_from k area s m n None across a down d corner e f e' f' is past_x past_y few divides some = absurd (none some)
whole_from k area s m n (Some g) across a down d corner e f e' f' is past_x past_y few divides some = record {
  unit = g;
  of_area = divides.of_area;
  of_numerator = whole_numerator g area s m n divides.of_area (multiple_of_16 g s.across a across e e' divides.of_across) (multiple_of_16 g s.down d down f f' divides.of_down) past_x past_y
      (multiple_of_size g (m +ℤ n) (subst (λ c. g ∣ c) is divides.of_corner));
  few = few;
}

-- the unit is 1
pub whole_of_one : (k area bits : ℕ) (s : Slope) → 6 * area < 2 ^ bits * 2 ^ k → bits ≡ 0 → IsWholeSlope k area s
whole_of_one k area bits s few none = record {
  unit = 1;
  of_area = one-dvd area;
  of_numerator = λ x y on_x on_y. record { times = numerator s area x y; is = omega (arith, ints) };
  few = rw none at few;
}

-- ---- the samples of a pixel
-- each element of a list is a multiple of a sixteenth of a pixel
abbrev IsWhole : ℕ → Type 0
IsWhole n = (m : ℕ) × (n ≡ 16 * m)

abbrev Every : List ℕ → Type 0
Every [] = Unit {0}
Every (x ∷ xs) = IsWhole x × Every xs

of_each : (xs : List ℕ) → Every xs → (s : ℕ) → IsWhole (slice_index xs s)
of_each [] h s = (0, refl)
of_each (x ∷ xs) h zero = h.0
of_each (x ∷ xs) h (suc s) = of_each xs h.1 s

all_x : (count : SampleCount) → Every (offsets_x count)
all_x One = ((8, refl), tt)
all_x Two = ((12, refl), ((4, refl), tt))
all_x Four = ((6, refl), ((14, refl), ((2, refl), ((10, refl), tt))))
all_x Eight = ((9, refl), ((7, refl), ((13, refl), ((5, refl), ((3, refl), ((1, refl), ((11, refl), ((15, refl), tt))))))))
all_x Sixteen = ((9, refl), ((7, refl), ((5, refl), ((12, refl), ((3, refl), ((10, refl), ((13, refl), ((11, refl), ((6, refl), ((8, refl), ((4, refl), ((2, refl), ((0, refl), ((15, refl), ((14, refl), ((1, refl), tt))))))))))))))))

offset_x : (count : SampleCount) (s : ℕ) → IsWhole (slice_index (offsets_x count) s)
offset_x count s = of_each (offsets_x count) (all_x count) s

all_y : (count : SampleCount) → Every (offsets_y count)
all_y One = ((8, refl), tt)
all_y Two = ((12, refl), ((4, refl), tt))
all_y Four = ((2, refl), ((6, refl), ((10, refl), ((14, refl), tt))))
all_y Eight = ((5, refl), ((11, refl), ((9, refl), ((3, refl), ((13, refl), ((7, refl), ((15, refl), ((1, refl), tt))))))))
all_y Sixteen = ((9, refl), ((5, refl), ((10, refl), ((7, refl), ((6, refl), ((13, refl), ((11, refl), ((3, refl), ((14, refl), ((1, refl), ((2, refl), ((12, refl), ((8, refl), ((4, refl), ((15, refl), ((0, refl), tt))))))))))))))))

offset_y : (count : SampleCount) (s : ℕ) → IsWhole (slice_index (offsets_y count) s)
offset_y count s = of_each (offsets_y count) (all_y count) s

pub sample_x : (i j s : ℕ) (count : SampleCount) → IsSixteenth (sample_position i j s count).x
sample_x i j s count = let o = offset_x count s in record { times = pos (16 * i + o.0); is = omega (arith, ints, o.1) }

pub sample_y : (i j s : ℕ) (count : SampleCount) → IsSixteenth (sample_position i j s count).y
sample_y i j s count = let o = offset_y count s in record { times = pos (16 * j + o.0); is = omega (arith, ints, o.1) }

-- what is past a multiple of a sixteenth by nothing is one
pub sixteenth_when : (z r : ℤ) → r ≡ int_rem_euclid z (pos 16) → r ≡ pos 0 → IsSixteenth z
sixteenth_when z r e f =
    let same : z -ℤ int_rem_euclid z (pos 16) ≡ z = omega (arith, ints, e, f) in
    subst IsSixteenth same (sixteenth_from z)
