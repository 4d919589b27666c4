-- Flags and counters of the nonzero rule: what an edge that is counted does to the cells of a strip.
use Rattle.std.proofs.Common.{◌≡◌, inl, inr, refl, sym, ap, ◌∙◌, arith, ℕ, ◌+◌, ◌*◌, ◌/◌, ◌%◌, ◌^◌, ◌<◌, Bool, true, false, cond, List, length, ℤ, pos, ◌+ℤ◌, ◌-ℤ◌}
use Rattle.std.proofs.lemmas.Int.{ints}
use Rattle.std.specs.Int.{int_max}
use Rattle.polygons.specs.Rows.{from_column}
use Rattle.polygons.specs.declared.rule.Rule.TheVariants.{NonZero}
use Rattle.polygons.specs.Cells.{flag_of, counter_at, down_flag, up_flag, more_flag, in_use, cell, signed, IsAlike, IsAdded, IsEdgeCounted}
use Rattle.polygons.proofs.Totals.{AreOthersKept, counter_alike, same_or_not, added_cell}

pub cell_same : (f c f' c' : List (List ℕ)) (s row k : ℕ) → length c' ≡ length c → flag_of f' s row k ≡ flag_of f s row k → flag_of f' s row (k + 8 * length c) ≡ up_flag f c s row k
    → flag_of f' s row (k + 16 * length c) ≡ more_flag f c s row k → counter_at c' s row k ≡ counter_at c s row k → cell NonZero f' c' s row k ≡ cell NonZero f c s row k
cell_same f c f' c' s row k l down up more counter =
    let up' : up_flag f' c' s row k ≡ up_flag f c s row k = ap (λ n. flag_of f' s row (k + 8 * n)) l ∙ up in
    let more' : more_flag f' c' s row k ≡ more_flag f c s row k = ap (λ n. flag_of f' s row (k + 16 * n)) l ∙ more in
    λ i. (pos (down i) -ℤ pos (up' i)) +ℤ pos (in_use (more' i) (counter i))

-- the number of a cell with a first edge of its direction
first_counted : (down : Bool) (d u m d' u' m' c : ℕ) → cond down d u ≡ 0 → d' ≡ cond down 1 d → u' ≡ cond down u 1 → m' ≡ m
    → IsAlike (2 ^ 32) ((pos d' -ℤ pos u') +ℤ pos (in_use m' c)) (((pos d -ℤ pos u) +ℤ pos (in_use m c)) +ℤ signed down (pos 1))
first_counted true d u m d' u' m' c none is_d is_u same =
    let e : in_use m' c ≡ in_use m c = ap (λ n. in_use n c) same in
    record { times = pos 0; is = omega (arith, ints) }
first_counted false d u m d' u' m' c none is_d is_u same =
    let e : in_use m' c ≡ in_use m c = ap (λ n. in_use n c) same in
    record { times = pos 0; is = omega (arith, ints) }

-- and with an edge of a direction that has its flag already
again_counted : (down : Bool) (d u m d' u' m' c c' : ℕ) → d' ≡ d → u' ≡ u → m' ≡ 1 → c' ≡ (in_use m c + cond down 1 4294967295) % 2 ^ 32
    → IsAlike (2 ^ 32) ((pos d' -ℤ pos u') +ℤ pos (in_use m' c')) (((pos d -ℤ pos u) +ℤ pos (in_use m c)) +ℤ signed down (pos 1))
again_counted down d u m d' u' m' c c' same_d same_u one is =
    let e : in_use m' c' ≡ c' = ap (λ n. in_use n c') one in
    let h = counter_alike (in_use m c) c' down is in
    record { times = h.times; is = let i = h.is in omega (arith, ints) }

-- a flag is set in the columns of its direction alone
record AreApart (n k m place : ℕ) : Type 0 where
  down : m ≡ place → m ≡ k
  up : m + 8 * n ≡ place → m ≡ k
  more : m + 16 * n ≡ place → m ≡ k

apart : (down : Bool) (n k m place : ℕ) → place ≡ k + cond down 0 (8 * n) → k < 8 * n → m < 8 * n → AreApart n k m place
apart true n k m place is h l = record { down = λ e. omega arith; up = λ e. omega arith; more = λ e. omega arith }
apart false n k m place is h l = record { down = λ e. omega arith; up = λ e. omega arith; more = λ e. omega arith }

apart_more : (n k m : ℕ) → k < 8 * n → m < 8 * n → AreApart n k m (k + 16 * n)
apart_more n k m h l = record { down = λ e. omega arith; up = λ e. omega arith; more = λ e. omega arith }

-- so all other cells stay
other_cell : (f c f' : List (List ℕ)) (s row k place : ℕ) → ((m : ℕ) → m < 8 * length c → AreApart (length c) k m place) → AreOthersKept f s row place f'
    → (r j m : ℕ) → r < 4 → j < 64 → m < 8 * length c → (r ≡ s → j ≡ row → m ≡ k → ⊥)
    → (down_flag f' c r j m ≡ down_flag f c r j m) × (up_flag f' c r j m ≡ up_flag f c r j m) × (more_flag f' c r j m ≡ more_flag f c r j m)
other_cell f c f' s row k place apart kept r j m r_small j_small m_small other =
    let a = apart m m_small in (
      kept r j m r_small j_small (λ x y e. other x y (a.down e)),
      kept r j (m + 8 * length c) r_small j_small (λ x y e. other x y (a.up e)),
      kept r j (m + 16 * length c) r_small j_small (λ x y e. other x y (a.more e)),
    )

-- the flags of the cell itself
record AreMarkedOnce (f c f' : List (List ℕ)) (s row k : ℕ) (down : Bool) : Type 0 where
  down_is : down_flag f' c s row k ≡ cond down 1 (down_flag f c s row k)
  up_is : up_flag f' c s row k ≡ cond down (up_flag f c s row k) 1
  more_is : more_flag f' c s row k ≡ more_flag f c s row k

marked_once : (down : Bool) (f c f' : List (List ℕ)) (s row k place : ℕ) → s < 4 → row < 64 → k < 8 * length c → place ≡ k + cond down 0 (8 * length c) → flag_of f' s row place ≡ 1 → AreOthersKept f s row place f'
    → AreMarkedOnce f c f' s row k down
marked_once true f c f' s row k place s_small row_small k_small is here kept =
    let at : k ≡ place = omega arith in
    record {
      down_is = ap (flag_of f' s row) at ∙ here;
      up_is = kept s row (k + 8 * length c) s_small row_small (λ _ _ e. omega arith);
      more_is = kept s row (k + 16 * length c) s_small row_small (λ _ _ e. omega arith);
    }
marked_once false f c f' s row k place s_small row_small k_small is here kept =
    let at : k + 8 * length c ≡ place = omega arith in
    record {
      down_is = kept s row k s_small row_small (λ _ _ e. omega arith);
      up_is = ap (flag_of f' s row) at ∙ here;
      more_is = kept s row (k + 16 * length c) s_small row_small (λ _ _ e. omega arith);
    }

-- the flag at the place, as that of its direction
first_flag : (down : Bool) (f c : List (List ℕ)) (s row k place v : ℕ) → place ≡ k + cond down 0 (8 * length c) → flag_of f s row place ≡ v → cond down (down_flag f c s row k) (up_flag f c s row k) ≡ v
first_flag true f c s row k place v is h = let at : k ≡ place = omega arith in ap (flag_of f s row) at ∙ h
first_flag false f c s row k place v is h = let at : k + 8 * length c ≡ place = omega arith in ap (flag_of f s row) at ∙ h

one_of : (down : Bool) (d u : ℕ) → cond down d u ≡ 1 → d ≡ 0 → u ≡ 0 → ⊥
one_of true d u e h l = omega arith
one_of false d u e h l = omega arith

module _ (down : Bool) (f c : List (List ℕ)) (s row k place : ℕ) (s_small : s < 4) (row_small : row < 64) (k_small : k < 8 * length c) (is : place ≡ k + cond down 0 (8 * length c)) where
  -- the first edge of its direction
  pub counted_first : (f' : List (List ℕ)) → flag_of f s row place ≡ 0 → flag_of f' s row place ≡ (flag_of f s row place + 1) % 2 → AreOthersKept f s row place f' → IsEdgeCounted f c f' c s row k down
  counted_first f' none flipped kept =
      let here : flag_of f' s row place ≡ 1 = flipped ∙ ap (λ n. (n + 1) % 2) none in
      let own = marked_once down f c f' s row k place s_small row_small k_small is here kept in
      let rest = other_cell f c f' s row k place (λ m l. apart down (length c) k m place is k_small l) kept in
      record {
        here = first_counted down _ _ _ _ _ _ (counter_at c s row k) (first_flag down f c s row k place 0 is none) own.down_is own.up_is own.more_is;
        others = λ r j m x y z n. (let o = rest r j m x y z n in cell_same f c f' c r j m refl o.0 o.1 o.2 refl);
        marked = λ h r j m x y z d u. elim (same_or_not s r row j k m) [
          | inl e ↦ absurd (one_of down (down_flag f' c s row k) (up_flag f' c s row k) (first_flag down f' c s row k place 1 is here)
              ((λ i. down_flag f' c (sym e.0 i) (sym e.1 i) (sym e.2 i)) ∙ d) ((λ i. up_flag f' c (sym e.0 i) (sym e.1 i) (sym e.2 i)) ∙ u))
          | inr n ↦ let o = rest r j m x y z n in o.2 ∙ h r j m x y z (sym o.0 ∙ d) (sym o.1 ∙ u)
        ];
      }

  -- an edge of a direction that has its flag already
  pub counted_again : (f' c' : List (List ℕ)) → flag_of f s row place ≡ 1 → length c' ≡ length c → more_flag f' c s row k ≡ 1 → AreOthersKept f s row (k + 16 * length c) f'
      → counter_at c' s row k ≡ (in_use (more_flag f c s row k) (counter_at c s row k) + cond down 1 4294967295) % 2 ^ 32
      → ((r j m : ℕ) → r < 4 → j < 64 → (r ≡ s → j ≡ row → m ≡ k → ⊥) → counter_at c' r j m ≡ counter_at c r j m)
      → IsEdgeCounted f c f' c' s row k down
  counted_again f' c' set long used kept_flags counter kept_counters =
      let rest = other_cell f c f' s row k (k + 16 * length c) (λ m l. apart_more (length c) k m k_small l) kept_flags in
      let down_is : down_flag f' c s row k ≡ down_flag f c s row k = kept_flags s row k s_small row_small (λ _ _ e. omega arith) in
      let up_is : up_flag f' c s row k ≡ up_flag f c s row k = kept_flags s row (k + 8 * length c) s_small row_small (λ _ _ e. omega arith) in
      let long_up : up_flag f' c' s row k ≡ up_flag f' c s row k = ap (λ n. flag_of f' s row (k + 8 * n)) long in
      let long_more : more_flag f' c' s row k ≡ more_flag f' c s row k = ap (λ n. flag_of f' s row (k + 16 * n)) long in
      record {
        here = again_counted down _ _ (more_flag f c s row k) _ _ _ (counter_at c s row k) _ down_is (long_up ∙ up_is) (long_more ∙ used) counter;
        others = λ r j m x y z n. (let o = rest r j m x y z n in cell_same f c f' c' r j m long o.0 o.1 o.2 (kept_counters r j m x y n));
        marked = λ h r j m x y z d u. elim (same_or_not s r row j k m) [
          | inl e ↦ absurd (one_of down (down_flag f c s row k) (up_flag f c s row k) (first_flag down f c s row k place 1 is set)
              (sym down_is ∙ (λ i. down_flag f' c (sym e.0 i) (sym e.1 i) (sym e.2 i)) ∙ d) (sym up_is ∙ sym long_up ∙ (λ i. up_flag f' c' (sym e.0 i) (sym e.1 i) (sym e.2 i)) ∙ u))
          | inr n ↦
              let l : m < 8 * length c = omega arith in
              let o = rest r j m x y l n in
              let up_as : up_flag f' c' r j m ≡ up_flag f c r j m = ap (λ n. flag_of f' r j (m + 8 * n)) long ∙ o.1 in
              let more_as : more_flag f' c' r j m ≡ more_flag f c r j m = ap (λ n. flag_of f' r j (m + 16 * n)) long ∙ o.2 in
              more_as ∙ h r j m x y l (sym o.0 ∙ d) (sym up_as ∙ u)
        ];
      }

-- a first edge of its direction, as it is counted from a column on
pub first_added : (down : Bool) (f c f' : List (List ℕ)) (s row n place : ℕ) (column : ℤ) → s < 4 → row < 64 → n < 8 * length c → pos n ≡ int_max column (pos 0) → place ≡ n + cond down 0 (8 * length c) → length f' ≡ length f
    → flag_of f s row place ≡ 0 → flag_of f' s row place ≡ (flag_of f s row place + 1) % 2 → AreOthersKept f s row place f' → IsAdded NonZero s row (row + 1) (λ _ k. signed down (from_column column (pos 1) k)) f c f' c
first_added down f c f' s row n place column s_small row_small n_small is at long none flipped kept =
    let p = counted_first down f c s row n place s_small row_small n_small at f' none flipped kept in
    added_cell NonZero s row n column down f c f' c s_small row_small is long refl p.here p.others p.marked

-- the place of a first flag, by its column of flags
pub flag_place : (down : Bool) (n columns block : ℕ) → block ≡ n / 8 + cond down 0 columns → 8 * block + n % 8 ≡ n + cond down 0 (8 * columns)
flag_place true n columns block e = omega arith
flag_place false n columns block e = omega arith
