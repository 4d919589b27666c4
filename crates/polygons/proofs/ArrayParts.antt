-- Parts of arrays by where they end.
use Rattle.std.proofs.Common.{◌≡◌, inl, inr, refl, ap, ◌∙◌, arith, ℕ, zero, suc, ◌+◌, ◌-◌, ◌<◌, ◌≤◌, List, ◌∷◌, take, drop, length, length-drop, slice_index}
use Rattle.std.proofs.lemmas.Bool.{cases_lt}
use Rattle.std.proofs.lemmas.List.{get_or-take, get_or-drop, length-take}
use Rattle.polygons.specs.Rings.{AreAscendingEnds, end_of}
use Rattle.polygons.specs.Arrays.{begin_of, AreAscending}

pub next_begin : (ends : List ℕ) (k : ℕ) → begin_of ends (k + 1) ≡ slice_index ends k
next_begin ends k = let e : k + 1 ≡ suc k = omega arith in ap (λ n. slice_index (0 ∷ ends) n) e

module _ (ends : List ℕ) (n first end : ℕ) (h : AreAscendingEnds 0 ends n) (rises : first ≤ end) (fits : end ≤ length ends) where
  abbrev part : List ℕ
  part = take (end - first) (drop first ends)

  long : length part ≤ end - first
  long = omega (arith, length-take (end - first) (drop first ends))

  in_part : (k : ℕ) → k < end - first → slice_index part k ≡ slice_index ends (first + k)
  in_part k l = get_or-take (end - first) (drop first ends) k 0 l ∙ get_or-drop first ends k 0

  begins : (f : ℕ) → f ≤ length ends → begin_of ends f ≤ n
  begins zero l = omega arith
  begins (suc f) l = h.within f (omega (arith, l))

  rising : (k : ℕ) → k < length part → slice_index (begin_of ends first ∷ part) k ≤ slice_index part k
  rising zero l =
      let small : 0 < end - first = omega (arith, l, long) in
      let here = in_part 0 small in
      let place : first + 0 ≡ first = omega arith in
      let same = ap (slice_index ends) place in
      omega (arith, here, same, h.rising first (omega (arith, small, fits)))
  rising (suc k) l =
      let small : suc k < end - first = omega (arith, l, long) in
      let here = in_part (suc k) small in
      let before = in_part k (omega (arith, small)) in
      let place : first + suc k ≡ suc (first + k) = omega arith in
      let next : slice_index (0 ∷ ends) (first + suc k) ≡ slice_index ends (first + k) = ap (λ m. slice_index (0 ∷ ends) m) place in
      omega (arith, here, before, next, h.rising (first + suc k) (omega (arith, small, fits)))

  pub part_of_ends : AreAscendingEnds (begin_of ends first) part n
  part_of_ends = record {
    begins = begins first (omega (arith, rises, fits));
    rising = rising;
    within = λ k l. let small : k < end - first = omega (arith, l, long) in let here = in_part k small in omega (arith, here, h.within (first + k) (omega (arith, small, fits)));
  }

-- the last of some parts ends where the next one begins
pub end_of_part : (ends : List ℕ) (first end : ℕ) → first ≤ end → end ≤ length ends → end_of (begin_of ends first) (take (end - first) (drop first ends)) ≡ begin_of ends end
end_of_part ends first end rises fits =
    let part = take (end - first) (drop first ends) in
    let rest = length-drop first ends in
    let long : length part ≡ end - first = omega (arith, length-take (end - first) (drop first ends), rest, fits) in
    ap (λ n. slice_index (begin_of ends first ∷ part) n) long ∙ last (end - first) refl
  where
    last : (m : ℕ) → m ≡ end - first → slice_index (begin_of ends first ∷ take (end - first) (drop first ends)) m ≡ begin_of ends end
    last zero is = let e : first ≡ end = omega (arith, is, rises) in ap (begin_of ends) e
    last (suc m) is =
        let e : suc (first + m) ≡ end = omega (arith, is, rises) in
        get_or-take (end - first) (drop first ends) m 0 (omega (arith, is)) ∙ get_or-drop first ends m 0 ∙ ap (begin_of ends) e

-- ---- one end more

begin_taken : (ends : List ℕ) (m k : ℕ) → k ≤ m → begin_of (take m ends) k ≡ begin_of ends k
begin_taken ends m zero l = refl
begin_taken ends m (suc k) l = get_or-take m ends k 0 (omega (arith, l))

pub ends_more : (ends : List ℕ) (n k : ℕ) → k < length ends → begin_of ends k ≤ slice_index ends k → slice_index ends k ≤ n → AreAscendingEnds 0 (take k ends) n → AreAscendingEnds 0 (take (k + 1) ends) n
ends_more ends n k inside rises fits before =
    let long = length-take (k + 1) ends in
    let short = length-take k ends in
    record {
      begins = before.begins;
      rising = λ m l.
          elim (cases_lt m k) [
            | inl less ↦
                let a = before.rising m (omega (arith, less, inside, short)) in
                let b = begin_taken ends k m (omega (arith, less)) in
                let c = begin_taken ends (k + 1) m (omega (arith, less)) in
                let d = get_or-take k ends m 0 less in
                let e = get_or-take (k + 1) ends m 0 (omega (arith, less)) in
                omega (arith, a, b, c, d, e)
            | inr more ↦
                let here : m ≡ k = omega (arith, l, long, more) in
                let c = begin_taken ends (k + 1) m (omega (arith, here)) in
                let e = get_or-take (k + 1) ends m 0 (omega (arith, here)) in
                let p = ap (begin_of ends) here in
                let q = ap (slice_index ends) here in
                omega (arith, c, e, p, q, rises)
          ];
      within = λ m l.
          elim (cases_lt m k) [
            | inl less ↦
                let a = before.within m (omega (arith, less, inside, short)) in
                let d = get_or-take k ends m 0 less in
                let e = get_or-take (k + 1) ends m 0 (omega (arith, less)) in
                omega (arith, a, d, e)
            | inr more ↦
                let here : m ≡ k = omega (arith, l, long, more) in
                let e = get_or-take (k + 1) ends m 0 (omega (arith, here)) in
                let q = ap (slice_index ends) here in
                omega (arith, e, q, fits)
          ];
    }

-- ---- ends of which none falls
ascending_to : (ends : List ℕ) → AreAscending ends → (i d : ℕ) → i + d < length ends → slice_index ends i ≤ slice_index ends (i + d)
ascending_to ends h i zero l = let e : i + 0 ≡ i = omega arith in let same = ap (slice_index ends) e in omega (arith, same)
ascending_to ends h i (suc d) l =
    let e : i + suc d ≡ i + d + 1 = omega arith in
    let same = ap (slice_index ends) e in
    let before = ascending_to ends h i d (omega (arith, l)) in
    let next = h (i + d) (omega (arith, l)) in
    omega (arith, same, before, next)

module _ (ends : List ℕ) (n : ℕ) (h : AreAscending ends) (fits : begin_of ends (length ends) ≤ n) where
  rises_next : (k : ℕ) → k < length ends → begin_of ends k ≤ slice_index ends k
  rises_next zero l = omega arith
  rises_next (suc k) l =
      let e : k + 1 ≡ suc k = omega arith in
      let same = ap (slice_index ends) e in
      let next = h k (omega (arith, l)) in
      omega (arith, same, next)

  last_fits : (k : ℕ) → k < length ends → slice_index ends k ≤ n
  last_fits k l =
      let m = length ends - 1 in
      let e : length ends ≡ suc m = omega (arith, l) in
      let last : begin_of ends (length ends) ≡ slice_index ends m = ap (begin_of ends) e in
      let f : k + (m - k) ≡ m = omega (arith, l) in
      let same = ap (slice_index ends) f in
      let to = ascending_to ends h k (m - k) (omega (arith, l)) in
      omega (arith, last, same, to, fits)

  pub ends_ascending : AreAscendingEnds 0 ends n
  ends_ascending = record { begins = omega arith; rising = rises_next; within = last_fits }
