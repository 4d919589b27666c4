-- Masks of sixteen lanes, and lanes that are stored.
use Rattle.std.proofs.Common.{◌≡◌, ◌≢◌, ◌↔◌, ℕ, ◌+◌, ◌<◌, ◌≤◌, List, Bool, true, false, not, cond, eqb, leb, length, get_or, replicate, refl, ap, ◌∙◌, arith, inl, inr, ◌⊎◌, Decides}
use Rattle.std.specs.Simd.Lanes.{zip2, sel_l, put_chunk}
use Rattle.std.proofs.lemmas.Simd.{get_or-put_chunk_at, get_or-put_chunk_below, get_or-put_chunk_above}
use Rattle.std.proofs.lemmas.Bool.{leb-true}
use Rattle.std.proofs.lemmas.Bool.Decides.{Decides-not, Decides-eqb, nat_tests}
use Rattle.gradients.specs.Lanes.{HasLanes}
use Rattle.gradients.proofs.Lanes.{chosen, splat}
use Rattle.lanes.specs.Lanes.{IsMaskLane, IsMask}

-- ---- masks
-- a choice of all ones and 0 by a test that decides P
pub reported : (t : ℕ → ℕ → Bool) (P : ℕ → ℕ → Type 0) → ((x y : ℕ) → Decides (t x y) (P x y)) → (a b : List ℕ) (f h : ℕ → ℕ) → HasLanes a f → HasLanes b h
    → IsMask (sel_l (zip2 t a b) (replicate 16 65535) (replicate 16 0)) (λ i. P (f i) (h i))
reported t P decides a b f h p q =
    let all = chosen t a b (replicate 16 65535) (replicate 16 0) p.long q.long (splat 65535).long (splat 0).long in
    record {
      long = all.long;
      each = λ k l.
          let is : get_or (sel_l (zip2 t a b) (replicate 16 65535) (replicate 16 0)) k 0 ≡ cond (t (f k) (h k)) 65535 0 =
          all.each k l ∙ (λ i. cond (t (p.each k l i) (q.each k l i)) ((splat 65535).each k l i) ((splat 0).each k l i)) in
          tells (t (f k) (h k)) (P (f k) (h k)) (decides (f k) (h k)) _ is;
    }
  where
    tells : (x : Bool) (Q : Type 0) → Decides x Q → (lane : ℕ) → lane ≡ cond x 65535 0 → IsMaskLane lane Q
    tells true Q d lane e = inl (e, d.0 refl)
    tells false Q d lane e = inr (e, λ holds. let bad : ◌≡◌ {A = Bool} false true = d.1 holds in cc)

-- a mask that is the same in each lane
pub always : (P : ℕ → Type 0) → ((k : ℕ) → P k) → IsMask (replicate 16 65535) P
always P h = record { long = (splat 65535).long; each = λ k l. inl ((splat 65535).each k l, h k) }

pub never : (P : ℕ → Type 0) → ((k : ℕ) → ¬ P k) → IsMask (replicate 16 0) P
never P h = record { long = (splat 0).long; each = λ k l. inr ((splat 0).each k l, h k) }

pub rephrased : (m : List ℕ) (P Q : ℕ → Type 0) → ((k : ℕ) → k < 16 → P k ↔ Q k) → IsMask m P → IsMask m Q
rephrased m P Q h is = record {
  long = is.long;
  each = λ k l. elim (is.each k l) [ inl a ↦ inl (a.0, (h k l).0 a.1) | inr b ↦ inr (b.0, λ q. b.1 ((h k l).1 q)) ];
}

-- ---- tests
pub not_equal : (x y : ℕ) → Decides (not (eqb x y)) (x ≢ y)
not_equal x y = Decides-not (eqb x y) (Decides-eqb x y)

pub at_most : (x y : ℕ) → Decides (leb x y) (x ≤ y)
at_most x y = (λ e. leb-true x y e, λ le. grind (arith, nat_tests))

-- ---- the highest bit of a mask's lane
pub high_chosen : (m ys ns : List ℕ) (h : ℕ → ℕ) (half all : ℕ) → half ≤ all → 0 < half → HasLanes m h → length ys ≡ 16 → length ns ≡ 16 → (k : ℕ) → k < 16
    → ((h k ≡ all → get_or (sel_l (zip2 leb (replicate 16 half) m) ys ns) k 0 ≡ get_or ys k 0) × (h k ≡ 0 → get_or (sel_l (zip2 leb (replicate 16 half) m) ys ns) k 0 ≡ get_or ns k 0))
high_chosen m ys ns h half all le some p r s k l =
    let is = (chosen leb (replicate 16 half) m ys ns (splat half).long p.long r s).each k l in
    let from : get_or (replicate 16 half) k 0 ≡ half = (splat half).each k l in
    let lane : get_or m k 0 ≡ h k = p.each k l in (
      λ e. (let t : leb (get_or (replicate 16 half) k 0) (get_or m k 0) ≡ true = (at_most _ _).1 (omega arith) in is ∙ ap (λ b. cond b (get_or ys k 0) (get_or ns k 0)) t),
      λ e. (let t : leb (get_or (replicate 16 half) k 0) (get_or m k 0) ≡ false = over _ _ (omega arith) in is ∙ ap (λ b. cond b (get_or ys k 0) (get_or ns k 0)) t),
    )
  where
    over : (x y : ℕ) → y < x → leb x y ≡ false
    over x y less = grind (arith, nat_tests)

-- ---- sixteen lanes stored from a place on
pub stored_here : (i : ℕ) (xs ys : List ℕ) (k : ℕ) → length ys ≡ 16 → i + 16 ≤ length xs → k < 16 → get_or (put_chunk i xs ys) (i + k) 0 ≡ get_or ys k 0
stored_here i xs ys k long room l = get_or-put_chunk_at i xs ys k 0 (omega arith) (omega arith)

pub stored_elsewhere : (i : ℕ) (xs ys : List ℕ) (k : ℕ) → length ys ≡ 16 → (k < i) ⊎ (i + 16 ≤ k) → get_or (put_chunk i xs ys) k 0 ≡ get_or xs k 0
stored_elsewhere i xs ys k long (inl below) = get_or-put_chunk_below i xs ys k 0 below
stored_elsewhere i xs ys k long (inr above) = get_or-put_chunk_above i xs ys k 0 (omega arith)
