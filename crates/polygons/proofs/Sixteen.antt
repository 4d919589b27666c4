-- Sixteen lanes of 16 bits, operation by operation.
use Rattle.std.proofs.Common.{◌≡◌, ℕ, ◌+◌, ◌-◌, ◌*◌, ◌%◌, ◌^◌, ◌<◌, ◌≤◌, List, Bool, true, false, cond, length, get_or, map, replicate, refl, sym, ap, ◌∙◌, arith, w16}
use Rattle.std.specs.Int.{bit_at}
use Rattle.std.specs.Simd.Lanes.{zip2, sel_l, mask_l}
use Rattle.std.proofs.lemmas.Simd.{length-zip2, get_or-zip2, get_or-replicate, length-replicate, length-sel_l, get_or-sel_l, mask_l-mod, bit_mask_l}
use Rattle.std.proofs.lemmas.List.{get_or-map, length-map}
use borrow.Rule.Simd.Lanes.{act2}
use borrow.Table.Row.{s_int}
use mir.Syntax.{wrap_add, wrap_sub, wrap_mul, shr, unsigned, bit_and as and_of, mask, le, lt}
use lib.Lanes.{top}

-- what the lanes are
pub record HasLanes (v : List ℕ) (f : ℕ → ℕ) : Type 0 where
  pub long : length v ≡ 16
  pub each : (k : ℕ) → k < 16 → get_or v k 0 ≡ f k

pub itself : (v : List ℕ) → length v ≡ 16 → HasLanes v (λ k. get_or v k 0)
itself v long = record { long = long; each = λ k l. refl }

pub splat : (x : ℕ) → HasLanes (replicate 16 x) (λ k. x)
splat x = record { long = length-replicate 16 x; each = λ k l. get_or-replicate 16 k x 0 l }

-- an operator on two vectors
pub zipped : (g : ℕ → ℕ → ℕ) (xs ys : List ℕ) (f h : ℕ → ℕ) → HasLanes xs f → HasLanes ys h → HasLanes (zip2 g xs ys) (λ k. g (f k) (h k))
zipped g xs ys f h a b =
    let p = a.long in
    let q = b.long in
    record {
      long = length-zip2 g xs ys (p ∙ sym q) ∙ p;
      each = λ k l. get_or-zip2 g xs ys k 0 0 0 (omega arith) (omega arith) ∙ (λ i. g (a.each k l i) (b.each k l i));
    }

abbrev pub sum16 : ℕ → ℕ → ℕ
sum16 = act2 wrap_add (s_int w16) (s_int w16) (s_int w16)

abbrev pub difference16 : ℕ → ℕ → ℕ
difference16 = act2 wrap_sub (s_int w16) (s_int w16) (s_int w16)

abbrev pub product16 : ℕ → ℕ → ℕ
product16 = act2 wrap_mul (s_int w16) (s_int w16) (s_int w16)

abbrev pub shifted16 : ℕ → ℕ → ℕ
shifted16 = act2 (shr unsigned) (s_int w16) (s_int w16) (s_int w16)

abbrev pub both16 : ℕ → ℕ → ℕ
both16 = act2 and_of (s_int w16) (s_int w16) (s_int w16)

abbrev pub most16 : ℕ → ℕ → ℕ
most16 = act2 (mask (le unsigned)) (s_int w16) (s_int w16) (s_int w16)

abbrev pub less16 : ℕ → ℕ → ℕ
less16 = act2 (mask (lt unsigned)) (s_int w16) (s_int w16) (s_int w16)

pub exact_sum : (a b : ℕ) → a + b < 65536 → sum16 a b ≡ a + b
exact_sum a b h = omega arith

pub exact_difference : (a b : ℕ) → a < 65536 → b ≤ a → difference16 a b ≡ a - b
exact_difference a b h l = omega arith

pub exact_product : (a b : ℕ) → a * b < 65536 → product16 a b ≡ a * b
exact_product a b h = omega arith

-- ---- a bit for each lane
pub bit_of_lane : (v : List ℕ) (f : ℕ → ℕ) (s : ℕ) → HasLanes v f → s < 16 → bit_at (mask_l (map (top 15) v) % 2 ^ 64) s ≡ cond (top 15 (f s)) 1 0
bit_of_lane v f s h l =
    let long = h.long in
    ap (λ n. bit_at n s) (mask_l-mod (map (top 15) v) 64 (omega (arith, length-map v (top 15))))
    ∙ bit_mask_l (map (top 15) v) s
    ∙ ap (λ b. cond b 1 0) (get_or-map (top 15) v s 0 false (omega arith) ∙ ap (top 15) (h.each s l))

-- ---- a choice by lanes' highest bits
pub selected : (ms ys ns : List ℕ) (f g h : ℕ → ℕ) → HasLanes ms f → HasLanes ys g → HasLanes ns h → HasLanes (sel_l (map (top 15) ms) ys ns) (λ k. cond (top 15 (f k)) (g k) (h k))
selected ms ys ns f g h a b c =
    let tops : length (map (top 15) ms) ≡ 16 = length-map ms (top 15) ∙ a.long in
    let p = a.long in
    let q = b.long in
    let r = c.long in
    record {
      long = length-sel_l (map (top 15) ms) ys ns (tops ∙ sym q) (tops ∙ sym r) ∙ tops;
      each = λ k l.
          get_or-sel_l (map (top 15) ms) ys ns k 0 (omega arith) (omega arith) (omega arith)
          ∙ (λ i. cond ((get_or-map (top 15) ms k 0 false (omega arith) ∙ ap (top 15) (a.each k l)) i) (b.each k l i) (c.each k l i));
    }

-- the highest bit of a comparison
pub top_of : (b : Bool) → top 15 (cond b 65535 0) ≡ b
top_of true = refl
top_of false = refl
