-- A triangle has one place.
use Rattle.std.proofs.Common.{◌≡◌, ℕ, zero, suc, ◌+◌, ◌<◌, ◌≤◌, List, [], ◌∷◌, length, take, sum, slice_index, arith}
use Rattle.std.proofs.lemmas.List.Sums.{sum_by-cons}
use Rattle.draw_list.specs.Place.{IsPlace}
use Rattle.draw_list.specs.Scene.{Scene}
use Rattle.draw_list.specs.declared.place.TrianglePlace.{TrianglePlace}

-- the draws before a later one have at least the triangles of this one too
later : (xs : List ℕ) (a b : ℕ) → a < b → b < length xs → sum (take a xs) + slice_index xs a ≤ sum (take b xs)
later [] a b h k = absurd (omega (arith, k))
later (x ∷ xs) a zero h k = absurd (omega (arith, h))
later (x ∷ xs) zero (suc b) h k = omega (arith, sum_by-cons (λ n. n) x (take b xs))
later (x ∷ xs) (suc a) (suc b) h k =
    omega (arith, sum_by-cons (λ n. n) x (take a xs), sum_by-cons (λ n. n) x (take b xs), later xs a b (omega (arith, h)) (omega (arith, k)))

same_draw : (l : Scene) (n : ℕ) (p q : TrianglePlace) → IsPlace l n p → IsPlace l n q → ¬ (p.draw < q.draw)
same_draw l n p q h k before =
    let more = later l.draws p.draw q.draw before k.draw in
    omega (arith, h.within, h.behind, k.behind, more)

place : ℕ → ℕ → TrianglePlace
place draw triangle = record { draw = draw; triangle = triangle }

made_same : (a b c d : ℕ) → a ≡ c → b ≡ d → place a b ≡ place c d
made_same a b c d e f = cc

same_place : (p q : TrianglePlace) → p.draw ≡ q.draw → p.triangle ≡ q.triangle → p ≡ q
unfolding place
same_place p q e f = made_same p.draw p.triangle q.draw q.triangle e f

pub place-unique : (l : Scene) (n : ℕ) (p q : TrianglePlace) → IsPlace l n p → IsPlace l n q → p ≡ q
place-unique l n p q h k =
    let draw : p.draw ≡ q.draw = let a = same_draw l n p q h k in let b = same_draw l n q p k h in omega (arith, a, b) in
    let behind : n ≡ sum (take q.draw l.draws) + p.triangle = rw draw at h.behind in
    same_place p q draw (omega (arith, behind, k.behind))
