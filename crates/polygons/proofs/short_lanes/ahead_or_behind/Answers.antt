use Rattle.std.proofs.Common.{◌≡◌, ◌∙◌, arith, ap, ℕ, ◌+◌, List, Bool, true, false, get_or, length, replicate}
use Rattle.std.specs.Simd.Lanes.{zip2}
use Rattle.polygons.proofs.Sixteen.{HasLanes, itself, splat, zipped, sum16, difference16, exact_sum, exact_difference}
use Rattle.polygons.proofs.short_lanes.ahead_or_behind.Goals as goal

backwards : (rests : List ℕ) → length rests ≡ 16 → HasLanes (zip2 difference16 (replicate 16 255) rests) (λ k. difference16 255 (get_or rests k 0))
backwards rests h = zipped difference16 (replicate 16 255) rests _ _ (splat 255) (itself rests h)

beyond : (rests : List ℕ) (by : ℕ) → length rests ≡ 16 → HasLanes (zip2 difference16 (zip2 sum16 rests (replicate 16 by)) (replicate 16 255)) (λ k. difference16 (sum16 (get_or rests k 0) by) 255)
beyond rests by h = zipped difference16 _ (replicate 16 255) _ _ (zipped sum16 rests (replicate 16 by) _ _ (itself rests h) (splat by)) (splat 255)

opposite : {X : Type 0} (b : Bool) → b ≡ true → b ≡ false → X
opposite true e f = cc
opposite false e f = cc

pub returns-then-is_ahead-clause-length : goal.returns-then-is_ahead-clause-length
returns-then-is_ahead-clause-length c = (backwards c.args.rests c.fits-rests.0).long

pub returns-then-is_ahead-clause-ahead : goal.returns-then-is_ahead-clause-ahead
returns-then-is_ahead-clause-ahead c e s l r =
    (backwards c.args.rests c.fits-rests.0).each s l ∙ exact_difference 255 (get_or c.args.rests s 0) (omega arith) (omega (arith, r))

pub returns-clause-length : goal.returns-clause-length
returns-clause-length c = (beyond c.args.rests c.args.by c.fits-rests.0).long

pub returns-clause-behind : goal.returns-clause-behind
returns-clause-behind c e s l r m =
    let sum = exact_sum (get_or c.args.rests s 0) c.args.by (let b = c.requires.by in omega (arith, r, b)) in
    (beyond c.args.rests c.args.by c.fits-rests.0).each s l ∙ ap (λ n. difference16 n 255) sum
    ∙ exact_difference (get_or c.args.rests s 0 + c.args.by) 255 (let b = c.requires.by in omega (arith, r, b)) (omega (arith, m))
