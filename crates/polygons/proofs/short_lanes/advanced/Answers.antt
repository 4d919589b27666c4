use Rattle.std.proofs.Common.{◌≡◌, ◌∙◌, arith, ℕ, ◌+◌, ◌-◌, ◌*◌, ◌<◌, ◌≤◌, List, Bool, true, false, cond, ltb, get_or, length, map, replicate}
use Rattle.std.proofs.lemmas.Bool.{lt-ltb, le-ltb}
use Rattle.std.proofs.lemmas.Nat.{mul-le}
use Rattle.std.specs.Simd.Lanes.{zip2, sel_l}
use lib.Lanes.{top}
use Rattle.polygons.proofs.Sixteen.{HasLanes, itself, splat, zipped, selected, top_of, sum16, difference16, product16, less16, exact_sum, exact_difference, exact_product}
use Rattle.polygons.proofs.short_lanes.advanced.Goals as goal

-- the lane of a number, a rest and a length
abbrev lane : (height width number rest along : ℕ) → ℕ
lane height width number rest along = sum16 number (cond (top 15 (less16 (product16 (difference16 255 rest) height) (product16 along width))) 1 0)

module _ (numbers rests lengths : List ℕ) (height width : ℕ) (p : length numbers ≡ 16) (q : length rests ≡ 16) (r : length lengths ≡ 16) where
  abbrev across : List ℕ
  across = zip2 product16 (zip2 difference16 (replicate 16 255) rests) (replicate 16 height)

  abbrev ahead : List ℕ
  ahead = zip2 product16 lengths (replicate 16 width)

  abbrev all : List ℕ
  all = zip2 sum16 numbers (sel_l (map (top 15) (zip2 less16 across ahead)) (replicate 16 1) (replicate 16 0))

  lanes : HasLanes all (λ k. lane height width (get_or numbers k 0) (get_or rests k 0) (get_or lengths k 0))
  lanes =
      let left = zipped product16 _ _ _ _ (zipped difference16 (replicate 16 255) rests _ _ (splat 255) (itself rests q)) (splat height) in
      let right = zipped product16 lengths (replicate 16 width) _ _ (itself lengths r) (splat width) in
      zipped sum16 numbers _ _ _ (itself numbers p) (selected _ (replicate 16 1) (replicate 16 0) _ _ _ (zipped less16 across ahead _ _ left right) (splat 1) (splat 0))

-- the lane, by its comparison
lane_is : (height width number rest along : ℕ) (b : Bool) → height ≤ 256 → width < 256 → number < 256 → rest < 256 → along ≤ 256 → ltb ((255 - rest) * height) (along * width) ≡ b
    → lane height width number rest along ≡ number + cond b 1 0
lane_is height width number rest along b h w n r a e =
    let first : difference16 255 rest ≡ 255 - rest = exact_difference 255 rest (omega arith) (omega arith) in
    let left : product16 (255 - rest) height ≡ (255 - rest) * height = exact_product (255 - rest) height (let m = mul-le (255 - rest) height 255 256 (omega arith) h in omega (arith, m)) in
    let right : product16 along width ≡ along * width = exact_product along width (let m = mul-le along width 256 255 a (omega arith) in omega (arith, m)) in
    rw (first, left, right, top_of (ltb ((255 - rest) * height) (along * width)), e) (exact_sum number (cond b 1 0) (small b))
  where
    small : (b : Bool) → number + cond b 1 0 < 65536
    small true = omega arith
    small false = omega arith

pub returns-clause-length : goal.returns-clause-length
returns-clause-length c = (lanes c.args.numbers c.args.rests c.args.lengths c.args.height c.args.width c.fits-numbers.0 c.fits-rests.0 c.fits-lengths.0).long

pub returns-clause-more : goal.returns-clause-more
returns-clause-more c s l n r m h =
    (lanes c.args.numbers c.args.rests c.args.lengths c.args.height c.args.width c.fits-numbers.0 c.fits-rests.0 c.fits-lengths.0).each s l
    ∙ lane_is c.args.height c.args.width _ _ _ true c.requires.height c.requires.width n r m (lt-ltb _ _ h)

pub returns-clause-same : goal.returns-clause-same
returns-clause-same c s l n r m h =
    (lanes c.args.numbers c.args.rests c.args.lengths c.args.height c.args.width c.fits-numbers.0 c.fits-rests.0 c.fits-lengths.0).each s l
    ∙ lane_is c.args.height c.args.width _ _ _ false c.requires.height c.requires.width n r m (le-ltb _ _ h) ∙ omega arith
