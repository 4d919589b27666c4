use Rattle.std.proofs.Common.{◌≡◌, refl, ap, ◌∙◌, arith, ℕ, ◌+◌, ◌-◌, ◌*◌, ◌/◌, ◌%◌, ◌^◌, ◌<◌, ltb, cond, List, length, get_or, replicate, Fits, w8}
use Rattle.std.specs.Simd.Lanes.{zip2, Each1, number_l, digits_l, chunk}
use Rattle.std.proofs.lemmas.Simd.{get_or_wider, get_or_narrower, get_or-zip2, get_or-replicate, get_or-chunk, Each1-chunk, Each1-from_get_or, below_from_Fits}
use Rattle.polygons.proofs.ByteSums.{byte_moved, byte_of, byte_power}
use Rattle.polygons.proofs.byte_sums.moved.Goals as goal

module _ (lanes : List ℕ) (by : ℕ) (long : length lanes ≡ 64) (fits : Each1 (Fits w8) lanes) where
  abbrev wide : List ℕ
  wide = digits_l (2 ^ 64) 8 (number_l (2 ^ 8) lanes)

  abbrev shifted : List ℕ
  shifted = zip2 (λ x k. x * 2 ^ k % 2 ^ 64) wide (replicate 8 (8 * by))

  row : (r : ℕ) → r < 8 → get_or shifted r 0 ≡ number_l (2 ^ 8) (chunk (8 * r) 8 lanes) * 2 ^ (8 * by) % 2 ^ 64
  row r h =
      get_or-zip2 (λ x k. x * 2 ^ k % 2 ^ 64) wide (replicate 8 (8 * by)) r 0 0 0 h h
      ∙ (λ i. get_or_wider (2 ^ 8) 8 (2 ^ 64) 8 lanes r refl (below_from_Fits w8 lanes fits) h i * 2 ^ get_or-replicate 8 r (8 * by) 0 h i % 2 ^ 64)

  small : Each1 (λ x. x < 2 ^ 64) shifted
  small = Each1-from_get_or (λ x. x < 2 ^ 64) shifted 0 (λ r h. (let e = row r h in rw e (omega arith)))

  lane : (r j : ℕ) → r < 8 → j < 8 → get_or (digits_l (2 ^ 8) 64 (number_l (2 ^ 64) shifted)) (8 * r + j) 0 ≡ cond (ltb j by) 0 (get_or lanes (8 * r + (j - by)) 0)
  lane r j h l =
      get_or_narrower (2 ^ 64) 8 (2 ^ 8) 64 shifted r j refl small l (omega arith)
      ∙ ap (λ n. get_or shifted r 0 / n % 2 ^ 8) (byte_power j)
      ∙ ap (λ n. n / 2 ^ (8 * j) % 2 ^ 8) (row r h)
      ∙ byte_moved (number_l (2 ^ 8) (chunk (8 * r) 8 lanes)) by j l
      ∙ ap (cond (ltb j by) 0) (byte_of (chunk (8 * r) 8 lanes) (j - by) (Each1-chunk (λ x. x < 2 ^ 8) (8 * r) 8 lanes (below_from_Fits w8 lanes fits)) ∙ get_or-chunk (8 * r) 8 lanes (j - by) 0 (omega arith))

pub returns-clause-each : goal.returns-clause-each
returns-clause-each c r j h l = lane c.args.lanes c.args.by c.requires.whole c.fits-lanes.1 r j h l
