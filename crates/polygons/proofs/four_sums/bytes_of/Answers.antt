use Rattle.std.proofs.Common.{◌≡◌, ◌∙◌, arith, ℕ, ◌%◌, ◌<◌, List, length, get_or, map, replicate, bit_and}
use Rattle.std.specs.Simd.Lanes.{zip2}
use Rattle.std.proofs.lemmas.List.{map-id}
use Rattle.std.proofs.lemmas.Simd.{Each1-from_get_or}
use Rattle.std.proofs.lemmas.Nat.{and_mask}
use Rattle.polygons.proofs.MaskLanes.{AreLanes, itself, splat, zipped}
use Rattle.polygons.proofs.four_sums.bytes_of.Goals as goal

module _ (v : List ℕ) (long : length v ≡ 32) where
  masked : AreLanes 32 (zip2 bit_and v (replicate 32 255)) (λ q. bit_and (get_or v q 0) 255)
  masked = zipped 32 bit_and v (replicate 32 255) _ _ (itself 32 v long) (splat 32 255)

  byte : (q : ℕ) → q < 32 → get_or (zip2 bit_and v (replicate 32 255)) q 0 ≡ get_or v q 0 % 256
  byte q h = masked.each q h ∙ and_mask (get_or v q 0) 8

  bytes : AreLanes 32 (map (λ x. x) (zip2 bit_and v (replicate 32 255))) (λ q. get_or v q 0 % 256)
  bytes = rw (map-id (zip2 bit_and v (replicate 32 255))) (record { long = masked.long; each = byte })

pub overflow_cast-result : goal.overflow_cast-result
overflow_cast-result c =
    let long = (masked c.args.sums c.requires).long in
    Each1-from_get_or _ _ 0 (λ q h.
    let l : q < 32 = omega arith in
    rw (byte c.args.sums c.requires q l) (record { fits = omega arith }))

pub returns-clause-whole : goal.returns-clause-whole
returns-clause-whole c = (bytes c.args.sums c.requires).long

pub returns-clause-each : goal.returns-clause-each
returns-clause-each c row h = (bytes c.args.sums c.requires).each row h
