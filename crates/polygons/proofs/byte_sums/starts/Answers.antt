use Rattle.std.proofs.Common.{◌≡◌, ◌∙◌, arith, ℕ, ◌+◌, ◌*◌, ◌/◌, ◌%◌, ◌^◌, ◌<◌, List, length, get_or, map, replicate}
use Rattle.std.specs.Simd.Lanes.{zip2}
use Rattle.std.proofs.lemmas.List.{map-id}
use Rattle.std.proofs.lemmas.Simd.{Each1-from_get_or}
use Rattle.polygons.proofs.MaskLanes.{AreLanes, splat, zipped}
use Rattle.polygons.proofs.ByteSums.{sum8, sum32, raised}
use Rattle.polygons.proofs.byte_sums.starts.Goals as goal

module _ (sums : List ℕ) (long : length sums ≡ 8) (small : (r : ℕ) → r < 8 → (get_or sums r 0 + 64) % 2 ^ 32 < 128) where
  abbrev moved_up : List ℕ
  moved_up = zip2 sum32 sums (replicate 8 64)

  bytes : AreLanes 8 (zip2 sum8 (map (λ x. x) moved_up) (replicate 8 64)) (λ r. ((get_or sums r 0 + 64) % 2 ^ 32 + 64) % 256)
  bytes = rw (map-id moved_up) (zipped 8 sum8 moved_up (replicate 8 64) _ _ (raised 8 sums 64 long) (splat 8 64))

  byte_is : (r : ℕ) → r < 8 → ((get_or sums r 0 + 64) % 2 ^ 32 + 64) % 256 ≡ (get_or sums r 0 + 128) % 256
  byte_is r h = omega arith

pub overflow_cast-sums : goal.overflow_cast-sums
overflow_cast-sums c =
    let all = raised 8 c.args.sums 64 c.requires.whole in
    let long = all.long in
    Each1-from_get_or _ _ 0 (λ r h.
    let l : r < 8 = omega arith in
    let small = c.requires.small r l in
    rw (all.each r l) (record { fits = omega arith }))

pub lanes_of_rows-requires : goal.lanes_of_rows-requires
lanes_of_rows-requires c = (bytes c.args.sums c.requires.whole c.requires.small).long

pub returns-clause-each : goal.returns-clause-each
returns-clause-each c r j h l =
    let e : (8 * r + j) / 8 ≡ r = omega arith in
    let all = zip2 sum8 (map (λ (x : ℕ). x) (moved_up c.args.sums c.requires.whole c.requires.small)) (replicate 8 64) in
    c.lanes_of_rows.ensures.each (8 * r + j) (omega arith) ∙ (λ i. get_or all (e i) 0) ∙ (bytes c.args.sums c.requires.whole c.requires.small).each r h ∙ byte_is c.args.sums c.requires.whole c.requires.small r h
