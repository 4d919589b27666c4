use Rattle.std.proofs.Common.{◌≡◌, ◌∙◌, ℕ, ◌/◌, ◌^◌, List, length, get_or, replicate, bit_and}
use Rattle.std.specs.Simd.Lanes.{zip2}
use Rattle.std.proofs.lemmas.Nat.Bits.{shr_and_one}
use Rattle.polygons.proofs.MaskLanes.{AreLanes, itself, splat, zipped}
use Rattle.polygons.proofs.plane_sums.bit.Goals as goal

lanes : (v : List ℕ) (i : ℕ) → length v ≡ 32 → AreLanes 32 (zip2 bit_and (zip2 (λ x k. x / 2 ^ k) v (replicate 32 i)) (replicate 32 1)) (λ p. bit_and (get_or v p 0 / 2 ^ i) 1)
lanes v i long = zipped 32 bit_and _ _ _ _ (zipped 32 (λ x k. x / 2 ^ k) v (replicate 32 i) _ _ (itself 32 v long) (splat 32 i)) (splat 32 1)

pub returns-clause-whole : goal.returns-clause-whole
returns-clause-whole c = (lanes c.args.lanes c.args.i c.requires.whole).long

pub returns-clause-each : goal.returns-clause-each
returns-clause-each c row h = (lanes c.args.lanes c.args.i c.requires.whole).each row h ∙ shr_and_one (get_or c.args.lanes row 0) c.args.i
