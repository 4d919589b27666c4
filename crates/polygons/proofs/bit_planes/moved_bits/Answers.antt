use Rattle.std.proofs.Common.{◌≡◌, ap, ◌∙◌, ℕ, ◌*◌, ◌%◌, ◌^◌, List, length, get_or, replicate}
use Rattle.std.specs.Int.{bit_at}
use Rattle.std.specs.Simd.Lanes.{zip2}
use Rattle.polygons.proofs.MaskLanes.{AreLanes, itself, splat, zipped}
use Rattle.polygons.proofs.BitPlanes.{bit_in_byte}
use Rattle.polygons.proofs.bit_planes.moved_bits.Goals as goal

abbrev shifted : ℕ → ℕ → ℕ
shifted x k = x * 2 ^ k % 2 ^ 8

lanes : (v : List ℕ) (by : ℕ) → length v ≡ 32 → AreLanes 32 (zip2 shifted v (replicate 32 by)) (λ p. shifted (get_or v p 0) by)
lanes v by long = zipped 32 shifted v (replicate 32 by) _ _ (itself 32 v long) (splat 32 by)

pub returns-clause-whole : goal.returns-clause-whole
returns-clause-whole c = (lanes c.args.bits c.args.by c.requires.whole).long

pub returns-clause-each : goal.returns-clause-each
returns-clause-each c row j h l = ap (λ n. bit_at n j) ((lanes c.args.bits c.args.by c.requires.whole).each row h) ∙ bit_in_byte (get_or c.args.bits row 0) c.args.by j l
