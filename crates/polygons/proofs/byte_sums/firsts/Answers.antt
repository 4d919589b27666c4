use Rattle.std.proofs.Common.{◌≡◌, ◌∙◌, arith, ℕ, ◌+◌, ◌*◌, ◌%◌, ◌^◌, ◌<◌, ◌≤◌}
use Rattle.std.proofs.lemmas.Nat.Bits.{bit_at-lt}
use Rattle.polygons.proofs.MaskLanes.{zipped}
use Rattle.polygons.proofs.ByteSums.{difference8}
use Rattle.polygons.proofs.byte_sums.firsts.Goals as goal

near : (d u : ℕ) → d < 2 → u < 2 → (d + 4294967295 * u + 1) % 2 ^ 32 ≤ 2
near d u h l = omega arith

in_byte : (d u : ℕ) → d < 2 → u < 2 → difference8 d u ≡ (d + 4294967295 * u) % 256
in_byte d u h l = omega arith

pub returns : goal.returns
returns c =
    let marks = c.args.marks in
    let downs = c.lanes_of_mask.ensures in
    let ups = c.lanes_of_mask-2.ensures in
    let all = zipped 64 difference8 _ _ _ _ (record { long = downs.whole; each = downs.each }) (record { long = ups.whole; each = ups.each }) in
    record {
      whole = all.long;
      small = λ i h. near _ _ (bit_at-lt marks.downs i) (bit_at-lt marks.ups i);
      each = λ i h. all.each i h ∙ in_byte _ _ (bit_at-lt marks.downs i) (bit_at-lt marks.ups i);
    }
