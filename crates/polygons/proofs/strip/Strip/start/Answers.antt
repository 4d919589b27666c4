use Rattle.std.proofs.Common.{◌≡◌, ◌∙◌, ap, arith, ℕ, ◌+◌, ◌*◌, ◌<◌, ℤ, pos, ◌+ℤ◌, ◌*ℤ◌, ◌≤ℤ◌, ◌<ℤ◌, w32, to_z, of_z}
use Rattle.std.proofs.lemmas.Int.{ints}
use Rattle.grid.specs.Position.{Position}
use Rattle.grid.proofs.Bounds.{passed}
use Rattle.polygons.specs.Screen.{IsPixelInBand}
use Rattle.polygons.proofs.Samples.{offset_x, offset_y}
use Rattle.polygons.proofs.strip.Strip.start.Goals as goal

pixel_passed : (z : ℤ) → IsPixelInBand z → IsPixelInBand (to_z w32 (of_z w32 z))
pixel_passed z h = record { low = omega (arith, ints); high = omega (arith, ints) }

record IsOffset (z : ℤ) (o : ℕ) : Type 0 where
  pub low : pos 0 ≤ℤ to_z w32 (of_z w32 z)
  pub high : to_z w32 (of_z w32 z) <ℤ pos 256
  pub is : to_z w32 (of_z w32 z) ≡ pos o

offset : (z x : ℤ) (o : ℕ) → z ≡ x → x ≡ pos (256 * 0 + o) → o < 256 → IsOffset z o
offset z x o e f h = record { low = omega (arith, ints); high = omega (arith, ints); is = omega (arith, ints) }

pub place-x-requires : goal.place-x-requires
place-x-requires c =
    let o = offset c.x.result c.sample_at-offset.result.x _ c.x.ensures.value (ap (λ (p : Position). p.x) c.sample_at-offset.ensures) (offset_x c.args.self.now.count c.args.s) in
    record { pixel = pixel_passed c.args.self.now.column c.args.self.now.across; low = o.low; high = o.high }

pub place-y-requires : goal.place-y-requires
place-y-requires c =
    let o = offset c.y.result c.sample_at-offset.result.y _ c.y.ensures.value (ap (λ (p : Position). p.y) c.sample_at-offset.ensures) (offset_y c.args.self.now.count c.args.s) in
    record { pixel = pixel_passed c.args.self.now.row c.args.self.now.below; low = o.low; high = o.high }

pixel_is : (z : ℤ) → IsPixelInBand z → to_z w32 (of_z w32 z) ≡ z
pixel_is z h = omega (arith, ints)

pub returns : goal.returns
returns c =
    let x = offset c.x.result c.sample_at-offset.result.x _ c.x.ensures.value (ap (λ (p : Position). p.x) c.sample_at-offset.ensures) (offset_x c.args.self.now.count c.args.s) in
    let y = offset c.y.result c.sample_at-offset.result.y _ c.y.ensures.value (ap (λ (p : Position). p.y) c.sample_at-offset.ensures) (offset_y c.args.self.now.count c.args.s) in
    let column = pixel_is c.args.self.now.column c.args.self.now.across in
    let row = pixel_is c.args.self.now.row c.args.self.now.below in
    let across = passed c.place-x.result _ c.place-x.ensures.in_band (c.place-x.ensures.value ∙ (λ i. pos 256 *ℤ column i +ℤ x.is i)) in
    let down = passed c.place-y.result _ c.place-y.ensures.in_band (c.place-y.ensures.value ∙ (λ i. pos 256 *ℤ row i +ℤ y.is i)) in
    c.point_at.ensures ∙ (λ i. record { x = across i; y = down i })
