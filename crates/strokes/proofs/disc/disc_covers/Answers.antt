use Rattle.std.proofs.Common.{arith, ◌≡◌, ◌↔◌, ◌*◌, pos, ◌*ℤ◌, ◌≤ℤ◌, w64, to_z, of_z}
use Rattle.std.proofs.lemmas.Int.{ints}
use Rattle.grid.proofs.Bounds.{passed}
use Rattle.strokes.specs.Segment.{dot}
use Rattle.strokes.specs.Disc.{DiscCovers}
use Rattle.strokes.proofs.Comparing.{compared}
use Rattle.strokes.proofs.disc.disc_covers.Goals as goal

pub returns : goal.returns
returns c =
    let at = passed _ _ c.x.ensures.in_band c.x.ensures.value in
    let middle = passed _ _ c.x-2.ensures.in_band c.x-2.ensures.value in
    let most : to_z w64 (of_z w64 c.square.result) ≡ pos (c.args.width * c.args.width) = omega (arith, ints, c.square.ensures.size, c.square.ensures.value) in
    let m : ((pos 4 *ℤ dot c.args.center c.args.p c.args.p) ≤ℤ c.line_bound-bound.result) ↔ DiscCovers c.args.center c.args.width c.args.p =
    rw (most, at, middle) at (c.line_bound-bound.ensures.meaning (pos 4 *ℤ dot c.args.center c.args.p c.args.p)) in
    let e : to_z w64 (of_z w64 (pos 4 *ℤ to_z w64 (of_z w64 c.dot-distance.result))) ≡ pos 4 *ℤ dot c.args.center c.args.p c.args.p =
    omega (arith, ints, c.dot-distance.ensures.size, c.dot-distance.ensures.value) in
    let r : to_z w64 (of_z w64 c.line_bound-bound.result) ≡ c.line_bound-bound.result = omega (arith, ints, c.line_bound-bound.type_inv) in
    compared _ _ (pos 4 *ℤ dot c.args.center c.args.p c.args.p) c.line_bound-bound.result _ e r m
