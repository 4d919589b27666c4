use Rattle.std.proofs.Common.{◌≡◌, refl, arith, pos, ◌-ℤ◌, w64, to_z, of_z}
use Rattle.std.proofs.lemmas.Int.{ints}
use Rattle.strokes.proofs.Lines.{left_side, right_side, top_side, bottom_side}
use Rattle.strokes.proofs.piece.Piece.square.Goals as goal

pub returns : goal.returns
returns c p =
    let w : to_z w64 (of_z w64 c.from-width.result) ≡ pos c.args.width = omega (arith, ints, c.from-width.ensures, c.requires.width) in
    let less : to_z w64 (of_z w64 (to_z w64 (of_z w64 c.from-width.result) -ℤ pos 1)) ≡ pos c.args.width -ℤ pos 1 = omega (arith, ints, c.from-width.ensures, c.requires.width) in
    let left = left_side _ c.args.center p (pos c.args.width) refl refl refl w in
    let right = right_side _ c.args.center p (pos c.args.width) refl refl refl less in
    let top = top_side _ c.args.center p (pos c.args.width) refl refl refl w in
    let bottom = bottom_side _ c.args.center p (pos c.args.width) refl refl refl less in (
      λ h. let e = h.ends in let s = h.strip in record {
        x = record { low = left.0 e.first; high = right.0 e.second };
        y = record { low = top.0 s.first; high = bottom.0 s.second };
      },
      λ h. let a = h.x in let b = h.y in record {
        ends = record { first = left.1 a.low; second = right.1 a.high };
        strip = record { first = top.1 b.low; second = bottom.1 b.high };
        other = c.everywhere.ensures p;
        disc = tt;
      },
    )
