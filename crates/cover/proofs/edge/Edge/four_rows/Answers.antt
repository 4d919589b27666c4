use Rattle.std.proofs.Common.{◌≡◌, ◌∙◌, ap₂, inl, refl, arith, to_z, of_z, w64}
use Rattle.std.proofs.lemmas.Int.{ints, to_z-of_z}
use Rattle.cover.specs.Block.{growths}
use Rattle.cover.proofs.TwoRows.{rows_kept}
use Rattle.cover.proofs.edge.Edge.four_rows.Goals as goal

pub returns : goal.returns
returns c =
    let e = c.args.self.now in
    let right : to_z w64 (of_z w64 e.right) ≡ e.right = to_z-of_z w64 e.right (omega (arith, ints, e.size.1)) in
    let down : to_z w64 (of_z w64 e.down) ≡ e.down = to_z-of_z w64 e.down (omega (arith, ints, e.size.2)) in
    rows_kept 4 c.four_rows.result e.right e.down (inl refl) e.size.1 e.size.2 c.four_rows.ensures ∙ ap₂ (growths 4) right down
