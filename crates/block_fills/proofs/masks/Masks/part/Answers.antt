use Rattle.std.proofs.Common.{◌≡◌, ◌∙◌, refl, sym, ap, arith, ℕ, ◌+◌, ◌*◌, ◌/◌, ◌%◌, List, [], ◌∷◌, slice_index}
use Rattle.raster.proofs.BlockDrawn.{each_of_four}
use Rattle.polygons.specs.ManyRows.{row_of}
use Rattle.block_fills.proofs.masks.Masks.part.Goals as goal

pub returns : goal.returns
returns c s h =
    let flags = c.args.self.now.flags.now in
    let each = c.args.self.now.each in
    let part : ℕ = c.args.part in
    let words : List ℕ = row_of flags (part * each + c.args.column) in
    let at : ℕ = 4 * c.args.row in
    let masks : List ℕ = slice_index words at ∷ slice_index words (at + 1) ∷ slice_index words (at + 2) ∷ slice_index words (at + 3) ∷ [] in
    let first : at ≡ at + 0 = omega arith in
    let quarter : (4 * part + s) / 4 ≡ part = omega (arith, h) in
    let index : (4 * part + s) % 4 ≡ s = omega (arith, h) in
    each_of_four (λ k. slice_index masks k ≡ slice_index words (at + k)) 4 (omega arith) (λ l. ap (slice_index words) first) (λ l. refl) (λ l. refl) (λ l. refl) s h
    ∙ ap (λ k. slice_index words (at + k)) (sym index)
    ∙ ap (λ p. slice_index (row_of flags (p * each + c.args.column)) (at + (4 * part + s) % 4)) (sym quarter)
