-- Masks in which a stroke was marked.
use Rattle.std.proofs.Common.{◌≡◌, inl, inr, sym, subst, ap, ◌∙◌, arith, ℕ, ◌+◌, ◌*◌, ◌/◌, ◌%◌, ◌<◌, List, slice_index, pos, ◌+ℤ◌, ◌*ℤ◌}
use Rattle.std.proofs.lemmas.Int.{ints}
use Rattle.std.proofs.lemmas.Nat.Bits.{bit_at-zero}
use Rattle.std.specs.Int.{bit_at}
use Rattle.grid.specs.Position.{Position}
use Rattle.grid.specs.Samples.{count_of}
use Rattle.polygons.specs.Blocks.{in_block}
use Rattle.polygons.specs.Cells.{bit_in_block, mask_at, AreZeros}
use Rattle.polygons.specs.ManyRows.{row_of}
use Rattle.polygons.specs.Strip.{start_of, strip_sample}
use Rattle.polygons.specs.declared.strip.Strip.{Strip}
use Rattle.strokes.specs.declared.blocks.Blocks.{Blocks}
use Rattle.strokes.specs.declared.style.Style.{Style}
use Rattle.strokes.specs.Stroke.{StrokeCovers}
use Rattle.strokes.specs.Marking.{IsMarkedAt, MarksShape, IsStrokeMask}

sample_in : (strip : Strip) (s row column r c : ℕ) → in_block (strip_sample strip s (8 * row) (8 * column)) r c ≡ strip_sample strip s (8 * row + r) (8 * column + c)
sample_in strip s row column r c =
    let p = start_of strip s in
    let x : (p.x +ℤ pos 256 *ℤ pos (8 * column)) +ℤ pos 256 *ℤ pos c ≡ p.x +ℤ pos 256 *ℤ pos (8 * column + c) = omega (arith, ints) in
    let y : (p.y +ℤ pos (256 * (8 * row))) +ℤ pos (256 * r) ≡ p.y +ℤ pos (256 * (8 * row + r)) = omega (arith, ints) in
    λ i. record { x = x i; y = y i }

bit_of : (flags : List (List ℕ)) (columns s row column r c : ℕ) → r < 8 → c < 8
    → bit_at (mask_at flags columns ((8 * column + c) / 8) ((8 * row + r) / 8) s) (bit_in_block (8 * row + r) (8 * column + c)) ≡ bit_at (mask_at flags columns column row s) (8 * r + c)
bit_of flags columns s row column r c h l =
    let a : (8 * column + c) / 8 ≡ column = omega arith in
    let b : (8 * column + c) % 8 ≡ c = omega arith in
    let d : (8 * row + r) / 8 ≡ row = omega arith in
    let e : (8 * row + r) % 8 ≡ r = omega arith in
    λ i. bit_at (slice_index (row_of flags (s / 4 * columns + a i)) (4 * d i + s % 4)) (8 * e i + b i)

none_marked : (flags : List (List ℕ)) (columns s row k : ℕ) → AreZeros flags → IsMarkedAt flags columns s row k → ⊥
none_marked flags columns s row k zeros set =
    let word = zeros (s / 4 * columns + k / 8) (4 * (row / 8) + s % 4) in
    let bit = ap (λ w. bit_at w (bit_in_block row k)) word ∙ bit_at-zero (bit_in_block row k) in
    omega (arith, set, bit)

pub stroke_masks : (style : Style) (path : List Position) (blocks : Blocks) (old new : List (List ℕ)) → MarksShape blocks (StrokeCovers style path) old new → AreZeros old
    → (s row column : ℕ) → s < count_of blocks.strip.count → row < 8 → column < blocks.columns
    → IsStrokeMask style path (strip_sample blocks.strip s (8 * row) (8 * column)) (mask_at new blocks.columns column row s)
stroke_masks style path blocks old new m zeros s row column h l k r c small narrow =
    let at = m.bits s (8 * row + r) (8 * column + c) h (omega (arith, l, small)) (omega (arith, k, narrow)) in
    let bit = bit_of new blocks.columns s row column r c small narrow in
    let place = sample_in blocks.strip s row column r c in (
      λ set. elim (at.0 (bit ∙ set)) [
        | inl before ↦ absurd (none_marked old blocks.columns s (8 * row + r) (8 * column + c) zeros before)
        | inr covers ↦ subst (StrokeCovers style path) (sym place) covers
      ],
      λ covers. sym bit ∙ at.1 (inr (subst (StrokeCovers style path) place covers)),
    )
