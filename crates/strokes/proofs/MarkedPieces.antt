-- Pieces that are marked, row by row.
use Rattle.std.proofs.Common.{◌≡◌, ◌↔◌, ◌⊎◌, inl, inr, sym, subst, arith, ℕ, ◌*◌, ◌<◌, ◌≤◌, List, length, ℤ, pos, ◌+ℤ◌, ◌*ℤ◌}
use Rattle.std.proofs.lemmas.Int.{ints, clamps}
use Rattle.std.specs.Int.{int_max, int_min}
use Rattle.grid.specs.Position.{Position}
use Rattle.grid.specs.Samples.{count_of}
use Rattle.polygons.specs.Columns.{along}
use Rattle.polygons.specs.Strip.{start_of, strip_sample}
use Rattle.strokes.specs.declared.blocks.Blocks.{Blocks}
use Rattle.strokes.specs.declared.piece.Piece.{Piece}
use Rattle.strokes.specs.declared.span.Span.{Span}
use Rattle.strokes.specs.Lines.{HasColumn}
use Rattle.strokes.specs.Marking.{IsMarkedAt, Marks, MarksShape}
use Rattle.strokes.specs.Pieces.{IsInPiece}

-- ---- marks one after another
module _ (blocks : Blocks) where
  pub marked_as : (p q : ℕ → ℕ → ℕ → Type 0) (old new : List (List ℕ)) → Marks blocks p old new
      → ((s row k : ℕ) → s < count_of blocks.strip.count → row < 64 → k < 8 * blocks.columns → p s row k ↔ q s row k)
      → Marks blocks q old new
  marked_as p q old new m same = record {
    len = m.len;
    bits = λ s row k h l r. let at = m.bits s row k h l r in let part = same s row k h l r in (
      λ set. elim (at.0 set) [ inl before ↦ inl before | inr now ↦ inr (part.0 now) ],
      λ e. elim e [ inl before ↦ at.1 (inl before) | inr now ↦ at.1 (inr (part.1 now)) ],
    );
  }

  pub shape_as : (shape other : Position → Type 0) (old new : List (List ℕ)) → MarksShape blocks shape old new → ((p : Position) → shape p ↔ other p) → MarksShape blocks other old new
  shape_as shape other old new m same = marked_as _ _ old new m (λ s row k _ _ _. same (strip_sample blocks.strip s row k))

  pub marked_both : (p q : ℕ → ℕ → ℕ → Type 0) (old mid new : List (List ℕ)) → Marks blocks p old mid → Marks blocks q mid new
      → Marks blocks (λ s row k. p s row k ⊎ q s row k) old new
  marked_both p q old mid new m n = record {
    len = let a = m.len in let b = n.len in omega (arith, a, b);
    bits = λ s row k h l r. let first = m.bits s row k h l r in let second = n.bits s row k h l r in (
      λ set. elim (second.0 set) [
        | inl then ↦ elim (first.0 then) [ inl before ↦ inl before | inr now ↦ inr (inl now) ]
        | inr now ↦ inr (inr now)
      ],
      λ e. elim e [
        | inl before ↦ second.1 (inl (first.1 (inl before)))
        | inr either ↦ elim either [ inl now ↦ second.1 (inl (first.1 (inr now))) | inr now ↦ second.1 (inr now) ]
      ],
    );
  }

  pub marked_none : (p : ℕ → ℕ → ℕ → Type 0) (flags : List (List ℕ)) → ((s row k : ℕ) → p s row k → ⊥) → Marks blocks p flags flags
  marked_none p flags none = record {
    len = omega arith;
    bits = λ s row k h l r. (λ set. inl set, λ e. elim e [ inl before ↦ before | inr now ↦ absurd (none s row k now) ]);
  }

-- ---- a row of a piece
module _ (blocks : Blocks) (piece : Piece) (s row : ℕ) (span : Span) (x y : ℤ)
    (are : (k : ℤ) → HasColumn span k ↔ (HasColumn (record { first = pos 0; end = pos (8 * blocks.columns) }) k × IsInPiece piece (along (record { x = x; y = y }) k)))
    (left : x ≡ (start_of blocks.strip s).x) (top : y ≡ (start_of blocks.strip s).y +ℤ pos (256 * row))
    (first end : ℕ) (first_is : pos first ≡ int_min (int_max span.first (pos 0)) (pos (8 * blocks.columns))) (end_is : pos end ≡ int_min (int_max span.end (pos 0)) (pos (8 * blocks.columns))) where
  place : (k : ℕ) → along (record { x = x; y = y }) (pos k) ≡ strip_sample blocks.strip s row k
  place k = λ i. record { x = left i +ℤ pos 256 *ℤ pos k; y = top i }

  columns_in_piece : (k : ℕ) → k < 8 * blocks.columns → ((first ≤ k) × (k < end)) ↔ IsInPiece piece (strip_sample blocks.strip s row k)
  columns_in_piece k h = let at = are (pos k) in (
    λ p.
        let q = at.0 (record { first = omega (arith, ints, clamps, first_is, p.0, h); end = omega (arith, ints, clamps, end_is, p.1, h) }) in
        subst (IsInPiece piece) (place k) q.1,
    λ p.
        let q = at.1 (record { first = omega (arith, ints); end = omega (arith, ints, h) }, subst (IsInPiece piece) (sym (place k)) p) in
        let a = q.first in
        let b = q.end in
        (omega (arith, ints, clamps, first_is, a, h), omega (arith, ints, clamps, end_is, b, h)),
  )

  pub row_in_piece : (t j k : ℕ) → k < 8 * blocks.columns
      → ((t ≡ s) × (j ≡ row) × (first ≤ k) × (k < end)) ↔ (((t ≡ s) × (j ≡ row)) × IsInPiece piece (strip_sample blocks.strip t j k))
  row_in_piece t j k h = let at = columns_in_piece k h in (
    λ p. ((p.0, p.1), subst (λ n. IsInPiece piece (strip_sample blocks.strip n j k)) (sym (p.0)) (subst (λ n. IsInPiece piece (strip_sample blocks.strip s n k)) (sym (p.1)) (at.0 (p.2, p.3)))),
    λ p. let there = p.0 in
        let q = at.1 (subst (λ n. IsInPiece piece (strip_sample blocks.strip s n k)) (there.1) (subst (λ n. IsInPiece piece (strip_sample blocks.strip n j k)) (there.0) (p.1))) in
        (there.0, there.1, q.0, q.1),
  )

pub row_marked : (blocks : Blocks) (piece : Piece) (s row first end : ℕ) (old new : List (List ℕ)) → length new ≡ length old
    → ((t j k : ℕ) → k < 8 * blocks.columns → IsMarkedAt new blocks.columns t j k ↔ (IsMarkedAt old blocks.columns t j k ⊎ ((t ≡ s) × (j ≡ row) × (first ≤ k) × (k < end))))
    → ((t j k : ℕ) → k < 8 * blocks.columns → ((t ≡ s) × (j ≡ row) × (first ≤ k) × (k < end)) ↔ (((t ≡ s) × (j ≡ row)) × IsInPiece piece (strip_sample blocks.strip t j k)))
    → Marks blocks (λ t j k. ((t ≡ s) × (j ≡ row)) × IsInPiece piece (strip_sample blocks.strip t j k)) old new
row_marked blocks piece s row first end old new len bits part =
    marked_as blocks _ _ old new (record { len = len; bits = λ t j k _ _ h. bits t j k h }) (λ t j k _ _ h. part t j k h)
