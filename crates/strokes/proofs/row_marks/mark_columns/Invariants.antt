-- Of the columns to be marked those of the blocks before this one are.
use Rattle.std.proofs.Common.{◌≡◌, ◌⊎◌, ◌↔◌, ℕ, ◌*◌, ◌<◌, ◌≤◌}
use Rattle.strokes.specs.Marking.{IsMarkedAt}
use Rattle.strokes.proofs.row_marks.mark_columns.Given as goal

abbrev pub invariant-loop-block : goal.invariant-loop-block
invariant-loop-block l =
    (t j k : ℕ) → k < 8 * l.columns
    → IsMarkedAt l.flags l.columns t j k ↔ (IsMarkedAt l.fn.flags l.columns t j k ⊎ ((t ≡ l.s) × (j ≡ l.row) × (l.first ≤ k) × (k < l.end) × (k < 8 * l.block)))
