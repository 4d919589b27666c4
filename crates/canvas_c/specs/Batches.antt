-- The checks of a call that draws a batch.
use Rattle.std.specs.Prelude.{◌≡◌, ℕ, Option}
use Rattle.checks.specs.Checking.{Checks, done, check, followed_by, Pass, FirstIs}
use Rattle.batch.specs.Causes.{number_of, left_over}
use Rattle.batch.specs.Checks.{batch_checks}
use Rattle.batch.specs.declared.fault.BatchFault.{BatchFault}
use Rattle.c_abi.specs.Sizes.{IsOwnSize}
use Rattle.c_abi.specs.declared.fault.Fault.{Fault}
use Rattle.c_abi.specs.declared.status.Status.{Status}
use Rattle.c_abi.specs.declared.status.Status.TheVariants.{BadBatch, BadIndexSize, BadStride, BadStructSize}
use Rattle.canvas_c.specs.declared.arrays.Batch.{Batch}
use Rattle.canvas_c.specs.declared.piece.CanvasHead.{CanvasHead}
use Rattle.canvas_c.specs.Arrays.{HasAllVertices, HasIndexSize, HasVertexStride, indices_of, vertices_of}
use Rattle.canvas_c.specs.Pieces.{piece_checks}

-- The checks of the batch itself on this canvas, drawn in its colours or by ids. No draw has the vertices that are not in memory.
abbrev pub arrays_checks : CanvasHead → Option ℕ → Batch → Checks BatchFault
arrays_checks head ids batch =
    check (HasAllVertices batch) left_over (
    batch_checks head.origin_x head.origin_y ids batch.draws.now (vertices_of batch) (indices_of batch))

-- The checks of a call that draws a batch.
abbrev pub draw_call_checks : CanvasHead → ℕ → Option ℕ → Batch → Checks Status
draw_call_checks head planes ids batch =
    followed_by (piece_checks head planes) (
    check (IsOwnSize batch.struct_size 64) BadStructSize (
    check (HasVertexStride batch) BadStride (
    check (HasIndexSize batch) BadIndexSize (
    check (Pass (arrays_checks head ids batch)) BadBatch
    done))))

-- What is wrong with a batch, by its numbers.
abbrev pub batch_fault : BatchFault → Fault
batch_fault fault = record { cause = number_of fault.cause; draw = fault.draw; element = fault.element; value = fault.value }

-- The batch has this first error.
abbrev pub IsFirstOfBatch : CanvasHead → Option ℕ → Batch → Fault → Type 0
IsFirstOfBatch head ids batch fault = (first : BatchFault) × FirstIs (arrays_checks head ids batch) first × (fault ≡ batch_fault first)
