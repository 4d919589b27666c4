use Rattle.std.proofs.Common.{rules, inl, inr, refl, subst, ℕ, Option, length, FitsSigned, w32}
use Rattle.std.proofs.lemmas.Int.{to_z-of_z}
use Rattle.std.proofs.lemmas.Result.{err_from_is_err_and}
use Rattle.checks.specs.Checking.{Checks, done, check, Pass, FirstIs}
use Rattle.checks.proofs.Checking.{pass_both, fails_before, fails_later, only_allocation}
use Rattle.canvas.specs.Drawing.{HaveEnds}
use Rattle.batch.specs.Causes.{left_over}
use Rattle.batch.specs.Ids.{drawn_as}
use Rattle.batch.specs.Seen.{triangles_seen}
use Rattle.batch.proofs.Faults.{none_allocate}
use Rattle.c_abi.specs.declared.status.Status.{Status}
use Rattle.c_abi.specs.declared.status.Status.TheVariants.{BadBatch, BadIndexSize, BadStride, BadStructSize}
use Rattle.c_abi.specs.Sizes.{IsOwnSize}
use Rattle.canvas_c.specs.Arrays.{HasAllVertices, HasIndexSize, HasVertexStride, indices_of, vertices_of}
use Rattle.canvas_c.specs.Pieces.{has_alpha, piece_checks}
use Rattle.canvas_c.specs.Batches.{arrays_checks}
use Rattle.canvas_c.specs.declared.arrays.Batch.{Batch}
use Rattle.canvas_c.specs.declared.piece.CanvasHead.{CanvasHead}
use Rattle.canvas_c.proofs.Ended.{at_origin, piece_fault}
use Rattle.canvas_c.proofs.batches.draw_into.Goals as goal

abbrev later_checks : CanvasHead → Option ℕ → Batch → Checks Status
later_checks head ids batch =
    check (IsOwnSize batch.struct_size 64) BadStructSize (
    check (HasVertexStride batch) BadStride (
    check (HasIndexSize batch) BadIndexSize (
    check (Pass (arrays_checks head ids batch)) BadBatch
    done)))

pub returns-in_err-rows-clause-judged : goal.returns-in_err-rows-clause-judged
returns-in_err-rows-clause-judged c =
    let head = c.args.head.now in
    let planes : ℕ = length c.args.planes.now in
    let failed = c.in_err-rows.field-0.0 in
    let p = err_from_is_err_and c.from_residual.result c.from_residual.ensures.1 in
    rw (p.1, p.2) (record {
      first = fails_before (piece_checks head planes) (later_checks head c.args.ids c.args.batch.now) failed c.in_err-rows.ensures.judged;
      fault = piece_fault head planes failed c.in_err-rows.ensures.judged;
    })

pub returns-then-not-has_size-clause-judged : goal.returns-then-not-has_size-clause-judged
returns-then-not-has_size-clause-judged c =
    let head = c.args.head.now in
    let batch = c.args.batch.now in
    let lacks : ¬ IsOwnSize batch.struct_size 64 = search rules in
    rw c.from.ensures (record {
      first = fails_later (piece_checks head (length c.args.planes.now)) (later_checks head c.args.ids batch) BadStructSize c.in_ok-rows.ensures.judged.0 (inl (lacks, refl));
      fault = ((λ h. cc), (λ h. cc));
    })

pub returns-in_default-clause-judged : goal.returns-in_default-clause-judged
returns-in_default-clause-judged c =
    let head = c.args.head.now in
    let batch = c.args.batch.now in
    let size : IsOwnSize batch.struct_size 64 = search rules in
    let lacks : ¬ HasVertexStride batch = search rules in
    rw c.from-in_default.ensures (record {
      first = fails_later (piece_checks head (length c.args.planes.now)) (later_checks head c.args.ids batch) BadStride c.in_ok-rows.ensures.judged.0 (inr (size, inl (lacks, refl)));
      fault = ((λ h. cc), (λ h. cc));
    })

pub returns-then-not-has_index_size-clause-judged : goal.returns-then-not-has_index_size-clause-judged
returns-then-not-has_index_size-clause-judged c =
    let head = c.args.head.now in
    let batch = c.args.batch.now in
    let size : IsOwnSize batch.struct_size 64 = search rules in
    let stride : HasVertexStride batch = search rules in
    let lacks : ¬ HasIndexSize batch = search rules in
    rw c.from-then-not-has_index_size.ensures (record {
      first = fails_later (piece_checks head (length c.args.planes.now)) (later_checks head c.args.ids batch) BadIndexSize c.in_ok-rows.ensures.judged.0 (inr (size, inr (stride, inl (lacks, refl))));
      fault = ((λ h. cc), (λ h. cc));
    })

pub returns-then-not-has_all-clause-judged : goal.returns-then-not-has_all-clause-judged
returns-then-not-has_all-clause-judged c =
    let head = c.args.head.now in
    let batch = c.args.batch.now in
    let size : IsOwnSize batch.struct_size 64 = search rules in
    let stride : HasVertexStride batch = search rules in
    let index_size : HasIndexSize batch = c.has_index_size.ensures.0 (search rules) in
    let lacks : ¬ HasAllVertices batch = search rules in
    rw (c.of_batch.ensures, c.fault_of.ensures, c.left_over.ensures) (record {
      first = fails_later (piece_checks head (length c.args.planes.now)) (later_checks head c.args.ids batch) BadBatch c.in_ok-rows.ensures.judged.0 (inr (size, inr (stride, inr (index_size, inl ((λ pass. lacks pass.0), refl)))));
      fault = (inr refl, (left_over, inl (lacks, refl), refl));
    })

pub returns-in-Ok-clause-judged : goal.returns-in-Ok-clause-judged
returns-in-Ok-clause-judged c =
    let head = c.args.head.now in
    let batch = c.args.batch.now in
    let x : FitsSigned w32 head.origin_x = search rules in
    let y : FitsSigned w32 head.origin_y = search rules in
    let size : IsOwnSize batch.struct_size 64 = search rules in
    let stride : HasVertexStride batch = search rules in
    let index_size : HasIndexSize batch = c.has_index_size.ensures.0 (search rules) in
    let all : HasAllVertices batch = search rules in
    let passed : Pass (arrays_checks head c.args.ids batch) = (all, rw (to_z-of_z w32 head.origin_x x, to_z-of_z w32 head.origin_y y, c.given_indices-indices.ensures, c.in-Some.ensures.value) at c.in-Ok.ensures.judged.0) in
    (pass_both (piece_checks head (length c.args.planes.now)) (later_checks head c.args.ids batch) c.in_ok-rows.ensures.judged.0 (size, (stride, (index_size, (passed, record {})))), record {})

pub returns-in-Ok-clause-drawn : goal.returns-in-Ok-clause-drawn
returns-in-Ok-clause-drawn c =
    let head = c.args.head.now in
    let x : FitsSigned w32 head.origin_x = search rules in
    let y : FitsSigned w32 head.origin_y = search rules in
    let batch = c.args.batch.now in
    let rows = c.in_ok-rows.rows in
    let drawn = rw (to_z-of_z w32 head.origin_x x, to_z-of_z w32 head.origin_y y, c.over-piece.ensures.rows, c.over-piece.ensures.planes, c.given_indices-indices.ensures, c.has_alpha-alpha.ensures, c.in-Some.ensures.value) at c.in-Ok.ensures.drawn in
    let triangles = drawn_as c.args.ids (triangles_seen (has_alpha head) head.origin_x head.origin_y batch.draws.now (vertices_of batch) (indices_of batch)) in
    record { rows = rows; are = c.in_ok-rows.ensures.judged.1; holds = subst (HaveEnds triangles rows.canvas rows.first rows.end c.args.planes.now) (search rules) drawn }

pub returns-in-Err-clause-judged : goal.returns-in-Err-clause-judged
returns-in-Err-clause-judged c =
    let head = c.args.head.now in
    let batch = c.args.batch.now in
    let x : FitsSigned w32 head.origin_x = search rules in
    let y : FitsSigned w32 head.origin_y = search rules in
    let size : IsOwnSize batch.struct_size 64 = search rules in
    let stride : HasVertexStride batch = search rules in
    let index_size : HasIndexSize batch = c.has_index_size.ensures.0 (search rules) in
    let all : HasAllVertices batch = search rules in
    let first : FirstIs (arrays_checks head c.args.ids batch) c.in-Err.fault = inr (all, at_origin head.origin_x _ head.origin_y _ (to_z-of_z w32 head.origin_x x) (to_z-of_z w32 head.origin_y y) c.args.ids batch.draws.now (vertices_of batch) (indices_of batch) c.in-Err.fault (rw (c.given_indices-indices.ensures, c.in-Some.ensures.value) at c.in-Err.ensures.judged)) in
    let refused : Pass (arrays_checks head c.args.ids batch) → ⊥ = λ pass. only_allocation (λ fault. ⊥) (arrays_checks head c.args.ids batch) c.in-Err.fault (none_allocate head.origin_x head.origin_y c.args.ids batch.draws.now (vertices_of batch) (indices_of batch)) first pass in
    rw (c.of_batch-in-Err.ensures, c.fault_of-in-Err.ensures) (record { first = fails_later (piece_checks head (length c.args.planes.now)) (later_checks head c.args.ids batch) BadBatch c.in_ok-rows.ensures.judged.0 (inr (size, inr (stride, inr (index_size, inl (refused, refl))))); fault = (inr refl, (c.in-Err.fault, first, refl)) })
