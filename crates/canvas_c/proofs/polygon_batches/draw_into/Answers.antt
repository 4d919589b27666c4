use Rattle.std.proofs.Common.{◌≡◌, ◌⊎◌, ◌↔◌, ◌∙◌, inl, inr, refl, sym, ap, subst, rules, arith, ℕ, ◌*◌, ◌≤◌, Option, List, ◌++◌, take, drop, length, slice_index, FitsSigned, w32, IsTrue}
use Rattle.std.proofs.Math.Seq.{take-append_seam}
use Rattle.std.proofs.lemmas.Int.{to_z-of_z}
use Rattle.std.proofs.lemmas.List.{length-take}
use Rattle.std.proofs.lemmas.Result.{err_from_is_err_and}
use Rattle.checks.specs.Checking.{Checks, done, check}
use Rattle.checks.proofs.Checking.{pass_both, fails_before, fails_later}
use Rattle.polygons.specs.declared.rule.Rule.{Rule}
use Rattle.polygons.specs.declared.rule.Rule.TheVariants.{EvenOdd, NonZero}
use Rattle.polygons.specs.Cells.{flags_by}
use Rattle.polygons.specs.ManyRows.{row_of}
use Rattle.canvas.specs.declared.canvas.Canvas.{Canvas}
use Rattle.grid.specs.Samples.{parts_of, pattern_of}
use Rattle.fills.specs.Batches.{AreFit}
use Rattle.fills.specs.Painting.{ArePainted, IsOriginInBand}
use Rattle.fills.specs.Parts.{flag_columns_of, counter_columns_of}
use Rattle.c_abi.specs.declared.status.Status.{Status}
use Rattle.c_abi.specs.declared.status.Status.TheVariants.{BadBatch, BadPosition, BadStructSize, BufferTooSmall}
use Rattle.c_abi.specs.Sizes.{IsOwnSize}
use Rattle.canvas_c.specs.Pieces.{has_alpha, piece_checks}
use Rattle.canvas_c.specs.Scratch.{rule_of, columns_of_blocks, flag_columns_listed, counter_columns_listed}
use Rattle.canvas_c.specs.PolygonChecks.{origin_of, shapes_listed, AreGood, HasScratch}
use Rattle.canvas_c.specs.declared.polygon_arrays.PolygonArrays.{PolygonArrays}
use Rattle.canvas_c.specs.declared.piece.CanvasHead.{CanvasHead}
use Rattle.canvas_c.proofs.Ended.{piece_fault}
use Rattle.canvas_c.proofs.polygon_batches.draw_into.Goals as goal

abbrev later_checks : CanvasHead → Option ℕ → PolygonArrays → ℕ → ℕ → Checks Status
later_checks head ids a flags counters =
    check (IsOwnSize a.struct_size 160) BadStructSize (
    check (IsOriginInBand (origin_of head)) BadPosition (
    check (HasScratch head a flags counters) BufferTooSmall (
    check (AreGood ids a) BadBatch
    done)))

-- as many columns of flags, and of counters if they are needed
abbrev IsEnough : CanvasHead → PolygonArrays → ℕ → ℕ → Type 0
IsEnough head a flags counters = (flag_columns_listed head a.fill_rule ≤ flags) × ((a.fill_rule ≡ 0) ⊎ (counter_columns_listed head ≤ counters))

scratch_of : (head : CanvasHead) (a : PolygonArrays) (flags counters : ℕ) → IsEnough head a flags counters → HasScratch head a flags counters
scratch_of head a flags counters h = record { enough_flags = h.0; enough_counters = h.1 }

lacks_scratch : (head : CanvasHead) (a : PolygonArrays) (flags counters : ℕ) → ¬ IsEnough head a flags counters → ¬ HasScratch head a flags counters
lacks_scratch head a flags counters n h = n (h.enough_flags, h.enough_counters)

even_odd : EvenOdd ≡ NonZero → ⊥
even_odd e = cc

-- the columns of the canvas that the caller names
same_flags : (canvas : Canvas) (head : CanvasHead) (a : PolygonArrays) (rule : Rule) → {n : ℕ} → canvas.width ≡ head.width → canvas.count ≡ pattern_of head.samples → rule ≡ rule_of a.fill_rule → n ≡ flag_columns_of rule canvas → n ≡ flag_columns_listed head a.fill_rule
same_flags canvas head a rule w m r e = e ∙ (λ i. parts_of (m i) * (flags_by (r i) * columns_of_blocks (w i)))

same_counters : (canvas : Canvas) (head : CanvasHead) → {n : ℕ} → canvas.width ≡ head.width → canvas.count ≡ pattern_of head.samples → n ≡ counter_columns_of canvas → n ≡ counter_columns_listed head
same_counters canvas head w m e = e ∙ (λ i. parts_of (m i) * columns_of_blocks (w i))

pub returns-in_err-rows-clause-judged : goal.returns-in_err-rows-clause-judged
returns-in_err-rows-clause-judged c =
    let head = c.args.head.now in
    let planes : ℕ = length c.args.planes.now in
    let failed = c.in_err-rows.field-0.0 in
    let p = err_from_is_err_and c.from_residual.result c.from_residual.ensures.1 in
    rw (p.1, p.2) (record {
      first = fails_before (piece_checks head planes) (later_checks head c.args.ids c.args.arrays.now (length c.args.flags.now) (length c.args.counters.now)) failed c.in_err-rows.ensures.judged;
      fault = piece_fault head planes failed c.in_err-rows.ensures.judged;
    })

pub returns-then-not-has_size-clause-judged : goal.returns-then-not-has_size-clause-judged
returns-then-not-has_size-clause-judged c =
    let head = c.args.head.now in
    let a = c.args.arrays.now in
    let lacks : ¬ IsOwnSize a.struct_size 160 = search rules in
    rw c.from.ensures (record {
      first = fails_later (piece_checks head (length c.args.planes.now)) (later_checks head c.args.ids a (length c.args.flags.now) (length c.args.counters.now)) BadStructSize c.in_ok-rows.ensures.judged.0 (inl (lacks, refl));
      fault = ((λ h. cc), (λ h. cc));
    })

pub returns-then-not-is_in_band-clause-judged : goal.returns-then-not-is_in_band-clause-judged
returns-then-not-is_in_band-clause-judged c =
    let head = c.args.head.now in
    let a = c.args.arrays.now in
    let x : FitsSigned w32 head.origin_x = search rules in
    let y : FitsSigned w32 head.origin_y = search rules in
    let size : IsOwnSize a.struct_size 160 = c.has_size.ensures.0 c.if-not-has_size.false in
    let sees : IsTrue c.is_in_band.result ↔ IsOriginInBand (origin_of head) = rw (to_z-of_z w32 head.origin_x x, to_z-of_z w32 head.origin_y y) at c.is_in_band.ensures in
    let lacks : ¬ IsOriginInBand (origin_of head) = search rules in
    rw c.from-then-not-is_in_band.ensures (record {
      first = fails_later (piece_checks head (length c.args.planes.now)) (later_checks head c.args.ids a (length c.args.flags.now) (length c.args.counters.now)) BadPosition c.in_ok-rows.ensures.judged.0 (inr (size, inl (lacks, refl)));
      fault = ((λ h. cc), (λ h. cc));
    })

pub returns-then-not-has_scratch-clause-judged : goal.returns-then-not-has_scratch-clause-judged
returns-then-not-has_scratch-clause-judged c =
    let head = c.args.head.now in
    let a = c.args.arrays.now in
    let flags : ℕ = length c.args.flags.now in
    let counters : ℕ = length c.args.counters.now in
    let x : FitsSigned w32 head.origin_x = search rules in
    let y : FitsSigned w32 head.origin_y = search rules in
    let size : IsOwnSize a.struct_size 160 = c.has_size.ensures.0 c.if-not-has_size.false in
    let sees : IsTrue c.is_in_band.result ↔ IsOriginInBand (origin_of head) = rw (to_z-of_z w32 head.origin_x x, to_z-of_z w32 head.origin_y y) at c.is_in_band.ensures in
    let band : IsOriginInBand (origin_of head) = sees.0 (search rules) in
    let are = c.in_ok-rows.ensures.judged.1 in
    let counted : c.counter_columns-counted.result ≡ counter_columns_listed head = same_counters c.in_ok-rows.rows.canvas head are.width are.count c.counter_columns-counted.ensures.value in
    let flagged : c.flag_columns-flagged.result ≡ flag_columns_listed head a.fill_rule = same_flags c.in_ok-rows.rows.canvas head a _ are.width are.count c.rule_of-rule.ensures c.flag_columns-flagged.ensures.value in
    let enough : IsTrue c.has_scratch.result ↔ IsEnough head a flags counters = rw (flagged, counted) at c.has_scratch.ensures in
    let lacks : ¬ IsEnough head a flags counters = search rules in
    rw c.from-then-not-has_scratch.ensures (record {
      first = fails_later (piece_checks head (length c.args.planes.now)) (later_checks head c.args.ids a flags counters) BufferTooSmall c.in_ok-rows.ensures.judged.0 (inr (size, inr (band, inl (lacks_scratch head a flags counters lacks, refl))));
      fault = ((λ h. cc), (λ h. cc));
    })

pub returns-in-Err-clause-judged : goal.returns-in-Err-clause-judged
returns-in-Err-clause-judged c =
    let head = c.args.head.now in
    let a = c.args.arrays.now in
    let flags : ℕ = length c.args.flags.now in
    let counters : ℕ = length c.args.counters.now in
    let x : FitsSigned w32 head.origin_x = search rules in
    let y : FitsSigned w32 head.origin_y = search rules in
    let size : IsOwnSize a.struct_size 160 = c.has_size.ensures.0 c.if-not-has_size.false in
    let sees : IsTrue c.is_in_band.result ↔ IsOriginInBand (origin_of head) = rw (to_z-of_z w32 head.origin_x x, to_z-of_z w32 head.origin_y y) at c.is_in_band.ensures in
    let band : IsOriginInBand (origin_of head) = sees.0 (search rules) in
    let are = c.in_ok-rows.ensures.judged.1 in
    let counted : c.counter_columns-counted.result ≡ counter_columns_listed head = same_counters c.in_ok-rows.rows.canvas head are.width are.count c.counter_columns-counted.ensures.value in
    let flagged : c.flag_columns-flagged.result ≡ flag_columns_listed head a.fill_rule = same_flags c.in_ok-rows.rows.canvas head a _ are.width are.count c.rule_of-rule.ensures c.flag_columns-flagged.ensures.value in
    let enough : IsTrue c.has_scratch.result ↔ IsEnough head a flags counters = rw (flagged, counted) at c.has_scratch.ensures in
    let scratch = scratch_of head a flags counters (enough.0 (search rules)) in
    let wrong = c.in-Err.ensures.wrong in
    rw c.of_batch.ensures (record {
      first = fails_later (piece_checks head (length c.args.planes.now)) (later_checks head c.args.ids a flags counters) BadBatch c.in_ok-rows.ensures.judged.0 (inr (size, inr (band, inr (scratch, inl (wrong.0, refl)))));
      fault = (inr refl, wrong.1);
    })

pub draw_polygons-requires-clause-counted : goal.draw_polygons-requires-clause-counted
draw_polygons-requires-clause-counted c nonzero =
    let a = c.args.arrays.now in
    let counted : ℕ = c.counter_columns-counted.result in
    let enough : (c.flag_columns-flagged.result ≤ length c.args.flags.now) × ((a.fill_rule ≡ 0) ⊎ (counted ≤ length c.args.counters.now)) = c.has_scratch.ensures.0 (search rules) in
    let long = length-take c.min-counted.result c.args.counters.now in
    elim enough.1 [
      | inl zero ↦ absurd (even_odd (sym (c.rule_of-rule.ensures ∙ ap rule_of zero) ∙ nonzero))
      | inr more ↦ rw c.over-piece.ensures.rows (omega (arith, more, long, c.counter_columns-counted.ensures.value, c.min-counted.ensures))
    ]

pub returns-clause-judged : goal.returns-clause-judged
returns-clause-judged c =
    let head = c.args.head.now in
    let a = c.args.arrays.now in
    let flags : ℕ = length c.args.flags.now in
    let counters : ℕ = length c.args.counters.now in
    let x : FitsSigned w32 head.origin_x = search rules in
    let y : FitsSigned w32 head.origin_y = search rules in
    let size : IsOwnSize a.struct_size 160 = c.has_size.ensures.0 c.if-not-has_size.false in
    let sees : IsTrue c.is_in_band.result ↔ IsOriginInBand (origin_of head) = rw (to_z-of_z w32 head.origin_x x, to_z-of_z w32 head.origin_y y) at c.is_in_band.ensures in
    let band : IsOriginInBand (origin_of head) = sees.0 (search rules) in
    let are = c.in_ok-rows.ensures.judged.1 in
    let counted : c.counter_columns-counted.result ≡ counter_columns_listed head = same_counters c.in_ok-rows.rows.canvas head are.width are.count c.counter_columns-counted.ensures.value in
    let flagged : c.flag_columns-flagged.result ≡ flag_columns_listed head a.fill_rule = same_flags c.in_ok-rows.rows.canvas head a _ are.width are.count c.rule_of-rule.ensures c.flag_columns-flagged.ensures.value in
    let enough : IsTrue c.has_scratch.result ↔ IsEnough head a flags counters = rw (flagged, counted) at c.has_scratch.ensures in
    let scratch = scratch_of head a flags counters (enough.0 (search rules)) in
    (pass_both (piece_checks head (length c.args.planes.now)) (later_checks head c.args.ids a flags counters) c.in_ok-rows.ensures.judged.0 (size, (band, (scratch, (c.in-Ok.ensures.good.0, record {})))), record {})

pub returns-clause-drawn : goal.returns-clause-drawn
returns-clause-drawn c =
    let head = c.args.head.now in
    let a = c.args.arrays.now in
    let x : FitsSigned w32 head.origin_x = search rules in
    let y : FitsSigned w32 head.origin_y = search rules in
    let rows = c.in_ok-rows.rows in
    let good = c.in-Ok.ensures.good in
    record {
      rows = rows;
      are = c.in_ok-rows.ensures.judged.1;
      holds = λ right.
          let fit : AreFit c.in-Ok.polygons = rw (good.1, good.2, good.3, good.4) right in
          let painted = c.draw_polygons.ensures.painted fit in
          let placed = rw (to_z-of_z w32 head.origin_x x, to_z-of_z w32 head.origin_y y, c.over-piece.ensures.rows, c.over-piece.ensures.planes) at painted in
          let listed = rw (good.1, good.2, good.3) at placed in
          let drawn = rw (c.rule_of-rule.ensures, c.state.ensures, c.has_alpha.ensures) at listed in
          subst (ArePainted (shapes_listed (has_alpha head) c.args.ids a) (origin_of head) rows.canvas rows.first rows.end c.args.planes.now) (search rules) drawn;
    }

pub returns-clause-zeros : goal.returns-clause-zeros
returns-clause-zeros c column i =
    let head = c.args.head.now in
    let a = c.args.arrays.now in
    let are = c.in_ok-rows.ensures.judged.1 in
    let flagged : c.flag_columns-flagged.result ≡ flag_columns_listed head a.fill_rule = same_flags c.in_ok-rows.rows.canvas head a _ are.width are.count c.rule_of-rule.ensures c.flag_columns-flagged.ensures.value in
    let enough : (c.flag_columns-flagged.result ≤ length c.args.flags.now) × ((a.fill_rule ≡ 0) ⊎ (c.counter_columns-counted.result ≤ length c.args.counters.now)) = c.has_scratch.ensures.0 (search rules) in
    let taken = length-take c.flag_columns-flagged.result c.args.flags.now in
    let some = enough.0 in
    let long : length c.draw_polygons.new.flags ≡ c.flag_columns-flagged.result = omega (arith, c.draw_polygons.auto.flags, c.clear.ensures.len, taken, some) in
    let rest = drop c.flag_columns-flagged.result c.args.flags.now in
    let seam : take (flag_columns_listed head a.fill_rule) (c.draw_polygons.new.flags ++ rest) ≡ c.draw_polygons.new.flags =
    ap (λ n. take n (c.draw_polygons.new.flags ++ rest)) (sym (long ∙ flagged)) ∙ take-append_seam c.draw_polygons.new.flags rest in
    subst (λ (flags : List (List ℕ)). slice_index (row_of flags column) i ≡ 0) (sym seam) (c.draw_polygons.ensures.flags column i)
