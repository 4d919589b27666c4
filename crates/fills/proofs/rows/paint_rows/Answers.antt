use Rattle.std.proofs.Common.{◌≡◌, ap, subst, arith, rules, ℕ, ◌+◌, ◌-◌, ◌*◌, ◌/◌, ◌<◌, ◌≤◌, min, length}
use Rattle.std.proofs.lemmas.List.{length-take}
use Rattle.grid.specs.Samples.{parts_of}
use Rattle.grid.specs.declared.sample_count.SampleCount.{SampleCount}
use Rattle.lanes.specs.Fragment.{FlatFragment}
use Rattle.polygons.specs.declared.rule.Rule.{Rule}
use Rattle.polygons.specs.declared.rule.Rule.TheVariants.{EvenOdd, NonZero}
use Rattle.polygons.specs.Cells.{flags_by}
use Rattle.canvas.specs.Layout.{columns_of, planes_of_row}
use Rattle.blocks.proofs.Places.{part_within}
use Rattle.block_fills.specs.Parts.{RowsPaint}
use Rattle.fills.specs.Parts.{MeetsHere}
use Rattle.block_fills.proofs.Joined.{rows_none, rows_same}
use Rattle.fills.proofs.TileRows.{one_row_more, in_window, polygon_painted, zeros_of_part, zeros_put}
use Rattle.fills.proofs.rows.paint_rows.Goals as goal

-- the columns of the window have their flags
enough_flags : (count : SampleCount) (rule : Rule) (parts each columns most flags : ℕ) → parts ≡ parts_of count → each ≡ flags_by rule → columns ≤ most → parts_of count * (flags_by rule * most) ≤ flags → parts * (each * columns) ≤ flags
enough_flags count rule parts each columns most flags is by few h = rw (is, by) (by_rule rule h)
  where
    by_rule : (rule : Rule) → parts_of count * (flags_by rule * most) ≤ flags → parts_of count * (flags_by rule * columns) ≤ flags
    by_rule EvenOdd h = let more : flags_by EvenOdd * columns ≤ flags_by EvenOdd * most = omega arith in grind (arith, more, h)
    by_rule NonZero h = let more : flags_by NonZero * columns ≤ flags_by NonZero * most = omega arith in grind (arith, more, h)

pub returns-then-window-clause-painted : goal.returns-then-window-clause-painted
returns-then-window-clause-painted c =
    let rows = c.args.rows.now in
    let polygon = c.args.polygon.now in
    let origin = c.args.origin.now in
    let w = c.of-window.result in
    polygon_painted polygon origin rows.canvas rows.first rows.end c.args.samples.now c.args.samples.now
    (rows_none _ rows.canvas rows.first rows.end (MeetsHere polygon origin rows.canvas.count) c.args.samples.now
    (λ i j s h m. let inside = in_window polygon origin rows.canvas c.extent.result w c.extent.ensures.holds c.of-window.ensures.holds rows.first rows.end i j s rows.within h m in omega (arith, inside.0, inside.1, c.if-window.true)))

pub loop-row-init : goal.loop-row-init
loop-row-init c =
    let rows = c.args.rows.now in
    let polygon = c.args.polygon.now in
    let origin = c.args.origin.now in
    let w = c.of-window.result in
    record {
      painted = rows_none c.fragment-fragment.result rows.canvas rows.first rows.end (λ i j s. (j / 64 < c.max-row.result) × MeetsHere polygon origin rows.canvas.count i j s) c.args.samples.now
          (λ i j s h p. let inside = in_window polygon origin rows.canvas c.extent.result w c.extent.ensures.holds c.of-window.ensures.holds rows.first rows.end i j s rows.within h p.1 in let from = h.from in omega (arith, inside.2, from, p.0, c.max-row.ensures));
      flags = c.requires.flags;
    }

pub slice_bounds-paint_row-end-in-loop-row-4 : goal.slice_bounds-paint_row-end-in-loop-row-4
slice_bounds-paint_row-end-in-loop-row-4 c =
    let rows = c.args.rows.now in
    let row = c.loop-row.row in
    let each : ℕ = c.planes_of_row-each.result in
    let from : rows.first ≤ row = omega (arith, c.loop-row.auto.row, c.max-row.ensures) in
    let below : row < rows.end = omega (arith, c.loop-row-test.true, c.min-row-end.ensures) in
    let room = part_within (row - rows.first) (rows.end - rows.first) (planes_of_row rows.canvas) (omega (arith, from, below)) in
    let fits : (row - rows.first) * each + each ≤ length c.loop-row.samples = rw c.planes_of_row-each.ensures.value (omega (arith, room, c.requires.samples, c.loop-row.auto.samples)) in
    search rules

pub paint_row-requires-clause-held : goal.paint_row-requires-clause-held
paint_row-requires-clause-held c i j s h m =
    let rows = c.args.rows.now in
    let polygon = c.args.polygon.now in
    let origin = c.args.origin.now in
    let w = c.of-window.result in
    let row = c.loop-row.row in
    let below : row < rows.end = omega (arith, c.loop-row-test.true, c.min-row-end.ensures) in
    let inside = in_window polygon origin rows.canvas c.extent.result w c.extent.ensures.holds c.of-window.ensures.holds row (row + 1) i j s (let within = rows.within in omega (arith, below, within)) h m in
    (inside.0, omega (arith, inside.1, c.if-window.false))

pub paint_row-requires-clause-flags : goal.paint_row-requires-clause-flags
paint_row-requires-clause-flags c = zeros_of_part c.loop-row.flags (c.parts-parts.result * (c.flags.result * (c.of-window.result.right - c.of-window.result.left))) c.loop-row.invariant.flags

pub loop-row-preserved : goal.loop-row-preserved
loop-row-preserved c =
    let rows = c.args.rows.now in
    let polygon = c.args.polygon.now in
    let origin = c.args.origin.now in
    let w = c.of-window.result in
    let row = c.loop-row.row in
    let each : ℕ = c.planes_of_row-each.result in
    let a : ℕ = (row - rows.first) * each in
    let from : rows.first ≤ row = omega (arith, c.loop-row.auto.row, c.max-row.ensures) in
    let below : row < rows.end = omega (arith, c.loop-row-test.true, c.min-row-end.ensures) in
    let many : a + each - a ≡ planes_of_row rows.canvas = omega (arith, c.planes_of_row-each.ensures.value) in
    let at : a ≡ (row - rows.first) * planes_of_row rows.canvas = ap (λ n. (row - rows.first) * n) c.planes_of_row-each.ensures.value in
    let room = part_within (row - rows.first) (rows.end - rows.first) (planes_of_row rows.canvas) (omega (arith, from, below)) in
    let flagged : ℕ = c.parts-parts.result * (c.flags.result * (w.right - w.left)) in
    let flags_fit : flagged ≤ length c.loop-row.flags =
    enough_flags rows.canvas.count polygon.rule c.parts-parts.result c.flags.result (w.right - w.left) (8 * columns_of rows.canvas) (length c.loop-row.flags) c.parts-parts.ensures c.flags.ensures.value (omega (arith, c.of-window.ensures.columns)) (omega (arith, c.requires.columns, c.loop-row.auto.flags)) in
    record {
      painted = one_row_more c.fragment-fragment.result rows.canvas rows.first rows.end row from (MeetsHere polygon origin rows.canvas.count) c.loop-row.samples c.paint_row.new.samples (a + each - a) a
          (omega (arith, room, many, at, c.requires.samples, c.loop-row.auto.samples)) (omega (arith, c.paint_row.auto.samples, room, many, at, c.requires.samples, c.loop-row.auto.samples)) many at c.paint_row.ensures.painted c.args.samples.now c.loop-row.invariant.painted;
      flags = zeros_put c.loop-row.flags c.paint_row.new.flags flagged flags_fit (let long = length-take flagged c.loop-row.flags in omega (arith, c.paint_row.auto.flags, long, flags_fit)) c.loop-row.invariant.flags c.paint_row.ensures.flags;
    }

pub returns-clause-painted : goal.returns-clause-painted
returns-clause-painted c =
    let rows = c.args.rows.now in
    let polygon = c.args.polygon.now in
    let origin = c.args.origin.now in
    let w = c.of-window.result in
    let row = c.loop-row.row in
    let f = c.fragment-fragment.result in
    let past : min rows.end w.bottom ≤ row = omega (arith, c.loop-row-test.false, c.min-row-end.ensures) in
    let all : RowsPaint f rows.canvas rows.first rows.end (MeetsHere polygon origin rows.canvas.count) c.args.samples.now c.loop-row.samples =
    rows_same f rows.canvas rows.first rows.end (λ i j s. (j / 64 < row) × MeetsHere polygon origin rows.canvas.count i j s) (MeetsHere polygon origin rows.canvas.count) c.args.samples.now c.loop-row.samples c.loop-row.invariant.painted
    (λ i j s h m. let inside = in_window polygon origin rows.canvas c.extent.result w c.extent.ensures.holds c.of-window.ensures.holds rows.first rows.end i j s rows.within h m in let end = h.below in (omega (arith, inside.3, end, past), m))
    (λ i j s h p. p.1) in
    polygon_painted polygon origin rows.canvas rows.first rows.end c.args.samples.now c.loop-row.samples
    (subst (λ (u : FlatFragment). RowsPaint u rows.canvas rows.first rows.end (MeetsHere polygon origin rows.canvas.count) c.args.samples.now c.loop-row.samples) c.fragment-fragment.ensures all)
