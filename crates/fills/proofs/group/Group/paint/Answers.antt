use Rattle.std.proofs.Common.{rules, sym, ap, subst, arith, ◌≡◌, ◌+◌, ◌-◌, ◌*◌, ◌<◌, ◌≤◌, get_or, length, ℕ, [], ◌∷◌}
use Rattle.canvas.specs.Layout.{planes_of_row}
use Rattle.blocks.proofs.Places.{part_within}
use Rattle.fills.specs.Batches.{shape_in, shapes_between}
use Rattle.fills.specs.Painting.{Shape, ArePainted}
use Rattle.fills.specs.declared.group.Span.{Span}
use Rattle.fills.specs.Groups.{span_of}
use Rattle.fills.specs.Parts.{LiesInRows}
use Rattle.fills.proofs.Batches.{none_met}
use Rattle.fills.proofs.Groups.{lies_nowhere, none, single_painted}
use Rattle.fills.proofs.TileRows.{one_row_painted, all_rows}
use Rattle.fills.proofs.group.Group.paint.Goals as goal

pub polygon-polygon-requires-clause-seen : goal.polygon-polygon-requires-clause-seen
polygon-polygon-requires-clause-seen c =
    let self = c.args.self.now in
    let place : self.first - self.first ≡ 0 = omega arith in
    let span : span_of self self.first ≡ get_or self.spans 0 none = ap (λ i. get_or self.spans i none) place in
    let none_empty : (get_or self.spans 0 none).bottom ≤ (get_or self.spans 0 none).top → ⊥ = λ e. let empty = c.is_empty.ensures.1 e in let full = c.if-not-is_empty.true in cc in
    let some : (get_or self.spans 0 none).top < (get_or self.spans 0 none).bottom = omega (arith, none_empty) in
    c.requires.ready.seen self.first (omega arith) (omega (arith, c.if-self.true)) (subst (λ (s : Span). s.top < s.bottom) (sym span) some)

pub returns-else-not-is_empty-clause-painted : goal.returns-else-not-is_empty-clause-painted
returns-else-not-is_empty-clause-painted c fit =
    let rows = c.args.rows.now in
    let self = c.args.self.now in
    let f = shape_in c.args.polygons.now c.args.style.now in
    let place : self.first - self.first ≡ 0 = omega arith in
    let span : span_of self self.first ≡ get_or self.spans 0 none = ap (λ i. get_or self.spans i none) place in
    let empty : (get_or self.spans 0 none).bottom ≤ (get_or self.spans 0 none).top = c.is_empty.ensures.0 (search rules) in
    let lies : LiesInRows (f self.first) c.args.origin.now rows.canvas (get_or self.spans 0 none).top (get_or self.spans 0 none).bottom =
    subst (λ (s : Span). LiesInRows (f self.first) c.args.origin.now rows.canvas s.top s.bottom) span (c.requires.ready.rows fit self.first (omega arith) (omega (arith, c.if-self.true))) in
    none_met f self.first (self.end - self.first) c.args.origin.now rows.canvas rows.first rows.end c.args.samples.now rows.within
    (λ i l m.
    let here : self.first ≡ i = omega (arith, l, m, c.if-self.true) in
    subst (λ n. LiesInRows (f n) c.args.origin.now rows.canvas 0 0) here (lies_nowhere (f self.first) c.args.origin.now rows.canvas _ _ empty lies))

pub paint_row-requires-clause-ready : goal.paint_row-requires-clause-ready
paint_row-requires-clause-ready c =
    let ready = c.requires.ready in
    record {
      rows = ready.rows;
      seen = ready.seen;
      some = ready.some;
      within = ready.within;
      colours = ready.colours;
      in_band = ready.in_band;
      columns = omega (arith, ready.columns, c.loop-row.auto.flags);
      zeros = c.loop-row.invariant.flags;
      counted = λ nonzero. let enough = ready.counted nonzero in omega (arith, enough, c.loop-row.auto.counters);
    }

pub returns-then-not-is_empty-clause-painted : goal.returns-then-not-is_empty-clause-painted
returns-then-not-is_empty-clause-painted c fit =
    let rows = c.args.rows.now in
    let self = c.args.self.now in
    let origin = c.args.origin.now in
    let old = c.args.samples.now in
    let new = c.paint_rows.new.samples in
    single_painted (shape_in c.args.polygons.now c.args.style.now) self.first origin rows.canvas rows.first rows.end self.end old new (omega (arith, c.if-self.true))
    (subst (λ (p : Shape). ArePainted (p ∷ []) origin rows.canvas rows.first rows.end old new) c.polygon-polygon.ensures c.paint_rows.ensures.painted)

pub slice_bounds-paint_row-end : goal.slice_bounds-paint_row-end
slice_bounds-paint_row-end c =
    let rows = c.args.rows.now in
    let row = c.loop-row.row in
    let each : ℕ = c.planes_of_row-each.result in
    let from : rows.first ≤ row = omega (arith, c.loop-row.auto.row) in
    let room = part_within (row - rows.first) (rows.end - rows.first) (planes_of_row rows.canvas) (omega (arith, from, c.loop-row-test.true)) in
    let fits : (row - rows.first) * each + each ≤ length c.loop-row.samples = rw c.planes_of_row-each.ensures.value (omega (arith, room, c.requires.samples, c.loop-row.auto.samples)) in
    search rules

pub loop-row-preserved : goal.loop-row-preserved
loop-row-preserved c =
    let rows = c.args.rows.now in
    let self = c.args.self.now in
    let row = c.loop-row.row in
    let each : ℕ = c.planes_of_row-each.result in
    let a : ℕ = (row - rows.first) * each in
    let from : rows.first ≤ row = omega (arith, c.loop-row.auto.row) in
    let many : a + each - a ≡ planes_of_row rows.canvas = omega (arith, c.planes_of_row-each.ensures.value) in
    let at : a ≡ (row - rows.first) * planes_of_row rows.canvas = ap (λ n. (row - rows.first) * n) c.planes_of_row-each.ensures.value in
    let room = part_within (row - rows.first) (rows.end - rows.first) (planes_of_row rows.canvas) (omega (arith, from, c.loop-row-test.true)) in
    record {
      painted = λ fit. one_row_painted (shapes_between c.args.polygons.now c.args.style.now self.first self.end) c.args.origin.now rows.canvas rows.first rows.end row from c.args.samples.now c.loop-row.samples c.paint_row.new.samples (a + each - a) a
          (omega (arith, room, many, at, c.requires.samples, c.loop-row.auto.samples)) (omega (arith, c.paint_row.auto.samples, room, many, at, c.requires.samples, c.loop-row.auto.samples)) many at (c.loop-row.invariant.painted fit) (c.paint_row.ensures.painted fit);
      flags = c.paint_row.ensures.flags;
    }

pub returns-clause-painted : goal.returns-clause-painted
returns-clause-painted c fit =
    let rows = c.args.rows.now in
    let self = c.args.self.now in
    all_rows (shapes_between c.args.polygons.now c.args.style.now self.first self.end) c.args.origin.now rows.canvas rows.first rows.end c.loop-row.row c.args.samples.now c.loop-row.samples (omega (arith, c.loop-row-test.false)) (c.loop-row.invariant.painted fit)
