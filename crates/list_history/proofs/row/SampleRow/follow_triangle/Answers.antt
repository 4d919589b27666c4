use Rattle.std.proofs.Common.{◌<◌, ◌≤◌, inl, inr, length, arith, length-set}
use Rattle.std.proofs.lemmas.Bool.{eqb-true, eq-eqb}
use Rattle.list_history.proofs.RowAfter.{row_skipped, row_entered, row_step, row_done}
use Rattle.list_history.proofs.row.SampleRow.follow_triangle.Goals as goal

pub returns-then-py-from : goal.returns-then-py-from
returns-then-py-from c =
    row_skipped c.args.self.now.list.now c.args.self.now.number c.args.self.now.py c.args.self.now.s c.args.self.now.columns c.args.k c.args.row.now c.rows-rows.result c.requires.triangle
    c.rows-rows.ensures c.args.self.now.few c.args.self.now.is_row c.args.self.now.is_sample (inl (omega (arith, c.from.ensures))) c.requires.before

pub returns-then-from-py : goal.returns-then-from-py
returns-then-from-py c =
    row_skipped c.args.self.now.list.now c.args.self.now.number c.args.self.now.py c.args.self.now.s c.args.self.now.columns c.args.k c.args.row.now c.rows-rows.result c.requires.triangle
    c.rows-rows.ensures c.args.self.now.few c.args.self.now.is_row c.args.self.now.is_sample (inr (omega (arith, c.from-2.ensures))) c.requires.before

pub loop-px-init : goal.loop-px-init
loop-px-init c = record {
  long = c.requires.columns;
  within = row_entered c.args.self.now.list.now c.args.self.now.number c.args.self.now.py c.args.self.now.s c.args.self.now.columns c.args.k c.triangle-triangle.result c.triangle-triangle.ensures
      c.of_triangle-reached.result.first c.args.row.now c.requires.before;
}

pub loop-px-preserved : goal.loop-px-preserved
loop-px-preserved c =
    let l = c.args.self.now.list.now in
    let px = c.loop-px.px in
    let first : c.args.self.now.columns.first ≤ px = omega (arith, c.of_triangle-reached.ensures.first, c.loop-px.auto.px) in
    let end : px < c.args.self.now.columns.end = omega (arith, c.of_triangle-reached.ensures.end, c.loop-px-test.true) in
    let long : px < length c.loop-px.row = omega (arith, end, c.loop-px.invariant.long) in
    record {
      long = rw length-set c.loop-px.invariant.long;
      within = row_step l c.args.self.now.number c.args.self.now.py c.args.self.now.s c.args.self.now.columns c.args.k c.triangle-triangle.result c.triangle-triangle.ensures
          c.of_triangle-reached.result.first px c.loop-px.row _ c.after.result c.loop-px.auto.px first end long c.loop-px.invariant.within
          (λ h. rw c.count-count.ensures at (c.after.ensures l.triangles c.args.k c.args.self.now.number l.clear c.triangle-triangle.ensures
          (eqb-true c.args.k c.args.self.now.number, eq-eqb c.args.k c.args.self.now.number) (rw c.count-count.ensures h)));
    }

pub returns : goal.returns
returns c =
    row_done c.args.self.now.list.now c.args.self.now.number c.args.self.now.py c.args.self.now.s c.args.self.now.columns c.args.k c.triangle-triangle.result c.triangle-triangle.ensures
    c.of_triangle-reached.result c.loop-px.px c.loop-px.row c.args.self.now.few c.args.self.now.is_row c.args.self.now.is_sample c.of_triangle-reached.ensures.all
    c.loop-px-test.false c.loop-px.invariant.within
