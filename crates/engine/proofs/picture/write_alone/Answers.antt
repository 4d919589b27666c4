use Rattle.std.proofs.Common.{rules, ◌≡◌, ◌∙◌, ◌+◌, ◌≤◌, ap, refl, subst, arith}
use Rattle.std.proofs.lemmas.Result.{err_from_is_err_and}
use Rattle.bins.proofs.Binned.{none_of_tiles}
use Rattle.engine.specs.Picture.{WritesRows}
use Rattle.engine.proofs.Writing.{more_cut, more_written, none_written, tile_row_of}
use Rattle.engine.proofs.picture.write_alone.Goals as goal

pub returns-in_default : goal.returns-in_default
returns-in_default g c = record {
  rows = tt;
  fault = rw c.first.ensures (omega arith, c.requires.some, (c.args.before, none_written _ _ _ _ _));
  write_failed = search rules;
  same_failures = tt;
}

pub loop-row-init : goal.loop-row-init
loop-row-init g c = record {
  rows = rw c.first-row.ensures (none_written _ _ _ _ _);
  store = refl;
  bins = none_of_tiles _ _ _ c.none-bins.ensures;
  same_failures = refl;
}

pub push_first-requires-clause-bins : goal.push_first-requires-clause-bins
push_first-requires-clause-bins g c κs within = rw (c.others.ensures.0, c.others.ensures.1) c.loop-row.invariant.bins

pub returns-in_err-written : goal.returns-in_err-written
returns-in_err-written g c =
    let p = err_from_is_err_and c.from_residual.result c.from_residual.ensures.1 in
    let from : c.args.rows.first ≤ c.loop-row.row = omega (arith, c.first-row.ensures, c.loop-row.auto.row) in
    let row = tile_row_of c.args.rows.list.now c.others.result.list.now c.args.rows.tiling.now c.others.result.tiling.now c.loop-row.row _ _ _ _ c.others.ensures.0 c.others.ensures.1 c.others.ensures.2 (ap (λ n. n + 1) c.others.ensures.2) c.clear.ensures.items c.in-Ok-push_first.ensures.bytes in
    rw (p.1, p.2)
    (record {
      rows = tt;
      fault = more_cut c.args.rows.list.now c.args.rows.tiling.now.side c.args.rows.first c.loop-row.row c.args.before c.loop-row.written from _ _ c.loop-row.invariant.rows (c.loop-row.row + 1) c.in_err-written.field-0.0.written _ _ (omega arith) row
          (rw c.deref.ensures.value at c.in_err-written.ensures.bytes.written) (rw c.deref.ensures.value at c.in_err-written.ensures.bytes.beginning);
      write_failed = (λ _. omega (arith, c.in_err-written.ensures.bytes.failures, c.loop-row.invariant.same_failures), λ _. (_, refl));
      same_failures = tt;
    })

pub loop-row-preserved : goal.loop-row-preserved
loop-row-preserved g c =
    let from : c.args.rows.first ≤ c.loop-row.row = omega (arith, c.first-row.ensures, c.loop-row.auto.row) in
    let row = tile_row_of c.args.rows.list.now c.others.result.list.now c.args.rows.tiling.now c.others.result.tiling.now c.loop-row.row _ _ _ _ c.others.ensures.0 c.others.ensures.1 c.others.ensures.2 (ap (λ n. n + 1) c.others.ensures.2) c.clear.ensures.items c.in-Ok-push_first.ensures.bytes in
    record {
      rows = more_written c.args.rows.list.now c.args.rows.tiling.now.side c.args.rows.first c.loop-row.row c.args.before c.loop-row.written from _ _ c.loop-row.invariant.rows (c.loop-row.row + 1) c.in_ok-written.written _ _ (omega arith) row
          (rw c.deref.ensures.value at c.in_ok-written.ensures.count) (rw c.deref.ensures.value at c.in_ok-written.ensures.bytes.all);
      store = c.push_first.ensures.store ∙ c.loop-row.invariant.store;
      bins = rw (c.others.ensures.0, c.others.ensures.1) at c.push_first.ensures.bins;
      same_failures = c.in_ok-written.ensures.bytes.failures ∙ c.loop-row.invariant.same_failures;
    }

pub returns : goal.returns
returns g c =
    let last : c.loop-row.row ≡ c.args.rows.end = omega (arith, c.loop-row-test.false, c.loop-row.auto.row-end, c.end-row-end.ensures, c.first-row.ensures, c.requires.some) in
    record {
      rows = subst (λ row. WritesRows c.args.rows.list.now c.args.rows.tiling.now.side c.args.rows.first row c.args.before c.loop-row.written (g.W.Write.contents c.args.output.now.inner) (g.W.Write.contents c.loop-row.output.inner)) last c.loop-row.invariant.rows;
      fault = tt;
      write_failed = search rules;
      same_failures = c.loop-row.invariant.same_failures;
    }
