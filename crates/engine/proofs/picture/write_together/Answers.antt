use Rattle.std.proofs.Common.{rules, ◌≡◌, ◌∙◌, ◌+◌, min, ap, refl, sym, subst, arith}
use Rattle.std.proofs.lemmas.Result.{err_from_is_err_and}
use Rattle.tiling.specs.TileRow.{AreTileRows}
use Rattle.engine.specs.Picture.{WritesRows}
use Rattle.tiling.proofs.Tiled.{no_tiles_between, tiles_of}
use Rattle.engine.proofs.Writing.{bins_of, by_names, explains_behind, explains_of, few_bytes, more_cut, more_written, then_written}
use Rattle.engine.proofs.picture.write_together.Goals as goal
use Rattle.engine.proofs.picture.write_together.Goals.{in-Ok-drawn, in_default-drawn+in_ok-written-2}

pub returns-in_err-written : goal.returns-in_err-written
returns-in_err-written g c =
    let p = err_from_is_err_and c.from_residual.result c.from_residual.ensures.1 in
    let rows = c.args.rows in
    let above = c.loop-first.above in
    let first = c.loop-first.first in
    let batch = c.batch-batch in
    let at = c.loop-first.invariant in
    let bytes = by_names rows.list.now batch.result.list.now rows.tiling.now batch.result.tiling.now rows.tiling.now.side above above first batch.result.first batch.ensures.0 batch.ensures.1 refl refl batch.ensures.2
    (λ l side first end. AreTileRows l side first end c.in-Ok.joined.items) (rw c.in-Ok.is at c.draw-drawn.ensures.beside.joined) in
    rw (p.1, p.2)
    (record {
      rows = tt;
      fault = more_cut rows.list.now rows.tiling.now.side rows.first above c.args.before c.loop-first.written at.begin _ _ at.written first c.in_err-written.field-0.0.written _ _ at.order bytes
          (rw c.deref.ensures.value at c.in_err-written.ensures.bytes.written) (rw c.deref.ensures.value at c.in_err-written.ensures.bytes.beginning);
      write_failed = (λ _. omega (arith, c.in_err-written.ensures.bytes.failures, at.same_failures), λ _. (_, refl));
      same_failures = tt;
    })

pub write_alone-requires-clause-before : goal.write_alone-requires-clause-before
write_alone-requires-clause-before g c κs within =
    let rows = c.args.rows in
    let above = c.loop-first.above in
    let first = c.loop-first.first in
    let batch = c.batch-batch in
    let at = c.loop-first.invariant in
    let bytes = by_names rows.list.now batch.result.list.now rows.tiling.now batch.result.tiling.now rows.tiling.now.side above above first batch.result.first batch.ensures.0 batch.ensures.1 refl refl batch.ensures.2
    (λ l side first end. AreTileRows l side first end c.in-Ok.joined.items) (rw c.in-Ok.is at c.draw-drawn.ensures.beside.joined) in
    let written = more_written rows.list.now rows.tiling.now.side rows.first above c.args.before c.loop-first.written at.begin _ _ at.written first c.in_ok-written.written _ _ at.order bytes
    (rw c.deref.ensures.value at c.in_ok-written.ensures.count) (rw c.deref.ensures.value at c.in_ok-written.ensures.bytes.all) in
    omega (arith, written.many, few_bytes rows.list.now rows.tiling.now.side rows.first first written.rows rows.size.0 rows.size.1 written.are, c.requires.before)

pub returns-in_err-written-2 : goal.returns-in_err-written-2
returns-in_err-written-2 g c =
    let p = err_from_is_err_and c.from_residual-in_err-written-2.result c.from_residual-in_err-written-2.ensures.1 in
    let rows = c.args.rows in
    let above = c.loop-first.above in
    let first = c.loop-first.first in
    let batch = c.batch-batch in
    let at = c.loop-first.invariant in
    let bytes = by_names rows.list.now batch.result.list.now rows.tiling.now batch.result.tiling.now rows.tiling.now.side above above first batch.result.first batch.ensures.0 batch.ensures.1 refl refl batch.ensures.2
    (λ l side first end. AreTileRows l side first end c.in-Ok.joined.items) (rw c.in-Ok.is at c.draw-drawn.ensures.beside.joined) in
    let written = more_written rows.list.now rows.tiling.now.side rows.first above c.args.before c.loop-first.written at.begin _ _ at.written first c.in_ok-written.written _ _ at.order bytes
    (rw c.deref.ensures.value at c.in_ok-written.ensures.count) (rw c.deref.ensures.value at c.in_ok-written.ensures.bytes.all) in
    let fault = explains_of rows.list.now batch.result.list.now rows.tiling.now batch.result.tiling.now first batch.result.first rows.end batch.result.end _ _ _ _ batch.ensures.0 batch.ensures.1 batch.ensures.2 (omega (arith, batch.ensures.3)) c.in_err-written-2.ensures.fault in
    let both = rw (c.in_ok-written.ensures.bytes.failures ∙ at.same_failures) at c.in_err-written-2.ensures.write_failed in
    rw (p.1, p.2)
    (record {
      rows = tt;
      fault = explains_behind rows.list.now rows.tiling.now.side rows.first first c.args.before c.in_ok-written.written (omega (arith, at.begin, at.order)) _ _ written rows.end _ _ fault;
      write_failed = both;
      same_failures = tt;
    })

pub loop-first-preserved : goal.loop-first-preserved
loop-first-preserved g c =
    let rows = c.args.rows in
    let above = c.loop-first.above in
    let first = c.loop-first.first in
    let batch = c.batch-batch in
    let at = c.loop-first.invariant in
    let end_is = c.end-first.ensures in
    let below_end : c.end-in-loop-first-2.result ≡ min rows.end (c.end-first.result + c.args.together) =
    c.end-in-loop-first-2.ensures ∙ (c.batch-below.ensures.3 ∙ ap (λ n. min rows.end (n + c.args.together)) (c.end-in-loop-first.ensures ∙ sym end_is)) in
    let bytes = by_names rows.list.now batch.result.list.now rows.tiling.now batch.result.tiling.now rows.tiling.now.side above above first batch.result.first batch.ensures.0 batch.ensures.1 refl refl batch.ensures.2
    (λ l side first end. AreTileRows l side first end c.in-Ok.joined.items) (rw c.in-Ok.is at c.draw-drawn.ensures.beside.joined) in
    let written = more_written rows.list.now rows.tiling.now.side rows.first above c.args.before c.loop-first.written at.begin _ _ at.written first c.in_ok-written.written _ _ at.order bytes
    (rw c.deref.ensures.value at c.in_ok-written.ensures.count) (rw c.deref.ensures.value at c.in_ok-written.ensures.bytes.all) in
    let bins = bins_of rows.list.now batch.result.list.now rows.tiling.now batch.result.tiling.now c.end-first.result batch.result.end (min rows.end (c.end-first.result + c.args.together)) c.end-in-loop-first-2.result _ batch.ensures.0 batch.ensures.1 (sym end_is) below_end c.draw-drawn.ensures.beside.bins in
    elim c.match-drawn-3.branch [
      | in-Ok-drawn w ↦ record {
        begin = omega (arith, w.above-is, at.begin, at.order);
        order = omega (arith, w.above-is, end_is, batch.result.order, batch.ensures.2);
        end = omega (arith, end_is, batch.ensures.3);
        written = rw (w.above-is, w.written-is, w.output-is) written;
        tiles = rw (w.above-is, w.tiles-is) (tiles_of rows.list.now batch.result.list.now rows.tiling.now batch.result.tiling.now first batch.result.first c.end-first.result batch.result.end _ batch.ensures.0 batch.ensures.1 batch.ensures.2 (sym end_is) (rw w.in-Ok-drawn.is at c.draw-drawn.ensures.tiles));
        bins = bins;
        same_failures = rw w.output-is (c.in_ok-written.ensures.bytes.failures ∙ at.same_failures);
      }
      | in_default-drawn+in_ok-written-2 w ↦
          let drawn = by_names rows.list.now batch.result.list.now rows.tiling.now batch.result.tiling.now rows.tiling.now.side first batch.result.first batch.result.end batch.result.end batch.ensures.0 batch.ensures.1 refl batch.ensures.2 refl
          (λ l side first end. WritesRows l side first end c.in_ok-written.written w.in_ok-written-2.written (g.W.Write.contents c.ppm_rows.new.out.inner) (g.W.Write.contents w.write_alone.new.output.inner)) w.in_ok-written-2.ensures.rows in
          let all = then_written rows.list.now rows.tiling.now.side rows.first first c.args.before c.in_ok-written.written (omega (arith, at.begin, at.order)) _ _ written batch.result.end _ _ (omega (arith, batch.ensures.2, batch.result.order)) drawn in
          record {
            begin = omega (arith, w.above-is, w.end-above.ensures, at.begin, at.order, batch.ensures.2, batch.result.order);
            order = omega (arith, w.above-is, w.end-above.ensures, end_is);
            end = omega (arith, end_is, batch.ensures.3);
            written = rw (w.above-is, w.end-above.ensures, w.written-is, w.output-is) all;
            tiles = no_tiles_between rows.list.now rows.tiling.now _ _ _ (w.above-is ∙ (w.end-above.ensures ∙ sym end_is)) (rw w.tiles-is w.new-tiles-in_default-drawn.ensures.items);
            bins = bins;
            same_failures = rw w.output-is (w.in_ok-written-2.ensures.same_failures ∙ (c.in_ok-written.ensures.bytes.failures ∙ at.same_failures));
          }
    ]

pub returns-in_err-ppm_rows : goal.returns-in_err-ppm_rows
returns-in_err-ppm_rows g c =
    let p = err_from_is_err_and c.from_residual-in_err-ppm_rows.result c.from_residual-in_err-ppm_rows.ensures.1 in
    let rows = c.args.rows in
    let above = c.loop-first.above in
    let first = c.loop-first.first in
    let at = c.loop-first.invariant in
    let bytes = by_names rows.list.now c.others.result.list.now rows.tiling.now c.others.result.tiling.now rows.tiling.now.side above c.others.result.first first c.others.result.end c.others.ensures.0 c.others.ensures.1 refl c.others.ensures.2 c.others.ensures.3
    (λ l side first end. AreTileRows l side first end c.in-Ok-joined.last.items) c.in-Ok-joined.ensures.bytes in
    rw (p.1, p.2)
    (record {
      rows = tt;
      fault = more_cut rows.list.now rows.tiling.now.side rows.first above c.args.before c.loop-first.written at.begin _ _ at.written first c.in_err-ppm_rows.field-0.0.written _ _ at.order bytes
          (rw c.deref-2.ensures.value at c.in_err-ppm_rows.ensures.bytes.written) (rw c.deref-2.ensures.value at c.in_err-ppm_rows.ensures.bytes.beginning);
      write_failed = (λ _. omega (arith, c.in_err-ppm_rows.ensures.bytes.failures, at.same_failures), λ _. (_, refl));
      same_failures = tt;
    })

pub returns : goal.returns
returns g c =
    let rows = c.args.rows in
    let above = c.loop-first.above in
    let first = c.loop-first.first in
    let at = c.loop-first.invariant in
    let bytes = by_names rows.list.now c.others.result.list.now rows.tiling.now c.others.result.tiling.now rows.tiling.now.side above c.others.result.first first c.others.result.end c.others.ensures.0 c.others.ensures.1 refl c.others.ensures.2 c.others.ensures.3
    (λ l side first end. AreTileRows l side first end c.in-Ok-joined.last.items) c.in-Ok-joined.ensures.bytes in
    let written = more_written rows.list.now rows.tiling.now.side rows.first above c.args.before c.loop-first.written at.begin _ _ at.written first c.in_ok-ppm_rows.field-0 _ _ at.order bytes
    (rw c.deref-2.ensures.value at c.in_ok-ppm_rows.ensures.count) (rw c.deref-2.ensures.value at c.in_ok-ppm_rows.ensures.bytes.all) in
    let last : first ≡ rows.end = omega (arith, at.end, c.loop-first-test.false, c.end.ensures) in
    record {
      rows = subst (λ end. WritesRows rows.list.now rows.tiling.now.side rows.first end c.args.before c.in_ok-ppm_rows.field-0 (g.W.Write.contents c.args.output.now.inner) (g.W.Write.contents c.ppm_rows-2.new.out.inner)) last written;
      fault = tt;
      write_failed = search rules;
      same_failures = c.in_ok-ppm_rows.ensures.bytes.failures ∙ at.same_failures;
    }
