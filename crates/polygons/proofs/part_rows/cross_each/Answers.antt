use Rattle.std.proofs.Common.{◌∙◌, sym, refl, subst, arith, true, ◌+◌, ◌<◌, ℤ, pos, slice_index_or}
use Rattle.std.proofs.lemmas.Bool.{false≢true}
use Rattle.polygons.specs.Rows.{from_column}
use Rattle.polygons.specs.Cells.{signed, IsAdded}
use Rattle.polygons.proofs.Exact.{within64}
use Rattle.polygons.proofs.PartRows.{read_between, one_counted, none_more}
use Rattle.polygons.proofs.part_rows.cross_each.Goals as goal
use Rattle.polygons.proofs.part_rows.cross_each.Goals.{then-is_between, else-is_between}

pub loop-s-preserved : goal.loop-s-preserved
loop-s-preserved g c =
    let s = c.loop-s.s in let row = c.args.row in
    let columns = c.args.columns.now in let from = c.args.from.now in let to = c.args.to.now in
    let small : s < 4 = omega (arith, c.loop-s-test.true, c.requires.size) in
    let tells = read_between c.is_between.result from to row s small c.requires.from c.requires.to c.is_between.ensures in
    elim c.if-is_between.branch [
      | then-is_between w ↦
          let added = subst (λ (z : ℤ). IsAdded c.args.rule s row (row + 1) (λ _ k. signed c.args.down (from_column z (pos 1) k)) c.loop-s.flags c.loop-s.counters w.cross.new.flags w.cross.new.counters)
          (within64 (slice_index_or columns s (pos 0)) (c.requires.columns s small)) w.cross.ensures in
          rw (w.flags-is, w.counters-is)
          (one_counted c.args.rule s row columns from to c.args.down true _ _ c.loop-s.flags c.loop-s.counters _ _ small c.requires.row (λ _. tells.0 w.if-is_between.true, λ _. refl) c.loop-s.invariant added)
      | else-is_between w ↦
          rw (w.flags-is, w.counters-is)
          (none_more c.args.rule s row columns from to c.args.down _ _ c.loop-s.flags c.loop-s.counters small c.requires.row (λ has. false≢true (sym w.if-is_between.false ∙ tells.1 has)) c.loop-s.invariant)
    ]
