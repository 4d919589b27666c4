use Rattle.std.proofs.Common.{◌≡◌, sym, ◌∙◌, length, arith}
use Rattle.std.proofs.lemmas.Bool.{false≢true}
use Rattle.draw_list.specs.Rows.{IsRowSpan}
use Rattle.bins.proofs.Gathering.{missed_rows}
use Rattle.bins.proofs.InRows.{candidates_past, candidates_more}
use Rattle.bins.proofs.candidates.candidates_of.Goals as goal
use Rattle.bins.proofs.candidates.candidates_of.Goals.{then-has_row+in_ok-push, else-has_row}

pub loop-number-preserved : goal.loop-number-preserved
loop-number-preserved c =
    let list = c.args.list.now in
    let tiling = c.args.tiling.now in
    elim c.if-has_row.branch [
      | then-has_row+in_ok-push w ↦ rw (w.numbers-is, w.in_ok-push.ensures.items) (candidates_more list tiling c.args.first_row c.args.rows c.loop-number.number c.loop-number.numbers.items c.loop-number.invariant)
      | else-has_row w ↦ rw w.numbers-is (candidates_past list tiling c.args.first_row c.args.rows c.loop-number.number c.loop-number.numbers.items c.loop-number.invariant (λ t tile e below meets.
          let span : IsRowSpan t.tri c.rows.result = rw e at c.rows.ensures in
          missed_rows t list.count tiling c.args.first_row c.args.rows tile c.rows.result c.pixel_rows-top.ensures.limits span (λ j from below_end above before. false≢true (sym w.if-has_row.false ∙ c.has_row.ensures.all j from below_end (omega (arith, above)) (omega (arith, before)))) below meets))
    ]

pub returns-clause-numbers : goal.returns-clause-numbers
returns-clause-numbers c =
    let all : c.loop-number.number ≡ length c.args.list.now.triangles = omega arith in
    rw all at c.loop-number.invariant
