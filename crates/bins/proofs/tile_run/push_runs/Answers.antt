use Rattle.std.proofs.Common.{◌≡◌, ap, ◌∙◌, subst, ℕ, ◌+◌, ◌-◌, ◌<◌, ◌≤◌, min, arith}
use Rattle.std.proofs.lemmas.Bool.{false≢true}
use Rattle.reach.specs.Reach.{IsInSpan, HaveMet, HaveReached}
use Rattle.bins.specs.Bin.{MeetsRect}
use Rattle.tiling.specs.Grid.{columns_of, rect_at}
use Rattle.bins.specs.TileRuns.{AreTileRuns}
use Rattle.bins.proofs.Gathering.{rows_past, runs_done, row_pushed, drawn_of_meets, row_met, column_met}
use Rattle.bins.proofs.tile_run.push_runs.Goals as goal
use Rattle.bins.proofs.tile_run.push_runs.Goals.{then-columns+in_ok-push, else-columns}

pub returns-in_default : goal.returns-in_default
returns-in_default c =
    runs_done c.args.list.now c.args.tiling.now c.args.first_row c.args.rows c.args.number c.args.runs.now.items
    (rows_past c.args.list.now c.args.tiling.now c.args.first_row c.args.rows c.args.number c.args.runs.now.items 0 c.args.rows c.args.triangle.now c.requires.triangle (omega arith) (omega arith)
    (λ column k low high meets. false≢true (c.in_default.ensures.some.1 (drawn_of_meets c.args.triangle.now c.args.list.now.count _ meets))) c.requires.before)

pub loop-row-init : goal.loop-row-init
loop-row-init c =
    let list = c.args.list.now in
    let tiling = c.args.tiling.now in
    let t = c.args.triangle.now in
    let have : HaveMet t tiling.side c.tiles_met.result.0 c.tiles_met.result.1 = rw c.side-side.ensures at c.tiles_met.ensures.all in
    rows_past list tiling c.args.first_row c.args.rows c.args.number c.args.runs.now.items 0 (min c.args.rows (c.max-row.result - c.args.first_row)) t c.requires.triangle (omega arith) (omega arith)
    (λ column k low high meets.
    let there = row_met t list.count tiling c.requires.limits _ _ have column (c.args.first_row + k) meets in
    let from = there.from in
    omega (arith, from, high, c.max-row.ensures)) c.requires.before

pub loop-row-preserved : goal.loop-row-preserved
loop-row-preserved c =
    let list = c.args.list.now in
    let tiling = c.args.tiling.now in
    let t = c.args.triangle.now in
    let columns = c.columns_met-columns.result in
    let row : ℕ = c.loop-row.row - c.args.first_row in
    let have : HaveMet t tiling.side c.tiles_met.result.0 c.tiles_met.result.1 = rw c.side-side.ensures at c.tiles_met.ensures.all in
    let from : c.args.first_row ≤ c.loop-row.row = omega (arith, c.loop-row.auto.row, c.max-row.ensures) in
    let below : row < c.args.rows = omega (arith, from, c.loop-row-test.true, c.min-row-end.ensures) in
    let sum : c.args.first_row + row ≡ c.loop-row.row = omega (arith, from) in
    let here : min c.args.rows row ≡ row = omega (arith, below) in
    let next : min c.args.rows (c.loop-row.row + 1 - c.args.first_row) ≡ row + 1 = omega (arith, from, below) in
    let within : columns.end ≤ columns_of tiling = omega (arith, c.columns_met-columns.ensures.end, c.up_to-columns.ensures.end, c.columns.ensures.value) in
    let reached : HaveReached t.tri list.count tiling.side c.loop-row.row c.up_to-columns.result columns = rw (c.in-Some.ensures.triangle, c.count.ensures, c.side-side.ensures) at c.columns_met-columns.ensures.all in
    let met : (column : ℕ) → MeetsRect t list.count (rect_at tiling column (c.args.first_row + row)) → IsInSpan columns column =
    (λ column meets.
    column_met t list.count tiling c.requires.limits _ _ have column c.loop-row.row (subst (λ n. MeetsRect t list.count (rect_at tiling column n)) sum meets) columns c.up_to-columns.result c.up_to-columns.ensures.first (c.up_to-columns.ensures.end ∙ ap (min c.tiles_met.result.0.end) c.columns.ensures.value) reached) in
    let before : AreTileRuns list tiling c.args.first_row c.args.rows c.args.number row c.loop-row.runs.items = rw here at c.loop-row.invariant in
    elim c.if-columns.branch [
      | then-columns+in_ok-push w ↦ rw (w.runs-is, w.in_ok-push.ensures.items, w.tiles_in-before.ensures.value, next) (row_pushed list tiling c.args.first_row c.args.rows c.args.number c.loop-row.runs.items row t columns c.requires.triangle below within met before w.if-columns.true)
      | else-columns w ↦ rw (w.runs-is, next) (rows_past list tiling c.args.first_row c.args.rows c.args.number c.loop-row.runs.items row (row + 1) t c.requires.triangle (omega arith) (omega (arith, below))
          (λ column k low high meets.
          let same : k ≡ row = omega (arith, low, high) in
          let there = met column (subst (λ n. MeetsRect t list.count (rect_at tiling column (c.args.first_row + n))) same meets) in
          let least = there.from in
          let most = there.below in
          omega (arith, least, most, w.if-columns.false)) before)
    ]

pub returns : goal.returns
returns c =
    let list = c.args.list.now in
    let tiling = c.args.tiling.now in
    let t = c.args.triangle.now in
    let have : HaveMet t tiling.side c.tiles_met.result.0 c.tiles_met.result.1 = rw c.side-side.ensures at c.tiles_met.ensures.all in
    runs_done list tiling c.args.first_row c.args.rows c.args.number c.loop-row.runs.items
    (rows_past list tiling c.args.first_row c.args.rows c.args.number c.loop-row.runs.items (min c.args.rows (c.loop-row.row - c.args.first_row)) c.args.rows t c.requires.triangle (omega arith) (omega arith)
    (λ column k low high meets.
    let there = row_met t list.count tiling c.requires.limits _ _ have column (c.args.first_row + k) meets in
    let below = there.below in
    omega (arith, below, low, high, c.min-row-end.ensures, c.loop-row-test.false)) c.loop-row.invariant)
