use Rattle.std.proofs.Common.{◌≡◌, refl, sym, ◌∙◌, arith, ℤ, pos}
use Rattle.std.proofs.lemmas.Int.{ints}
use Rattle.grid.specs.Position.{Position}
use Rattle.polygons.specs.declared.edge.Edge.{Edge}
use Rattle.polygons.specs.Blocks.{down}
use Rattle.polygons.specs.Columns.{along}
use Rattle.polygons.specs.Rows.{direction}
use Rattle.polygons.specs.Strip.{start_of, strip_sample}
use Rattle.polygons.proofs.Counters.{direction-none}
use Rattle.polygons.proofs.Plotted.{signed_none, plotted_as, plotted_apart}
use Rattle.polygons.proofs.Outside.{crossed_nowhere}
use Rattle.polygons.proofs.plot.plot_edge.Goals as goal

pub plot_short-requires-clause-short : goal.plot_short-requires-clause-short
plot_short-requires-clause-short g c = c.is_short.ensures.0 c.if-is_short.true

pub returns-then-is_short : goal.returns-then-is_short
returns-then-is_short g c = plotted_as c.args.starts.now.strip _ _ _ _ c.turned_down-forward.ensures.same c.plot_short.ensures

pub returns-then-is_apart : goal.returns-then-is_apart
returns-then-is_apart g c =
    plotted_apart c.args.starts.now.strip _ c.args.cells.now
    (λ s row k y z. crossed_nowhere c.args.edge c.args.starts.now.strip c.args.cells.now.columns s row k (c.if-is_apart.ensures.0 refl) y z)

pub returns-then-y : goal.returns-then-y
returns-then-y g c = plotted_as c.args.starts.now.strip _ _ _ _ c.turned_down-forward.ensures.same c.plot_long.ensures

-- a level edge is crossed nowhere
level : (e : Edge) (p : Position) (k : ℤ) → e.a.y ≡ e.b.y → direction e (along p k) ≡ pos 0
level e p k same = direction-none e p k (λ x. let t = x.0 in let b = x.1 in omega (arith, ints)) (λ x. let t = x.0 in let b = x.1 in omega (arith, ints))

pub returns-else-y : goal.returns-else-y
returns-else-y g c =
    let f = c.turned_down-forward in
    let a = c.y.ensures in let b = c.y-2.ensures in
    let a' = a.in_band in let b' = b.in_band in
    let same : f.result.0.a.y ≡ f.result.0.b.y = let r = f.ensures.runs_down in let i = c.if-y.false in omega (arith, ints, a.value, b.value) in
    plotted_apart c.args.starts.now.strip _ c.args.cells.now
    (λ s row k y z. sym (f.ensures.same (strip_sample c.args.starts.now.strip s row k)) ∙ signed_none f.result.1 _ (level f.result.0 (down (start_of c.args.starts.now.strip s) row) (pos k) same))
