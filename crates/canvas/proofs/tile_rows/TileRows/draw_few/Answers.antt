use Rattle.std.proofs.Common.{rules, ◌≡◌, ◌∙◌, ◌<◌, sym, ap, subst, length, take, arith}
use Rattle.std.proofs.Math.Seq.{take-length}
use Rattle.canvas.specs.Drawing.{HaveEnds}
use Rattle.canvas.proofs.Sources.{one_taken}
use Rattle.canvas.proofs.tile_rows.TileRows.draw_few.Goals as goal

pub loop-k-preserved : goal.loop-k-preserved
loop-k-preserved g c =
    let room : c.loop-k.k < length c.loop-k.chunk = search rules in
    one_taken (g.T.Triangles.listed c.args.triangles.now) c.loop-k.chunk c.loop-k.k c.triangle.result c.triangle.ensures room c.loop-k.invariant

pub returns : goal.returns
returns g c =
    let rows = c.args.self.now in
    let ts = g.T.Triangles.listed c.args.triangles.now in
    let chunk = c.loop-k.chunk in
    let all : c.loop-k.k ≡ c.count-count.result = omega (arith, c.loop-k-test.false, c.loop-k.auto.k-end) in
    let same : take c.count-count.result chunk ≡ ts = ap (λ n. take n chunk) (sym all) ∙ c.loop-k.invariant ∙ ap (λ n. take n ts) (all ∙ c.count-count.ensures) ∙ take-length ts in
    subst (λ us. HaveEnds us rows.canvas rows.first rows.end c.args.samples.now c.draw_chunk.new.samples) same c.draw_chunk.ensures
