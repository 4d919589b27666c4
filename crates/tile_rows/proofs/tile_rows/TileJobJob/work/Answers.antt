use Rattle.std.proofs.Common.{◌≡◌, ◌+◌, ◌*◌, ap, arith}
use Rattle.tiling.specs.Grid.{columns_of}
use Rattle.tiling.proofs.Tiled.{tile_of_answer, tile_within}
use Rattle.tile_rows.proofs.tile_rows.TileJobJob.work.Goals as goal

pub render-requires-clause-tile : goal.render-requires-clause-tile
render-requires-clause-tile g c =
    let s = c.args.self.now.rows.now in
    rw c.columns.ensures.value (tile_within s.tiling.now (s.first) (s.end) c.args.n (omega arith) (omega arith) c.requires.number.0)

pub render-requires-clause-has_tile : goal.render-requires-clause-has_tile
render-requires-clause-has_tile g c =
    rw c.columns.ensures.value (c.requires.number.1.has c.args.n c.requires.number.0)

pub render-requires-clause-bin : goal.render-requires-clause-bin
render-requires-clause-bin g c =
    rw c.columns.ensures.value (c.requires.number.1.each _ (c.requires.number.1.has c.args.n c.requires.number.0))

pub returns-clause-right : goal.returns-clause-right
returns-clause-right g c =
    let s = c.args.self.now.rows.now in
    let k : s.first * c.columns.result + c.args.n ≡ s.first * columns_of s.tiling.now + c.args.n = ap (λ n. s.first * n + c.args.n) c.columns.ensures.value in
    tile_of_answer s.list.now s.tiling.now (s.first) c.args.n _ c.render.result k (omega (arith, c.columns.ensures.value, c.columns.ensures.least)) c.render.ensures.rect c.render.ensures.picture
