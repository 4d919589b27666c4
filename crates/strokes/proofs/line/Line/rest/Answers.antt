use Rattle.std.proofs.Common.{◌≡◌, arith, w32, to_z, of_z}
use Rattle.std.proofs.lemmas.Int.{ints}
use Rattle.grid.proofs.Bounds.{passed}
use Rattle.strokes.specs.Lines.{edge_function}
use Rattle.strokes.proofs.Lines.{rest_size}
use Rattle.strokes.proofs.line.Line.rest.Goals as goal

pub returns-clause-value : goal.returns-clause-value
unfolding edge_function
returns-clause-value c =
    let line = c.args.self.now in
    let lx : to_z w32 (of_z w32 line.x) ≡ line.x = (let r = line.right in omega (arith, ints, r.low, r.high)) in
    let ly : to_z w32 (of_z w32 line.y) ≡ line.y = (let r = line.down in omega (arith, ints, r.low, r.high)) in
    let px : to_z w32 (of_z w32 c.args.x) ≡ c.args.x = omega (arith, ints, c.requires.x.low, c.requires.x.high) in
    let py : to_z w32 (of_z w32 c.args.y) ≡ c.args.y = omega (arith, ints, c.requires.y.low, c.requires.y.high) in
    let fx = passed _ _ c.x.ensures.in_band c.x.ensures.value in
    let fy = passed _ _ c.y.ensures.in_band c.y.ensures.value in
    let across = rw (lx, px, fx) at c.product-across.ensures.value in
    let along = rw (ly, py, fy) at c.product-along.ensures.value in
    let near = line.near in
    omega (arith, ints, across, along, c.product-across.ensures.size, c.product-along.ensures.size, near.low, near.high)

pub overflow_add-result : goal.overflow_add-result
overflow_add-result c = omega (arith, ints, c.product-across.ensures.size, c.product-along.ensures.size)

pub overflow_sub-result : goal.overflow_sub-result
overflow_sub-result c = let near = c.args.self.now.near in omega (arith, ints, c.product-across.ensures.size, c.product-along.ensures.size, near)

pub returns-clause-size : goal.returns-clause-size
returns-clause-size c =
    rest_size c.args.self.now.bound c.product-across.result c.product-along.result c.args.self.now.near c.product-across.ensures.size c.product-along.ensures.size
