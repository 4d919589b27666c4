use Rattle.std.proofs.Common.{◌≡◌, ◌+◌, ◌<◌, ◌≤◌, ℕ, List, refl, subst, take, slice_get, slice_index, Some, arith}
use Rattle.shade.specs.declared.placed.Placed.{Placed}
use Rattle.canvas.specs.Drawing.{TileHasEnds}
use Rattle.canvas.specs.Rows.{numbered}
use Rattle.canvas.proofs.Listed.{tile_bits_past, tile_one}
use Rattle.canvas.proofs.many.draw_some.Goals as goal

pub returns-then-many-bit : goal.returns-then-many-bit
returns-then-many-bit g c none start before =
    let list = c.args.list.now in
    tile_bits_past (g.T.Triangles.listed c.args.triangles.now) none list.numbers list.columns.firsts list.columns.ends list.count c.args.column c.args.tile.now c.requires.below c.requires.columns
    c.having-having.result c.args.from c.loop-bit.next 16 c.loop-bit.invariant.most (omega arith) c.having-having.ensures
    (λ bit low less within. c.in-Some.ensures.some.1 bit low (omega (arith, within, less, c.if-many-bit.true, c.min-many.ensures)))
    start c.loop-bit.samples (c.loop-bit.invariant.drawn none start before)

pub returns : goal.returns
returns g c none start before =
    let list = c.args.list.now in
    tile_bits_past (g.T.Triangles.listed c.args.triangles.now) none list.numbers list.columns.firsts list.columns.ends list.count c.args.column c.args.tile.now c.requires.below c.requires.columns
    c.having-having.result c.args.from c.loop-bit.next 16 c.loop-bit.invariant.most (omega arith) c.having-having.ensures
    (λ bit low less within. c.in_default.ensures.none refl bit low (omega (arith, less)))
    start c.loop-bit.samples (c.loop-bit.invariant.drawn none start before)

pub loop-bit-preserved : goal.loop-bit-preserved
loop-bit-preserved g c =
    let ts = g.T.Triangles.listed c.args.triangles.now in
    let list = c.args.list.now in
    let tile = c.args.tile.now in
    let from : ℕ = c.args.from in
    let bit : ℕ = c.in-Some.bit in
    let order : c.loop-bit.next ≤ bit = c.in-Some.ensures.some.0 in
    let below : from + bit < from + 16 = omega (arith, c.if-many-bit.false, c.min-many.ensures) in
    let within : from + bit < list.count = omega (arith, c.if-many-bit.false, c.min-many.ensures) in
    let found : slice_get ts (slice_index list.numbers (from + bit)) ≡ Some c.triangle-triangle.result = rw c.from.ensures at c.triangle-triangle.ensures in
    let sum : (from + bit) + 1 ≡ from + (bit + 1) = omega arith in
    record {
      most = omega (arith, below);
      drawn = λ none start before.
          let us : List Placed = numbered ts none (take list.count list.numbers) in
          let up_to_here : TileHasEnds (take (from + bit) us) tile start c.loop-bit.samples =
          (tile_bits_past ts none list.numbers list.columns.firsts list.columns.ends list.count c.args.column tile c.requires.below c.requires.columns
          c.having-having.result from c.loop-bit.next bit order (omega (arith, below)) c.having-having.ensures (λ b low less _. c.in-Some.ensures.some.1 b low less)
          start c.loop-bit.samples (c.loop-bit.invariant.drawn none start before)) in
          subst (λ n. TileHasEnds (take n us) tile start c.draw_triangle.new.samples) sum
          (tile_one ts none list.numbers list.columns.firsts list.columns.ends list.count c.args.column tile c.requires.below c.requires.columns
          (from + bit) c.triangle-triangle.result start c.loop-bit.samples c.draw_triangle.new.samples within (omega (arith, list.fits)) found up_to_here c.draw_triangle.ensures);
    }
