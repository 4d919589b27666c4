use Rattle.std.proofs.Common.{rules, ◌≡◌, refl, ℕ, ◌+◌, ◌-◌, ◌*◌, ◌/◌, ◌<◌, ap, subst, arith}
use Rattle.blocks.specs.Layout.{planes_of_tile}
use Rattle.canvas.specs.Layout.{columns_of}
use Rattle.blocks.proofs.Places.{part_within}
use Rattle.block_fills.specs.Parts.{IsFlagged, RowsPaint}
use Rattle.block_fills.proofs.Joined.{rows_none}
use Rattle.block_fills.proofs.Strips.{one_column_more}
use Rattle.block_fills.proofs.WholeTiles.{one_tile_more}
use Rattle.block_fills.proofs.strip.paint_strip.Goals as goal

pub loop-k-init : goal.loop-k-init
loop-k-init g c =
    let f = c.args.fragment.now in
    let canvas = c.args.canvas.now in
    record {
      within = omega arith;
      samples = refl;
      painted = rows_none f canvas c.args.row (c.args.row + 1) (IsFlagged f.state c.args.first 0 c.args.masks.now) c.args.samples.now (λ i j s h p. omega (arith, p.left, p.right));
    }

pub paint_whole-requires-clause-allows : goal.paint_whole-requires-clause-allows
paint_whole-requires-clause-allows g c = c.if-is_whole.ensures.allows refl

pub slice_bounds-is_whole-end : goal.slice_bounds-is_whole-end
slice_bounds-is_whole-end g c =
    let v = c.loop-k.invariant in
    let canvas = c.args.canvas.now in
    let k : ℕ = c.loop-k.k in
    let bx : ℕ = c.args.first + k in
    let each : ℕ = c.planes_of_tile-each.result in
    let a : ℕ = bx / 8 * each in
    let column : bx / 8 < columns_of canvas = omega (arith, c.loop-k-test.true, c.requires.columns) in
    let at : a ≡ bx / 8 * planes_of_tile canvas.count = ap (λ n. bx / 8 * n) c.planes_of_tile-each.ensures.value in
    let room = part_within (bx / 8) (columns_of canvas) (planes_of_tile canvas.count) column in
    omega (arith, room, at, c.planes_of_tile-each.ensures.value, v.samples, c.requires.samples)

pub loop-k-preserved-then-is_whole : goal.loop-k-preserved-then-is_whole
loop-k-preserved-then-is_whole g c =
    let v = c.loop-k.invariant in
    let canvas = c.args.canvas.now in
    let k : ℕ = c.loop-k.k in
    let bx : ℕ = c.args.first + k in
    let each : ℕ = c.planes_of_tile-each.result in
    let a : ℕ = bx / 8 * each in
    let column : bx / 8 < columns_of canvas = omega (arith, c.loop-k-test.true, c.requires.columns) in
    let many : a + each - a ≡ planes_of_tile canvas.count = omega (arith, c.planes_of_tile-each.ensures.value) in
    let at : a ≡ bx / 8 * planes_of_tile canvas.count = ap (λ n. bx / 8 * n) c.planes_of_tile-each.ensures.value in
    let room = part_within (bx / 8) (columns_of canvas) (planes_of_tile canvas.count) column in
    let whole = c.if-is_whole.ensures in
    record {
      within = whole.columns refl;
      samples = search rules;
      painted = one_tile_more c.args.fragment.now canvas c.args.row c.args.first k c.args.masks.now c.tile-tile.result c.tile-tile.ensures (whole.begins refl) (λ column r s bit low high h l m. whole.full refl column r s bit low high h (rw c.requires.count l) m) c.args.samples.now c.loop-k.samples c.paint_whole.new.samples (a + each - a) a
          (omega (arith, room, many, at, v.samples, c.requires.samples)) (omega (arith, c.paint_whole.auto.samples, room, many, at, v.samples, c.requires.samples)) many at v.painted c.paint_whole.ensures;
    }

pub loop-k-preserved : goal.loop-k-preserved
loop-k-preserved g c =
    let v = c.loop-k.invariant in
    let canvas = c.args.canvas.now in
    let k : ℕ = c.loop-k.k in
    let bx : ℕ = c.args.first + k in
    let each : ℕ = c.planes_of_tile-each.result in
    let a : ℕ = bx / 8 * each in
    let column : bx / 8 < columns_of canvas = omega (arith, c.loop-k-test.true, c.requires.columns) in
    let many : a + each - a ≡ planes_of_tile canvas.count = omega (arith, c.planes_of_tile-each.ensures.value) in
    let at : a ≡ bx / 8 * planes_of_tile canvas.count = ap (λ n. bx / 8 * n) c.planes_of_tile-each.ensures.value in
    let room = part_within (bx / 8) (columns_of canvas) (planes_of_tile canvas.count) column in
    record {
      within = omega (arith, c.loop-k-test.true);
      samples = search rules;
      painted = one_column_more c.args.fragment.now canvas c.args.row c.args.first k c.args.masks.now c.tile-tile.result c.tile-tile.ensures c.args.samples.now c.loop-k.samples c.paint_column.new.samples (a + each - a) a
          (omega (arith, room, many, at, v.samples, c.requires.samples)) (omega (arith, c.paint_column.auto.samples, room, many, at, v.samples, c.requires.samples)) many at v.painted c.paint_column.ensures;
    }

pub returns : goal.returns
returns g c =
    let v = c.loop-k.invariant in
    let all : c.loop-k.k ≡ c.args.masks.now.columns = omega (arith, c.loop-k-test.false, v.within) in
    subst (λ (k : ℕ). RowsPaint c.args.fragment.now c.args.canvas.now c.args.row (c.args.row + 1) (IsFlagged c.args.fragment.now.state c.args.first k c.args.masks.now) c.args.samples.now c.loop-k.samples) all v.painted
