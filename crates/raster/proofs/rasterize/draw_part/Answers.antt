use Rattle.std.proofs.Common.{sym, subst}
use Rattle.grid.specs.declared.sample_count.SampleCount.{SampleCount}
use Rattle.shade.specs.declared.placed.Placed.{Placed}
use Rattle.raster.specs.Drawing.{ArePlanesOf, DrawsMasks}
use Rattle.raster.proofs.BlockDrawn.{triangle_drawn}
use Rattle.raster.proofs.Rows.{block_missed}
use Rattle.raster.proofs.rasterize.draw_part.Goals as goal

pub draw_masks-requires-clause-whole : goal.draw_masks-requires-clause-whole
draw_masks-requires-clause-whole c = rw c.make_once.ensures c.args.draw.now.allows

pub draw_masks-requires-clause-covered : goal.draw_masks-requires-clause-covered
draw_masks-requires-clause-covered c row column s high wide small set =
    let draw = c.args.draw.now in
    let of_tile = rw c.in-Some.is at c.requires.some in
    let covered = subst (λ (count : SampleCount). ArePlanesOf draw.triangle.now.tri c.args.bx c.args.by count c.args.from c.in-Some.covered) (sym draw.samples) of_tile in
    rw c.make_once.ensures ((covered s small row column high wide).0 set)

pub returns-in-Some-clause-drawn : goal.returns-in-Some-clause-drawn
returns-in-Some-clause-drawn c =
    let t = c.args.draw.now.triangle.now in
    let tile = c.args.draw.now.tile.now in
    let of_tile : ArePlanesOf t.tri c.args.bx c.args.by tile.count c.args.from c.in-Some.covered = rw c.in-Some.is at c.requires.some in
    let drawn = subst (λ (u : Placed). DrawsMasks u tile c.args.bx c.args.by c.args.from c.in-Some.covered c.args.samples.now c.draw_masks.new.samples) c.make_once.ensures c.draw_masks.ensures in
    triangle_drawn t tile c.args.bx c.args.by c.args.from c.requires.lies c.args.draw.now.rasterized c.in-Some.covered of_tile c.args.samples.now c.draw_masks.new.samples drawn

pub returns-in_default-clause-drawn : goal.returns-in_default-clause-drawn
returns-in_default-clause-drawn c =
    block_missed c.args.draw.now.triangle.now c.args.draw.now.tile.now c.args.bx c.args.by c.args.from _ (c.requires.none c.in_default.is)
