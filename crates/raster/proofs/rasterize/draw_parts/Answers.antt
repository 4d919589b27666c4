use Rattle.std.proofs.Common.{◌≡◌, ◌∙◌, ap, sym, subst, arith, ℕ, ◌*◌, List, IfSome, Option, None}
use Rattle.grid.specs.Samples.{count_of, parts_of}
use Rattle.grid.specs.declared.pixels.TileSide.TheVariants.{T8}
use Rattle.cover.specs.Square.{TestedSquare, CoversAll, CoversInPatch}
use Rattle.raster.specs.declared.rasterize.TileDraw.{TileDraw}
use Rattle.raster.specs.Drawing.{ArePlanesOf, CoversNoneOf, block_of}
use Rattle.raster.proofs.Rows.{part_more, all_drawn, one_part, one_drawn, block_of_covered}
use Rattle.raster.proofs.Patch.{patches_of_block}
use Rattle.raster.proofs.rasterize.draw_parts.Goals as goal

-- the block of the tile
same_block : (draw : TileDraw) (bx by : ℕ) (q : TestedSquare) → q ≡ record { triangle = draw.setup.now; bx = bx; by = by; side = T8; count = draw.count } → q ≡ block_of draw.triangle.now.tri draw.tile.now bx by
same_block draw bx by q is = is ∙ (λ i. record { triangle = draw.edges i; bx = bx; by = by; side = T8; count = draw.samples i })

some_of : (a b : TestedSquare) (from : ℕ) (planes : Option (List ℕ)) → a ≡ b → IfSome planes (ArePlanesOf a.triangle a.bx a.by a.count from) → IfSome planes (ArePlanesOf b.triangle b.bx b.by b.count from)
some_of a b from planes same = subst (λ (q : TestedSquare). IfSome planes (ArePlanesOf q.triangle q.bx q.by q.count from)) same

none_of : (a b : TestedSquare) (from : ℕ) (planes : Option (List ℕ)) → a ≡ b → (planes ≡ None → CoversNoneOf a from) → planes ≡ None → CoversNoneOf b from
none_of a b from planes same = subst (λ (q : TestedSquare). planes ≡ None → CoversNoneOf q from) same

pub class_of-class-requires : goal.class_of-class-requires
class_of-class-requires g c all =
    let draw = c.args.draw.now in
    let same = same_block draw c.args.bx c.args.by c.square-block.result c.square-block.ensures in
    subst (λ (q : TestedSquare). CoversAll q) (sym same) (block_of_covered draw.triangle.now.tri draw.tile.now c.args.bx c.args.by c.requires.lies (c.requires.covers all))

pub draw_part-requires-clause-some : goal.draw_part-requires-clause-some
draw_part-requires-clause-some g c =
    some_of _ _ 0 _ (same_block c.args.draw.now c.args.bx c.args.by c.square-block.result c.square-block.ensures) c.planes-covered.ensures.some

pub draw_part-requires-clause-none : goal.draw_part-requires-clause-none
draw_part-requires-clause-none g c =
    none_of _ _ 0 _ (same_block c.args.draw.now c.args.bx c.args.by c.square-block.result c.square-block.ensures) c.planes-covered.ensures.none

pub planes-covered-requires-in-loop-part-clause-patch : goal.planes-covered-requires-in-loop-part-clause-patch
planes-covered-requires-in-loop-part-clause-patch g c =
    let draw = c.args.draw.now in
    let same = same_block draw c.args.bx c.args.by c.square-block.result c.square-block.ensures in
    let of_tile = patches_of_block draw.triangle.now.tri draw.tile.now c.args.bounds.now c.args.bx c.args.by c.requires.lies c.requires.bounds c.patch-patch.result c.patch-patch.ensures in
    subst (λ (q : TestedSquare). IfSome c.patch-patch.result (λ p. CoversInPatch q p.0 p.1)) (sym same) of_tile

pub draw_part-requires-in-loop-part-clause-some : goal.draw_part-requires-in-loop-part-clause-some
draw_part-requires-in-loop-part-clause-some g c =
    some_of _ _ (4 * c.loop-part.part) _ (same_block c.args.draw.now c.args.bx c.args.by c.square-block.result c.square-block.ensures) c.planes-covered-in-loop-part.ensures.some

pub draw_part-requires-in-loop-part-clause-none : goal.draw_part-requires-in-loop-part-clause-none
draw_part-requires-in-loop-part-clause-none g c =
    none_of _ _ (4 * c.loop-part.part) _ (same_block c.args.draw.now c.args.bx c.args.by c.square-block.result c.square-block.ensures) c.planes-covered-in-loop-part.ensures.none

pub loop-part-preserved : goal.loop-part-preserved
loop-part-preserved g c =
    let draw = c.args.draw.now in (
      part_more draw.triangle.now draw.tile.now c.args.bx c.args.by c.loop-part.part _ _ _ (omega (arith, c.parts-part-end.ensures, c.loop-part-test.true, ap parts_of draw.samples)) c.loop-part.invariant.0 c.draw_part-in-loop-part.ensures.drawn,
      c.draw_part-in-loop-part.ensures.made,
    )

pub returns-then-this-lt8-clause-drawn : goal.returns-then-this-lt8-clause-drawn
returns-then-this-lt8-clause-drawn g c =
    let draw = c.args.draw.now in
    one_drawn draw.triangle.now draw.tile.now c.args.bx c.args.by _ _ (one_part draw.tile.now.count (omega (arith, c.requires.number, c.if-this-lt8.true, ap count_of draw.samples))) c.draw_part.ensures.drawn

pub returns-after-loop-part-clause-drawn : goal.returns-after-loop-part-clause-drawn
returns-after-loop-part-clause-drawn g c =
    let draw = c.args.draw.now in
    all_drawn draw.triangle.now draw.tile.now c.args.bx c.args.by c.loop-part.part _ _ (omega (arith, c.parts-part-end.ensures, c.loop-part-test.false, ap parts_of draw.samples)) c.loop-part.invariant.0
