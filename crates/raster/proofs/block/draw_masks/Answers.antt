use Rattle.std.proofs.Common.{◌+◌, ◌-◌, ◌≡◌, ◌∙◌, ap, ℕ, subst, arith}
use Rattle.grid.specs.Samples.{part_size, IsPart}
use Rattle.grid.specs.declared.sample_count.SampleCount.{SampleCount}
use Rattle.shade.specs.declared.placed.Placed.{Placed}
use Rattle.shade.specs.Canvas.{IsCanvasDrawnAt}
use Rattle.raster.specs.Drawing.{AreAllowed}
use Rattle.raster.proofs.BlockDrawn.{allowed_covered, part_drawn}
use Rattle.raster.proofs.block.draw_masks.Goals as goal

pub draw-requires-clause-covered : goal.draw-requires-clause-covered
draw-requires-clause-covered c =
    let t = c.args.triangle.now in
    let masks = c.args.masks.now in
    let m = c.chosen-mask.result in
    let allowed : AreAllowed t.state masks m = subst (λ (u : Placed). AreAllowed u.state masks m) c.placed.ensures c.chosen-mask.ensures.allowed in
    let block = c.chosen-mask.ensures.block in
    allowed_covered t masks m allowed
    (rw (← block.0, ← block.1, ← block.2, ← c.chosen-mask.ensures.part) at c.requires.covered)

pub returns : goal.returns
returns c =
    let t = c.args.triangle.now in
    let tile = c.args.tile.now in
    let masks = c.args.masks.now in
    let m = c.chosen-mask.result in
    let allowed : AreAllowed t.state masks m = subst (λ (u : Placed). AreAllowed u.state masks m) c.placed.ensures c.chosen-mask.ensures.allowed in
    let n : ℕ = c.place_by_count-first.result + c.part_size.result - c.place_by_count-first.result in
    let same : part_size c.args.count ≡ part_size tile.count = ap part_size c.requires.count in
    let part : IsPart tile.count c.args.from = subst (λ (count : SampleCount). IsPart count c.args.from) c.requires.count c.requires.part in
    let block = c.chosen-mask.ensures.block in
    part_drawn (IsCanvasDrawnAt t) t.state tile c.args.bx c.args.by c.args.from masks c.requires.block part m (block.0, block.1, block.2 ∙ c.requires.count) c.chosen-mask.ensures.part allowed c.args.samples.now c.draw.new.samples c.place_by_count-first.result n c.place_by_count-first.ensures.value (omega (arith, c.part_size.ensures, same)) c.requires.samples (omega (arith, c.draw.ensures.samples, c.part_size.ensures)) c.draw.ensures.drawn
