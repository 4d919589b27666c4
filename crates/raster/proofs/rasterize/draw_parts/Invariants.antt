use Rattle.raster.specs.Drawing.{AreOf, DrawsPart}
use Rattle.raster.proofs.Rows.{IsInSquareBefore}
use Rattle.raster.proofs.rasterize.draw_parts.Given as goal

abbrev pub invariant-loop-part : goal.invariant-loop-part
invariant-loop-part g l =
    DrawsPart l.draw.triangle.now l.draw.tile.now (IsInSquareBefore l.draw.tile.now l.bx l.by l.part) l.fn.samples l.samples × AreOf l.interpolants l.draw.triangle.now
