use Rattle.std.proofs.Common.{sym, subst, ap, arith, ◌+◌, ◌*◌}
use Rattle.lanes.specs.Fragment.{FlatFragment}
use Rattle.polygons.specs.Cells.{flags_by}
use Rattle.block_fills.specs.Parts.{RowsPaint}
use Rattle.fills.specs.Parts.{MeetsHere}
use Rattle.fills.proofs.RowMasks.{all_met}
use Rattle.fills.proofs.row.paint_row.Goals as goal

pub returns-clause-painted : goal.returns-clause-painted
returns-clause-painted c =
    let polygon = c.args.polygon.now in
    let origin = c.args.origin.now in
    let canvas = c.args.canvas.now in
    let row = c.args.row in
    let high = canvas.height_fits in
    let met =
    all_met polygon origin canvas row c.args.first c.args.many (flags_by polygon.rule * c.args.many) _ (ap (λ k. k * c.args.many) c.flags.ensures.value) c.requires.columns (omega (arith, high, c.requires.row)) c.cover_row.ensures.masks c.requires.held c.args.samples.now c.paint_masks.new.samples
    (rw c.requires.fragment at c.paint_masks.ensures) in
    subst (λ (f : FlatFragment). RowsPaint f canvas row (row + 1) (MeetsHere polygon origin canvas.count) c.args.samples.now c.paint_masks.new.samples) (sym c.requires.fragment) met
