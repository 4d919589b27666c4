use Rattle.std.proofs.Common.{rules, ap, ◌∙◌, arith, ◌*◌, pos, w64, FitsSigned}
use Rattle.std.proofs.lemmas.Int.{ints}
use Rattle.std.specs.Int.{int_max, int_min}
use Rattle.grid.specs.Position.{Position}
use Rattle.grid.specs.Samples.{parts_of}
use Rattle.polygons.proofs.Exact.{exact64}
use Rattle.polygons.proofs.Parts.{part_room}
use Rattle.polygons.proofs.Samples.{part_of_sample}
use Rattle.strokes.proofs.MarkedPieces.{row_in_piece, row_marked}
use Rattle.strokes.proofs.blocks.Blocks.mark_row.Goals as goal

pub mark_columns-requires-clause-room : goal.mark_columns-requires-clause-room
mark_columns-requires-clause-room c =
    let blocks = c.args.self.now in
    let place = part_of_sample blocks.strip.count c.args.s c.requires.sample in
    let room = part_room _ (parts_of blocks.strip.count) blocks.columns place.0 in
    omega (arith, room, c.requires.room)

pub returns : goal.returns
returns c =
    let blocks = c.args.self.now in
    let start = c.start-start.ensures in
    let x = c.x.ensures.value ∙ ap (λ (p : Position). p.x) start in
    let y = c.y.ensures.value ∙ ap (λ (p : Position). p.y) start in
    let x_in = c.x.ensures.in_band in
    let y_in = c.y.ensures.in_band in
    let fits_first : FitsSigned w64 c.span-span.result.first = search rules in
    let fits_end : FitsSigned w64 c.span-span.result.end = search rules in
    row_marked blocks c.args.piece.now c.args.s c.args.row c.in_row-first.result c.in_row-end.result c.args.flags.now c.mark_columns.new.flags c.mark_columns.ensures.len c.mark_columns.ensures.bits
    (row_in_piece blocks c.args.piece.now c.args.s c.args.row c.span-span.result _ _ c.span-span.ensures
    (omega (arith, ints, x, x_in.low, x_in.high)) (omega (arith, ints, y, y_in.low, y_in.high, c.requires.row))
    c.in_row-first.result c.in_row-end.result
    (c.in_row-first.ensures.value ∙ ap (λ z. int_min (int_max z (pos 0)) (pos (8 * blocks.columns))) (exact64 _ fits_first))
    (c.in_row-end.ensures.value ∙ ap (λ z. int_min (int_max z (pos 0)) (pos (8 * blocks.columns))) (exact64 _ fits_end)))
