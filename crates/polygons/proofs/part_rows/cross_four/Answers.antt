use Rattle.std.proofs.Common.{ap, ◌∙◌, sym, arith, ◌/◌, ◌<◌, slice_index, bit_and}
use Rattle.std.specs.Int.RustNames.{bit_xor}
use Rattle.polygons.specs.Cells.{columns_in}
use Rattle.polygons.proofs.MaskLanes.{itself, zipped}
use Rattle.polygons.proofs.PartRows.{all_right, column_inside, all_counted}
use Rattle.polygons.proofs.part_rows.cross_four.Goals as goal

pub returns-then-column-columns_of-clause-counted : goal.returns-then-column-columns_of-clause-counted
returns-then-column-columns_of-clause-counted c _ =
    all_right c.args.rule c.args.row c.args.columns.now c.args.from.now c.args.to.now c.args.down c.args.flags.now c.args.counters.now c.four_in_strip-columns.result _ c.four_in_strip-columns.ensures.each
    (c.are_in.ensures.0 c.if-not-are_in.false) (omega (arith, c.if-column-columns_of.true, c.columns_of.ensures))

pub returns-clause-counted : goal.returns-clause-counted
returns-clause-counted c _ =
    let places = c.four_in_strip-columns in
    let crossed = c.are_between in
    let bits = c.pixel_bits-bits in
    let block = c.flag_column in
    let within : slice_index places.result 0 / 8 < columns_in c.args.rule c.args.flags.now c.args.counters.now = omega (arith, c.if-column-columns_of.false, c.columns_of.ensures) in
    let inside = column_inside c.args.rule c.args.down c.args.flags.now c.args.counters.now _ block.result c.requires.counters within block.ensures.even_odd block.ensures.nonzero in
    let four = c.four_of-four in
    let flipped = zipped 4 bit_xor _ _ _ _ (itself 4 four.result four.ensures.whole) (itself 4 bits.result bits.ensures.whole) in
    all_counted c.args.rule c.args.row c.args.columns.now c.args.from.now c.args.to.now c.args.down c.args.flags.now c.args.counters.now places.result crossed.result bits.result c.set_four.new.words _ block.result c.requires.row
    places.ensures.each (c.are_in.ensures.0 c.if-not-are_in.false) crossed.ensures.rows crossed.ensures.each bits.ensures.crossed bits.ensures.apart
    within block.ensures.even_odd block.ensures.nonzero inside (c.told-flags block.result inside)
    (λ is s l. ap (λ w. bit_and w (slice_index bits.result s)) (sym (four.ensures.each s l)) ∙ (c.can_flip.ensures.0 c.if-not-can_flip.false) is s l)
    (λ s l. c.set_four.ensures.set s l ∙ flipped.each s l ∙ ap (λ w. bit_xor w (slice_index bits.result s)) (four.ensures.each s l))
    c.set_four.ensures.others

pub set_four-requires-clause-whole : goal.set_four-requires-clause-whole
set_four-requires-clause-whole c =
    let four = c.four_of-four in
    let bits = c.pixel_bits-bits in
    (zipped 4 bit_xor _ _ _ _ (itself 4 four.result four.ensures.whole) (itself 4 bits.result bits.ensures.whole)).long
