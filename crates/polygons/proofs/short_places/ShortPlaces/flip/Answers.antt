use Rattle.std.proofs.Common.{◌≡◌, ap, ◌∙◌, refl, sym, arith, ℕ, ◌+◌, ◌*◌, ◌/◌, ◌%◌, ◌^◌, ◌<◌, slice_index, bit_and, ℤ, pos, ◌+ℤ◌}
use Rattle.std.proofs.lemmas.Int.{ints, clamps}
use Rattle.std.proofs.lemmas.List.{length-set}
use Rattle.std.specs.Int.{bit_at, int_max}
use Rattle.std.specs.Int.RustNames.{bit_xor}
use Rattle.polygons.specs.declared.rule.Rule.TheVariants.{NonZero}
use Rattle.polygons.specs.declared.short_crossings.ShortCrossings.{ShortCrossings}
use Rattle.polygons.specs.declared.short_places.ShortPlaces.{ShortPlaces}
use Rattle.polygons.specs.Cells.{columns_in, bit_in_block}
use Rattle.polygons.specs.Placed.{AreInOneBlock}
use Rattle.polygons.proofs.FourFlips.{flipped_right, none_flipped, one_flipped_at}
use Rattle.polygons.proofs.MaskLanes.{itself, zipped}
use Rattle.polygons.proofs.PartRows.{column_inside}
use Rattle.polygons.proofs.PlacedEdges.{placed}
use Rattle.polygons.proofs.Samples.{few_parts}
use Rattle.polygons.proofs.short_places.ShortPlaces.flip.Goals as goal

-- where a sample that is crossed has its flag
record IsHere (p : ShortPlaces) (row b n : ℕ) (z : ℤ) : Type 0 where
  low : row < 64
  in_row : row / 8 ≡ p.row
  column : n / 8 ≡ p.column
  place : pos n ≡ int_max z (pos 0)
  bit : b ≡ bit_in_block row n

found : (cr : ShortCrossings) (p : ShortPlaces) (s : ℕ) → AreInOneBlock cr p → s < 16 → bit_at cr.bits s ≡ 1
    → IsHere p (slice_index cr.rows s) (slice_index p.bits s) (8 * p.column + slice_index p.bits s % 8) (cr.column +ℤ pos (slice_index cr.columns s))
found cr p s h l one =
    let r = h.rows s l one in
    let k = h.columns s l one in
    let b = p.small s l in
    let t = p.high in
    record { low = omega (arith, r, b, t); in_row = omega (arith, r, b); column = omega arith; place = omega (arith, ints, clamps, k); bit = omega (arith, r, b) }

pub returns-then-column-columns_of-clause-marked : goal.returns-then-column-columns_of-clause-marked
returns-then-column-columns_of-clause-marked c _ =
    let cr = c.args.crossings.now in
    let p = c.args.self.now in
    let part = c.args.part in
    let strip = c.args.starts.now.strip in
    placed c.args.rule strip part c.args.edge.now c.args.forward c.args.flags.now c.args.counters.now c.args.flags.now cr c.requires.short c.requires.runs_down c.requires.part c.requires.crossings refl
    (λ s l one. (let at = found cr p (4 * part + s) c.requires.places (few_parts strip.count part s c.requires.part l) one in
    flipped_right c.args.rule s _ _ _ c.args.forward c.args.flags.now c.args.counters.now at.place (let k = at.column in omega (arith, k, c.if-column-columns_of.true, c.columns_of.ensures))))
    (λ s l zero j k. refl)

pub returns-clause-marked : goal.returns-clause-marked
returns-clause-marked c _ =
    let cr = c.args.crossings.now in
    let p = c.args.self.now in
    let part = c.args.part in
    let strip = c.args.starts.now.strip in
    let f = c.args.flags.now in
    let counters = c.args.counters.now in
    let bits = c.part-bits in
    let block = c.flag_column in
    let four = c.four_of-four in
    let within : p.column < columns_in c.args.rule f counters = omega (arith, c.if-column-columns_of.false, c.columns_of.ensures) in
    let inside = column_inside c.args.rule c.args.forward f counters _ block.result c.requires.counters within block.ensures.even_odd block.ensures.nonzero in
    let flips = zipped 4 bit_xor _ _ _ _ (itself 4 four.result four.ensures.whole) (itself 4 bits.result bits.ensures.whole) in
    let room = c.told-flags block.result inside in
    let clear = λ (is : c.args.rule ≡ NonZero) (s : ℕ) (l : s < 4). ap (λ w. bit_and w (slice_index bits.result s)) (sym (four.ensures.each s l)) ∙ (c.can_flip.ensures.0 c.if-not-can_flip.false) is s l in
    let flipped = λ (s : ℕ) (l : s < 4). c.set_four.ensures.set s l ∙ flips.each s l ∙ ap (λ w. bit_xor w (slice_index bits.result s)) (four.ensures.each s l) in
    placed c.args.rule strip part c.args.edge.now c.args.forward f counters _ cr c.requires.short c.requires.runs_down c.requires.part c.requires.crossings (length-set f block.result c.set_four.new.words)
    (λ s l one. (let here = few_parts strip.count part s c.requires.part l in let at = found cr p (4 * part + s) c.requires.places here one in
    one_flipped_at c.args.rule f counters bits.result c.set_four.new.words p.column block.result p.row c.args.forward p.high inside room within block.ensures.even_odd block.ensures.nonzero clear flipped c.set_four.ensures.others s _ _ _ l at.low at.in_row at.place at.column
    (bits.ensures.crossed s l (c.requires.places.crossed (4 * part + s) here ∙ one) ∙ ap (λ n. 2 ^ n) at.bit)))
    (λ s l zero. (let here = few_parts strip.count part s c.requires.part l in
    none_flipped c.args.rule f counters bits.result c.set_four.new.words p.column block.result p.row c.args.forward p.high inside room within block.ensures.even_odd block.ensures.nonzero clear flipped c.set_four.ensures.others s l
    (bits.ensures.apart s l (c.requires.places.crossed (4 * part + s) here ∙ zero))))

pub set_four-requires-clause-whole : goal.set_four-requires-clause-whole
set_four-requires-clause-whole c =
    let four = c.four_of-four in
    let bits = c.part-bits in
    (zipped 4 bit_xor _ _ _ _ (itself 4 four.result four.ensures.whole) (itself 4 bits.result bits.ensures.whole)).long
