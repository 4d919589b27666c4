use Rattle.std.proofs.Common.{◌≡◌, ◌∙◌, ap, sym, arith, ℕ, ◌+◌, ◌-◌, ◌*◌, ◌/◌, ◌%◌, ◌^◌, ◌<◌, Bool, true, false, IsTrue, IsFalse, List, length, slice_index, bit_and, refl}
use Rattle.std.proofs.lemmas.Bool.{eqb-true, eqb-false}
use Rattle.std.specs.Int.{bit_at}
use Rattle.std.specs.Int.Bits.{and_zero_r}
use Rattle.polygons.specs.ManyRows.{row_of}
use Rattle.polygons.specs.Cells.{word_of, bit_in_block}
use Rattle.polygons.proofs.Totals.{word_in_part, clear_bit, set_bit}
use Rattle.polygons.proofs.cells.is_clear.Goals as goal

pub returns-clause-clear : goal.returns-clause-clear
returns-clause-clear c clear crossed =
    let words : List ℕ = row_of c.args.flags.now c.args.block in
    let k : ℕ = 8 * c.args.block + c.args.column % 8 in
    let w = c.told-flags c.args.block c.requires.block in
    let room : c.args.s < length words - 4 * (c.args.row / 8) = omega (arith, w, c.requires.sample, c.requires.row) in
    let bit : c.pixel_bit.result ≡ 2 ^ bit_in_block c.args.row k = c.pixel_bit.ensures.crossed crossed ∙ ap (λ n. 2 ^ n) (omega arith) in
    ap (λ n. bit_at (slice_index (row_of c.args.flags.now n) (word_of c.args.s c.args.row)) (bit_in_block c.args.row k)) (omega arith)
    ∙ clear_bit _ c.pixel_bit.result (bit_in_block c.args.row k) bit (ap (λ x. bit_and x c.pixel_bit.result) (sym (word_in_part words c.args.s c.args.row room)) ∙ eqb-true _ 0 clear)

-- a word that has a bit of the mask
set_in : (is_crossed : Bool) (x b n i : ℕ) → (IsTrue is_crossed → b ≡ 2 ^ n) → (IsFalse is_crossed → b ≡ 0) → n ≡ i → (bit_and x b ≡ 0 → ⊥) → bit_at x i ≡ 1
set_in true x b n i crossed apart e h = set_bit x b i (crossed refl ∙ ap (λ k. 2 ^ k) e) h
set_in false x b n i crossed apart e h = absurd (h (ap (bit_and x) (apart refl) ∙ and_zero_r x))

pub returns-clause-set : goal.returns-clause-set
returns-clause-set c is_set =
    let words : List ℕ = row_of c.args.flags.now c.args.block in
    let k : ℕ = 8 * c.args.block + c.args.column % 8 in
    let w = c.told-flags c.args.block c.requires.block in
    let room : c.args.s < length words - 4 * (c.args.row / 8) = omega (arith, w, c.requires.sample, c.requires.row) in
    ap (λ n. bit_at (slice_index (row_of c.args.flags.now n) (word_of c.args.s c.args.row)) (bit_in_block c.args.row k)) (omega arith)
    ∙ set_in c.args.is_crossed _ c.pixel_bit.result (bit_in_block c.args.row c.args.column) (bit_in_block c.args.row k) c.pixel_bit.ensures.crossed c.pixel_bit.ensures.apart (omega arith)
    (λ none. let at = ap (λ x. bit_and x c.pixel_bit.result) (word_in_part words c.args.s c.args.row room) ∙ none in eqb-false _ 0 is_set at)

-- a word whose bits of the mask are not all 0
crossed_in : (is_crossed : Bool) (x b : ℕ) → (IsFalse is_crossed → b ≡ 0) → (bit_and x b ≡ 0 → ⊥) → IsTrue is_crossed
crossed_in true x b apart h = refl
crossed_in false x b apart h = absurd (h (ap (bit_and x) (apart refl) ∙ and_zero_r x))

pub returns-clause-crossed : goal.returns-clause-crossed
returns-clause-crossed c is_set = crossed_in c.args.is_crossed _ c.pixel_bit.result c.pixel_bit.ensures.apart (λ none. eqb-false _ 0 is_set none)
