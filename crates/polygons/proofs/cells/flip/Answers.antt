use Rattle.std.proofs.Common.{refl, ◌≡◌, ◌∙◌, ap, arith, ℕ, ◌+◌, ◌-◌, ◌*◌, ◌/◌, ◌%◌, ◌^◌, ◌<◌, Bool, true, false, IsTrue, IsFalse, List, length, take, drop, set, slice_index}
use Rattle.std.proofs.lemmas.Nat.Bits.{bit_at-zero, bit_at-pow_other}
use Rattle.std.specs.Int.{bit_at}
use Rattle.std.specs.Int.RustNames.{bit_xor}
use borrow.Rule.Slice.PartMut.{put_mid}
use Rattle.polygons.specs.ManyRows.{row_of}
use Rattle.polygons.specs.Cells.{word_of, bit_in_block, flag_of}
use Rattle.polygons.proofs.Totals.{set_here, set_other, word_in_part, part_set, flipped_here, flipped_other}
use Rattle.polygons.proofs.cells.flip.Goals as goal

-- the words that are stored
stored : (words : List ℕ) (s row b : ℕ) → s < length words - 4 * (row / 8)
    → put_mid (4 * (row / 8)) (length words - 4 * (row / 8)) words
    (set (take (length words - 4 * (row / 8)) (drop (4 * (row / 8)) words)) s (bit_xor (slice_index (take (length words - 4 * (row / 8)) (drop (4 * (row / 8)) words)) s) b))
    ≡ set words (word_of s row) (bit_xor (slice_index words (word_of s row)) b)
stored words s row b h = part_set words s row _ h ∙ ap (λ x. set words (word_of s row) (bit_xor x b)) (word_in_part words s row h)

-- a bit that is not the pixel's
none_of : (is_crossed : Bool) (b row column block j m : ℕ) → (IsTrue is_crossed → b ≡ 2 ^ bit_in_block row column) → (IsFalse is_crossed → b ≡ 0) → j / 8 ≡ row / 8 → m / 8 ≡ block
    → (IsTrue is_crossed → j ≡ row → m ≡ 8 * block + column % 8 → ⊥) → bit_at b (bit_in_block j m) ≡ 0
none_of true b row column block j m crossed apart e f other =
    ap (λ n. bit_at n (bit_in_block j m)) (crossed refl) ∙ bit_at-pow_other (bit_in_block row column) (bit_in_block j m) (λ q. other refl (omega arith) (omega arith))
none_of false b row column block j m crossed apart e f other = ap (λ n. bit_at n (bit_in_block j m)) (apart refl) ∙ bit_at-zero (bit_in_block j m)

pub returns-clause-here : goal.returns-clause-here
returns-clause-here c crossed =
    let words : List ℕ = row_of c.args.flags.now c.args.block in
    let k : ℕ = 8 * c.args.block + c.args.column % 8 in
    let w = c.told-flags c.args.block c.requires.block in
    let room : c.args.s < length words - 4 * (c.args.row / 8) = omega (arith, w, c.requires.sample, c.requires.row) in
    let bit : c.pixel_bit.result ≡ 2 ^ bit_in_block c.args.row k = c.pixel_bit.ensures.crossed crossed ∙ ap (λ n. 2 ^ n) (omega arith) in
    ap (λ (ws : List ℕ). flag_of (set c.args.flags.now c.args.block ws) c.args.s c.args.row k) (stored words c.args.s c.args.row c.pixel_bit.result room)
    ∙ set_here c.args.flags.now c.args.s c.args.row c.args.block k _ (omega arith) c.requires.block (omega (arith, room))
    ∙ flipped_here (slice_index words (word_of c.args.s c.args.row)) c.pixel_bit.result (bit_in_block c.args.row k) bit
    ∙ ap (λ n. (bit_at (slice_index (row_of c.args.flags.now n) (word_of c.args.s c.args.row)) (bit_in_block c.args.row k) + 1) % 2) (omega arith)

pub returns-clause-others : goal.returns-clause-others
returns-clause-others c r j m r_small j_small other =
    let words : List ℕ = row_of c.args.flags.now c.args.block in
    let w = c.told-flags c.args.block c.requires.block in
    let room : c.args.s < length words - 4 * (c.args.row / 8) = omega (arith, w, c.requires.sample, c.requires.row) in
    ap (λ (ws : List ℕ). flag_of (set c.args.flags.now c.args.block ws) r j m) (stored words c.args.s c.args.row c.pixel_bit.result room)
    ∙ set_other c.args.flags.now c.args.s c.args.row c.args.block _ c.requires.block (omega (arith, room)) c.requires.sample r j m r_small
    (λ same e f. flipped_other _ c.pixel_bit.result (bit_in_block j m) (none_of c.args.is_crossed c.pixel_bit.result c.args.row c.args.column c.args.block j m c.pixel_bit.ensures.crossed c.pixel_bit.ensures.apart e f (λ q. other q same)))
