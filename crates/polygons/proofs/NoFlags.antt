-- Words without flags of first edges.
use Rattle.std.proofs.Common.{◌≡◌, sym, ap, ◌∙◌, arith, ℕ, ◌+◌, ◌*◌, ◌^◌, ◌<◌, ◌≤◌, bit_or, List}
use Rattle.std.proofs.lemmas.Nat.Bits.{bit_at-zero, bit_at_or, same_from_bits, same_from_bits_below}
use Rattle.std.specs.Int.{bit_at}
use Rattle.polygons.specs.declared.marks.Marks.{Marks}
use Rattle.polygons.specs.Summing.{run, number_in, HasFirstMarked}
use Rattle.polygons.proofs.Changes.{no_number}
use Rattle.polygons.proofs.RunningSums.{run-none}

none_set : (d u i : ℕ) → bit_or d u ≡ 0 → bit_at (bit_or d u) i ≡ 0
none_set d u i e = ap (λ x. bit_at x i) e ∙ bit_at-zero i

pub left_none : (d u : ℕ) → bit_or d u ≡ 0 → d ≡ 0
left_none d u e = same_from_bits d 0 (λ i. let o = bit_at_or d u i in let n = none_set d u i e in let z = bit_at-zero i in omega arith)

pub right_none : (d u : ℕ) → bit_or d u ≡ 0 → u ≡ 0
right_none d u e = same_from_bits u 0 (λ i. let o = bit_at_or d u i in let n = none_set d u i e in let z = bit_at-zero i in omega arith)

pub more_none : (marks : Marks) → HasFirstMarked marks → bit_or marks.downs marks.ups ≡ 0 → marks.more < 2 ^ 64 → marks.more ≡ 0
more_none marks marked none small =
    same_from_bits_below 64 marks.more 0 small (omega arith)
    (λ i h. marked i h (ap (λ x. bit_at x i) (left_none marks.downs marks.ups none) ∙ bit_at-zero i) (ap (λ x. bit_at x i) (right_none marks.downs marks.ups none) ∙ bit_at-zero i) ∙ sym (bit_at-zero i))

-- such a word leaves the sum of each of its rows
pub still : (marks : Marks) (counters : List ℕ) (word start r n : ℕ) → HasFirstMarked marks → bit_or marks.downs marks.ups ≡ 0 → start < 2 ^ 32 → r < 8 → n ≤ 8 → run (number_in marks counters word) (8 * r) start n ≡ start
still marks counters word start r n marked none small h l =
    run-none (number_in marks counters word) (8 * r) start n small (λ k m. no_number marks counters word (8 * r + k) marked (omega arith) (none_set marks.downs marks.ups (8 * r + k) none))
