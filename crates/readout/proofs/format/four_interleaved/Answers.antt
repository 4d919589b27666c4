use Rattle.std.proofs.Common.{◌≡◌, ◌∙◌, ℕ, ◌+◌, List, ◌++◌, length, slice_index, slice_index_or, arith}
use Rattle.std.proofs.lemmas.List.{get_or_append_left}
use Rattle.readout.proofs.Arranged.{four_is, same_four, behind_eight}
use Rattle.readout.proofs.format.four_interleaved.Goals as goal

pub returns-clause-bytes : goal.returns-clause-bytes
returns-clause-bytes c = λ i l k small.
    let first : List ℕ = c.args.first in
    let second : List ℕ = c.args.second in
    let third : List ℕ = c.args.third in
    let fourth : List ℕ = c.args.fourth in
    let low : ℕ → ℕ = λ n. slice_index_or (first ++ second) n 0 in
    let high : ℕ → ℕ = λ n. slice_index_or (third ++ fourth) n 0 in
    let long : length first ≡ 8 = c.requires.first in
    let also_long : length third ≡ 8 = c.requires.third in
    four_is low (λ n. low (8 + n)) high (λ n. high (8 + n)) i k l small
    ∙ same_four _ _ _ _ (slice_index first i) (slice_index second i) (slice_index third i) (slice_index fourth i) k
    (get_or_append_left first second 0 i (omega (arith, long, l)))
    (behind_eight first second i long)
    (get_or_append_left third fourth 0 i (omega (arith, also_long, l)))
    (behind_eight third fourth i also_long)
