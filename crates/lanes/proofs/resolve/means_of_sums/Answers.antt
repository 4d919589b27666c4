use Rattle.std.proofs.Common.{ℕ, ◌+◌, ◌/◌, ◌^◌, ◌<◌, ◌≤◌, ◌∙◌, List, get_or, replicate, ap}
use Rattle.std.specs.Simd.Lanes.{zip2}
use Rattle.std.proofs.lemmas.Simd.{Each1-from_get_or}
use Rattle.lanes.proofs.Lanewise.{plus, shifted}
use Rattle.lanes.proofs.Rows.{IsRow, zipped, splat, itself, rounded_mean, mean_most}
use Rattle.lanes.proofs.resolve.means_of_sums.Goals as goal

formed : (xs : List ℕ) (half bits : ℕ) (f : ℕ → ℕ) → IsRow xs f → half ≤ 2048 → ((k : ℕ) → k < 8 → f k ≤ 4096)
    → IsRow (zip2 shifted (zip2 plus xs (replicate 8 half)) (replicate 8 bits)) (λ k. (f k + half) / 2 ^ bits)
formed xs half bits f h small few =
    let all = zipped shifted _ (replicate 8 bits) _ _ (zipped plus xs (replicate 8 half) _ _ h (splat half)) (splat bits) in
    record { long = all.long; each = λ k l. all.each k l ∙ ap (λ x. x / 2 ^ bits) (rounded_mean (f k) half (few k l) small) }

pub narrow_row-requires : goal.narrow_row-requires
narrow_row-requires c =
    let all = formed c.args.sums c.args.half c.args.bits _ (itself c.args.sums c.requires.whole) c.requires.half_small c.requires.small in
    Each1-from_get_or (λ n. n ≤ 255) _ 0 (λ k m. let l : k < 8 = rw all.long at m in rw (all.each k l) (mean_most _ c.args.half c.args.bits c.requires.half (c.requires.most k l)))

pub returns-clause-each : goal.returns-clause-each
returns-clause-each c i l =
    let all = formed c.args.sums c.args.half c.args.bits _ (itself c.args.sums c.requires.whole) c.requires.half_small c.requires.small in
    ap (λ v. get_or v i 0) c.narrow_row.ensures ∙ all.each i l
