use Rattle.std.proofs.Common.{ℕ, ◌+◌, ◌/◌, ◌<◌, ◌≤◌, List, get_or, replicate, sym, ap, subst, ◌∙◌}
use Rattle.std.specs.Simd.Lanes.{zip2}
use Rattle.std.proofs.lemmas.Simd.{Each1-from_get_or}
use Rattle.shade.specs.Quotient.{IsQuotient}
use Rattle.lanes.proofs.Lanewise.{plus, shifted}
use Rattle.lanes.proofs.LaneNumbers.{lane_mean, mean-bound, mean_is}
use Rattle.lanes.proofs.Rows.{IsRow, zipped, splat, loaded, byte}
use Rattle.lanes.proofs.resolve.means_of_four.Goals as goal

abbrev means : List ℕ → List ℕ → List ℕ → List ℕ → List ℕ
means a b c d = zip2 shifted (zip2 plus (zip2 plus (zip2 plus (zip2 plus a b) c) d) (replicate 8 2)) (replicate 8 2)

formed : (a b c d : List ℕ) (f g h j : ℕ → ℕ) → IsRow a f → IsRow b g → IsRow c h → IsRow d j
    → ((k : ℕ) → f k ≤ 255) → ((k : ℕ) → g k ≤ 255) → ((k : ℕ) → h k ≤ 255) → ((k : ℕ) → j k ≤ 255)
    → IsRow (means a b c d) (λ k. (f k + g k + h k + j k + 2) / 4)
formed a b c d f g h j p q r s small-f small-g small-h small-j =
    let all = zipped shifted _ (replicate 8 2) _ _ (zipped plus _ (replicate 8 2) _ _ (zipped plus _ d _ _ (zipped plus _ c _ _ (zipped plus a b _ _ p q) r) s) (splat 2)) (splat 2) in
    record { long = all.long; each = λ k l. all.each k l ∙ lane_mean (f k) (g k) (h k) (j k) (small-f k) (small-g k) (small-h k) (small-j k) }

pub narrow_row-requires : goal.narrow_row-requires
narrow_row-requires c =
    let at = c.args.at in
    let first = byte c.args.first.now c.type_inv.first in
    let second = byte c.args.second.now c.type_inv.second in
    let third = byte c.args.third.now c.type_inv.third in
    let fourth = byte c.args.fourth.now c.type_inv.fourth in
    let all = formed c.widen_row-a.result c.widen_row-b.result c.widen_row-c.result c.widen_row-d.result _ _ _ _
    (loaded _ _ at c.requires.room.0 c.widen_row-a.ensures) (loaded _ _ at c.requires.room.1 c.widen_row-b.ensures) (loaded _ _ at c.requires.room.2 c.widen_row-c.ensures) (loaded _ _ at c.requires.room.3 c.widen_row-d.ensures)
    (λ k. first (at + k)) (λ k. second (at + k)) (λ k. third (at + k)) (λ k. fourth (at + k)) in
    Each1-from_get_or (λ n. n ≤ 255) _ 0 (λ k m. let l : k < 8 = rw all.long at m in rw (all.each k l) (mean-bound _ _ _ _ (first (at + k)) (second (at + k)) (third (at + k)) (fourth (at + k))))

pub returns-clause-resolved : goal.returns-clause-resolved
returns-clause-resolved c i l =
    let at = c.args.at in
    let all = formed c.widen_row-a.result c.widen_row-b.result c.widen_row-c.result c.widen_row-d.result _ _ _ _
    (loaded _ _ at c.requires.room.0 c.widen_row-a.ensures) (loaded _ _ at c.requires.room.1 c.widen_row-b.ensures) (loaded _ _ at c.requires.room.2 c.widen_row-c.ensures) (loaded _ _ at c.requires.room.3 c.widen_row-d.ensures)
    (λ k. byte c.args.first.now c.type_inv.first (at + k)) (λ k. byte c.args.second.now c.type_inv.second (at + k)) (λ k. byte c.args.third.now c.type_inv.third (at + k)) (λ k. byte c.args.fourth.now c.type_inv.fourth (at + k)) in
    subst (λ q. IsQuotient (get_or c.args.first.now (at + i) 0 + get_or c.args.second.now (at + i) 0 + get_or c.args.third.now (at + i) 0 + get_or c.args.fourth.now (at + i) 0 + 2) 4 q)
    (sym (ap (λ v. get_or v i 0) c.narrow_row.ensures ∙ all.each i l)) (mean_is _)
