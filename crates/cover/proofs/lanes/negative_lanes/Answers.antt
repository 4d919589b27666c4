use Rattle.std.proofs.Common.{◌≡◌, ℕ, ◌^◌, ◌%◌, ◌+ℤ◌, List, Bool, map, replicate, of_z, w32, ap, sym, ◌∙◌, arith}
use Rattle.std.proofs.lemmas.Simd.{mask_l-mod}
use lib.ListN.{length-map}
use lib.Lanes.{zip2, mask_l, top}
use Rattle.cover.specs.Block.{is_negative}
use Rattle.cover.proofs.Vectors.{plus, below, moves_fit, tests}
use Rattle.cover.proofs.lanes.negative_lanes.Goals as goal

pub overflow_add-result : goal.overflow_add-result
overflow_add-result c = moves_fit c.args.by c.args.lanes 16 c.ranges.by c.requires.fit c.requires.sums

pub returns : goal.returns
returns c =
    let xs = c.args.lanes in
    let outside = map (λ v. is_negative (v +ℤ c.args.by)) xs in
    let reported : ℕ → List Bool = λ n. map (top 31) (zip2 below (zip2 plus (map (of_z w32) xs) (replicate n (of_z w32 c.args.by))) (replicate n 0)) in
    let same : reported 16 ≡ outside = sym (ap reported c.requires.long) ∙ tests c.args.by xs c.ranges.by c.requires.fit c.requires.sums in
    ap (λ l. mask_l l % 2 ^ 64) same ∙ mask_l-mod outside 64 (omega (arith, length-map xs (λ v. is_negative (v +ℤ c.args.by)), c.requires.long))
