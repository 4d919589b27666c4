use Rattle.std.proofs.Common.{◌∙◌, ap, ◌+◌, ◌-◌, ◌*◌, ◌/◌, ℕ, slice_index, arith}
use Rattle.grid.specs.Samples.{count_of}
use Rattle.blocks.proofs.BlockMeans.{are_weighted}
use Rattle.blocks.proofs.block_means.means_of_both.Goals as goal

pub means_of_sums-requires-clause-whole : goal.means_of_sums-requires-clause-whole
means_of_sums-requires-clause-whole c =
    (are_weighted c.args.count c.count.result c.args.bits c.args.first c.args.second c.count.ensures c.requires.bits c.requires.first c.requires.second c.requires.few c.requires.first_bytes c.requires.second_bytes).long

pub means_of_sums-requires-clause-most : goal.means_of_sums-requires-clause-most
means_of_sums-requires-clause-most c p l =
    let sums = are_weighted c.args.count c.count.result c.args.bits c.args.first c.args.second c.count.ensures c.requires.bits c.requires.first c.requires.second c.requires.few c.requires.first_bytes c.requires.second_bytes in
    omega (arith, sums.most p l, c.count.ensures)

pub returns : goal.returns
returns c p l =
    let sums = are_weighted c.args.count c.count.result c.args.bits c.args.first c.args.second c.count.ensures c.requires.bits c.requires.first c.requires.second c.requires.few c.requires.first_bytes c.requires.second_bytes in
    let bits : ℕ = slice_index c.args.bits p in
    let n : ℕ = count_of c.args.count in
    c.means_of_sums.ensures p l
    ∙ ap (λ x. (x + n / 2) / n) (sums.each p l)
    ∙ ap (λ m. (slice_index c.args.first p * (m - bits) + slice_index c.args.second p * bits + n / 2) / n) c.count.ensures
