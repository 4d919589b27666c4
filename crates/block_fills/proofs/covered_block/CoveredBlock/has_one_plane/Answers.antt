use Rattle.std.proofs.Common.{rules, ◌≡◌, subst, ℕ, ◌+◌, ◌-◌, ◌≤◌, List, length, drop, arith}
use Rattle.std.proofs.lemmas.List.{length-take, length-drop}
use Rattle.grid.specs.Samples.{count_of}
use Rattle.lanes.specs.declared.block_samples.BlockSamples.{BlockSamples}
use Rattle.blocks.specs.declared.way.Way.TheVariants.{Own}
use Rattle.shade.specs.declared.state.State.{State}
use Rattle.canvas.specs.Hidden.{ReplacesColours}
use Rattle.blocks.specs.Layout.{way_in_tile}
use Rattle.block_fills.specs.Parts.{DrawsAlike}
use Rattle.block_fills.proofs.BlocksAlike.{replaced_alike}
use Rattle.block_fills.proofs.covered_block.CoveredBlock.has_one_plane.Goals as goal

pub returns-clause-alike : goal.returns-clause-alike
returns-clause-alike c single =
    let f = c.args.self.now.fragment.now in
    let count = c.args.self.now.tile.now.count in
    let k = c.number-k.result in
    let old = c.args.samples.now in
    let mid = c.single_block.new.samples in
    let new = c.make_single.new.samples in
    let same : mid ≡ old = c.single_block.ensures.unchanged c.if-single_block.false in
    let own : way_in_tile mid k ≡ Own = search rules in
    let replaces : ReplacesColours f.state count = subst (λ (s : State). ReplacesColours s count) c.state.ensures (c.replaces_colours.ensures (search rules)) in
    let first : ℕ = c.place_by-first.result in
    let n : ℕ = first + c.count.result - first in
    let many : n ≡ count_of count = omega (arith, c.count.ensures) in
    let taken = length-take n (drop first mid) in
    let dropped = length-drop first mid in
    let fits : first + n ≤ length mid = search rules in
    let depths = c.are_alike.ensures (search rules) in
    let all = replaced_alike f count k first n mid new replaces own c.place_by-first.ensures.value many (λ s h. depths s (omega (arith, h, taken, dropped, fits))) c.make_single.ensures.made c.make_single.ensures.others in
    subst (λ (xs : List BlockSamples). DrawsAlike f count xs new) same all
