use Rattle.std.proofs.Common.{◌≡◌, ◌∙◌, ap, ℕ, length, arith}
use Rattle.shade.specs.Resolve.{total}
use Rattle.lanes.specs.Block.{stored_at}
use Rattle.blocks.specs.Layout.{in_list}
use Rattle.blocks.specs.Lanes.{channel_of}
use Rattle.blocks.proofs.BlockMeans.{none_added, one_added}
use Rattle.blocks.proofs.block_means.sums.Goals as goal

pub loop-plane-init : goal.loop-plane-init
loop-plane-init c = record { within = omega arith; sums = none_added (λ s p. channel_of c.args.channel (stored_at (in_list c.args.planes.now s) p)) }

pub loop-plane-preserved : goal.loop-plane-preserved
loop-plane-preserved c =
    let s : ℕ = c.loop-plane.plane-index in
    record {
      within = omega (arith, c.loop-plane-test.true);
      sums = one_added s (λ s p. channel_of c.args.channel (stored_at (in_list c.args.planes.now s) p)) c.loop-plane.sums c.lanes_of-sums.result (omega (arith, c.loop-plane-test.true, c.requires)) c.lanes_of-sums.ensures.whole
          c.lanes_of-sums.ensures.each c.lanes_of-sums.ensures.bytes c.loop-plane.invariant.sums;
    }

pub returns-clause-each : goal.returns-clause-each
returns-clause-each c p l =
    let all : c.loop-plane.plane-index ≡ length c.args.planes.now = omega (arith, c.loop-plane-test.false, c.loop-plane.invariant.within) in
    c.loop-plane.invariant.sums.each p l ∙ ap (λ n. total n (λ s. channel_of c.args.channel (stored_at (in_list c.args.planes.now s) p))) all

pub returns-clause-most : goal.returns-clause-most
returns-clause-most c p l = omega (arith, c.loop-plane.invariant.sums.most p l, c.loop-plane.invariant.within)
