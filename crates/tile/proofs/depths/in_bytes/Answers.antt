use Rattle.std.proofs.Common.{◌≡◌, ap, ◌+◌, ◌*◌, ◌/◌, ◌%◌, ◌∙◌, slice_index, length-set, arith}
use Rattle.tile.proofs.PixelRuns.{set_two_more}
use Rattle.tile.proofs.depths.in_bytes.Goals as goal

pub loop-i-preserved : goal.loop-i-preserved
loop-i-preserved c =
    let two = c.depth_bytes.ensures in (
      length-set _ (2 * c.loop-i.i + 1) _ ∙ length-set c.loop-i.bytes (2 * c.loop-i.i) _ ∙ c.loop-i.invariant.0,
      set_two_more (λ k high low. (high ≡ slice_index c.args.depths.now (c.args.from + k) / 256) × (low ≡ slice_index c.args.depths.now (c.args.from + k) % 256))
          c.loop-i.bytes c.loop-i.i _ _ (omega (arith, c.loop-i.invariant.0)) c.loop-i.invariant.1 (ap (λ xs. slice_index xs 0) two, ap (λ xs. slice_index xs 1) two),
    )
