use Rattle.std.proofs.Common.{◌≡◌, subst, ℕ, ◌+◌, ◌*◌, ◌<◌, length, arith}
use Rattle.grid.specs.Samples.{count_of}
use Rattle.lanes.specs.Block.{stored_at}
use Rattle.blocks.specs.Layout.{in_list}
use Rattle.tile_blend.proofs.Planes.{ArePlanesChanged, no_plane, one_plane, block_changed, others_kept}
use Rattle.tile_blend.proofs.Numbered.{TakesFrom, TakesNumbered, entries_of_mask, has_mask, takes_kept}
use Rattle.tile_blend.proofs.blending.blend_planes.Goals as goal

pub mask-requires : goal.mask-requires
mask-requires c =
    let below : c.loop-s.s < count_of c.args.count = omega (arith, c.loop-s-test.true, c.count-many.ensures) in
    rw c.count-many.ensures (has_mask c.args.count c.args.k c.loop-s.s (length c.args.fragments.now.kept.now) c.requires.block below c.requires.fragments.have_masks)

pub blend_plane-requires-clause-colours : goal.blend_plane-requires-clause-colours
blend_plane-requires-clause-colours c =
    let below : c.loop-s.s < count_of c.args.count = omega (arith, c.loop-s-test.true, c.count-many.ensures) in
    rw c.count-many.ensures (entries_of_mask c.args.count c.args.k c.loop-s.s (length c.args.fragments.now.colours.now) c.requires.block below c.requires.fragments.have_colours)

pub blend_plane-requires-clause-depths : goal.blend_plane-requires-clause-depths
blend_plane-requires-clause-depths c =
    let below : c.loop-s.s < count_of c.args.count = omega (arith, c.loop-s-test.true, c.count-many.ensures) in
    rw c.count-many.ensures (entries_of_mask c.args.count c.args.k c.loop-s.s (length c.args.fragments.now.depths.now) c.requires.block below c.requires.fragments.have_depths)

pub loop-s-init : goal.loop-s-init
loop-s-init c = no_plane c.args.count c.args.k (λ s. TakesNumbered c.args.merge.now c.args.fragments.now.colours.now c.args.fragments.now.depths.now c.args.fragments.now.kept.now (c.args.k * count_of c.args.count + s)) c.args.samples.now

pub loop-s-preserved : goal.loop-s-preserved
loop-s-preserved c =
    let count = c.args.count in
    let k : ℕ = c.args.k in
    let s : ℕ = c.loop-s.s in
    let m = c.args.merge.now in
    let colours = c.args.fragments.now.colours.now in
    let depths = c.args.fragments.now.depths.now in
    let kept = c.args.fragments.now.kept.now in
    let xs = c.loop-s.samples in
    let at : ℕ = c.place_by-place.result in
    let plane = c.blend_plane.new.plane in
    one_plane count k s at (λ t. TakesNumbered m colours depths kept (k * count_of count + t)) plane c.args.samples.now xs c.place_by-place.ensures.value
    (omega (arith, c.place_by-place.ensures.within, c.loop-s.auto.samples, c.requires.samples))
    (λ p small.
    subst (λ many. TakesNumbered m colours depths kept (k * many + s) p (stored_at (in_list xs at) p) (stored_at plane p)) c.count-many.ensures
    (subst (λ mask. TakesFrom m colours depths mask (64 * (k * c.count-many.result + s)) p (stored_at (in_list xs at) p) (stored_at plane p)) c.mask.ensures (c.blend_plane.ensures p small)))
    c.loop-s.invariant

pub returns-clause-block : goal.returns-clause-block
returns-clause-block c i j s h here =
    let count = c.args.count in
    let k : ℕ = c.args.k in
    let m = c.args.merge.now in
    let colours = c.args.fragments.now.colours.now in
    let depths = c.args.fragments.now.depths.now in
    let kept = c.args.fragments.now.kept.now in
    let end : c.loop-s.s ≡ count_of count = omega (arith, c.loop-s-test.false, c.loop-s.auto.s-end, c.count-many.ensures) in
    let all = subst (λ t. ArePlanesChanged count k t (λ t. TakesNumbered m colours depths kept (k * count_of count + t)) c.args.samples.now c.loop-s.samples) end c.loop-s.invariant in
    takes_kept count m colours depths kept i j s k here _ _
    (block_changed count k (λ t. TakesNumbered m colours depths kept (k * count_of count + t)) c.args.samples.now c.loop-s.samples c.requires.own all i j s h here)

pub returns-clause-others : goal.returns-clause-others
returns-clause-others c =
    let count = c.args.count in
    let k : ℕ = c.args.k in
    let m = c.args.merge.now in
    let colours = c.args.fragments.now.colours.now in
    let depths = c.args.fragments.now.depths.now in
    let kept = c.args.fragments.now.kept.now in
    let end : c.loop-s.s ≡ count_of count = omega (arith, c.loop-s-test.false, c.loop-s.auto.s-end, c.count-many.ensures) in
    let all = subst (λ t. ArePlanesChanged count k t (λ t. TakesNumbered m colours depths kept (k * count_of count + t)) c.args.samples.now c.loop-s.samples) end c.loop-s.invariant in
    others_kept count k (λ t. TakesNumbered m colours depths kept (k * count_of count + t)) c.args.samples.now c.loop-s.samples c.requires.own all
