use Rattle.std.proofs.Common.{rules, ◌≡◌, ◌∙◌, IsTrue, refl, subst, List}
use Rattle.lanes.specs.declared.block_samples.BlockSamples.{BlockSamples}
use Rattle.raster.specs.Drawing.{IsInSquare}
use Rattle.block_fills.specs.Parts.{IsInWords, TilePaints}
use Rattle.block_fills.proofs.OnePlane.{full_painted}
use Rattle.block_fills.proofs.PairBlocks.{words_painted}
use Rattle.block_fills.proofs.covered_block.CoveredBlock.paint_planes.Goals as goal
use Rattle.block_fills.proofs.covered_block.CoveredBlock.paint_planes.Goals.{else-full-via-then-full+else-has_one_plane, else-full-via-else-full, else-has_pairs-via-then-has_pairs+then-ne+else-paint_as_pair, else-has_pairs-via-then-has_pairs+else-ne, else-has_pairs-via-else-has_pairs}

pub returns-then-has_one_plane-clause-painted : goal.returns-then-has_one_plane-clause-painted
returns-then-has_one_plane-clause-painted c true_is =
    let b = c.args.self.now in
    let tile = b.tile.now in
    let is_full : IsTrue c.is_full-full.result = search rules in
    let one_plane : IsTrue c.has_one_plane.result = search rules in
    let old = c.args.samples.now in
    let mid = c.has_one_plane.new.samples in
    full_painted b.fragment.now tile b.side b.bx b.by b.block c.args.masks.now c.args.k (b.allows c.requires.whole)
    (λ s bit h l. c.is_full-full.ensures is_full s bit (rw c.requires.count h) l)
    old mid c.paint_single.new.samples (c.has_one_plane.ensures.alike one_plane) (c.has_one_plane.ensures.others one_plane) c.paint_single.ensures

pub returns-then-paint_as_pair-clause-painted : goal.returns-then-paint_as_pair-clause-painted
returns-then-paint_as_pair-clause-painted c true_is =
    let b = c.args.self.now in
    let tile = b.tile.now in
    let is : IsTrue c.paint_as_pair.result = search rules in
    let old = c.args.samples.now in
    let mid = c.else-full.samples in
    let new = c.paint_as_pair.new.samples in
    let same : mid ≡ old = elim c.else-full.branch [
      | else-full-via-then-full+else-has_one_plane w ↦ w.samples-is ∙ w.has_one_plane.ensures.kept w.if-has_one_plane.false
      | else-full-via-else-full w ↦ w.samples-is
    ] in
    words_painted b.fragment.now tile b.bx b.by b.block c.args.masks.now c.args.k (b.allows c.requires.whole) c.words.result
    (λ s h. c.words.ensures s (rw c.requires.count h)) old new
    (subst (λ (xs : List BlockSamples). TilePaints b.fragment.now tile (IsInWords tile b.bx b.by c.words.result) xs new) same (c.paint_as_pair.ensures.painted is))

pub returns-then-full-2-clause-painted : goal.returns-then-full-2-clause-painted
returns-then-full-2-clause-painted c true_is =
    let b = c.args.self.now in
    let tile = b.tile.now in
    let is_full : IsTrue c.is_full-full.result = search rules in
    let old = c.args.samples.now in
    let mid = c.else-full.samples in
    let new = c.paint_both.new.samples in
    let first : mid ≡ old = elim c.else-full.branch [
      | else-full-via-then-full+else-has_one_plane w ↦ w.samples-is ∙ w.has_one_plane.ensures.kept w.if-has_one_plane.false
      | else-full-via-else-full w ↦ w.samples-is
    ] in
    let second : c.else-has_pairs.samples ≡ mid = elim c.else-has_pairs.branch [
      | else-has_pairs-via-then-has_pairs+then-ne+else-paint_as_pair w ↦ w.samples-is ∙ w.paint_as_pair.ensures.unchanged w.if-paint_as_pair.false
      | else-has_pairs-via-then-has_pairs+else-ne w ↦ w.samples-is
      | else-has_pairs-via-else-has_pairs w ↦ w.samples-is
    ] in
    full_painted b.fragment.now tile b.side b.bx b.by b.block c.args.masks.now c.args.k (b.allows c.requires.whole)
    (λ s bit h l. c.is_full-full.ensures is_full s bit (rw c.requires.count h) l)
    old old new (λ i j s made h drawn. drawn) (λ i j s h other. refl)
    (subst (λ (xs : List BlockSamples). TilePaints b.fragment.now tile (IsInSquare tile b.bx b.by 8) xs new) (second ∙ first) (c.paint_both.ensures.painted true_is))
