-- The parts of a pixel's samples that are painted one after another, in a block.
use Rattle.std.proofs.Common.{◌≡◌, inl, inr, sym, subst, ap, ◌∙◌, arith, ℕ, ◌+◌, ◌-◌, ◌*◌, ◌/◌, ◌%◌, ◌<◌, ◌≤◌, List, slice_index, IsBitSet}
use Rattle.std.proofs.lemmas.Bool.{cases_lt}
use Rattle.grid.specs.Samples.{count_of, parts_of}
use Rattle.lanes.specs.declared.block_samples.BlockSamples.{BlockSamples}
use Rattle.lanes.specs.Fragment.{FlatFragment}
use Rattle.raster.specs.declared.tile.Tile.{Tile}
use Rattle.raster.specs.Drawing.{IsChosen, IsInPart}
use Rattle.raster.proofs.BlockDrawn.{part_at_most}
use Rattle.blocks.specs.Layout.{stored_in_tile}
use Rattle.block_fills.specs.declared.masks.Masks.{Masks}
use Rattle.block_fills.specs.Parts.{block_mask, IsInBlock, TilePaints}
use Rattle.block_fills.proofs.Columns.{none_set}
use Rattle.block_fills.proofs.Joined.{tile_same, tile_joined}
use Rattle.block_fills.proofs.SampleParts.{all_parts, part_end}

-- the samples of the first parts
abbrev pub OfParts : (ℕ → ℕ → ℕ → Type 0) → ℕ → ℕ → ℕ → ℕ → Type 0
OfParts P part row column s = (s < 4 * part) × P row column s

module _ (f : FlatFragment) (tile : Tile) (P : ℕ → ℕ → ℕ → Type 0) where
  pub no_part : (old new : List BlockSamples) → ((i j s : ℕ) → s < count_of tile.count → stored_in_tile tile.count new i j s ≡ stored_in_tile tile.count old i j s) → TilePaints f tile (OfParts P 0) old new
  no_part old new kept = record { met = λ row column s h p. absurd (omega (arith, p.0)); missed = λ row column s h other. kept column row s h.is_sample }

  -- one part more, of which Q says which samples are drawn
  module _ (part : ℕ) (Q : ℕ → ℕ → ℕ → Type 0) (in_part : (row column s : ℕ) → Q row column s → IsInPart tile.count (4 * part) s × P row column s)
      (of_part : (row column s : ℕ) → IsInPart tile.count (4 * part) s → P row column s → Q row column s) where
    pub one_part_more : (old mid new : List BlockSamples) → TilePaints f tile (OfParts P part) old mid → TilePaints f tile Q mid new → TilePaints f tile (OfParts P (part + 1)) old new
    one_part_more old mid new before here =
        tile_joined f tile (OfParts P part) Q (OfParts P (part + 1)) old mid new before here
        (λ row column s h p q. let l = p.0 in let m = (in_part row column s q).0.low in omega (arith, l, m))
        (λ row column s h r. elim (cases_lt s (4 * part)) [
          | inl less ↦ inl (less, r.1)
          | inr more ↦ inr (of_part row column s (record { low = more; high = part_end tile.count part s h.is_sample r.0 }) r.1)
        ])
        (λ row column s h p. (omega (arith, p.0), p.1))
        (λ row column s h q.
        let in_q = in_part row column s q in
        let few = part_at_most tile.count in
        (omega (arith, in_q.0.high, few.1), in_q.1))

    -- a part of which no sample is drawn
    pub one_part_skipped : (old new : List BlockSamples) → ((row column s : ℕ) → Q row column s → ⊥) → TilePaints f tile (OfParts P part) old new → TilePaints f tile (OfParts P (part + 1)) old new
    one_part_skipped old new none before =
        tile_same f tile (OfParts P part) (OfParts P (part + 1)) old new before
        (λ row column s h r. elim (cases_lt s (4 * part)) [
          | inl less ↦ (less, r.1)
          | inr more ↦ absurd (none row column s (of_part row column s (record { low = more; high = part_end tile.count part s h.is_sample r.0 }) r.1))
        ])
        (λ row column s h p. (omega (arith, p.0), p.1))

  pub every_part : (parts : ℕ) (old new : List BlockSamples) → parts_of tile.count ≤ parts → TilePaints f tile (OfParts P parts) old new → TilePaints f tile P old new
  every_part parts old new enough before =
      tile_same f tile (OfParts P parts) P old new before
      (λ row column s h p. let few = all_parts tile.count in (omega (arith, h.is_sample, few, enough), p))
      (λ row column s h p. p.1)

-- ---- in a block, by the words of a part
module _ (f : FlatFragment) (tile : Tile) (bx by : ℕ) (masks : Masks) (k part : ℕ) (words : List ℕ) (low : tile.by ≤ by) (is : (s : ℕ) → s < 4 → slice_index words s ≡ block_mask masks k (by - tile.by) (4 * part + s)) where
  abbrev P : ℕ → ℕ → ℕ → Type 0
  P row column s = IsInBlock f.state tile bx by masks k row column s

  abbrev Q : ℕ → ℕ → ℕ → Type 0
  Q row column s = IsChosen f.state tile bx by (4 * part) words row column s

  small_part : (s : ℕ) → s < 4 * part + 4 → 4 * part ≤ s → s - 4 * part < 4
  small_part s h l = omega (arith, h, l)

  same_word : (row s : ℕ) → row / 8 ≡ by - tile.by → 4 * part ≤ s → s < 4 * part + 4 → slice_index words (s - 4 * part) ≡ block_mask masks k (row / 8) s
  same_word row s line from below =
      is (s - 4 * part) (omega (arith, below, from))
      ∙ ap (block_mask masks k (by - tile.by)) (let at : 4 * part + (s - 4 * part) ≡ s = omega (arith, from) in at)
      ∙ ap (λ r. block_mask masks k r s) (sym line)

  in_block : (row column s : ℕ) → Q row column s → IsInPart tile.count (4 * part) s × P row column s
  in_block row column s q =
      let few = part_at_most tile.count in
      let square = q.part.square in
      let samples = q.part.samples in
      let line : row / 8 ≡ by - tile.by = omega (arith, square.top, square.bottom) in (
        samples,
        record {
          square = square;
          in_masks = subst (λ w. IsBitSet w (8 * (row % 8) + column % 8)) (same_word row s line samples.low (omega (arith, samples.high, few.1))) q.in_masks;
          allowed = q.allowed;
        },
      )

  of_block : (row column s : ℕ) → IsInPart tile.count (4 * part) s → P row column s → Q row column s
  of_block row column s samples p =
      let few = part_at_most tile.count in
      let line : row / 8 ≡ by - tile.by = omega (arith, p.square.top, p.square.bottom) in
      record {
        part = record { square = p.square; samples = samples };
        in_masks = subst (λ w. IsBitSet w (8 * (row % 8) + column % 8)) (sym (same_word row s line samples.low (omega (arith, samples.high, few.1)))) p.in_masks;
        allowed = p.allowed;
      }

  pub block_part_more : (old mid new : List BlockSamples) → TilePaints f tile (OfParts P part) old mid → TilePaints f tile Q mid new → TilePaints f tile (OfParts P (part + 1)) old new
  block_part_more = one_part_more f tile P part Q in_block of_block

  -- no bit of the words is set
  pub block_part_skipped : (old new : List BlockSamples) → ((s : ℕ) → s < 4 → slice_index words s ≡ 0) → TilePaints f tile (OfParts P part) old new → TilePaints f tile (OfParts P (part + 1)) old new
  block_part_skipped old new zeros =
      one_part_skipped f tile P part Q in_block of_block old new
      (λ row column s q.
      let few = part_at_most tile.count in
      let samples = q.part.samples in
      none_set (8 * (row % 8) + column % 8) (subst (λ w. IsBitSet w (8 * (row % 8) + column % 8)) (zeros (s - 4 * part) (omega (arith, samples.low, samples.high, few.1))) q.in_masks))
