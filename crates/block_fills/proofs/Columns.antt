-- The blocks of a column, one after another.
use Rattle.std.proofs.Common.{◌≡◌, inl, inr, subst, ap, ◌∙◌, arith, ℕ, ◌+◌, ◌*◌, ◌/◌, ◌%◌, ◌<◌, ◌≤◌, List, IsBitSet}
use Rattle.std.proofs.lemmas.Bool.{cases_lt}
use Rattle.std.proofs.lemmas.Nat.Bits.{bit_at-zero}
use Rattle.grid.specs.Samples.{count_of}
use Rattle.lanes.specs.declared.block_samples.BlockSamples.{BlockSamples}
use Rattle.lanes.specs.Fragment.{FlatFragment}
use Rattle.raster.specs.declared.tile.Tile.{Tile}
use Rattle.raster.proofs.Bits.{is_one}
use Rattle.block_fills.specs.declared.masks.Masks.{Masks}
use Rattle.block_fills.specs.Parts.{block_mask, IsInBlock, IsInColumn, TilePaints}
use Rattle.block_fills.proofs.Joined.{tile_same, tile_joined}

-- no bit of zero is set
pub none_set : (k : ℕ) → IsBitSet 0 k → ⊥
none_set k set = let one = is_one 0 k set in let zero = bit_at-zero k in omega (arith, one, zero)

module _ (f : FlatFragment) (tile : Tile) (bx n : ℕ) (masks : Masks) (k : ℕ) where
  abbrev Before : ℕ → ℕ → ℕ → Type 0
  Before row column s = IsInColumn f.state tile bx n masks k row column s

  abbrev After : ℕ → ℕ → ℕ → Type 0
  After row column s = IsInColumn f.state tile bx (n + 1) masks k row column s

  abbrev Here : ℕ → ℕ → ℕ → Type 0
  Here row column s = IsInBlock f.state tile bx (tile.by + n) masks k row column s

  after_before : (row column s : ℕ) → Before row column s → After row column s
  after_before row column s p = record { left = p.left; right = p.right; before = omega (arith, p.before); in_masks = p.in_masks; allowed = p.allowed }

  before_after : (row column s : ℕ) → row < 8 * n → After row column s → Before row column s
  before_after row column s l p = record { left = p.left; right = p.right; before = l; in_masks = p.in_masks; allowed = p.allowed }

  here_after : (row column s : ℕ) → 8 * n ≤ row → After row column s → Here row column s
  here_after row column s l p = record {
    square = record { left = p.left; right = p.right; top = omega (arith, l); bottom = omega (arith, p.before) };
    in_masks = p.in_masks;
    allowed = p.allowed;
  }

  after_here : (row column s : ℕ) → Here row column s → After row column s
  after_here row column s p =
      let q = p.square in
      record { left = q.left; right = q.right; before = omega (arith, q.bottom); in_masks = p.in_masks; allowed = p.allowed }

  pub one_block_more : (old mid new : List BlockSamples) → TilePaints f tile Before old mid → TilePaints f tile Here mid new → TilePaints f tile After old new
  one_block_more old mid new before here =
      tile_joined f tile Before Here After old mid new before here
      (λ row column s h p q. let l = p.before in let m = q.square.top in omega (arith, l, m))
      (λ row column s h r. elim (cases_lt row (8 * n)) [ inl less ↦ inl (before_after row column s less r) | inr more ↦ inr (here_after row column s more r) ])
      (λ row column s h p. after_before row column s p)
      (λ row column s h q. after_here row column s q)

  -- a block of which no bit is set
  pub one_block_skipped : (old new : List BlockSamples) → ((s : ℕ) → s < count_of tile.count → block_mask masks k n s ≡ 0) → TilePaints f tile Before old new → TilePaints f tile After old new
  one_block_skipped old new zeros before =
      tile_same f tile Before After old new before
      (λ row column s h r.
      elim (cases_lt row (8 * n)) [
        | inl less ↦ before_after row column s less r
        | inr more ↦
            let in_row : row / 8 ≡ n = omega (arith, more, r.before) in
            absurd (none_set (8 * (row % 8) + column % 8) (subst (λ w. IsBitSet w (8 * (row % 8) + column % 8)) (ap (λ b. block_mask masks k b s) in_row ∙ zeros s h.is_sample) r.in_masks))
      ])
      (λ row column s h p. after_before row column s p)
