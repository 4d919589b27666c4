-- The samples of a block, drawn from the first on.
use Rattle.std.proofs.Common.{◌≡◌, sym, subst, ◌∙◌, inl, inr, ◌⊎◌, ℕ, ◌+◌, ◌-◌, ◌*◌, ◌/◌, ◌%◌, ◌<◌, ◌≤◌, ℤ, pos, ◌+ℤ◌, arith, IsBitSet, List, slice_index}
use Rattle.std.proofs.lemmas.Int.{ints}
use Rattle.std.proofs.lemmas.Bool.{cases_lt}
use Rattle.grid.specs.Position.{Position}
use Rattle.lanes.specs.declared.block_samples.BlockSamples.{BlockSamples}
use Rattle.shade.specs.declared.sample.CanvasSample.{CanvasSample}
use Rattle.lanes.specs.Lanes.{IsMask}
use Rattle.gradients.specs.Multiple.{IsSixteenth}
use Rattle.gradients.specs.Group.{position_in, IsGroupOnScreen}
use Rattle.gradients.proofs.WholeValues.{multiple_sum}
use Rattle.lanes.specs.Block.{IsOnScreen, stored_at, AreDrawn}

-- the pixels before k are done, and the others are unchanged
pub record IsDrawnBefore (D : Position → CanvasSample → CanvasSample → Type 0) (p : Position) (mask : ℕ) (old new : BlockSamples) (k : ℕ) : Type 0 where
  pub drawn : (j : ℕ) → j < k → IsBitSet mask j → D (position_in p j) (stored_at old j) (stored_at new j)
  pub kept : (j : ℕ) → j < k → ¬ IsBitSet mask j → stored_at new j ≡ stored_at old j
  pub ahead : (j : ℕ) → k ≤ j → j < 64 → stored_at new j ≡ stored_at old j

pub and_next : (D : Position → CanvasSample → CanvasSample → Type 0) (p : Position) (mask : ℕ) (old mid new : BlockSamples) (k n : ℕ) → k + n ≤ 64 → IsDrawnBefore D p mask old mid k → AreDrawn D p mask mid new k n → IsDrawnBefore D p mask old new (k + n)
and_next D p mask old mid new k n room done next = record {
  drawn = λ j l set.
      elim (cases_lt j k) [
        | inl before ↦ subst (λ s. D (position_in p j) (stored_at old j) s) (sym (next.below j before)) (done.drawn j before set)
        | inr from ↦ subst (λ s. D (position_in p j) s (stored_at new j)) (done.ahead j from (omega arith)) (next.drawn j from l set)
      ];
  kept = λ j l clear.
      elim (cases_lt j k) [
        | inl before ↦ next.below j before ∙ done.kept j before clear
        | inr from ↦ next.kept j from l clear ∙ done.ahead j from (omega arith)
      ];
  ahead = λ j from l. next.above j from l ∙ done.ahead j (omega arith) l;
}

-- one pixel, which is drawn, or is not
pub one_drawn : (D : Position → CanvasSample → CanvasSample → Type 0) (p : Position) (mask : ℕ) (old new : BlockSamples) (k : ℕ) → k < 64 → IsBitSet mask k → D (position_in p k) (stored_at old k) (stored_at new k)
    → ((j : ℕ) → j < 64 → ¬ (j ≡ k) → stored_at new j ≡ stored_at old j) → AreDrawn D p mask old new k 1
one_drawn D p mask old new k room set drawn others = record {
  drawn = λ j from l is. let here : k ≡ j = omega arith in subst (λ i. D (position_in p i) (stored_at old i) (stored_at new i)) here drawn;
  kept = λ j from l clear. let here : k ≡ j = omega arith in absurd (clear (subst (λ i. IsBitSet mask i) here set));
  below = λ j l. others j (omega arith) (λ e. omega arith);
  above = λ j from l. others j l (λ e. omega arith);
}

pub one_kept : (D : Position → CanvasSample → CanvasSample → Type 0) (p : Position) (mask : ℕ) (s : BlockSamples) (k : ℕ) → ¬ IsBitSet mask k → AreDrawn D p mask s s k 1
one_kept D p mask s k clear = record {
  drawn = λ j from l is. let here : j ≡ k = omega arith in absurd (clear (subst (λ i. IsBitSet mask i) here is));
  kept = λ j from l is i. stored_at s j;
  below = λ j l i. stored_at s j;
  above = λ j from l i. stored_at s j;
}

-- one more
pub one_more : (D : Position → CanvasSample → CanvasSample → Type 0) (p : Position) (mask : ℕ) (old mid new : BlockSamples) (k n : ℕ) → k + n < 64 → AreDrawn D p mask old mid k n → AreDrawn D p mask mid new (k + n) 1 → AreDrawn D p mask old new k (n + 1)
one_more D p mask old mid new k n room done next = record {
  drawn = λ j from l set.
      elim (cases_lt j (k + n)) [
        | inl before ↦ subst (λ s. D (position_in p j) (stored_at old j) s) (sym (next.below j before)) (done.drawn j from before set)
        | inr after ↦ subst (λ s. D (position_in p j) s (stored_at new j)) (done.above j after (omega arith)) (next.drawn j after (omega arith) set)
      ];
  kept = λ j from l clear.
      elim (cases_lt j (k + n)) [
        | inl before ↦ next.below j before ∙ done.kept j from before clear
        | inr after ↦ next.kept j after (omega arith) clear ∙ done.above j after (omega arith)
      ];
  below = λ j l. next.below j (omega arith) ∙ done.below j l;
  above = λ j from l. next.above j (omega arith) l ∙ done.above j (omega arith) l;
}

-- all samples, of those before 64
pub all_done : (D : Position → CanvasSample → CanvasSample → Type 0) (p : Position) (mask : ℕ) (old new : BlockSamples) → IsDrawnBefore D p mask old new 64 → AreDrawn D p mask old new 0 64
all_done D p mask old new done = record {
  drawn = λ j from l. done.drawn j l;
  kept = λ j from l. done.kept j l;
  below = λ j l. absurd (omega arith);
  above = λ j from l. absurd (omega arith);
}

-- ---- a group of two rows
-- its first sample
abbrev pub group_at : Position → ℕ → Position
group_at p g = record { x = p.x; y = p.y +ℤ pos (512 * g) }

pub group_on_screen : (p : Position) (g : ℕ) → g < 4 → IsOnScreen p → IsGroupOnScreen (group_at p g)
group_on_screen p g less h =
    let rows : IsSixteenth (pos (512 * g)) = record { times = pos (32 * g); is = omega (arith, ints) } in
    record {
      left = h.left;
      top = omega (arith, ints, h.top);
      right = h.right;
      bottom = omega (arith, ints, h.bottom, less);
      sixteenth_x = h.sixteenth_x;
      sixteenth_y = multiple_sum 16 p.y (pos (512 * g)) h.sixteenth_y rows;
    }

pub in_rows : (p : Position) (g i : ℕ) → i < 16 → position_in (group_at p g) i ≡ position_in p (16 * g + i)
in_rows p g i l =
    let x : p.x +ℤ pos (256 * (i % 8)) ≡ p.x +ℤ pos (256 * ((16 * g + i) % 8)) = omega (arith, ints) in
    let y : p.y +ℤ pos (512 * g) +ℤ pos (256 * (i / 8)) ≡ p.y +ℤ pos (256 * ((16 * g + i) / 8)) = omega (arith, ints) in
    λ k. record { x = x k; y = y k }

pub rows_kept : (D : Position → CanvasSample → CanvasSample → Type 0) (p : Position) (mask g : ℕ) (s : BlockSamples) → ((i : ℕ) → i < 16 → ¬ IsBitSet mask (16 * g + i)) → AreDrawn D p mask s s (16 * g) 16
rows_kept D p mask g s clear = record {
  drawn = λ j from l set. let place : j ≡ 16 * g + (j - 16 * g) = omega arith in absurd (clear (j - 16 * g) (omega arith) (subst (IsBitSet mask) place set));
  kept = λ j from l is i. stored_at s j;
  below = λ j l i. stored_at s j;
  above = λ j from l i. stored_at s j;
}

-- what lanes make of the samples of a group
pub record AreLanesDrawn (D : Position → CanvasSample → CanvasSample → Type 0) (q : Position) (lanes : List ℕ) (old new : BlockSamples) (at : ℕ) : Type 0 where
  pub set : (i : ℕ) → i < 16 → slice_index lanes i ≡ 65535 → D (position_in q i) (stored_at old (at + i)) (stored_at new (at + i))
  pub clear : (i : ℕ) → i < 16 → slice_index lanes i ≡ 0 → stored_at new (at + i) ≡ stored_at old (at + i)
  pub elsewhere : (k : ℕ) → (k < at) ⊎ (at + 16 ≤ k) → stored_at new k ≡ stored_at old k

module _ (D : Position → CanvasSample → CanvasSample → Type 0) (p : Position) (mask g : ℕ) (lanes : List ℕ) (old new : BlockSamples)
    (reported : IsMask lanes (λ i. IsBitSet mask (16 * g + i))) (all : AreLanesDrawn D (group_at p g) lanes old new (16 * g)) where
  lane_drawn : (i : ℕ) → i < 16 → IsBitSet mask (16 * g + i) → D (position_in p (16 * g + i)) (stored_at old (16 * g + i)) (stored_at new (16 * g + i))
  lane_drawn i l set =
      elim (reported.each i l) [
        | inl holds ↦ subst (λ q. D q (stored_at old (16 * g + i)) (stored_at new (16 * g + i))) (in_rows p g i l) (all.set i l holds.0)
        | inr fails ↦ absurd (fails.1 set)
      ]

  lane_kept : (i : ℕ) → i < 16 → ¬ IsBitSet mask (16 * g + i) → stored_at new (16 * g + i) ≡ stored_at old (16 * g + i)
  lane_kept i l clear = elim (reported.each i l) [ inl holds ↦ absurd (clear holds.1) | inr fails ↦ all.clear i l fails.0 ]

  pub rows_drawn : AreDrawn D p mask old new (16 * g) 16
  rows_drawn = record {
    drawn = λ j from l set.
        let place : 16 * g + (j - 16 * g) ≡ j = omega arith in
        subst (λ k. D (position_in p k) (stored_at old k) (stored_at new k)) place (lane_drawn (j - 16 * g) (omega arith) (rw place set));
    kept = λ j from l clear.
        let place : 16 * g + (j - 16 * g) ≡ j = omega arith in
        subst (λ k. stored_at new k ≡ stored_at old k) place (lane_kept (j - 16 * g) (omega arith) (rw place clear));
    below = λ j l. all.elsewhere j (inl l);
    above = λ j from l. all.elsewhere j (inr from);
  }

-- the same position, by its coordinates
pub drawn_from : (D : Position → CanvasSample → CanvasSample → Type 0) (x y : ℤ) (q : Position) (i : ℕ) (old new : CanvasSample) → x ≡ q.x → y ≡ q.y → D (position_in (record { x = x; y = y }) i) old new → D (position_in q i) old new
drawn_from D x y q i old new ex ey drawn =
    let same : ◌≡◌ {A = Position} (record { x = x; y = y }) q = λ k. record { x = ex k; y = ey k } in
    subst (λ p. D (position_in p i) old new) same drawn
