-- Sums of counts, and sums in another order.
use Rattle.std.proofs.Common.{◌≡◌, refl, ap, ◌∙◌, ℕ, zero, suc, ◌+◌, ◌<◌, ◌≤◌, add-one, arith}
use Rattle.grid.specs.Samples.{count_of}
use Rattle.history.specs.Changed.{IsChangedBy, Shows}
use Rattle.history.specs.Samples.{IsSum, IsOneIf, AreSamples}
use Rattle.draw_list.specs.Scene.{Scene}
use Rattle.list_history.specs.Counts.{CoversSample, AreCountsOf, AreCountsAt, AreCountSums, AreAtMost, no_counts, both_counts}
use Rattle.list_history.specs.declared.sample_counts.SampleCounts.{SampleCounts}

-- ---- sums in another order
zeros : (n : ℕ) → IsSum (λ k m. m ≡ 0) n 0
zeros zero = refl
zeros (suc n) = (0, 0, zeros n, refl, refl)

added : (P Q : ℕ → ℕ → Type 0) (n a b : ℕ) → IsSum P n a → IsSum Q n b → IsSum (λ k m. (x : ℕ) × (y : ℕ) × P k x × Q k y × (m ≡ x + y)) n (a + b)
added P Q zero a b h k = omega (arith, h, k)
added P Q (suc n) a b h k = (h.0 + k.0, h.1 + k.1, added P Q n h.0 k.0 h.2 k.2, (h.1, k.1, h.3, k.3, refl), omega (arith, h.4, k.4))

pub swapped : (P : ℕ → ℕ → ℕ → Type 0) (m n total : ℕ) → IsSum (λ a t. IsSum (λ b u. P a b u) n t) m total → IsSum (λ b t. IsSum (λ a u. P a b u) m t) n total
swapped P zero n total h = rw h (zeros n)
swapped P (suc m) n total h =
    rw h.4 (added (λ b t. IsSum (λ a u. P a b u) m t) (λ b u. P m b u) n h.0 h.1 (swapped P m n h.0 h.2) h.3)

-- ---- one of the counts
module _ (f : SampleCounts → ℕ) (none : f no_counts ≡ 0) (both : (c d : SampleCounts) → f (both_counts c d) ≡ f c + f d) where
  each : (P : ℕ → SampleCounts → Type 0) (Q : ℕ → ℕ → Type 0) → ((k : ℕ) (c : SampleCounts) → P k c → Q k (f c)) → (n : ℕ) (c : SampleCounts) → AreCountSums P n c → IsSum Q n (f c)
  each P Q to zero c h = ap f h ∙ none
  each P Q to (suc n) c h = (f h.0, f h.1, each P Q to n h.0 h.2, to n h.1 h.3, ap f h.4 ∙ both h.0 h.1)

  module _ (l : Scene) (n : ℕ) (Q : ℕ → ℕ → ℕ → Type 0) (to : (i j s : ℕ) (c : SampleCounts) → AreCountsAt l n i j s c → IsOneIf (Q i j s) (f c)) where
    of_row : (j : ℕ) (c : SampleCounts) → AreCountSums (λ s d. AreCountSums (λ i e. AreCountsAt l n i j s e) l.width d) (count_of l.count) c
        → IsSum (λ i m. IsSum (λ s one. IsOneIf (Q i j s) one) (count_of l.count) m) l.width (f c)
    of_row j c h =
        swapped (λ s i one. IsOneIf (Q i j s) one) (count_of l.count) l.width (f c)
        (each (λ s d. AreCountSums (λ i e. AreCountsAt l n i j s e) l.width d) (λ s m. IsSum (λ i one. IsOneIf (Q i j s) one) l.width m)
        (λ s d k. each (λ i e. AreCountsAt l n i j s e) (λ i one. IsOneIf (Q i j s) one) (λ i e q. to i j s e q) l.width d k) (count_of l.count) c h)

    whole : (c : SampleCounts) → AreCountSums (λ j d. AreCountSums (λ s e. AreCountSums (λ i g. AreCountsAt l n i j s g) l.width e) (count_of l.count) d) l.height c
        → AreSamples Q l.count l.width l.height (f c)
    whole c h =
        each (λ j d. AreCountSums (λ s e. AreCountSums (λ i g. AreCountsAt l n i j s g) l.width e) (count_of l.count) d)
        (λ j m. IsSum (λ i n. IsSum (λ s one. IsOneIf (Q i j s) one) (count_of l.count) n) l.width m) (λ j d k. of_row j d k) l.height c h

pub counts_are : (l : Scene) (n : ℕ) (c : SampleCounts)
    → AreCountSums (λ j d. AreCountSums (λ s e. AreCountSums (λ i g. AreCountsAt l n i j s g) l.width e) (count_of l.count) d) l.height c → AreCountsOf l n c
counts_are l n c h = record {
  covered = whole (λ c. c.covered) refl (λ c d. refl) l n (λ i j s. CoversSample l n i j s) (λ i j s c k. k.covered) c h;
  changed = whole (λ c. c.changed) refl (λ c d. refl) l n (λ i j s. IsChangedBy l.triangles n l.count i j s l.clear) (λ i j s c k. k.changed) c h;
  shown = whole (λ c. c.shown) refl (λ c d. refl) l n (λ i j s. Shows l.triangles n l.count i j s l.clear) (λ i j s c k. k.shown) c h;
}

-- ---- no counts
pub no_sums : (P : ℕ → SampleCounts → Type 0) (n : ℕ) → ((k : ℕ) → k < n → P k no_counts) → AreCountSums P n no_counts
no_sums P zero h = refl
no_sums P (suc n) h = (no_counts, no_counts, no_sums P n (λ k below. h k (omega (arith, below))), h n (omega arith), refl)

-- ---- one more
pub sums_more : (P : ℕ → SampleCounts → Type 0) (n : ℕ) (c d e : SampleCounts) → AreCountSums P n c → P n d → e ≡ both_counts c d → AreCountSums P (n + 1) e
sums_more P n c d e h k is = rw add-one (c, d, h, k, is)

-- ---- how large they are
pub at_most_more : (m n : ℕ) (c : SampleCounts) → AreAtMost m c → m ≤ n → AreAtMost n c
at_most_more m n c h le = record { covered = omega (arith, h.covered, le); changed = omega (arith, h.changed, le); shown = omega (arith, h.shown, le) }

pub both_at_most : (m n : ℕ) (c d : SampleCounts) → AreAtMost m c → AreAtMost n d → AreAtMost (m + n) (both_counts c d)
both_at_most m n c d h k = record {
  covered = omega (arith, h.covered, k.covered);
  changed = omega (arith, h.changed, k.changed);
  shown = omega (arith, h.shown, k.shown);
}
