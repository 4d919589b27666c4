-- Samples that a palette needs, of which five are too many.
use Rattle.std.proofs.Common.{◌≡◌, ◌≢◌, ◌↔◌, ◌∙◌, inl, inr, sym, ap, subst, ℕ, ◌<◌, ◌≤◌, List, slice_index, arith}
use Rattle.std.specs.Int.{bit_at}
use Rattle.std.proofs.lemmas.Bool.{cases_lt}
use Rattle.grid.specs.Samples.{count_of}
use Rattle.grid.specs.declared.sample_count.SampleCount.{SampleCount}
use Rattle.shade.specs.declared.sample.CanvasSample.{CanvasSample}
use Rattle.blocks.specs.declared.palette.Palette.{Palette}
use Rattle.blocks.specs.Layout.{chosen}
use Rattle.blocks.specs.Palettes.{palette_number, sample_numbered, palette_sample, IsPaletteReplaced, HasNumbers, HasNoNumber, IsNewNumber}
use Rattle.blocks.proofs.Pairs.{chosen_set, chosen_clear}
use Rattle.blocks.proofs.Palettes.{below_four, is_kept}

-- five numbers below four
pigeons : (a b c d e : ℕ) → a < 4 → b < 4 → c < 4 → d < 4 → e < 4 → a ≢ b → a ≢ c → a ≢ d → a ≢ e → b ≢ c → b ≢ d → b ≢ e → c ≢ d → c ≢ e → d ≢ e → ⊥
pigeons a b c d e la lb lc ld le ab ac ad ae bc bd be cd ce de = omega (arith, la, lb, lc, ld, le, ab, ac, ad, ae, bc, bd, be, cd, ce, de)

differ : (f : ℕ → CanvasSample) (a b : ℕ) (x y : CanvasSample) → f a ≡ x → f b ≡ y → x ≢ y → a ≢ b
differ f a b x y is_x is_y other e = other (sym is_x ∙ ap f e ∙ is_y)

module _ (count : SampleCount) (old : Palette) (masks : List ℕ) (drawn : List CanvasSample) where
  abbrev wanted : ℕ → ℕ → CanvasSample
  wanted s p = chosen (slice_index masks s) p (sample_numbered drawn (palette_number old s p)) (palette_sample old s p)

  -- some sample of a pixel is to be this one
  abbrev pub Occurs : CanvasSample → Type 0
  Occurs x = ((s p : ℕ) → s < count_of count → p < 64 → wanted s p ≢ x) → ⊥

  -- each of the samples in use is needed, and no two of them are the same
  pub record AreNeeded (samples : List CanvasSample) (used : ℕ) : Type 0 where
    pub occur : (n : ℕ) → n < used → Occurs (sample_numbered samples n)
    pub apart : (m n : ℕ) → m < n → n < used → sample_numbered samples m ≢ sample_numbered samples n

  pub none_needed : (samples : List CanvasSample) (used : ℕ) → used ≡ 0 → AreNeeded samples used
  none_needed samples used none = record { occur = λ n l. absurd (omega (arith, none, l)); apart = λ m n l below. absurd (omega (arith, none, below)) }

  pub one_needed : (samples after : List CanvasSample) (used more : ℕ) (x : CanvasSample) → AreNeeded samples used → ((n : ℕ) → n < used → sample_numbered after n ≡ sample_numbered samples n)
      → ((n : ℕ) → used ≤ n → n < more → IsNewNumber samples used x after n) → (used < more → Occurs x) → AreNeeded after more
  one_needed samples after used more x are kept fresh occurs = record {
    occur = λ n l.
        elim (cases_lt n used) [
          | inl below ↦ subst (λ y. Occurs y) (sym (kept n below)) (are.occur n below)
          | inr from ↦ subst (λ y. Occurs y) (sym (fresh n from l).sample) (occurs (omega (arith, from, l)))
        ];
    apart = λ m n less l.
        elim (cases_lt n used) [
          | inl below ↦ (λ e. are.apart m n less below (sym (kept m (omega (arith, less, below))) ∙ e ∙ kept n below))
          | inr from ↦
              let new = fresh n from l in
              let before : m < used = (let last = new.last in omega (arith, less, last)) in
              (λ e. new.others m before (sym (kept m before) ∙ e ∙ new.sample))
        ];
  }

  -- a palette that has all that is to be there has each of them
  there : (palette : Palette) → IsPaletteReplaced count old masks drawn palette → (x : CanvasSample) → Occurs x → ((n : ℕ) → n < 4 → sample_numbered palette.samples n ≢ x) → ⊥
  there palette is x occurs none = occurs (λ s p h l e. none (palette_number palette s p) (below_four palette s p) (is s p h l ∙ e))

  pub five_needed : (samples : List CanvasSample) (x : CanvasSample) → AreNeeded samples 4 → HasNoNumber samples 4 x → Occurs x → (palette : Palette) → IsPaletteReplaced count old masks drawn palette → ⊥
  five_needed samples x are others occurs palette is =
      let f : ℕ → CanvasSample = sample_numbered palette.samples in
      let y : ℕ → CanvasSample = sample_numbered samples in
      there palette is (y 0) (are.occur 0 (omega arith)) (λ a la ea.
      there palette is (y 1) (are.occur 1 (omega arith)) (λ b lb eb.
      there palette is (y 2) (are.occur 2 (omega arith)) (λ c lc ec.
      there palette is (y 3) (are.occur 3 (omega arith)) (λ d ld ed.
      there palette is x occurs (λ e le ee.
      pigeons a b c d e la lb lc ld le
      (differ f a b (y 0) (y 1) ea eb (are.apart 0 1 (omega arith) (omega arith)))
      (differ f a c (y 0) (y 2) ea ec (are.apart 0 2 (omega arith) (omega arith)))
      (differ f a d (y 0) (y 3) ea ed (are.apart 0 3 (omega arith) (omega arith)))
      (differ f a e (y 0) x ea ee (others 0 (omega arith)))
      (differ f b c (y 1) (y 2) eb ec (are.apart 1 2 (omega arith) (omega arith)))
      (differ f b d (y 1) (y 3) eb ed (are.apart 1 3 (omega arith) (omega arith)))
      (differ f b e (y 1) x eb ee (others 1 (omega arith)))
      (differ f c d (y 2) (y 3) ec ed (are.apart 2 3 (omega arith) (omega arith)))
      (differ f c e (y 2) x ec ee (others 2 (omega arith)))
      (differ f d e (y 3) x ed ee (others 3 (omega arith))))))))

  -- the samples that are kept, and the ones that are changed
  module _ (number : ℕ) (pixels kept : List ℕ) (has : (s p : ℕ) → s < count_of count → p < 64 → HasNumbers old number s p (slice_index pixels s))
      (less : (s p : ℕ) → s < count_of count → p < 64 → bit_at (slice_index masks s) p ≡ 1 → bit_at (slice_index kept s) p ≡ 0)
      (beside : (s p : ℕ) → s < count_of count → p < 64 → bit_at (slice_index masks s) p ≢ 1 → bit_at (slice_index kept s) p ≡ bit_at (slice_index pixels s) p) where
    pub kept_occurs : (((s p : ℕ) → s < count_of count → p < 64 → bit_at (slice_index kept s) p ≢ 1) → ⊥) → Occurs (sample_numbered old.samples number)
    kept_occurs some none =
        some (λ s p h l set. none s p h l
        (chosen_clear (slice_index masks s) p (sample_numbered drawn (palette_number old s p)) (palette_sample old s p) (λ inside. (let zero = less s p h l inside in omega (arith, zero, set)))
        ∙ ap (sample_numbered old.samples) (is_kept count old masks drawn number pixels kept has less beside s p h l set)))

    pub changed_occurs : (changed : List ℕ) → ((s p : ℕ) → s < count_of count → p < 64 → (bit_at (slice_index changed s) p ≡ 1) ↔ ((bit_at (slice_index pixels s) p ≡ 1) × (bit_at (slice_index masks s) p ≡ 1)))
        → (((s p : ℕ) → s < count_of count → p < 64 → bit_at (slice_index changed s) p ≢ 1) → ⊥) → Occurs (sample_numbered drawn number)
    changed_occurs changed both some none =
        some (λ s p h l set. none s p h l
        (chosen_set (slice_index masks s) p (sample_numbered drawn (palette_number old s p)) (palette_sample old s p) ((both s p h l).0 set).1
        ∙ ap (sample_numbered drawn) ((has s p h l).0 ((both s p h l).0 set).0)))
