-- The colour of a pixel from the final values of its samples.
use Rattle.std.proofs.Common.{◌≡◌, ◌≢◌, ◌∙◌, sym, subst, inl, inr, ℕ, ◌+◌, ◌<◌, List, length, slice_set, arith}
use Rattle.std.proofs.lemmas.Bool.{cases_lt}
use Rattle.std.proofs.lemmas.List.{get_or-set_same, get_or-set_other, length-set}
use Rattle.grid.specs.Samples.{count_of}
use Rattle.shade.specs.declared.sample.Sample.{Sample}
use Rattle.shade.specs.Mean.{sample_of}
use Rattle.shade.specs.Resolve.{IsResolved}
use Rattle.draw_list.specs.Scene.{Scene}
use Rattle.draw_list.specs.Picture.{IsEnd, IsColour}

-- the first n of these are the final values of the pixel's first n samples
pub record AreEnds (l : Scene) (i j n : ℕ) (samples : List Sample) : Type 0 where
  pub long : length samples ≡ 16
  pub end : (s : ℕ) → s < n → IsEnd l i j s (sample_of samples s)

pub no_ends : (l : Scene) (i j : ℕ) (samples : List Sample) → length samples ≡ 16 → AreEnds l i j 0 samples
no_ends l i j samples long = record { long = long; end = λ s below. absurd (omega (arith, below)) }

pub one_end_more : (l : Scene) (i j n : ℕ) (samples : List Sample) (x : Sample) → n < 16 → AreEnds l i j n samples → IsEnd l i j n x → AreEnds l i j (n + 1) (slice_set samples n x)
one_end_more l i j n samples x room h is = record {
  long = length-set samples n x ∙ h.long;
  end = λ s below.
      elim (cases_lt s n) [
        | inl before ↦ subst (IsEnd l i j s) (sym (elsewhere s (λ e. omega arith))) (h.end s before)
        | inr from ↦
            let same : n ≡ s = omega arith in
            subst (λ k. IsEnd l i j k (sample_of (slice_set samples n x) k)) same (subst (IsEnd l i j n) (sym here) is)
      ];
}
  where
    here : sample_of (slice_set samples n x) n ≡ x
    here = get_or-set_same samples n x _ (omega (arith, h.long))

    elsewhere : (s : ℕ) → s ≢ n → sample_of (slice_set samples n x) s ≡ sample_of samples s
    elsewhere s other = get_or-set_other samples n s x _ other

pub colour_of_ends : (l : Scene) (i j n : ℕ) (samples : List Sample) (r g b : ℕ) → AreEnds l i j n samples → n ≡ count_of l.count
    → IsResolved l.count (λ s. (sample_of samples s).r) r → IsResolved l.count (λ s. (sample_of samples s).g) g → IsResolved l.count (λ s. (sample_of samples s).b) b
    → IsColour l i j r g b
colour_of_ends l i j n samples r g b h all red green blue = record {
  end = sample_of samples;
  ends = λ s below. h.end s (rw (← all) at below);
  red = red;
  green = green;
  blue = blue;
}
