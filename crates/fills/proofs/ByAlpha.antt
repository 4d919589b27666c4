-- What a polygon's fragment makes of a sample by the equation for its alpha.
use Rattle.std.proofs.Common.{◌≡◌, ◌∙◌, inl, inr, refl, sym, ap, arith, Bool, false, true, ℕ}
use Rattle.std.specs.Prelude.{if◌then◌else◌, slice_index_or}
use Rattle.std.proofs.lemmas.Bool.Decides.{eqb_tells}
use Rattle.shade.specs.declared.equation.Equation.{Equation}
use Rattle.shade.specs.declared.equation.BlendOperation.{BlendOperation}
use Rattle.shade.specs.declared.factor.BlendFactor.{BlendFactor}
use Rattle.shade.specs.declared.factor.BlendFactor.TheVariants.{Zero, One, SourceColour, InverseSourceColour, SourceAlpha, InverseSourceAlpha, StoredAlpha, InverseStoredAlpha, StoredColour, InverseStoredColour, SourceAlphaSaturated, Constant, InverseConstant}
use Rattle.shade.specs.declared.operands.Channel.TheVariants.{Colour}
use Rattle.shade.specs.declared.operands.Operands.{Operands}
use Rattle.shade.specs.declared.sample.Merge.{Merge}
use Rattle.shade.specs.Blend.{factor, IsBlended, IsCombined}
use Rattle.shade.specs.Merging.{operands_of, IsWritten, IsChannelMerged}
use Rattle.shade.specs.declared.sample.CanvasSample.{CanvasSample}
use Rattle.shade.specs.declared.sample.Shaded.{Shaded}
use Rattle.shade.specs.Canvas.{IsCanvasApplied}
use Rattle.fills.specs.Parts.{opaque_factor, factor_by, equation_by, merge_by}

opaque_is : (f : BlendFactor) (o : Operands) → o.source_alpha ≡ 255 → factor (opaque_factor f) Colour o ≡ factor f Colour o
opaque_is Zero o e = refl
opaque_is One o e = refl
opaque_is SourceColour o e = refl
opaque_is InverseSourceColour o e = refl
opaque_is SourceAlpha o e = sym e
opaque_is InverseSourceAlpha o e = omega (arith, e)
opaque_is StoredAlpha o e = refl
opaque_is InverseStoredAlpha o e = refl
opaque_is StoredColour o e = refl
opaque_is InverseStoredColour o e = refl
opaque_is SourceAlphaSaturated o e = refl
opaque_is Constant o e = refl
opaque_is InverseConstant o e = refl

factor_is : (alpha : ℕ) (f : BlendFactor) (o : Operands) → o.source_alpha ≡ alpha → factor (factor_by alpha f) Colour o ≡ factor f Colour o
factor_is alpha f o e = elim (eqb_tells alpha 255) [
  | inl same ↦ ap (λ b. factor (if b then opaque_factor f else f) Colour o) same.0 ∙ opaque_is f o (e ∙ same.1)
  | inr other ↦ ap (λ b. factor (if b then opaque_factor f else f) Colour o) other.0
]

combined : (op : BlendOperation) (s f g d h k n : ℕ) → f ≡ g → h ≡ k → IsCombined op s f d h n → IsCombined op s g d k n
combined op s f g d h k n e i c = rw (← e, ← i) c

blended : (alpha : ℕ) (e : Equation) (o : Operands) (n : ℕ) → o.source_alpha ≡ alpha → IsBlended (equation_by alpha e) Colour o n → IsBlended e Colour o n
blended alpha e o n is b = combined e.operation o.source _ _ o.stored _ _ n (factor_is alpha e.source o is) (factor_is alpha e.stored o is) b

written : (w : Bool) (P Q : ℕ → Type 0) (old new : ℕ) → ((n : ℕ) → P n → Q n) → IsWritten w P old new → IsWritten w Q old new
written false P Q old new h k = k
written true P Q old new h k = h new k

channel_is : (m : Merge) (k source alpha stored_alpha stored new : ℕ) → IsChannelMerged (merge_by alpha m) k source alpha stored_alpha stored new
    → IsChannelMerged m k source alpha stored_alpha stored new
channel_is m k source alpha stored_alpha stored new h =
    written (slice_index_or m.write k false) _ _ stored new (λ n. blended alpha m.blend.colour (operands_of m k source alpha stored_alpha stored) n refl) h

pub by_alpha : (m : Merge) (f : Shaded) (old new : CanvasSample) → IsCanvasApplied (merge_by f.a m) f old new → IsCanvasApplied m f old new
by_alpha m f old new h = record {
  passed = λ p. let d = h.passed p in record {
    red = channel_is m 0 f.r f.a old.alpha old.r new.r d.red;
    green = channel_is m 1 f.g f.a old.alpha old.g new.g d.green;
    blue = channel_is m 2 f.b f.a old.alpha old.b new.b d.blue;
    alpha = d.alpha;
    depth = d.depth;
  };
  failed = h.failed;
}
