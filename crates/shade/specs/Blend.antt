-- Blending (Direct3D 11, output merger). Channels and factors are 0 to 255, of which 255 is one.
use Rattle.std.specs.Prelude.{◌≡◌, ◌⊎◌, ℕ, ◌+◌, ◌-◌, ◌*◌, ◌<◌, ◌≤◌, min, max, ℤ, pos, ◌+ℤ◌, ◌-ℤ◌, ◌<ℤ◌, ◌≤ℤ◌}
use Rattle.shade.specs.declared.equation.Equation.{Equation}
use Rattle.shade.specs.declared.equation.BlendOperation.{BlendOperation}
use Rattle.shade.specs.declared.equation.BlendOperation.TheVariants.{Add, Subtract, ReverseSubtract, Min, Max}
use Rattle.shade.specs.declared.factor.BlendFactor.{BlendFactor}
use Rattle.shade.specs.declared.factor.BlendFactor.TheVariants.{Zero, One, SourceColour, InverseSourceColour, SourceAlpha, InverseSourceAlpha, StoredAlpha, InverseStoredAlpha, StoredColour, InverseStoredColour, SourceAlphaSaturated, Constant, InverseConstant}
use Rattle.shade.specs.declared.operands.Channel.{Channel}
use Rattle.shade.specs.declared.operands.Channel.TheVariants.{Colour, Alpha}
use Rattle.shade.specs.declared.operands.Operands.{Operands}
use Rattle.shade.specs.Quotient.{IsQuotient}

-- The saturated source alpha. For the colour channels it is the source's alpha, but at most what the stored alpha leaves, and for
-- the alpha channel it is one.
abbrev pub saturated : Channel → Operands → ℕ
saturated Colour o = min o.source_alpha (255 - o.stored_alpha)
saturated Alpha o = 255

-- A blend factor times 255 (Direct3D 11, D3D11_BLEND).
abbrev pub factor : BlendFactor → Channel → Operands → ℕ
factor Zero channel o = 0
factor One channel o = 255
factor SourceColour channel o = o.source
factor InverseSourceColour channel o = 255 - o.source
factor SourceAlpha channel o = o.source_alpha
factor InverseSourceAlpha channel o = 255 - o.source_alpha
factor StoredAlpha channel o = o.stored_alpha
factor InverseStoredAlpha channel o = 255 - o.stored_alpha
factor StoredColour channel o = o.stored
factor InverseStoredColour channel o = 255 - o.stored
factor SourceAlphaSaturated channel o = saturated channel o
factor Constant channel o = o.constant
factor InverseConstant channel o = 255 - o.constant

-- n is the number from 0 to 255 that is nearest to x / 255. 255 is odd, so there are no halves (the rounding is this project's
-- rule).
pub record IsNearest (x : ℤ) (n : ℕ) : Type 0 where
  pub most : n ≤ 255
  pub low : 0 < n → pos (255 * n) ≤ℤ (x +ℤ pos 127)
  pub high : n < 255 → (x +ℤ pos 127) <ℤ pos (255 * (n + 1))

-- What an operation makes of s with the factor f and d with the factor g (Direct3D 11, D3D11_BLEND_OP). s is the source's channel,
-- and d the stored one.
abbrev pub IsCombined : BlendOperation → ℕ → ℕ → ℕ → ℕ → ℕ → Type 0
IsCombined Add s f d g n = IsNearest (pos (s * f) +ℤ pos (d * g)) n
IsCombined Subtract s f d g n = IsNearest (pos (s * f) -ℤ pos (d * g)) n
IsCombined ReverseSubtract s f d g n = IsNearest (pos (d * g) -ℤ pos (s * f)) n
IsCombined Min s f d g n = n ≡ min s d
IsCombined Max s f d g n = n ≡ max s d

-- The channel that a blend equation stores.
abbrev pub IsBlended : Equation → Channel → Operands → ℕ → Type 0
IsBlended e channel o = IsCombined e.operation o.source (factor e.source channel o) o.stored (factor e.stored channel o)

-- The source over the stored channel by the source's alpha, rounded to nearest. This is source-over of Porter and Duff 1984, as draw
-- lists have it; it is the equation source alpha, inverse source alpha, add.
abbrev pub IsOver : ℕ → ℕ → ℕ → ℕ → Type 0
IsOver source alpha stored = IsQuotient (source * alpha + stored * (255 - alpha) + 127) 255

-- The factor of a colour channel is made from the source's alpha.
abbrev pub IsOfSourceAlpha : BlendFactor → Type 0
IsOfSourceAlpha f = (f ≡ SourceAlpha) ⊎ (f ≡ InverseSourceAlpha) ⊎ (f ≡ SourceAlphaSaturated)

-- The operation multiplies its operands by their factors.
abbrev pub HasFactors : BlendOperation → Type 0
HasFactors Add = Unit {0}
HasFactors Subtract = Unit {0}
HasFactors ReverseSubtract = Unit {0}
HasFactors Min = ⊥
HasFactors Max = ⊥

-- The equation of the colour channels reads the source's alpha.
pub record ReadsSourceAlpha (e : Equation) : Type 0 where
  pub factors : HasFactors e.operation
  pub alpha : IsOfSourceAlpha e.source ⊎ IsOfSourceAlpha e.stored
