-- Blend equations and states with names of their own.
use Rattle.std.specs.Prelude.{false, ◌≡◌, ◌≤◌, ℤ, pos, [], ◌∷◌}
use Rattle.std.specs.Int.{int_min, int_max}
use Rattle.shade.specs.declared.blend.Blend.{Blend}
use Rattle.shade.specs.declared.equation.Equation.{Equation}
use Rattle.shade.specs.declared.equation.BlendOperation.TheVariants.{Add}
use Rattle.shade.specs.declared.factor.BlendFactor.TheVariants.{Zero, One, SourceColour, SourceAlpha, InverseSourceAlpha, StoredColour}
use Rattle.shade.specs.declared.known.KnownEquation.{KnownEquation}
use Rattle.shade.specs.declared.known.KnownEquation.TheVariants.{Replace, Over, Other}
use Rattle.shade.specs.declared.operands.Operands.{Operands}

-- The operands are at most 255.
pub record AreBytes (o : Operands) : Type 0 where
  pub source : o.source ≤ 255
  pub source_alpha : o.source_alpha ≤ 255
  pub stored : o.stored ≤ 255
  pub stored_alpha : o.stored_alpha ≤ 255
  pub constant : o.constant ≤ 255

-- q, but at least 0 and at most 255.
abbrev pub clamped : ℤ → ℤ
clamped q = int_max (pos 0) (int_min (pos 255) q)

-- The source replaces the stored channel.
abbrev pub replace : Equation
replace = record { source = One; stored = Zero; operation = Add }

-- The stored channel is left.
abbrev pub keep : Equation
keep = record { source = Zero; stored = One; operation = Add }

-- The source over the stored channel (Porter and Duff 1984), for a colour that is not multiplied by its alpha.
abbrev pub over : Equation
over = record { source = SourceAlpha; stored = InverseSourceAlpha; operation = Add }

-- The source over the stored channel, for a colour that is multiplied by its alpha, and for alpha itself.
abbrev pub premultiplied_over : Equation
premultiplied_over = record { source = One; stored = InverseSourceAlpha; operation = Add }

-- The sum.
abbrev pub add : Equation
add = record { source = One; stored = One; operation = Add }

-- The sum, with the source multiplied by its alpha.
abbrev pub add_by_alpha : Equation
add_by_alpha = record { source = SourceAlpha; stored = One; operation = Add }

-- The product, the stored channel as the factor of the source.
abbrev pub multiply : Equation
multiply = record { source = StoredColour; stored = Zero; operation = Add }

-- The product, the source as the factor of the stored channel.
abbrev pub multiply_stored : Equation
multiply_stored = record { source = Zero; stored = SourceColour; operation = Add }

-- The blend state in which the new colour replaces the stored one.
abbrev pub none_blend : Blend
none_blend = record { colour = replace; alpha = replace; constant = 0 ∷ 0 ∷ 0 ∷ 0 ∷ []; write_alpha = false }

-- The blend state in which the new colour is laid over the stored one by its alpha.
abbrev pub over_blend : Blend
over_blend = record { colour = over; alpha = premultiplied_over; constant = 0 ∷ 0 ∷ 0 ∷ 0 ∷ []; write_alpha = false }

-- Two equations have the same parts.
pub record AreAlike (d e : Equation) : Type 0 where
  pub source : d.source ≡ e.source
  pub stored : d.stored ≡ e.stored
  pub operation : d.operation ≡ e.operation

-- The equation is the known one.
abbrev pub IsKnown : KnownEquation → Equation → Type 0
IsKnown Replace e = AreAlike e replace
IsKnown Over e = AreAlike e over
IsKnown Other e = Unit {0}
