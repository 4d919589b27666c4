-- Blend equations by the numbers of Direct3D 11, with 0 for the default.
use Rattle.std.specs.Prelude.{ℕ, Bool, Option, None, Some, ◌==◌, if◌then◌else◌, IsSome, unwrap_or}
use Rattle.shade.specs.Presets.{replace}
use Rattle.shade.specs.declared.blend.Blend.{Blend}
use Rattle.shade.specs.declared.equation.Equation.{Equation}
use Rattle.shade.specs.declared.equation.BlendOperation.{BlendOperation}
use Rattle.shade.specs.declared.equation.BlendOperation.TheVariants.{Add, Subtract, ReverseSubtract, Min, Max}
use Rattle.shade.specs.declared.factor.BlendFactor.{BlendFactor}
-- generated: names
use Rattle.shade.specs.declared.factor.BlendFactor.TheVariants.{Zero, One, SourceColour, InverseSourceColour, SourceAlpha, InverseSourceAlpha, StoredAlpha, InverseStoredAlpha, StoredColour, InverseStoredColour, SourceAlphaSaturated, Constant, InverseConstant}
-- end of names
use Rattle.batch.specs.declared.blend.BatchBlend.{BatchBlend}

-- The factor with this number of D3D11_BLEND, and the default for 0.
abbrev pub factor_numbered : ℕ → BlendFactor → Option BlendFactor
-- generated: factors
factor_numbered n default =
    if n == 0 then Some default
    else (if n == 1 then Some Zero
    else (if n == 2 then Some One
    else (if n == 3 then Some SourceColour
    else (if n == 4 then Some InverseSourceColour
    else (if n == 5 then Some SourceAlpha
    else (if n == 6 then Some InverseSourceAlpha
    else (if n == 7 then Some StoredAlpha
    else (if n == 8 then Some InverseStoredAlpha
    else (if n == 9 then Some StoredColour
    else (if n == 10 then Some InverseStoredColour
    else (if n == 11 then Some SourceAlphaSaturated
    else (if n == 14 then Some Constant
    else (if n == 15 then Some InverseConstant
    else None)))))))))))))

-- end of factors

-- The operation with this number of D3D11_BLEND_OP, and Add for 0.
abbrev pub operation_numbered : ℕ → Option BlendOperation
-- generated: operations
operation_numbered n =
    if n == 0 then Some Add
    else (if n == 1 then Some Add
    else (if n == 2 then Some Subtract
    else (if n == 3 then Some ReverseSubtract
    else (if n == 4 then Some Min
    else (if n == 5 then Some Max
    else None)))))

-- end of operations

-- An equation of these parts, all three of which have to be known.
abbrev pub equation_with : Option BlendFactor → Option BlendFactor → Option BlendOperation → Option Equation
equation_with (Some source) (Some stored) (Some operation) = Some (record { source = source; stored = stored; operation = operation })
equation_with (Some source) (Some stored) None = None
equation_with (Some source) None operation = None
equation_with None stored operation = None

-- The equation with these numbers: by default one, zero, add.
abbrev pub equation_numbered : ℕ → ℕ → ℕ → Option Equation
equation_numbered source stored operation = equation_with (factor_numbered source One) (factor_numbered stored Zero) (operation_numbered operation)

-- There is a factor with this number.
abbrev pub IsFactor : ℕ → Type 0
IsFactor n = IsSome (factor_numbered n One)

-- Each factor of the caller's blending is one that there is.
pub record HasKnownFactors (b : BatchBlend) : Type 0 where
  pub color_source : IsFactor b.color_source
  pub color_stored : IsFactor b.color_stored
  pub alpha_source : IsFactor b.alpha_source
  pub alpha_stored : IsFactor b.alpha_stored

-- Both operations of the caller's blending are ones that there are.
pub record HasKnownOperations (b : BatchBlend) : Type 0 where
  pub color_operation : IsSome (operation_numbered b.color_operation)
  pub alpha_operation : IsSome (operation_numbered b.alpha_operation)

-- The blend state by the caller's numbers, with alpha written or not.
abbrev pub blend_numbered : BatchBlend → Bool → Blend
blend_numbered b write_alpha = record {
  colour = unwrap_or (equation_numbered b.color_source b.color_stored b.color_operation) replace;
  alpha = unwrap_or (equation_numbered b.alpha_source b.alpha_stored b.alpha_operation) replace;
  constant = b.constant;
  write_alpha = write_alpha;
}
