-- Sixteen lanes of operands.
use Rattle.std.specs.Prelude.{◌≡◌, ℕ, ◌+◌, ◌*◌, ◌<◌, ◌≤◌, List, length, slice_index, ℤ}
use Rattle.shade.specs.declared.equation.Equation.{Equation}
use Rattle.shade.specs.declared.factor.BlendFactor.{BlendFactor}
use Rattle.shade.specs.declared.operands.Channel.{Channel}
use Rattle.shade.specs.declared.operands.Operands.{Operands}
use Rattle.shade.specs.Blend.{IsNearest, IsBlended}
use Rattle.shade.specs.Blend.{factor}
use Rattle.lanes.specs.declared.operands.AlphaOperands.{AlphaOperands}
use Rattle.lanes.specs.declared.operands.ColourLanes.{ColourLanes}
use Rattle.lanes.specs.declared.operands.ColourOperands.{ColourOperands}

-- v has sixteen lanes of at most 255.
pub record AreByteLanes (v : List ℕ) : Type 0 where
  pub long : length v ≡ 16
  pub small : (i : ℕ) → i < 16 → slice_index v i ≤ 255

-- v has sixteen lanes, each at most the product of two bytes.
pub record AreTerms (v : List ℕ) : Type 0 where
  pub long : length v ≡ 16
  pub small : (i : ℕ) → i < 16 → slice_index v i ≤ 65025

-- The operands of alpha are bytes.
pub record AreAlphaBytes (o : AlphaOperands) : Type 0 where
  pub source : AreByteLanes o.source
  pub stored : AreByteLanes o.stored

-- The operands of alpha in lane i.
abbrev pub alpha_of : AlphaOperands → ℕ → Operands
alpha_of o i = record { source = slice_index o.source i; source_alpha = slice_index o.source i; stored = slice_index o.stored i; stored_alpha = slice_index o.stored i; constant = o.constant }

-- v has sixteen lanes, and lane i is the byte nearest to x i / 255.
pub record AreNearest (x : ℕ → ℤ) (v : List ℕ) : Type 0 where
  pub long : length v ≡ 16
  pub each : (i : ℕ) → i < 16 → IsNearest (x i) (slice_index v i)

-- v has sixteen lanes, and each is the blended channel of its operands, a byte.
pub record AreBlended (e : Equation) (channel : Channel) (o : ℕ → Operands) (v : List ℕ) : Type 0 where
  pub bytes : AreByteLanes v
  pub each : (i : ℕ) → i < 16 → IsBlended e channel (o i) (slice_index v i)

-- The operands of red in lane i.
abbrev pub red_of : ColourOperands → ℕ → Operands
red_of o i = record { source = slice_index o.source.red i; source_alpha = slice_index o.source_alpha i; stored = slice_index o.stored.red i; stored_alpha = slice_index o.stored_alpha i; constant = slice_index o.constant 0 }

-- The operands of green in lane i.
abbrev pub green_of : ColourOperands → ℕ → Operands
green_of o i = record { source = slice_index o.source.green i; source_alpha = slice_index o.source_alpha i; stored = slice_index o.stored.green i; stored_alpha = slice_index o.stored_alpha i; constant = slice_index o.constant 1 }

-- The operands of blue in lane i.
abbrev pub blue_of : ColourOperands → ℕ → Operands
blue_of o i = record { source = slice_index o.source.blue i; source_alpha = slice_index o.source_alpha i; stored = slice_index o.stored.blue i; stored_alpha = slice_index o.stored_alpha i; constant = slice_index o.constant 2 }

-- The three channels have sixteen lanes of at most 255.
pub record AreByteColours (v : ColourLanes) : Type 0 where
  pub red : AreByteLanes v.red
  pub green : AreByteLanes v.green
  pub blue : AreByteLanes v.blue

-- The operands of colours are bytes.
pub record AreColourBytes (o : ColourOperands) : Type 0 where
  pub source : AreByteColours o.source
  pub source_alpha : AreByteLanes o.source_alpha
  pub stored : AreByteColours o.stored
  pub stored_alpha : AreByteLanes o.stored_alpha

-- P holds for the lanes of each colour and its operands.
abbrev pub InEach : ColourOperands → ColourLanes → ((ℕ → Operands) → List ℕ → Type 0) → Type 0
InEach o v P = P (red_of o) v.red × P (green_of o) v.green × P (blue_of o) v.blue

-- Two terms of at most 255 * 255 each, of bytes with these factors, add up to at most 255 * 255.
abbrev pub HasSmallSum : BlendFactor → BlendFactor → Type 0
HasSmallSum source stored = (channel : Channel) (o : Operands) → o.source ≤ 255 → o.source_alpha ≤ 255 → o.stored ≤ 255
    → o.source * factor source channel o ≤ 65025 → o.stored * factor stored channel o ≤ 65025
    → o.source * factor source channel o + o.stored * factor stored channel o ≤ 65025
