use Rattle.std.proofs.Common.{◌≡◌, ◌↔◌, ◌≤◌, ap, ℕ, Bool, true, false, slice_index_or}
use Rattle.shade.specs.declared.blend.Blend.{Blend}
use Rattle.shade.specs.declared.equation.Equation.{Equation}
use Rattle.shade.specs.declared.operands.Channel.TheVariants.{Colour}
use Rattle.shade.specs.declared.operands.Operands.{Operands}
use Rattle.shade.specs.Blend.{IsBlended, IsOver}
use Rattle.shade.specs.Presets.{replace, over}
use Rattle.shade.specs.Merging.{operands_of, IsWritten}
use Rattle.shade.proofs.Blended.{over_is, replace_is}
use Rattle.shade.proofs.blend_laws.lists_are_blended.Goals as goal

turned : {P Q : Type 0} → P ↔ Q → Q ↔ P
turned h = (h.1, h.0)

replaces : (written : Bool) (e : Equation) (o : Operands) (n : ℕ) → e ≡ replace → o.source ≤ 255 → IsWritten written (IsBlended e Colour o) o.stored n ↔ IsWritten written (λ c. c ≡ o.source) o.stored n
replaces false e o n is byte = (λ h. h, λ h. h)
replaces true e o n is byte = rw is (turned (replace_is o n byte))

blends : (written : Bool) (e : Equation) (o : Operands) (n : ℕ) → e ≡ over → o.source ≤ 255 → o.source_alpha ≤ 255 → o.stored ≤ 255
    → IsWritten written (IsBlended e Colour o) o.stored n ↔ IsWritten written (IsOver o.source o.source_alpha o.stored) o.stored n
blends false e o n is source alpha stored = (λ h. h, λ h. h)
blends true e o n is source alpha stored = rw is (turned (over_is o n source alpha stored))

pub returns-clause-none : goal.returns-clause-none
returns-clause-none c m k s a d n is byte =
    replaces (slice_index_or m.write k false) m.blend.colour (operands_of m k s a 255 d) n (ap (λ (b : Blend). b.colour) is) byte

pub returns-clause-over : goal.returns-clause-over
returns-clause-over c m k s a d n is source alpha stored =
    blends (slice_index_or m.write k false) m.blend.colour (operands_of m k s a 255 d) n (ap (λ (b : Blend). b.colour) is) source alpha stored
