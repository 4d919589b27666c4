use Rattle.std.proofs.Common.{refl}
use Rattle.strokes.proofs.join.join_covers.Goals as goal

pub returns-then-is_in_wedge : goal.returns-then-is_in_wedge
returns-then-is_in_wedge c = (
  λ t. record { wedge = c.if-is_in_wedge.ensures.0 refl; shape = c.is_bounded.ensures.0 t },
  λ h. c.is_bounded.ensures.1 h.shape,
)
