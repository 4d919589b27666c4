-- Triangles of the screen as a canvas that stands anywhere sees them.
use Rattle.std.proofs.Common.{rules, ◌≡◌, ◌∙◌, refl, sym, ap, ◌≤◌, ℕ, ℤ, pos, ◌-ℤ◌, ◌*ℤ◌, FitsSigned, to_z, of_z, w32, w64, Option, None, Some, IsSome, IfSome, List, map, arith}
use Rattle.std.proofs.lemmas.Int.{ints, clamps}
use Rattle.grid.specs.Position.{Position, IsInBand}
use Rattle.lanes.specs.declared.block_samples.BlockSamples.{BlockSamples}
use Rattle.shade.specs.declared.placed.Placed.{Placed}
use Rattle.canvas.specs.declared.canvas.Canvas.{Canvas}
use Rattle.canvas.specs.declared.window.Origin.{Origin}
use Rattle.canvas.specs.Drawing.{HaveEnds}
use Rattle.canvas.specs.Window.{clamped_to_i32, moved, HaveEndsOnScreen}
use Rattle.canvas.proofs.Moved.{all_return}

-- the guard band is far within 32 bits
pub clamped_in_band : (z : ℤ) → IsInBand z → clamped_to_i32 z ≡ z
clamped_in_band z h = let low = h.low in let high = h.high in omega (arith, ints, clamps)

pub in_band_clamped : (z : ℤ) → IsInBand (clamped_to_i32 z) → IsInBand z
in_band_clamped z h = let low = h.low in let high = h.high in record { low = omega (arith, ints, clamps); high = omega (arith, ints, clamps) }

-- ---- what the code computes
-- a difference that is narrowed to 32 bits
pub narrowed_position : (a x f g r : ℤ) → FitsSigned w32 a → FitsSigned w32 x → f ≡ to_z w32 (of_z w32 a) → g ≡ to_z w32 (of_z w32 x)
    → r ≡ clamped_to_i32 (to_z w64 (of_z w64 (to_z w64 (of_z w64 f) -ℤ to_z w64 (of_z w64 (pos 256 *ℤ to_z w64 (of_z w64 g)))))) → to_z w32 (of_z w32 r) ≡ clamped_to_i32 (a -ℤ pos 256 *ℤ x)
narrowed_position a x f g r p q e h is =
    let plain : to_z w64 (of_z w64 (to_z w64 (of_z w64 f) -ℤ to_z w64 (of_z w64 (pos 256 *ℤ to_z w64 (of_z w64 g))))) ≡ a -ℤ pos 256 *ℤ x = omega (arith, ints) in
    let same : r ≡ clamped_to_i32 (a -ℤ pos 256 *ℤ x) = is ∙ ap clamped_to_i32 plain in
    let fits : to_z w32 (of_z w32 r) ≡ r = omega (arith, ints, clamps, same) in
    fits ∙ same

pub position_same : (q : Position) (a b : ℤ) → q.x ≡ a → q.y ≡ b → ◌≡◌ {A = Position} q (record { x = a; y = b })
position_same q a b e f = rw (sym e, sym f) refl

pub some_with : {X : Type 0} {B : Type 0} (r : Option X) {P Q : X → Type 0} → (IsSome r → B) → IfSome r P → ((x : X) → B → P x → Q x) → IfSome r Q
some_with None b h f = h
some_with (Some x) b h f = f x (b (search rules)) h

-- ---- a whole canvas
pub ends_on_screen : (origin : Origin) (ts : List Placed) (c : Canvas) (first end : ℕ) (old new : List BlockSamples) → c.width ≤ 4096 → end ≤ 64
    → HaveEnds (map (moved origin.x origin.y) ts) c first end old new → HaveEndsOnScreen origin ts c first end old new
ends_on_screen origin ts c first end old new narrow few drawn i j s column row h across down =
    all_return origin.x origin.y c.count i j column row s (omega (arith, h.column, narrow)) (omega (arith, h.below, few)) across down ts _ _ (drawn i j s h)
