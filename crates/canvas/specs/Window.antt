-- Triangles of the screen on a canvas whose first pixel is some pixel of the screen.
use Rattle.std.specs.Prelude.{◌≡◌, ℕ, ℤ, pos, negsuc, ◌+ℤ◌, ◌-ℤ◌, ◌*ℤ◌, List}
use Rattle.std.specs.Int.{int_min, int_max}
use Rattle.grid.specs.Position.{Position, IsInGuardBand}
use Rattle.grid.specs.declared.pixels.PixelBox.{PixelBox}
use Rattle.lanes.specs.declared.block_samples.BlockSamples.{BlockSamples}
use Rattle.shade.specs.declared.placed.Placed.{Placed}
use Rattle.shade.specs.declared.state.State.{State}
use Rattle.shade.specs.Canvas.{CanvasEnds}
use Rattle.canvas.specs.declared.canvas.Canvas.{Canvas}
use Rattle.canvas.specs.declared.window.Origin.{Origin}
use Rattle.canvas.specs.Layout.{IsStoredIn, stored}

-- A position of the screen, as seen from the corner of pixel (x, y), in 1/256 pixel.
abbrev pub moved_position : ℤ → ℤ → Position → Position
moved_position x y p = record { x = p.x -ℤ pos 256 *ℤ x; y = p.y -ℤ pos 256 *ℤ y }

-- The number, or the nearest one that has 32 bits.
abbrev pub clamped_to_i32 : ℤ → ℤ
clamped_to_i32 z = int_max (int_min z (pos 2147483647)) (negsuc 2147483647)

-- A rectangle of the screen's pixels, as seen from pixel (x, y).
abbrev pub moved_box : ℤ → ℤ → PixelBox → PixelBox
moved_box x y r = record { x0 = clamped_to_i32 (r.x0 -ℤ x); y0 = clamped_to_i32 (r.y0 -ℤ y); x1 = clamped_to_i32 (r.x1 -ℤ x); y1 = clamped_to_i32 (r.y1 -ℤ y) }

-- The state of triangles, with its scissor, as seen from pixel (x, y).
abbrev pub moved_state : ℤ → ℤ → State → State
moved_state x y state = record state { scissor = moved_box x y state.scissor }

-- The triangle, with its scissor, as seen from the corner of pixel (x, y).
abbrev pub moved : ℤ → ℤ → Placed → Placed
moved x y t = record t {
  tri = record { a = moved_position x y t.tri.a; b = moved_position x y t.tri.b; c = moved_position x y t.tri.c };
  state = moved_state x y t.state;
}

-- All vertices of the triangle are in the guard band as seen from the corner of pixel (x, y).
pub record CanMove (x y : ℤ) (t : Placed) : Type 0 where
  pub a : IsInGuardBand (moved_position x y t.tri.a)
  pub b : IsInGuardBand (moved_position x y t.tri.b)
  pub c : IsInGuardBand (moved_position x y t.tri.c)

-- Each sample ends as what the triangles make of it as a sample of the screen.
-- Pixel (0, 0) of the canvas is the screen's pixel `origin`, so sample s of pixel (i, j) is sample s of pixel (i + x, j + y) of the screen.
abbrev pub HaveEndsOnScreen : Origin → List Placed → Canvas → ℕ → ℕ → List BlockSamples → List BlockSamples → Type 0
HaveEndsOnScreen origin ts c first end old new =
    (i j s column row : ℕ) → IsStoredIn c first end i j s → pos column ≡ pos i +ℤ origin.x → pos row ≡ pos j +ℤ origin.y
    → CanvasEnds ts c.count column row s (stored c first old i j s) (stored c first new i j s)

-- Pixel (i, j) of a canvas at the first origin and pixel (i', j') of one at the second show the same pixel of the screen. It may also lie
-- left of the screen or above it.
pub record IsSamePixel (origin origin' : Origin) (i j i' j' : ℕ) : Type 0 where
  pub across : pos i +ℤ origin.x ≡ pos i' +ℤ origin'.x
  pub down : pos j +ℤ origin.y ≡ pos j' +ℤ origin'.y
