-- Triangles of a draw list, drawn on a canvas in batches.
use Rattle.std.specs.Prelude.{map, ◌≡◌, ℕ, ◌+◌, ◌*◌, ◌/◌, ◌%◌, ◌<◌, List, [], ◌∷◌, ◌++◌, length, slice_index}
use Rattle.lanes.specs.declared.block_samples.BlockSamples.{BlockSamples}
use Rattle.shade.specs.declared.placed.Placed.{Placed}
use Rattle.shade.specs.Canvas.{with_alpha, keeping_alpha}
use Rattle.draw_list.specs.Scene.{Scene}
use Rattle.canvas.specs.declared.canvas.Canvas.{Canvas}
use Rattle.canvas.specs.Layout.{rows_of}
use Rattle.canvas.specs.Drawing.{AreCleared, HaveEnds}

-- The canvas has the size and the samples of a draw list.
pub record IsCanvasOf (l : Scene) (c : Canvas) : Type 0 where
  pub width : c.width ≡ l.width
  pub height : c.height ≡ l.height
  pub count : c.count ≡ l.count

-- All triangles of some batches, in order.
abbrev pub all_of : List (List Placed) → List Placed
all_of [] = []
all_of (ts ∷ batches) = ts ++ all_of batches

-- The batches are the draw list's triangles, which write no alpha, split in any way.
abbrev pub AreListed : Scene → List (List Placed) → Type 0
AreListed l batches = all_of batches ≡ map keeping_alpha l.triangles

-- The batches are drawn one after another, each over the samples that the one before it left.
abbrev pub AreDrawnInTurn : Canvas → List (List Placed) → List BlockSamples → List BlockSamples → Type 0
AreDrawnInTurn c [] old new = new ≡ old
AreDrawnInTurn c (ts ∷ batches) old new = (middle : List BlockSamples) × HaveEnds ts c 0 (rows_of c) old middle × AreDrawnInTurn c batches middle new

-- The samples of a canvas that was cleared to the draw list's clear values and an alpha of one, and then drawn with the batches.
pub record AreMade (l : Scene) (c : Canvas) (batches : List (List Placed)) (samples : List BlockSamples) : Type 0 where
  pub cleared : List BlockSamples
  pub is_cleared : AreCleared c 0 (rows_of c) (with_alpha l.clear 255) cleared
  pub drawn : AreDrawnInTurn c batches cleared samples

-- Two bytes for each number, of which the more significant comes first.
pub record ArePairsOf (numbers bytes : List ℕ) : Type 0 where
  pub size : length bytes ≡ 2 * length numbers
  pub high : (n : ℕ) → n < length numbers → slice_index bytes (2 * n) ≡ slice_index numbers n / 256
  pub low : (n : ℕ) → n < length numbers → slice_index bytes (2 * n + 1) ≡ slice_index numbers n % 256
