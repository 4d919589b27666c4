-- Triangles as seen from two pixels make the same of a sample that both see.
use Rattle.std.proofs.Common.{◌≡◌, ◌↔◌, refl, sym, subst, ℕ, ◌<◌, ◌≤◌, ℤ, pos, ◌-ℤ◌, ◌*ℤ◌, List, [], ◌∷◌, map, arith}
use Rattle.std.proofs.lemmas.Int.{ints, clamps}
use Rattle.grid.specs.Pixels.{IsInBox}
use Rattle.grid.specs.Samples.{sample_position}
use Rattle.grid.specs.declared.sample_count.SampleCount.{SampleCount}
use Rattle.lanes.specs.declared.block_samples.BlockSamples.{BlockSamples}
use Rattle.shade.specs.declared.sample.CanvasSample.{CanvasSample}
use Rattle.shade.specs.declared.placed.Placed.{Placed}
use Rattle.shade.specs.Placed.{Meets}
use Rattle.shade.specs.Canvas.{CanvasDraws, CanvasEnds}
use Rattle.shade.proofs.Endings.{of_canvas, ends-unique}
use Rattle.canvas.specs.declared.canvas.Canvas.{Canvas}
use Rattle.canvas.specs.declared.window.Origin.{Origin}
use Rattle.canvas.specs.Layout.{IsStoredIn, stored, rows_of}
use Rattle.canvas.specs.Drawing.{HaveEnds}
use Rattle.canvas.specs.Window.{moved, IsSamePixel}
use Rattle.canvas.proofs.Moved.{IsShift, IsMoved, meets_moved, draws_moved}

turned : (o o' : Origin) (i j i' j' : ℕ) → IsSamePixel o o' i j i' j' → IsSamePixel o' o i' j' i j
turned o o' i j i' j' h = record { across = sym h.across; down = sym h.down }

module _ (o o' : Origin) (count : SampleCount) (i j i' j' s : ℕ) (same : IsSamePixel o o' i j i' j') where
  abbrev across_by : ℤ
  across_by = pos 256 *ℤ (o'.x -ℤ o.x)

  abbrev down_by : ℤ
  down_by = pos 256 *ℤ (o'.y -ℤ o.y)

  sample_seen : IsShift across_by down_by (sample_position i j s count) (sample_position i' j' s count)
  sample_seen = let a = same.across in let d = same.down in record { across = omega (arith, ints); down = omega (arith, ints) }

  is_seen : (t : Placed) → IsMoved across_by down_by (moved o.x o.y t) (moved o'.x o'.y t)
  is_seen t = record {
    a = record { across = omega (arith, ints); down = omega (arith, ints) };
    b = record { across = omega (arith, ints); down = omega (arith, ints) };
    c = record { across = omega (arith, ints); down = omega (arith, ints) };
    depths = refl;
    colours = refl;
    merge = refl;
    cull = refl;
    mask = refl;
  }

-- the scissor too
box_seen : (o o' : Origin) (i j i' j' : ℕ) → IsSamePixel o o' i j i' j' → i < 4096 → j < 4096 → i' < 4096 → j' < 4096 → (t : Placed)
    → IsInBox (moved o.x o.y t).state.scissor i j → IsInBox (moved o'.x o'.y t).state.scissor i' j'
box_seen o o' i j i' j' same wide high wide' high' t h =
    let a = same.across in let e = same.down in
    let l = h.left in let r = h.right in let u = h.top in let d = h.bottom in
    record { left = omega (arith, ints, clamps); right = omega (arith, ints, clamps); top = omega (arith, ints, clamps); bottom = omega (arith, ints, clamps) }

meets_seen : (o o' : Origin) (count : SampleCount) (i j i' j' s : ℕ) → IsSamePixel o o' i j i' j' → i < 4096 → j < 4096 → i' < 4096 → j' < 4096 → (t : Placed)
    → Meets (moved o.x o.y t) count i j s → Meets (moved o'.x o'.y t) count i' j' s
meets_seen o o' count i j i' j' s same wide high wide' high' t =
    meets_moved (across_by o o' count i j i' j' s same) (down_by o o' count i j i' j' s same) (moved o.x o.y t) (moved o'.x o'.y t) (is_seen o o' count i j i' j' s same t) count s i j i' j' (sample_seen o o' count i j i' j' s same)
    (box_seen o o' i j i' j' same wide high wide' high' t)

module _ (o o' : Origin) (count : SampleCount) (i j i' j' s : ℕ) (same : IsSamePixel o o' i j i' j') (wide : i < 4096) (high : j < 4096) (wide' : i' < 4096) (high' : j' < 4096) where
  one_seen : (t : Placed) (old new : CanvasSample) → CanvasDraws (moved o.x o.y t) count i j s old new → CanvasDraws (moved o'.x o'.y t) count i' j' s old new
  one_seen t old new =
      let back = turned o o' i j i' j' same in
      draws_moved (across_by o o' count i j i' j' s same) (down_by o o' count i j i' j' s same) (moved o.x o.y t) (moved o'.x o'.y t) (is_seen o o' count i j i' j' s same t) count s i j i' j' (sample_seen o o' count i j i' j' s same)
      (box_seen o o' i j i' j' same wide high wide' high' t) (box_seen o' o i' j' i j back wide' high' wide high t)
      (meets_seen o' o count i' j' i j s back wide' high' wide high t) old new

  pub all_seen : (ts : List Placed) (start end : CanvasSample) → CanvasEnds (map (moved o.x o.y) ts) count i j s start end → CanvasEnds (map (moved o'.x o'.y) ts) count i' j' s start end
  all_seen [] start end h = h
  all_seen (t ∷ ts) start end h = (h.0, one_seen t start h.0 h.1, all_seen ts h.0 end h.2)

pub seen_alike : (o o' : Origin) (count : SampleCount) (i j i' j' s : ℕ) → IsSamePixel o o' i j i' j' → i < 4096 → j < 4096 → i' < 4096 → j' < 4096 → (ts : List Placed) (start end : CanvasSample)
    → CanvasEnds (map (moved o.x o.y) ts) count i j s start end ↔ CanvasEnds (map (moved o'.x o'.y) ts) count i' j' s start end
seen_alike o o' count i j i' j' s same wide high wide' high' ts start end =
    (all_seen o o' count i j i' j' s same wide high wide' high' ts start end, all_seen o' o count i' j' i j s (turned o o' i j i' j' same) wide' high' wide high ts start end)

-- a pixel of a canvas
within : (c : Canvas) (first end i j s : ℕ) → IsStoredIn c first end i j s → end ≤ rows_of c → (i < 4096) × (j < 4096)
within c first end i j s h rows = (omega (arith, h.column, c.width_fits), omega (arith, h.below, c.height_fits, rows))

pub views_alike : (o o' : Origin) (ts : List Placed) (c c' : Canvas) (first end first' end' : ℕ) (old new old' new' : List BlockSamples)
    → end ≤ rows_of c → end' ≤ rows_of c' → c'.count ≡ c.count
    → HaveEnds (map (moved o.x o.y) ts) c first end old new → HaveEnds (map (moved o'.x o'.y) ts) c' first' end' old' new'
    → (i j i' j' s : ℕ) → IsStoredIn c first end i j s → IsStoredIn c' first' end' i' j' s → IsSamePixel o o' i j i' j'
    → stored c' first' old' i' j' s ≡ stored c first old i j s → stored c' first' new' i' j' s ≡ stored c first new i j s
views_alike o o' ts c c' first end first' end' old new old' new' rows rows' counts drawn drawn' i j i' j' s h h' same start =
    let w = within c first end i j s h rows in
    let w' = within c' first' end' i' j' s h' rows' in
    let there = all_seen o o' c.count i j i' j' s same w.0 w.1 w'.0 w'.1 ts _ _ (drawn i j s h) in
    let here = subst (λ x. CanvasEnds (map (moved o'.x o'.y) ts) c.count i' j' s x (stored c' first' new' i' j' s)) start
    (subst (λ n. CanvasEnds (map (moved o'.x o'.y) ts) n i' j' s (stored c' first' old' i' j' s) (stored c' first' new' i' j' s)) counts (drawn' i' j' s h')) in
    ends-unique (of_canvas c.count i' j' s) (map (moved o'.x o'.y) ts) _ _ _ here there
