-- The samples of one block of a tile.
use Rattle.std.proofs.Common.{◌≡◌, ◌≢◌, ◌⊎◌, inl, inr, ◌∙◌, ap, sym, subst, suc, zero, ℕ, ◌+◌, ◌-◌, ◌*◌, ◌/◌, ◌%◌, ◌^◌, ◌<◌, ◌≤◌, ◌↔◌, List, [], length, take, drop, IsBitSet, bit_and, pos, ◌+ℤ◌, slice_index, arith}
use Rattle.std.proofs.lemmas.Int.{ints}
use Rattle.std.proofs.lemmas.Bool.{cases_lt}
use Rattle.std.proofs.Math.Nat.{div-div-eq-div-mul}
use Rattle.std.proofs.lemmas.Nat.{pow-add}
use Rattle.grid.specs.Pixels.{side_of, IsInBox}
use Rattle.grid.specs.Triangle.{Covers}
use Rattle.grid.specs.Samples.{part_size, IsPart, sample_position, offsets_x, offsets_y}
use Rattle.grid.specs.declared.sample_count.SampleCount.{SampleCount}
use Rattle.grid.specs.declared.sample_count.SampleCount.TheVariants.{One, Two, Four, Eight, Sixteen}
use Rattle.cover.specs.Rasterized.{IsRasterized}
use Rattle.lanes.specs.declared.block_samples.BlockSamples.{BlockSamples}
use Rattle.lanes.specs.declared.block_mask.BlockMask.{BlockMask}
use Rattle.shade.specs.declared.placed.Placed.{Placed}
use Rattle.gradients.specs.Group.{position_in}
use Rattle.lanes.specs.Block.{stored_at, AreDrawn}
use Rattle.lanes.specs.BlockMask.{CoversBlock, IsBlockDrawnBy, first_of, plane_of}
use Rattle.shade.specs.declared.state.State.{State}
use Rattle.shade.specs.Placed.{Meets}
use Rattle.grid.specs.Position.{Position}
use Rattle.shade.specs.declared.sample.CanvasSample.{CanvasSample}
use Rattle.raster.specs.declared.tile.Tile.{Tile}
use Rattle.raster.specs.Samples.{IsSampleOf, place_of, planes_of, stored}
use Rattle.raster.specs.Drawing.{DrawsPart, KeepsAt, IsInSquare, IsInSquarePart, LiesIn, ArePlanesOf, Allows, AreAllowed, CoversMasks, IsChosen, DrawsMasks, DrawsMasksBy}
use Rattle.raster.proofs.Bits.{both_set}
use Rattle.raster.proofs.Cut.{put, put_here, put_elsewhere, part_of}
use Rattle.raster.proofs.Places.{within, same_place, whole_blocks}

-- ---- which samples are drawn
-- those of one sample index
module _ (state : State) (bx by : ℕ) (scissor : ℕ) (inside : (row column : ℕ) → row < 8 → column < 8 → (IsBitSet scissor (8 * row + column) ↔ IsInBox state.scissor (8 * bx + column) (8 * by + row))) where
  pub allowed_plane : (s plane in_mask : ℕ) → ((k : ℕ) → k < 64 → (IsBitSet in_mask k ↔ (state.sample_mask / 2 ^ s % 2 ≡ 1))) → (row column : ℕ) → row < 8 → column < 8
      → (IsBitSet (bit_and (bit_and plane scissor) in_mask) (8 * row + column) ↔ (IsBitSet plane (8 * row + column) × Allows state (8 * bx + column) (8 * by + row) s))
  allowed_plane s plane in_mask masked row column high wide =
      let k : ℕ = 8 * row + column in
      let outer = both_set (bit_and plane scissor) in_mask k in
      let inner = both_set plane scissor k in
      let i = inside row column high wide in
      let m = masked k (omega arith) in (
        λ set. ((inner.0 (outer.0 set).0).0, record { in_scissor = i.0 (inner.0 (outer.0 set).0).1; in_mask = m.0 (outer.0 set).1 }),
        λ both. outer.1 (inner.1 (both.0, i.1 both.1.in_scissor), m.1 both.1.in_mask),
      )

-- a bit of the mask, counted from a part's first one
pub masked_further : (m from s bits : ℕ) → ((k : ℕ) → k < 64 → (IsBitSet bits k ↔ (m / 2 ^ from / 2 ^ s % 2 ≡ 1))) → (k : ℕ) → k < 64 → (IsBitSet bits k ↔ (m / 2 ^ (from + s) % 2 ≡ 1))
masked_further m from s bits h =
    subst (λ (q : ℕ). (k : ℕ) → k < 64 → (IsBitSet bits k ↔ (q % 2 ≡ 1))) (div-div-eq-div-mul m (2 ^ from) (2 ^ s) ∙ ap (λ d. m / d) (sym (pow-add 2 from s))) h

-- what holds of each sample index
pub each_of_four : (P : ℕ → Type 0) → (n : ℕ) → n ≤ 4 → (0 < n → P 0) → (1 < n → P 1) → (2 < n → P 2) → (3 < n → P 3) → (s : ℕ) → s < n → P s
each_of_four P n few a b c d zero l = a l
each_of_four P n few a b c d (suc zero) l = b l
each_of_four P n few a b c d (suc (suc zero)) l = c l
each_of_four P n few a b c d (suc (suc (suc zero))) l = d l
each_of_four P n few a b c d (suc (suc (suc (suc s)))) l = absurd (omega (arith, few, l))

-- ---- the parts of a pixel's samples
pub part_at_most : (count : SampleCount) → (0 < part_size count) × (part_size count ≤ 4)
part_at_most One = (omega arith, omega arith)
part_at_most Two = (omega arith, omega arith)
part_at_most Four = (omega arith, omega arith)
part_at_most Eight = (omega arith, omega arith)
part_at_most Sixteen = (omega arith, omega arith)

-- ---- where they lie
at_pixel : (m : BlockMask) (s k : ℕ) → position_in (first_of m s) k ≡ sample_position (8 * m.bx + k % 8) (8 * m.by + k / 8) (m.from + s) m.count
at_pixel m s k =
    let ox : ℕ = slice_index (offsets_x m.count) (m.from + s) in
    let oy : ℕ = slice_index (offsets_y m.count) (m.from + s) in
    let x : pos (256 * (8 * m.bx) + ox) +ℤ pos (256 * (k % 8)) ≡ pos (256 * (8 * m.bx + k % 8) + ox) = omega (arith, ints) in
    let y : pos (256 * (8 * m.by) + oy) +ℤ pos (256 * (k / 8)) ≡ pos (256 * (8 * m.by + k / 8) + oy) = omega (arith, ints) in
    λ i. record { x = x i; y = y i }

-- the triangle covers what is drawn, if it covers what is in the masks
pub allowed_covered : (t : Placed) (masks : List ℕ) (m : BlockMask) → AreAllowed t.state masks m → CoversMasks t.tri m.bx m.by m.count m.from masks → CoversBlock t m
allowed_covered t masks m allowed covers s small k low set =
    let here : 8 * (k / 8) + k % 8 ≡ k = omega arith in
    let both = (allowed (k / 8) (k % 8) s (omega arith) (omega arith) small).0 (rw here set) in
    rw (at_pixel m s k) (covers (k / 8) (k % 8) s (omega arith) (omega arith) small both.0)

-- ---- a sample is in a part of a block or not
square_part_or_not : (tile : Tile) (bx by from row column s : ℕ) → IsInSquarePart tile bx by 8 from row column s ⊎ (¬ IsInSquarePart tile bx by 8 from row column s)
square_part_or_not tile bx by from row column s =
    elim (cases_lt (8 * tile.bx + column) (8 * bx)) [
      | inl out ↦ inr (λ p. omega (arith, out, p.square.left))
      | inr left ↦ elim (cases_lt (8 * tile.bx + column) (8 * bx + 8)) [
        | inr out ↦ inr (λ p. omega (arith, out, p.square.right))
        | inl right ↦ elim (cases_lt (8 * tile.by + row) (8 * by)) [
          | inl out ↦ inr (λ p. omega (arith, out, p.square.top))
          | inr top ↦ elim (cases_lt (8 * tile.by + row) (8 * by + 8)) [
            | inr out ↦ inr (λ p. omega (arith, out, p.square.bottom))
            | inl bottom ↦ elim (cases_lt s from) [
              | inl out ↦ inr (λ p. omega (arith, out, p.samples.low))
              | inr low ↦ elim (cases_lt s (from + part_size tile.count)) [
                | inr out ↦ inr (λ p. omega (arith, out, p.samples.high))
                | inl high ↦ inl (record { square = record { left = left; right = right; top = top; bottom = bottom }; samples = record { low = low; high = high } })
              ]
            ]
          ]
        ]
      ]
    ]

-- ---- a block of the tile, drawn
module _ (D : Position → CanvasSample → CanvasSample → Type 0) (state : State) (tile : Tile) (bx by from : ℕ) (masks : List ℕ) (lies : LiesIn tile bx by 8) (is_part : IsPart tile.count from) (m : BlockMask) (is : (m.bx ≡ bx) × (m.by ≡ by) × (m.count ≡ tile.count)) (begins : m.from ≡ from) (allowed : AreAllowed state masks m) where
  -- the pixel in its block
  abbrev pixel : ℕ → ℕ → ℕ
  pixel row column = 8 * (row % 8) + column % 8

  row_within : by - tile.by < side_of tile.side / 8
  row_within = omega (arith, lies.top, lies.bottom, whole_blocks tile.side)

  column_within : bx - tile.bx < side_of tile.side / 8
  column_within = omega (arith, lies.left, lies.right, whole_blocks tile.side)

  module _ (row column s : ℕ) (p : IsInSquare tile bx by 8 row column s) where
    in_row : row / 8 ≡ by - tile.by
    in_row = omega (arith, lies.top, p.top, p.bottom)

    in_column : column / 8 ≡ bx - tile.bx
    in_column = omega (arith, lies.left, p.left, p.right)

    across : 8 * bx + column % 8 ≡ 8 * tile.bx + column
    across = omega (arith, lies.left, p.left, p.right)

    down : 8 * by + row % 8 ≡ 8 * tile.by + row
    down = omega (arith, lies.top, p.top, p.bottom)

    allowed_here : s < part_size tile.count
        → (IsBitSet (slice_index m.plane s) (pixel row column) ↔ (IsBitSet (slice_index masks s) (pixel row column) × Allows state (8 * tile.bx + column) (8 * tile.by + row) (from + s)))
    allowed_here small =
        let there = allowed (row % 8) (column % 8) s (omega arith) (omega arith) (rw is.2 small) in
        rw (is.0, is.1, begins, across, down) at there

    position : position_in (first_of m s) (pixel row column) ≡ sample_position (8 * tile.bx + column) (8 * tile.by + row) (from + s) tile.count
    position =
        let k : ℕ = pixel row column in
        let x : 8 * m.bx + k % 8 ≡ 8 * tile.bx + column = omega (arith, across, is.0) in
        let y : 8 * m.by + k / 8 ≡ 8 * tile.by + row = omega (arith, down, is.1) in
        at_pixel m s k ∙ (λ i. sample_position (x i) (y i) (begins i + s) (is.2 i))

  -- the block's samples are stored from here on
  abbrev first : ℕ
  first = place_of tile (by - tile.by) (bx - tile.bx) from

  module _ (xs ys : List BlockSamples) (long : length xs ≡ planes_of tile.side tile.count)
      (here : (s : ℕ) → s < part_size tile.count → AreDrawn D (first_of m s) (slice_index m.plane s) (plane_of xs (first + s)) (plane_of ys (first + s)) 0 64)
      (elsewhere : (k : ℕ) → ((s : ℕ) → s < part_size tile.count → k ≢ first + s) → plane_of ys k ≡ plane_of xs k) where
    there : (row column s : ℕ) (zs : List BlockSamples) → IsInSquare tile bx by 8 row column s → stored tile zs row column (from + s) ≡ stored_at (plane_of zs (first + s)) (pixel row column)
    there row column s zs p =
        let place : place_of tile (row / 8) (column / 8) (from + s) ≡ first + s = rw (in_row row column s p, in_column row column s p) (omega arith) in
        ap (λ k. stored_at (plane_of zs k) (pixel row column)) place

    abbrev Chosen : ℕ → ℕ → ℕ → Type 0
    Chosen row column s = IsChosen state tile bx by from masks row column s

    -- at the sample of this index in the part
    drawn_at : (row column s : ℕ) → s < part_size tile.count → IsInSquare tile bx by 8 row column s → IsBitSet (slice_index m.plane s) (pixel row column)
        → D (sample_position (8 * tile.bx + column) (8 * tile.by + row) (from + s) tile.count) (stored tile xs row column (from + s)) (stored tile ys row column (from + s))
    drawn_at row column s small p set =
        rw (there row column s xs p, there row column s ys p, ← position row column s p) ((here s small).drawn (pixel row column) (omega arith) (omega arith) set)

    kept_at : (row column s : ℕ) → s < part_size tile.count → IsInSquare tile bx by 8 row column s → ¬ IsBitSet (slice_index m.plane s) (pixel row column) → KeepsAt tile xs ys row column (from + s)
    kept_at row column s small p other =
        rw (there row column s xs p, there row column s ys p) ((here s small).kept (pixel row column) (omega arith) (omega arith) other)

    square_at : (row column s s' : ℕ) → IsInSquare tile bx by 8 row column s → IsInSquare tile bx by 8 row column s'
    square_at row column s s' p = record { left = p.left; right = p.right; top = p.top; bottom = p.bottom }

    draws : (row column s : ℕ) → IsSampleOf tile row column s → Chosen row column s
        → D (sample_position (8 * tile.bx + column) (8 * tile.by + row) s tile.count) (stored tile xs row column s) (stored tile ys row column s)
    draws row column s h chosen =
        let part = chosen.part.samples in
        let same : from + (s - from) ≡ s = omega (arith, part.low) in
        let small : s - from < part_size tile.count = omega (arith, part.low, part.high) in
        let square = square_at row column s (s - from) chosen.part.square in
        let allows : Allows state (8 * tile.bx + column) (8 * tile.by + row) (from + (s - from)) = rw same chosen.allowed in
        subst (λ k. D (sample_position (8 * tile.bx + column) (8 * tile.by + row) k tile.count) (stored tile xs row column k) (stored tile ys row column k)) same
        (drawn_at row column (s - from) small square ((allowed_here row column (s - from) square small).1 (chosen.in_masks, allows)))

    in_block : (row column s : ℕ) → row / 8 ≡ by - tile.by → column / 8 ≡ bx - tile.bx → IsInSquare tile bx by 8 row column s
    in_block row column s down across = record {
      left = omega (arith, lies.left);
      right = omega (arith, lies.left);
      top = omega (arith, lies.top);
      bottom = omega (arith, lies.top);
    }

    -- a sample of the block's part that is not chosen
    keeps_in : (row column s : ℕ) → IsInSquarePart tile bx by 8 from row column s → ¬ Chosen row column s → KeepsAt tile xs ys row column s
    keeps_in row column s p n =
        let part = p.samples in
        let same : from + (s - from) ≡ s = omega (arith, part.low) in
        let small : s - from < part_size tile.count = omega (arith, part.low, part.high) in
        let square = square_at row column s (s - from) p.square in
        subst (λ k. KeepsAt tile xs ys row column k) same
        (kept_at row column (s - from) small square
        (λ set.
        let both = (allowed_here row column (s - from) square small).0 set in
        n (record { part = p; in_masks = both.0; allowed = subst (λ k. Allows state (8 * tile.bx + column) (8 * tile.by + row) k) same both.1 })))

    -- any other
    keeps_out : (row column s : ℕ) → IsSampleOf tile row column s → ¬ IsInSquarePart tile bx by 8 from row column s → KeepsAt tile xs ys row column s
    keeps_out row column s h n =
        let other : (s' : ℕ) → s' < part_size tile.count → place_of tile (row / 8) (column / 8) s ≢ first + s' =
        λ s' small e.
        let same = same_place tile (by - tile.by) (bx - tile.bx) (from + s') row_within column_within (omega (arith, small, is_part)) (row / 8) (column / 8) s (omega (arith, h.wide, whole_blocks tile.side)) h.is_sample (rw e (omega arith)) in
        n (record { square = in_block row column s same.0 same.1; samples = record { low = omega (arith, same.2); high = omega (arith, same.2, small) } }) in
        ap (λ plane. stored_at plane (pixel row column)) (elsewhere (place_of tile (row / 8) (column / 8) s) other)

    keeps : (row column s : ℕ) → IsSampleOf tile row column s → ¬ Chosen row column s → KeepsAt tile xs ys row column s
    keeps row column s h n =
        elim (square_part_or_not tile bx by from row column s) [
          | inl p ↦ keeps_in row column s p n
          | inr p ↦ keeps_out row column s h p
        ]

    block_drawn : DrawsMasksBy D state tile bx by from masks xs ys
    block_drawn = record { drawn = draws; kept = keeps }

  -- the block's samples, drawn and put back
  module _ (xs part : List BlockSamples) (at n : ℕ) (starts : at ≡ first) (many : n ≡ part_size tile.count) (long : length xs ≡ planes_of tile.side tile.count) (whole : length part ≡ n)
      (drawn : IsBlockDrawnBy D m (take n (drop at xs)) part) where
    room : at + n ≤ length xs
    room =
        let some = part_at_most tile.count in
        let last = within tile (by - tile.by) (bx - tile.bx) (from + (part_size tile.count - 1)) row_within column_within (omega (arith, some.0, is_part)) in
        omega (arith, starts, many, long, last, some.0)

    abbrev none : BlockSamples
    none = record { z = []; r = []; g = []; b = []; alpha = [] }

    here : (s : ℕ) → s < part_size tile.count → AreDrawn D (first_of m s) (slice_index m.plane s) (plane_of xs (first + s)) (plane_of (put xs part at n) (first + s)) 0 64
    here s small =
        let in_part : s < n = omega (arith, many, small) in
        let old : plane_of (take n (drop at xs)) s ≡ plane_of xs (first + s) = part_of xs at n none s in_part ∙ ap (λ k. plane_of xs (k + s)) starts in
        let new : plane_of (put xs part at n) (first + s) ≡ plane_of part s = ap (λ k. plane_of (put xs part at n) (k + s)) (sym starts) ∙ put_here xs part at n none room whole s in_part in
        subst (λ x. AreDrawn D (first_of m s) (slice_index m.plane s) x (plane_of (put xs part at n) (first + s)) 0 64) old
        (subst (λ x. AreDrawn D (first_of m s) (slice_index m.plane s) (plane_of (take n (drop at xs)) s) x 0 64) (sym new) (drawn s (rw is.2 small)))

    elsewhere : (k : ℕ) → ((s : ℕ) → s < part_size tile.count → k ≢ first + s) → plane_of (put xs part at n) k ≡ plane_of xs k
    elsewhere k other = put_elsewhere xs part at n none room whole k (λ s l e. other s (omega (arith, many, l)) (omega (arith, e, starts)))

    pub part_drawn : DrawsMasksBy D state tile bx by from masks xs (put xs part at n)
    part_drawn = block_drawn xs (put xs part at n) long here elsewhere

-- ---- masks of what the triangle covers
module _ (t : Placed) (tile : Tile) (bx by from : ℕ) (lies : LiesIn tile bx by 8) (d : IsRasterized t.tri t.state.cull) (masks : List ℕ) (planes : ArePlanesOf t.tri bx by tile.count from masks) where
  module _ (row column s : ℕ) (p : IsInSquarePart tile bx by 8 from row column s) where
    covers_there : IsBitSet (slice_index masks (s - from)) (8 * (row % 8) + column % 8) ↔ Covers t.tri.a t.tri.b t.tri.c (sample_position (8 * tile.bx + column) (8 * tile.by + row) s tile.count)
    covers_there =
        let q = p.square in
        let l = p.samples in
        let across : 8 * bx + column % 8 ≡ 8 * tile.bx + column = omega (arith, lies.left, q.left, q.right) in
        let down : 8 * by + row % 8 ≡ 8 * tile.by + row = omega (arith, lies.top, q.top, q.bottom) in
        let index : from + (s - from) ≡ s = omega (arith, l.low) in
        let there = planes (s - from) (omega (arith, l.low, l.high)) (row % 8) (column % 8) (omega arith) (omega arith) in
        rw (across, down, index) at there

    chosen_met : IsChosen t.state tile bx by from masks row column s → Meets t tile.count (8 * tile.bx + column) (8 * tile.by + row) s
    chosen_met chosen = record { kept = d.kept; covered = covers_there.0 chosen.in_masks; in_scissor = chosen.allowed.in_scissor; in_mask = chosen.allowed.in_mask }

    met_chosen : Meets t tile.count (8 * tile.bx + column) (8 * tile.by + row) s → IsChosen t.state tile bx by from masks row column s
    met_chosen met = record { part = p; in_masks = covers_there.1 met.covered; allowed = record { in_scissor = met.in_scissor; in_mask = met.in_mask } }

  pub triangle_drawn : (xs ys : List BlockSamples) → DrawsMasks t tile bx by from masks xs ys → DrawsPart t tile (IsInSquarePart tile bx by 8 from) xs ys
  triangle_drawn xs ys draws = record {
    drawn = λ row column s h p. record {
      met = λ m. draws.drawn row column s h (met_chosen row column s p m);
      missed = λ n. draws.kept row column s h (λ chosen. n (chosen_met row column s p chosen));
    };
    kept = λ row column s h out. draws.kept row column s h (λ chosen. out chosen.part);
  }
