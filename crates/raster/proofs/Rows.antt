-- The blocks of a region, row by row.
use Rattle.std.proofs.Common.{◌≡◌, refl, ◌⊎◌, inl, inr, zero, suc, ℕ, ◌+◌, ◌-◌, ◌*◌, ◌<◌, ◌≤◌, List, [], ◌∷◌, IsBitSet, slice_index, arith}
use Rattle.std.proofs.lemmas.Bool.{cases_lt}
use Rattle.std.proofs.lemmas.Nat.Bits.{bit_at_ones}
use Rattle.grid.specs.Pixels.{side_of, IsInBox}
use Rattle.grid.specs.Samples.{count_of, parts_of, part_size, IsPart}
use Rattle.grid.specs.declared.pixels.PixelBox.{PixelBox}
use Rattle.grid.specs.declared.pixels.TileSide.{TileSide}
use Rattle.grid.specs.declared.pixels.TileSide.TheVariants.{T8, T16, T32, T64}
use Rattle.grid.specs.declared.triangle.Tri.{Tri}
use Rattle.grid.specs.declared.sample_count.SampleCount.{SampleCount}
use Rattle.grid.specs.declared.sample_count.SampleCount.TheVariants.{One, Two, Four, Eight, Sixteen}
use Rattle.lanes.specs.declared.block_samples.BlockSamples.{BlockSamples}
use Rattle.shade.specs.declared.placed.Placed.{Placed}
use Rattle.shade.specs.Placed.{Meets}
use Rattle.cover.specs.Bounds.{HoldsCovered}
use Rattle.cover.specs.Square.{IsCorner, CoversAll}
use Rattle.raster.specs.declared.tile.Tile.{Tile}
use Rattle.raster.specs.declared.region.Region.{Region}
use Rattle.raster.specs.Region.{IsRegionIn, IsInRegion, HoldsCommon, HoldsTile}
use Rattle.raster.specs.Samples.{IsSampleOf}
use Rattle.raster.specs.Drawing.{DrawsPart, DrawsTile, DrawsAt, IsInSquare, IsInSquarePart, CoversNoneOf, LiesIn, ArePlanesOf, square_of, block_of}
use Rattle.raster.proofs.BlockDrawn.{part_at_most}
use Rattle.raster.proofs.Bits.{is_set}
use Rattle.raster.proofs.Parts.{missed_part, joined, same_part}

-- the pixel is in the region, in a row of blocks before by, or in that row and before the column bx
pub record IsScannedBefore (tile : Tile) (r : Region) (by bx : ℕ) (row column s : ℕ) : Type 0 where
  pub region : IsInRegion tile r row column
  pub before : (8 * tile.by + row < 8 * by) ⊎ ((8 * tile.by + row < 8 * by + 8) × (8 * tile.bx + column < 8 * bx))

-- a tile lies on the screen
pub corner_on_screen : (side : TileSide) (n : ℕ) → IsCorner side n → 8 * n + side_of side ≤ 4096
corner_on_screen T8 n h = let a = h.aligned in omega (arith, h.on_screen)
corner_on_screen T16 n h = let a = h.aligned in omega (arith, h.on_screen)
corner_on_screen T32 n h = let a = h.aligned in omega (arith, h.on_screen)
corner_on_screen T64 n h = let a = h.aligned in omega (arith, h.on_screen)

-- four words of all bits
all_set : (s k : ℕ) → s < 4 → k < 64 → IsBitSet (slice_index (18446744073709551615 ∷ 18446744073709551615 ∷ 18446744073709551615 ∷ 18446744073709551615 ∷ []) s) k
all_set zero k h low = is_set _ k (bit_at_ones 64 k low)
all_set (suc zero) k h low = is_set _ k (bit_at_ones 64 k low)
all_set (suc (suc zero)) k h low = is_set _ k (bit_at_ones 64 k low)
all_set (suc (suc (suc zero))) k h low = is_set _ k (bit_at_ones 64 k low)
all_set (suc (suc (suc (suc s)))) k h low = absurd (omega arith)

-- a word of all bits
pub word_full : (k : ℕ) → k < 64 → IsBitSet 18446744073709551615 k
word_full k low = is_set _ k (bit_at_ones 64 k low)

-- the pixels of a block of a tile that a rectangle holds
pub held_block : (r : PixelBox) (tile : Tile) (bx by : ℕ) → LiesIn tile bx by 8 → HoldsTile r tile → (row column : ℕ) → row < 8 → column < 8 → IsInBox r (8 * bx + column) (8 * by + row)
held_block r tile bx by lies holds row column high wide =
    let across : 8 * tile.bx + (8 * (bx - tile.bx) + column) ≡ 8 * bx + column = omega (arith, lies.left) in
    let down : 8 * tile.by + (8 * (by - tile.by) + row) ≡ 8 * by + row = omega (arith, lies.top) in
    rw (across, down) at (holds (8 * (by - tile.by) + row) (8 * (bx - tile.bx) + column) (omega (arith, lies.top, lies.bottom)) (omega (arith, lies.left, lies.right)))

-- the planes of a block that is covered whole
pub all_covered : (t : Tri) (bx by : ℕ) (count : SampleCount) (from : ℕ) → IsPart count from → CoversAll (record { triangle = t; bx = bx; by = by; side = T8; count = count })
    → ArePlanesOf t bx by count from (18446744073709551615 ∷ 18446744073709551615 ∷ 18446744073709551615 ∷ 18446744073709551615 ∷ [])
all_covered t bx by count from part covered s h row column high wide =
    let few = part_at_most count in
    (λ is. covered (from + s) row column (omega (arith, h, part)) high wide, λ c. all_set s (8 * row + column) (omega (arith, few.1, h)) (omega arith))

module _ (t : Placed) (tile : Tile) (r : Region) (within : IsRegionIn tile r) where
  -- one block more
  module _ (by bx : ℕ) (a b c : List BlockSamples) (begun : DrawsPart t tile (IsScannedBefore tile r by bx) a b) (block : DrawsPart t tile (IsInSquare tile bx by 8) b c)
      (from : r.left ≤ bx) (to : bx < r.right) (above : r.top ≤ by) (below : by < r.bottom) where
    from_block : (row column s : ℕ) → IsSampleOf tile row column s → IsScannedBefore tile r by (bx + 1) row column s → IsScannedBefore tile r by bx row column s ⊎ IsInSquare tile bx by 8 row column s
    from_block row column s h p =
        elim p.before [
          | inl over ↦ inl (record { region = p.region; before = inl over })
          | inr beside ↦
              elim (cases_lt (8 * tile.by + row) (8 * by)) [
                | inl over ↦ inl (record { region = p.region; before = inl over })
                | inr under ↦
                    elim (cases_lt (8 * tile.bx + column) (8 * bx)) [
                      | inl less ↦ inl (record { region = p.region; before = inr (beside.0, less) })
                      | inr more ↦ inr (record { left = more; right = omega (arith, beside.1); top = under; bottom = beside.0 })
                    ]
              ]
        ]

    into_blocks : (row column s : ℕ) → IsSampleOf tile row column s → IsScannedBefore tile r by bx row column s ⊎ IsInSquare tile bx by 8 row column s → IsScannedBefore tile r by (bx + 1) row column s
    into_blocks row column s h (inl p) =
        record {
          region = p.region;
          before = elim p.before [
            | inl over ↦ inl over
            | inr beside ↦ inr (beside.0, omega (arith, beside.1))
          ];
        }
    into_blocks row column s h (inr i) =
        record {
          region = record { left = omega (arith, i.left, from); right = omega (arith, i.right, to); top = omega (arith, i.top, above); bottom = omega (arith, i.bottom, below) };
          before = inr (i.bottom, omega (arith, i.right));
        }

    apart : (row column s : ℕ) → IsSampleOf tile row column s → IsScannedBefore tile r by bx row column s → IsInSquare tile bx by 8 row column s → ⊥
    apart row column s h p i =
        elim p.before [
          | inl over ↦ omega (arith, over, i.top)
          | inr beside ↦ omega (arith, beside.1, i.left)
        ]

    pub one_more : DrawsPart t tile (IsScannedBefore tile r by (bx + 1)) a c
    one_more = joined t tile _ _ _ a b c begun block apart from_block into_blocks

  -- the next row of blocks
  pub next_row : (by bx : ℕ) (a b : List BlockSamples) → r.right ≤ bx → DrawsPart t tile (IsScannedBefore tile r by bx) a b → DrawsPart t tile (IsScannedBefore tile r (by + 1) r.left) a b
  next_row by bx a b end begun =
      same_part t tile _ _ a b begun
      (λ row column s h p. record {
        region = p.region;
        before = let region = p.region in elim p.before [
          | inl over ↦ inr (omega (arith, over), omega (arith, region.right, end))
          | inr beside ↦ absurd (omega (arith, region.left, beside.1))
        ];
      })
      (λ row column s h p. record {
        region = p.region;
        before = elim p.before [
          | inl over ↦ inl (omega (arith, over))
          | inr beside ↦ inl (omega (arith, beside.0))
        ];
      })

  -- the whole tile
  module _ (bounds : PixelBox) (covering : HoldsCovered t.tri bounds) (holds : HoldsCommon tile bounds t.state.scissor r) where
    module _ (by bx : ℕ) (end : r.bottom ≤ by) (row column s : ℕ) (h : IsSampleOf tile row column s) where
      -- a sample that is met
      met_before : Meets t tile.count (8 * tile.bx + column) (8 * tile.by + row) s → IsScannedBefore tile r by bx row column s
      met_before m =
          let across = corner_on_screen tile.side tile.bx tile.column in
          let down = corner_on_screen tile.side tile.by tile.row in
          let in_bounds = covering tile.count (8 * tile.bx + column) (8 * tile.by + row) s (omega (arith, across, h.wide)) (omega (arith, down, h.high)) h.is_sample m.covered in
          let region = holds row column h.high h.wide in_bounds m.in_scissor in
          record { region = region; before = inl (omega (arith, region.bottom, end)) }

      -- a sample is in the region or not
      decided : IsScannedBefore tile r by bx row column s ⊎ ¬ IsScannedBefore tile r by bx row column s
      decided =
          elim (cases_lt (8 * tile.bx + column) (8 * r.left)) [
            | inl less ↦ inr (λ p. let region = p.region in omega (arith, region.left, less))
            | inr left ↦
                elim (cases_lt (8 * tile.bx + column) (8 * r.right)) [
                  | inr more ↦ inr (λ p. let region = p.region in omega (arith, region.right, more))
                  | inl right ↦
                      elim (cases_lt (8 * tile.by + row) (8 * r.top)) [
                        | inl over ↦ inr (λ p. let region = p.region in omega (arith, region.top, over))
                        | inr top ↦
                            elim (cases_lt (8 * tile.by + row) (8 * r.bottom)) [
                              | inr under ↦ inr (λ p. let region = p.region in omega (arith, region.bottom, under))
                              | inl bottom ↦ inl (record { region = record { left = left; right = right; top = top; bottom = bottom }; before = inl (omega (arith, bottom, end)) })
                            ]
                      ]
                ]
          ]

      sample_drawn : (a b : List BlockSamples) → DrawsPart t tile (IsScannedBefore tile r by bx) a b → DrawsAt t tile a b row column s
      sample_drawn a b begun =
          elim decided [
            | inl p ↦ begun.drawn row column s h p
            | inr n ↦ let same = begun.kept row column s h n in record { met = λ m. absurd (n (met_before m)); missed = λ _. same }
          ]

    pub scanned : (by bx : ℕ) (a b : List BlockSamples) → r.bottom ≤ by → DrawsPart t tile (IsScannedBefore tile r by bx) a b → DrawsTile t tile a b
    scanned by bx a b end begun row column s h = sample_drawn by bx end row column s h a b begun

-- no sample of a block is covered
pub block_missed : (t : Placed) (tile : Tile) (bx by from : ℕ) (xs : List BlockSamples) → CoversNoneOf (record { triangle = t.tri; bx = bx; by = by; side = T8; count = tile.count }) from
    → DrawsPart t tile (IsInSquarePart tile bx by 8 from) xs xs
block_missed t tile bx by from xs none = missed_part t tile _ xs (λ row column s h p m.
    let i = p.square in
    let part = p.samples in
    let same : from + (s - from) ≡ s = omega (arith, part.low) in
    let left = i.left in
    let right = i.right in
    let top = i.top in
    let bottom = i.bottom in
    let across : 8 * bx + (8 * tile.bx + column - 8 * bx) ≡ 8 * tile.bx + column = omega arith in
    let down : 8 * by + (8 * tile.by + row - 8 * by) ≡ 8 * tile.by + row = omega arith in
    none (s - from) (8 * tile.by + row - 8 * by) (8 * tile.bx + column - 8 * bx) (omega (arith, part.low, part.high)) (omega arith) (omega arith) (rw (across, down, same) m.covered))

-- all samples of the tile are covered, and so those of each of its blocks
pub block_of_covered : (t : Tri) (tile : Tile) (bx by : ℕ) → LiesIn tile bx by 8 → CoversAll (square_of t tile) → CoversAll (block_of t tile bx by)
block_of_covered t tile bx by lies covers s row column small high wide =
    let across : 8 * tile.bx + (8 * (bx - tile.bx) + column) ≡ 8 * bx + column = omega (arith, lies.left) in
    let down : 8 * tile.by + (8 * (by - tile.by) + row) ≡ 8 * by + row = omega (arith, lies.top) in
    rw (across, down) at (covers s (8 * (by - tile.by) + row) (8 * (bx - tile.bx) + column) small (omega (arith, lies.top, lies.bottom)) (omega (arith, lies.left, lies.right)))

-- ---- one part of the samples of a block after another
pub all_parts : (count : SampleCount) (s : ℕ) → s < count_of count → s < 4 * parts_of count
all_parts One s h = omega (arith, h)
all_parts Two s h = omega (arith, h)
all_parts Four s h = omega (arith, h)
all_parts Eight s h = omega (arith, h)
all_parts Sixteen s h = omega (arith, h)

-- a sample before the part's end is before the part or in it
in_part : (count : SampleCount) (part s : ℕ) → part < parts_of count → s < count_of count → 4 * part ≤ s → s < 4 * (part + 1) → s < 4 * part + part_size count
in_part One part s h k low high = omega (arith, h, k, low)
in_part Two part s h k low high = omega (arith, h, k, low)
in_part Four part s h k low high = omega (arith, high)
in_part Eight part s h k low high = omega (arith, high)
in_part Sixteen part s h k low high = omega (arith, high)

-- with fewer than eight samples there is one part
pub one_part : (count : SampleCount) → count_of count < 8 → parts_of count ≡ 1
one_part One h = refl
one_part Two h = refl
one_part Four h = refl
one_part Eight h = absurd (omega (arith, h))
one_part Sixteen h = absurd (omega (arith, h))

-- the samples of a block before the parts that are left
pub record IsInSquareBefore (tile : Tile) (bx by part : ℕ) (row column s : ℕ) : Type 0 where
  pub square : IsInSquare tile bx by 8 row column s
  pub before : s < 4 * part

module _ (t : Placed) (tile : Tile) (bx by : ℕ) where
  pub no_parts : (xs : List BlockSamples) → DrawsPart t tile (IsInSquareBefore tile bx by 0) xs xs
  no_parts xs = missed_part t tile _ xs (λ row column s h p m. absurd (omega (arith, p.before)))

  pub part_more : (part : ℕ) (a b c : List BlockSamples) → part < parts_of tile.count → DrawsPart t tile (IsInSquareBefore tile bx by part) a b → DrawsPart t tile (IsInSquarePart tile bx by 8 (4 * part)) b c
      → DrawsPart t tile (IsInSquareBefore tile bx by (part + 1)) a c
  part_more part a b c lt begun next = joined t tile (IsInSquareBefore tile bx by part) (IsInSquarePart tile bx by 8 (4 * part)) (IsInSquareBefore tile bx by (part + 1)) a b c begun next
      (λ row column s h p q. let own = q.samples in omega (arith, p.before, own.low))
      (λ row column s h p. elim (cases_lt s (4 * part)) [
        | inl before ↦ inl (record { square = p.square; before = before })
        | inr from ↦ inr (record { square = p.square; samples = record { low = from; high = in_part tile.count part s lt h.is_sample from p.before } })
      ])
      (λ row column s h p. elim p [
        | inl begun ↦ record { square = begun.square; before = omega (arith, begun.before) }
        | inr inside ↦ (let few = part_at_most tile.count in let own = inside.samples in record { square = inside.square; before = omega (arith, own.high, few.1) })
      ])

  pub all_drawn : (part : ℕ) (a b : List BlockSamples) → parts_of tile.count ≤ part → DrawsPart t tile (IsInSquareBefore tile bx by part) a b → DrawsPart t tile (IsInSquare tile bx by 8) a b
  all_drawn part a b end begun = same_part t tile (IsInSquareBefore tile bx by part) (IsInSquare tile bx by 8) a b begun
      (λ row column s h p. record { square = p; before = omega (arith, all_parts tile.count s h.is_sample, end) })
      (λ row column s h p. p.square)

  -- the only part of a block
  pub one_drawn : (a b : List BlockSamples) → parts_of tile.count ≡ 1 → DrawsPart t tile (IsInSquarePart tile bx by 8 0) a b → DrawsPart t tile (IsInSquare tile bx by 8) a b
  one_drawn a b one drawn = all_drawn 1 a b (omega (arith, one)) (part_more 0 a a b (omega (arith, one)) (no_parts a) drawn)
