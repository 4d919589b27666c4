-- The runs of triangles, one triangle and one tile row after another.
use Rattle.std.proofs.Common.{◌≡◌, ◌⊎◌, inl, inr, refl, sym, ap, ◌∙◌, subst, ℕ, zero, suc, true, cond, ◌+◌, ◌-◌, ◌*◌, ◌/◌, ◌%◌, ◌^◌, ◌<◌, ◌≤◌, min, List, [], ◌∷◌, ◌++◌, length, get_or, slice_get, slice_index, Some, arith}
use Rattle.std.specs.List.{All, Contains}
use Rattle.std.specs.List.Sorted.{IsStrictlyIncreasing}
use Rattle.std.proofs.lemmas.List.{length_push, get_or_append_left, get_or_push}
use Rattle.std.proofs.lemmas.Bool.{cases_Bool, cases_lt}
use Rattle.std.proofs.lemmas.Bool.Decides.{nat_tests}
use Rattle.std.proofs.lemmas.List.Elements.{All-nil, All-cons, All-head, All-tail, All-push, All-weaker, Contains-append_left, Contains-push}
use Rattle.std.proofs.Math.Nat.{mod-lt, div-add-mod', mul-le-mul, mul-le-mul_left, mul-le-mul_right, div-lt_iff_lt-mul, le-div_iff_mul-le}
use Rattle.grid.specs.Pixels.{side_of}
use Rattle.grid.specs.declared.pixels.PixelBox.{PixelBox}
use Rattle.grid.specs.declared.sample_count.SampleCount.{SampleCount}
use Rattle.cover.specs.Bounds.{first_pixel, end_pixel}
use Rattle.cover.proofs.Box.{box_holds}
use Rattle.draw_list.specs.Rows.{IsRowSpan}
use Rattle.draw_list.specs.declared.rows.RowSpan.{RowSpan}
use Rattle.std.proofs.lemmas.Int.{ints, clamps}
use Rattle.cover.specs.Rasterized.{IsRasterized}
use Rattle.shade.specs.declared.placed.Placed.{Placed}
use Rattle.draw_list.specs.Scene.{Scene}
use Rattle.reach.specs.declared.span.Span.{Span}
use Rattle.reach.specs.Reach.{IsInSpan, HaveMet, HaveReached}
use Rattle.bins.specs.declared.tile_run.TileRun.{TileRun}
use Rattle.bins.specs.Bin.{MeetsRect}
use Rattle.tiling.specs.Grid.{TileGrid, columns_of, rows_of, rect_at, rect_of, IsWithinLimits}
use Rattle.bins.specs.TileRuns.{has_tile, triangles_at, IsTileRunOver, IsVisitedBefore, AreTileRuns}
use Rattle.tiling.proofs.Tiles.{IsPixelOf, column_of, row_of, tile_is, tile_below, rect_of_place, few_tiles}
use Rattle.bins.proofs.Placing.{triangles-push, triangles-has, triangles-has_not}

-- a triangle that meets the tile of a column and a row of tiles
module _ (t : Placed) (count : SampleCount) (g : TileGrid) (limits : IsWithinLimits g) (met met_rows : Span) (have : HaveMet t g.side met met_rows) (column row : ℕ) (meets : MeetsRect t count (rect_at g column row)) where
  across : IsPixelOf g.side g.width column meets.column
  across = column_of g column row meets.column meets.row meets.inside

  along : IsPixelOf g.side g.height row meets.row
  along = row_of g column row meets.column meets.row meets.inside

  column_is : column ≡ meets.column / side_of g.side
  column_is = tile_is g.side g.width column meets.column across

  row_is : row ≡ meets.row / side_of g.side
  row_is = tile_is g.side g.height row meets.row along

  in_both : IsInSpan met (meets.column / side_of g.side) × IsInSpan met_rows (meets.row / side_of g.side)
  in_both = have count meets.column meets.row meets.sample (record { column = omega (arith, across.within, limits.width); row = omega (arith, along.within, limits.height); is_sample = meets.is_sample; meets = meets.meets })

  pub row_met : IsInSpan met_rows row
  row_met = subst (λ n. IsInSpan met_rows n) (sym row_is) in_both.1

  pub column_met : (columns cut : Span) → cut.first ≡ met.first → cut.end ≡ min met.end (columns_of g) → HaveReached t.tri count g.side row cut columns → IsInSpan columns column
  column_met columns cut first end reached =
      let from = in_both.0.from in
      let below = in_both.0.below in
      let inside : meets.column / side_of g.side < columns_of g = omega (arith, tile_below g.side g.width column meets.column across, column_is) in
      subst (λ n. IsInSpan columns n) (sym column_is)
      (reached meets.column meets.row meets.sample (sym row_is) meets.is_sample meets.meets.covered (record { from = omega (arith, first, from); below = omega (arith, end, below, inside) }))

pub same_placed : (a b : Placed) → Some a ≡ Some b → a ≡ b
same_placed a b e = cc

-- a list that ascends, with a number that is above all of it
pub increasing-push : (xs : List ℕ) (n : ℕ) → IsStrictlyIncreasing xs → All (λ x. x < n) xs → IsStrictlyIncreasing (xs ++ n ∷ [])
increasing-push xs n h below k more =
    let long = length_push xs n in
    let here : slice_index (xs ++ n ∷ []) k ≡ slice_index xs k = get_or_append_left xs (n ∷ []) 0 k (omega arith) in
    elim (cases_lt (k + 1) (length xs)) [
      | inl less ↦ omega (arith, here, get_or_append_left xs (n ∷ []) 0 (k + 1) less, h k less)
      | inr past ↦ omega (arith, here, get_or_push xs n 0 (k + 1) (omega arith), below k 0 (omega arith))
    ]

-- the triangles at a tile are of runs that have it
pub all_at : (P : ℕ → Type 0) (runs : List TileRun) (tile : ℕ) → All (λ (run : TileRun). has_tile tile run ≡ true → P run.number) runs → All P (triangles_at runs tile)
all_at P [] tile all = All-nil P
all_at P (run ∷ runs) tile all =
    let rest = all_at P runs tile (All-tail (λ (run : TileRun). has_tile tile run ≡ true → P run.number) run runs all) in
    elim (cases_Bool (has_tile tile run)) [
      | inl has ↦ rw has (All-cons P run.number (triangles_at runs tile) (All-head (λ (run : TileRun). has_tile tile run ≡ true → P run.number) run runs all has) rest)
      | inr lacks ↦ rw lacks rest
    ]

record IsTileOfRun (tile : ℕ) (run : TileRun) : Type 0 where
  from : run.first ≤ tile
  below : tile < run.end

tile_of_run : (tile : ℕ) (run : TileRun) → has_tile tile run ≡ true → IsTileOfRun tile run
tile_of_run tile run h = record { from = grind (arith, nat_tests); below = grind (arith, nat_tests) }

kept : (runs : List TileRun) (run : TileRun) (tile m : ℕ) → Contains (triangles_at runs tile) m → Contains (triangles_at (runs ++ run ∷ []) tile) m
kept runs run tile m h = rw (triangles-push runs run tile) (Contains-append_left (triangles_at runs tile) (cond (has_tile tile run) (run.number ∷ []) []) m h)

-- tiles of a row are before those of the next, and within all rows
row_next : (row columns place : ℕ) → place ≤ columns → row * columns + place ≤ (row + 1) * columns
row_next row columns place h = omega arith

row_within : (row rows columns place : ℕ) → row < rows → place ≤ columns → row * columns + place ≤ rows * columns
row_within row rows columns place h k =
    let all : (row + 1) * columns ≤ rows * columns = mul-le-mul_right columns h' in
    omega (arith, row_next row columns place k)
  where
    h' : row + 1 ≤ rows
    h' = omega arith

some_columns : (columns rows tile : ℕ) → tile < rows * columns → 0 < columns
some_columns zero rows tile h = absurd (omega (arith, h))
some_columns (suc columns) rows tile h = omega arith

module _ (l : Scene) (g : TileGrid) (first_row rows : ℕ) where
  -- none before the first triangle
  pub no_runs : AreTileRuns l g first_row rows 0 0 []
  no_runs = record {
    few = omega arith;
    over = All-nil (IsTileRunOver (rows * columns_of g));
    earlier = All-nil (λ (run : TileRun). (run.number < 0) ⊎ ((run.number ≡ 0) × (run.end ≤ 0 * columns_of g)));
    ascending = λ tile k h. absurd (omega arith);
    whole = λ m tile t before below e meets. absurd (elim before [ inl h ↦ omega arith | inr h ↦ omega (arith, h.1) ]);
  }

  module _ (n : ℕ) (runs : List TileRun) where
    next : (row : ℕ) (run : TileRun) → (run.number < n) ⊎ ((run.number ≡ n) × (run.end ≤ row * columns_of g)) → (run.number < n + 1) ⊎ ((run.number ≡ n + 1) × (run.end ≤ 0 * columns_of g))
    next row run (inl h) = inl (omega arith)
    next row run (inr h) = inl (omega (arith, h.0))

    -- all rows of a triangle are done
    pub runs_done : AreTileRuns l g first_row rows n rows runs → AreTileRuns l g first_row rows (n + 1) 0 runs
    runs_done are = record {
      few = omega (arith, are.few);
      over = are.over;
      earlier = All-weaker _ _ (next rows) runs are.earlier;
      ascending = are.ascending;
      whole = λ m tile t before below e meets. are.whole m tile t (elim before [ inl h ↦ done m tile h below | inr h ↦ absurd (omega (arith, h.1)) ]) below e meets;
    }
      where
        done : (m tile : ℕ) → m < n + 1 → tile < rows * columns_of g → IsVisitedBefore g n rows m tile
        done m tile h below = elim (cases_lt m n) [ inl less ↦ inl less | inr more ↦ inr (omega arith, below) ]

    -- tile rows in which the triangle meets no tile
    pub rows_past : (row next : ℕ) (t : Placed) → slice_get l.triangles n ≡ Some t → row ≤ next → next ≤ rows
        → ((column k : ℕ) → row ≤ k → k < next → ¬ MeetsRect t l.count (rect_at g column (first_row + k))) → AreTileRuns l g first_row rows n row runs → AreTileRuns l g first_row rows n next runs
    rows_past row next t known order within none are = record {
      few = omega (arith, are.few, order);
      over = are.over;
      earlier = All-weaker _ _ further runs are.earlier;
      ascending = are.ascending;
      whole = λ m tile other before below e meets. elim before [
        | inl h ↦ are.whole m tile other (inl h) below e meets
        | inr h ↦ elim (cases_lt tile (row * columns_of g)) [
          | inl less ↦ are.whole m tile other (inr (h.0, less)) below e meets
          | inr more ↦ absurd (unmet tile other more h.1 (rw h.0 at e) meets)
        ]
      ];
    }
      where
        wider : row * columns_of g ≤ next * columns_of g
        wider = mul-le-mul_right (columns_of g) order

        further : (run : TileRun) → (run.number < n) ⊎ ((run.number ≡ n) × (run.end ≤ row * columns_of g)) → (run.number < n) ⊎ ((run.number ≡ n) × (run.end ≤ next * columns_of g))
        further run (inl h) = inl h
        further run (inr h) = inr (h.0, omega (arith, h.1, wider))

        unmet : (tile : ℕ) (other : Placed) → row * columns_of g ≤ tile → tile < next * columns_of g → slice_get l.triangles n ≡ Some other → ¬ MeetsRect other l.count (rect_of g (first_row * columns_of g + tile))
        unmet tile other from before e meets =
            let wide : 0 < columns_of g = some_columns (columns_of g) next tile before in
            let k : ℕ = tile / columns_of g in
            let column : ℕ = tile % columns_of g in
            let low : row ≤ k = (le-div_iff_mul-le wide).1 from in
            let high : k < next = (div-lt_iff_lt-mul wide).1 before in
            let sum : k * columns_of g + column ≡ tile = div-add-mod' tile (columns_of g) in
            let place : first_row * columns_of g + tile ≡ (first_row + k) * columns_of g + column = omega (arith, sum) in
            let rect : rect_of g (first_row * columns_of g + tile) ≡ rect_at g column (first_row + k) = ap (rect_of g) place ∙ rect_of_place g column (first_row + k) (mod-lt tile wide) in
            let same : other ≡ t = same_placed other t (sym e ∙ known) in
            none column k low high (rw (rect, same) at meets)

    module _ (row : ℕ) (t : Placed) (columns : Span) (known : slice_get l.triangles n ≡ Some t) (below : row < rows) (within : columns.end ≤ columns_of g)
        (met : (column : ℕ) → MeetsRect t l.count (rect_at g column (first_row + row)) → IsInSpan columns column) (are : AreTileRuns l g first_row rows n row runs) where
      further : (run : TileRun) → (run.number < n) ⊎ ((run.number ≡ n) × (run.end ≤ row * columns_of g)) → (run.number < n) ⊎ ((run.number ≡ n) × (run.end ≤ (row + 1) * columns_of g))
      further run (inl h) = inl h
      further run (inr h) = inr (h.0, omega (arith, h.1))

      -- a tile of this row that the triangle meets
      in_row : (tile : ℕ) (other : Placed) → row * columns_of g ≤ tile → tile < (row + 1) * columns_of g → slice_get l.triangles n ≡ Some other → MeetsRect other l.count (rect_of g (first_row * columns_of g + tile)) → IsInSpan columns (tile - row * columns_of g)
      in_row tile other from before e meets =
          let column : ℕ = tile - row * columns_of g in
          let place : first_row * columns_of g + tile ≡ (first_row + row) * columns_of g + column = omega arith in
          let rect : rect_of g (first_row * columns_of g + tile) ≡ rect_at g column (first_row + row) = ap (rect_of g) place ∙ rect_of_place g column (first_row + row) (omega arith) in
          let same : other ≡ t = same_placed other t (sym e ∙ known) in
          met column (rw (rect, same) at meets)

      older : (tile : ℕ) (other : TileRun) → row * columns_of g ≤ tile → (other.number < n) ⊎ ((other.number ≡ n) × (other.end ≤ row * columns_of g)) → has_tile tile other ≡ true → other.number < n
      older tile other from (inl h) has = h
      older tile other from (inr h) has = let place = tile_of_run tile other has in absurd (omega (arith, h.1, place.below))

      run : TileRun
      run = record { number = n; first = row * columns_of g + columns.first; end = row * columns_of g + columns.end }

      pub row_pushed : columns.first < columns.end → AreTileRuns l g first_row rows n (row + 1) (runs ++ record { number = n; first = row * columns_of g + columns.first; end = row * columns_of g + columns.end } ∷ [])
      unfolding run
      row_pushed some = record {
        few = omega (arith, are.few, length_push runs run);
        over = All-push (IsTileRunOver (rows * columns_of g)) runs run are.over (record { rising = omega arith; within = row_within row rows (columns_of g) columns.end below within });
        earlier = All-push (λ (run : TileRun). (run.number < n) ⊎ ((run.number ≡ n) × (run.end ≤ (row + 1) * columns_of g))) runs run (All-weaker _ _ further runs are.earlier) (inr (refl, row_next row (columns_of g) columns.end within));
        ascending = λ tile. elim (cases_Bool (has_tile tile run)) [
          | inl has ↦ (
              let place = tile_of_run tile run has in
              let below_n = all_at (λ x. x < n) runs tile (λ k d inside there. older tile (get_or runs k d) (omega (arith, place.from)) (are.earlier k d inside) there) in
              rw (triangles-has runs run tile place.from place.below) (increasing-push (triangles_at runs tile) n (are.ascending tile) below_n)
              )
          | inr lacks ↦ rw (triangles-has_not runs run tile lacks) (are.ascending tile)
        ];
        whole = λ m tile other before in_rows e meets. elim before [
          | inl h ↦ kept runs run tile m (are.whole m tile other (inl h) in_rows e meets)
          | inr h ↦ elim (cases_lt tile (row * columns_of g)) [
            | inl less ↦ kept runs run tile m (are.whole m tile other (inr (h.0, less)) in_rows e meets)
            | inr more ↦ (
                let there = in_row tile other more h.1 (rw h.0 at e) meets in
                rw (triangles-has runs run tile (omega (arith, there.from)) (omega (arith, there.below)), h.0) (Contains-push (triangles_at runs tile) n)
                )
          ]
        ];
      }

pub drawn_of_meets : (t : Placed) (count : SampleCount) (r : PixelBox) → MeetsRect t count r → IsRasterized t.tri t.state.cull
drawn_of_meets t count r meets = record { area = meets.meets.covered.area; kept = meets.meets.kept }

above : (a b : ℕ) → a < b → a + 1 ≤ b
above a b h = omega arith

-- the triangle has no sample in the rows before its span or after it
pub missed_rows : (t : Placed) (count : SampleCount) (g : TileGrid) (first_row rows tile : ℕ) (span : RowSpan) → IsWithinLimits g → IsRowSpan t.tri span
    → ((j : ℕ) → span.first ≤ j → j < span.end → side_of g.side * first_row ≤ j → j < side_of g.side * (first_row + rows) → ⊥) → tile < rows * columns_of g → ¬ MeetsRect t count (rect_of g (first_row * columns_of g + tile))
missed_rows t count g first_row rows tile span limits is apart below meets =
    let k : ℕ = first_row * columns_of g + tile in
    let row : ℕ = k / columns_of g in
    let wide : 0 < columns_of g = some_columns (columns_of g) rows tile below in
    let from : first_row ≤ row = (le-div_iff_mul-le wide).1 (omega arith) in
    let before : row < first_row + rows = (div-lt_iff_lt-mul wide).1 (omega arith) in
    let across = column_of g (k % columns_of g) row meets.column meets.row meets.inside in
    let along = row_of g (k % columns_of g) row meets.column meets.row meets.inside in
    let box : PixelBox = record { x0 = first_pixel t.tri.a.x t.tri.b.x t.tri.c.x; y0 = first_pixel t.tri.a.y t.tri.b.y t.tri.c.y; x1 = end_pixel t.tri.a.x t.tri.b.x t.tri.c.x; y1 = end_pixel t.tri.a.y t.tri.b.y t.tri.c.y } in
    let inside = box_holds t.tri box (record { x0 = refl; y0 = refl; x1 = refl; y1 = refl }) count meets.column meets.row meets.sample (omega (arith, across.within, limits.width)) (omega (arith, along.within, limits.height)) meets.is_sample meets.meets.covered in
    let least : span.first ≤ meets.row = omega (arith, ints, is.first, inside.top) in
    let most : meets.row < span.end = omega (arith, ints, clamps, is.end, inside.bottom) in
    let low : side_of g.side * first_row ≤ side_of g.side * row = mul-le-mul_left (side_of g.side) from in
    let high : side_of g.side * (row + 1) ≤ side_of g.side * (first_row + rows) = mul-le-mul_left (side_of g.side) (above row (first_row + rows) before) in
    apart meets.row least most (omega (arith, along.from)) (omega (arith, along.below))

-- few runs in a picture's tile rows
pub few_runs : (l : Scene) (g : TileGrid) (first_row rows : ℕ) (runs : List TileRun) → IsWithinLimits g → first_row + rows ≤ rows_of g → length l.triangles ≤ 65536
    → AreTileRuns l g first_row rows (length l.triangles) 0 runs → length runs ≤ 2 ^ 25
few_runs l g first_row rows runs limits within few are =
    let rows_few : rows ≤ 512 = omega (arith, few_tiles g.side g.height limits.height) in
    let most : length l.triangles * rows ≤ 65536 * 512 = mul-le-mul few rows_few in
    omega (arith, are.few)
