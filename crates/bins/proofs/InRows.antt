-- The triangles that can have pixels in some tile rows, by number.
use Rattle.std.proofs.Common.{◌≡◌, ◌⊎◌, inl, inr, ap, ◌∙◌, ℕ, ◌+◌, ◌*◌, ◌<◌, ◌≤◌, List, [], ◌∷◌, ◌++◌, length, slice_get, slice_index, Some, arith}
use Rattle.std.specs.List.{Contains}
use Rattle.std.proofs.lemmas.Bool.{cases_lt}
use Rattle.std.proofs.lemmas.List.Kept.{AllPairs-from_increasing}
use Rattle.std.proofs.lemmas.List.Elements.{All-push, All-weaker, Contains-append_left, Contains-push}
use Rattle.shade.specs.declared.placed.Placed.{Placed}
use Rattle.draw_list.specs.Scene.{Scene}
use Rattle.bins.specs.declared.tile_run.TileRun.{TileRun}
use Rattle.bins.specs.Bin.{MeetsRect}
use Rattle.tiling.specs.Grid.{TileGrid, columns_of, rect_of}
use Rattle.bins.specs.TileRuns.{AreTileRuns, AreCandidates}
use Rattle.std.proofs.lemmas.List.{get_or_default}
use Rattle.std.proofs.Math.Nat.{mul-le-mul_right}
use Rattle.bins.proofs.Gathering.{increasing-push, no_runs}

module _ (l : Scene) (g : TileGrid) (first_row rows : ℕ) where
  module _ (n : ℕ) (numbers : List ℕ) (are : AreCandidates l g first_row rows n numbers) where
    -- one that meets no tile of these rows
    pub candidates_past : ((t : Placed) (tile : ℕ) → slice_get l.triangles n ≡ Some t → tile < rows * columns_of g → ¬ MeetsRect t l.count (rect_of g (first_row * columns_of g + tile)))
        → AreCandidates l g first_row rows (n + 1) numbers
    candidates_past none = record {
      before = All-weaker (λ number. number < n) (λ number. number < n + 1) (λ number h. omega arith) numbers are.before;
      ascending = are.ascending;
      whole = λ m tile t before below e meets. elim (cases_lt m n) [
        | inl less ↦ are.whole m tile t less below e meets
        | inr more ↦ absurd (let same : m ≡ n = omega arith in none t tile (rw same at e) below meets)
      ];
    }

    pub candidates_more : AreCandidates l g first_row rows (n + 1) (numbers ++ n ∷ [])
    candidates_more = record {
      before = All-push (λ number. number < n + 1) numbers n (All-weaker (λ number. number < n) (λ number. number < n + 1) (λ number h. omega arith) numbers are.before) (omega arith);
      ascending = increasing-push numbers n are.ascending are.before;
      whole = λ m tile t before below e meets. elim (cases_lt m n) [
        | inl less ↦ Contains-append_left numbers (n ∷ []) m (are.whole m tile t less below e meets)
        | inr more ↦ (let same : m ≡ n = omega arith in rw same (Contains-push numbers n))
      ];
    }

  -- runs of more triangles, of which none meets a tile
  later : (n m : ℕ) (runs : List TileRun) → n ≤ m → AreTileRuns l g first_row rows n 0 runs
      → ((k : ℕ) (t : Placed) (tile : ℕ) → n ≤ k → k < m → slice_get l.triangles k ≡ Some t → tile < rows * columns_of g → ¬ MeetsRect t l.count (rect_of g (first_row * columns_of g + tile)))
      → AreTileRuns l g first_row rows m 0 runs
  later n m runs less are none = record {
    few = omega (arith, are.few, wider);
    over = are.over;
    earlier = All-weaker _ _ further runs are.earlier;
    ascending = are.ascending;
    whole = λ k tile t before below e meets. elim before [
      | inl h ↦ elim (cases_lt k n) [
        | inl old ↦ are.whole k tile t (inl old) below e meets
        | inr new ↦ absurd (none k t tile new h e below meets)
      ]
      | inr h ↦ absurd (omega (arith, h.1))
    ];
  }
    where
      wider : n * rows ≤ m * rows
      wider = mul-le-mul_right rows less

      further : (run : TileRun) → (run.number < n) ⊎ ((run.number ≡ n) × (run.end ≤ 0 * columns_of g)) → (run.number < m) ⊎ ((run.number ≡ m) × (run.end ≤ 0 * columns_of g))
      further run (inl h) = inl (omega arith)
      further run (inr h) = elim (cases_lt n m) [
        | inl more ↦ inl (omega (arith, h.0))
        | inr same ↦ inr (omega (arith, h.0), h.1)
      ]

  -- The runs of the candidates before this place, and so of the triangles before some number.
  pub record HaveRuns (numbers : List ℕ) (place : ℕ) (runs : List TileRun) : Type 0 where
    pub n : ℕ
    pub within : n ≤ length l.triangles
    pub are : AreTileRuns l g first_row rows n 0 runs
    pub done : (k : ℕ) → k < place → slice_index numbers k < n
    pub ahead : (k : ℕ) → place ≤ k → k < length numbers → n ≤ slice_index numbers k

  pub none_have_runs : (numbers : List ℕ) → HaveRuns numbers 0 []
  none_have_runs numbers = record { n = 0; within = omega arith; are = no_runs l g first_row rows; done = λ k h. absurd (omega arith); ahead = λ k from below. omega arith }

  module _ (numbers : List ℕ) (all : AreCandidates l g first_row rows (length l.triangles) numbers) (place : ℕ) (runs : List TileRun) (have : HaveRuns numbers place runs) where
    apart : (i j : ℕ) → i < j → j < length numbers → slice_index numbers i < slice_index numbers j
    apart i j less below = AllPairs-from_increasing numbers all.ascending i j 0 less below

    -- none between the last candidate before the place and the one at the place, or the end
    between : (k : ℕ) → have.n ≤ k → (place < length numbers → k < slice_index numbers place) → ¬ Contains numbers k
    between k from before has =
        let at : slice_index numbers has.0 ≡ k = get_or_default numbers has.0 0 k has.1 ∙ has.2 in
        elim (cases_lt has.0 place) [
          | inl less ↦ omega (arith, have.done has.0 less)
          | inr more ↦ (
              let below : k < slice_index numbers place = before (omega (arith, has.1)) in
              elim (cases_lt place has.0) [
                | inl above ↦ omega (arith, apart place has.0 above has.1)
                | inr same ↦ (let here : has.0 ≡ place = omega arith in omega (arith, ap (slice_index numbers) here))
              ]
              )
        ]

    -- the runs of all triangles before the candidate at the place
    pub to_next : place < length numbers → AreTileRuns l g first_row rows (slice_index numbers place) 0 runs
    to_next inside =
        let below : slice_index numbers place < length l.triangles = all.before place 0 inside in
        later have.n (slice_index numbers place) runs (have.ahead place (omega arith) inside) have.are
        (λ k t tile from before e in_rows meets. between k from (λ _. before) (all.whole k tile t (omega arith) in_rows e meets))

    -- the runs of that one too
    pub one_more : (more : List TileRun) → place < length numbers → AreTileRuns l g first_row rows (slice_index numbers place + 1) 0 more → HaveRuns numbers (place + 1) more
    one_more more inside are = record {
      n = slice_index numbers place + 1;
      within = omega (arith, all.before place 0 inside);
      are = are;
      done = λ k before. elim (cases_lt k place) [
        | inl less ↦ omega (arith, have.done k less, have.ahead place (omega arith) inside)
        | inr same ↦ (let here : k ≡ place = omega arith in omega (arith, ap (slice_index numbers) here))
      ];
      ahead = λ k from below. omega (arith, apart place k (omega arith) below);
    }

    pub all_have_runs : length numbers ≤ place → AreTileRuns l g first_row rows (length l.triangles) 0 runs
    all_have_runs end =
        later have.n (length l.triangles) runs have.within have.are
        (λ k t tile from before e in_rows meets. between k from (λ inside. absurd (omega arith)) (all.whole k tile t before in_rows e meets))
