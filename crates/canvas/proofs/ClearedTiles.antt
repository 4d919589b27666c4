-- Tiles that are cleared one after another.
use Rattle.std.proofs.Common.{◌≡◌, ◌≢◌, ◌∙◌, inl, inr, ap, sym, ℕ, ◌+◌, ◌-◌, ◌*◌, ◌/◌, ◌<◌, ◌≤◌, List, length, arith, take, drop}
use Rattle.std.specs.Prelude.{slice_index_or}
use Rattle.std.proofs.lemmas.Bool.{cases_lt}
use Rattle.std.proofs.Math.Nat.{mul_comm}
use Rattle.std.proofs.lemmas.Nat.{mul-add-lt, same_from_place}
use Rattle.grid.specs.Samples.{count_of}
use Rattle.shade.specs.declared.sample.CanvasSample.{CanvasSample}
use Rattle.lanes.specs.declared.block_samples.BlockSamples.{BlockSamples}
use Rattle.blocks.proofs.Cut.{put, put_here, put_elsewhere, part_of}
use Rattle.blocks.proofs.Places.{none, same_in}
use Rattle.canvas.specs.declared.canvas.Canvas.{Canvas}
use Rattle.blocks.specs.Layout.{planes_of_tile, stored_in_tile, IsUniformTile, way_of, id_of}
use Rattle.canvas.specs.Layout.{IsStoredIn, HasTile, columns_of, plane_of, stored, planes_of_row}
use Rattle.canvas.specs.Drawing.{AreCleared}
use Rattle.canvas.specs.Tiles.{IsUniform, AreUniform, planes_in}
use Rattle.grid.specs.declared.sample_count.SampleCount.{SampleCount}
use Rattle.shade.proofs.Resolved.{some_samples}
use Rattle.canvas.proofs.Places.{within_row}

pub uniform_same : (count : SampleCount) (xs ys : List BlockSamples) → ((k : ℕ) → k < planes_of_tile count → slice_index_or ys k none ≡ slice_index_or xs k none) → IsUniformTile count xs → IsUniformTile count ys
uniform_same count xs ys same u =
    let first : slice_index_or ys 0 none ≡ slice_index_or xs 0 none = same 0 (omega arith) in
    let sample : (i j s : ℕ) → s < count_of count → stored_in_tile count ys i j s ≡ stored_in_tile count xs i j s =
    λ i j s h. same_in count (λ k. slice_index_or ys k none) (λ k. slice_index_or xs k none) i j s h same in
    record {
      cleared = λ k l. ap (λ (p : BlockSamples). way_of p k) first ∙ u.cleared k l;
      one = λ i j s h. ap id_of (sample i j s h) ∙ u.one i j s h ∙ sym (ap id_of (sample 0 0 0 (some_samples count)));
    }

pub plane_in : (c : Canvas) (first column row : ℕ) (xs : List BlockSamples) (k : ℕ) → column < columns_of c → k < planes_of_tile c.count
    → slice_index_or (planes_in c first column row xs) k none ≡ slice_index_or xs ((row - first) * planes_of_row c + (column * planes_of_tile c.count + k)) none
plane_in c first column row xs k wide h =
    part_of (take (planes_of_row c) (drop ((row - first) * planes_of_row c) xs)) (column * planes_of_tile c.count) (planes_of_tile c.count) none k h
    ∙ part_of xs ((row - first) * planes_of_row c) (planes_of_row c) none (column * planes_of_tile c.count + k) (within_row c column k wide h)

-- a tile's place by its number
pub tiles_before : (r columns column each k : ℕ) → r * (columns * each) + column * each + k ≡ (r * columns + column) * each + k
tiles_before r columns column each k = grind arith

tile_before : (r columns column each k : ℕ) → r * (columns * each) + (column * each + k) ≡ (r * columns + column) * each + k
tile_before r columns column each k = grind arith

pub all_tiles : (r columns each : ℕ) → r * (columns * each) ≡ r * columns * each
all_tiles r columns each = grind arith

module _ (c : Canvas) (first end : ℕ) (sample : CanvasSample) where
  -- the number of a tile
  abbrev pub number_of : ℕ → ℕ → ℕ
  number_of column row = (row - first) * columns_of c + column

  -- the tiles before this one have been cleared
  pub record AreTilesCleared (n : ℕ) (xs : List BlockSamples) : Type 0 where
    pub cleared : (i j s : ℕ) → IsStoredIn c first end i j s → number_of (i / 64) (j / 64) < n → stored c first xs i j s ≡ sample
    pub uniform : (column row : ℕ) → HasTile c first end column row → number_of column row < n → IsUniform c first column row xs

  number_below : (n column row : ℕ) → (end - first) * columns_of c ≤ n → column < columns_of c → first ≤ row → row < end → number_of column row < n
  number_below n column row past wide from below =
      let few = mul-add-lt (row - first) (columns_of c) column (end - first) (omega (arith, from, below)) wide in
      omega (arith, past, few, mul_comm (columns_of c) (end - first))

  pub none_cleared : (xs : List BlockSamples) → AreTilesCleared 0 xs
  none_cleared xs = record { cleared = λ i j s h l. absurd (omega (arith, l)); uniform = λ column row h l. absurd (omega (arith, l)) }

  pub all_cleared : (n : ℕ) (xs : List BlockSamples) → (end - first) * columns_of c ≤ n → AreTilesCleared n xs → AreCleared c first end sample xs
  all_cleared n xs past before i j s h = before.cleared i j s h (number_below n (i / 64) (j / 64) past h.column h.from h.below)

  pub all_uniform : (n : ℕ) (xs : List BlockSamples) → (end - first) * columns_of c ≤ n → AreTilesCleared n xs → AreUniform c first end xs
  all_uniform n xs past before column row h = before.uniform column row h (number_below n column row past h.wide h.from h.below)

  module _ (n : ℕ) (xs part : List BlockSamples) (many a : ℕ) (room : a + many ≤ length xs) (long : length part ≡ many) (size : many ≡ planes_of_tile c.count) (at : a ≡ n * planes_of_tile c.count) where
    -- the planes of that tile, and those of another
    here : (q k : ℕ) → q ≡ n → k < planes_of_tile c.count → slice_index_or (put xs part a many) (q * planes_of_tile c.count + k) none ≡ slice_index_or part k none
    here q k same small =
        let there : q * planes_of_tile c.count ≡ a = ap (λ m. m * planes_of_tile c.count) same ∙ sym at in
        ap (λ p. slice_index_or (put xs part a many) (p + k) none) there ∙ put_here xs part a many none room long k (omega (arith, size, small))

    elsewhere : (q k : ℕ) → q ≢ n → k < planes_of_tile c.count → slice_index_or (put xs part a many) (q * planes_of_tile c.count + k) none ≡ slice_index_or xs (q * planes_of_tile c.count + k) none
    elsewhere q k other small =
        put_elsewhere xs part a many none room long (q * planes_of_tile c.count + k)
        (λ m l e.
        let left : q * planes_of_tile c.count + k ≡ n * planes_of_tile c.count + m = e ∙ ap (λ b. b + m) at in
        let same = same_from_place q k n m (planes_of_tile c.count) small (omega (arith, size, l)) left in
        other same.0)

    module _ (i j s : ℕ) (h : IsStoredIn c first end i j s) where
      place : (ys : List BlockSamples) (k : ℕ) → plane_of c first ys i j k ≡ slice_index_or ys (number_of (i / 64) (j / 64) * planes_of_tile c.count + k) none
      place ys k = ap (λ p. slice_index_or ys p none) (tiles_before (j / 64 - first) (columns_of c) (i / 64) (planes_of_tile c.count) k)

      sample_here : number_of (i / 64) (j / 64) ≡ n → stored c first (put xs part a many) i j s ≡ stored_in_tile c.count part i j s
      sample_here same =
          same_in c.count (plane_of c first (put xs part a many) i j) (λ k. slice_index_or part k none) i j s h.is_sample
          (λ k small. place (put xs part a many) k ∙ here (number_of (i / 64) (j / 64)) k same small)

      sample_elsewhere : number_of (i / 64) (j / 64) ≢ n → stored c first (put xs part a many) i j s ≡ stored c first xs i j s
      sample_elsewhere other =
          same_in c.count (plane_of c first (put xs part a many) i j) (plane_of c first xs i j) i j s h.is_sample
          (λ k small. place (put xs part a many) k ∙ elsewhere (number_of (i / 64) (j / 64)) k other small ∙ sym (place xs k))

    module _ (column row : ℕ) (h : HasTile c first end column row) where
      plane : (ys : List BlockSamples) (k : ℕ) → k < planes_of_tile c.count → slice_index_or (planes_in c first column row ys) k none ≡ slice_index_or ys (number_of column row * planes_of_tile c.count + k) none
      plane ys k small =
          plane_in c first column row ys k h.wide small ∙ ap (λ p. slice_index_or ys p none) (tile_before (row - first) (columns_of c) column (planes_of_tile c.count) k)

      uniform_here : number_of column row ≡ n → IsUniformTile c.count part → IsUniform c first column row (put xs part a many)
      uniform_here same = uniform_same c.count part (planes_in c first column row (put xs part a many)) (λ k small. plane (put xs part a many) k small ∙ here (number_of column row) k same small)

      uniform_elsewhere : number_of column row ≢ n → IsUniform c first column row xs → IsUniform c first column row (put xs part a many)
      uniform_elsewhere other =
          uniform_same c.count (planes_in c first column row xs) (planes_in c first column row (put xs part a many))
          (λ k small. plane (put xs part a many) k small ∙ elsewhere (number_of column row) k other small ∙ sym (plane xs k small))

    pub one_cleared : ((i j s : ℕ) → s < count_of c.count → stored_in_tile c.count part i j s ≡ sample) → IsUniformTile c.count part → AreTilesCleared n xs → AreTilesCleared (n + 1) (put xs part a many)
    one_cleared clears uniform before = record {
      cleared = λ i j s h l.
          elim (cases_lt (number_of (i / 64) (j / 64)) n) [
            | inl less ↦ sample_elsewhere i j s h (λ e. omega (arith, e, less)) ∙ before.cleared i j s h less
            | inr more ↦ sample_here i j s h (omega (arith, l, more)) ∙ clears i j s h.is_sample
          ];
      uniform = λ column row h l.
          elim (cases_lt (number_of column row) n) [
            | inl less ↦ uniform_elsewhere column row h (λ e. omega (arith, e, less)) (before.uniform column row h less)
            | inr more ↦ uniform_here column row h (omega (arith, l, more)) uniform
          ];
    }
