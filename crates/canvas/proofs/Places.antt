-- Each tile has planes of its own.
use Rattle.std.proofs.Common.{◌≡◌, ◌≢◌, ◌∙◌, ap, sym, ℕ, ◌+◌, ◌-◌, ◌*◌, ◌/◌, ◌<◌, ◌≤◌, List, ◌++◌, length, take, drop, get_or-append-add, arith}
use Rattle.std.specs.Prelude.{slice_index_or}
use Rattle.std.proofs.Math.Nat.{mul_comm, add-mul}
use Rattle.std.proofs.lemmas.List.{get_or_append_left}
use Rattle.std.proofs.lemmas.Nat.{mul-add-lt, same_from_place}
use Rattle.grid.specs.Samples.{count_of}
use Rattle.lanes.specs.declared.block_samples.BlockSamples.{BlockSamples}
use Rattle.blocks.proofs.Cut.{put, put_here, put_elsewhere, part_of}
use Rattle.canvas.specs.declared.canvas.Canvas.{Canvas}
use Rattle.blocks.specs.Layout.{planes_of_tile, block_in_tile, way_of, in_list, stored_in_tile}
use Rattle.canvas.specs.Layout.{columns_of, planes_of_row, plane_of, stored}
use Rattle.blocks.proofs.Places.{none, same_in}

pub within_row : (c : Canvas) (column k : ℕ) → column < columns_of c → k < planes_of_tile c.count → column * planes_of_tile c.count + k < planes_of_row c
within_row c column k wide h =
    let below = mul-add-lt column (planes_of_tile c.count) k (columns_of c) wide h in
    omega (arith, below, mul_comm (planes_of_tile c.count) (columns_of c))

pub within_rows : (c : Canvas) (first end row column k : ℕ) → column < columns_of c → first ≤ row → row < end → k < planes_of_tile c.count
    → (row - first) * planes_of_row c + column * planes_of_tile c.count + k < (end - first) * planes_of_row c
within_rows c first end row column k wide from to h =
    let below = mul-add-lt (row - first) (planes_of_row c) (column * planes_of_tile c.count + k) (end - first) (omega (arith, from, to)) (within_row c column k wide h) in
    omega (arith, below, mul_comm (planes_of_row c) (end - first))

-- ---- a tile row among tile rows
module _ (c : Canvas) (i j s : ℕ) where
  abbrev in_row : ℕ → ℕ
  in_row k = i / 64 * planes_of_tile c.count + k

  in_first : (row k : ℕ) → j / 64 ≡ row → (j / 64 - row) * planes_of_row c + i / 64 * planes_of_tile c.count + k ≡ in_row k
  in_first row k e =
      let same : j / 64 - row ≡ 0 = omega (arith, e) in
      rw same (omega arith)

  -- in the part of the planes that are those of its tile row
  pub row_of : (row first : ℕ) (xs : List BlockSamples) (n a : ℕ) → j / 64 ≡ row → n ≡ planes_of_row c → a ≡ (j / 64 - first) * planes_of_row c → i / 64 < columns_of c → s < count_of c.count
      → stored c row (take n (drop a xs)) i j s ≡ stored c first xs i j s
  row_of row first xs n a e many at wide h =
      same_in c.count (plane_of c row (take n (drop a xs)) i j) (plane_of c first xs i j) i j s h
      (λ k small.
      let inside : in_row k < n = omega (arith, many, within_row c (i / 64) k wide small) in
      ap (λ p. slice_index_or (take n (drop a xs)) p none) (in_first row k e)
      ∙ part_of xs a n none (in_row k) inside
      ∙ ap (λ p. slice_index_or xs p none) (omega (arith, at)))

  -- and in the part of these that are those of its tile
  pub tile_of : (row : ℕ) (xs : List BlockSamples) (n a : ℕ) → j / 64 ≡ row → n ≡ planes_of_tile c.count → a ≡ i / 64 * planes_of_tile c.count → s < count_of c.count
      → stored_in_tile c.count (take n (drop a xs)) i j s ≡ stored c row xs i j s
  tile_of row xs n a e many at h =
      same_in c.count (λ k. slice_index_or (take n (drop a xs)) k none) (plane_of c row xs i j) i j s h
      (λ k small.
      part_of xs a n none k (omega (arith, many, small))
      ∙ ap (λ p. slice_index_or xs p none) (omega (arith, at, in_first row k e)))

  -- the way of its block too
  pub tile_way : (row : ℕ) (xs : List BlockSamples) (n a : ℕ) → j / 64 ≡ row → n ≡ planes_of_tile c.count → a ≡ i / 64 * planes_of_tile c.count
      → way_of (in_list (take n (drop a xs)) 0) (block_in_tile i j) ≡ way_of (plane_of c row xs i j 0) (block_in_tile i j)
  tile_way row xs n a e many at =
      ap (λ state. way_of state (block_in_tile i j))
      (part_of xs a n none 0 (omega (arith, many)) ∙ ap (λ p. slice_index_or xs p none) (omega (arith, at, in_first row 0 e)))

  -- ---- a part that is put back changed
  module _ (xs part : List BlockSamples) (n a : ℕ) (room : a + n ≤ length xs) (long : length part ≡ n) where
    -- that of the tile row, or of another one
    module _ (first row : ℕ) (many : n ≡ planes_of_row c) (at : a ≡ (row - first) * planes_of_row c) (from : first ≤ row) (here : first ≤ j / 64) (wide : i / 64 < columns_of c) (h : s < count_of c.count) where
      pub row_put : j / 64 ≡ row → stored c first (put xs part a n) i j s ≡ stored c row part i j s
      row_put same =
          same_in c.count (plane_of c first (put xs part a n) i j) (plane_of c row part i j) i j s h
          (λ k small.
          let inside : in_row k < n = omega (arith, many, within_row c (i / 64) k wide small) in
          let there : (j / 64 - first) * planes_of_row c ≡ a = rw same (sym at) in
          ap (λ p. slice_index_or (put xs part a n) p none) (omega (arith, there))
          ∙ put_here xs part a n none room long (in_row k) inside
          ∙ sym (ap (λ p. slice_index_or part p none) (in_first row k same)))

      pub row_kept : j / 64 ≢ row → stored c first (put xs part a n) i j s ≡ stored c first xs i j s
      row_kept other =
          same_in c.count (plane_of c first (put xs part a n) i j) (plane_of c first xs i j) i j s h
          (λ k small.
          let elsewhere : (m : ℕ) → m < n → (j / 64 - first) * planes_of_row c + i / 64 * planes_of_tile c.count + k ≢ a + m =
          λ m l e.
          let left : (j / 64 - first) * planes_of_row c + in_row k ≡ (row - first) * planes_of_row c + m = omega (arith, e, at) in
          let same = same_from_place (j / 64 - first) (in_row k) (row - first) m (planes_of_row c) (within_row c (i / 64) k wide small) (omega (arith, many, l)) left in
          other (omega (arith, same.0, from, here)) in
          put_elsewhere xs part a n none room long _ elsewhere)

    -- that of the tile, or of another one in its row
    module _ (row : ℕ) (e : j / 64 ≡ row) (column : ℕ) (many : n ≡ planes_of_tile c.count) (at : a ≡ column * planes_of_tile c.count) (h : s < count_of c.count) where
      pub tile_put : i / 64 ≡ column → stored c row (put xs part a n) i j s ≡ stored_in_tile c.count part i j s
      tile_put same =
          same_in c.count (plane_of c row (put xs part a n) i j) (λ k. slice_index_or part k none) i j s h
          (λ k small.
          let there : i / 64 * planes_of_tile c.count ≡ a = rw same (sym at) in
          ap (λ p. slice_index_or (put xs part a n) p none) (omega (arith, there, in_first row k e))
          ∙ put_here xs part a n none room long k (omega (arith, many, small)))

      pub tile_kept : i / 64 ≢ column → stored c row (put xs part a n) i j s ≡ stored c row xs i j s
      tile_kept other =
          same_in c.count (plane_of c row (put xs part a n) i j) (plane_of c row xs i j) i j s h
          (λ k small.
          let elsewhere : (m : ℕ) → m < n → (j / 64 - row) * planes_of_row c + i / 64 * planes_of_tile c.count + k ≢ a + m =
          λ m l d.
          let left : i / 64 * planes_of_tile c.count + k ≡ column * planes_of_tile c.count + m = omega (arith, d, at, in_first row k e) in
          let same = same_from_place (i / 64) k column m (planes_of_tile c.count) small (omega (arith, many, l)) left in
          other same.0 in
          put_elsewhere xs part a n none room long _ elsewhere)

-- ---- tile rows in two parts
pub planes_split : (c : Canvas) (first at end : ℕ) → first ≤ at → at ≤ end → (end - first) * planes_of_row c ≡ (at - first) * planes_of_row c + (end - at) * planes_of_row c
planes_split c first at end h k =
    let sum : end - first ≡ (at - first) + (end - at) = omega arith in
    ap (λ n. n * planes_of_row c) sum ∙ add-mul (at - first) (end - at) (planes_of_row c)

module _ (c : Canvas) (first at : ℕ) (xs ys : List BlockSamples) (i j s : ℕ) (long : length xs ≡ (at - first) * planes_of_row c) (wide : i / 64 < columns_of c) (h : s < count_of c.count) where
  pub in_upper : first ≤ j / 64 → j / 64 < at → stored c first (xs ++ ys) i j s ≡ stored c first xs i j s
  in_upper from to =
      same_in c.count (plane_of c first (xs ++ ys) i j) (plane_of c first xs i j) i j s h
      (λ k small. get_or_append_left xs ys none _ (omega (arith, long, within_rows c first at (j / 64) (i / 64) k wide from to small)))

  pub in_lower : first ≤ at → at ≤ j / 64 → stored c first (xs ++ ys) i j s ≡ stored c at ys i j s
  in_lower rising from =
      let rows : (j / 64 - first) * planes_of_row c ≡ (at - first) * planes_of_row c + (j / 64 - at) * planes_of_row c = planes_split c first at (j / 64) rising from in
      same_in c.count (plane_of c first (xs ++ ys) i j) (plane_of c at ys i j) i j s h
      (λ k small.
      let place : (j / 64 - first) * planes_of_row c + i / 64 * planes_of_tile c.count + k ≡ length xs + ((j / 64 - at) * planes_of_row c + i / 64 * planes_of_tile c.count + k) = omega (arith, rows, long) in
      ap (λ p. slice_index_or (xs ++ ys) p none) place
      ∙ get_or-append-add xs ys ((j / 64 - at) * planes_of_row c + i / 64 * planes_of_tile c.count + k) none)
