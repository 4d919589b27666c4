-- The entries of the samples of one tile: 64 for each of its planes.
use Rattle.std.proofs.Common.{◌≡◌, ◌≢◌, ◌∙◌, inl, inr, refl, sym, ap, ℕ, ◌+◌, ◌-◌, ◌*◌, ◌/◌, ◌%◌, ◌<◌, ◌≤◌, List, length, take, drop, slice_index, slice_set, arith}
use Rattle.std.specs.Prelude.{if◌then◌else◌, slice_index_or}
use Rattle.std.proofs.lemmas.Bool.{cases_lt}
use Rattle.std.proofs.lemmas.Bool.Decides.{eqb_tells}
use Rattle.std.proofs.lemmas.List.{get_or-set_same, get_or-set_other}
use Rattle.grid.specs.Samples.{count_of}
use Rattle.grid.specs.declared.sample_count.SampleCount.{SampleCount}
use Rattle.grid.specs.declared.sample_count.SampleCount.TheVariants.{One, Two, Four, Eight, Sixteen}
use Rattle.shade.specs.declared.sample.CanvasSample.{CanvasSample}
use Rattle.shade.proofs.Resolved.{some_samples, few_samples}
use Rattle.lanes.specs.declared.block_samples.BlockSamples.{BlockSamples}
use Rattle.lanes.specs.Block.{stored_at}
use Rattle.canvas.specs.declared.canvas.Canvas.{Canvas}
use Rattle.blocks.specs.declared.way.Way.TheVariants.{Cleared}
use Rattle.blocks.specs.Layout.{masks_from, further_plane, first_further, planes_of_tile, block_in_tile, way_of, place_by, slot_by, place_in_tile, stored_in_tile, way_in_tile, pixel_in_block, in_list, id_of, IsUniformTile}
use Rattle.canvas.specs.Layout.{IsStoredIn, columns_of, planes_of_row, stored}
use Rattle.canvas.specs.Tiles.{planes_in}
use Rattle.readout.specs.Tiles.{IsInTile, tile_entries, entry_in_tile, said_of, with_colour}
use Rattle.blocks.proofs.Places.{none, slot_below}
use Rattle.canvas.proofs.Places.{row_of, tile_of}
use Rattle.blocks.proofs.TilePlanes.{by_way, by_any_way, same_own_plane, same_mask, same_further}
use Rattle.canvas.proofs.ClearedTiles.{plane_in}

-- ---- numbers of planes and entries
-- the number of its sample's plane among those of the tile's own blocks
abbrev pub number_in : SampleCount → ℕ → ℕ → ℕ → ℕ
number_in count i j s = block_in_tile i j * count_of count + s

pub number_below : (count : SampleCount) (q s : ℕ) → q < 64 → s < count_of count → q * count_of count + s < 64 * count_of count
number_below One q s h l = omega (arith, h, l)
number_below Two q s h l = omega (arith, h, l)
number_below Four q s h l = omega (arith, h, l)
number_below Eight q s h l = omega (arith, h, l)
number_below Sixteen q s h l = omega (arith, h, l)

pub block_of_number : (count : SampleCount) (q s : ℕ) → s < count_of count → (q * count_of count + s) / count_of count ≡ q
block_of_number One q s l = omega (arith, l)
block_of_number Two q s l = omega (arith, l)
block_of_number Four q s l = omega (arith, l)
block_of_number Eight q s l = omega (arith, l)
block_of_number Sixteen q s l = omega (arith, l)

pub index_of_number : (count : SampleCount) (q s : ℕ) → s < count_of count → (q * count_of count + s) % count_of count ≡ s
index_of_number One q s l = omega (arith, l)
index_of_number Two q s l = omega (arith, l)
index_of_number Four q s l = omega (arith, l)
index_of_number Eight q s l = omega (arith, l)
index_of_number Sixteen q s l = omega (arith, l)

-- the ids of the plane of this number
abbrev pub HasIdsOf : SampleCount → List BlockSamples → ℕ → (ℕ → ℕ) → Type 0
HasIdsOf count xs number ids =
    (i j : ℕ) → block_in_tile i j ≡ number / count_of count → ids (pixel_in_block i j) ≡ id_of (stored_in_tile count xs i j (number % count_of count))

-- ---- what entries say
module _ (count : SampleCount) (xs : List ℕ) (i j s : ℕ) where
  pub one_says : length xs ≡ 1 → said_of count xs i j s ≡ slice_index xs 0
  one_says e =
      elim (eqb_tells (length xs) 1) [
        | inl same ↦ ap (λ b. slice_index xs (if b then 0 else entry_in_tile count i j s)) same.0
        | inr other ↦ absurd (other.1 e)
      ]

  pub each_says : length xs ≢ 1 → said_of count xs i j s ≡ slice_index xs (entry_in_tile count i j s)
  each_says e =
      elim (eqb_tells (length xs) 1) [
        | inl same ↦ absurd (e same.1)
        | inr other ↦ ap (λ b. slice_index xs (if b then 0 else entry_in_tile count i j s)) other.0
      ]

pub many_entries : (count : SampleCount) → 4096 ≤ tile_entries count
many_entries count = let some : 0 < count_of count = some_samples count in omega (arith, some)

-- ---- a tile whose samples have one id
module _ (count : SampleCount) (xs : List BlockSamples) where
  pub uniform_plane : IsUniformTile count xs → (k : ℕ) → k < 64 → id_of (stored_at (slice_index_or xs 1 none) k) ≡ id_of (stored_at (slice_index_or xs 1 none) 0)
  uniform_plane u k l =
      let pixel : pixel_in_block (k % 8) (k / 8) ≡ k = omega (arith, l) in
      sym (ap id_of (by_way count xs Cleared (k % 8) (k / 8) 0 refl (u.cleared (block_in_tile (k % 8) (k / 8)) (omega arith)) ∙ ap (stored_at (slice_index_or xs 1 none)) pixel))
      ∙ u.one (k % 8) (k / 8) 0 (some_samples count)
      ∙ ap id_of (by_way count xs Cleared 0 0 0 refl (u.cleared 0 (omega arith)))

  pub all_uniform : (id : ℕ) → ((k : ℕ) → k < 64 → way_in_tile xs k ≡ Cleared) → ((k : ℕ) → k < 64 → id_of (stored_at (slice_index_or xs 1 none) k) ≡ id)
      → (i j s : ℕ) → s < count_of count → id_of (stored_in_tile count xs i j s) ≡ id
  all_uniform id cleared same i j s h = ap id_of (by_way count xs Cleared i j s refl (cleared (block_in_tile i j) (omega arith))) ∙ same (pixel_in_block i j) (omega arith)

  pub is_uniform : (id : ℕ) → ((k : ℕ) → k < 64 → way_in_tile xs k ≡ Cleared) → ((k : ℕ) → k < 64 → id_of (stored_at (slice_index_or xs 1 none) k) ≡ id) → IsUniformTile count xs
  is_uniform id cleared same = record {
    cleared = cleared;
    one = λ i j s h. all_uniform id cleared same i j s h ∙ sym (all_uniform id cleared same 0 0 0 (some_samples count));
  }

-- ---- the planes of a tile among those of tile rows
pub in_planes : (c : Canvas) (first end column row : ℕ) (xs : List BlockSamples) (i j s : ℕ) → IsStoredIn c first end i j s → IsInTile column row i j
    → stored_in_tile c.count (planes_in c first column row xs) i j s ≡ stored c first xs i j s
in_planes c first end column row xs i j s h t =
    tile_of c i j s row (take (planes_of_row c) (drop ((row - first) * planes_of_row c) xs)) (planes_of_tile c.count) (column * planes_of_tile c.count) t.down refl (ap (λ m. m * planes_of_tile c.count) (sym t.across)) h.is_sample
    ∙ row_of c i j s row first xs (planes_of_row c) ((row - first) * planes_of_row c) t.down refl (ap (λ m. (m - first) * planes_of_row c) (sym t.down)) h.column h.is_sample

pub plane_in_row : (c : Canvas) (column row : ℕ) (xs : List BlockSamples) (k : ℕ) → column < columns_of c → k < planes_of_tile c.count
    → slice_index_or (planes_in c row column row xs) k none ≡ slice_index_or xs (column * planes_of_tile c.count + k) none
plane_in_row c column row xs k wide h =
    let none_before : row - row ≡ 0 = omega arith in
    plane_in c row column row xs k wide h
    ∙ ap (λ d. slice_index_or xs (d * planes_of_row c + (column * planes_of_tile c.count + k)) none) none_before
    ∙ ap (λ p. slice_index_or xs p none) (let same : 0 * planes_of_row c + (column * planes_of_tile c.count + k) ≡ column * planes_of_tile c.count + k = omega arith in same)

-- ---- planes whose colours are stored one after another
-- the sample with these channels
abbrev pub with_channels : ℕ → ℕ → ℕ → CanvasSample → CanvasSample
with_channels r g b old = record { r = r; g = g; b = b; alpha = old.alpha; z = old.z }

-- the planes from `from` to before `place` have the colours that f says, and their depths; all others are unchanged
pub record AreRecoloured (from place : ℕ) (f : ℕ → ℕ → ℕ) (old new : List BlockSamples) : Type 0 where
  pub changed : (p k : ℕ) → from ≤ p → p < place → k < 64 → stored_at (slice_index_or new p none) k ≡ with_colour (f p k) (stored_at (slice_index_or old p none) k)
  pub kept : (p : ℕ) → (from ≤ p → p < place → ⊥) → slice_index_or new p none ≡ slice_index_or old p none

pub none_recoloured : (from : ℕ) (f : ℕ → ℕ → ℕ) (xs : List BlockSamples) → AreRecoloured from from f xs xs
none_recoloured from f xs = record { changed = λ p k h l _. absurd (omega (arith, h, l)); kept = λ p _. refl }

pub one_recoloured : (from place : ℕ) (f : ℕ → ℕ → ℕ) (old xs : List BlockSamples) (plane : BlockSamples) → from ≤ place → place < length xs
    → ((k : ℕ) → k < 64 → stored_at plane k ≡ with_colour (f place k) (stored_at (slice_index_or xs place none) k)) → AreRecoloured from place f old xs → AreRecoloured from (place + 1) f old (slice_set xs place plane)
one_recoloured from place f old xs plane since room is before = record {
  changed = λ p k h l small.
      elim (cases_lt p place) [
        | inl less ↦ ap (λ x. stored_at x k) (get_or-set_other xs place p plane none (λ e. omega (arith, e, less))) ∙ before.changed p k h less small
        | inr more ↦
            let here : p ≡ place = omega (arith, l, more) in
            ap (λ q. stored_at (slice_index_or (slice_set xs place plane) q none) k) here
            ∙ ap (λ x. stored_at x k) (get_or-set_same xs place plane none room)
            ∙ is k small
            ∙ ap (λ x. with_colour (f place k) (stored_at x k)) (before.kept place (λ _ less. omega (arith, less)))
            ∙ sym (ap (λ q. with_colour (f q k) (stored_at (slice_index_or old q none) k)) here)
      ];
  kept = λ p other.
      get_or-set_other xs place p plane none (λ e. other (omega (arith, e, since)) (omega (arith, e)))
      ∙ before.kept p (λ h l. other h (omega (arith, l)));
}

-- depths, and masks in their place, are unchanged
same_depths : (from place : ℕ) (f : ℕ → ℕ → ℕ) (old new : List BlockSamples) (p k : ℕ) → k < 64 → AreRecoloured from place f old new → slice_index (in_list new p).z k ≡ slice_index (in_list old p).z k
same_depths from place f old new p k small all =
    elim (cases_lt p from) [
      | inl before ↦ ap (λ (plane : BlockSamples). slice_index plane.z k) (all.kept p (λ h _. omega (arith, h, before)))
      | inr since ↦
          elim (cases_lt p place) [
            | inl within ↦ ap (λ (sample : CanvasSample). sample.z) (all.changed p k since within small)
            | inr past ↦ ap (λ (plane : BlockSamples). slice_index plane.z k) (all.kept p (λ _ l. omega (arith, l, past)))
          ]
    ]

-- a sample whose plane is one of them
pub sample_recoloured : (count : SampleCount) (from place colour : ℕ) (f : ℕ → ℕ → ℕ) (old new : List BlockSamples) (i j s : ℕ) → s < count_of count → 1 ≤ from
    → from ≤ place_in_tile count (in_list old) i j s → place_in_tile count (in_list old) i j s < place
    → f (place_in_tile count (in_list old) i j s) (slot_by (way_in_tile old (block_in_tile i j)) (block_in_tile i j) (pixel_in_block i j)) ≡ colour
    → AreRecoloured from place f old new → stored_in_tile count new i j s ≡ with_colour colour (stored_in_tile count old i j s)
sample_recoloured count from place colour f old new i j s index behind h l is all =
    let first : slice_index_or new 0 none ≡ slice_index_or old 0 none = all.kept 0 (λ h _. omega (arith, h, behind)) in
    let at : ℕ = place_in_tile count (in_list old) i j s in
    let k : ℕ = block_in_tile i j in
    let way = way_in_tile old k in
    let p : ℕ = pixel_in_block i j in
    let slot : ℕ = slot_by way k p in
    let masks : ℕ = 1 + (k + 1) * count_of count + (count_of count - 1) in
    let more : ℕ = 1 + (k + 1) * count_of count + further_plane count in
    by_any_way count new way i j s (ap (λ (state : BlockSamples). way_of state k) first)
    ∙ ap (λ n. stored_at (in_list new (place_by count way k n)) slot)
    (same_own_plane count way (in_list new masks) (in_list old masks) (masks_from (first_further count) (in_list new more)) (masks_from (first_further count) (in_list old more)) p s (
      (λ _. same_mask (in_list new masks) (in_list old masks) s (omega (arith, index, few_samples count)) (λ n small. same_depths from place f old new masks n small all)),
      (λ _. same_further count (in_list new more) (in_list old more) s index (λ n small. same_depths from place f old new more n small all)),
    ))
    ∙ all.changed at slot h l (slot_below way k p (omega arith) (omega arith))
    ∙ ap (λ n. with_colour n (stored_at (in_list old at) slot)) is

-- the colour of a number, channel by channel
pub in_channels : (r g b n : ℕ) (x y : CanvasSample) → r ≡ n % 256 → g ≡ n / 256 % 256 → b ≡ n / 65536 % 256 → x ≡ y → with_channels r g b x ≡ with_colour n y
in_channels r g b n x y red green blue same =
    ap (λ r. with_channels r g b x) red
    ∙ ap (λ g. with_channels (n % 256) g b x) green
    ∙ ap (λ b. with_channels (n % 256) (n / 256 % 256) b x) blue
    ∙ ap (λ x. with_colour n x) same
