use Rattle.std.proofs.Common.{◌≡◌, arith, ℕ, zero, suc, ◌+◌, ◌*◌, ◌^◌, ◌<◌, lit<, ℤ, pos, w32, to_z, of_z, [], ◌∷◌, slice_index_or}
use Rattle.std.proofs.lemmas.Int.{ints}
use Rattle.grid.specs.Bounds.{IsWithin}
use Rattle.grid.specs.Position.{IsInBand}
use Rattle.grid.proofs.Bounds.{passed}
use Rattle.grid.specs.Samples.{part_size, parts_of}
use Rattle.polygons.specs.declared.starts.Starts.{Starts}
use Rattle.polygons.specs.Pixels.{IsFirstPixel}
use Rattle.polygons.specs.Strip.{start_of}
use Rattle.polygons.proofs.Plotted.{part_small}
use Rattle.polygons.proofs.Samples.{few_parts, in_part}
use Rattle.polygons.proofs.ShortEdges.{column_range}
use Rattle.polygons.proofs.starts.Starts.rows.Goals as goal

in_band : (z : ℤ) → IsInBand z → IsInBand (to_z w32 (of_z w32 z))
in_band z h = record { low = omega (arith, ints); high = omega (arith, ints) }

same32 : (n : ℤ) → IsWithin (2 ^ 17) n → to_z w32 (of_z w32 n) ≡ n
same32 n h = omega (arith, ints)

-- a row as it is kept, by the height that was read
near : (start y n : ℤ) → IsInBand start → IsInBand y → IsFirstPixel (to_z w32 (of_z w32 start)) (to_z w32 (of_z w32 y)) n → IsWithin (2 ^ 17) (to_z w32 (of_z w32 n))
near start y n h k first = let r = column_range _ _ n (in_band start h) (in_band y k) first in rw (same32 n r) r

first_is : (start start' y n : ℤ) → start ≡ start' → IsInBand start → IsInBand y → IsFirstPixel (to_z w32 (of_z w32 start)) (to_z w32 (of_z w32 y)) n → IsFirstPixel start' y (to_z w32 (of_z w32 n))
first_is start start' y n e h k first =
    let r = column_range _ _ n (in_band start h) (in_band y k) first in
    let y_is : to_z w32 (of_z w32 y) ≡ y = omega (arith, ints) in
    rw (same32 n r) (rw (passed start start' h e, y_is) at first)

module _ (self : Starts) (part : ℕ) (h : part < parts_of self.strip.count) where
  -- the height of sample s of the part
  height : (s : ℕ) → s < 4 → IsInBand (slice_index_or self.heights (4 * part + s) (pos 0))
  height s l = self.in_band (4 * part + s) (few_parts self.strip.count part s h l)

  module _ (y n : ℤ) (s : ℕ) (l : s < 4) (k : IsInBand y) (first : IsFirstPixel (to_z w32 (of_z w32 (slice_index_or self.heights (4 * part + s) (pos 0)))) (to_z w32 (of_z w32 y)) n) where
    near_row : IsWithin (2 ^ 17) (to_z w32 (of_z w32 n))
    near_row = near _ _ _ (height s l) k first

    first_row : s < part_size self.strip.count → IsFirstPixel (start_of self.strip (4 * part + s)).y y (to_z w32 (of_z w32 n))
    first_row m = first_is _ _ _ _ (self.level (4 * part + s) (in_part self.strip.count part s h m)) (height s l) k first

pub first_pixel-requires-2-clause-start : goal.first_pixel-requires-2-clause-start
first_pixel-requires-2-clause-start c = in_band _ (height c.args.self.now c.args.part c.requires.part 1 (lit< tt))

pub first_pixel-requires-3-clause-start : goal.first_pixel-requires-3-clause-start
first_pixel-requires-3-clause-start c = in_band _ (height c.args.self.now c.args.part c.requires.part 2 (lit< tt))

pub first_pixel-requires-4-clause-start : goal.first_pixel-requires-4-clause-start
first_pixel-requires-4-clause-start c = in_band _ (height c.args.self.now c.args.part c.requires.part 3 (lit< tt))

pub returns : goal.returns
returns c = record { near = near_rows; first = first_rows }
  where
    zeroth : 4 * c.args.part + 0 ≡ 4 * c.args.part
    zeroth = omega arith

    first_of : IsFirstPixel (to_z w32 (of_z w32 (slice_index_or c.args.self.now.heights (4 * c.args.part + 0) (pos 0)))) (to_z w32 (of_z w32 c.args.y)) c.first_pixel.result
    first_of = rw zeroth c.first_pixel.ensures

    near_rows : (s : ℕ) → s < 4 → IsWithin (2 ^ 17) (slice_index_or (to_z w32 (of_z w32 c.first_pixel.result) ∷ to_z w32 (of_z w32 c.first_pixel-2.result) ∷ to_z w32 (of_z w32 c.first_pixel-3.result) ∷ to_z w32 (of_z w32 c.first_pixel-4.result) ∷ []) s (pos 0))
    near_rows zero l = near_row c.args.self.now c.args.part c.requires.part _ _ 0 l c.requires.y first_of
    near_rows (suc zero) l = near_row c.args.self.now c.args.part c.requires.part _ _ 1 l c.requires.y c.first_pixel-2.ensures
    near_rows (suc (suc zero)) l = near_row c.args.self.now c.args.part c.requires.part _ _ 2 l c.requires.y c.first_pixel-3.ensures
    near_rows (suc (suc (suc zero))) l = near_row c.args.self.now c.args.part c.requires.part _ _ 3 l c.requires.y c.first_pixel-4.ensures
    near_rows (suc (suc (suc (suc s)))) l = absurd (omega arith)

    first_rows : (s : ℕ) → s < part_size c.args.self.now.strip.count → IsFirstPixel (start_of c.args.self.now.strip (4 * c.args.part + s)).y c.args.y (slice_index_or (to_z w32 (of_z w32 c.first_pixel.result) ∷ to_z w32 (of_z w32 c.first_pixel-2.result) ∷ to_z w32 (of_z w32 c.first_pixel-3.result) ∷ to_z w32 (of_z w32 c.first_pixel-4.result) ∷ []) s (pos 0))
    first_rows zero l = first_row c.args.self.now c.args.part c.requires.part _ _ 0 (lit< tt) c.requires.y first_of l
    first_rows (suc zero) l = first_row c.args.self.now c.args.part c.requires.part _ _ 1 (lit< tt) c.requires.y c.first_pixel-2.ensures l
    first_rows (suc (suc zero)) l = first_row c.args.self.now c.args.part c.requires.part _ _ 2 (lit< tt) c.requires.y c.first_pixel-3.ensures l
    first_rows (suc (suc (suc zero))) l = first_row c.args.self.now c.args.part c.requires.part _ _ 3 (lit< tt) c.requires.y c.first_pixel-4.ensures l
    first_rows (suc (suc (suc (suc s)))) l = absurd (let m = part_small c.args.self.now.strip.count in omega arith)
