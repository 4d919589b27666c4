-- Each draw list has a picture.
use Rattle.std.proofs.Common.{◌≡◌, refl, ℕ, zero, suc, ◌+◌, ◌*◌, ◌/◌, ◌%◌, ◌<◌, List, [], ◌++◌, add-one, arith}
use Rattle.std.proofs.Math.Nat.{mod-lt, div-add-mod'}
use Rattle.grid.specs.Samples.{count_of}
use Rattle.grid.specs.declared.sample_count.SampleCount.{SampleCount}
use Rattle.shade.specs.declared.sample.Sample.{Sample}
use Rattle.shade.specs.Mean.{mean_of}
use Rattle.shade.specs.Resolve.{IsResolved}
use Rattle.draw_list.specs.declared.output.Output.{Output}
use Rattle.draw_list.specs.declared.output.Output.TheVariants.{Color, Depth}
use Rattle.draw_list.specs.PixelPrefix.{IsPixelPrefix}
use Rattle.draw_list.specs.Scene.{Scene}
use Rattle.draw_list.specs.Picture.{IsEnd, IsColour, IsPixel, PixelOf, IsPicturePart}
use Rattle.draw_list.proofs.PixelPrefix.{empty_prefix, run_of_one, prefix_run, part_of_rows}
use Rattle.shade.proofs.Endings.{of_list, ends}
use Rattle.shade.proofs.Resolved.{by_mean_of}

resolved : (count : SampleCount) (channel : ℕ → ℕ) → (q : ℕ) × IsResolved count channel q
resolved count channel = (_, by_mean_of count channel (mean_of (count_of count) channel) refl)

end_of : (l : Scene) (i j s : ℕ) → (end : Sample) × IsEnd l i j s end
end_of l i j s = ends (of_list l.count i j s) l.triangles l.clear

colour-exists : (l : Scene) (i j : ℕ) → (r : ℕ) × ((g : ℕ) × ((b : ℕ) × IsColour l i j r g b))
colour-exists l i j =
    let end : ℕ → Sample = λ s. (end_of l i j s).0 in
    let r = resolved l.count (λ s. (end s).r) in
    let g = resolved l.count (λ s. (end s).g) in
    let b = resolved l.count (λ s. (end s).b) in
    (r.0, (g.0, (b.0, record { end = end; ends = λ s below. (end_of l i j s).1; red = r.1; green = g.1; blue = b.1 })))

pixel_of : (o : Output) (l : Scene) (i j : ℕ) → (bytes : List ℕ) × PixelOf o l i j bytes
pixel_of Color l i j =
    let colour = colour-exists l i j in
    (_, record { red = colour.0; green = colour.1.0; blue = colour.1.1.0; colour = colour.1.1.1; order = refl })
pixel_of Depth l i j =
    let end = end_of l i j 0 in
    let z : ℕ = end.0.z in
    (_, record { end = end.0; is_end = end.1; high = z / 256; low = z % 256; value = omega arith; is_byte = omega arith; order = refl })

pub pixel-exists : (l : Scene) (i j : ℕ) → (bytes : List ℕ) × IsPixel l i j bytes
pixel-exists l i j = pixel_of l.output l i j

prefix-exists : (l : Scene) (x y width n : ℕ) → 0 < width → (bytes : List ℕ) × IsPixelPrefix l x y width n bytes
prefix-exists l x y width zero wide = ([], empty_prefix l x y width 0 refl)
prefix-exists l x y width (suc n) wide =
    let before = prefix-exists l x y width n wide in
    let column : n % width < width = mod-lt n wide in
    let pixel = pixel-exists l (x + n % width) (y + n / width) in
    let place : n ≡ n / width * width + n % width = omega (arith, div-add-mod' n width) in
    let run = run_of_one l (x + n % width) (y + n / width) pixel.0 pixel.1 in
    let all = prefix_run l x y width n (n % width) (n / width) 1 before.0 pixel.0 before.1 (omega arith) place run in
    (before.0 ++ pixel.0, rw add-one at all)

-- a rectangle of it
pub part-exists : (l : Scene) (x y width height : ℕ) → 0 < width → (bytes : List ℕ) × IsPicturePart l x y width height bytes
part-exists l x y width height wide =
    let rows = prefix-exists l x y width (height * width) wide in
    (rows.0, part_of_rows l x y width height rows.0 rows.1)
