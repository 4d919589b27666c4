use Rattle.std.proofs.Common.{true, ◌≡◌, ◌∙◌, ap, subst, ◌+◌, ◌*◌, ◌%◌, ◌<◌, ℕ, slice_index, arith}
use Rattle.std.specs.Prelude.{slice_index_or}
use Rattle.lanes.specs.Block.{stored_at}
use Rattle.blocks.specs.Layout.{is_plain}
use Rattle.canvas.specs.Layout.{way_in_row}
use Rattle.readout.specs.Pixels.{pixel_bytes}
use Rattle.readout.specs.Colours.{IsSampleColour}
use Rattle.blocks.proofs.Places.{none}
use Rattle.blocks.proofs.TilePlanes.{by_none}
use Rattle.readout.proofs.colours.colour_eight.Goals as goal

pub returns-in-Some : goal.returns-in-Some
returns-in-Some c i l =
    let block : ℕ = c.args.block in
    let j : ℕ = c.args.j in
    let first : 8 * block % 8 ≡ 0 = omega arith in
    let inside : 8 * block % 8 + i < 8 = omega (arith, l, c.requires.count, first) in
    let pixel : 8 * (j % 8) + i ≡ 8 * (j % 8) + (8 * block % 8 + i) = omega (arith, first) in
    subst (λ sample. IsSampleColour c.args.format sample (λ k. slice_index c.resolve_plane.new.bytes (i * pixel_bytes c.args.format + k)))
    (ap (stored_at c.in-Some.plane) pixel ∙ c.in-Some.ensures.row i inside)
    (c.resolve_plane.ensures i l)

pub returns-in-None : goal.returns-in-None
returns-in-None c i l =
    let block : ℕ = c.args.block in
    let j : ℕ = c.args.j in
    let xs = c.args.samples.now in
    let place : ℕ = c.place-place.result in
    let first : 8 * block % 8 ≡ 0 = omega arith in
    let inside : 8 * block % 8 + i < 8 = omega (arith, l, c.requires.count, first) in
    let pixel : 8 * (j % 8) + i ≡ 8 * (j % 8) + (8 * block % 8 + i) = omega (arith, first) in
    let other : is_plain (way_in_row c.args.canvas.now xs (8 * block) j) ≡ true = by_none (is_plain (way_in_row c.args.canvas.now xs (8 * block) j)) c.in-None.ensures.some.1 in
    subst (λ sample. IsSampleColour c.args.format sample (λ k. slice_index c.resolve_plane-in-None.new.bytes (i * pixel_bytes c.args.format + k)))
    (ap (λ k. stored_at (slice_index_or xs place none) k) pixel ∙ c.place-place.ensures.row other i inside)
    (c.resolve_plane-in-None.ensures i l)
