use Rattle.std.proofs.Common.{true, ◌≡◌, ◌∙◌, ap, ◌+◌, ◌*◌, ◌%◌, ◌<◌, ℕ, arith}
use Rattle.lanes.specs.Block.{stored_at}
use Rattle.blocks.specs.Layout.{in_list, is_plain}
use Rattle.canvas.specs.Layout.{way_in_row}
use Rattle.blocks.proofs.TilePlanes.{by_none}
use Rattle.readout.proofs.entries.entry_eight.Goals as goal

pub returns-in-Some : goal.returns-in-Some
returns-in-Some g c =
    λ i l.
    let block : ℕ = c.args.block in
    let j : ℕ = c.args.j in
    let first : 8 * block % 8 ≡ 0 = omega arith in
    let inside : 8 * block % 8 + i < 8 = omega (arith, l, c.requires.entries, first) in
    let pixel : 8 * (j % 8) + i ≡ 8 * (j % 8) + (8 * block % 8 + i) = omega (arith, first) in
    c.write_run.ensures i l ∙ ap g.E.Entry.number_of (ap (stored_at c.in-Some.plane) pixel ∙ c.in-Some.ensures.row i inside)

pub returns-in-None : goal.returns-in-None
returns-in-None g c =
    λ i l.
    let block : ℕ = c.args.block in
    let j : ℕ = c.args.j in
    let xs = c.args.samples.now in
    let first : 8 * block % 8 ≡ 0 = omega arith in
    let inside : 8 * block % 8 + i < 8 = omega (arith, l, c.requires.entries, first) in
    let pixel : 8 * (j % 8) + i ≡ 8 * (j % 8) + (8 * block % 8 + i) = omega (arith, first) in
    let other : is_plain (way_in_row c.args.canvas.now xs (8 * block) j) ≡ true = by_none (is_plain (way_in_row c.args.canvas.now xs (8 * block) j)) c.in-None.ensures.some.1 in
    c.write_run-in-None.ensures i l ∙ ap g.E.Entry.number_of (ap (stored_at (in_list xs c.place-place.result)) pixel ∙ c.place-place.ensures.row other i inside)
