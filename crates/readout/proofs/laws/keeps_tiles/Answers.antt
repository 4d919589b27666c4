use Rattle.std.proofs.Common.{◌≡◌, ◌∙◌, refl, inl, inr, sym, ap, ◌/◌, ◌<◌, ◌^◌, ℕ, arith}
use Rattle.shade.specs.declared.sample.CanvasSample.{CanvasSample}
use Rattle.canvas.specs.Layout.{stored}
use Rattle.blocks.specs.Layout.{id_of}
use Rattle.canvas.specs.Tiles.{HasBytes}
use Rattle.readout.specs.Tiles.{said_of, with_colour}
use Rattle.blocks.proofs.TilePlanes.{cases_eq}
use Rattle.readout.proofs.TileEntries.{in_channels}
use Rattle.readout.proofs.laws.keeps_tiles.Goals as goal

-- a sample in the colour of its id
in_own_colour : (x : CanvasSample) → HasBytes x → with_colour (id_of x) x ≡ x
in_own_colour x h =
    let red = h.red in
    let green = h.green in
    let blue = h.blue in
    sym (in_channels x.r x.g x.b (id_of x) x x (omega (arith, red, green, blue)) (omega (arith, red, green, blue)) (omega (arith, red, green, blue)) refl)

-- the id of a sample in the colour of a number
of_colour : (n : ℕ) (x : CanvasSample) → n < 2 ^ 24 → id_of (with_colour n x) ≡ n
of_colour n x h = omega (arith, h)

pub returns-clause-ids : goal.returns-clause-ids
returns-clause-ids c canvas first end column row entries old new are set i j s h bytes =
    let same : (i / 64 ≡ column) → (j / 64 ≡ row) → stored canvas first new i j s ≡ stored canvas first old i j s =
    λ e d.
    set.changed i j s h (record { across = e; down = d })
    ∙ ap (λ n. with_colour n (stored canvas first old i j s)) (are i j s h (record { across = e; down = d }))
    ∙ in_own_colour (stored canvas first old i j s) bytes in
    elim (cases_eq (i / 64) column) [
      | inr other ↦ set.kept i j s h (λ t. other t.across)
      | inl e ↦ elim (cases_eq (j / 64) row) [
        | inr other ↦ set.kept i j s h (λ t. other t.down)
        | inl d ↦ same e d
      ]
    ]

pub returns-clause-colours : goal.returns-clause-colours
returns-clause-colours c canvas first end column row entries back old new set are i j s h t few =
    are i j s h t ∙ ap id_of (set.changed i j s h t) ∙ of_colour (said_of canvas.count entries i j s) (stored canvas first old i j s) few
