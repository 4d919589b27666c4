use Rattle.std.proofs.Common.{Bool, ◌≡◌, ◌∙◌, inl, inr, refl, sym, subst, ap, ◌+◌, ◌-◌, ◌*◌, ◌/◌, ◌<◌, ◌≤◌, ℕ, List, length, take, drop, slice_index, rules, arith}
use Rattle.std.proofs.lemmas.Bool.{cases_lt}
use Rattle.shade.specs.declared.sample.CanvasSample.{CanvasSample}
use Rattle.readout.specs.declared.format.Format.{Format}
use Rattle.blocks.specs.Layout.{planes_of_tile, stored_in_tile}
use Rattle.canvas.specs.Layout.{columns_of}
use Rattle.readout.specs.Pixels.{pixel_bytes}
use Rattle.readout.specs.Loaded.{coloured, IsIndexIn, AreChanged}
use Rattle.blocks.proofs.Cut.{put, part_of}
use Rattle.blocks.proofs.Places.{part_within}
use Rattle.readout.proofs.Changes.{no_change, joined_changes, coloured_same, changes_where, one_tile_changed}
use Rattle.readout.proofs.loaded.store_row.Goals as goal

-- the pixels of row j before column n
abbrev Before : ℕ → ℕ → ℕ → ℕ → ℕ → ℕ → ℕ → Type 0
Before first end j n column row s = (column < n) × (row ≡ j) × IsIndexIn first end s

-- the pixel in column n
abbrev At : ℕ → ℕ → ℕ → ℕ → ℕ → ℕ → ℕ → Type 0
At first end j n column row s = (column ≡ n) × (row ≡ j) × IsIndexIn first end s

-- a sample in the colour of the pixel of this column
abbrev in_colour : Format → Bool → List ℕ → ℕ → ℕ → ℕ → CanvasSample → CanvasSample
in_colour format too bytes column row s sample = coloured format too (λ k. slice_index bytes (column * pixel_bytes format + k)) sample

pub loop-i-init : goal.loop-i-init
loop-i-init c =
    let j : ℕ = c.args.j in
    no_change c.args.canvas.now (j / 64) (j / 64 + 1) (Before c.args.indices.first c.args.indices.end j 0) (in_colour c.args.format c.args.indices.alpha c.args.bytes.now) c.args.samples.now (λ i j s v. omega (arith, v.0))

pub slice_bounds-store_samples-end : goal.slice_bounds-store_samples-end
slice_bounds-store_samples-end c =
    let self = c.args.canvas.now in
    let each : ℕ = c.planes_of_tile-each.result in
    let column : ℕ = c.loop-i.i / 64 in
    let wide : column < columns_of self = omega (arith, c.loop-i-test.true, c.loop-i.auto.i-end) in
    let room = part_within column (columns_of self) (planes_of_tile self.count) wide in
    let fits : column * each + each ≤ length c.loop-i.samples = rw c.planes_of_tile-each.ensures.value (omega (arith, room, c.requires.samples, c.loop-i.auto.samples)) in
    search rules

pub loop-i-preserved : goal.loop-i-preserved
loop-i-preserved c =
    let self = c.args.canvas.now in
    let j : ℕ = c.args.j in
    let i : ℕ = c.loop-i.i in
    let format = c.args.format in
    let bytes : List ℕ = c.args.bytes.now in
    let unit : ℕ = c.pixel_bytes-unit.result in
    let w : ℕ = pixel_bytes format in
    let is_unit : unit ≡ w = c.pixel_bytes-unit.ensures in
    let at : ℕ = i * unit in
    let n : ℕ = at + unit - at in
    let size : n ≡ w = (let plain : n ≡ unit = omega arith in plain ∙ is_unit) in
    let each : ℕ = c.planes_of_tile-each.result in
    let from : ℕ = i / 64 * each in
    let part : ℕ = from + each - from in
    let wide : i / 64 < columns_of self = omega (arith, c.loop-i-test.true, c.loop-i.auto.i-end) in
    let many : part ≡ planes_of_tile self.count = omega (arith, c.planes_of_tile-each.ensures.value) in
    let start : from ≡ i / 64 * planes_of_tile self.count = rw c.planes_of_tile-each.ensures.value (omega arith) in
    let room = part_within (i / 64) (columns_of self) (planes_of_tile self.count) wide in
    let first : ℕ = c.args.indices.first in
    let end : ℕ = c.args.indices.end in
    let pixel : ℕ → ℕ → ℕ → CanvasSample → CanvasSample = λ column row s sample. coloured format c.args.indices.alpha (λ k. slice_index (take n (drop at bytes)) k) sample in
    let one : AreChanged self (j / 64) (j / 64 + 1) (At first end j i) pixel c.loop-i.samples (put c.loop-i.samples c.store_samples.new.samples from part) =
    one_tile_changed self c.loop-i.samples c.store_samples.new.samples part from (omega (arith, room, many, start, c.requires.samples, c.loop-i.auto.samples)) (omega (arith, c.store_samples.auto.samples, room, many, start, c.requires.samples, c.loop-i.auto.samples))
    (i / 64) (j / 64) (At first end j i) pixel many start
    (λ column row s v. (ap (λ m. m / 64) v.0, ap (λ m. m / 64) v.1))
    (λ column row s h e d v.
    subst (λ column. stored_in_tile self.count c.store_samples.new.samples column row s ≡ pixel column row s (stored_in_tile self.count (take part (drop from c.loop-i.samples)) column row s)) (sym v.0)
    (subst (λ row. stored_in_tile self.count c.store_samples.new.samples i row s ≡ pixel i row s (stored_in_tile self.count (take part (drop from c.loop-i.samples)) i row s)) (sym v.1) (c.store_samples.ensures.pixel s v.2)))
    (λ column row s h e d other. c.store_samples.ensures.others column row s h (λ a b index. other (omega (arith, a, e), omega (arith, b, d), index))) in
    joined_changes self (j / 64) (j / 64 + 1) (Before first end j i) (At first end j i) (Before first end j (i + 1))
    (in_colour format c.args.indices.alpha bytes) pixel (in_colour format c.args.indices.alpha bytes)
    c.args.samples.now c.loop-i.samples (put c.loop-i.samples c.store_samples.new.samples from part) c.loop-i.invariant one
    (λ column row s v w. omega (arith, v.0, w.0))
    (λ column row s r. elim (cases_lt column i) [ inl less ↦ inl (less, r.1, r.2) | inr more ↦ inr ((let same : column ≡ i = omega (arith, more, r.0) in same), r.1, r.2) ])
    (λ column row s v. ((let below : column < i + 1 = omega (arith, v.0) in below), v.1, v.2)) (λ column row s v. ((let below : column < i + 1 = omega (arith, v.0) in below), v.1, v.2))
    (λ column row s x v. refl)
    (λ column row s x v.
    coloured_same format c.args.indices.alpha _ _ x
    (λ k small.
    let place : at + k ≡ column * w + k = ap (λ m. m + k) (ap (λ u. i * u) is_unit ∙ ap (λ m. m * w) (let same : i ≡ column = omega (arith, v.0) in same)) in
    part_of bytes at n 0 k (omega (arith, small, size)) ∙ ap (λ m. slice_index bytes m) place))

pub returns : goal.returns
returns c =
    let self = c.args.canvas.now in
    let j : ℕ = c.args.j in
    let first : ℕ = c.args.indices.first in
    let end : ℕ = c.args.indices.end in
    changes_where self (j / 64) (j / 64 + 1) (Before first end j c.loop-i.i) (Before first end j self.width) (in_colour c.args.format c.args.indices.alpha c.args.bytes.now) c.args.samples.now c.loop-i.samples
    (λ column row s h w. ((let below : column < c.loop-i.i = omega (arith, w.0, c.loop-i-test.false) in below), w.1, w.2)) (λ column row s h v. ((let below : column < self.width = omega (arith, v.0, c.loop-i.auto.i-end) in below), v.1, v.2)) c.loop-i.invariant
