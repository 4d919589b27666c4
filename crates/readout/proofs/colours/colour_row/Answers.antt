use Rattle.std.proofs.Common.{◌≡◌, ◌∙◌, ap, ◌+◌, ◌-◌, ◌*◌, ◌/◌, ◌<◌, ◌≤◌, ℕ, min, subst, length, arith}
use Rattle.std.proofs.Math.Nat.{add-mul, mul-le-mul_right}
use Rattle.canvas.specs.Layout.{stored}
use Rattle.readout.specs.Pixels.{pixel_bytes}
use Rattle.readout.specs.Colours.{IsSampleColour}
use Rattle.readout.proofs.PixelColours.{sample_colour_same}
use Rattle.readout.proofs.Units.{AreUnits, no_units, more_units, all_units}
use Rattle.readout.proofs.colours.colour_row.Goals as goal

pub loop-block-init : goal.loop-block-init
loop-block-init c =
    let none : min (8 * 0) c.args.canvas.now.width ≡ 0 = omega arith in
    rw none (no_units (pixel_bytes c.args.format) (λ i bytes. IsSampleColour c.args.format (stored c.args.canvas.now (c.args.j / 64) c.args.samples.now i c.args.j c.args.s) bytes) c.args.bytes.now)

pub loop-block-preserved : goal.loop-block-preserved
loop-block-preserved c =
    let self = c.args.canvas.now in
    let j : ℕ = c.args.j in
    let s : ℕ = c.args.s in
    let xs = c.args.samples.now in
    let format = c.args.format in
    let block : ℕ = c.loop-block.block in
    let many : ℕ = c.min-count.result in
    let run = c.colour_eight.new.bytes in
    let unit : ℕ = c.pixel_bytes-unit.result in
    let w : ℕ = pixel_bytes format in
    let is_unit : unit ≡ w = c.pixel_bytes-unit.ensures in
    let at : ℕ = 8 * block * unit in
    let whole : at + many * unit - at ≡ many * unit = omega arith in
    let is : many ≡ min (self.width - 8 * block) 8 = c.min-count.ensures in
    let some : 8 * block < self.width = omega (arith, c.loop-block-test.true) in
    let long : length c.loop-block.bytes ≡ self.width * w = omega (arith, c.loop-block.auto.bytes, c.requires.bytes) in
    let begin : at ≡ 8 * block * w = ap (λ u. 8 * block * u) is_unit in
    let length_is : at + many * unit - at ≡ many * w = whole ∙ ap (λ u. many * u) is_unit in
    let few : (8 * block + many) * w ≤ self.width * w = mul-le-mul_right w (let within : 8 * block + many ≤ self.width = omega (arith, is, some) in within) in
    let room : at + (at + many * unit - at) ≤ length c.loop-block.bytes = omega (arith, few, long, begin, length_is, add-mul (8 * block) many w) in
    let before : min (8 * block) self.width ≡ 8 * block = omega (arith, some) in
    let P : ℕ → (ℕ → ℕ) → Type 0 = λ i bytes. IsSampleColour format (stored self (j / 64) xs i j s) bytes in
    more_units w P (λ i f h. sample_colour_same format (stored self (j / 64) xs i j s) f h) (8 * block) many at (at + many * unit - at) c.loop-block.bytes run begin length_is room
    (omega (arith, c.colour_eight.auto.bytes, room)) (subst (λ m. AreUnits w P m c.loop-block.bytes) before c.loop-block.invariant) c.colour_eight.ensures (min (8 * (block + 1)) self.width) (omega (arith, is, some))

pub returns : goal.returns
returns c =
    all_units (pixel_bytes c.args.format) (λ i bytes. IsSampleColour c.args.format (stored c.args.canvas.now (c.args.j / 64) c.args.samples.now i c.args.j c.args.s) bytes) (min (8 * c.loop-block.block) c.args.canvas.now.width) c.args.canvas.now.width _ (omega (arith, c.loop-block-test.false)) c.loop-block.invariant
