use Rattle.std.proofs.Common.{◌≡◌, ◌∙◌, ◌+◌, ◌-◌, ◌*◌, ◌/◌, ◌<◌, ◌≤◌, ℕ, min, sym, subst, map, length, slice_index, arith}
use Rattle.std.proofs.lemmas.List.{length-map}
use Rattle.canvas.specs.Layout.{stored}
use Rattle.blocks.proofs.Cut.{map-put}
use Rattle.readout.proofs.Units.{AreUnits, no_units, more_units, all_units, as_units}
use Rattle.readout.proofs.entries.entry_row.Goals as goal

pub loop-block-init : goal.loop-block-init
loop-block-init g c =
    let none : min (8 * 0) c.args.canvas.now.width ≡ 0 = omega arith in
    rw none (no_units 1 (λ i entries. entries 0 ≡ g.E.Entry.number_of (stored c.args.canvas.now (c.args.j / 64) c.args.samples.now i c.args.j c.args.s)) (map g.E.Entry.number c.args.entries.now))

pub loop-block-preserved : goal.loop-block-preserved
loop-block-preserved g c =
    let self = c.args.canvas.now in
    let j : ℕ = c.args.j in
    let s : ℕ = c.args.s in
    let xs = c.args.samples.now in
    let number = g.E.Entry.number in
    let number_of = g.E.Entry.number_of in
    let block : ℕ = c.loop-block.block in
    let many : ℕ = c.min-many.result in
    let run = c.entry_eight.new.entries in
    let at : ℕ = 8 * block in
    let n : ℕ = at + many - at in
    let size : n ≡ many = omega arith in
    let is : many ≡ min (self.width - 8 * block) 8 = c.min-many.ensures in
    let some : 8 * block < self.width = omega (arith, c.loop-block-test.true) in
    let long : length c.loop-block.entries ≡ self.width = omega (arith, c.loop-block.auto.entries, c.requires.entries) in
    let room : at + n ≤ length c.loop-block.entries = omega (arith, long, size, is, some) in
    let is_long : length run ≡ n = omega (arith, c.entry_eight.auto.entries, room) in
    let here : (i : ℕ) → i < many → slice_index (map number run) (i * 1 + 0) ≡ number_of (stored self (j / 64) xs (8 * block + i) j s) =
    λ i l. as_units (map number run) i ∙ c.entry_eight.ensures i (omega (arith, l, room)) in
    let before : min (8 * block) self.width ≡ 8 * block = omega (arith, some) in
    let P : ℕ → (ℕ → ℕ) → Type 0 = λ i entries. entries 0 ≡ number_of (stored self (j / 64) xs i j s) in
    subst (λ written. AreUnits 1 P (min (8 * (block + 1)) self.width) written) (sym (map-put number c.loop-block.entries run at n))
    (more_units 1 P (λ i f h same p. same 0 (omega arith) ∙ p) (8 * block) many at n (map number c.loop-block.entries) (map number run) (omega arith) (omega (arith, size))
    (omega (arith, room, length-map c.loop-block.entries number)) (omega (arith, is_long, length-map run number))
    (subst (λ m. AreUnits 1 P m (map number c.loop-block.entries)) before c.loop-block.invariant) here (min (8 * (block + 1)) self.width) (omega (arith, is, some)))

pub returns : goal.returns
returns g c =
    λ i l.
    sym (as_units (map g.E.Entry.number c.loop-block.entries) i)
    ∙ all_units 1 (λ i entries. entries 0 ≡ g.E.Entry.number_of (stored c.args.canvas.now (c.args.j / 64) c.args.samples.now i c.args.j c.args.s)) (min (8 * c.loop-block.block) c.args.canvas.now.width) c.args.canvas.now.width _ (omega (arith, c.loop-block-test.false)) c.loop-block.invariant i l
