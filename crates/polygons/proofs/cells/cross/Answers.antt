use Rattle.std.proofs.Common.{◌≡◌, refl, ap, ◌∙◌, arith, ℕ, ℤ, pos, w64, to_z, of_z, FitsSigned}
use Rattle.std.specs.Int.{int_max}
use Rattle.polygons.specs.declared.rule.Rule.TheVariants.{EvenOdd, NonZero}
use Rattle.polygons.proofs.Exact.{exact64}
use Rattle.polygons.proofs.Totals.{flipped_added, added_right, added_cell}
use Rattle.polygons.proofs.cells.cross.Goals as goal

place : (column : ℤ) (n : ℕ) → FitsSigned w64 column → pos n ≡ int_max (to_z w64 (of_z w64 column)) (pos 0) → pos n ≡ int_max column (pos 0)
place column n fits e = e ∙ ap (λ z. int_max z (pos 0)) (exact64 column fits)

pub returns-then-column-flags : goal.returns-then-column-flags
returns-then-column-flags c =
    let p = c.flip.ensures in
    rw c.in-EvenOdd.is
    (flipped_added c.args.s c.args.row c.in_strip-column.result _ c.args.column c.args.down c.args.flags.now c.args.counters.now c.flip.new.flags c.requires.sample c.requires.row (place c.args.column c.in_strip-column.result c.ranges.column c.in_strip-column.ensures) (omega arith) p.len (p.here refl)
    (λ r j k h l n. p.others r j k h l (λ _. n)))

pub returns-then-column-counters : goal.returns-then-column-counters
returns-then-column-counters c =
    let p = c.count.ensures in
    rw c.in-NonZero.is
    (added_cell NonZero c.args.s c.args.row c.in_strip-column.result c.args.column c.args.down c.args.flags.now c.args.counters.now c.count.new.flags c.count.new.counters c.requires.sample c.requires.row (place c.args.column c.in_strip-column.result c.ranges.column c.in_strip-column.ensures) p.flags_len p.counters_len
    p.counted.here p.counted.others p.counted.marked)

pub returns-else-column-flags : goal.returns-else-column-flags
returns-else-column-flags c =
    rw c.in-EvenOdd.is (added_right EvenOdd c.args.s c.args.row c.args.column _ c.args.down c.args.flags.now c.args.counters.now (place c.args.column c.in_strip-column.result c.ranges.column c.in_strip-column.ensures) (let l = c.if-column-flags.false in omega arith))

pub returns-else-column-counters : goal.returns-else-column-counters
returns-else-column-counters c =
    rw c.in-NonZero.is (added_right NonZero c.args.s c.args.row c.args.column _ c.args.down c.args.flags.now c.args.counters.now (place c.args.column c.in_strip-column.result c.ranges.column c.in_strip-column.ensures) (let l = c.if-column-counters.false in omega arith))
