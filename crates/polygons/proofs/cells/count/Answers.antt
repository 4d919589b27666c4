use Rattle.std.proofs.Common.{refl, length}
use Rattle.polygons.proofs.Windings.{counted_first, counted_again, flag_place}
use Rattle.polygons.proofs.cells.count.Goals as goal

pub returns-then-is_clear-clause-counted : goal.returns-then-is_clear-clause-counted
returns-then-is_clear-clause-counted c =
    let place = flag_place c.args.down c.args.column (length c.args.counters.now) c.flag_column-block.result (c.flag_column-block.ensures.nonzero refl) in
    let p = c.flip.ensures in
    counted_first c.args.down c.args.flags.now c.args.counters.now c.args.s c.args.row c.args.column _ c.requires.sample c.requires.row c.requires.column place
    c.flip.new.flags (c.is_clear.ensures.clear c.if-is_clear.true refl) (p.here refl) (λ r j k x y n. p.others r j k x y (λ _. n))

pub returns-else-is_clear-clause-counted : goal.returns-else-is_clear-clause-counted
returns-else-is_clear-clause-counted c =
    let place = flag_place c.args.down c.args.column (length c.args.counters.now) c.flag_column-block.result (c.flag_column-block.ensures.nonzero refl) in
    let again = c.count_again.ensures in
    counted_again c.args.down c.args.flags.now c.args.counters.now c.args.s c.args.row c.args.column _ c.requires.sample c.requires.row c.requires.column place
    c.count_again.new.flags c.count_again.new.counters (c.is_clear.ensures.set c.if-is_clear.false) again.counters_len again.used again.other_flags again.here again.others
