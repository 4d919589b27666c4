use Rattle.std.proofs.Common.{arith}
use Rattle.blocks.specs.Palettes.{palette_number}
use Rattle.blocks.proofs.Palettes.{none_stored, one_stored, below_four, no_fourth}
use Rattle.blocks.proofs.palette.Palette.store_samples.Goals as goal

pub returns-then-has_bits-clause-stored : goal.returns-then-has_bits-clause-stored
returns-then-has_bits-clause-stored c s p h l =
    let count = c.args.count in
    let k = c.args.k in
    let palette = c.args.self.now in
    let xs = palette.samples in
    let old = c.args.samples.now in
    let three = one_stored count k 2 xs old c.store_sample-2.new.samples c.store_sample-3.new.samples (omega arith) (one_stored count k 1 xs old c.store_sample.new.samples c.store_sample-2.new.samples (omega arith) (one_stored count k 0 xs old old c.store_sample.new.samples (omega arith) (none_stored count k xs old) c.store_sample.ensures) c.store_sample-2.ensures) c.store_sample-3.ensures in
    let four = one_stored count k 3 xs old c.store_sample-3.new.samples c.store_sample-then-has_bits.new.samples (omega arith) three c.store_sample-then-has_bits.ensures in
    four.stored (palette_number palette s p) (below_four palette s p)

pub returns-else-has_bits-clause-stored : goal.returns-else-has_bits-clause-stored
returns-else-has_bits-clause-stored c s p h l =
    let count = c.args.count in
    let k = c.args.k in
    let palette = c.args.self.now in
    let xs = palette.samples in
    let old = c.args.samples.now in
    let three = one_stored count k 2 xs old c.store_sample-2.new.samples c.store_sample-3.new.samples (omega arith) (one_stored count k 1 xs old c.store_sample.new.samples c.store_sample-2.new.samples (omega arith) (one_stored count k 0 xs old old c.store_sample.new.samples (omega arith) (none_stored count k xs old) c.store_sample.ensures) c.store_sample-2.ensures) c.store_sample-3.ensures in
    three.stored (palette_number palette s p) (no_fourth count palette c.shared.result c.shared.ensures (c.has_bits.ensures.0 c.if-has_bits.false) s p h l)
