use Rattle.std.proofs.Common.{◌∙◌, ap, ◌+◌, ◌*◌, slice_index, arith}
use Rattle.blocks.proofs.BlockMeans.{more_of_byte}
use Rattle.blocks.proofs.block_means.added.Goals as goal

pub returns-clause-whole : goal.returns-clause-whole
returns-clause-whole c = (more_of_byte c.args.sums c.args.many c.from.result c.requires.sums c.requires.many c.requires.room c.requires.few (omega (arith, c.from.ensures, c.ranges.byte.fits))).long

pub returns-clause-each : goal.returns-clause-each
returns-clause-each c p l =
    (more_of_byte c.args.sums c.args.many c.from.result c.requires.sums c.requires.many c.requires.room c.requires.few (omega (arith, c.from.ensures, c.ranges.byte.fits))).each p l
    ∙ ap (λ b. slice_index c.args.sums p + slice_index c.args.many p * b) c.from.ensures

pub returns-clause-most : goal.returns-clause-most
returns-clause-most c p l = (more_of_byte c.args.sums c.args.many c.from.result c.requires.sums c.requires.many c.requires.room c.requires.few (omega (arith, c.from.ensures, c.ranges.byte.fits))).most p l
