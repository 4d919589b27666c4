use Rattle.std.proofs.Common.{◌+◌, ◌∙◌, arith}
use Rattle.lanes.proofs.Lanewise.{plus}
use Rattle.lanes.proofs.Rows.{zipped, loaded, itself, byte, small_sum}
use Rattle.lanes.proofs.resolve.with_row.Goals as goal

pub returns-clause-whole : goal.returns-clause-whole
returns-clause-whole c = (zipped plus c.args.sums c.widen_row.result _ _ (itself c.args.sums c.requires.whole) (loaded c.args.channel.now _ c.args.at c.requires.room c.widen_row.ensures)).long

pub returns-clause-each : goal.returns-clause-each
returns-clause-each c i l =
    (zipped plus c.args.sums c.widen_row.result _ _ (itself c.args.sums c.requires.whole) (loaded c.args.channel.now _ c.args.at c.requires.room c.widen_row.ensures)).each i l
    ∙ small_sum _ _ (c.requires.small i l) (byte c.args.channel.now c.type_inv.channel (c.args.at + i))

pub returns-clause-most : goal.returns-clause-most
returns-clause-most c i l =
    let sum = (zipped plus c.args.sums c.widen_row.result _ _ (itself c.args.sums c.requires.whole) (loaded c.args.channel.now _ c.args.at c.requires.room c.widen_row.ensures)).each i l
    ∙ small_sum _ _ (c.requires.small i l) (byte c.args.channel.now c.type_inv.channel (c.args.at + i)) in
    omega (arith, sum, byte c.args.channel.now c.type_inv.channel (c.args.at + i))
