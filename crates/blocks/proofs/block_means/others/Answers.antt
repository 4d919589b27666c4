use Rattle.std.proofs.Common.{}
use Rattle.blocks.proofs.BlockMeans.{left_of}
use Rattle.blocks.proofs.block_means.others.Goals as goal

pub returns-clause-whole : goal.returns-clause-whole
returns-clause-whole c = (left_of c.args.count c.count.result c.args.ones c.args.twos c.args.threes c.count.ensures c.requires.ones c.requires.twos c.requires.threes c.requires.few).0

pub returns-clause-each : goal.returns-clause-each
returns-clause-each c p l = (left_of c.args.count c.count.result c.args.ones c.args.twos c.args.threes c.count.ensures c.requires.ones c.requires.twos c.requires.threes c.requires.few).1 p l
