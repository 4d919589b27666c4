use Rattle.std.proofs.Common.{rules}
use Rattle.blocks.proofs.Palettes.{rest_of}
use Rattle.blocks.proofs.palette.pixels_with.Goals as goal

pub returns-else-bit-eq1 : goal.returns-else-bit-eq1
returns-else-bit-eq1 c p l = rest_of c.args.mask c.args.bit p (search rules) l c.requires c.if-bit-eq1.false
