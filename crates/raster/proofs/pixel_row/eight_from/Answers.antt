use Rattle.std.proofs.lemmas.Simd.{get_or-chunk}
use Rattle.raster.proofs.pixel_row.eight_from.Goals as goal

pub returns-clause-each : goal.returns-clause-each
returns-clause-each c i l = get_or-chunk c.args.from 8 c.args.bytes.now i 0 l
