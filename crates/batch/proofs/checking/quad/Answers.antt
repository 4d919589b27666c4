use Rattle.std.proofs.Common.{sym}
use Rattle.batch.proofs.Chunks.{quad_at}
use Rattle.batch.proofs.checking.quad.Goals as goal

pub returns : goal.returns
returns g c = rw (c.at-a.ensures, c.at-b.ensures, c.at-c.ensures, c.at-d.ensures) (sym (quad_at (g.I.Indices.listed c.args.indices.now) c.args.number c.requires.number))
