use Rattle.std.proofs.Common.{◌-◌, arith}
use Rattle.canvas.proofs.Shown.{can_begin}
use Rattle.canvas.proofs.hidden.first_shown.Goals as goal

pub returns-then-hides-clause-first : goal.returns-then-hides-clause-first
returns-then-hides-clause-first c =
    can_begin c.args.chunk.now c.args.tile.now (c.loop-rest.rest - 1) c.keeping_depths-keeping.result c.index-chunk-rest.result c.index-chunk-rest.is (c.hides.ensures c.if-hides.true)
    (omega (arith, c.loop-rest-test.true, c.loop-rest.invariant.1)) c.keeping_depths-keeping.ensures.keeping
