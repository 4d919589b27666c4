use Rattle.std.proofs.Common.{length, refl, arith}
use Rattle.canvas.proofs.Shown.{keep_past, keep_one}
use Rattle.canvas.proofs.hidden.keeping_depths.Goals as goal

pub returns-then-chunk-k-clause-keeping : goal.returns-then-chunk-k-clause-keeping
returns-then-chunk-k-clause-keeping c =
    keep_past c.args.chunk.now c.args.tile.now c.args.mask c.loop-k.next (length c.args.chunk.now) c.requires.mask
    (λ k low less. c.in-Some.ensures.some.1 k low (omega (arith, less, c.if-chunk-k.true))) c.loop-k.invariant.1

pub returns-then-writes_beside_colours-clause-keeping : goal.returns-then-writes_beside_colours-clause-keeping
returns-then-writes_beside_colours-clause-keeping c =
    keep_past c.args.chunk.now c.args.tile.now c.args.mask c.loop-k.next c.in-Some.k c.requires.mask c.in-Some.ensures.some.1 c.loop-k.invariant.1

pub loop-k-preserved : goal.loop-k-preserved
loop-k-preserved c =
    let before = keep_past c.args.chunk.now c.args.tile.now c.args.mask c.loop-k.next c.in-Some.k c.requires.mask c.in-Some.ensures.some.1 c.loop-k.invariant.1 in
    (omega (arith, c.if-chunk-k.false, c.requires.few), keep_one c.args.chunk.now c.args.tile.now c.in-Some.k c.index-chunk-k.result (c.writes_beside_colours.ensures c.if-writes_beside_colours.false) before)

pub returns-clause-keeping : goal.returns-clause-keeping
returns-clause-keeping c =
    keep_past c.args.chunk.now c.args.tile.now c.args.mask c.loop-k.next (length c.args.chunk.now) c.requires.mask
    (λ k low less. c.in_default.ensures.none refl k low (omega (arith, less, c.requires.few))) c.loop-k.invariant.1
