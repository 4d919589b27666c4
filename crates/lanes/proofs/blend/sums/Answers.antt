use Rattle.shade.specs.declared.operands.Channel.TheVariants.{Colour}
use Rattle.lanes.specs.Operands.{red_of, green_of, blue_of}
use Rattle.lanes.proofs.blend.sums.Goals as goal

pub nearest_small_sum-requires : goal.nearest_small_sum-requires
nearest_small_sum-requires c i l =
    let p = c.requires.source.0 in
    let r = c.requires.stored.0 in
    let bytes = c.requires.bytes in
    rw (p.1.each i l, r.1.each i l)
    (c.has_small_sum.ensures c.if-has_small_sum.true Colour (red_of c.args.o.now i) (bytes.source.red.small i l) (bytes.source_alpha.small i l) (bytes.stored.red.small i l)
    (rw (p.1.each i l) at (p.0.small i l)) (rw (r.1.each i l) at (r.0.small i l)))

pub nearest_small_sum-requires-then-has_small_sum : goal.nearest_small_sum-requires-then-has_small_sum
nearest_small_sum-requires-then-has_small_sum c i l =
    let p = c.requires.source.1 in
    let r = c.requires.stored.1 in
    let bytes = c.requires.bytes in
    rw (p.1.each i l, r.1.each i l)
    (c.has_small_sum.ensures c.if-has_small_sum.true Colour (green_of c.args.o.now i) (bytes.source.green.small i l) (bytes.source_alpha.small i l) (bytes.stored.green.small i l)
    (rw (p.1.each i l) at (p.0.small i l)) (rw (r.1.each i l) at (r.0.small i l)))

pub nearest_small_sum-requires-then-has_small_sum-2 : goal.nearest_small_sum-requires-then-has_small_sum-2
nearest_small_sum-requires-then-has_small_sum-2 c i l =
    let p = c.requires.source.2 in
    let r = c.requires.stored.2 in
    let bytes = c.requires.bytes in
    rw (p.1.each i l, r.1.each i l)
    (c.has_small_sum.ensures c.if-has_small_sum.true Colour (blue_of c.args.o.now i) (bytes.source.blue.small i l) (bytes.source_alpha.small i l) (bytes.stored.blue.small i l)
    (rw (p.1.each i l) at (p.0.small i l)) (rw (r.1.each i l) at (r.0.small i l)))
