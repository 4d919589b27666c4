use Rattle.std.proofs.Common.{◌≡◌, refl, length, slice_get, Some, arith}
use Rattle.std.proofs.lemmas.Bool.{eqb-true, eq-eqb}
use Rattle.std.proofs.lemmas.Option.{slice_get_read}
use Rattle.history.proofs.followed.follow.Goals as goal

pub loop-k-init : goal.loop-k-init
loop-k-init c = c.new-followed.ensures c.args.number c.args.place.count c.args.place.px c.args.place.py c.args.place.s

pub loop-k-preserved : goal.loop-k-preserved
loop-k-preserved c =
    let ts = c.args.triangles.now in
    let found : slice_get ts c.loop-k.k ≡ Some c.index-triangles-k.result = slice_get_read ts (length ts) c.loop-k.k c.index-triangles-k.result refl (omega arith) c.index-triangles-k.is in
    c.after-followed.ensures ts c.loop-k.k c.args.number c.args.start found (eqb-true c.loop-k.k c.args.number, eq-eqb c.loop-k.k c.args.number) c.loop-k.invariant
