use Rattle.std.proofs.Common.{sym, arith}
use Rattle.batch.proofs.Chunks.{triangle_at, are_inside, fewer_triangles, named_three}
use Rattle.batch.proofs.primitives.triangle.Goals as goal

pub places-place-requires-clause-number : goal.places-place-requires-clause-number
places-place-requires-clause-number g c =
    let listed = g.I.Indices.listed c.args.indices.now in
    omega (arith, fewer_triangles c.args.topology listed c.args.number c.requires.topology c.requires.number, c.requires.fits)

pub at-first-requires : goal.at-first-requires
at-first-requires g c = rw c.places-place.ensures (are_inside c.args.topology (g.I.Indices.listed c.args.indices.now) c.args.number c.requires.topology c.requires.number).first

pub at-second-requires : goal.at-second-requires
at-second-requires g c = rw c.places-place.ensures (are_inside c.args.topology (g.I.Indices.listed c.args.indices.now) c.args.number c.requires.topology c.requires.number).second

pub at-requires : goal.at-requires
at-requires g c = rw c.places-place.ensures (are_inside c.args.topology (g.I.Indices.listed c.args.indices.now) c.args.number c.requires.topology c.requires.number).third

pub returns-clause-value : goal.returns-clause-value
returns-clause-value g c =
    let listed = g.I.Indices.listed c.args.indices.now in
    rw (c.at-first.ensures, c.at-second.ensures, c.at.ensures, c.places-place.ensures)
    (sym (triangle_at c.args.topology listed c.args.number c.requires.topology c.requires.number))

pub returns-clause-named : goal.returns-clause-named
returns-clause-named g c = λ x y vertices seen.
    let listed = g.I.Indices.listed c.args.indices.now in
    let inside = are_inside c.args.topology listed c.args.number c.requires.topology c.requires.number in
    rw (c.at-first.ensures, c.at-second.ensures, c.at.ensures, c.places-place.ensures)
    (named_three x y vertices listed _ _ _ inside.first inside.second inside.third seen)
