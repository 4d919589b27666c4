use Rattle.std.proofs.Common.{◌∙◌, Some, ap, sym, subst, arith}
use Rattle.std.proofs.lemmas.List.{length-map}
use Rattle.std.proofs.lemmas.List.Elements.{All-get_or}
use Rattle.std.proofs.lemmas.Option.{get_or_from_slice_get, slice_get_within}
use Rattle.canvas.specs.Window.{moved, CanMove}
use Rattle.canvas.proofs.Sources.{mapped_at}
use Rattle.canvas.proofs.window.WindowTriangles.triangle.Goals as goal

pub triangle-requires : goal.triangle-requires
triangle-requires g c = omega (arith, c.requires, length-map (g.S.Triangles.listed c.args.self.now.source.now) (moved c.args.self.now.origin.x c.args.self.now.origin.y))

pub unwrap-requires : goal.unwrap-requires
unwrap-requires g c =
    let self = c.args.self.now in
    let ts = g.S.Triangles.listed self.source.now in
    let t = c.triangle.result in
    let can = CanMove self.origin.x self.origin.y in
    c.seen.ensures.some.1 (subst can (get_or_from_slice_get ts c.args.number t t c.triangle.ensures) (All-get_or can ts c.args.number t (slice_get_within ts c.args.number t c.triangle.ensures) self.seen))

pub returns : goal.returns
returns g c =
    let self = c.args.self.now in
    let value = rw c.unwrap.ensures at c.seen.ensures.value in
    mapped_at (moved self.origin.x self.origin.y) (g.S.Triangles.listed self.source.now) c.args.number c.triangle.result c.triangle.ensures ∙ ap Some (sym value)
