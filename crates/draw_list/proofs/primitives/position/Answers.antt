use Rattle.std.proofs.Common.{sym, pos}
use Rattle.std.proofs.lemmas.List.{get_or-map}
use Rattle.draw_list.specs.declared.draw.Vertex.{Vertex}
use Rattle.draw_list.proofs.primitives.position.Goals as goal

pub returns : goal.returns
returns c =
    let vertices = c.args.vertices.now in
    sym (get_or-map (λ (v : Vertex). v.at) vertices c.args.number c.index-vertices-number.result (record { x = pos 0; y = pos 0 }) c.requires)
