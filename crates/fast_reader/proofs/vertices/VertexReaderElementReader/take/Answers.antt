use Rattle.std.proofs.Common.{◌≡◌, rules}
use Rattle.grid.specs.Position.{IsInBand}
use Rattle.fast_reader.proofs.TakenArrays.{took_vertex}
use Rattle.fast_reader.proofs.vertices.VertexReaderElementReader.take.Goals as goal

pub returns : goal.returns
returns c =
    let bx : IsInBand c.in_ok-at.at.x = search rules in
    let by : IsInBand c.in_ok-at.at.y = search rules in
    let ex : c.in_ok-at.at.x ≡ c.in_ok-x.x = search rules in
    let ey : c.in_ok-at.at.y ≡ c.in_ok-x.y = search rules in
    took_vertex c.args.reader.now c.take_seven.new.self c.in_ok-x.x c.in_ok-x.y c.in_ok-at.at c.in_ok-x.z c.in_ok-x.red c.in_ok-x.green c.in_ok-x.blue c.in_ok-x.alpha
    c.in_ok-z.z c.in_ok-red.red c.in_ok-green.green c.in_ok-blue.blue c.in_ok-alpha.alpha c.in_ok-x.ensures ex ey bx by
    c.in_ok-z.ensures c.in_ok-red.ensures c.in_ok-green.ensures c.in_ok-blue.ensures c.in_ok-alpha.ensures
