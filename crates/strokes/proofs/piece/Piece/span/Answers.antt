use Rattle.std.proofs.Common.{◌≡◌, arith, w32, to_z, of_z}
use Rattle.std.proofs.lemmas.Int.{ints}
use Rattle.grid.specs.Position.{Position}
use Rattle.polygons.specs.Columns.{along}
use Rattle.strokes.specs.Pieces.{IsRound}
use Rattle.strokes.proofs.piece.Piece.span.Goals as goal

pub returns-in-None : goal.returns-in-None
returns-in-None c k =
    let p : Position = along (record { x = c.args.x; y = c.args.y }) k in
    let px : to_z w32 (of_z w32 c.args.x) ≡ c.args.x = omega (arith, ints, c.requires.x.low, c.requires.x.high) in
    let py : to_z w32 (of_z w32 c.args.y) ≡ c.args.y = omega (arith, ints, c.requires.y.low, c.requires.y.high) in
    let ends = rw (px, py, c.of.ensures) at (c.cut_both.ensures k) in
    let strip = rw (px, py) at (c.cut_both-2.ensures k) in
    let other = rw (px, py) at (c.cut_both-span.ensures k) in
    let round : IsRound c.args.self.now.disc p = rw c.in-None.is tt in (
      λ h. let u = other.0 h in let v = strip.0 (u.0) in let e = ends.0 (v.0) in (e.0, record { ends = e.1; strip = v.1; other = u.1; disc = round }),
      λ h. let q = h.1 in other.1 (strip.1 (ends.1 (h.0, q.ends), q.strip), q.other),
    )

pub returns-in-Some : goal.returns-in-Some
returns-in-Some c k =
    let p : Position = along (record { x = c.args.x; y = c.args.y }) k in
    let px : to_z w32 (of_z w32 c.args.x) ≡ c.args.x = omega (arith, ints, c.requires.x.low, c.requires.x.high) in
    let py : to_z w32 (of_z w32 c.args.y) ≡ c.args.y = omega (arith, ints, c.requires.y.low, c.requires.y.high) in
    let ends = rw (px, py, c.of.ensures) at (c.cut_both.ensures k) in
    let strip = rw (px, py) at (c.cut_both-2.ensures k) in
    let other = rw (px, py) at (c.cut_both-span.ensures k) in
    let round = rw (px, py) at (c.cut_round.ensures k) in (
      λ h.
          let d = round.0 h in
          let u = other.0 (d.0) in
          let v = strip.0 (u.0) in
          let e = ends.0 (v.0) in
          let within : IsRound c.args.self.now.disc p = rw c.in-Some.is (d.1) in
          (e.0, record { ends = e.1; strip = v.1; other = u.1; disc = within }),
      λ h.
          let q = h.1 in
          let within = rw c.in-Some.is at q.disc in
          round.1 (other.1 (strip.1 (ends.1 (h.0, q.ends), q.strip), q.other), within),
    )
