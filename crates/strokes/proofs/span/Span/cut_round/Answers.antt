use Rattle.std.proofs.Common.{◌≡◌, ◌∙◌, arith, ℕ, pos, ◌*◌, ◌-ℤ◌, ◌*ℤ◌, ◌<ℤ◌, w32, to_z, of_z}
use Rattle.std.proofs.lemmas.Int.{ints}
use Rattle.grid.specs.Position.{Position}
use Rattle.polygons.specs.Columns.{along}
use Rattle.strokes.proofs.Rows.{no_disc, in_row, from_row, right_edge, left_edge, none_in}
use Rattle.strokes.proofs.span.Span.cut_round.Goals as goal

pub returns-then-rest-lt0 : goal.returns-then-rest-lt0
returns-then-rest-lt0 c k =
    let disc = c.args.disc.now in
    let p : Position = along (record { x = c.args.x; y = c.args.y }) k in
    let py : to_z w32 (of_z w32 c.args.y) ≡ c.args.y = omega (arith, ints, c.requires.y.low, c.requires.y.high) in
    let is = rw py at c.rest-rest.ensures.value in
    let less : c.rest-rest.result <ℤ pos 0 = omega (arith, ints, c.rest-rest.ensures.size.low, c.rest-rest.ensures.size.high, c.if-rest-lt0.true) in
    (λ h. absurd (none_in k h), λ h. absurd (no_disc disc.center disc.width p c.rest-rest.result is less (h.1)))

pub edge-requires-else-rest-lt0-clause-bound : goal.edge-requires-else-rest-lt0-clause-bound
edge-requires-else-rest-lt0-clause-bound c = record {
  low = omega (arith, ints, c.root_bound-else-rest-lt0.ensures.size.low, c.root_bound-else-rest-lt0.ensures.size.high);
  high = omega (arith, ints, c.root_bound-else-rest-lt0.ensures.size.low, c.root_bound-else-rest-lt0.ensures.size.high);
}

pub returns-else-rest-lt0 : goal.returns-else-rest-lt0
returns-else-rest-lt0 c k =
    let disc = c.args.disc.now in
    let p : Position = along (record { x = c.args.x; y = c.args.y }) k in
    let px : to_z w32 (of_z w32 c.args.x) ≡ c.args.x = omega (arith, ints, c.requires.x.low, c.requires.x.high) in
    let py : to_z w32 (of_z w32 c.args.y) ≡ c.args.y = omega (arith, ints, c.requires.y.low, c.requires.y.high) in
    let is : c.rest-rest.result ≡ pos (disc.width * disc.width) -ℤ pos 4 *ℤ ((p.y -ℤ disc.center.y) *ℤ (p.y -ℤ disc.center.y)) = rw py at c.rest-rest.ensures.value in
    let n : ℕ = c.unsigned_abs-square.result in
    let whole : pos n ≡ c.rest-rest.result = omega (arith, ints, c.unsigned_abs-square.ensures, c.rest-rest.ensures.size.low, c.rest-rest.ensures.size.high, c.if-rest-lt0.false) in
    let square : pos n ≡ pos (disc.width * disc.width) -ℤ pos 4 *ℤ ((p.y -ℤ disc.center.y) *ℤ (p.y -ℤ disc.center.y)) = whole ∙ is in
    let right = right_edge c.edge.result disc.center p n c.root_bound.result c.edge.ensures.from c.edge.ensures.x c.edge.ensures.y
    (omega (arith, ints, c.edge.ensures.bound, c.root_bound.ensures.size.low, c.root_bound.ensures.size.high)) c.root_bound.ensures.meaning in
    let left = left_edge c.edge-else-rest-lt0.result disc.center p n c.root_bound-else-rest-lt0.result c.edge-else-rest-lt0.ensures.from c.edge-else-rest-lt0.ensures.x c.edge-else-rest-lt0.ensures.y
    (omega (arith, ints, c.edge-else-rest-lt0.ensures.bound, c.root_bound-else-rest-lt0.ensures.size.low, c.root_bound-else-rest-lt0.ensures.size.high)) c.root_bound-else-rest-lt0.ensures.meaning in
    let first = rw (px, py) at (c.cut.ensures k) in
    let second = rw (px, py) at (c.cut-else-rest-lt0.ensures k) in (
      λ h. let q = second.0 h in let r = first.0 (q.0) in (r.0, from_row disc.center disc.width p n square (right.0 (r.1)) (left.0 (q.1))),
      λ h. let d = in_row disc.center disc.width p n square (h.1) in second.1 (first.1 (h.0, right.1 (d.0)), left.1 (d.1)),
    )
