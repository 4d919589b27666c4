use Rattle.std.proofs.Common.{◌≡◌, refl, inl, inr, arith, ◌*◌, pos, ◌≤ℤ◌}
use Rattle.cover.specs.Edge.{grown}
use Rattle.cover.proofs.TwoRows.{start_is, rows_of, four_rows_of, can_grow, move_none, one_move, two_moves, three_moves, block_is, patch_is, by_side}
use Rattle.cover.proofs.edge.Edge.square.Goals as goal

pub negative_lanes-requires-else-this-eq4 : goal.negative_lanes-requires-else-this-eq4
negative_lanes-requires-else-this-eq4 g c = can_grow (rows_of c.args.self.now) c.by_256-first.result _ (move_none _ (start_is _ _ c.requires.at c.by_256-first.ensures.low c.by_256-first.ensures.high).size) refl

pub negative_lanes-requires-else-this-eq4-2 : goal.negative_lanes-requires-else-this-eq4-2
negative_lanes-requires-else-this-eq4-2 g c =
    can_grow (rows_of c.args.self.now) _ _ (one_move c.by_256-first.result c.two_rows_below-below.result (start_is _ _ c.requires.at c.by_256-first.ensures.low c.by_256-first.ensures.high).size c.two_rows_below-below.ensures.size).size refl

pub negative_lanes-requires-else-this-eq4-3 : goal.negative_lanes-requires-else-this-eq4-3
negative_lanes-requires-else-this-eq4-3 g c =
    can_grow (rows_of c.args.self.now) _ _ (two_moves c.by_256-first.result c.two_rows_below-below.result (start_is _ _ c.requires.at c.by_256-first.ensures.low c.by_256-first.ensures.high).size c.two_rows_below-below.ensures.size).size refl

pub negative_lanes-requires-else-this-eq4-4 : goal.negative_lanes-requires-else-this-eq4-4
negative_lanes-requires-else-this-eq4-4 g c =
    can_grow (rows_of c.args.self.now) _ _ (three_moves c.by_256-first.result c.two_rows_below-below.result (start_is _ _ c.requires.at c.by_256-first.ensures.low c.by_256-first.ensures.high).size c.two_rows_below-below.ensures.size).size refl

pub returns-else-this-eq4 : goal.returns-else-this-eq4
returns-else-this-eq4 g c =
    let eight : g.row.SIDE ≡ 8 = elim c.requires.side [ inl e ↦ absurd (omega (arith, e, c.if-this-eq4.false)) | inr e ↦ e ] in
    by_side g.row.SIDE 8 _ (λ row column. pos 0 ≤ℤ grown c.args.self.now c.args.at (256 * column) (256 * row)) eight (λ row column lt within.
    block_is c.args.self.now c.args.at c.by_256-first.result c.two_rows_below-below.result _ _ _ _ (start_is _ _ c.requires.at c.by_256-first.ensures.low c.by_256-first.ensures.high)
    c.two_rows_below-below.ensures.value c.two_rows_below-below.ensures.size
    c.negative_lanes-else-this-eq4.ensures c.negative_lanes-else-this-eq4-2.ensures c.negative_lanes-else-this-eq4-3.ensures c.negative_lanes-else-this-eq4-4.ensures row column lt within)

pub negative_lanes-requires : goal.negative_lanes-requires
negative_lanes-requires g c =
    can_grow (four_rows_of c.args.self.now c.four_rows.result c.four_rows.ensures) c.by_256-first.result _ (move_none _ (start_is _ _ c.requires.at c.by_256-first.ensures.low c.by_256-first.ensures.high).size) refl

pub returns-then-this-eq4 : goal.returns-then-this-eq4
returns-then-this-eq4 g c =
    let four : g.row.SIDE ≡ 4 = omega (arith, c.if-this-eq4.true) in
    by_side g.row.SIDE 4 _ (λ row column. pos 0 ≤ℤ grown c.args.self.now c.args.at (256 * column) (256 * row)) four (λ row column lt within.
    patch_is c.args.self.now c.args.at c.by_256-first.result c.four_rows.result c.negative_lanes.result c.four_rows.ensures (start_is _ _ c.requires.at c.by_256-first.ensures.low c.by_256-first.ensures.high) c.negative_lanes.ensures row column lt within)
