use Rattle.std.proofs.Common.{◌≡◌, ◌+◌, ◌<◌, ◌≤◌, ℕ, refl, sym, subst, length, arith}
use Rattle.canvas.specs.Rows.{AreOfRow}
use Rattle.canvas.proofs.Listed.{bits_past, row_more, column_of_bounds}
use Rattle.canvas.proofs.row_list.RowList.add_some.Goals as goal

pub returns-then-many-bit-clause-after : goal.returns-then-many-bit-clause-after
returns-then-many-bit-clause-after g c =
    let bounds = c.args.bounds.now in
    let list = c.loop-bit.self in
    bits_past (g.T.Triangles.listed c.args.triangles.now) c.args.canvas.now c.args.row c.requires.row bounds.columns.firsts bounds.columns.ends bounds.rows.firsts bounds.rows.ends bounds.span c.requires.bounds
    c.having-having.result c.args.from c.loop-bit.next 16 c.loop-bit.invariant.most (omega arith) c.having-having.ensures
    (λ bit low less within. c.in-Some.ensures.some.1 bit low (omega (arith, within, less, c.if-many-bit.true, c.min-many.ensures, c.count.ensures)))
    list.numbers list.columns.firsts list.columns.ends list.count list.span c.loop-bit.invariant.row

pub returns-clause-after : goal.returns-clause-after
returns-clause-after g c =
    let bounds = c.args.bounds.now in
    let list = c.loop-bit.self in
    bits_past (g.T.Triangles.listed c.args.triangles.now) c.args.canvas.now c.args.row c.requires.row bounds.columns.firsts bounds.columns.ends bounds.rows.firsts bounds.rows.ends bounds.span c.requires.bounds
    c.having-having.result c.args.from c.loop-bit.next 16 c.loop-bit.invariant.most (omega arith) c.having-having.ensures
    (λ bit low less within. c.in_default.ensures.none refl bit low (omega (arith, less)))
    list.numbers list.columns.firsts list.columns.ends list.count list.span c.loop-bit.invariant.row

pub loop-bit-preserved : goal.loop-bit-preserved
loop-bit-preserved g c =
    let ts = g.T.Triangles.listed c.args.triangles.now in
    let canvas = c.args.canvas.now in
    let bounds = c.args.bounds.now in
    let list = c.loop-bit.self in
    let new = c.push.new.self in
    let from : ℕ = c.args.from in
    let bit : ℕ = c.in-Some.bit in
    let order : c.loop-bit.next ≤ bit = c.in-Some.ensures.some.0 in
    let below : from + bit < from + 16 = omega (arith, c.if-many-bit.false, c.min-many.ensures) in
    let within : from + bit < length ts = omega (arith, c.if-many-bit.false, c.min-many.ensures, c.count.ensures) in
    let count = c.push.ensures.count in
    let up_to_here : AreOfRow ts canvas c.args.row (from + bit) list.numbers list.columns.firsts list.columns.ends list.count list.span =
    (bits_past ts canvas c.args.row c.requires.row bounds.columns.firsts bounds.columns.ends bounds.rows.firsts bounds.rows.ends bounds.span c.requires.bounds
    c.having-having.result from c.loop-bit.next bit order (omega (arith, below)) c.having-having.ensures (λ b low less _. c.in-Some.ensures.some.1 b low less)
    list.numbers list.columns.firsts list.columns.ends list.count list.span c.loop-bit.invariant.row) in
    let with_it : AreOfRow ts canvas c.args.row ((from + bit) + 1) new.numbers new.columns.firsts new.columns.ends (list.count + 1) new.span =
    (row_more ts canvas c.args.row list.numbers list.columns.firsts list.columns.ends list.count list.span new.numbers new.columns.firsts new.columns.ends new.span c.reached-columns.result (from + bit) within
    c.push.ensures.number c.push.ensures.last c.push.ensures.first c.push.ensures.end c.push.ensures.numbers c.push.ensures.firsts c.push.ensures.ends c.push.ensures.span c.push.ensures.kept
    (λ t i j s found h m.
    let there = column_of_bounds ts canvas c.args.row c.requires.row bounds.columns.firsts bounds.columns.ends bounds.rows.firsts bounds.rows.ends bounds.span c.requires.bounds (from + bit) t found i j s h m in
    let low = there.from in
    let high = there.below in
    c.reached-columns.ensures.all t i j s found h m (record { from = omega (arith, low, c.span.ensures.first); below = omega (arith, high, c.span.ensures.end) }))
    up_to_here) in
    let sum : (from + bit) + 1 ≡ from + (bit + 1) = omega arith in
    let counted : AreOfRow ts canvas c.args.row (from + (bit + 1)) new.numbers new.columns.firsts new.columns.ends (list.count + 1) new.span = subst (λ n. AreOfRow ts canvas c.args.row n new.numbers new.columns.firsts new.columns.ends (list.count + 1) new.span) sum with_it in
    record {
      most = omega (arith, below);
      count = omega (arith, count, order, c.loop-bit.invariant.count);
      row = subst (λ n. AreOfRow ts canvas c.args.row (from + (bit + 1)) new.numbers new.columns.firsts new.columns.ends n new.span) (sym count) counted;
    }
