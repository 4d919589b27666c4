use Rattle.std.proofs.Common.{arith}
use Rattle.std.proofs.lemmas.Bool.{false≢true}
use Rattle.fills.proofs.Groups.{fit_seen}
use Rattle.fills.proofs.group.rows_of.Goals as goal

pub returns-in_default-clause-rows : goal.returns-in_default-clause-rows
returns-in_default-clause-rows c fit style = absurd (false≢true (c.in_default.ensures.some.1 (fit_seen c.args.polygons.now c.args.number fit)))

pub returns-then-is_empty-clause-rows : goal.returns-then-is_empty-clause-rows
returns-then-is_empty-clause-rows c fit style i j s h m =
    let inside = c.of-window.ensures.holds i j s h.column h.below (c.in-Some.ensures.holds style.rule _ m.covered) in
    absurd (omega (arith, inside.0, inside.1, inside.2, inside.3, c.is_empty.ensures.0 c.if-is_empty.true))

pub returns-clause-rows : goal.returns-clause-rows
returns-clause-rows c fit style i j s h m =
    let inside = c.of-window.ensures.holds i j s h.column h.below (c.in-Some.ensures.holds style.rule _ m.covered) in
    (inside.2, inside.3)
