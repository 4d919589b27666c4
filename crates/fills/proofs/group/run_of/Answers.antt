use Rattle.std.proofs.Common.{arith}
use Rattle.fills.proofs.group.run_of.Goals as goal

pub returns-clause-beside : goal.returns-clause-beside
returns-clause-beside c empty fit style k l m i j s h meets =
    let inside = c.of.ensures.holds i j s h.column h.below (c.run_of-end.ensures.holds fit k l m style.rule _ meets.covered) in
    absurd (omega (arith, inside.0, inside.1, inside.2, inside.3, c.is_empty.ensures.0 empty))
