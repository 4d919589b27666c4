use Rattle.std.proofs.Common.{arith, sym, ◌∙◌}
use Rattle.std.proofs.lemmas.Int.{ints}
use Rattle.cover.proofs.edges.Edges.pass_nowhere.Goals as goal
use Rattle.cover.proofs.edges.Edges.pass_nowhere.Goals.{then-passes_none, else-passes_none}

pub returns-then-passes_none-2 : goal.returns-then-passes_none-2
returns-then-passes_none-2 c t m n h k inside =
    elim c.if-passes_none.branch [
      | then-passes_none w ↦ let under = c.passes_none.ensures w.if-passes_none.true m n h k in omega (arith, ints, inside.ab)
      | else-passes_none w ↦ let under = w.passes_none-else-passes_none.ensures (sym w.value-is ∙ t) m n h k in omega (arith, ints, inside.bc)
    ]

pub returns-else-passes_none-2 : goal.returns-else-passes_none-2
returns-else-passes_none-2 c t m n h k inside =
    let under = c.passes_none-else-passes_none-2.ensures t m n h k in omega (arith, ints, inside.ca)
