use Rattle.std.proofs.Common.{arith, sym, ◌∙◌}
use Rattle.std.proofs.lemmas.Int.{ints}
use Rattle.cover.proofs.edges.Edges.pass_everywhere.Goals as goal
use Rattle.cover.proofs.edges.Edges.pass_everywhere.Goals.{then-passes_all, else-passes_all}

pub returns-then-passes_all-2 : goal.returns-then-passes_all-2
returns-then-passes_all-2 c = (
  λ t m n h k. elim c.if-passes_all.branch [
    | then-passes_all w ↦
        let ab = c.passes_all.ensures.0 w.if-passes_all.true m n h k in
        let bc = w.passes_all-then-passes_all.ensures.0 (sym w.value-is ∙ c.if-passes_all-2.true) m n h k in
        let ca = c.passes_all-then-passes_all-2.ensures.0 t m n h k in
        record { ab = omega (arith, ints); bc = omega (arith, ints); ca = omega (arith, ints) }
    | else-passes_all w ↦ cc
  ],
  λ all. c.passes_all-then-passes_all-2.ensures.1 (λ m n h k. let inside = (all m n h k).ca in omega (arith, ints)),
)

pub returns-else-passes_all-2 : goal.returns-else-passes_all-2
returns-else-passes_all-2 c = (
  λ t. cc,
  λ all. elim c.if-passes_all.branch [
    | then-passes_all w ↦ w.value-is ∙ w.passes_all-then-passes_all.ensures.1 (λ m n h k. let inside = (all m n h k).bc in omega (arith, ints))
    | else-passes_all w ↦ let passes = c.passes_all.ensures.1 (λ m n h k. let inside = (all m n h k).ab in omega (arith, ints)) in cc
  ],
)
