use Rattle.std.proofs.Common.{◌≡◌, ℕ, ◌+◌, ◌*◌, ◌<◌}
use Rattle.std.specs.Int.{bit_at}
use Rattle.polygons.specs.Rows.{direction}
use Rattle.polygons.specs.Cells.{signed}
use Rattle.polygons.proofs.Plotted.{AreSamplesLeft}
use Rattle.polygons.proofs.plot.plot_short_each.Given as goal

abbrev pub invariant-loop-rest : goal.invariant-loop-rest
invariant-loop-rest l = record {
  few : l.rest < 16;
  some : (s : ℕ) → s < 4 → bit_at l.rest s ≡ 1 → bit_at l.crossings.bits (4 * l.part + s) ≡ 1;
  left : AreSamplesLeft l.rule l.starts.strip l.part (λ p. signed l.forward (direction l.edge p)) l.rest l.initial.flags l.initial.counters l.flags l.counters;
}

abbrev pub decreases-loop-rest : goal.decreases-loop-rest
decreases-loop-rest l = l.rest
