use Rattle.bins.specs.TileRuns.{AreCandidates}
use Rattle.bins.proofs.candidates.candidates_of.Given as goal

abbrev pub invariant-loop-number : goal.invariant-loop-number
invariant-loop-number l = AreCandidates l.list l.tiling l.first_row l.rows l.number l.numbers.items
