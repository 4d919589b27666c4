use Rattle.blocks.specs.Palettes.{HasNoNumber}
use Rattle.blocks.proofs.palette.Gathered.found.Given as goal

abbrev pub invariant-loop-n : goal.invariant-loop-n
invariant-loop-n l = HasNoNumber l.self.palette.samples l.n l.sample
