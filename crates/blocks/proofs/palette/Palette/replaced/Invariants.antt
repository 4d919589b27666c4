use Rattle.blocks.proofs.Palettes.{AreBelow}
use Rattle.blocks.proofs.Needed.{AreNeeded}
use Rattle.blocks.proofs.palette.Palette.replaced.Given as goal

abbrev pub invariant-loop-number : goal.invariant-loop-number
invariant-loop-number l = record {
  below : AreBelow l.count l.self l.masks l.drawn l.number l.gathered.palette l.gathered.used;
  needed : AreNeeded l.count l.self l.masks l.drawn l.gathered.palette.samples l.gathered.used;
}
