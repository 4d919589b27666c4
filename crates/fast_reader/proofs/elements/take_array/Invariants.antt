use Rattle.std.proofs.Common.{◌≤◌, length, vec_len}
use Rattle.fast_reader.specs.Took.{TookEach}
use Rattle.fast_reader.proofs.elements.take_array.Given as goal

abbrev pub invariant-elements : goal.invariant-elements
invariant-elements g l = record {
  took : TookEach g.R.ElementReader.levels (g.R.ElementReader.denotes l.elements) l.initial.reader l.found.items l.reader;
  at_most : vec_len l.found ≤ l.most;
}

abbrev pub decreases-elements : goal.decreases-elements
decreases-elements g l = length l.reader
