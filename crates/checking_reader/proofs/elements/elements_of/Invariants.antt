use Rattle.std.proofs.Common.{◌≡◌, length, vec_len, vec_capacity}
use Rattle.checking_reader.proofs.ArrayElements.{PassedTo, Continues}
use Rattle.checking_reader.proofs.elements.elements_of.Given as goal

abbrev pub invariant-loop-value : goal.invariant-loop-value
invariant-loop-value g l = record {
  passed : PassedTo (g.R.ElementReader.checks l.reader) l.list l.value-index;
  counted : vec_len l.found ≡ l.value-index;
  room : vec_capacity l.found ≡ length l.list;
  read : Continues (g.R.ElementReader.denotes l.reader) l.list l.value-index l.found.items;
}
