use Rattle.std.proofs.Common.{}
use Rattle.std.proofs.lemmas.List.{map-id}
use Rattle.readout.proofs.view.View.depths.Goals as goal

pub returns-clause-depths : goal.returns-clause-depths
returns-clause-depths c = rw (map-id, map-id) at c.entries.ensures.entries
