use Rattle.std.proofs.Common.{}
use Rattle.std.proofs.lemmas.List.{map-id}
use Rattle.readout.proofs.view.View.ids.Goals as goal

pub returns-clause-ids : goal.returns-clause-ids
returns-clause-ids c = rw (map-id, map-id) at c.entries.ensures.entries
