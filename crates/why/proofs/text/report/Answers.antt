use Rattle.std.proofs.Common.{rules}
use Rattle.why.proofs.text.report.Goals as goal

pub push_samples-requires-clause-column : goal.push_samples-requires-clause-column
push_samples-requires-clause-column c = (c.has_sample.ensures.screen (search rules)).0

pub push_samples-requires-clause-row : goal.push_samples-requires-clause-row
push_samples-requires-clause-row c = (c.has_sample.ensures.screen (search rules)).1
