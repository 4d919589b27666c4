use Rattle.list_json.proofs.Denoted.{denoted_passes}
use Rattle.list_json.proofs.OneList.{denotes-unique}
use Rattle.list.proofs.reader.read.Goals as goal

pub returns-in-Some-clause-only : goal.returns-in-Some-clause-only
returns-in-Some-clause-only c list denotes = denotes-unique c.args.bytes.now c.in-Some.list list c.in-Some.ensures denotes

pub returns-in-Some-clause-passed : goal.returns-in-Some-clause-passed
returns-in-Some-clause-passed c = denoted_passes c.args.bytes.now

pub returns-clause-passed : goal.returns-clause-passed
returns-clause-passed c = denoted_passes c.args.bytes.now
