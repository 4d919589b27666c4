use Rattle.std.proofs.Common.{arith}
use Rattle.json_tokens.proofs.Eights.{others_mask}
use Rattle.json_tokens.proofs.row.others_mask.Goals as goal

pub returns : goal.returns
returns c = others_mask 64 c.args.offsets c.requires (omega arith)
