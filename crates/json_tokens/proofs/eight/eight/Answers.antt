use Rattle.std.proofs.Common.{arith}
use Rattle.json_tokens.proofs.Eights.{eight_small, eight_is}
use Rattle.json_tokens.proofs.eight.eight.Goals as goal

pub overflow_mul-pairs : goal.overflow_mul-pairs
overflow_mul-pairs c = let small = eight_small c.args.word c.requires.0 c.requires.1 in grind arith

pub overflow_add-pairs : goal.overflow_add-pairs
overflow_add-pairs c = let small = eight_small c.args.word c.requires.0 c.requires.1 in grind arith

pub returns : goal.returns
returns c ds is = eight_is c.args.word ds is
