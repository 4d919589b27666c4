use Rattle.std.proofs.Common.{◌≤◌, ◌+◌, length, arith}
use Rattle.json_tokens.proofs.Blanks.{counted_passed}
use Rattle.json_tokens.proofs.blank.skip_spaces.Goals as goal

pub returns-clause-same : goal.returns-clause-same
returns-clause-same c =
    let room : c.args.from + 16 ≤ length c.args.bytes.now = omega (arith, c.if-bytes-from-lt16.false) in
    (counted_passed c.args.bytes.now c.args.from c.space_count.result room c.space_count.ensures).0
