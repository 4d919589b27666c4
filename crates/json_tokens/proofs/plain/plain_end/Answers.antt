use Rattle.std.proofs.Common.{arith}
use Rattle.json_tokens.proofs.Lexing.{plain_more}
use Rattle.json_tokens.proofs.plain.plain_end.Goals as goal

pub plain-preserved : goal.plain-preserved
plain-preserved c =
    let i = c.plain.invariant in
    record {
      after = omega (arith, i.after);
      within = omega (arith, c.plain-test.true);
      plain = plain_more c.args.bytes.now c.args.from c.plain.at i.after c.plain-test.true i.plain c.if-bytes-at-ge32.true c.if-bytes-at-ne34.true c.if-bytes-at-ne92.true;
    }
