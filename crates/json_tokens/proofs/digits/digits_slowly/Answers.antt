use Rattle.std.proofs.Common.{◌+◌, ◌*◌, ap, sym, ◌∙◌, arith}
use Rattle.json_tokens.proofs.Lexing.{one_more_digit}
use Rattle.json_tokens.proofs.digits.digits_slowly.Goals as goal

pub digits-preserved : goal.digits-preserved
digits-preserved c =
    let i = c.digits.invariant in
    let more = one_more_digit c.args.bytes.now c.args.from c.digits.at c.digits.value i.after c.digits-test.true c.if-bytes-at-ge48.true c.if-bytes-at-le57.true i.digits i.value in
    record {
      after = omega (arith, i.after);
      within = omega (arith, c.digits-test.true);
      digits = more.0;
      value = more.1 ∙ ap (λ d. c.digits.value * 10 + d) (sym c.from.ensures);
      below = omega (arith, c.from.ensures, c.if-bytes-at-le57.true, c.if-value-ge100000000000000000.false);
    }
