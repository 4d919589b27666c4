use Rattle.std.proofs.Common.{◌<◌, ◌≤◌, length, arith}
use Rattle.std.proofs.lemmas.Result.{err_from_is_err_and}
use Rattle.checking_reader.proofs.ArrayElements.{fails_here, passes_here, all_passed, one_more, all_read}
use Rattle.checking_reader.proofs.elements.elements_of.Goals as goal

pub returns-in_err-read : goal.returns-in_err-read
returns-in_err-read g c =
    let vs = c.args.list.now in
    let within : c.loop-value.value-index < length vs = omega arith in
    let reported = fails_here (g.R.ElementReader.checks c.args.reader.now) vs _ c.value-item.result _ within c.value-item.is c.loop-value.invariant.passed c.in_err-read.ensures in
    let p = err_from_is_err_and c.from_residual-in_err-read.result c.from_residual-in_err-read.ensures.1 in
    rw (p.1, p.2) (λ _. reported)

pub loop-value-preserved : goal.loop-value-preserved
loop-value-preserved g c =
    let vs = c.args.list.now in
    let within : c.loop-value.value-index < length vs = omega arith in
    record {
      passed = passes_here (g.R.ElementReader.checks c.args.reader.now) vs _ c.value-item.result within c.value-item.is c.loop-value.invariant.passed c.in_ok-read.ensures.0;
      read = rw c.push_reserved.ensures.items (one_more (g.R.ElementReader.denotes c.args.reader.now) vs _ c.value-item.result _ _ within c.value-item.is c.in_ok-read.ensures.1 c.loop-value.invariant.read);
      counted = omega (arith, c.push_reserved.ensures.len);
      room = omega (arith, c.push_reserved.ensures.capacity);
    }

pub returns : goal.returns
returns g c =
    let vs = c.args.list.now in
    let past : length vs ≤ c.loop-value.value-index = omega arith in
    (all_passed (g.R.ElementReader.checks c.args.reader.now) vs _ past c.loop-value.invariant.passed, all_read (g.R.ElementReader.denotes c.args.reader.now) vs _ _ past c.loop-value.invariant.read)
