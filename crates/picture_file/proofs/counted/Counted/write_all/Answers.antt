use Rattle.std.proofs.Common.{arith}
use Rattle.std.proofs.lemmas.Grind.{common_steps}
use Rattle.std.proofs.lemmas.Bool.Decides.{nat_tests}
use Rattle.picture_file.proofs.Beginnings.{Appends-more}
use Rattle.picture_file.proofs.counted.Counted.write_all.Goals as goal

pub loop-sent-preserved : goal.loop-sent-preserved
loop-sent-preserved g c =
    let reported = c.in-Ok.ensures in record {
      within = grind (arith, common_steps, reported.bound);
      same_failures = grind (arith, nat_tests, reported.failures);
      beginning = Appends-more _ _ _ c.args.bytes.now c.loop-sent.sent c.in-Ok.count c.loop-sent.invariant.beginning reported.bytes;
    }
