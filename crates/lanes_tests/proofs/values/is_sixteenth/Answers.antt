use Rattle.std.proofs.Common.{◌≡◌, pos, rules, w32}
use Rattle.std.proofs.lemmas.Int.{to_z-of_z}
use Rattle.gradients.proofs.WholeValues.{sixteenth_when}
use Rattle.lanes_tests.proofs.values.is_sixteenth.Goals as goal

pub returns : goal.returns
returns c found =
    let exact : c.rem_euclid.result ≡ pos 0 = search rules in
    sixteenth_when c.args.z c.rem_euclid.result (rw (to_z-of_z w32 c.args.z c.ranges.z) at c.rem_euclid.ensures.value) exact
