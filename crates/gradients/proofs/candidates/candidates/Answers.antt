use Rattle.std.proofs.Common.{refl, w32, ◌/◌, ◌^◌}
use borrow.Rule.Simd.Lanes.{act2}
use borrow.Table.Row.{s_int}
use mir.Syntax.{wrap_add}
use Rattle.gradients.proofs.CandidateLanes.{length_sum, lane_is}
use Rattle.gradients.proofs.candidates.candidates.Goals as goal

pub returns-clause-length : goal.returns-clause-length
returns-clause-length c = length_sum _ c.args.lanes (c.args.height / 2 ^ 32) c.requires

pub returns-clause-each : goal.returns-clause-each
returns-clause-each c = λ i k area n s p x y right below less plane height part reached.
    lane_is (act2 wrap_add (s_int w32) (s_int w32) (s_int w32)) c.args.lanes c.args.height i k area n s p x y right below (λ a b. refl) c.requires c.ranges.height.fits less plane height part reached
