use Rattle.std.proofs.Common.{◌≡◌, ◌≤◌, take}
use Rattle.std.specs.List.{All, sum_by}
use Rattle.draw_list.specs.Listing.{draw_listing, IsDrawWithinLimits}
use Rattle.draw_list.proofs.Numbering.{count_of}
use Rattle.draw_list.proofs.limits.are_within_limits.Given as goal

abbrev pub invariant-loop-draw : goal.invariant-loop-draw
invariant-loop-draw l = record {
  each : All (λ d. IsDrawWithinLimits (draw_listing d)) (take l.draw-index l.draws);
  total : l.total ≡ sum_by count_of (take l.draw-index l.draws);
  most : l.total ≤ 65536;
}
