use Rattle.std.proofs.Common.{◌≡◌, ◌≤◌, ap, sym, take, get_or, arith, rules}
use Rattle.std.specs.List.{sum_by}
use Rattle.std.proofs.lemmas.List.{take_all}
use Rattle.std.proofs.lemmas.List.Elements.{All-more}
use Rattle.std.proofs.lemmas.List.Sums.{sum_by_more}
use Rattle.draw_list.specs.Listing.{draw_listing, IsDrawWithinLimits}
use Rattle.draw_list.proofs.Numbering.{count_of, limits_of, draw_within}
use Rattle.draw_list.proofs.limits.are_within_limits.Goals as goal

pub loop-draw-preserved : goal.loop-draw-preserved
loop-draw-preserved c =
    let draws = c.args.draws.now in
    let d = c.draw-item.result in
    let here : IsDrawWithinLimits (draw_listing (get_or draws c.loop-draw.draw-index d)) = rw (← c.draw-item.is) (search rules) in
    let same : count_of (get_or draws c.loop-draw.draw-index d) ≡ count_of d = sym (ap count_of c.draw-item.is) in
    record {
      each = All-more (λ d. IsDrawWithinLimits (draw_listing d)) draws c.loop-draw.draw-index d c.loop-draw-test.true c.loop-draw.invariant.each here;
      total = omega (arith, sum_by_more count_of draws c.loop-draw.draw-index d c.loop-draw-test.true);
      most = omega arith;
    }

pub returns : goal.returns
returns c =
    let draws = c.args.draws.now in
    let all : take c.loop-draw.draw-index draws ≡ draws = take_all _ draws c.loop-draw-test.false in
    let most : sum_by count_of (take c.loop-draw.draw-index draws) ≤ 65536 = omega arith in
    (λ _. limits_of draws (omega arith) (rw all at c.loop-draw.invariant.each) (rw all at most), λ _. search rules)

pub returns-then-not-is_within_limits : goal.returns-then-not-is_within_limits
returns-then-not-is_within_limits c =
    (search rules, λ limits. rw c.if-not-is_within_limits.true at (c.is_within_limits.ensures.1 (draw_within c.args.draws.now _ _ c.loop-draw-test.true c.draw-item.is limits.each)))
