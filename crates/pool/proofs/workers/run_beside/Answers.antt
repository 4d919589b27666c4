use Rattle.std.proofs.Common.{arith, ◌∙◌, ◌≡◌, [], ap, length, false}
use Rattle.std.specs.List.{range_with_len}
use Rattle.std.proofs.lemmas.Result.{IfOk-weaker}
use Rattle.std.proofs.lemmas.List.{length-map}
use Rattle.std.proofs.lemmas.List.Elements.{All-weaker}
use Rattle.std.proofs.lemmas.List.FromFn.{length-range_with_len}
use Rattle.pool.proofs.workers.run_beside.Goals as goal

pub work_seats-worked-requires-clause-can_work : goal.work_seats-worked-requires-clause-can_work
work_seats-worked-requires-clause-can_work g c κs within = λ worker below k dealt entered.
    let deal = c.in-Ok.ensures in
    let seats = c.in-Ok.seats in
    c.requires.can_work worker k
    (omega (arith, below, seats.ok, ap length deal.seats, length-map seats.items g.D.Dealer.number, length-range_with_len 0 c.args.workers))
    (omega (arith, dealt, deal.dealer.0)) entered

pub work_seats-worked-requires-clause-seats : goal.work_seats-worked-requires-clause-seats
work_seats-worked-requires-clause-seats g c κs within =
    let deal = c.in-Ok.ensures in
    let seats = c.in-Ok.seats.items in
    let many : c.args.workers ≡ length seats = omega (arith, ap length deal.seats, length-map seats g.D.Dealer.number, length-range_with_len 0 c.args.workers) in record {
      fresh = All-weaker
          (λ s. g.D.Dealer.fits c.in-Ok.dealer s × (g.D.Dealer.given s ≡ []) × (g.D.Dealer.ended s ≡ false))
          (λ s. g.D.Dealer.fits c.in-Ok.dealer s × (g.D.Dealer.given s ≡ []))
          (λ s h. (h.0, h.1)) seats deal.fresh;
      numbers = deal.seats ∙ ap (range_with_len 0) many;
      few = omega (arith, c.requires.workers);
    }

pub gather-requires-clause-results : goal.gather-requires-clause-results
gather-requires-clause-results g c κs within =
    let deal = c.in-Ok.ensures in
    let seats = c.in-Ok.seats in
    IfOk-weaker c.work_seats-worked.result.0 _ _
    (λ results are. (are.0, omega (arith, are.1, seats.ok, deal.dealer.1, ap length deal.seats, length-map seats.items g.D.Dealer.number, length-range_with_len 0 c.args.workers)))
    c.work_seats-worked.ensures.results
