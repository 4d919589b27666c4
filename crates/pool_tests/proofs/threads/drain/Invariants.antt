use Rattle.std.proofs.Common.{◌≡◌, ◌-◌, length}
use Rattle.pool_tests.proofs.threads.drain.Given as goal

abbrev pub invariant-loop : goal.invariant-loop
invariant-loop g l = g.D.Dealer.fits l.dealer l.seat × (g.D.Dealer.number l.seat ≡ g.D.Dealer.number l.initial.seat)

abbrev pub decreases-loop : goal.decreases-loop
decreases-loop g l = g.D.Dealer.count l.dealer - length (g.D.Dealer.given l.seat)
