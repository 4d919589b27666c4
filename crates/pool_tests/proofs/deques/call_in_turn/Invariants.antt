use Rattle.pool_tests.proofs.deques.call_in_turn.Given as goal

abbrev pub invariant-loop : goal.invariant-loop
invariant-loop g l = g.D.Dealer.fits l.dealer l.seat
