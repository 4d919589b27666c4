use Rattle.std.proofs.Common.{◌≡◌}
use Rattle.pool_tests.proofs.dealing.call_all.Given as goal

-- both are still seats of the dealer, with their numbers
abbrev pub invariant-loop-call : goal.invariant-loop-call
invariant-loop-call g l =
    g.D.Dealer.fits l.dealer l.first
    × g.D.Dealer.fits l.dealer l.second
    × (g.D.Dealer.number l.first ≡ g.D.Dealer.number l.initial.first)
    × (g.D.Dealer.number l.second ≡ g.D.Dealer.number l.initial.second)
