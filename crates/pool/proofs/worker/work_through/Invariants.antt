use Rattle.std.proofs.Common.{◌≡◌, ◌-◌, All, map, length}
use Rattle.pool.specs.Work.{IsRightAnswer}
use Rattle.pool.proofs.worker.work_through.Given as goal

-- each number that the seat was given so far has an answer
abbrev pub invariant-loop-tile : goal.invariant-loop-tile
invariant-loop-tile g l =
    g.D.Dealer.fits l.dealer l.seat
    × (g.D.Dealer.number l.seat ≡ l.number)
    × g.J.Job.fits l.job l.scratch
    × (map (λ pair. pair.0) l.pairs.items ≡ g.D.Dealer.given l.seat)
    × All (IsRightAnswer (g.J.Job.right l.job) (g.D.Dealer.count l.dealer)) l.pairs.items

abbrev pub decreases-loop-tile : goal.decreases-loop-tile
decreases-loop-tile g l = g.D.Dealer.count l.dealer - length (g.D.Dealer.given l.seat)
