use Rattle.std.proofs.Common.{◌≡◌, length}
use Rattle.bins.proofs.Fetching.{HaveFetched}
use Rattle.bins.proofs.fetched.fetch.Given as goal

abbrev pub invariant-loop-place : goal.invariant-loop-place
invariant-loop-place l = HaveFetched l.list l.numbers l.first l.place l.triangles × (length l.triangles ≡ 16)
