use Rattle.bins.specs.Fetched.{IsBefore}
use Rattle.tile.proofs.Ends.{HaveDrawn}
use Rattle.tile.proofs.tile_pixels.draw_bin.Given as goal

abbrev pub invariant-loop-place : goal.invariant-loop-place
invariant-loop-place l = HaveDrawn l.list l.tile l.numbers l.place l.samples × IsBefore l.list l.numbers l.place l.fetched
