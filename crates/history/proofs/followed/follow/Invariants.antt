use Rattle.std.proofs.Common.{take}
use Rattle.history.specs.Changed.{IsFollowed}
use Rattle.history.proofs.followed.follow.Given as goal

abbrev pub invariant-loop-k : goal.invariant-loop-k
invariant-loop-k l = IsFollowed (take l.k l.triangles) l.number l.place.count l.place.px l.place.py l.place.s l.fn.start l.followed
