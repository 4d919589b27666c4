use Rattle.std.proofs.Common.{◌≡◌}
use denote.Text.{Utf8}
use denote.Shadow.{shadow}
use Rattle.why.proofs.asked_sample.AskedSample.push_events.Given as goal

abbrev pub invariant-loop-turn : goal.invariant-loop-turn
invariant-loop-turn l =
    shadow (Utf8 l.separator) × (l.history.scene ≡ l.self.list.now) × (l.history.history.i ≡ l.self.asked.now.x) × (l.history.history.j ≡ l.self.asked.now.y) × (l.history.history.s ≡ l.self.s)
