use Rattle.std.proofs.Common.{◌≡◌, subst}
use Rattle.shade.specs.declared.sample.Sample.{Sample}
use Rattle.shade.specs.Placed.{Draws}
use Rattle.history.proofs.Following.{after_same, after_asked, after_other}
use Rattle.history.proofs.followed.Followed.after.Goals as goal

pub returns-then-is_same : goal.returns-then-is_same
returns-then-is_same c = λ ts k n start is asked h.
    let same : c.drawn-stored.result ≡ c.args.self.stored = c.is_same.ensures.0 c.if-is_same.true in
    let draws : Draws c.args.triangle.now c.args.place.count c.args.place.px c.args.place.py c.args.place.s c.args.self.stored c.args.self.stored =
    subst (λ (x : Sample). Draws c.args.triangle.now c.args.place.count c.args.place.px c.args.place.py c.args.place.s c.args.self.stored x) same c.drawn-stored.ensures in
    after_same c.args.place.count c.args.place.px c.args.place.py c.args.place.s start ts k n c.args.triangle.now c.args.self is draws h

pub returns-then-is_asked : goal.returns-then-is_asked
returns-then-is_asked c = λ ts k n start is asked h.
    after_asked c.args.place.count c.args.place.px c.args.place.py c.args.place.s start ts k n c.args.triangle.now c.args.self c.drawn-stored.result is (asked.0 c.if-is_asked.true)
    (λ e. let same = c.is_same.ensures.1 e in absurd (cc)) c.drawn-stored.ensures h

pub returns : goal.returns
returns c = λ ts k n start is asked h.
    after_other c.args.place.count c.args.place.px c.args.place.py c.args.place.s start ts k n c.args.triangle.now c.args.self c.drawn-stored.result is
    (λ e. let chosen = asked.1 e in absurd (cc)) (λ e. let same = c.is_same.ensures.1 e in absurd (cc)) c.drawn-stored.ensures h
