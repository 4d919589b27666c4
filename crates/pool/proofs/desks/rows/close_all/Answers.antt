use Rattle.std.proofs.Common.{◌≡◌, ℕ, length, get_or, sym, ◌∙◌, subst, vec_len, arith}
use Rattle.pool.specs.Rows.{IsClosed}
use Rattle.pool.specs.declared.counter.Counter.{Counter}
use Rattle.pool.specs.declared.counter.CounterHandle.{CounterHandle}
use Rattle.pool.proofs.Rowed.{popped, stays, from_here}
use Rattle.pool.proofs.desks.rows.close_all.Goals as goal

pub loop-counter-preserved-in-Some-pop : goal.loop-counter-preserved-in-Some-pop
loop-counter-preserved-in-Some-pop c =
    let inv = c.loop-counter.invariant in
    let counter = c.in-Some.counter in
    let handle = c.in-Some-pop.handle in
    let k : ℕ = vec_len c.pop.new.self in
    let lines_were = c.in-Some.ensures.items in
    let whole_was = c.in-Some-pop.ensures.items in
    let one_less = c.in-Some.ensures.cases in
    let one_less' = c.in-Some-pop.ensures.cases in
    let lines_len : length c.pop.new.self.items ≡ k = sym c.pop.new.self.ok.0 in
    let same : vec_len c.pop-in-Some.new.self ≡ k = omega arith in
    let whole_len : length c.pop-in-Some.new.self.items ≡ k = sym c.pop-in-Some.new.self.ok.0 ∙ same in (
      omega arith,
      same,
      (λ d o h. stays c.loop-counter.counters.items c.pop.new.self.items counter k lines_were lines_len d o h ∙ inv.2 d o (omega arith)),
      (λ d p h. stays c.loop-counter.whole.items c.pop-in-Some.new.self.items handle k whole_was whole_len d p h ∙ inv.3 d p (omega arith)),
      (λ d o p le lt.
          from_here (λ i. IsClosed (get_or c.args.counters.items i o) (get_or c.args.whole.items i p)) k (length c.args.counters.items)
          (subst (λ (l : Counter). IsClosed l (get_or c.args.whole.items k p)) (sym (popped c.loop-counter.counters.items c.pop.new.self.items counter k lines_were lines_len o) ∙ inv.2 k o (omega arith))
          (subst (λ (q : CounterHandle). IsClosed counter q) (sym (popped c.loop-counter.whole.items c.pop-in-Some.new.self.items handle k whole_was whole_len p) ∙ inv.3 k p (omega arith))
          (c.close.ensures.once, c.close.ensures.all)))
          (λ i le' lt'. inv.4 i o p (omega arith) lt')
          d le lt),
    )

pub returns : goal.returns
returns c = λ d l p h. let none = c.in_default.ensures.cases.0 in c.loop-counter.invariant.4 d l p (omega arith) h
