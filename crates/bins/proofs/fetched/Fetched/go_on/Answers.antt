use Rattle.std.proofs.Common.{arith}
use Rattle.bins.proofs.Fetching.{fetched_at}
use Rattle.bins.proofs.fetched.Fetched.go_on.Goals as goal

pub returns-then-place-self-eq-TOGETHER-clause-has : goal.returns-then-place-self-eq-TOGETHER-clause-has
returns-then-place-self-eq-TOGETHER-clause-has c = record {
  from = omega arith;
  below = omega arith;
  triangle = fetched_at c.args.list.now c.args.numbers.now c.args.place (record { triangles = c.fetch.new.triangles; first = c.args.place }) c.fetch.ensures.fetched (omega arith) (omega (arith, c.fetch.ensures.length)) c.requires.place;
}

pub returns-else-place-self-eq-TOGETHER-clause-has : goal.returns-else-place-self-eq-TOGETHER-clause-has
returns-else-place-self-eq-TOGETHER-clause-has c =
    let before = c.requires.before in
    record {
      from = before.from;
      below = omega (arith, before.from, before.up_to, c.if-place-self-eq-TOGETHER.false);
      triangle = fetched_at c.args.list.now c.args.numbers.now c.args.place c.args.self.now before.are before.from (omega (arith, before.from, before.up_to, c.if-place-self-eq-TOGETHER.false)) c.requires.place;
    }
