use Rattle.std.proofs.Common.{arith, subst, ℤ}
use Rattle.std.proofs.lemmas.Int.{ints}
use Rattle.cover.specs.Masks.{AreMasksWhere}
use Rattle.cover.proofs.Joined.{bits64, kept, Passes, all_pass_kept, none_pass_kept, near_kept}
use Rattle.cover.proofs.edge.Edge.masks.Goals as goal

pub planes-requires-clause-at : goal.planes-requires-clause-at
planes-requires-clause-at g c =
    near_kept c.args.self.now (bits64 c.args.at) c.least.result c.greatest.result c.reach-reach.result c.args.count c.reach-reach.ensures c.least.ensures.reached c.greatest.ensures.reached (omega (arith, ints)) (omega (arith, ints))

pub returns-then-least-ge0 : goal.returns-then-least-ge0
returns-then-least-ge0 g c =
    all_pass_kept c.args.self.now c.args.at c.least.result c.reach-reach.result c.args.count c.args.from g.row.SIDE c.of.result c.requires.side c.requires.part c.requires.at c.reach-reach.ensures (omega (arith, ints)) c.least.ensures.bound c.of.ensures.each c.of.ensures.empty

pub returns-then-greatest-lt0 : goal.returns-then-greatest-lt0
returns-then-greatest-lt0 g c =
    none_pass_kept c.args.self.now c.args.at c.greatest.result c.reach-reach.result c.args.count c.args.from g.row.SIDE c.of-then-greatest-lt0.result c.requires.side c.requires.part c.requires.at c.reach-reach.ensures (omega (arith, ints)) c.greatest.ensures.bound
    c.of-then-greatest-lt0.ensures.each c.of-then-greatest-lt0.ensures.empty

pub returns-else-greatest-lt0 : goal.returns-else-greatest-lt0
returns-else-greatest-lt0 g c =
    let n = c.args.count in
    subst (λ (z : ℤ). AreMasksWhere g.row.SIDE (Passes c.args.self.now z n) n c.args.from c.planes.result) (kept c.args.at c.requires.at) c.planes.ensures
