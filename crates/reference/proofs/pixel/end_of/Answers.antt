use Rattle.std.proofs.Common.{arith}
use Rattle.std.proofs.lemmas.List.{take_all}
use Rattle.shade.specs.Ending.{Ends}
use Rattle.shade.proofs.Endings.{of_list, ends_more, ends-unique}
use Rattle.reference.proofs.pixel.end_of.Goals as goal

pub loop-number-preserved : goal.loop-number-preserved
loop-number-preserved g c =
    ends_more (of_list _ _ _ _) _ _ c.triangle.result _ _ _ (omega arith) c.triangle.ensures c.loop-number.invariant c.draw-sample.ensures

pub returns-clause-end : goal.returns-clause-end
returns-clause-end g c = rw (take_all c.loop-number.number (g.S.Triangles.listed c.args.source.now) (omega arith)) at c.loop-number.invariant

pub returns-clause-only : goal.returns-clause-only
returns-clause-only g c = λ other h.
    let ts = g.S.Triangles.listed c.args.source.now in
    let ended : Ends ts c.args.count c.args.px c.args.py c.args.s c.args.start c.loop-number.sample = rw (take_all c.loop-number.number ts (omega arith)) at c.loop-number.invariant in
    ends-unique (of_list _ _ _ _) ts _ other _ h ended
