use Rattle.std.proofs.Common.{subst}
use Rattle.shade.specs.declared.sample.Merge.{Merge}
use Rattle.lanes.specs.Source.{GivesFragment}
use Rattle.lanes.specs.Sources.{GivesDepth}
use Rattle.lanes.proofs.Given.{depth_given}
use Rattle.lanes.proofs.source.Source.depth.Goals as goal

pub returns-in-Triangle : goal.returns-in-Triangle
returns-in-Triangle c p f gives =
    let of_it = subst (λ s. GivesFragment c.args.merge.now s p f) c.in-Triangle.is gives in
    subst (λ (m : Merge). GivesDepth m c.source.result p f.z) of_it.same (depth_given _ p of_it.covered f of_it.is c.source.result c.source.ensures)
