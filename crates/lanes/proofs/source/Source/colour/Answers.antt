use Rattle.std.proofs.Common.{subst}
use Rattle.shade.specs.declared.sample.Merge.{Merge}
use Rattle.lanes.specs.Source.{GivesFragment}
use Rattle.lanes.specs.Sources.{GivesColour}
use Rattle.lanes.proofs.Given.{colour_given}
use Rattle.lanes.proofs.source.Source.colour.Goals as goal

pub returns-in-Triangle : goal.returns-in-Triangle
returns-in-Triangle c m p f gives =
    let of_it = subst (λ s. GivesFragment m s p f) c.in-Triangle.is gives in
    subst (λ (n : Merge). GivesColour n c.source.result p f) of_it.same (colour_given _ p of_it.covered f of_it.is c.source.result c.source.ensures)
