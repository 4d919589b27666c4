use Rattle.std.proofs.Common.{◌∙◌, sym, subst, w32}
use Rattle.std.proofs.lemmas.Int.{to_z-of_z}
use Rattle.shade.proofs.Values.{quotient-unique}
use Rattle.gradients.specs.Group.{position_in}
use Rattle.lanes.specs.Sources.{GivesColour}
use Rattle.lanes.proofs.sources.ColourSource.values.Goals as goal

pub returns-in-Flat-clause-red : goal.returns-in-Flat-clause-red
returns-in-Flat-clause-red c f i read source l =
    c.flat_colours.ensures.red i l ∙ sym ((subst (λ s. GivesColour c.args.merge.now s (position_in (record { x = c.args.x; y = c.args.y }) i) f) c.in-Flat.is source).red read)

pub returns-in-Flat-clause-green : goal.returns-in-Flat-clause-green
returns-in-Flat-clause-green c f i read source l =
    c.flat_colours.ensures.green i l ∙ sym ((subst (λ s. GivesColour c.args.merge.now s (position_in (record { x = c.args.x; y = c.args.y }) i) f) c.in-Flat.is source).green read)

pub returns-in-Flat-clause-blue : goal.returns-in-Flat-clause-blue
returns-in-Flat-clause-blue c f i read source l =
    c.flat_colours.ensures.blue i l ∙ sym ((subst (λ s. GivesColour c.args.merge.now s (position_in (record { x = c.args.x; y = c.args.y }) i) f) c.in-Flat.is source).blue read)

pub returns-in-Flat-clause-alpha : goal.returns-in-Flat-clause-alpha
returns-in-Flat-clause-alpha c f i read source l =
    c.flat_colours.ensures.alpha i l ∙ sym ((subst (λ s. GivesColour c.args.merge.now s (position_in (record { x = c.args.x; y = c.args.y }) i) f) c.in-Flat.is source).alpha read)

pub returns-in-Planes-clause-red : goal.returns-in-Planes-clause-red
returns-in-Planes-clause-red c f i read source l =
    let at = subst (λ s. GivesColour c.args.merge.now s (position_in (record { x = c.args.x; y = c.args.y }) i) f) c.in-Planes.is source in
    let value = rw (to_z-of_z w32 c.args.x c.ranges.x, to_z-of_z w32 c.args.y c.ranges.y) at c.values.ensures.red in
    quotient-unique _ _ _ _ (value i at.same read at.are_planes l at.covered) at.is.red

pub returns-in-Planes-clause-green : goal.returns-in-Planes-clause-green
returns-in-Planes-clause-green c f i read source l =
    let at = subst (λ s. GivesColour c.args.merge.now s (position_in (record { x = c.args.x; y = c.args.y }) i) f) c.in-Planes.is source in
    let value = rw (to_z-of_z w32 c.args.x c.ranges.x, to_z-of_z w32 c.args.y c.ranges.y) at c.values.ensures.green in
    quotient-unique _ _ _ _ (value i at.same read at.are_planes l at.covered) at.is.green

pub returns-in-Planes-clause-blue : goal.returns-in-Planes-clause-blue
returns-in-Planes-clause-blue c f i read source l =
    let at = subst (λ s. GivesColour c.args.merge.now s (position_in (record { x = c.args.x; y = c.args.y }) i) f) c.in-Planes.is source in
    let value = rw (to_z-of_z w32 c.args.x c.ranges.x, to_z-of_z w32 c.args.y c.ranges.y) at c.values.ensures.blue in
    quotient-unique _ _ _ _ (value i at.same read at.are_planes l at.covered) at.is.blue

pub returns-in-Planes-clause-alpha : goal.returns-in-Planes-clause-alpha
returns-in-Planes-clause-alpha c f i read source l =
    let at = subst (λ s. GivesColour c.args.merge.now s (position_in (record { x = c.args.x; y = c.args.y }) i) f) c.in-Planes.is source in
    let value = rw (to_z-of_z w32 c.args.x c.ranges.x, to_z-of_z w32 c.args.y c.ranges.y) at c.values.ensures.alpha in
    quotient-unique _ _ _ _ (value i at.same read at.are_planes l at.covered) at.is.alpha
