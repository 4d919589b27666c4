use Rattle.std.proofs.Common.{◌≡◌, ◌∙◌, ap, sym, ℕ, ◌<◌, length, slice_set, arith}
use Rattle.std.proofs.lemmas.List.{get_or-set_other, length-set}
use Rattle.shade.proofs.Resolved.{some_samples}
use Rattle.blocks.specs.declared.way.Way.TheVariants.{Single}
use Rattle.blocks.specs.Layout.{in_list, way_of, way_in_tile}
use Rattle.blocks.proofs.Places.{none, behind_first}
use Rattle.blocks.proofs.TilePlanes.{others_same, way_set, behind_set}
use Rattle.blocks.proofs.tile_planes.make_single.Goals as goal

pub returns-clause-others : goal.returns-clause-others
returns-clause-others c i j s h other =
    let count = c.args.count in
    let k = c.args.k in
    let old = c.args.samples.now in
    let at : ℕ = c.place_by.result in
    let middle = slice_set old at c.args.plane.now in
    let state = c.set_way.new.state in
    let first : in_list middle 0 ≡ in_list old 0 = get_or-set_other old at 0 c.args.plane.now none (λ e. behind_first count Single k 0 (sym (e ∙ c.place_by.ensures.value))) in
    let some : 0 < length middle = omega (arith, length-set old at c.args.plane.now, c.requires.samples) in
    others_same count k old (slice_set middle 0 state)
    (λ m small apart. way_set middle state m (way_in_tile old m) some (c.set_way.ensures.others m small apart ∙ ap (λ plane. way_of plane m) first))
    (λ p away apart.
    behind_set middle state p away
    ∙ get_or-set_other old at p c.args.plane.now none (λ e. apart 0 (some_samples count) (let is = c.place_by.ensures.value in omega (arith, e, is))))
    i j s h other
