use Rattle.std.proofs.Common.{◌≡◌, ◌<◌, ◌-◌, ℕ, List, length, get_or, ap, refl, arith}
use Rattle.draw_list.specs.declared.draw_list.DrawList.TheInside.{Inside}
use Rattle.draw_list.specs.Listing.{scene_of}
use Rattle.draw_list.specs.Place.{IsPlace}
use Rattle.draw_list.specs.Starts.{IsDrawOfTriangle}
use Rattle.draw_list.specs.View.{listing, IsKept}
use Rattle.draw_list.proofs.Numbering.{length-triangles}
use Rattle.draw_list.proofs.Starting.{ascending, place_at}
use Rattle.draw_list.proofs.draw_list.DrawList.place.Goals as goal

pub owner-draw-requires-clause-owners : goal.owner-draw-requires-clause-owners
owner-draw-requires-clause-owners c =
    let within : c.args.number < length (scene_of (listing c.self.inside)).triangles = rw (← c.self.view_is) at c.requires in
    let owners = c.self.invariant.owners in
    rw (c.deref.ensures.value, c.deref-2.ensures.value) (record { far = omega (arith, owners.far); each = owners.each })

pub owner-draw-requires-clause-ascending : goal.owner-draw-requires-clause-ascending
owner-draw-requires-clause-ascending c = rw c.deref.ensures.value (ascending _ _ c.self.invariant.starts)

pub index-requires : goal.index-requires
index-requires c = omega (arith, c.owner-draw.ensures.within, ap length c.deref.ensures.value, c.self.inside.starts.ok.0)

there : (l : Inside) (number i start : ℕ) (starts : List ℕ) → IsKept l → number < length (scene_of (listing l)).triangles → starts ≡ l.starts.items → IsDrawOfTriangle starts number i → start ≡ get_or l.starts.items i start
    → IsPlace (scene_of (listing l)) number (record { draw = i; triangle = number - start })
there l number i start starts kept within same owner start_at =
    let size = kept.starts.size in
    let below = owner.within in
    place_at l.draws.items l.starts.items kept.starts number i (rw same at owner.start) (rw same at owner.last) (omega (arith, ap length same)) (omega (arith, length-triangles l.draws.items)) (scene_of (listing l)) start refl start_at

pub returns : goal.returns
returns c =
    rw (← c.self.view_is) (there c.self.inside c.args.number _ _ _ c.self.invariant (rw (← c.self.view_is) at c.requires) c.deref.ensures.value c.owner-draw.ensures c.index.ensures)
