use Rattle.std.proofs.Common.{◌≡◌, ℕ, ◌<◌, List, length, get_or, ap, sym, ◌∙◌, Some, arith}
use Rattle.draw_list.specs.declared.draw.Draw.{Draw}
use Rattle.draw_list.specs.declared.draw_list.DrawList.TheInside.{Inside}
use Rattle.draw_list.specs.Listing.{scene_of}
use Rattle.draw_list.specs.Starts.{IsDrawOfTriangle}
use Rattle.draw_list.specs.View.{listing, IsKept}
use Rattle.draw_list.proofs.Numbering.{length-triangles, draw_within}
use Rattle.draw_list.proofs.Starting.{StandsIn, ascending, stands}
use Rattle.draw_list.proofs.draw_list.DrawList.triangle.Goals as goal

pub owner-draw-requires-clause-owners : goal.owner-draw-requires-clause-owners
owner-draw-requires-clause-owners c =
    let within : c.args.number < length (scene_of (listing c.self.inside)).triangles = rw (← c.self.view_is) at c.requires in
    let owners = c.self.invariant.owners in
    rw (c.deref.ensures.value, c.deref-2.ensures.value) (record { far = omega (arith, owners.far); each = owners.each })

pub owner-draw-requires-clause-ascending : goal.owner-draw-requires-clause-ascending
owner-draw-requires-clause-ascending c = rw c.deref.ensures.value (ascending _ _ c.self.invariant.starts)

there : (l : Inside) (number i start : ℕ) (d : Draw) (starts : List ℕ) → IsKept l → number < length (scene_of (listing l)).triangles → starts ≡ l.starts.items → IsDrawOfTriangle starts number i → d ≡ get_or l.draws.items i d → start ≡ get_or l.starts.items i start → StandsIn l.draws.items number start d
there l number i start d starts kept within same owner draw_at start_at =
    let size = kept.starts.size in
    let below = owner.within in
    stands l.draws.items l.starts.items kept.starts number i d (rw same at owner.start) (rw same at owner.last) (omega (arith, ap length same)) (omega (arith, length-triangles l.draws.items)) start draw_at start_at

pub index-requires : goal.index-requires
index-requires c = omega (arith, c.owner-draw.ensures.within, ap length c.deref.ensures.value, c.self.invariant.starts.size, c.self.inside.draws.ok.0)

pub index-requires-2 : goal.index-requires-2
index-requires-2 c = omega (arith, c.owner-draw.ensures.within, ap length c.deref.ensures.value, c.self.inside.starts.ok.0)

pub triangle-requires-clause-number : goal.triangle-requires-clause-number
triangle-requires-clause-number c =
    let stands = there c.self.inside c.args.number _ _ _ _ c.self.invariant (rw (← c.self.view_is) at c.requires) c.deref.ensures.value c.owner-draw.ensures c.index.ensures c.index-2.ensures in
    omega (arith, stands.within)

pub triangle-requires-clause-limits : goal.triangle-requires-clause-limits
triangle-requires-clause-limits c =
    draw_within c.self.inside.draws.items c.owner-draw.result _ (omega (arith, c.owner-draw.ensures.within, ap length c.deref.ensures.value, c.self.invariant.starts.size)) c.index.ensures c.self.invariant.limits.draws.each

pub returns : goal.returns
returns c =
    let stands = there c.self.inside c.args.number _ _ _ _ c.self.invariant (rw (← c.self.view_is) at c.requires) c.deref.ensures.value c.owner-draw.ensures c.index.ensures c.index-2.ensures in
    rw (← c.self.view_is) (stands.found ∙ ap Some (sym c.triangle.ensures))
