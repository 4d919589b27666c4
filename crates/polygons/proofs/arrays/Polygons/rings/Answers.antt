use Rattle.std.proofs.Common.{ℕ, sym, subst, ◌≤◌, length, slice_index}
use Rattle.std.specs.List.{All}
use Rattle.grid.specs.Position.{IsInGuardBand}
use Rattle.polygons.specs.Arrays.{first_corner}
use Rattle.polygons.specs.Rings.{corners_between}
use Rattle.polygons.proofs.ArrayParts.{part_of_ends}
use Rattle.polygons.proofs.Seen.{rings_end}
use Rattle.polygons.proofs.arrays.Polygons.rings.Goals as goal

pub invariant_of-result : goal.invariant_of-result
invariant_of-result c =
    let p = c.args.self.now in
    let corners = p.corners.now in
    let ring_ends = p.ring_ends.now in
    let polygon_ends = p.polygon_ends.now in
    let number = c.args.number in
    let first : ℕ = c.begin_of-first.result in
    let end : ℕ = slice_index polygon_ends number in
    let rising = p.checked.polygons.rising in
    let rises : first ≤ end = rw c.begin_of-first.ensures (rising.rising number c.requires.number) in
    record {
      seen = rw (c.begin_of.ensures, c.begin_of-first.ensures) (subst (λ (b : ℕ). All IsInGuardBand (corners_between corners (first_corner ring_ends polygon_ends number) b)) (sym (rings_end ring_ends polygon_ends number p.checked.polygons c.requires.number)) c.requires.seen);
      rising = rw c.begin_of.ensures (part_of_ends ring_ends (length corners) first end p.checked.rings.rising rises (rising.within number c.requires.number));
      few = p.checked.few;
    }
