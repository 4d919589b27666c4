use Rattle.std.proofs.Common.{◌≡◌, ◌<◌, map, take}
use Rattle.std.specs.List.{All}
use Rattle.polygons.specs.declared.extent.Extent.{Extent}
use Rattle.polygons.specs.Rings.{position_of, nothing, IsInClosedExtent, IsExtentWithin}
use Rattle.polygons.proofs.extent.Extent.of.Given as goal

abbrev pub invariant-loop-corner : goal.invariant-loop-corner
invariant-loop-corner l = record {
  held : All (IsInClosedExtent l.extent) (take l.corner-index (map position_of l.corners));
  none : l.corner-index ≡ 0 → l.extent ≡ nothing;
  least : 0 < l.corner-index → (f : Extent) → All (IsInClosedExtent f) (take l.corner-index (map position_of l.corners)) → IsExtentWithin l.extent f;
}
