use Rattle.std.proofs.Common.{◌≡◌, refl, arith, ℕ, ◌*◌, List, length}
use Rattle.grid.specs.Samples.{parts_of}
use Rattle.polygons.specs.declared.rule.Rule.{Rule}
use Rattle.polygons.specs.declared.rule.Rule.TheVariants.{EvenOdd, NonZero}
use Rattle.polygons.specs.Cells.{flags_by, HasCounters}
use Rattle.fills.proofs.RowMasks.{masks_of_row}
use Rattle.fills.proofs.row.cover_row.Goals as goal

has_counters : (rule : Rule) (parts many : ℕ) (flags counters : List (List ℕ)) → length flags ≡ parts * (flags_by rule * many) → (rule ≡ NonZero → length counters ≡ parts * many) → HasCounters rule flags counters
has_counters EvenOdd parts many flags counters long e = tt
has_counters NonZero parts many flags counters long e = let three : parts * (3 * many) ≡ 3 * (parts * many) = grind arith in omega (arith, three, long, e refl)

pub cover_parts-requires-clause-counted : goal.cover_parts-requires-clause-counted
cover_parts-requires-clause-counted c = has_counters c.args.polygon.now.rule (parts_of c.args.canvas.now.count) c.args.many c.args.flags.now c.args.counters.now c.requires.parts c.requires.counted

pub returns-clause-masks : goal.returns-clause-masks
returns-clause-masks c =
    let place = c.strip_at-strip.ensures.place in
    masks_of_row c.args.polygon.now c.args.origin.now c.args.canvas.now c.args.row c.args.first c.args.many (flags_by c.args.polygon.now.rule * c.args.many) c.strip_at-strip.result c.cover_parts.new.flags place.0 place.1 c.strip_at-strip.ensures.count c.cover_parts.ensures.masks
