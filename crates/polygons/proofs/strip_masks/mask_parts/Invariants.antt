use Rattle.std.proofs.Common.{◌≡◌, ℕ, ◌<◌, ◌≤◌, length}
use Rattle.polygons.specs.Cells.{part_columns, columns_in, AreSumMasks, AreZerosFrom}
use Rattle.polygons.proofs.strip_masks.mask_parts.Given as goal

abbrev pub invariant-loop-part : goal.invariant-loop-part
invariant-loop-part l = record {
  flags_len : length l.flags ≡ length l.fn.flags;
  bits : (part : ℕ) → part < l.part → AreSumMasks l.rule (part_columns l.fn.flags l.flagged part) (part_columns l.counters l.counted part) (part_columns l.flags l.flagged part);
  others : (part : ℕ) → part < l.part → AreZerosFrom (columns_in l.rule (part_columns l.fn.flags l.flagged part) (part_columns l.counters l.counted part)) (part_columns l.flags l.flagged part);
  flags_rest : (part : ℕ) → l.part ≤ part → part_columns l.flags l.flagged part ≡ part_columns l.fn.flags l.flagged part;
}
