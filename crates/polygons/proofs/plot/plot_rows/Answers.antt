use Rattle.std.proofs.Common.{inl, inr, ◌≡◌, sym, subst, ap, arith, Bool, List, ℕ, ◌+◌, ◌*◌, ◌^◌, ◌<◌, ◌≤◌, ℤ, pos, ◌+ℤ◌, ◌-ℤ◌, ◌<ℤ◌, ◌≤ℤ◌, slice_index_or}
use Rattle.std.proofs.lemmas.Int.{ints}
use Rattle.grid.specs.Bounds.{IsWithin}
use Rattle.grid.specs.Position.{Position}
use Rattle.grid.specs.Samples.{part_size}
use Rattle.polygons.specs.declared.strip.Strip.{Strip}
use Rattle.polygons.specs.declared.walk.Descent.{Descent}
use Rattle.polygons.specs.declared.walk.PartWalk.{PartWalk}
use Rattle.polygons.specs.Blocks.{down}
use Rattle.polygons.specs.Columns.{HasHeight, IsAtColumn}
use Rattle.polygons.specs.Pixels.{IsFirstPixel}
use Rattle.polygons.specs.Rows.{direction}
use Rattle.polygons.specs.Cells.{signed}
use Rattle.polygons.specs.Strip.{start_of, strip_sample}
use Rattle.polygons.specs.Walking.{if_below, IsDescent, IsWalked, IsNextRow}
use Rattle.polygons.proofs.Columns.{is_first_column}
use Rattle.polygons.proofs.Counters.{direction-from}
use Rattle.polygons.proofs.PartRows.{added_from, one_row_more}
use Rattle.polygons.proofs.Plotted.{has_counters, part_small, row_after, signed_none, direction_above, direction_below, rows_above, rows_below}
use Rattle.polygons.proofs.Triangle.{above_or_not}
use Rattle.polygons.specs.Plotting.{HasRow}
use Rattle.polygons.proofs.Samples.{offset_y}
use Rattle.polygons.proofs.ShortEdges.{rows_read}
use Rattle.polygons.proofs.Walks.{below_size, stepped}
use Rattle.polygons.proofs.plot.plot_rows.Goals as goal

runs_down : (strip : Strip) (d : Descent) → IsDescent strip d → d.edge.a.y ≤ℤ d.edge.b.y
runs_down strip d k = let l = k.step.part_low in let h = k.step.part_high in omega (arith, ints)

-- rows in which no sample has the edge's height
nothing_above : (strip : Strip) (d : Descent) (forward : Bool) (j row k : ℕ) → IsDescent strip d → row < d.first → signed forward (direction d.edge (strip_sample strip j row k)) ≡ pos 0
nothing_above strip d forward j row k h l =
    let o = offset_y strip.count j in let r = h.rows_above row l in
    signed_none forward _ (direction_above d.edge (down (start_of strip j) row) (pos k) (runs_down strip d h) (omega (arith, ints, o, r)))

nothing_below : (strip : Strip) (d : Descent) (forward : Bool) (j row k : ℕ) → IsDescent strip d → d.end ≤ row → row < 64 → signed forward (direction d.edge (strip_sample strip j row k)) ≡ pos 0
nothing_below strip d forward j row k h l m =
    let r = h.rows_below row l m in
    signed_none forward _ (direction_below d.edge (down (start_of strip j) row) (pos k) (runs_down strip d h) (omega (arith, ints, r)))

-- a sample above the edge, below it, or at its height, by its rows
sample_above : (strip : Strip) (d : Descent) (forward : Bool) (j row k : ℕ) (f : ℤ) → IsDescent strip d → IsFirstPixel (start_of strip j).y d.edge.a.y f → pos row <ℤ f → signed forward (direction d.edge (strip_sample strip j row k)) ≡ pos 0
sample_above strip d forward j row k f h first l =
    let r = first.first in
    signed_none forward _ (direction_above d.edge (down (start_of strip j) row) (pos k) (runs_down strip d h) (omega (arith, ints)))

sample_below : (strip : Strip) (d : Descent) (forward : Bool) (j row k : ℕ) (f : ℤ) → IsDescent strip d → IsFirstPixel (start_of strip j).y d.edge.b.y f → f ≤ℤ pos row → signed forward (direction d.edge (strip_sample strip j row k)) ≡ pos 0
sample_below strip d forward j row k f h first l =
    let r = first.reached in
    signed_none forward _ (direction_below d.edge (down (start_of strip j) row) (pos k) (runs_down strip d h) (omega (arith, ints)))

at_height : (strip : Strip) (d : Descent) (j row : ℕ) (f g : ℤ) → IsFirstPixel (start_of strip j).y d.edge.a.y f → IsFirstPixel (start_of strip j).y d.edge.b.y g → f ≤ℤ pos row → pos row <ℤ g → HasHeight d.edge (down (start_of strip j) row).y
at_height strip d j row f g a b l m =
    let r = a.reached in let s = b.first in
    record { top = omega (arith, ints); bottom = omega (arith, ints) }

narrow : (z : ℤ) (row : ℕ) → IsWithin (2 ^ 51 + 2 ^ 26 * row) z → row < 64 → IsWithin (2 ^ 52) z
narrow z row h l = record { low = omega (arith, ints); high = omega (arith, ints) }

-- what is added at a sample
crossed : (strip : Strip) (d : Descent) (forward : Bool) (part row s k : ℕ) (w : PartWalk) → IsWalked strip part d row w → s < part_size strip.count → HasHeight d.edge (down (start_of strip (4 * part + s)) row).y
    → added_from w.columns s forward row k ≡ signed forward (direction d.edge (strip_sample strip (4 * part + s) row k))
crossed strip d forward part row s k w walked here height =
    let p : Position = down (start_of strip (4 * part + s)) row in
    let c : ℤ = slice_index_or w.columns s (pos 0) in
    ap (signed forward) (sym (direction-from d.edge p c k height (is_first_column d.edge p c (slice_index_or w.rests s (pos 0)) height (walked.at s here))))

-- a sample whose rows do not hold the row
not_crossed : (strip : Strip) (d : Descent) (forward : Bool) (j row k s : ℕ) (from to : List ℤ) → IsDescent strip d → IsFirstPixel (start_of strip j).y d.edge.a.y (slice_index_or from s (pos 0))
    → IsFirstPixel (start_of strip j).y d.edge.b.y (slice_index_or to s (pos 0)) → (HasRow from to row s → ⊥) → signed forward (direction d.edge (strip_sample strip j row k)) ≡ pos 0
not_crossed strip d forward j row k s from to h first end none = elim (above_or_not (pos row) (slice_index_or from s (pos 0))) [
  | inl l ↦ sample_above strip d forward j row k (slice_index_or from s (pos 0)) h first l
  | inr l ↦ elim (above_or_not (pos row) (slice_index_or to s (pos 0))) [
    | inl m ↦ absurd (none (l, m))
    | inr m ↦ sample_below strip d forward j row k (slice_index_or to s (pos 0)) h end m
  ]
]

-- the walk in the next row
walked_on : (strip : Strip) (part : ℕ) (d : Descent) (row : ℕ) (w w' : PartWalk) → IsDescent strip d → IsWalked strip part d row w
    → ((s : ℕ) → s < 4 → IsNextRow d (slice_index_or w.columns s (pos 0)) (slice_index_or w.rests s (pos 0)) (slice_index_or w'.columns s (pos 0)) (slice_index_or w'.rests s (pos 0)))
    → IsWalked strip part d (row + 1) w'
walked_on strip part d row w w' k h next = record {
  at = λ s l.
      let few = part_small strip.count in
      let n = next s (omega (arith, l, few)) in
      let start : Position = start_of strip (4 * part + s) in
      let m = stepped d.edge (down start row) d.height d.columns d.part (slice_index_or w.columns s (pos 0)) (slice_index_or w.rests s (pos 0)) k.tall k.step (h.at s l) in
      let x : ℤ = slice_index_or w.columns s (pos 0) in
      let y : ℤ = slice_index_or w.rests s (pos 0) in
      rw (n.next_column, n.next_rest) (subst (λ (q : Position). IsAtColumn d.edge q ((x +ℤ d.columns) +ℤ if_below (y -ℤ d.part) (pos 1)) ((y -ℤ d.part) +ℤ if_below (y -ℤ d.part) d.height)) (row_after start row) m);
  columns = λ s l. further _ _ _ _ row (h.columns s l) k.small.columns (below_size (2 ^ 25) _ _ one) (next s l).next_column;
  rests = λ s l. less _ _ _ _ row (h.rests s l) k.small.part (below_size (2 ^ 25) _ _ k.small.height) (next s l).next_rest;
}
  where
    one : IsWithin (2 ^ 25) (pos 1)
    one = record { low = omega (arith, ints); high = omega (arith, ints) }

    further : (c q m c' : ℤ) (n : ℕ) → IsWithin (2 ^ 51 + 2 ^ 26 * n) c → IsWithin (2 ^ 25) q → IsWithin (2 ^ 25) m → c' ≡ (c +ℤ q) +ℤ m → IsWithin (2 ^ 51 + 2 ^ 26 * (n + 1)) c'
    further c q m c' n a b d e = record { low = omega (arith, ints); high = omega (arith, ints) }

    less : (c q m c' : ℤ) (n : ℕ) → IsWithin (2 ^ 51 + 2 ^ 26 * n) c → IsWithin (2 ^ 25) q → IsWithin (2 ^ 25) m → c' ≡ (c -ℤ q) +ℤ m → IsWithin (2 ^ 51 + 2 ^ 26 * (n + 1)) c'
    less c q m c' n a b d e = record { low = omega (arith, ints); high = omega (arith, ints) }

pub loop-row-init : goal.loop-row-init
loop-row-init g c =
    let strip = c.args.starts.now.strip in let d = c.args.descent.now in
    record {
      walked = c.new-walk.ensures;
      added = rows_above c.args.rule strip c.args.part (λ p. signed c.args.forward (direction d.edge p)) d.first _ _
          (λ s row k x y h. nothing_above strip d c.args.forward (4 * c.args.part + s) row k c.requires.descent y);
    }

pub cross_row-requires-clause-size : goal.cross_row-requires-clause-size
cross_row-requires-clause-size g c = let few = part_small c.args.starts.now.strip.count in omega (arith, c.requires.size, few)

pub cross_row-requires-clause-row : goal.cross_row-requires-clause-row
cross_row-requires-clause-row g c = omega (arith, c.loop-row-test.true, c.requires.descent.most)

pub cross_row-requires-clause-counters : goal.cross_row-requires-clause-counters
cross_row-requires-clause-counters g c =
    let v = c.loop-row.invariant.added in
    has_counters c.args.rule c.args.flags.now c.args.counters.now c.loop-row.flags c.loop-row.counters v.flags_len v.counters_len c.requires.counters

pub cross_row-requires-clause-columns : goal.cross_row-requires-clause-columns
cross_row-requires-clause-columns g c s l = narrow _ c.loop-row.row (c.loop-row.invariant.walked.columns s l) (omega (arith, c.loop-row-test.true, c.requires.descent.most))

pub loop-row-preserved : goal.loop-row-preserved
loop-row-preserved g c =
    let strip = c.args.starts.now.strip in let d = c.args.descent.now in let part = c.args.part in let forward = c.args.forward in
    let row = c.loop-row.row in
    let low : row < 64 = omega (arith, c.loop-row-test.true, c.requires.descent.most) in
    let from = rows_read _ _ _ _ _ c.y.ensures.in_band c.y.ensures.value c.rows-from.ensures in
    let to = rows_read _ _ _ _ _ c.y-2.ensures.in_band c.y-2.ensures.value c.rows-to.ensures in
    record {
      walked = walked_on strip part d row c.loop-row.walk _ c.requires.descent c.loop-row.invariant.walked c.next-walk.ensures;
      added = one_row_more c.args.rule strip part (λ p. signed forward (direction d.edge p)) _ row c.loop-row.walk.columns c.rows-from.result c.rows-to.result forward _ _ _ _ _ _ c.requires.size low
          (λ s k x has. (let here : s < part_size strip.count = omega (arith, x, c.requires.size) in
          crossed strip d forward part row s k c.loop-row.walk c.loop-row.invariant.walked here (at_height strip d (4 * part + s) row _ _ (from.first s here) (to.first s here) has.0 has.1)))
          (λ s k x none. (let here : s < part_size strip.count = omega (arith, x, c.requires.size) in
          not_crossed strip d forward (4 * part + s) row k s c.rows-from.result c.rows-to.result c.requires.descent (from.first s here) (to.first s here) none))
          c.loop-row.invariant.added c.cross_row.ensures;
    }

pub next-walk-requires-clause-columns : goal.next-walk-requires-clause-columns
next-walk-requires-clause-columns g c s l = narrow _ c.loop-row.row (c.loop-row.invariant.walked.columns s l) (omega (arith, c.loop-row-test.true, c.requires.descent.most))

pub next-walk-requires-clause-rests : goal.next-walk-requires-clause-rests
next-walk-requires-clause-rests g c s l = narrow _ c.loop-row.row (c.loop-row.invariant.walked.rests s l) (omega (arith, c.loop-row-test.true, c.requires.descent.most))

pub returns : goal.returns
returns g c =
    let strip = c.args.starts.now.strip in let d = c.args.descent.now in
    let n = c.loop-row.row in
    let end : d.end ≤ n = omega (arith, c.loop-row-test.false) in
    rows_below c.args.rule strip c.args.part (λ p. signed c.args.forward (direction d.edge p)) n _ _ _ _
    (λ s row k x y h. nothing_below strip d c.args.forward (4 * c.args.part + s) row k c.requires.descent (omega (arith, end, y)) h) c.loop-row.invariant.added
