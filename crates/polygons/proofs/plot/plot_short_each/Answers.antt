use Rattle.std.proofs.Common.{◌≡◌, refl, ◌∙◌, sym, subst, ap, inl, inr, arith, ℕ, ◌+◌, ◌-◌, ◌*◌, ◌<◌, ℤ, bit_and, w64}
use Rattle.std.proofs.lemmas.Bool.{cases_eq}
use Rattle.std.specs.Int.{bit_at, trailing_zeros}
use Rattle.grid.specs.Position.{Position}
use Rattle.polygons.specs.declared.edge.Edge.{Edge}
use Rattle.polygons.specs.Blocks.{down}
use Rattle.polygons.specs.Cells.{added_by}
use Rattle.polygons.specs.Crossed.{IsCrossedFrom}
use Rattle.polygons.specs.Strip.{start_of}
use Rattle.polygons.proofs.LowestBit.{lowest, bits_of_part, part_few}
use Rattle.polygons.proofs.Plotted.{has_counters, part_small, signed_none, walk_added, added_as, added_all, all_left, one_sample_less, none_left_of}
use Rattle.polygons.proofs.Samples.{few_parts, in_part}
use Rattle.polygons.proofs.ShortEdges.{other_row, missed_row}
use Rattle.polygons.proofs.plot.plot_short_each.Goals as goal

there : (e : Edge) (start : Position) (row row' : ℕ) (column column' : ℤ) → row' ≡ row → column' ≡ column → IsCrossedFrom e start row column → IsCrossedFrom e start row' column'
there e start row row' column column' r c h = subst (λ (n : ℕ). IsCrossedFrom e start n column') (sym r) (subst (λ (z : ℤ). IsCrossedFrom e start row z) (sym c) h)

pub loop-rest-init : goal.loop-rest-init
loop-rest-init c =
    let bits = c.args.crossings.now.bits in
    let part = c.args.part in
    let e = c.args.edge.now in
    let strip = c.args.starts.now.strip in
    record {
      few = part_few bits (4 * part);
      some = λ s l one. sym (bits_of_part bits (4 * part) s l) ∙ one;
      left = all_left c.args.rule strip part _ _ c.args.flags.now c.args.counters.now (λ s row k l zero h.
          let few = part_small strip.count in
          signed_none c.args.forward _ (missed_row e (start_of strip (4 * part + s)) row k c.requires.runs_down
          (c.requires.crossings.missed (4 * part + s) (in_part strip.count part s c.requires.part l) (sym (bits_of_part bits (4 * part) s (omega (arith, l, few))) ∙ zero)) h));
    }

pub row-row-requires : goal.row-row-requires
row-row-requires c = few_parts c.args.starts.now.strip.count c.args.part _ c.requires.part (lowest c.loop-rest.rest c.loop-rest-test.true c.loop-rest.invariant.few).few

pub column-column-requires : goal.column-column-requires
column-column-requires c = few_parts c.args.starts.now.strip.count c.args.part _ c.requires.part (lowest c.loop-rest.rest c.loop-rest-test.true c.loop-rest.invariant.few).few

pub cross-requires-clause-sample : goal.cross-requires-clause-sample
cross-requires-clause-sample c = (lowest c.loop-rest.rest c.loop-rest-test.true c.loop-rest.invariant.few).few

pub cross-requires-clause-row : goal.cross-requires-clause-row
cross-requires-clause-row c =
    let low = lowest c.loop-rest.rest c.loop-rest-test.true c.loop-rest.invariant.few in
    let place = 4 * c.args.part + trailing_zeros w64 c.loop-rest.rest in
    let one = c.loop-rest.invariant.some _ low.few low.one in
    let held = c.requires.crossings.held place (few_parts c.args.starts.now.strip.count c.args.part _ c.requires.part low.few) one in
    let within = (c.requires.crossings.crossed place held one).within in
    subst (λ (n : ℕ). n < 64) (sym c.row-row.ensures) within

pub cross-requires-clause-counters : goal.cross-requires-clause-counters
cross-requires-clause-counters c =
    has_counters c.args.rule c.args.flags.now c.args.counters.now c.loop-rest.flags c.loop-rest.counters c.loop-rest.invariant.left.flags_len c.loop-rest.invariant.left.counters_len c.requires.counters

pub loop-rest-preserved : goal.loop-rest-preserved
loop-rest-preserved c =
    let e = c.args.edge.now in
    let strip = c.args.starts.now.strip in
    let forward = c.args.forward in
    let v = c.loop-rest.invariant in
    let low = lowest c.loop-rest.rest c.loop-rest-test.true v.few in
    let s = trailing_zeros w64 c.loop-rest.rest in
    let place = 4 * c.args.part + s in
    let start = start_of strip place in
    let one = v.some s low.few low.one in
    let held = c.requires.crossings.held place (few_parts strip.count c.args.part s c.requires.part low.few) one in
    let n = c.row-row.result in
    let at = there e start _ n _ c.column-column.result c.row-row.ensures c.column-column.ensures (c.requires.crossings.crossed place held one) in
    let added = added_all c.args.rule s n (n + 1) (added_by e forward start) _ _ _ _ low.few
    (λ row k h. signed_none forward _ (other_row e start n row k c.requires.short c.requires.runs_down at.through (λ q. omega (arith, q, h))))
    (λ row k h l. signed_none forward _ (other_row e start n row k c.requires.short c.requires.runs_down at.through (λ q. omega (arith, q, h))))
    (added_as c.args.rule s n (n + 1) _ (added_by e forward start) _ _ _ _
    (walk_added e start forward n (record { edge = e; row = down start n }) c.column-column.result (record { sfits = c.column-column.type_inv }) refl at.first at.through) c.cross.ensures) in
    record {
      few = low.small;
      some = λ j l set. elim (cases_eq j s) [
        | inl q ↦ absurd (let zero = low.cleared in let here = sym (ap (bit_at (bit_and c.loop-rest.rest (c.loop-rest.rest - 1))) q) ∙ set in omega arith)
        | inr q ↦ v.some j l (sym (low.others j l q) ∙ set)
      ];
      left = one_sample_less c.args.rule strip c.args.part _ c.loop-rest.rest s _ (added_by e forward start) _ _ _ _ _ _ low.few low.one low.others low.cleared (λ row k. refl) v.left added;
    }

pub returns : goal.returns
returns c = none_left_of c.args.rule c.args.starts.now.strip c.args.part _ c.loop-rest.rest _ _ _ _ c.loop-rest-test.false c.loop-rest.invariant.left
