use Rattle.std.proofs.Common.{◌≡◌, sym, ap, subst, ◌∙◌, arith, rules, ◌+◌, ◌-◌, ◌<◌, get_or, take, [], ◌∷◌, map, length}
use Rattle.std.specs.List.{range_with_len}
use Rattle.std.proofs.lemmas.List.{get_or-take, length-take}
use Rattle.fills.specs.declared.group.Span.{Span}
use Rattle.fills.specs.Batches.{shape_in}
use Rattle.fills.specs.Painting.{Shape, ArePainted}
use Rattle.fills.specs.Parts.{LiesInRows}
use Rattle.fills.proofs.Batches.{painted_more}
use Rattle.fills.proofs.Groups.{none}
use Rattle.fills.proofs.TileRows.{row_not_met}
use Rattle.fills.proofs.group.Group.paint_row.Goals as goal
use Rattle.fills.proofs.group.Group.paint_row.Goals.{then-has, else-has}

pub loop-at-preserved : goal.loop-at-preserved
loop-at-preserved c =
    let f = shape_in c.args.polygons.now c.args.style.now in
    let self = c.args.self.now in
    let at = c.loop-at.at in
    let number = self.first + at in
    let many = self.end - self.first in
    let origin = c.args.origin.now in
    let canvas = c.args.canvas.now in
    let row = c.args.row in
    let old = c.args.samples.now in
    let mid = c.loop-at.samples in
    let v = c.loop-at.invariant in
    let small : at < many = omega (arith, c.loop-at-test.true, length-take many self.spans) in
    elim c.if-has.branch [
      | then-has w ↦
          let one : ArePainted (f number ∷ []) origin canvas row (row + 1) mid w.paint_rows.new.samples = subst (λ (p : Shape). ArePainted (p ∷ []) origin canvas row (row + 1) mid w.paint_rows.new.samples) w.polygon-polygon.ensures w.paint_rows.ensures.painted in
          record {
            painted = λ fit. rw w.samples-is (painted_more f self.first at origin canvas row (row + 1) old mid w.paint_rows.new.samples (v.painted fit) one);
            flags = rw w.flags-is w.paint_rows.ensures.flags;
          }
      | else-has w ↦
          let place : number - self.first ≡ at = omega arith in
          let span : get_or self.spans (number - self.first) none ≡ get_or (take many self.spans) at none = ap (λ i. get_or self.spans i none) place ∙ sym (get_or-take many self.spans at none small) in
          record {
            painted = λ fit.
                let lies : LiesInRows (f number) origin canvas (get_or (take many self.spans) at none).top (get_or (take many self.spans) at none).bottom =
                subst (λ (s : Span). LiesInRows (f number) origin canvas s.top s.bottom) span (c.requires.ready.rows fit number (omega arith) (omega (arith, small))) in
                let unmet : ArePainted (f number ∷ []) origin canvas row (row + 1) mid mid = row_not_met (f number) origin canvas row _ _ mid (omega (arith, c.requires.row)) lies (λ p. let e = w.if-has.ensures.1 p in cc) in
                rw w.samples-is (painted_more f self.first at origin canvas row (row + 1) old mid mid (v.painted fit) unmet);
            flags = rw w.flags-is v.flags;
          }
    ]

pub polygon-polygon-requires-clause-seen : goal.polygon-polygon-requires-clause-seen
polygon-polygon-requires-clause-seen c =
    let self = c.args.self.now in
    let at = c.loop-at.at in
    let many = self.end - self.first in
    let small : at < many = omega (arith, c.loop-at-test.true, length-take many self.spans) in
    let place : self.first + at - self.first ≡ at = omega arith in
    let span : get_or self.spans (self.first + at - self.first) none ≡ get_or (take many self.spans) at none = ap (λ i. get_or self.spans i none) place ∙ sym (get_or-take many self.spans at none small) in
    let rows = c.has.ensures.0 c.if-has.true in
    let some : (get_or (take many self.spans) at none).top < (get_or (take many self.spans) at none).bottom = omega (arith, rows.0, rows.1) in
    c.requires.ready.seen (self.first + at) (omega arith) (omega (arith, small)) (subst (λ (s : Span). s.top < s.bottom) (sym span) some)

pub returns-clause-painted : goal.returns-clause-painted
returns-clause-painted c fit =
    let self = c.args.self.now in
    let many = self.end - self.first in
    let spans : length self.spans ≡ 4096 = search rules in
    let few = self.few in
    let all : c.loop-at.at ≡ many = omega (arith, c.loop-at-test.false, c.loop-at.auto.at-end, length-take many self.spans, spans, few) in
    subst (λ n. ArePainted (map (shape_in c.args.polygons.now c.args.style.now) (range_with_len self.first n)) c.args.origin.now c.args.canvas.now c.args.row (c.args.row + 1) c.args.samples.now c.loop-at.samples) all (c.loop-at.invariant.painted fit)
