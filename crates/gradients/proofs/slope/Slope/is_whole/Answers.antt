use Rattle.std.proofs.Common.{refl, rules, subst, arith, IsTrue, FitsSigned, w32, w64}
use Rattle.std.proofs.lemmas.Int.{ints, to_z-of_z}
use Rattle.gradients.proofs.WholeValues.{whole_from, whole_of_one}
use Rattle.gradients.proofs.slope.Slope.is_whole.Goals as goal

pub returns-then-bits-eq0 : goal.returns-then-bits-eq0
returns-then-bits-eq0 c found = whole_of_one c.args.fraction c.args.reciprocal.area c.unit_bits-bits.result c.args.self.now c.unit_bits-bits.ensures.few c.if-bits-eq0.true

pub returns : goal.returns
returns c found =
    let x : FitsSigned w32 c.args.self.now.x = search rules in
    let y : FitsSigned w32 c.args.self.now.y = search rules in
    let across : FitsSigned w64 c.args.self.now.across = search rules in
    let down : FitsSigned w64 c.args.self.now.down = search rules in
    let s = c.args.self.now in
    let m = c.past_sixteenth.result in
    let n = c.past_sixteenth-2.result in
    whole_from c.args.fraction c.args.reciprocal.area s m n c.large_unit.result _ c.unsigned_abs.result _ c.unsigned_abs-2.result c.unsigned_abs-3.result
    (omega (arith, ints, c.unsigned_abs.ensures.value, c.requires.bounded.across)) (omega (arith, ints, c.unsigned_abs-2.ensures.value, c.requires.bounded.down)) refl refl
    (omega (arith, ints, c.unsigned_abs-3.ensures.value, c.past_sixteenth.ensures.size, c.past_sixteenth-2.ensures.size)) (rw (to_z-of_z w32 _ x, to_z-of_z w64 _ across) at c.past_sixteenth.ensures.value) (rw (to_z-of_z w32 _ y, to_z-of_z w64 _ down) at c.past_sixteenth-2.ensures.value)
    c.large_unit.ensures.few c.large_unit.ensures.divides (subst IsTrue c.is_some.ensures found)
