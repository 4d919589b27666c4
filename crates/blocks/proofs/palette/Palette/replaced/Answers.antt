use Rattle.std.proofs.Common.{arith, ℕ, ◌∙◌, sym, subst}
use Rattle.std.proofs.lemmas.Bool.{false≢true}
use Rattle.blocks.specs.Palettes.{sample_numbered}
use Rattle.blocks.proofs.Needed.{AreNeeded, none_needed, one_needed, five_needed, kept_occurs, changed_occurs}
use Rattle.blocks.proofs.Palettes.{kept_is_new, changed_is_new, next_below, all_below}
use Rattle.blocks.proofs.palette.Palette.replaced.Goals as goal

pub loop-number-init : goal.loop-number-init
loop-number-init c = record {
  below = record { done = λ s p h l below. absurd (omega (arith, below)); rest = λ s p h l from. c.none-gathered.ensures.numbers s p };
  needed = none_needed c.args.count c.args.self.now c.args.masks.now c.args.drawn.now c.none-gathered.result.palette.samples c.none-gathered.result.used c.none-gathered.ensures.used;
}

pub add-requires : goal.add-requires
add-requires c s p h l set =
    kept_is_new c.args.count c.args.self.now c.args.masks.now c.args.drawn.now c.loop-number.number c.pixels_of-pixels.result c.without-kept.result c.pixels_of-pixels.ensures c.without-kept.ensures.less c.without-kept.ensures.rest
    c.loop-number.gathered.palette c.loop-number.gathered.used c.loop-number.invariant.below s p h l set

pub add-requires-in-loop-number : goal.add-requires-in-loop-number
add-requires-in-loop-number c s p h l set =
    changed_is_new c.args.count c.args.self.now c.args.masks.now c.args.drawn.now c.loop-number.number c.pixels_of-pixels.result c.without-kept.result c.pixels_of-pixels.ensures c.without-kept.ensures.less c.without-kept.ensures.rest
    c.loop-number.gathered.palette c.loop-number.gathered.used c.loop-number.invariant.below
    c.shared-changed.result c.shared-changed.ensures c.add.new.self.palette c.add.new.self.used
    (record { added = c.add.ensures.added c.if-not-add.false; others = c.add.ensures.others c.if-not-add.false; kept = c.add.ensures.kept; rising = c.add.ensures.more }) s p h l set

pub loop-number-preserved : goal.loop-number-preserved
loop-number-preserved c =
    let count = c.args.count in
    let old = c.args.self.now in
    let masks = c.args.masks.now in
    let drawn = c.args.drawn.now in
    let number : ℕ = c.loop-number.number in
    let first = one_needed count old masks drawn c.loop-number.gathered.palette.samples c.add.new.self.palette.samples c.loop-number.gathered.used c.add.new.self.used (sample_numbered old.samples number) c.loop-number.invariant.needed
    c.add.ensures.kept c.add.ensures.fresh (λ rises. kept_occurs count old masks drawn number c.pixels_of-pixels.result c.without-kept.result c.pixels_of-pixels.ensures c.without-kept.ensures.less c.without-kept.ensures.rest
    (λ clear. (let same = (c.add.ensures.empty clear).1 in omega (arith, rises, same)))) in
    let second = one_needed count old masks drawn c.add.new.self.palette.samples c.add-in-loop-number.new.self.palette.samples c.add.new.self.used c.add-in-loop-number.new.self.used (sample_numbered drawn number) first
    c.add-in-loop-number.ensures.kept c.add-in-loop-number.ensures.fresh (λ rises. changed_occurs count old masks drawn number c.pixels_of-pixels.result c.without-kept.result c.pixels_of-pixels.ensures c.without-kept.ensures.less c.without-kept.ensures.rest
    c.shared-changed.result c.shared-changed.ensures (λ clear. (let same = (c.add-in-loop-number.ensures.empty clear).1 in omega (arith, rises, same)))) in
    record {
      needed = second;
      below =
          next_below c.args.count c.args.self.now c.args.masks.now c.args.drawn.now c.loop-number.number c.pixels_of-pixels.result c.without-kept.result c.pixels_of-pixels.ensures c.without-kept.ensures.less c.without-kept.ensures.rest
          c.loop-number.gathered.palette c.loop-number.gathered.used c.loop-number.invariant.below
          c.shared-changed.result c.shared-changed.ensures c.add.new.self.palette c.add.new.self.used
          (record { added = c.add.ensures.added c.if-not-add.false; others = c.add.ensures.others c.if-not-add.false; kept = c.add.ensures.kept; rising = c.add.ensures.more })
          c.add-in-loop-number.new.self.palette c.add-in-loop-number.new.self.used
          (record { added = c.add-in-loop-number.ensures.added c.if-not-add-2.false; others = c.add-in-loop-number.ensures.others c.if-not-add-2.false; kept = c.add-in-loop-number.ensures.kept; rising = c.add-in-loop-number.ensures.more });
    }

pub returns-clause-replaced : goal.returns-clause-replaced
returns-clause-replaced c = all_below c.args.count c.args.self.now c.args.masks.now c.args.drawn.now c.loop-number.gathered.palette c.loop-number.gathered.used c.loop-number.number (omega (arith, c.loop-number-test.false)) c.loop-number.invariant.below

-- a fifth sample, of those that are kept or of those that are changed
pub returns-then-not-add-clause-none : goal.returns-then-not-add-clause-none
returns-then-not-add-clause-none c new is =
    let count = c.args.count in
    let old = c.args.self.now in
    let masks = c.args.masks.now in
    let drawn = c.args.drawn.now in
    let number : ℕ = c.loop-number.number in
    let samples = c.loop-number.gathered.palette.samples in
    let full = c.add.ensures.full c.if-not-add.true in
    five_needed count old masks drawn samples (sample_numbered old.samples number) (subst (λ n. AreNeeded count old masks drawn samples n) full.0 c.loop-number.invariant.needed) full.1
    (kept_occurs count old masks drawn number c.pixels_of-pixels.result c.without-kept.result c.pixels_of-pixels.ensures c.without-kept.ensures.less c.without-kept.ensures.rest
    (λ clear. false≢true (sym c.if-not-add.true ∙ (c.add.ensures.empty clear).0))) new is

pub returns-then-not-add-2-clause-none : goal.returns-then-not-add-2-clause-none
returns-then-not-add-2-clause-none c new is =
    let count = c.args.count in
    let old = c.args.self.now in
    let masks = c.args.masks.now in
    let drawn = c.args.drawn.now in
    let number : ℕ = c.loop-number.number in
    let samples = c.add.new.self.palette.samples in
    let first = one_needed count old masks drawn c.loop-number.gathered.palette.samples samples c.loop-number.gathered.used c.add.new.self.used (sample_numbered old.samples number) c.loop-number.invariant.needed
    c.add.ensures.kept c.add.ensures.fresh (λ rises. kept_occurs count old masks drawn number c.pixels_of-pixels.result c.without-kept.result c.pixels_of-pixels.ensures c.without-kept.ensures.less c.without-kept.ensures.rest
    (λ clear. (let same = (c.add.ensures.empty clear).1 in omega (arith, rises, same)))) in
    let full = c.add-in-loop-number.ensures.full c.if-not-add-2.true in
    five_needed count old masks drawn samples (sample_numbered drawn number) (subst (λ n. AreNeeded count old masks drawn samples n) full.0 first) full.1
    (changed_occurs count old masks drawn number c.pixels_of-pixels.result c.without-kept.result c.pixels_of-pixels.ensures c.without-kept.ensures.less c.without-kept.ensures.rest
    c.shared-changed.result c.shared-changed.ensures (λ clear. false≢true (sym c.if-not-add-2.true ∙ (c.add-in-loop-number.ensures.empty clear).0))) new is
