use Rattle.std.proofs.Common.{rules, ◌≡◌, ◌≢◌, inl, inr, sym, ap, ◌∙◌, ℕ, ◌==◌, ◌∷◌, [], slice_index, if◌then◌else◌, arith}
use Rattle.std.specs.Int.{bit_at}
use Rattle.std.proofs.lemmas.Nat.Bits.{bit_at-lt}
use Rattle.shade.specs.declared.sample.CanvasSample.{CanvasSample}
use Rattle.blocks.specs.Layout.{chosen}
use Rattle.blocks.proofs.Pairs.{chosen_set, chosen_clear, chosen_same}
use Rattle.blocks.proofs.Palettes.{sample_chosen}
use Rattle.blocks.proofs.TilePlanes.{cases_eq}
use Rattle.blocks.proofs.palette.Palette.flat_replaced.Goals as goal

-- where the mask has a bit, both new samples are the same, and elsewhere the lower mask is what it was
by_mask : (mask low stored p : ℕ) (a b x y : CanvasSample) → x ≡ y → (bit_at mask p ≢ 1 → bit_at low p ≡ bit_at stored p)
    → chosen mask p (chosen low p y x) (chosen low p b a) ≡ chosen mask p (chosen stored p y x) (chosen stored p b a)
by_mask mask low stored p a b x y e kept = elim (cases_eq (bit_at mask p) 1) [
  | inl set ↦
      chosen_set mask p _ _ set ∙ chosen_same low p x y (sym e) ∙ sym (chosen_same stored p x y (sym e)) ∙ sym (chosen_set mask p _ _ set)
  | inr clear ↦
      chosen_clear mask p _ _ clear ∙ ap (λ bit. if bit == 1 then b else a) (kept clear) ∙ sym (chosen_clear mask p _ _ clear)
]

pub returns-then-eq-clause-replaced : goal.returns-then-eq-clause-replaced
returns-then-eq-clause-replaced c s p l m =
    let flat = c.args.flat.now in
    let mask = slice_index c.args.masks.now s in
    let same : c.args.first ≡ c.args.second = search rules in
    sym (sample_chosen (slice_index c.without-low.result s) mask p (flat.first ∷ flat.second ∷ c.args.first ∷ c.args.second ∷ []))
    ∙ by_mask mask (slice_index c.without-low.result s) (slice_index flat.masks s) p flat.first flat.second c.args.first c.args.second same (c.without-low.ensures.rest s p l m)

pub returns-clause-replaced : goal.returns-clause-replaced
returns-clause-replaced c s p l m =
    let flat = c.args.flat.now in
    sym (sample_chosen (slice_index flat.masks s) (slice_index c.args.masks.now s) p (flat.first ∷ flat.second ∷ c.args.first ∷ c.args.second ∷ []))

-- where the upper mask has a bit, the lower one has none
pub returns-then-eq-clause-fourth : goal.returns-then-eq-clause-fourth
returns-then-eq-clause-fourth c same s p l m fourth =
    let mask = slice_index c.args.masks.now s in
    let low = slice_index c.without-low.result s in
    elim (cases_eq (bit_at mask p) 1) [
      | inl set ↦ let none = c.without-low.ensures.less s p l m set in omega (arith, none, fourth, set)
      | inr clear ↦ let small = bit_at-lt low p in omega (arith, small, fourth, clear)
    ]
