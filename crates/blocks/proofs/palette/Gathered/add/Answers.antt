use Rattle.std.proofs.Common.{rules, ◌∙◌, sym, ℕ, ◌<◌, ◌^◌, slice_index, arith}
use Rattle.std.proofs.lemmas.Bool.{false≢true}
use Rattle.grid.specs.Samples.{count_of}
use Rattle.shade.proofs.Resolved.{few_samples}
use Rattle.blocks.proofs.MaskBits.{none_of_bits}
use Rattle.blocks.proofs.palette.Gathered.add.Goals as goal

pub returns-in-None-clause-empty : goal.returns-in-None-clause-empty
returns-in-None-clause-empty c clear =
    let fits : (s : ℕ) → s < count_of c.args.count → slice_index c.args.masks.now s < 2 ^ 64 = λ s h. (let small : s < 16 = omega (arith, h, few_samples c.args.count) in search rules) in
    absurd (false≢true (sym (c.has_bits.ensures.1 (λ s h. none_of_bits (slice_index c.args.masks.now s) (fits s h) (λ p l. clear s p h l))) ∙ c.if-not-has_bits.false))

pub returns-in-Some-clause-empty : goal.returns-in-Some-clause-empty
returns-in-Some-clause-empty c clear =
    let fits : (s : ℕ) → s < count_of c.args.count → slice_index c.args.masks.now s < 2 ^ 64 = λ s h. (let small : s < 16 = omega (arith, h, few_samples c.args.count) in search rules) in
    absurd (false≢true (sym (c.has_bits.ensures.1 (λ s h. none_of_bits (slice_index c.args.masks.now s) (fits s h) (λ p l. clear s p h l))) ∙ c.if-not-has_bits.false))
