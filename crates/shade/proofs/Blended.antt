-- A channel has exactly one blended value, and what an equation does not read has no part in it.
use Rattle.std.proofs.Common.{◌≡◌, ◌↔◌, inl, inr, refl, sym, ◌∙◌, ℕ, ◌+◌, ◌-◌, ◌*◌, ◌/◌, ◌<◌, ◌≤◌, min, max, arith, ℤ, pos, ◌+ℤ◌, ◌-ℤ◌}
use Rattle.std.proofs.lemmas.Int.{ints}
use Rattle.std.proofs.Math.Nat.{mul-le-mul_right}
use Rattle.shade.specs.declared.equation.BlendOperation.{BlendOperation}
use Rattle.shade.specs.declared.equation.BlendOperation.TheVariants.{Add, Subtract, ReverseSubtract, Min, Max}
use Rattle.shade.specs.declared.equation.Equation.{Equation}
use Rattle.shade.specs.declared.factor.BlendFactor.{BlendFactor}
use Rattle.shade.specs.declared.factor.BlendFactor.TheVariants as by
use Rattle.shade.specs.declared.operands.Channel.{Channel}
use Rattle.shade.specs.declared.operands.Channel.TheVariants.{Colour}
use Rattle.shade.specs.declared.operands.Operands.{Operands}
use Rattle.shade.specs.Blend.{factor, IsNearest, IsCombined, IsBlended, IsOver, IsOfSourceAlpha, ReadsSourceAlpha}
use Rattle.shade.specs.Presets.{over, replace}

-- ---- some value
of_sum : (p r : ℕ) → (n : ℕ) × (n ≤ 255) × IsNearest (pos p +ℤ pos r) n
of_sum p r = (min 255 ((p + r + 127) / 255), omega arith, record { most = omega arith; low = λ h. omega (arith, ints); high = λ h. omega (arith, ints) })

of_difference : (p r : ℕ) → (n : ℕ) × (n ≤ 255) × IsNearest (pos p -ℤ pos r) n
of_difference p r = (min 255 ((p + 127 - r) / 255), omega arith, record { most = omega arith; low = λ h. omega (arith, ints); high = λ h. omega (arith, ints) })

-- a byte, if the channels are
pub combined : (operation : BlendOperation) (s f d g : ℕ) → s ≤ 255 → d ≤ 255 → (n : ℕ) × (n ≤ 255) × IsCombined operation s f d g n
combined Add s f d g i j = of_sum (s * f) (d * g)
combined Subtract s f d g i j = of_difference (s * f) (d * g)
combined ReverseSubtract s f d g i j = of_difference (d * g) (s * f)
combined Min s f d g i j = (min s d, omega arith, refl)
combined Max s f d g i j = (max s d, omega arith, refl)

any_combined : (operation : BlendOperation) (s f d g : ℕ) → (n : ℕ) × IsCombined operation s f d g n
any_combined Add s f d g = let n = of_sum (s * f) (d * g) in (n.0, n.2)
any_combined Subtract s f d g = let n = of_difference (s * f) (d * g) in (n.0, n.2)
any_combined ReverseSubtract s f d g = let n = of_difference (d * g) (s * f) in (n.0, n.2)
any_combined Min s f d g = (min s d, refl)
any_combined Max s f d g = (max s d, refl)

pub blended : (e : Equation) (channel : Channel) (o : Operands) → (n : ℕ) × IsBlended e channel o n
blended e channel o = any_combined e.operation _ _ _ _

-- ---- one value
nearest-unique : (x : ℤ) (m n : ℕ) → IsNearest x m → IsNearest x n → m ≡ n
nearest-unique x m n h k = grind (arith, ints)

combined-unique : (operation : BlendOperation) (s f d g m n : ℕ) → IsCombined operation s f d g m → IsCombined operation s f d g n → m ≡ n
combined-unique Add s f d g m n h k = nearest-unique _ m n h k
combined-unique Subtract s f d g m n h k = nearest-unique _ m n h k
combined-unique ReverseSubtract s f d g m n h k = nearest-unique _ m n h k
combined-unique Min s f d g m n h k = h ∙ sym k
combined-unique Max s f d g m n h k = h ∙ sym k

pub blended-unique : (e : Equation) (channel : Channel) (o : Operands) (m n : ℕ) → IsBlended e channel o m → IsBlended e channel o n → m ≡ n
blended-unique e channel o m n h k = combined-unique e.operation _ _ _ _ m n h k

-- ---- the equations of draw lists
pub sum_small : (s a d : ℕ) → s ≤ 255 → a ≤ 255 → d ≤ 255 → s * a + d * (255 - a) ≤ 65025
sum_small s a d i j k =
    let left : s * a ≤ 255 * a = mul-le-mul_right a i in
    let right : d * (255 - a) ≤ 255 * (255 - a) = mul-le-mul_right (255 - a) k in
    omega (arith, left, right)

pub over_is : (o : Operands) (n : ℕ) → o.source ≤ 255 → o.source_alpha ≤ 255 → o.stored ≤ 255 → IsOver o.source o.source_alpha o.stored n ↔ IsBlended over Colour o n
over_is o n source alpha stored =
    let small = sum_small o.source o.source_alpha o.stored source alpha stored in (
      λ h. record { most = omega (arith, h.low); low = λ _. omega (arith, ints, h.low); high = λ _. omega (arith, ints, h.high) },
      λ h. record { low = low h small; high = high h small },
    )
  where
    low : IsBlended over Colour o n → o.source * o.source_alpha + o.stored * (255 - o.source_alpha) ≤ 65025 → n * 255 ≤ o.source * o.source_alpha + o.stored * (255 - o.source_alpha) + 127
    low h small = grind (arith, ints)

    high : IsBlended over Colour o n → o.source * o.source_alpha + o.stored * (255 - o.source_alpha) ≤ 65025 → o.source * o.source_alpha + o.stored * (255 - o.source_alpha) + 127 < (n + 1) * 255
    high h small = grind (arith, ints)

pub replaced : (o : Operands) (n : ℕ) → o.source ≤ 255 → IsBlended replace Colour o n → n ≡ o.source
replaced o n byte h = grind (arith, ints)

pub replace_is : (o : Operands) (n : ℕ) → o.source ≤ 255 → n ≡ o.source ↔ IsBlended replace Colour o n
replace_is o n byte = (
  λ e. record { most = omega arith; low = λ _. omega (arith, ints); high = λ _. omega (arith, ints) },
  λ h. replaced o n byte h,
)

-- what is replaced has no part in it
pub replaced_alike : (o p : Operands) (n : ℕ) → o.source ≡ p.source → IsBlended replace Colour o n → IsBlended replace Colour p n
replaced_alike o p n same h = record { most = h.most; low = λ some. omega (arith, ints, same, h.low some); high = λ less. omega (arith, ints, same, h.high less) }

-- ---- an alpha that is not read
-- the operands with another alpha of the source
abbrev pub with_alpha : Operands → ℕ → Operands
with_alpha o a = record { source = o.source; source_alpha = a; stored = o.stored; stored_alpha = o.stored_alpha; constant = o.constant }

same_factor : (f : BlendFactor) (o : Operands) (a : ℕ) → (IsOfSourceAlpha f → o.source_alpha ≡ a) → factor f Colour o ≡ factor f Colour (with_alpha o a)
same_factor by.Zero o a e = refl
same_factor by.One o a e = refl
same_factor by.SourceColour o a e = refl
same_factor by.InverseSourceColour o a e = refl
same_factor by.SourceAlpha o a e = e (inl refl)
same_factor by.InverseSourceAlpha o a e = let same = e (inr (inl refl)) in omega (arith, same)
same_factor by.StoredAlpha o a e = refl
same_factor by.InverseStoredAlpha o a e = refl
same_factor by.StoredColour o a e = refl
same_factor by.InverseStoredColour o a e = refl
same_factor by.SourceAlphaSaturated o a e = let same = e (inr (inr refl)) in omega (arith, same)
same_factor by.Constant o a e = refl
same_factor by.InverseConstant o a e = refl

module _ (f g : BlendFactor) (o : Operands) (a n : ℕ) (left : IsOfSourceAlpha f → o.source_alpha ≡ a) (right : IsOfSourceAlpha g → o.source_alpha ≡ a) where
  nearest_alike : (operation : BlendOperation) → IsCombined operation o.source (factor f Colour o) o.stored (factor g Colour o) n
      → IsCombined operation o.source (factor f Colour (with_alpha o a)) o.stored (factor g Colour (with_alpha o a)) n
  nearest_alike operation h = rw (← same_factor f o a left, ← same_factor g o a right) h

pub alike : (e : Equation) (o : Operands) (a n : ℕ) → (ReadsSourceAlpha e → o.source_alpha ≡ a) → IsBlended e Colour o n → IsBlended e Colour (with_alpha o a) n
alike e o a n same h = when e.operation e.source e.stored same h
  where
    when : (operation : BlendOperation) (f g : BlendFactor) → (ReadsSourceAlpha (record { source = f; stored = g; operation = operation }) → o.source_alpha ≡ a)
        → IsCombined operation o.source (factor f Colour o) o.stored (factor g Colour o) n → IsCombined operation o.source (factor f Colour (with_alpha o a)) o.stored (factor g Colour (with_alpha o a)) n
    when Add f g same h = nearest_alike f g o a n (λ of. same (record { factors = tt; alpha = inl of })) (λ of. same (record { factors = tt; alpha = inr of })) Add h
    when Subtract f g same h = nearest_alike f g o a n (λ of. same (record { factors = tt; alpha = inl of })) (λ of. same (record { factors = tt; alpha = inr of })) Subtract h
    when ReverseSubtract f g same h = nearest_alike f g o a n (λ of. same (record { factors = tt; alpha = inl of })) (λ of. same (record { factors = tt; alpha = inr of })) ReverseSubtract h
    when Min f g same h = h
    when Max f g same h = h
