-- The kinds of faults, one by one.
use Rattle.std.proofs.Common.{◌≡◌, ◌≢◌, refl}
use Rattle.draw_list.specs.declared.fault.ReadKind.{ReadKind}
use Rattle.draw_list.specs.declared.fault.ReadKind.TheVariants.{NotJson, UnknownKey, MissingKey, WrongKind, OutOfRange, BadIndex, TooMany, OutOfMemory, TwoLists, NotConvex}

pub no_other : (kind : ReadKind) → (kind ≢ OutOfMemory → ⊥) → kind ≡ OutOfMemory
no_other NotJson h = absurd (h (λ e. cc))
no_other UnknownKey h = absurd (h (λ e. cc))
no_other MissingKey h = absurd (h (λ e. cc))
no_other WrongKind h = absurd (h (λ e. cc))
no_other OutOfRange h = absurd (h (λ e. cc))
no_other BadIndex h = absurd (h (λ e. cc))
no_other TooMany h = absurd (h (λ e. cc))
no_other OutOfMemory h = refl
no_other TwoLists h = absurd (h (λ e. cc))
no_other NotConvex h = absurd (h (λ e. cc))
