-- The last element of a row leaves.
use Rattle.std.proofs.Common.{◌≡◌, ℕ, ◌+◌, ◌<◌, ◌≤◌, ◌≢◌, List, [], ◌∷◌, ◌++◌, length, get_or, sym, ap, ◌∙◌, subst, arith}
use Rattle.std.specs.List.{remove}
use Rattle.std.proofs.lemmas.List.{get_or_append_left}
use Rattle.std.proofs.Math.Seq.{get_or-append_seam}
use mathlib.Core.Logic.{dite}
use native.Mathlib.Decide.{ℕ_discrete}

module _ {A : Type 0} (old new : List A) (x : A) (k : ℕ) (is : old ≡ new ++ x ∷ []) (len : length new ≡ k) where
  pub popped : (o : A) → get_or old k o ≡ x
  popped o = ap (λ (l : List A). get_or l k o) is ∙ ap (λ (i : ℕ). get_or (new ++ x ∷ []) i o) (sym len) ∙ get_or-append_seam new x [] o

  pub stays : (d : ℕ) (o : A) → d < k → get_or new d o ≡ get_or old d o
  stays d o h = sym (ap (λ (l : List A). get_or l d o) is ∙ get_or_append_left new (x ∷ []) o d (omega arith))

-- a fact of the element at k, and of all after it
pub from_here : (P : ℕ → Type 0) (k n : ℕ) → P k → ((d : ℕ) → k + 1 ≤ d → d < n → P d) → (d : ℕ) → k ≤ d → d < n → P d
from_here P k n here after d le lt = dite (ℕ_discrete d k) (λ (e : d ≡ k). subst P (sym e) here) (λ (ne : d ≢ k). after d (omega arith) lt)

-- the first element leaves
pub headed : {A : Type 0} (xs : List A) (x : A) (ys : List A) → 0 < length xs → x ≡ get_or xs 0 x → ys ≡ remove xs 0 → xs ≡ x ∷ ys
headed [] x ys some at rest = absurd (omega arith)
headed (y ∷ zs) x ys some at rest = λ i. sym at i ∷ sym rest i

pub some_of : {A : Type 0} (l : List A) → 0 < length l → A
some_of [] h = absurd (omega arith)
some_of (x ∷ xs) h = x
