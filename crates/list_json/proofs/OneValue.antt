-- A JSON value denotes at most one thing: what holds of every kind of value.
use Rattle.std.proofs.Common.{◌≡◌, refl, sym, ◌∙◌, ℕ, ℤ, pos, List, [], ◌∷◌, length, slice_index, slice_index_or, Option, Some, None, arith}
use Rattle.serde_json.specs.Data.{Data, no_items, item}
use Rattle.list_json.specs.Json.{elements}
use Rattle.list_json.specs.Denotes.{OrDefault, Each, IsArrayOf}

-- A value denotes at most one thing.
abbrev pub IsUnique : {V X : Type 0} → (V → X → Type 0) → Type 0
IsUnique {V} {X} Is = (value : V) (x y : X) → Is value x → Is value y → x ≡ y

pub same_some : {X : Type 0} (o : Option X) (x y : X) → o ≡ Some x → o ≡ Some y → x ≡ y
same_some o x y e f = cc

pub same_number : (o : Option ℤ) (m n : ℕ) → o ≡ Some (pos m) → o ≡ Some (pos n) → m ≡ n
same_number o m n e f = cc

pub default-unique : {X : Type 0} (default : X) (Is : Option Data → X → Type 0) → IsUnique Is → IsUnique (OrDefault default Is)
default-unique default Is unique None x y h k = h ∙ sym k
default-unique default Is unique (Some value) x y h k = unique (Some value) x y h k

-- ---- arrays

same_cons : {X : Type 0} (x y : X) (xs ys : List X) → x ≡ y → xs ≡ ys → x ∷ xs ≡ y ∷ ys
same_cons x y xs ys e f = cc

each-unique : {X : Type 0} (Is : Data → X → Type 0) → IsUnique Is → IsUnique (Each Is)
each-unique Is unique no_items [] [] h k = refl
each-unique Is unique no_items [] (y ∷ ys) h k = absurd k
each-unique Is unique no_items (x ∷ xs) ys h k = absurd h
each-unique Is unique (item d ds) [] ys h k = absurd h
each-unique Is unique (item d ds) (x ∷ xs) [] h k = absurd k
each-unique Is unique (item d ds) (x ∷ xs) (y ∷ ys) h k = same_cons x y xs ys (unique d x y h.0 k.0) (each-unique Is unique ds xs ys h.1 k.1)

pub array-unique : {X : Type 0} (most : ℕ) (Is : Data → X → Type 0) → IsUnique Is → IsUnique (IsArrayOf most Is)
array-unique most Is unique value xs ys h k = each-unique Is unique (elements value) xs ys h.parts k.parts

as_three : {X : Type 0} (xs : List X) (d : X) → length xs ≡ 3 → xs ≡ slice_index_or xs 0 d ∷ slice_index_or xs 1 d ∷ slice_index_or xs 2 d ∷ []
as_three [] d e = absurd (omega arith)
as_three (a ∷ []) d e = absurd (omega arith)
as_three (a ∷ b ∷ []) d e = absurd (omega arith)
as_three (a ∷ b ∷ c ∷ []) d e = refl
as_three (a ∷ b ∷ c ∷ x ∷ xs) d e = absurd (omega arith)

as_four : (xs : List ℕ) → length xs ≡ 4 → xs ≡ slice_index xs 0 ∷ slice_index xs 1 ∷ slice_index xs 2 ∷ slice_index xs 3 ∷ []
as_four [] e = absurd (omega arith)
as_four (a ∷ []) e = absurd (omega arith)
as_four (a ∷ b ∷ []) e = absurd (omega arith)
as_four (a ∷ b ∷ c ∷ []) e = absurd (omega arith)
as_four (a ∷ b ∷ c ∷ d ∷ []) e = refl
as_four (a ∷ b ∷ c ∷ d ∷ x ∷ xs) e = absurd (omega arith)

pub made_same_three : {X : Type 0} (a b c a' b' c' : X) → a ≡ a' → b ≡ b' → c ≡ c' → a ∷ b ∷ c ∷ [] ≡ a' ∷ b' ∷ c' ∷ []
made_same_three a b c a' b' c' e f g = cc

pub same_three : {X : Type 0} (xs ys : List X) (d : X) → length xs ≡ 3 → length ys ≡ 3 → slice_index_or xs 0 d ≡ slice_index_or ys 0 d → slice_index_or xs 1 d ≡ slice_index_or ys 1 d
    → slice_index_or xs 2 d ≡ slice_index_or ys 2 d → xs ≡ ys
same_three xs ys d m n e f g = as_three xs d m ∙ made_same_three _ _ _ _ _ _ e f g ∙ sym (as_three ys d n)

made_same_four : (a b c d a' b' c' d' : ℕ) → a ≡ a' → b ≡ b' → c ≡ c' → d ≡ d' → a ∷ b ∷ c ∷ d ∷ [] ≡ a' ∷ b' ∷ c' ∷ d' ∷ []
made_same_four a b c d a' b' c' d' e f g h = cc

pub same_four : (xs ys : List ℕ) → length xs ≡ 4 → length ys ≡ 4 → slice_index xs 0 ≡ slice_index ys 0 → slice_index xs 1 ≡ slice_index ys 1
    → slice_index xs 2 ≡ slice_index ys 2 → slice_index xs 3 ≡ slice_index ys 3 → xs ≡ ys
same_four xs ys m n e f g h = as_four xs m ∙ made_same_four _ _ _ _ _ _ _ _ e f g h ∙ sym (as_four ys n)
