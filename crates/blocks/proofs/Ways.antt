-- The ways that the first plane of a tile says, by its green and its red bytes.
use Rattle.std.proofs.Common.{◌≡◌, ◌≢◌, ◌∙◌, inl, inr, refl, sym, ap, subst, ℕ, ◌<◌, Bool, true, false, List, length, slice_index, slice_set, arith}
use Rattle.std.specs.Prelude.{◌==◌, if◌then◌else◌, replicate}
use Rattle.std.proofs.lemmas.Bool.Decides.{eqb_tells}
use Rattle.std.proofs.lemmas.List.{get_or-set_other, get_or-replicate, length-replicate}
use Rattle.std.proofs.lemmas.Grind.{same_number_lists}
use Rattle.blocks.specs.declared.way.Way.{Way}
use Rattle.blocks.specs.declared.way.Way.TheVariants.{Cleared, Single, Pair, Own, Flat, FlatPair, FlatFour}
use Rattle.blocks.specs.Layout.{by_byte}

abbrev pub way_by : List ℕ → List ℕ → ℕ → Way
way_by green red m = if slice_index green 0 == 0 then Own else by_byte (slice_index red m)

-- ---- own blocks
either_own : (b : Bool) → (if b then Own else Own) ≡ Own
either_own true = refl
either_own false = refl

pub own_by_green : (green red : List ℕ) (m : ℕ) → slice_index green 0 ≡ 0 → way_by green red m ≡ Own
own_by_green green red m e = ap (λ g. if g == 0 then Own else by_byte (slice_index red m)) e

pub own_by_red : (green red : List ℕ) (m : ℕ) → slice_index red m ≡ 0 → way_by green red m ≡ Own
own_by_red green red m e =
    ap (λ r. if slice_index green 0 == 0 then Own else by_byte r) e ∙ either_own (slice_index green 0 == 0)

pub own_before : (green old : List ℕ) (m : ℕ) → m < 64 → slice_index old 0 ≡ 0 → (red : List ℕ) → way_by green (replicate 64 0) m ≡ way_by old red m
own_before green old m l e red = own_by_red green (replicate 64 0) m (get_or-replicate 64 m 0 0 l) ∙ sym (own_by_green old red m e)

-- ---- cleared blocks
IsNotCleared : Way → Type 0
IsNotCleared Cleared = ⊥
IsNotCleared Single = Unit {0}
IsNotCleared Pair = Unit {0}
IsNotCleared Own = Unit {0}
IsNotCleared Flat = Unit {0}
IsNotCleared FlatPair = Unit {0}
IsNotCleared FlatFour = Unit {0}

pub own_not_cleared : Own ≢ Cleared
unfolding IsNotCleared
own_not_cleared e = subst IsNotCleared e tt

pub single_not_cleared : Single ≢ Cleared
unfolding IsNotCleared
single_not_cleared e = subst IsNotCleared e tt

pub pair_not_cleared : Pair ≢ Cleared
unfolding IsNotCleared
pair_not_cleared e = subst IsNotCleared e tt

flat_not_cleared : Flat ≢ Cleared
unfolding IsNotCleared
flat_not_cleared e = subst IsNotCleared e tt

flat_pair_not_cleared : FlatPair ≢ Cleared
unfolding IsNotCleared
flat_pair_not_cleared e = subst IsNotCleared e tt

flat_four_not_cleared : FlatFour ≢ Cleared
unfolding IsNotCleared
flat_four_not_cleared e = subst IsNotCleared e tt

pub cleared_by : (green red : List ℕ) (m : ℕ) → slice_index green 0 ≢ 0 → slice_index red m ≡ 1 → way_by green red m ≡ Cleared
cleared_by green red m some e =
    ap (λ r. if slice_index green 0 == 0 then Own else by_byte r) e
    ∙ elim (eqb_tells (slice_index green 0) 0) [
      | inl none ↦ absurd (some none.1)
      | inr other ↦ ap (λ b. if b then Own else Cleared) other.0
    ]

some_green : (green red : List ℕ) (m : ℕ) → way_by green red m ≡ Cleared → slice_index green 0 ≢ 0
some_green green red m e none = own_not_cleared (sym (own_by_green green red m none) ∙ e)

abbrev another : Bool → Bool → Bool → Bool → Bool → Way
another b c d e f = if b then Single else (if c then Pair else (if d then Flat else (if e then FlatPair else (if f then FlatFour else Own))))

not_any : (b c d e f : Bool) → another b c d e f ≢ Cleared
not_any true c d e f = single_not_cleared
not_any false true d e f = pair_not_cleared
not_any false false true e f = flat_not_cleared
not_any false false false true f = flat_pair_not_cleared
not_any false false false false true = flat_four_not_cleared
not_any false false false false false = own_not_cleared

red_one : (green red : List ℕ) (m : ℕ) → way_by green red m ≡ Cleared → slice_index red m ≡ 1
red_one green red m e =
    elim (eqb_tells (slice_index green 0) 0) [
      | inl none ↦ absurd (some_green green red m e none.1)
      | inr other ↦
          let by_red : by_byte (slice_index red m) ≡ Cleared =
          sym (ap (λ b. if b then Own else by_byte (slice_index red m)) other.0) ∙ e in
          elim (eqb_tells (slice_index red m) 1) [
            | inl one ↦ one.1
            | inr not_one ↦ absurd (not_any (slice_index red m == 2) (slice_index red m == 3) (slice_index red m == 4) (slice_index red m == 5) (slice_index red m == 6) (sym (ap (λ b. if b then Cleared else another (slice_index red m == 2) (slice_index red m == 3) (slice_index red m == 4) (slice_index red m == 5) (slice_index red m == 6)) not_one.0) ∙ by_red))
          ]
    ]

pub all_cleared : (green red : List ℕ) → slice_index green 0 ≢ 0 → red ≡ replicate 64 1 → (k : ℕ) → k < 64 → way_by green red k ≡ Cleared
all_cleared green red some is k l = cleared_by green red k some (ap (λ xs. slice_index xs k) is ∙ get_or-replicate 64 k 1 0 l)

pub reds_of_cleared : (green red : List ℕ) → length red ≡ 64 → ((k : ℕ) → k < 64 → way_by green red k ≡ Cleared) → red ≡ replicate 64 1
reds_of_cleared green red long all =
    same_number_lists red (replicate 64 1) (long ∙ sym (length-replicate {A = ℕ} 64 1))
    (λ k l. (let small : k < 64 = omega (arith, l, long) in red_one green red k (all k small) ∙ sym (get_or-replicate {A = ℕ} 64 k 1 0 small)))

pub some_of_cleared : (green red : List ℕ) → ((k : ℕ) → k < 64 → way_by green red k ≡ Cleared) → slice_index green 0 ≢ 0
some_of_cleared green red all = some_green green red 0 (all 0 (omega arith))

-- ---- another red byte
pub other_way : (green red : List ℕ) (k byte m : ℕ) → m ≢ k → way_by green (slice_set red k byte) m ≡ way_by green red m
other_way green red k byte m other =
    ap (λ r. if slice_index green 0 == 0 then Own else by_byte r) (get_or-set_other red k m byte 0 other)

-- ---- blocks that are kept in one plane of their own
IsNotSingle : Way → Type 0
IsNotSingle Cleared = Unit {0}
IsNotSingle Single = ⊥
IsNotSingle Pair = Unit {0}
IsNotSingle Own = Unit {0}
IsNotSingle Flat = Unit {0}
IsNotSingle FlatPair = Unit {0}
IsNotSingle FlatFour = Unit {0}

pub own_not_single : Own ≢ Single
unfolding IsNotSingle
own_not_single e = subst IsNotSingle e tt

-- ---- flat blocks
IsNotFlat : Way → Type 0
IsNotFlat Cleared = Unit {0}
IsNotFlat Single = Unit {0}
IsNotFlat Pair = Unit {0}
IsNotFlat Own = Unit {0}
IsNotFlat Flat = ⊥
IsNotFlat FlatPair = Unit {0}
IsNotFlat FlatFour = Unit {0}

pub pair_not_flat : Pair ≢ Flat
unfolding IsNotFlat
pair_not_flat e = subst IsNotFlat e tt

pub flat_pair_not_flat : FlatPair ≢ Flat
unfolding IsNotFlat
flat_pair_not_flat e = subst IsNotFlat e tt

-- ---- blocks of up to four samples
IsNotFour : Way → Type 0
IsNotFour Cleared = Unit {0}
IsNotFour Single = Unit {0}
IsNotFour Pair = Unit {0}
IsNotFour Own = Unit {0}
IsNotFour Flat = Unit {0}
IsNotFour FlatPair = Unit {0}
IsNotFour FlatFour = ⊥

pub pair_not_four : Pair ≢ FlatFour
unfolding IsNotFour
pair_not_four e = subst IsNotFour e tt

pub flat_pair_not_four : FlatPair ≢ FlatFour
unfolding IsNotFour
flat_pair_not_four e = subst IsNotFour e tt
