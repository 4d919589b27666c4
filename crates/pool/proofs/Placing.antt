-- Elements counted from a first number, and answers at the places of their numbers.
use Rattle.std.proofs.Common.{◌≡◌, ◌≢◌, ℕ, zero, suc, ◌+◌, ◌<◌, List, [], ◌∷◌, ◌++◌, length, map, get_or, set, drop, Some, None, Option, is_some, IsTrue, true, false, Bool, cond, eqb, ◌⊎◌, inl, inr, ⊎_elim, refl, sym, ap, ◌∙◌, subst, arith, All}
use Rattle.std.specs.List.{list_any, range_with_len}
use Rattle.std.proofs.lemmas.Bool.Decides.{nat_tests}
use Rattle.std.proofs.lemmas.List.{get_or-set_same, get_or-set_other, get_or-map}
use Rattle.std.proofs.lemmas.List.Elements.{All-head, All-tail}
use Rattle.std.proofs.lemmas.List.Sums.{sum_by_push}
use Rattle.std.proofs.lemmas.Option.{slice_get_within, get_or_from_slice_get}
use mathlib.Core.Logic.{dite}
use native.Mathlib.Decide.{ℕ_discrete}
use Rattle.pool.specs.Counters.{times, once_below}
use Rattle.pool.specs.Dealing.{times_in, DealtOnce}
use Rattle.pool.specs.Work.{EachFrom, IsRightAnswer, AreRight, HasAnswer, RightInOrder}
use Rattle.pool.proofs.Counts.{times_cons}

-- one more element, with the next number
pub EachFrom-push : {X : Type 0} (fact : ℕ → X → Type 0) (first : ℕ) (xs : List X) (x : X) → EachFrom fact first xs → fact (first + length xs) x → EachFrom fact first (xs ++ x ∷ [])
EachFrom-push fact first [] x all here = (subst (λ (k : ℕ). fact k x) (omega arith) here, tt)
EachFrom-push fact first (y ∷ ys) x all here = (all.0, EachFrom-push fact (first + 1) ys x all.1 (subst (λ (k : ℕ). fact k x) (omega arith) here))

-- the first of what is left, and the rest
pub EachFrom-next : {X : Type 0} (fact : ℕ → X → Type 0) (first : ℕ) (whole rest : List X) (x : X) → whole ≡ x ∷ rest → EachFrom fact first whole → fact first x × EachFrom fact (first + 1) rest
EachFrom-next fact first whole rest x is all = subst (EachFrom fact first) is all

-- an answer more, at its place
pub AreRight-set : {Out : Type 0} (right : ℕ → Out → Type 0) (places : List (Option Out)) (number : ℕ) (answer : Out) → number < length places → AreRight right places → right number answer
    → AreRight right (set places number (Some answer))
AreRight-set right places number answer within all here k other at = dite (ℕ_discrete k number)
    (λ (e : k ≡ number).
    let new : get_or (set places number (Some answer)) k None ≡ Some answer = ap (λ (i : ℕ). get_or (set places number (Some answer)) i None) e ∙ get_or-set_same places number (Some answer) None within in
    let same : answer ≡ other = cc in
    subst (right k) same (subst (λ (i : ℕ). right i answer) (sym e) here))
    (λ (ne : k ≢ number). all k other (sym (get_or-set_other places number k (Some answer) None ne) ∙ at))

pub HasAnswer-same : {Out : Type 0} (places : List (Option Out)) (number : ℕ) (answer : Out) → number < length places → HasAnswer (set places number (Some answer)) number
HasAnswer-same places number answer within = ap is_some (get_or-set_same places number (Some answer) None within)

pub HasAnswer-kept : {Out : Type 0} (places : List (Option Out)) (number : ℕ) (answer : Out) (k : ℕ) → number < length places → HasAnswer places k → HasAnswer (set places number (Some answer)) k
HasAnswer-kept places number answer k within has = dite (ℕ_discrete k number)
    (λ (e : k ≡ number). subst (λ (i : ℕ). HasAnswer (set places number (Some answer)) i) (sym e) (HasAnswer-same places number answer within))
    (λ (ne : k ≢ number). ap is_some (get_or-set_other places number k (Some answer) None ne) ∙ has)

-- k is the first of the numbers, or it stands among the rest
pub first_or_rest : (k number : ℕ) (rest : List ℕ) → 0 < times k (number ∷ rest) → (k ≡ number) ⊎ (0 < times k rest)
first_or_rest k number rest some = dite (ℕ_discrete number k)
    (λ (e : number ≡ k). inl (sym e))
    (λ (ne : number ≢ k).
    let c = times_cons k number rest in
    let t : eqb number k ≡ false = grind (arith, nat_tests) in
    let z : cond {A = ℕ} (eqb number k) 1 0 ≡ 0 = ap (λ (b : Bool). cond {A = ℕ} b 1 0) t in inr (omega arith))

-- if each number was given, each place has an answer
pub all_filled : {Out : Type 0} (n : ℕ) (lists : List (List ℕ × Bool)) (places : List (Option Out)) → length places ≡ n → DealtOnce n lists
    → ((k : ℕ) → 0 < times_in k lists → HasAnswer places k) → All (λ place. IsTrue (is_some place)) places
all_filled n lists places len dealt put k d within =
    let once : once_below k n ≡ 1 = grind (arith, nat_tests) in
    let is = dealt k in
    let has = put k (omega arith) in
    ap is_some (within_any places k d None within) ∙ has
  where
    within_any : {X : Type 0} (xs : List X) (i : ℕ) (a b : X) → i < length xs → get_or xs i a ≡ get_or xs i b
    within_any [] i a b h = absurd (omega arith)
    within_any (x ∷ xs) zero a b h = refl
    within_any (x ∷ xs) (suc i) a b h = within_any xs i a b (omega arith)

-- the answers of right places are right
pub RightInOrder-filled : {Out : Type 0} (right : ℕ → Out → Type 0) (places : List (Option Out)) (answers : List Out) → AreRight right places → map (λ answer. Some answer) answers ≡ places
    → RightInOrder right answers
RightInOrder-filled right places answers all is k answer at =
    all k answer (ap (λ ps. get_or ps k None) (sym is) ∙ get_or-map (λ x. Some x) answers k answer None (slice_get_within answers k answer at) ∙ ap Some (get_or_from_slice_get answers k answer answer at))

-- k stands in the lists so far, or in the new one
pub so_far_or_new : (k : ℕ) (lists : List (List ℕ × Bool)) (l : List ℕ × Bool) → 0 < times_in k (lists ++ l ∷ []) → (0 < times_in k lists) ⊎ (0 < times k l.0)
so_far_or_new k lists l some =
    let p = sum_by_push (λ (x : List ℕ × Bool). times k x.0) lists l in
    dite (ℕ_discrete (times_in k lists) 0) (λ (none : times_in k lists ≡ 0). inr (omega arith)) (λ (not : times_in k lists ≢ 0). inl (omega arith))

-- one of the seats has ended
pub some_ended : {S : Type 0} (given : S → List ℕ) (ended : S → Bool) (seats : List S) → 0 < length seats → All (λ s. ended s ≡ true) seats → list_any (λ (l : List ℕ × Bool). l.1) (map (λ s. (given s, ended s)) seats) ≡ true
some_ended given ended [] some all = absurd (omega arith)
some_ended given ended (s ∷ seats) some all = let e : ended s ≡ true = All-head (λ x. ended x ≡ true) s seats all in rw e refl

-- When some of all pairs are left to be put: those are right, and each number of the others has its answer
abbrev pub Putting : {Out : Type 0} → (ℕ → Out → Type 0) → ℕ → List (Option Out) → List (ℕ × Out) → List (Option Out) → List (ℕ × Out) → Type 0
Putting right n initial all places left =
    All (IsRightAnswer right n) left
    × AreRight right places
    × ((k : ℕ) → HasAnswer initial k → HasAnswer places k)
    × ((k : ℕ) → 0 < times k (map (λ pair. pair.0) all) → HasAnswer places k ⊎ (0 < times k (map (λ pair. pair.0) left)))

pub Putting-next : {Out : Type 0} (right : ℕ → Out → Type 0) (n : ℕ) (initial : List (Option Out)) (all : List (ℕ × Out)) (places : List (Option Out)) (whole left : List (ℕ × Out)) (number : ℕ) (answer : Out)
    → whole ≡ (number, answer) ∷ left → length places ≡ n → Putting right n initial all places whole → Putting right n initial all (set places number (Some answer)) left
Putting-next {Out} right n initial all places whole left number answer is len was =
    let now : Putting right n initial all places ((number, answer) ∷ left) = subst (Putting right n initial all places) is was in
    let here : IsRightAnswer right n (number, answer) = All-head (IsRightAnswer right n) (number, answer) left now.0 in
    let within : number < length places = (let h = here.0 in omega arith) in (
      All-tail (IsRightAnswer right n) (number, answer) left now.0,
      AreRight-set right places number answer within now.1 here.1,
      (λ k has. HasAnswer-kept places number answer k within (now.2 k has)),
      (λ k some. ⊎_elim
          (λ (has : HasAnswer places k). inl (HasAnswer-kept places number answer k within has))
          (λ (more : 0 < times k (number ∷ map (λ pair. pair.0) left)). ⊎_elim
          (λ (e : k ≡ number). inl (subst (λ (i : ℕ). HasAnswer (set places number (Some answer)) i) (sym e) (HasAnswer-same places number answer within)))
          (λ (rest : 0 < times k (map (λ pair. pair.0) left)). inr rest)
          (first_or_rest k number (map (λ pair. pair.0) left) more))
          (now.3 k some)),
    )

-- the seats that are left after the first bear the numbers after its number
pub numbers_left : {S : Type 0} (number : S → ℕ) (whole rest : List S) (s : S) (a m n b : ℕ) → whole ≡ s ∷ rest → map number whole ≡ range_with_len a m → n + 1 ≡ m → b ≡ a + 1
    → map number rest ≡ range_with_len b n
numbers_left number whole rest s a m n b is numbered more next =
    let one_more : m ≡ suc n = omega arith in
    let counted : map number (s ∷ rest) ≡ range_with_len a (suc n) = ap (map number) (sym is) ∙ numbered ∙ ap (range_with_len a) one_more in
    ap (drop 1) counted ∙ ap (λ (k : ℕ). range_with_len k n) (sym next)
