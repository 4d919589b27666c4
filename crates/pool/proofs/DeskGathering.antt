-- The lists of the seats, against the handles at each desk that their handles were joined into.
use Rattle.std.proofs.Common.{◌≡◌, ℕ, ◌+◌, ◌*◌, ◌/◌, ◌%◌, ◌<◌, ◌≤◌, Bool, true, false, cond, eqb, ltb, List, [], ◌∷◌, ◌++◌, length, get_or, sym, refl, ap, ◌∙◌, subst, arith, length-append}
use Rattle.std.proofs.lemmas.Bool.Decides.{nat_tests}
use Rattle.std.proofs.lemmas.List.Sums.{sum_by_push, sum_by-cons}
use Rattle.std.proofs.Math.Nat.{mod-lt, div-add-mod'}
use mathlib.Core.Logic.{dite}
use native.Mathlib.Decide.{dec_le}
use Rattle.pool.specs.declared.known.Known.{Known}
use Rattle.pool.specs.declared.counter.Counter.{Counter}
use Rattle.pool.specs.declared.counter.CounterHandle.{CounterHandle}
use Rattle.pool.specs.Counters.{times, once_below}
use Rattle.pool.specs.Handles.{counter_count, knowledge_of}
use Rattle.pool.specs.Dealing.{times_in, NoneTwice, DealtOnce, SomeEnded}
use Rattle.pool.specs.Rows.{desk_count, turns_to, AreDesks, AreJoined, IsClosed}
use Rattle.pool.specs.Desks.{IsDeskSeat, GathersAt, Gathers}
use Rattle.pool.proofs.Counts.{times_append}
use Rattle.pool.proofs.Gathering.{ended_marked}
use Rattle.pool.proofs.Turns.{desk_below, below_desk}

-- a seat that has ended has marked each desk
marked : (n : ℕ) (counters : List Counter) (number passed : ℕ) (handles : List CounterHandle) (numbers : List ℕ) (d : ℕ) (p : CounterHandle) → IsDeskSeat n counters number passed handles numbers → d < length counters
    → cond {A = ℕ} (eqb passed (length handles)) 1 0 ≤ (knowledge_of (get_or handles d p)).marks
marked n counters number passed handles numbers d p is within =
    let m = is.marks d p within in
    let len = is.row.0 in
    let lt : turns_to (length counters) number d < length counters = mod-lt _ (omega arith) in
    go (eqb passed (length handles)) refl m len lt
  where
    go : (b : Bool) → eqb passed (length handles) ≡ b → (knowledge_of (get_or handles d p)).marks ≡ cond {A = ℕ} (ltb (turns_to (length counters) number d) passed) 1 0 → length handles ≡ length counters
        → turns_to (length counters) number d < length counters → cond {A = ℕ} (eqb passed (length handles)) 1 0 ≤ (knowledge_of (get_or handles d p)).marks
    go true e m len lt =
        let all : passed ≡ length handles = grind (arith, nat_tests) in
        let t : ltb (turns_to (length counters) number d) passed ≡ true = grind (arith, nat_tests) in
        let z : cond {A = ℕ} (ltb (turns_to (length counters) number d) passed) 1 0 ≡ 1 = ap (λ (b : Bool). cond {A = ℕ} b 1 0) t in
        let y : cond {A = ℕ} (eqb passed (length handles)) 1 0 ≡ 1 = ap (λ (b : Bool). cond {A = ℕ} b 1 0) e in omega arith
    go false e m len lt = let y : cond {A = ℕ} (eqb passed (length handles)) 1 0 ≡ 0 = ap (λ (b : Bool). cond {A = ℕ} b 1 0) e in omega arith

-- the handles of the first seat
pub gathers_first : (n : ℕ) (counters : List Counter) (number passed : ℕ) (handles : List CounterHandle) (numbers : List ℕ) → IsDeskSeat n counters number passed handles numbers
    → Gathers (length counters) handles ((numbers, eqb passed (length handles)) ∷ [])
gathers_first n counters number passed handles numbers is d p within = (
  is.one d p within,
  (λ j.
      let c = sum_by-cons (λ (l : List ℕ × Bool). times (d + j * length counters) l.0) (numbers, eqb passed (length handles)) [] in
      let s = is.same d j p within in omega arith),
  (let c = sum_by-cons (λ (l : List ℕ × Bool). cond {A = ℕ} l.1 1 0) (numbers, eqb passed (length handles)) [] in
      let m = marked n counters number passed handles numbers d p is within in omega arith),
)

-- the handles of one more seat
pub gathers_more : (n : ℕ) (counters : List Counter) (number passed : ℕ) (handles : List CounterHandle) (numbers : List ℕ) (whole joined : List CounterHandle) (lists : List (List ℕ × Bool))
    → IsDeskSeat n counters number passed handles numbers → Gathers (length counters) whole lists → length whole ≡ length counters → AreJoined whole handles joined
    → Gathers (length counters) joined (lists ++ (numbers, eqb passed (length handles)) ∷ [])
gathers_more n counters number passed handles numbers whole joined lists is g len j d p within =
    let is_joined = j d p p p (omega arith) in
    let had = g d p within in
    let l : List ℕ × Bool = (numbers, eqb passed (length handles)) in
    let v = knowledge_of (get_or whole d p) in
    let u = knowledge_of (get_or handles d p) in
    subst (λ (k : Known). GathersAt (length counters) d k (lists ++ l ∷ [])) (sym is_joined) (
      (let o = is.one d p within in let e = length-append lists (l ∷ []) in let h = had.0 in omega arith),
      (λ i.
          let a = times_append i v.numbers u.numbers in
          let s = is.same d i p within in
          let t = sum_by_push (λ (k : List ℕ × Bool). times (d + i * length counters) k.0) lists l in
          let h = had.1 i in omega arith),
      (let t = sum_by_push (λ (k : List ℕ × Bool). cond {A = ℕ} k.1 1 0) lists l in
          let m = marked n counters number passed handles numbers d p is within in let h = had.2 in omega arith),
    )

module _ (n : ℕ) (counters : List Counter) (whole : List CounterHandle) (lists : List (List ℕ × Bool)) (some : 0 < length counters) (desks : AreDesks n counters) (g : Gathers (length counters) whole lists)
    (closed : (d : ℕ) (l : Counter) (p : CounterHandle) → d < length counters → IsClosed (get_or counters d l) (get_or whole d p)) (counter : Counter) (handle : CounterHandle) where
  -- x is number j of desk d
  abbrev d : ℕ → ℕ
  d x = x % length counters

  abbrev j : ℕ → ℕ
  j x = x / length counters

  split : (x : ℕ) → d x + j x * length counters ≡ x
  split x = let e : j x * length counters + d x ≡ x = div-add-mod' x (length counters) in omega arith

  within : (x : ℕ) → d x < length counters
  within x = mod-lt x some

  times_there : (x : ℕ) → times_in x lists ≡ times (j x) (knowledge_of (get_or whole (d x) handle)).numbers
  times_there x = ap (λ (k : ℕ). times_in k lists) (sym (split x)) ∙ sym ((g (d x) handle (within x)).1 (j x))

  below_there : (x : ℕ) → once_below (j x) (counter_count (get_or counters (d x) counter)) ≡ once_below x n
  below_there x =
      let count = (desks (d x) counter (within x)).0 in
      let e = split x in
      ap (once_below (j x)) count ∙ dite (dec_le n x)
      (λ (past : n ≤ x). let no : ¬ (j x < desk_count n (length counters) (d x)) = λ h. (let b = desk_below n (length counters) (d x) (j x) (within x) h in absurd (omega arith)) in grind (arith, nat_tests))
      (λ (not : ¬ (n ≤ x)). let yes : j x < desk_count n (length counters) (d x) = below_desk n (length counters) (d x) (j x) (within x) (omega arith) in grind (arith, nat_tests))

  pub none_twice : NoneTwice n lists
  none_twice x = let c = (closed (d x) counter handle (within x)).0 (j x) in let t = times_there x in let b = below_there x in omega arith

  pub dealt_once : SomeEnded lists → DealtOnce n lists
  dealt_once ended x =
      let m = ended_marked lists ended in
      let le = (g (d x) handle (within x)).2 in
      times_there x ∙ (closed (d x) counter handle (within x)).1 (omega arith) (j x) ∙ below_there x
