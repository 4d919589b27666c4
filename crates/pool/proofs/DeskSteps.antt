-- A draw at the desk whose turn it is keeps what is known of a seat.
use Rattle.std.proofs.Common.{◌≡◌, ℕ, zero, suc, ◌+◌, ◌-◌, ◌*◌, ◌/◌, ◌%◌, ◌<◌, ◌≤◌, ◌≢◌, ◌⊎◌, Bool, true, false, cond, eqb, ltb, List, [], ◌∷◌, ◌++◌, length, get_or, set, All, sym, refl, ap, ◌∙◌, subst, inl, inr, ⊎_elim, arith, length-set, length-append}
use Rattle.std.proofs.lemmas.Bool.Decides.{nat_tests}
use Rattle.std.proofs.lemmas.List.{get_or-set_same, get_or-set_other}
use Rattle.std.proofs.lemmas.List.Elements.{All-push, All-weaker, All-get_or}
use Rattle.std.proofs.lemmas.List.Quantifiers.{all_pairs_push}
use Rattle.std.proofs.Math.Nat.{mod-lt, div-add-mod'}
use mathlib.Core.Logic.{dite}
use native.Mathlib.Decide.{dec_le, ℕ_discrete}
use Rattle.pool.specs.declared.counter.Counter.{Counter}
use Rattle.pool.specs.declared.counter.CounterHandle.{CounterHandle}
use Rattle.pool.specs.Counters.{times, once_below, with_number, with_mark, without_one, one_seat}
use Rattle.pool.specs.Handles.{counter_count, knowledge_of, IsIn}
use Rattle.pool.specs.Rows.{desk_count, turns_to, IsRow, AreDesks, AreUncut}
use Rattle.pool.specs.Desks.{IsDeskSeat, PrecedesInTurn}
use Rattle.pool.proofs.Counts.{times_push}
use Rattle.pool.proofs.Turns.{turn_forth, turn_back, turn_of_number, same_desk, other_desk, desk_below, none_above, stands, short}

module _ (n : ℕ) (counters : List Counter) (number passed : ℕ) (handles : List CounterHandle) (numbers : List ℕ) (is : IsDeskSeat n counters number passed handles numbers) (left : passed < length counters) where
  w : ℕ
  w = length counters

  -- the desk whose turn it is
  abbrev here : ℕ
  here = (number + passed) % length counters

  here_within : here < length counters
  here_within = mod-lt (number + passed) (omega arith)

  here_turn : turns_to (length counters) number here ≡ passed
  here_turn = turn_forth (length counters) number passed is.within left

  -- it is unmarked
  pub unmarked : (p : CounterHandle) → (knowledge_of (get_or handles here p)).marks < (knowledge_of (get_or handles here p)).seats
  unmarked p =
      let m = is.marks here p here_within in
      let o = is.one here p here_within in
      let t : ltb (turns_to (length counters) number here) passed ≡ false = rw here_turn (grind (arith, nat_tests)) in
      let z : cond {A = ℕ} (ltb (turns_to (length counters) number here) passed) 1 0 ≡ 0 = ap (λ (b : Bool). cond {A = ℕ} b 1 0) t in
      omega arith

  -- a fact of each handle lasts if it holds of the new one
  at_places : (P : ℕ → CounterHandle → Type 0) (new : CounterHandle) → P here new → ((d : ℕ) (p : CounterHandle) → d < length counters → d ≢ here → P d (get_or handles d p))
      → (d : ℕ) (p : CounterHandle) → d < length counters → P d (get_or (set handles here new) d p)
  at_places P new here_is others d p within = dite (ℕ_discrete d here)
      (λ (e : d ≡ here).
      let len = is.row.0 in
      let got : get_or (set handles here new) here p ≡ new = get_or-set_same handles here new p (let h = here_within in omega arith) in
      subst (λ (k : ℕ). P k (get_or (set handles here new) k p)) (sym e) (subst (P here) (sym got) here_is))
      (λ (ne : d ≢ here). subst (P d) (sym (get_or-set_other handles here d new p ne)) (others d p within ne))

  row_kept : (new : CounterHandle) → ((counter : Counter) → IsIn (get_or counters here counter) new) → IsRow counters (set handles here new)
  row_kept new in_line = (
    length-set handles here new ∙ is.row.0,
    (λ d counter p within. at_places (λ d p. IsIn (get_or counters d counter) p) new (in_line counter) (λ d p within _. is.row.1 d counter p within) d p within),
  )

  -- none is left at this desk
  pub marked_kept : (new : CounterHandle) (old : CounterHandle) → ((counter : Counter) → IsIn (get_or counters here counter) new) → knowledge_of new ≡ with_mark (knowledge_of (get_or handles here old))
      → IsDeskSeat n counters number (passed + 1) (set handles here new) numbers
  marked_kept new old in_line is_new = record {
    row = row_kept new in_line;
    within = is.within;
    passed_some = omega arith;
    one = at_places (λ d p. (knowledge_of p).seats ≡ 1) new (ap (λ k. k.seats) is_new ∙ is.one here old here_within) (λ d p within _. is.one d p within);
    marks = at_places (λ d p. (knowledge_of p).marks ≡ cond (ltb (turns_to (length counters) number d) (passed + 1)) 1 0) new
        (let m = is.marks here old here_within in
        let t : ltb (turns_to (length counters) number here) passed ≡ false = rw here_turn (grind (arith, nat_tests)) in
        let z : cond {A = ℕ} (ltb (turns_to (length counters) number here) passed) 1 0 ≡ 0 = ap (λ (b : Bool). cond {A = ℕ} b 1 0) t in
        let t' : ltb (turns_to (length counters) number here) (passed + 1) ≡ true = rw here_turn (grind (arith, nat_tests)) in
        let z' : cond {A = ℕ} (ltb (turns_to (length counters) number here) (passed + 1)) 1 0 ≡ 1 = ap (λ (b : Bool). cond {A = ℕ} b 1 0) t' in
        let e = ap (λ k. k.marks) is_new in omega arith)
        (λ d p within ne.
        let apart : turns_to (length counters) number d ≢ passed = λ e. ne (sym (turn_back (length counters) number d is.within within) ∙ ap (λ (k : ℕ). (number + k) % length counters) e) in
        let t : ltb (turns_to (length counters) number d) passed ≡ ltb (turns_to (length counters) number d) (passed + 1) = grind (arith, nat_tests) in
        is.marks d p within ∙ ap (λ (b : Bool). cond {A = ℕ} b 1 0) t);
    same = (λ d j. at_places (λ d p. times (d + j * length counters) numbers ≡ times j (knowledge_of p).numbers) new
        (is.same here j old here_within ∙ ap (λ k. times j k.numbers) (sym is_new)) (λ d p within _. is.same d j p within) d);
    once = is.once;
    turn = All-weaker (λ k. turns_to (length counters) number k ≤ passed) (λ k. turns_to (length counters) number k ≤ passed + 1) (λ k h. omega arith) numbers is.turn;
    order = is.order;
  }

  module _ (new : CounterHandle) (old : CounterHandle) (j : ℕ) (in_line : (counter : Counter) → IsIn (get_or counters here counter) new) (is_new : knowledge_of new ≡ with_number (knowledge_of (get_or handles here old)) j)
      (rises : All (λ x. x < j) (knowledge_of (get_or handles here old)).numbers) (some : j < desk_count n (length counters) here) where
    -- the number that was drawn
    abbrev drawn : ℕ
    drawn = here + j * length counters

    drawn_below : drawn < n
    drawn_below = desk_below n (length counters) here j here_within some

    drawn_turn : turns_to (length counters) number drawn ≡ passed
    drawn_turn = turn_of_number (length counters) number here j is.within ∙ here_turn

    drawn_new : times drawn numbers ≡ 0
    drawn_new = is.same here j old here_within ∙ none_above (knowledge_of (get_or handles here old)).numbers j j rises (omega arith)

    once_kept : (k : ℕ) → times k (numbers ++ drawn ∷ []) ≤ once_below k n
    once_kept k =
        let p = times_push k numbers drawn in
        let o = is.once k in
        dite (ℕ_discrete drawn k)
        (λ (e : drawn ≡ k).
        let below = drawn_below in
        let z : times k numbers ≡ 0 = subst (λ (x : ℕ). times x numbers ≡ 0) e drawn_new in
        let t : eqb drawn k ≡ true = grind (arith, nat_tests) in
        let c : cond {A = ℕ} (eqb drawn k) 1 0 ≡ 1 = ap (λ (b : Bool). cond {A = ℕ} b 1 0) t in
        let u : ltb k n ≡ true = grind (arith, nat_tests) in
        let v : once_below k n ≡ 1 = ap (λ (b : Bool). cond {A = ℕ} b 1 0) u in omega arith)
        (λ (ne : drawn ≢ k).
        let t : eqb drawn k ≡ false = grind (arith, nat_tests) in
        let c : cond {A = ℕ} (eqb drawn k) 1 0 ≡ 0 = ap (λ (b : Bool). cond {A = ℕ} b 1 0) t in omega arith)

    -- a number that this seat was given at this desk is smaller
    earlier : (k o : ℕ) → k < length numbers → turns_to (length counters) number (get_or numbers k o) ≡ passed → get_or numbers k o < drawn
    earlier k o within turn =
        let x : ℕ = get_or numbers k o in
        let d : ℕ = x % length counters in
        let i : ℕ = x / length counters in
        let d_within : d < length counters = mod-lt x (omega arith) in
        let split : d + i * length counters ≡ x = (let e : i * length counters + d ≡ x = div-add-mod' x (length counters) in omega arith) in
        let turn_d : turns_to (length counters) number d ≡ passed = sym (turn_of_number (length counters) number d i is.within) ∙ ap (turns_to (length counters) number) split ∙ turn in
        let at_here : d ≡ here = sym (turn_back (length counters) number d is.within d_within) ∙ ap (λ (t : ℕ). (number + t) % length counters) turn_d in
        let there : 0 < times x numbers = stands numbers k o within in
        let eq : times x numbers ≡ times i (knowledge_of (get_or handles here old)).numbers = ap (λ (y : ℕ). times y numbers) (sym split ∙ ap (λ (y : ℕ). y + i * length counters) at_here) ∙ is.same here i old here_within in
        dite (dec_le j i)
        (λ (le : j ≤ i). let z = none_above (knowledge_of (get_or handles here old)).numbers j i rises le in absurd (omega arith))
        (λ (not : ¬ (j ≤ i)). let m : i * length counters < j * length counters = less i j (length counters) (omega arith) (omega arith) in omega arith)
      where
        less : (a b c : ℕ) → a < b → 0 < c → a * c < b * c
        less a b c h p = let m : (a + 1) * c ≤ b * c = Rattle.std.proofs.Common.mul-le-mul_right c (omega arith) in let e : (a + 1) * c ≡ a * c + c = omega arith in omega arith

    after : (k o : ℕ) → k < length numbers
        → (turns_to (length counters) number (get_or numbers k o) < turns_to (length counters) number drawn)
        ⊎ ((turns_to (length counters) number (get_or numbers k o) ≡ turns_to (length counters) number drawn) × (get_or numbers k o < drawn))
    after k o within =
        let t = drawn_turn in
        let le = All-get_or (λ x. turns_to (length counters) number x ≤ passed) numbers k o within is.turn in
        dite (ℕ_discrete (turns_to (length counters) number (get_or numbers k o)) passed)
        (λ (e : turns_to (length counters) number (get_or numbers k o) ≡ passed).
        let both : (turns_to (length counters) number (get_or numbers k o) ≡ turns_to (length counters) number drawn) × (get_or numbers k o < drawn) = (e ∙ sym t, earlier k o within e) in inr both)
        (λ (ne : turns_to (length counters) number (get_or numbers k o) ≢ passed). inl (omega arith))

    -- a number is left at this desk
    pub number_kept : IsDeskSeat n counters number passed (set handles here new) (numbers ++ drawn ∷ [])
    number_kept = record {
      row = row_kept new in_line;
      within = is.within;
      passed_some = is.passed_some;
      one = at_places (λ d p. (knowledge_of p).seats ≡ 1) new (ap (λ k. k.seats) is_new ∙ is.one here old here_within) (λ d p within _. is.one d p within);
      marks = at_places (λ d p. (knowledge_of p).marks ≡ cond (ltb (turns_to (length counters) number d) passed) 1 0) new
          (ap (λ k. k.marks) is_new ∙ is.marks here old here_within) (λ d p within _. is.marks d p within);
      same = (λ d i. at_places (λ d p. times (d + i * length counters) (numbers ++ drawn ∷ []) ≡ times i (knowledge_of p).numbers) new
          (times_push (here + i * length counters) numbers drawn
          ∙ (let a = is.same here i old here_within in let e = ap (λ (b : Bool). cond {A = ℕ} b 1 0) (same_desk (length counters) here j i here_within) in
          let p = times_push i (knowledge_of (get_or handles here old)).numbers j in omega arith)
          ∙ ap (λ k. times i k.numbers) (sym is_new))
          (λ d p within ne.
          let e = ap (λ (b : Bool). cond {A = ℕ} b 1 0) (other_desk (length counters) here d j i here_within within (λ q. ne (sym q))) in
          let a = is.same d i p within in
          let t = times_push (d + i * length counters) numbers drawn in omega arith) d);
      once = once_kept;
      turn = All-push (λ k. turns_to (length counters) number k ≤ passed) numbers drawn is.turn (let t = drawn_turn in omega arith);
      order = all_pairs_push (PrecedesInTurn (length counters) number) numbers drawn is.order after;
    }

    -- there is capacity for it
    pub has_room : length numbers < n
    has_room =
        let all : All (λ x. x < n) (numbers ++ drawn ∷ []) = Rattle.pool.proofs.Counts.all_below (numbers ++ drawn ∷ []) n once_kept in
        let s = short n (numbers ++ drawn ∷ []) all (λ x. let o = once_kept x in let l = once_one x n in omega arith) in
        let len = length-append numbers (drawn ∷ []) in omega arith
      where
        once_one : (x m : ℕ) → once_below x m ≤ 1
        once_one x m = grind (arith, nat_tests)

same_at : {A : Type 0} (l : List A) (i : ℕ) (a b : A) → i < length l → get_or l i a ≡ get_or l i b
same_at [] i a b h = absurd (omega arith)
same_at (x ∷ xs) zero a b h = refl
same_at (x ∷ xs) (suc i) a b h = same_at xs i a b (omega arith)

-- the same in terms of the code
module _ (n : ℕ) (counters : List Counter) (number passed : ℕ) (handles : List CounterHandle) (numbers : List ℕ) (is : IsDeskSeat n counters number passed handles numbers) (left : passed < length counters)
    (counter : Counter) (old new : CounterHandle) where
  abbrev At : ℕ → Type 0
  At w = (counter ≡ get_or counters ((number + passed) % w) counter) × (old ≡ get_or handles ((number + passed) % w) old)

  within : (number + passed) % length counters < length counters
  within = mod-lt (number + passed) (omega arith)

  in_line : IsIn counter new → counter ≡ get_or counters ((number + passed) % length counters) counter → (other : Counter) → IsIn (get_or counters ((number + passed) % length counters) other) new
  in_line is_in at other = subst (λ (l : Counter). IsIn l new) (at ∙ same_at counters ((number + passed) % length counters) counter other within) is_in

  pub may_draw : (w : ℕ) → w ≡ length counters → At w → (knowledge_of old).marks < (knowledge_of old).seats
  may_draw w e at = subst (λ (p : CounterHandle). (knowledge_of p).marks < (knowledge_of p).seats) (sym (subst At e at).1) (unmarked n counters number passed handles numbers is left old)

  pub marks_desk : (w : ℕ) → w ≡ length counters → At w → IsIn counter new → knowledge_of new ≡ with_mark (knowledge_of old)
      → IsDeskSeat n counters number (passed + 1) (set handles ((number + passed) % w) new) numbers
  marks_desk w e at is_in is_new =
      let here = subst At e at in
      subst (λ (k : ℕ). IsDeskSeat n counters number (passed + 1) (set handles ((number + passed) % k) new) numbers) (sym e)
      (marked_kept n counters number passed handles numbers is left new old (in_line is_in here.0) (is_new ∙ ap (λ (p : CounterHandle). with_mark (knowledge_of p)) here.1))

  module _ (j : ℕ) (desks : AreDesks n counters) (is_in : IsIn counter new) (is_new : knowledge_of new ≡ with_number (knowledge_of old) j) (rises : All (λ x. x < j) (knowledge_of old).numbers) (some : j < counter_count counter) where
    counted : counter ≡ get_or counters ((number + passed) % length counters) counter → j < desk_count n (length counters) ((number + passed) % length counters)
    counted at = let c = (desks ((number + passed) % length counters) counter within).0 in let l = ap counter_count at in omega arith

    pub takes_number : (w : ℕ) → w ≡ length counters → At w
        → IsDeskSeat n counters number passed (set handles ((number + passed) % w) new) (numbers ++ ((number + passed) % w + j * w) ∷ []) × (length numbers < n)
        × ((number + passed) % w + j * w < n)
    takes_number w e at =
        let here = subst At e at in
        let is_new' = is_new ∙ ap (λ (p : CounterHandle). with_number (knowledge_of p) j) here.1 in
        let rises' = subst (λ (p : CounterHandle). All (λ x. x < j) (knowledge_of p).numbers) here.1 rises in
        subst (λ (k : ℕ). IsDeskSeat n counters number passed (set handles ((number + passed) % k) new) (numbers ++ ((number + passed) % k + j * k) ∷ []) × (length numbers < n)
        × ((number + passed) % k + j * k < n)) (sym e) (
          number_kept n counters number passed handles numbers is left new old j (in_line is_in here.0) is_new' rises' (counted here.0),
          has_room n counters number passed handles numbers is left new old j (in_line is_in here.0) is_new' rises' (counted here.0),
          desk_below n (length counters) ((number + passed) % length counters) j within (counted here.0),
        )

once_one : (x m : ℕ) → once_below x m ≤ 1
once_one x m = grind (arith, nat_tests)

-- a seat is given at most n numbers
pub few : (n : ℕ) (counters : List Counter) (number passed : ℕ) (handles : List CounterHandle) (numbers : List ℕ) → IsDeskSeat n counters number passed handles numbers → length numbers ≤ n
few n counters number passed handles numbers is =
    short n numbers (Rattle.pool.proofs.Counts.all_below numbers n is.once) (λ x. let o = is.once x in let l = once_one x n in omega arith)

nothing_yet : (n : ℕ) (counters : List Counter) (number : ℕ) (handles : List CounterHandle) → IsRow counters handles → number < length counters → AreUncut 1 counters handles → (counter : Counter) → IsDeskSeat n counters number 0 handles []
nothing_yet n counters number handles row within uncut counter = record {
  row = row;
  within = within;
  passed_some = omega arith;
  one = (λ d p h. ap (λ k. k.seats) (uncut d counter p h));
  marks = (λ d p h.
      let t : ltb (turns_to (length counters) number d) 0 ≡ false = grind (arith, nat_tests) in
      ap (λ k. k.marks) (uncut d counter p h) ∙ sym (ap (λ (b : Bool). cond {A = ℕ} b 1 0) t));
  same = (λ d j p h. sym (ap (λ k. times j k.numbers) (uncut d counter p h)));
  once = (λ k. let z : times k [] ≡ 0 = refl in omega arith);
  turn = Rattle.std.proofs.lemmas.List.Elements.All-nil (λ k. turns_to (length counters) number k ≤ 0);
  order = (λ i j d lt h. absurd (omega arith));
}

-- a seat with uncut handles, which was given nothing
pub fresh : (n : ℕ) (counters : List Counter) (number passed : ℕ) (handles : List CounterHandle) (numbers : List ℕ) → IsRow counters handles → number < length counters → AreUncut 1 counters handles
    → passed ≡ 0 → numbers ≡ [] → IsDeskSeat n counters number passed handles numbers
fresh n counters number passed handles numbers row within uncut none nothing =
    subst (λ (p : ℕ). IsDeskSeat n counters number p handles numbers) (sym none)
    (subst (λ (xs : List ℕ). IsDeskSeat n counters number 0 handles xs) (sym nothing) (nothing_yet n counters number handles row within uncut (Rattle.pool.proofs.Rowed.some_of counters (omega arith))))

pub one_less : (seats : ℕ) (counters : List Counter) (rest after : List CounterHandle) → AreUncut seats counters rest
    → ((d : ℕ) (p q : CounterHandle) → d < length counters → knowledge_of (get_or after d p) ≡ without_one (knowledge_of (get_or rest d q))) → AreUncut (seats - 1) counters after
one_less seats counters rest after uncut cut d l p h = cut d p p h ∙ ap without_one (uncut d l p h)

pub cut_off : (seats : ℕ) (counters : List Counter) (rest row : List CounterHandle) → AreUncut seats counters rest
    → ((d : ℕ) (p q : CounterHandle) → d < length counters → knowledge_of (get_or row d p) ≡ one_seat (knowledge_of (get_or rest d q))) → AreUncut 1 counters row
cut_off seats counters rest row uncut cut d l p h = cut d p p h ∙ ap one_seat (uncut d l p h)
