-- Each step keeps the rule of a counter.
use Rattle.std.proofs.Common.{◌≡◌, ℕ, zero, suc, ◌+◌, ◌%◌, ◌^◌, ◌<◌, ◌≤◌, ◌≢◌, Bool, true, false, cond, eqb, ltb, min, List, [], ◌∷◌, ◌++◌, length, get_or, set, All, sym, refl, ap, ◌∙◌, subst, ⊎_elim, arith, length-set, get_or-set_same, length-append}
use Rattle.std.proofs.lemmas.Bool.Decides.{nat_tests}
use Rattle.std.proofs.lemmas.List.Sums.{sum_by-cons, sum_by-append, sum_by_push}
use mathlib.Core.Logic.{dite}
use mathlib.Core.Option.{none, some, some-injective, some-ne-none}
use native.Mathlib.Decide.{dec_le}
use Rattle.std.proofs.lemmas.List.Elements.{All-nil, All-cons}
use lib.ListN.{get_elem?}
use Rattle.atomic_table.specs.Table.{State, Me, step, keeps, stepped, Allows, Splits, Joins}
use Rattle.atomic_table.proofs.Lists.{at_set, at_snoc, set_else}
use Rattle.pool.specs.declared.known.Known.{Known}
use Rattle.pool.specs.declared.known.Limits.{Limits}
use Rattle.pool.specs.Counters.{times, once_below, total_of_views, FitsCounter, IsCounted, CounterInvariant, with_number, with_mark, DrawsNumber, without_one, one_seat, both, spent}

-- the total after a change of one view
pub total_set : (f : Known → ℕ) (views : List Known) (id : ℕ) (v w : Known) → get_elem? views id ≡ some v → total_of_views f (set views id w) + f v ≡ total_of_views f views + f w
total_set f [] id v w at = absurd (some-ne-none v (sym at))
total_set f (x ∷ xs) zero v w at = let is : f x ≡ f v = ap f (some-injective x v at) in omega arith
total_set f (x ∷ xs) (suc id) v w at = let r = total_set f xs id v w at in omega arith

pub total_snoc : (f : Known → ℕ) (views : List Known) (v : Known) → total_of_views f (views ++ v ∷ []) ≡ total_of_views f views + f v
total_snoc f [] v = omega arith
total_snoc f (x ∷ xs) v = let r = total_snoc f xs v in omega arith

pub total_at : (f : Known → ℕ) (views : List Known) (id : ℕ) (v : Known) → get_elem? views id ≡ some v → f v ≤ total_of_views f views
total_at f [] id v at = absurd (some-ne-none v (sym at))
total_at f (x ∷ xs) zero v at = let is : f x ≡ f v = ap f (some-injective x v at) in omega arith
total_at f (x ∷ xs) (suc id) v at = let r = total_at f xs id v at in omega arith

pub total_le : (f g : Known → ℕ) (views : List Known) → ((id : ℕ) (v : Known) → get_elem? views id ≡ some v → f v ≤ g v) → total_of_views f views ≤ total_of_views g views
total_le f g [] h = omega arith
total_le f g (x ∷ xs) h = let a = h zero x refl in let r = total_le f g xs (λ id v at. h (suc id) v at) in omega arith

-- if no other view has any of f, the total is the one view's
pub total_alone : (f g : Known → ℕ) (views : List Known) (id : ℕ) (v : Known) → get_elem? views id ≡ some v → total_of_views g views ≡ g v
    → ((k : ℕ) (u : Known) → get_elem? views k ≡ some u → g u ≡ 0 → f u ≡ 0) → total_of_views f views ≡ f v
total_alone f g [] id v at all idle = absurd (some-ne-none v (sym at))
total_alone f g (x ∷ xs) zero v at all idle =
    let e = some-injective x v at in let is : f x ≡ f v = ap f e in let is' : g x ≡ g v = ap g e in
    let rest : total_of_views f xs ≡ 0 = nothing xs (omega arith) (λ k u. idle (suc k) u) in omega arith
  where
    nothing : (us : List Known) → total_of_views g us ≡ 0 → ((k : ℕ) (u : Known) → get_elem? us k ≡ some u → g u ≡ 0 → f u ≡ 0) → total_of_views f us ≡ 0
    nothing [] z i = refl
    nothing (u ∷ us) z i = let a = i zero u refl (omega arith) in let r = nothing us (omega arith) (λ k w. i (suc k) w) in omega arith
total_alone f g (x ∷ xs) (suc id) v at all idle =
    let le = total_at g xs id v at in let zero_here : g x ≡ 0 = omega arith in
    let a = idle zero x refl zero_here in let r = total_alone f g xs id v at (omega arith) (λ k u. idle (suc k) u) in omega arith

pub times_push : (x : ℕ) (xs : List ℕ) (k : ℕ) → times x (xs ++ k ∷ []) ≡ times x xs + cond (eqb k x) 1 0
times_push x xs k = sum_by_push (λ y. cond (eqb y x) 1 0) xs k

pub times_append : (x : ℕ) (xs ys : List ℕ) → times x (xs ++ ys) ≡ times x xs + times x ys
times_append x xs ys = sum_by-append (λ y. cond (eqb y x) 1 0) xs ys

pub times_cons : (x y : ℕ) (ys : List ℕ) → times x (y ∷ ys) ≡ cond (eqb y x) 1 0 + times x ys
times_cons x y ys = sum_by-cons (λ z. cond (eqb z x) 1 0) y ys

pub once_more : (x w : ℕ) → once_below x (w + 1) ≡ once_below x w + cond (eqb w x) 1 0
once_more x w = grind (arith, nat_tests)

pub once_le : (x m n : ℕ) → m ≤ n → once_below x m ≤ once_below x n
once_le x m n h = grind (arith, nat_tests)

-- numbers of which none stands more often than those below b are all below b
pub all_below : (xs : List ℕ) (b : ℕ) → ((x : ℕ) → times x xs ≤ once_below x b) → All (λ x. x < b) xs
all_below [] b h = All-nil (λ x. x < b)
all_below (y ∷ ys) b h = All-cons (λ x. x < b) y ys (first (ltb y b) refl) (all_below ys b (λ x. let t = times_cons x y ys in let a = h x in omega arith))
  where
    first : (t : Bool) → ltb y b ≡ t → y < b
    first true e = grind (arith, nat_tests)
    first false e = let t = times_cons y y ys in let a = h y in absurd (grind (arith, nat_tests))

module _ (limits : Limits) where
  -- the rule after a step of one seat
  changed : (x y id : ℕ) (views : List Known) (v w : Known) → IsCounted limits x views → get_elem? views id ≡ some v
      → w.seats ≡ v.seats → y + (length v.numbers + v.marks) ≡ x + (length w.numbers + w.marks)
      → min y limits.count + length v.numbers ≡ min x limits.count + length w.numbers
      → ((k : ℕ) → once_below k (min y limits.count) + times k v.numbers ≡ once_below k (min x limits.count) + times k w.numbers)
      → FitsCounter limits.count w → IsCounted limits y (set views id w)
  changed x y id views v w r at seats word given once fits = record {
    no_wrap = r.no_wrap;
    seats = (let t = total_set (λ u. u.seats) views id v w at in let is = r.seats in omega arith);
    word_is =
        (let l = total_set (λ u. length u.numbers) views id v w at in let m = total_set (λ u. u.marks) views id v w at in
        let is = r.word_is in omega arith);
    given = (let l = total_set (λ u. length u.numbers) views id v w at in let is = r.given in omega arith);
    once = (λ k. let t = total_set (λ u. times k u.numbers) views id v w at in let is = r.once k in let o = once k in omega arith);
    fits = (λ j u e. ⊎_elim (λ (t : (j ≡ id) × (w ≡ u)). subst (FitsCounter limits.count) t.1 fits) (λ (t : (j ≢ id) × (get_elem? views j ≡ some u)). r.fits j u t.1) (at_set views id j w u e));
  }

  -- the word is at most the numbers and the marks, of which there are at most as many as seats
  marks_le : (x : ℕ) (views : List Known) → IsCounted limits x views → total_of_views (λ v. v.marks) views ≤ limits.seats
  marks_le x views r = let le = total_le (λ v. v.marks) (λ v. v.seats) views (λ id v at. (r.fits id v at).0) in let is = r.seats in omega arith

  number_kept : (x id : ℕ) (views : List Known) (v : Known) → IsCounted limits x views → get_elem? views id ≡ some v → v.marks < v.seats → v.count ≡ limits.count → x < v.count
      → IsCounted limits (x + 1) (set views id (with_number v x))
  number_kept x id views v r at unmarked count some_left =
      let len = length-append v.numbers (x ∷ []) in
      let now : min x limits.count ≡ x = omega arith in
      let then : min (x + 1) limits.count ≡ x + 1 = omega arith in
      let f = r.fits id v at in
      changed x (x + 1) id views v (with_number v x) r at refl (omega arith) (omega arith)
      (λ k. let p = times_push k v.numbers x in let o = once_more k x in
      subst (λ (z : ℕ). once_below k z + times k v.numbers ≡ once_below k (min x limits.count) + times k (v.numbers ++ x ∷ [])) (sym then)
      (subst (λ (z : ℕ). once_below k (x + 1) + times k v.numbers ≡ once_below k z + times k (v.numbers ++ x ∷ [])) (sym now) (omega arith)))
      (f.0, (λ idle. absurd (omega arith)), f.2)

  mark_kept : (x id : ℕ) (views : List Known) (v : Known) → IsCounted limits x views → get_elem? views id ≡ some v → v.marks < v.seats → v.count ≡ limits.count → v.count ≤ x
      → IsCounted limits (x + 1) (set views id (with_mark v))
  mark_kept x id views v r at unmarked count none_left =
      let f = r.fits id v at in
      let now : min x limits.count ≡ limits.count = omega arith in
      let then : min (x + 1) limits.count ≡ limits.count = omega arith in
      changed x (x + 1) id views v (with_mark v) r at refl (omega arith) (omega arith)
      (λ k. ap (λ (z : ℕ). once_below k z + times k v.numbers) (then ∙ sym now))
      (omega arith, f.1, f.2)

  -- the rule of the state whose word is one more
  placed : (s : State (Unit {0}) Known) (id : ℕ) (me : Me (Unit {0}) Known) (w : Known) → length s.words ≡ 1
      → IsCounted limits (get_or s.words 0 0 + 1) (set s.views id w) → CounterInvariant limits (stepped s 0 ((get_or s.words 0 0 + 1) % 2 ^ 64) id me.1 w keeps)
  placed s id me w one r =
      let x : ℕ = get_or s.words 0 0 in
      let few = marks_le (x + 1) (set s.views id w) r in
      let is = r.word_is in let given = r.given in let no_wrap = r.no_wrap in
      let next : (x + 1) % 2 ^ 64 ≡ x + 1 = omega arith in
      let here : get_or (set s.words 0 ((x + 1) % 2 ^ 64)) 0 0 ≡ x + 1 = get_or-set_same s.words 0 ((x + 1) % 2 ^ 64) 0 (omega arith) ∙ next in
      (length-set s.words 0 ((x + 1) % 2 ^ 64) ∙ one, subst (λ (z : ℕ). IsCounted limits z (set s.views id w)) (sym here) r)

  -- what one view has is no more than all of them have
  own_below : (x id : ℕ) (views : List Known) (v : Known) → IsCounted limits x views → get_elem? views id ≡ some v → x < limits.count → All (λ k. k < x) v.numbers × (length v.numbers ≤ x)
  own_below x id views v r at some_left =
      let now : min x limits.count ≡ x = omega arith in (
        all_below v.numbers x (λ k.
            let t = total_at (λ u. times k u.numbers) views id v at in
            let o = subst (λ (z : ℕ). total_of_views (λ u. times k u.numbers) views ≡ once_below k z) now (r.once k) in omega arith),
        (let t = total_at (λ u. length u.numbers) views id v at in let g = r.given in omega arith),
      )

  pub draws : (slots id : ℕ) (me : Me (Unit {0}) Known) → me.0.marks < me.0.seats → me.0.count ≡ limits.count
      → Allows (CounterInvariant limits) slots id me 0 (λ n. (n + 1) % 2 ^ 64) (DrawsNumber (step slots 0 1 0 none) me)
  draws slots id me unmarked count s r _ at _ =
      let x : ℕ = get_or s.words 0 0 in
      dite (dec_le me.0.count x)
      (λ (none_left : me.0.count ≤ x). let w = with_mark me.0 in (
        w,
        keeps,
        tt,
        placed s id me w r.0 (mark_kept x id s.views me.0 r.1 at unmarked count none_left),
        (refl, (λ h. absurd (omega arith)), λ _. refl),
      ))
      (λ (not : ¬ (me.0.count ≤ x)). let some_left : x < me.0.count = omega arith in let w = with_number me.0 x in let own = own_below x id s.views me.0 r.1 at (omega arith) in (
        w,
        keeps,
        tt,
        placed s id me w r.0 (number_kept x id s.views me.0 r.1 at unmarked count some_left),
        (refl, (λ _. (refl, own.0, own.1)), λ h. absurd (omega arith)),
      ))

  -- the rule after one view gave way to two that have the same together
  pub cuts : (id : ℕ) (v : Known) → 1 < v.seats → v.marks < v.seats → v.count ≡ limits.count → Splits (CounterInvariant limits) id v (without_one v) (one_seat v)
  cuts id v several unmarked count s r at =
      let w = without_one v in let o = one_seat v in
      let same : (f : Known → ℕ) → f w + f o ≡ f v → total_of_views f (set s.views id w ++ o ∷ []) ≡ total_of_views f s.views
      = λ f e. let t = total_set f s.views id v w at in let p = total_snoc f (set s.views id w) o in omega arith in
      let k = r.1 in
      let f = k.fits id v at in
      let len = same (λ u. length u.numbers) (omega arith) in
      let marks = same (λ u. u.marks) (omega arith) in (
        r.0,
        record {
          no_wrap = k.no_wrap;
          seats = same (λ u. u.seats) (omega arith) ∙ k.seats;
          word_is = (let is = k.word_is in omega arith);
          given = len ∙ k.given;
          once = (λ x. same (λ u. times x u.numbers) (omega arith) ∙ k.once x);
          fits = (λ j u e. ⊎_elim
              (λ (was : get_elem? (set s.views id w) j ≡ some u). ⊎_elim
              (λ (t : (j ≡ id) × (w ≡ u)). subst (FitsCounter limits.count) t.1 (omega arith, (λ none_left. absurd (omega arith)), λ some_left. count))
              (λ (t : (j ≢ id) × (get_elem? s.views j ≡ some u)). k.fits j u t.1)
              (at_set s.views id j w u was))
              (λ (is : o ≡ u). subst (FitsCounter limits.count) is (omega arith, (λ none_left. refl), λ some_left. count))
              (at_snoc (set s.views id w) o u j e));
        },
      )

  -- the rule after one view took in another
  pub joins : (id other : ℕ) (v w : Known) → v.count ≡ limits.count → Joins (CounterInvariant limits) id v other w (both v w) spent
  joins id other v w count s r at apart at' =
      let b = both v w in
      let same : (f : Known → ℕ) → f b ≡ f v + f w → f spent ≡ 0 → total_of_views f (set (set s.views id b) other spent) ≡ total_of_views f s.views
      = λ f e z. let t = total_set f s.views id v b at in let p = total_set f (set s.views id b) other w spent at' in omega arith in
      let k = r.1 in
      let was : get_elem? s.views other ≡ some w = sym (set_else s.views id other b apart) ∙ at' in
      let f = k.fits id v at in
      let g = k.fits other w was in
      let len = same (λ u. length u.numbers) (length-append v.numbers w.numbers) refl in
      let marks = same (λ u. u.marks) refl refl in (
        r.0,
        record {
          no_wrap = k.no_wrap;
          seats = same (λ u. u.seats) refl refl ∙ k.seats;
          word_is = (let is = k.word_is in omega arith);
          given = len ∙ k.given;
          once = (λ x. same (λ u. times x u.numbers) (times_append x v.numbers w.numbers) refl ∙ k.once x);
          fits = (λ j u e. ⊎_elim
              (λ (t : (j ≡ other) × (spent ≡ u)). subst (FitsCounter limits.count) t.1 (omega arith, (λ none_left. refl), λ some_left. absurd (omega arith)))
              (λ (t : (j ≢ other) × (get_elem? (set s.views id b) j ≡ some u)). ⊎_elim
              (λ (t : (j ≡ id) × (b ≡ u)). subst (FitsCounter limits.count) t.1 (omega arith, (λ none_left. no_numbers v w f.1 g.1 (omega arith) (omega arith)), λ some_left. count))
              (λ (t : (j ≢ id) × (get_elem? s.views j ≡ some u)). k.fits j u t.1)
              (at_set s.views id j b u t.1))
              (at_set (set s.views id b) other j spent u e));
        },
      )
    where
      no_numbers : (v w : Known) → (v.seats ≡ 0 → v.numbers ≡ []) → (w.seats ≡ 0 → w.numbers ≡ []) → v.seats ≡ 0 → w.seats ≡ 0 → v.numbers ++ w.numbers ≡ []
      no_numbers v w f g a b = rw (f a, g b) refl

  -- who stands for all seats has all that was given
  pub whole : (x id : ℕ) (views : List Known) (v : Known) → IsCounted limits x views → get_elem? views id ≡ some v → v.seats ≡ limits.seats
      → (k : ℕ) → times k v.numbers ≡ once_below k (min x limits.count)
  whole x id views v r at all k =
      sym (total_alone (λ u. times k u.numbers) (λ u. u.seats) views id v at (r.seats ∙ sym all) (λ j u here idle. let e = (r.fits j u here).1 idle in rw e refl)) ∙ r.once k

  -- each number stands at most once, and if a seat has marked the counter none is left out
  pub dealt : (x id : ℕ) (views : List Known) (v : Known) → IsCounted limits x views → get_elem? views id ≡ some v → v.seats ≡ limits.seats
      → ((k : ℕ) → times k v.numbers ≤ once_below k limits.count) × (0 < v.marks → (k : ℕ) → times k v.numbers ≡ once_below k limits.count)
  dealt x id views v r at all = (
    (λ k. let w = whole x id views v r at all k in let le = once_le k (min x limits.count) limits.count (omega arith) in omega arith),
    (λ marked k.
        let m = total_at (λ u. u.marks) views id v at in let is = r.word_is in let given = r.given in
        let full : min x limits.count ≡ limits.count = omega arith in
        whole x id views v r at all k ∙ ap (once_below k) full),
  )
