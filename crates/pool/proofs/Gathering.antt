-- The lists of the seats, against the handle that their handles were joined into.
use Rattle.std.proofs.Common.{◌≡◌, ℕ, zero, suc, ◌+◌, ◌<◌, Bool, true, false, cond, List, [], ◌∷◌, ◌++◌, map, sym, refl, ap, ◌∙◌, arith, length-append}
use Rattle.std.specs.List.{range_with_len, list_any}
use Rattle.std.proofs.lemmas.List.Sums.{sum_by_push, sum_by-cons}
use Rattle.std.proofs.lemmas.List.{map-append}
use Rattle.pool.specs.declared.known.Known.{Known}
use Rattle.pool.specs.Counters.{times, both}
use Rattle.pool.specs.Dealing.{marks_in, Gathered}
use Rattle.pool.proofs.Counts.{times_append}

pub gathered_more : (v w : Known) (lists : List (List ℕ × Bool)) (xs : List ℕ) (b : Bool) → Gathered v lists → w.seats ≡ 1 → w.numbers ≡ xs → w.marks ≡ cond b 1 0
    → Gathered (both v w) (lists ++ (xs, b) ∷ [])
gathered_more v w lists xs b g one same marked = (
  (let len = length-append lists ((xs, b) ∷ []) in let s = g.0 in omega arith),
  (λ x.
      let a = times_append x v.numbers w.numbers in
      let p = sum_by_push (λ (l : List ℕ × Bool). times x l.0) lists (xs, b) in
      let e = ap (times x) same in
      let h = g.1 x in omega arith),
  (let p = sum_by_push (λ (l : List ℕ × Bool). cond l.1 1 0) lists (xs, b) in let h = g.2 in omega arith),
)

pub ended_marked : (lists : List (List ℕ × Bool)) → list_any (λ l. l.1) lists ≡ true → 0 < marks_in lists
ended_marked [] e = cc
ended_marked (l ∷ ls) e = go l.1 refl (λ rest. ended_marked ls rest)
  where
    go : (b : Bool) → l.1 ≡ b → (list_any (λ (k : List ℕ × Bool). k.1) ls ≡ true → 0 < marks_in ls) → 0 < marks_in (l ∷ ls)
    go true is more = let c = sum_by-cons (λ (k : List ℕ × Bool). cond k.1 1 0) l ls in let one : ℕ = 1 in let none : ℕ = 0 in let w : cond l.1 one none ≡ 1 = ap (λ (t : Bool). cond t one none) is in omega arith
    go false is more =
        let c = sum_by-cons (λ (k : List ℕ × Bool). cond k.1 1 0) l ls in
        let rest : list_any (λ (k : List ℕ × Bool). k.1) ls ≡ true = rw is at e in
        let r = more rest in omega arith

range_push : (a n : ℕ) → range_with_len a (suc n) ≡ range_with_len a n ++ (a + n) ∷ []
range_push a zero = ap (λ (k : ℕ). k ∷ []) (omega arith)
range_push a (suc n) = ap (λ (ks : List ℕ). a ∷ ks) (range_push (a + 1) n ∙ ap (λ (k : ℕ). range_with_len (a + 1) n ++ k ∷ []) (omega arith))

-- one more seat, with the next number
pub numbered_more : {S : Type 0} (number : S → ℕ) (row : List S) (s : S) (n m : ℕ) → map number row ≡ range_with_len 0 n → number s ≡ n → n + 1 ≡ m
    → map number (row ++ s ∷ []) ≡ range_with_len 0 m
numbered_more number row s n m was here next =
    let up : suc n ≡ m = omega arith in
    map-append number row (s ∷ []) ∙ ap (λ l. l ++ number s ∷ []) was ∙ ap (λ (k : ℕ). range_with_len 0 n ++ k ∷ []) (here ∙ omega arith) ∙ sym (range_push 0 n) ∙ ap (range_with_len 0) up
