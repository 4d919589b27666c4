-- Whose turn a desk is, which numbers it has, and how many numbers a list can have of which each stands once.
use Rattle.std.proofs.Common.{◌≡◌, ℕ, zero, suc, ◌+◌, ◌-◌, ◌*◌, ◌/◌, ◌%◌, ◌<◌, ◌≤◌, ◌≢◌, Bool, true, false, cond, eqb, List, [], ◌∷◌, length, get_or, All, sym, refl, ap, ◌∙◌, arith}
use Rattle.std.proofs.lemmas.Bool.Decides.{nat_tests}
use Rattle.std.proofs.lemmas.List.Elements.{All-head, All-tail}
use Rattle.std.proofs.lemmas.Nat.{mod-mul-add, div-mul-add}
use Rattle.std.proofs.Math.Nat.{mod-eq_of_lt, mod-eq-sub-mod, add-mul-mod_self_right, le-div_iff_mul-le}
use mathlib.Core.Logic.{dite}
use native.Mathlib.Decide.{dec_le, ℕ_discrete}
use Rattle.pool.specs.Counters.{times}
use Rattle.pool.specs.Rows.{desk_count, turns_to}
use Rattle.pool.proofs.Counts.{times_cons}

-- a number below 2 * w
pub mod_twice : (a w : ℕ) → w ≤ a → a < w + w → a % w ≡ a - w
mod_twice a w le lt = mod-eq-sub-mod le ∙ mod-eq_of_lt (omega arith)

pub turn_forth : (w s i : ℕ) → s < w → i < w → turns_to w s ((s + i) % w) ≡ i
turn_forth w s i a b = dite (dec_le w (s + i))
    (λ (past : w ≤ s + i). let e = mod_twice (s + i) w past (omega arith) in rw e (let f : s + i - w + w - s ≡ i = omega arith in rw f (mod-eq_of_lt b)))
    (λ (not : ¬ (w ≤ s + i)). let e : (s + i) % w ≡ s + i = mod-eq_of_lt (omega arith) in rw e (let f : s + i + w - s ≡ i + w = omega arith in rw f (mod_twice (i + w) w (omega arith) (omega arith) ∙ omega arith)))

pub turn_back : (w s d : ℕ) → s < w → d < w → (s + turns_to w s d) % w ≡ d
turn_back w s d a b = dite (dec_le s d)
    (λ (after : s ≤ d). let e : (d + w - s) % w ≡ d - s = mod_twice (d + w - s) w (omega arith) (omega arith) ∙ omega arith in rw e (let f : s + (d - s) ≡ d = omega arith in rw f (mod-eq_of_lt b)))
    (λ (not : ¬ (s ≤ d)). let e : (d + w - s) % w ≡ d + w - s = mod-eq_of_lt (omega arith) in rw e (let f : s + (d + w - s) ≡ d + w = omega arith in rw f (mod_twice (d + w) w (omega arith) (omega arith) ∙ omega arith)))

pub turn_of_number : (w s d j : ℕ) → s < w → turns_to w s (d + j * w) ≡ turns_to w s d
turn_of_number w s d j a =
    let e : d + j * w + w - s ≡ d + w - s + j * w = omega arith in
    ap (λ (k : ℕ). k % w) e ∙ add-mul-mod_self_right (d + w - s) j w

pub desk_of : (w d j : ℕ) → d < w → (d + j * w) % w ≡ d
desk_of w d j h = let e : d + j * w ≡ j * w + d = omega arith in ap (λ (k : ℕ). k % w) e ∙ mod-mul-add j w d h

pub place_of : (w d j : ℕ) → d < w → (d + j * w) / w ≡ j
place_of w d j h = let e : d + j * w ≡ j * w + d = omega arith in ap (λ (k : ℕ). k / w) e ∙ div-mul-add j w d h

pub same_desk : (w d i j : ℕ) → d < w → eqb (d + i * w) (d + j * w) ≡ eqb i j
same_desk w d i j h = dite (ℕ_discrete i j)
    (λ (e : i ≡ j). ap (λ (k : ℕ). eqb (d + k * w) (d + j * w)) e ∙ grind (arith, nat_tests))
    (λ (ne : i ≢ j).
    let apart : d + i * w ≢ d + j * w = λ e. ne (sym (place_of w d i h) ∙ ap (λ (k : ℕ). k / w) e ∙ place_of w d j h) in
    grind (arith, nat_tests))

pub other_desk : (w d e i j : ℕ) → d < w → e < w → d ≢ e → eqb (d + i * w) (e + j * w) ≡ false
other_desk w d e i j h k ne =
    let apart : d + i * w ≢ e + j * w = λ p. ne (sym (desk_of w d i h) ∙ ap (λ (k : ℕ). k % w) p ∙ desk_of w e j k) in
    grind (arith, nat_tests)

-- number j of desk d is below n if j is below the desk's count
pub desk_below : (n w d j : ℕ) → d < w → j < desk_count n w d → d + j * w < n
desk_below n w d j h lt =
    let some : 0 < w = omega arith in
    let le : (j + 1) * w ≤ n + w - 1 - d = (le-div_iff_mul-le {k = w} {x = j + 1} {y = n + w - 1 - d} some).0 (omega arith) in
    let e : (j + 1) * w ≡ j * w + w = omega arith in omega arith

pub below_desk : (n w d j : ℕ) → d < w → d + j * w < n → j < desk_count n w d
below_desk n w d j h lt =
    let some : 0 < w = omega arith in
    let e : (j + 1) * w ≡ j * w + w = omega arith in
    let le : j + 1 ≤ desk_count n w d = (le-div_iff_mul-le {k = w} {x = j + 1} {y = n + w - 1 - d} some).1 (omega arith) in omega arith

pub none_above : (xs : List ℕ) (j i : ℕ) → All (λ x. x < j) xs → j ≤ i → times i xs ≡ 0
none_above [] j i below le = refl
none_above (x ∷ xs) j i below le =
    let first : x < j = All-head (λ y. y < j) x xs below in
    let rest = none_above xs j i (All-tail (λ y. y < j) x xs below) le in
    let c = times_cons i x xs in
    let t : eqb x i ≡ false = grind (arith, nat_tests) in
    let z : cond {A = ℕ} (eqb x i) 1 0 ≡ 0 = ap (λ (b : Bool). cond {A = ℕ} b 1 0) t in omega arith

pub stands : (xs : List ℕ) (k o : ℕ) → k < length xs → 0 < times (get_or xs k o) xs
stands [] k o h = absurd (omega arith)
stands (x ∷ xs) zero o h = let c = times_cons x x xs in let t : eqb x x ≡ true = grind (arith, nat_tests) in let z : cond {A = ℕ} (eqb x x) 1 0 ≡ 1 = ap (λ (b : Bool). cond {A = ℕ} b 1 0) t in omega arith
stands (x ∷ xs) (suc k) o h = let c = times_cons (get_or xs k o) x xs in let r = stands xs k o (omega arith) in omega arith

-- how many of the numbers below n stand in the list, each as often as it does
tally : ℕ → List ℕ → ℕ
tally zero xs = 0
tally (suc n) xs = times n xs + tally n xs

tally_le : (n : ℕ) (xs : List ℕ) → ((x : ℕ) → times x xs ≤ 1) → tally n xs ≤ n
unfolding tally
tally_le zero xs h = omega arith
tally_le (suc n) xs h = let a = h n in let r = tally_le n xs h in omega arith

tally_past : (n y : ℕ) (ys : List ℕ) → n ≤ y → tally n (y ∷ ys) ≡ tally n ys
unfolding tally
tally_past zero y ys h = refl
tally_past (suc n) y ys h =
    let c = times_cons n y ys in let r = tally_past n y ys (omega arith) in
    let t : eqb y n ≡ false = grind (arith, nat_tests) in
    let z : cond {A = ℕ} (eqb y n) 1 0 ≡ 0 = ap (λ (b : Bool). cond {A = ℕ} b 1 0) t in omega arith

tally_more : (n y : ℕ) (ys : List ℕ) → y < n → tally n (y ∷ ys) ≡ tally n ys + 1
unfolding tally
tally_more zero y ys h = absurd (omega arith)
tally_more (suc n) y ys h = let c = times_cons n y ys in dite (ℕ_discrete y n)
    (λ (e : y ≡ n).
    let t : eqb y n ≡ true = grind (arith, nat_tests) in let z : cond {A = ℕ} (eqb y n) 1 0 ≡ 1 = ap (λ (b : Bool). cond {A = ℕ} b 1 0) t in
    let r = tally_past n y ys (omega arith) in omega arith)
    (λ (ne : y ≢ n).
    let t : eqb y n ≡ false = grind (arith, nat_tests) in let z : cond {A = ℕ} (eqb y n) 1 0 ≡ 0 = ap (λ (b : Bool). cond {A = ℕ} b 1 0) t in
    let r = tally_more n y ys (omega arith) in omega arith)

tally_length : (n : ℕ) (xs : List ℕ) → All (λ x. x < n) xs → length xs ≤ tally n xs
tally_length n [] h = omega arith
tally_length n (x ∷ xs) h = let m = tally_more n x xs (All-head (λ y. y < n) x xs h) in let r = tally_length n xs (All-tail (λ y. y < n) x xs h) in omega arith

-- numbers below n, each once, are at most n
pub short : (n : ℕ) (xs : List ℕ) → All (λ x. x < n) xs → ((x : ℕ) → times x xs ≤ 1) → length xs ≤ n
short n xs below once = let a = tally_length n xs below in let b = tally_le n xs once in omega arith
