-- Eight digits in a word: pairs of neighbours by one multiplication, and the number that they write.
use Rattle.std.proofs.Common.{◌≡◌, ℕ, zero, suc, ◌+◌, ◌-◌, ◌*◌, ◌/◌, ◌%◌, ◌<◌, ◌≤◌, ◌^◌, List, [], ◌∷◌, ◌++◌, length, take, drop, map, replicate, cond, not, leb, length-append, length-take, subst, Bool, true, false, get_or, ◌⊎◌, inl, inr, ap₂, refl, sym, ap, ◌∙◌, arith}
use Rattle.std.specs.Int.Digits.{AllBelowBase, number_from_digits}
use Rattle.std.specs.Simd.Lanes.{number_l}
use Rattle.std.specs.List.{prefix_len}
use Rattle.std.proofs.lemmas.Simd.{tops_compared, zip2_splat_left, mask_l-mod, trailing_mask_l, length-chunk}
use Rattle.std.proofs.lemmas.List.{length-map}
use lib.Count.{count_trailing_zeros}
use lib.Lanes.{zip2, mask_l, top, chunk}
use mir.Syntax.{w8}
use Rattle.std.proofs.lemmas.Int.Digits.{number_lt, digits_value_is}
use Rattle.std.proofs.lemmas.Str.{digit_value_digit}
use Rattle.std.specs.Int.{IsInRange}
use Rattle.std.specs.Char.{digit_value}
use Rattle.std.specs.Str.Parse.{digits_value, AllDigits}
use Rattle.std.proofs.lemmas.Bool.{cases_lt, leb-false}
use Rattle.std.proofs.Math.Nat.{pow-succ', mul_assoc}
use Rattle.std.proofs.lemmas.Nat.{mul-mod_first}
use Rattle.std.proofs.lemmas.List.{take-append-drop, length-take-le, length-replicate, take-map, get_or-take, get_or-drop, get_or_past}
use Rattle.json_tokens.specs.Eight.{IsEight, BeginsWithDigits, offset, is_other}
use Rattle.json_tokens.specs.Lexed.{AreDigits}

-- each digit tenfold, and its right neighbour
abbrev pub pairs : ℕ → ℕ
pairs w = w * 10 + w / 256

one_pair : (x y r : ℕ) → x < 10 → y < 10 → pairs (x + 256 * (y + 256 * r)) ≡ 10 * x + y + 256 * pairs (y + 256 * r)
one_pair x y r p q = omega arith

last_pair : (x : ℕ) → x < 10 → pairs (x + 256 * 0) ≡ 10 * x
last_pair x p = omega arith

low : (p x r : ℕ) → x < 256 → p ≡ x + 256 * r → p % 256 ≡ x
low p x r l e = omega arith

after_two : (p x y r : ℕ) → x < 256 → y < 256 → p ≡ x + 256 * (y + 256 * r) → p / 65536 ≡ r
after_two p x y r l m e = omega arith

after_four : (p q r : ℕ) → p / 65536 ≡ q → q / 65536 ≡ r → p / 4294967296 ≡ r
after_four p q r d e = omega arith

after_six : (p q r : ℕ) → p / 4294967296 ≡ q → q / 65536 ≡ r → p / 281474976710656 ≡ r
after_six p q r d e = omega arith

abbrev total : ℕ → ℕ
total p = p % 256 * 1000000 + p / 65536 % 256 * 10000 + p / 4294967296 % 256 * 100 + p / 281474976710656 % 256

by_pairs : (p q s t k l m n : ℕ) → p % 256 ≡ k → p / 65536 ≡ q → q % 256 ≡ l → p / 4294967296 ≡ s → s % 256 ≡ m → p / 281474976710656 ≡ t → t % 256 ≡ n
    → total p ≡ k * 1000000 + l * 10000 + m * 100 + n
by_pairs p q s t k l m n a b c d e f g = rw (a, b, c, d, e, f, g) refl

module _ (a b c d e f g h : ℕ) (la : a < 10) (lb : b < 10) (lc : c < 10) (ld : d < 10) (le : e < 10) (lf : f < 10) (lg : g < 10) (lh : h < 10) where
  abbrev ds : List ℕ
  ds = a ∷ b ∷ c ∷ d ∷ e ∷ f ∷ g ∷ h ∷ []

  abbrev w6 : ℕ
  w6 = number_l 256 (g ∷ h ∷ [])

  abbrev w4 : ℕ
  w4 = number_l 256 (e ∷ f ∷ g ∷ h ∷ [])

  abbrev w2 : ℕ
  w2 = number_l 256 (c ∷ d ∷ e ∷ f ∷ g ∷ h ∷ [])

  abbrev w0 : ℕ
  w0 = number_l 256 ds

  pub eight_below : w0 < 1000000000000000000
  eight_below = omega arith

  p6 : pairs w6 ≡ 10 * g + h + 256 * (10 * h)
  p6 = one_pair g h 0 lg lh ∙ ap (λ r. 10 * g + h + 256 * r) (last_pair h lh)

  p4 : pairs w4 ≡ 10 * e + f + 256 * (10 * f + g + 256 * pairs w6)
  p4 = one_pair e f w6 le lf ∙ ap (λ r. 10 * e + f + 256 * r) (one_pair f g (h + 256 * 0) lf lg)

  p2 : pairs w2 ≡ 10 * c + d + 256 * (10 * d + e + 256 * pairs w4)
  p2 = one_pair c d w4 lc ld ∙ ap (λ r. 10 * c + d + 256 * r) (one_pair d e (number_l 256 (f ∷ g ∷ h ∷ [])) ld le)

  p0 : pairs w0 ≡ 10 * a + b + 256 * (10 * b + c + 256 * pairs w2)
  p0 = one_pair a b w2 la lb ∙ ap (λ r. 10 * a + b + 256 * r) (one_pair b c (number_l 256 (d ∷ e ∷ f ∷ g ∷ h ∷ [])) lb lc)

  pub eight_value : total (pairs w0) ≡ number_from_digits 10 ds
  eight_value =
      let q2 : pairs w0 / 65536 ≡ pairs w2 = after_two (pairs w0) (10 * a + b) (10 * b + c) (pairs w2) (omega arith) (omega arith) p0 in
      let q4 : pairs w2 / 65536 ≡ pairs w4 = after_two (pairs w2) (10 * c + d) (10 * d + e) (pairs w4) (omega arith) (omega arith) p2 in
      let q6 : pairs w4 / 65536 ≡ pairs w6 = after_two (pairs w4) (10 * e + f) (10 * f + g) (pairs w6) (omega arith) (omega arith) p4 in
      let four = after_four (pairs w0) (pairs w2) (pairs w4) q2 q4 in
      let k = low (pairs w0) (10 * a + b) _ (omega arith) p0 in
      let l = low (pairs w2) (10 * c + d) _ (omega arith) p2 in
      let m = low (pairs w4) (10 * e + f) _ (omega arith) p4 in
      let n = low (pairs w6) (10 * g + h) _ (omega arith) p6 in
      by_pairs (pairs w0) (pairs w2) (pairs w4) (pairs w6) (10 * a + b) (10 * c + d) (10 * e + f) (10 * g + h) k q2 l four m (after_six (pairs w0) (pairs w4) (pairs w6) four q6) n ∙ same
    where
      same : (10 * a + b) * 1000000 + (10 * c + d) * 10000 + (10 * e + f) * 100 + (10 * g + h) ≡ number_from_digits 10 ds
      same = omega arith

-- ---- a word of eight digits

by_eight : (w : ℕ) (ds : List ℕ) → IsEight w ds → (w < 1000000000000000000) × (total (pairs w) ≡ number_from_digits 10 ds)
by_eight w (a ∷ b ∷ c ∷ d ∷ e ∷ f ∷ g ∷ h ∷ []) is =
    let l = is.digits in
    let value = eight_value a b c d e f g h l.0 l.1.0 l.1.1.0 l.1.1.1.0 l.1.1.1.1.0 l.1.1.1.1.1.0 l.1.1.1.1.1.1.0 l.1.1.1.1.1.1.1.0 in
    let small = eight_below a b c d e f g h l.0 l.1.0 l.1.1.0 l.1.1.1.0 l.1.1.1.1.0 l.1.1.1.1.1.0 l.1.1.1.1.1.1.0 l.1.1.1.1.1.1.1.0 in
    (rw is.bytes small, ap (λ x. total (pairs x)) is.bytes ∙ value)
by_eight w [] is = absurd (omega (arith, is.eight))
by_eight w (a ∷ []) is = absurd (omega (arith, is.eight))
by_eight w (a ∷ b ∷ []) is = absurd (omega (arith, is.eight))
by_eight w (a ∷ b ∷ c ∷ []) is = absurd (omega (arith, is.eight))
by_eight w (a ∷ b ∷ c ∷ d ∷ []) is = absurd (omega (arith, is.eight))
by_eight w (a ∷ b ∷ c ∷ d ∷ e ∷ []) is = absurd (omega (arith, is.eight))
by_eight w (a ∷ b ∷ c ∷ d ∷ e ∷ f ∷ []) is = absurd (omega (arith, is.eight))
by_eight w (a ∷ b ∷ c ∷ d ∷ e ∷ f ∷ g ∷ []) is = absurd (omega (arith, is.eight))
by_eight w (a ∷ b ∷ c ∷ d ∷ e ∷ f ∷ g ∷ h ∷ i ∷ r) is = absurd (omega (arith, is.eight))

pub eight_small : (w : ℕ) (ds : List ℕ) → IsEight w ds → w < 1000000000000000000
eight_small w ds is = (by_eight w ds is).0

pub eight_is : (w : ℕ) (ds : List ℕ) → IsEight w ds → total (pairs w) ≡ number_from_digits 10 ds
eight_is w ds is = (by_eight w ds is).1

-- ---- the first byte that is no digit

pub others_mask : (n : ℕ) (v : List ℕ) → length v ≡ n → n ≤ 64 → mask_l (map (top 7) (zip2 (λ a b. cond (leb a b) 255 0) (replicate n 10) v)) % 2 ^ 64 ≡ mask_l (map is_other v)
others_mask n v long most =
    ap (λ ms. mask_l ms % 2 ^ 64) (tops_compared w8 leb (replicate n 10) v ∙ zip2_splat_left leb 10 n v long) ∙ mask_l-mod (map is_other v) 64 (omega (arith, length-map v is_other, long, most))

pub first_other : (v : List ℕ) → length v ≡ 8 → (mask_l (map is_other v) ≡ 0 → ⊥) → count_trailing_zeros 64 (mask_l (map is_other v)) ≡ prefix_len (λ d. not (is_other d)) v
first_other v long some = trailing_mask_l is_other 64 v (omega (arith, long)) (omega (arith, some))

-- ---- fewer than eight digits, moved to the end of the word

zeros_below : (k : ℕ) (ds : List ℕ) → AllBelowBase 10 ds → AllBelowBase 10 (replicate k 0 ++ ds)
zeros_below zero ds h = h
zeros_below (suc k) ds h = (omega arith, zeros_below k ds h)

number_zeros : (k : ℕ) (xs : List ℕ) → number_l 256 (replicate k 0 ++ xs) ≡ 256 ^ k * number_l 256 xs
number_zeros zero xs = omega arith
number_zeros (suc k) xs =
    let power : 256 ^ suc k * number_l 256 xs ≡ 256 * (256 ^ k * number_l 256 xs) = ap (λ p. p * number_l 256 xs) (pow-succ' 256 k) ∙ mul_assoc 256 (256 ^ k) (number_l 256 xs) in
    let more = number_zeros k xs in
    omega (arith, power, more)

number_split : (xs ys : List ℕ) → number_l 256 (xs ++ ys) ≡ number_l 256 xs + 256 ^ length xs * number_l 256 ys
number_split [] ys = omega arith
number_split (x ∷ xs) ys =
    let more = number_split xs ys in
    let power : 256 ^ suc (length xs) * number_l 256 ys ≡ 256 * (256 ^ length xs * number_l 256 ys) = ap (λ p. p * number_l 256 ys) (pow-succ' 256 (length xs)) ∙ mul_assoc 256 (256 ^ length xs) (number_l 256 ys) in
    omega (arith, more, power)

number_below : (xs : List ℕ) → AllBelowBase 10 xs → number_l 256 xs < 256 ^ length xs
number_below [] h = omega arith
number_below (x ∷ xs) h =
    let rest = number_below xs h.1 in
    let first = h.0 in
    let power = pow-succ' 256 (length xs) in
    omega (arith, rest, first, power)

by_count : (count n j : ℕ) → 0 < count → count ≤ 8 → n < 256 ^ count → (n + 256 ^ count * j) * 2 ^ (64 - 8 * count) % 2 ^ 64 ≡ 256 ^ (8 - count) * n
by_count zero n j some most below = absurd (omega arith)
by_count (suc zero) n j some most below = omega arith
by_count (suc (suc zero)) n j some most below = omega arith
by_count (suc (suc (suc zero))) n j some most below = omega arith
by_count (suc (suc (suc (suc zero)))) n j some most below = omega arith
by_count (suc (suc (suc (suc (suc zero))))) n j some most below = omega arith
by_count (suc (suc (suc (suc (suc (suc zero)))))) n j some most below = omega arith
by_count (suc (suc (suc (suc (suc (suc (suc zero))))))) n j some most below = omega arith
by_count (suc (suc (suc (suc (suc (suc (suc (suc zero)))))))) n j some most below = omega arith
by_count (suc (suc (suc (suc (suc (suc (suc (suc (suc k))))))))) n j some most below = absurd (omega arith)

leading_zeros : (k : ℕ) (xs : List ℕ) → number_from_digits 10 (replicate k 0 ++ xs) ≡ number_from_digits 10 xs
leading_zeros zero xs = refl
leading_zeros (suc k) xs = leading_zeros k xs

abbrev pub moved : ℕ → List ℕ → List ℕ
moved count v = replicate (8 - count) 0 ++ take count v

pub moved_is : (v : List ℕ) (count w : ℕ) → BeginsWithDigits v count → w ≡ number_l 256 v % 2 ^ 64 → IsEight (w * 2 ^ (64 - 8 * count) % 2 ^ 64) (moved count v)
moved_is v count w is e =
    let ds = take count v in
    let long : length ds ≡ count = length-take-le count v (omega (arith, is.eight, is.most)) in
    let below : number_l 256 ds < 256 ^ count = subst (λ k. number_l 256 ds < 256 ^ k) long (number_below ds is.digits) in
    let split : number_l 256 v ≡ number_l 256 ds + 256 ^ count * number_l 256 (drop count v) =
    ap (number_l 256) (sym (take-append-drop count v)) ∙ number_split ds (drop count v) ∙ ap (λ k. number_l 256 ds + 256 ^ k * number_l 256 (drop count v)) long in
    record {
      eight = length-append (replicate (8 - count) 0) ds ∙ omega (arith, length-replicate {A = ℕ} (8 - count) 0, long, is.most);
      digits = zeros_below (8 - count) ds is.digits;
      bytes = ap (λ x. x * 2 ^ (64 - 8 * count) % 2 ^ 64) e ∙ mul-mod_first (number_l 256 v) (2 ^ (64 - 8 * count)) (2 ^ 64) ∙ ap (λ x. x * 2 ^ (64 - 8 * count) % 2 ^ 64) split ∙ by_count count (number_l 256 ds) (number_l 256 (drop count v)) is.some is.most below ∙ sym (number_zeros (8 - count) ds);
    }

pub moved_value : (v : List ℕ) (count : ℕ) → number_from_digits 10 (moved count v) ≡ number_from_digits 10 (take count v)
moved_value v count = leading_zeros (8 - count) (take count v)

pub moved_below : (v : List ℕ) (count w : ℕ) → BeginsWithDigits v count → w ≡ number_l 256 v % 2 ^ 64 → number_from_digits 10 (take count v) < 100000000
moved_below v count w is e =
    let m = moved_is v count w is e in
    let below : number_from_digits 10 (moved count v) < 10 ^ 8 = subst (λ k. number_from_digits 10 (moved count v) < 10 ^ k) m.eight (number_lt 10 (moved count v) m.digits) in
    rw (moved_value v count) at below

-- ---- the bytes of a text

one_passes : (b : Bool) (n k : ℕ) → suc n ≤ cond (not b) (1 + k) 0 → (b ≡ false) × (n ≤ k)
one_passes true n k h = absurd (omega (arith, h))
one_passes false n k h = (refl, omega (arith, h))

-- the lanes before the first that is no digit
pub prefix_below : (n : ℕ) (v : List ℕ) → n ≤ prefix_len (λ d. not (is_other d)) v → AllBelowBase 10 (take n v)
prefix_below zero v h = tt
prefix_below (suc n) [] h = tt
prefix_below (suc n) (x ∷ xs) h =
    let one = one_passes (is_other x) n (prefix_len (λ d. not (is_other d)) xs) h in
    (omega (arith, leb-false 10 x one.0), prefix_below n xs one.1)

record AreWritten (cs : List ℕ) : Type 0 where
  digits : AllDigits 10 cs
  values : map digit_value cs ≡ map offset cs

written : (cs : List ℕ) → ((i : ℕ) → get_or cs i 0 < 256) → AllBelowBase 10 (map offset cs) → AreWritten cs
written [] fits h = record { digits = tt; values = refl }
written (c ∷ cs) fits h =
    let first = fits 0 in
    let low = h.0 in
    let range : IsInRange 48 57 c = (omega (arith, first, low), omega (arith, first, low)) in
    let value = digit_value_digit c range in
    let same : digit_value c ≡ offset c = omega (arith, value, first, low, range.0, range.1) in
    let more = written cs (λ i. fits (suc i)) h.1 in
    record { digits = (omega (arith, same, low), more.digits); values = ap₂ (λ d ds. d ∷ ds) same more.values }

part_fits : (text : List ℕ) (from n i : ℕ) → ((k : ℕ) → get_or text k 0 < 256) → get_or (take n (drop from text)) i 0 < 256
part_fits text from n i fits = go (cases_lt i n)
  where
    go : (i < n) ⊎ (n ≤ i) → get_or (take n (drop from text)) i 0 < 256
    go (inl l) = rw (get_or-take n (drop from text) i 0 l, get_or-drop from text i 0) (fits (from + i))
    go (inr g) = rw (get_or_past (take n (drop from text)) i 0 (omega (arith, g, length-take n (drop from text)))) (omega arith)

pub take_take : (n m : ℕ) (xs : List ℕ) → n ≤ m → take n (take m xs) ≡ take n xs
take_take zero m xs le = refl
take_take (suc n) zero xs le = absurd (omega (arith, le))
take_take (suc n) (suc m) [] le = refl
take_take (suc n) (suc m) (x ∷ xs) le = ap (λ r. x ∷ r) (take_take n m xs (omega (arith, le)))

pub digits_are_written : (text v : List ℕ) (from count n : ℕ) → ((k : ℕ) → get_or text k 0 < 256) → from + 8 ≤ length text → v ≡ map offset (chunk from 8 text) → BeginsWithDigits v count
    → n ≡ number_from_digits 10 (take count v) → n < 100000000 → AreDigits text from (from + count) n
digits_are_written text v from count n fits room lanes is value small =
    let cs = take count (drop from text) in
    let same : take count v ≡ map offset cs = ap (take count) lanes ∙ take-map offset count (chunk from 8 text) ∙ ap (map offset) (take_take count 8 (drop from text) is.most) in
    let w = written cs (λ i. part_fits text from count i fits) (subst (AllBelowBase 10) same is.digits) in
    let long : from + count - from ≡ count = omega arith in
    record {
      some = omega (arith, is.some);
      within = omega (arith, room, is.most);
      digits = subst (λ k. AllDigits 10 (take k (drop from text))) (sym long) w.digits;
      value = ap (λ k. digits_value 10 (take k (drop from text))) long ∙ digits_value_is 10 cs ∙ ap (number_from_digits 10) (w.values ∙ sym same) ∙ sym value;
      below = omega (arith, small);
    }

pub begins_with_digits : (v : List ℕ) (n : ℕ) → length v ≡ 8 → (n ≡ 0 → ⊥) → n < 8 → n ≡ prefix_len (λ d. not (is_other d)) v → BeginsWithDigits v n
begins_with_digits v n long some few e = record {
  eight = long;
  some = omega (arith, some);
  most = omega (arith, few);
  digits = prefix_below n v (omega (arith, e));
}

pub length-offsets : (text v : List ℕ) (from : ℕ) → from + 8 ≤ length text → v ≡ map offset (chunk from 8 text) → length v ≡ 8
length-offsets text v from room e = ap length e ∙ length-map (chunk from 8 text) offset ∙ length-chunk from 8 text room
