-- What several writes did to the bytes that a writer holds.
use Rattle.std.proofs.Common.{◌≡◌, ℕ, ◌+◌, ◌-◌, ◌≤◌, List, ◌++◌, length, take, drop, codes, decimal, Option, Result, Ok, Err, IfOk, sym, ap, ◌∙◌, subst, arith, length-append}
use Rattle.std.proofs.lemmas.Fmt.{length-decimal-le}
use Rattle.std.proofs.lemmas.Grind.{common_steps}
use Rattle.std.proofs.Math.Seq.{take-add, take-append-add}
use Rattle.std.proofs.KnownBytes.{Appends-trans}
use Rattle.std.specs.Io.KnownBytes.{Appends}
use Rattle.picture_file.specs.File.{ppm_header}

-- the first k of the slice from i on
take-rest : (bytes : List ℕ) (i k : ℕ) → take k (take (length bytes - i) (drop i bytes)) ≡ take k (drop i bytes)
take-rest bytes i k = grind (arith, common_steps)

-- the next write continued at the end of the writes before it
pub Appends-more : (a b c : Option (List ℕ)) (bytes : List ℕ) (i k : ℕ)
    → Appends a b (take i bytes) → Appends b c (take k (take (length bytes - i) (drop i bytes))) → Appends a c (take (i + k) bytes)
Appends-more a b c bytes i k before now =
    subst (Appends a c) (sym (take-add i k bytes)) (Appends-trans a b c _ _ before (subst (Appends b c) (take-rest bytes i k) now))

-- if a front was written whole and then the first bytes behind it, a beginning of both was written
pub Appends-front : (a b c : Option (List ℕ)) (front rest : List ℕ) (n : ℕ) → length front ≤ n
    → Appends a b front → Appends b c (take (n - length front) rest) → Appends a c (take n (front ++ rest))
Appends-front a b c front rest n past before now =
    let count : n ≡ length front + (n - length front) = omega arith in
    let split : take n (front ++ rest) ≡ front ++ take (n - length front) rest =
    ap (λ k. take k (front ++ rest)) count ∙ take-append-add front rest (n - length front) in
    subst (Appends a c) (sym split) (Appends-trans a b c _ _ before now)

-- a number of a picture's size has at most four digits
pub decimal_short : (n : ℕ) → n ≤ 4096 → length (decimal n) ≤ 4
decimal_short n small = length-decimal-le 4 n (omega arith) (omega arith) (omega arith)

length_of_five : (a b c d e : List ℕ) → length (a ++ b ++ c ++ d ++ e) ≡ length a + length b + length c + length d + length e
length_of_five a b c d e = omega (arith, length-append (a ++ b ++ c ++ d) e, length-append (a ++ b ++ c) d, length-append (a ++ b) c, length-append a b)

-- so the header of a picture of colours has at most 17 bytes
pub ppm_header_short : (width height : ℕ) → width ≤ 4096 → height ≤ 4096 → length (ppm_header width height) ≤ 17
ppm_header_short width height wide high =
    let all = length_of_five (codes "P6\n") (decimal width) (codes " ") (decimal height) (codes "\n255\n") in
    let short : 3 + length (decimal width) + 1 + length (decimal height) + 5 ≤ 17 = omega (arith, decimal_short width wide, decimal_short height high) in
    subst (λ n. n ≤ 17) (sym all) short

-- a result that is the length `long` is at most what `long` is at most
pub short_at_ok : {E : Type 0} (r : Result ℕ E) (long most : ℕ) → long ≤ most → IfOk r (λ n. n ≡ long) → IfOk r (λ n. n ≤ most)
short_at_ok (Ok n) long most h is = omega arith
short_at_ok (Err e) long most h is = tt
