use Rattle.std.proofs.Common.{◌≡◌, refl, sym, ap, ◌∙◌, arith, ℕ, zero, suc, ◌+◌, ◌*◌, ◌-◌, ◌%◌, ◌<◌}
use Rattle.std.proofs.lemmas.Nat.Bits.{shr_and_one, bit_at-lt}
use Rattle.std.specs.Int.{bit_at}
use Rattle.polygons.specs.Cells.{in_use}
use Rattle.polygons.proofs.sum.number.Goals as goal

firsts : (d u m counter : ℕ) → u < 2 → m ≡ 0 → (d + (4294967296 - u)) % 4294967296 ≡ (d + 4294967295 * u + in_use m counter) % 4294967296
firsts d u m counter l none = let e : in_use m counter ≡ 0 = ap (λ n. in_use n counter) none in omega arith

with_counter : (d u m counter : ℕ) → u < 2 → (m ≡ 0 → ⊥) → ((d + (4294967296 - u)) % 4294967296 + counter) % 4294967296 ≡ (d + 4294967295 * u + in_use m counter) % 4294967296
with_counter d u zero counter l some = absurd (some refl)
with_counter d u (suc m) counter l some = omega arith

pub returns-then-marks-i-eq0 : goal.returns-then-marks-i-eq0
returns-then-marks-i-eq0 c =
    let marks = c.args.marks in
    let i = c.args.i in
    rw (shr_and_one marks.downs i, shr_and_one marks.ups i) (firsts (bit_at marks.downs i) (bit_at marks.ups i) (bit_at marks.more i) _ (bit_at-lt marks.ups i) (sym (shr_and_one marks.more i) ∙ c.if-marks-i-eq0.true))

pub returns : goal.returns
returns c =
    let marks = c.args.marks in
    let i = c.args.i in
    rw (shr_and_one marks.downs i, shr_and_one marks.ups i) (with_counter (bit_at marks.downs i) (bit_at marks.ups i) (bit_at marks.more i) _ (bit_at-lt marks.ups i) (λ e. c.if-marks-i-eq0.false (shr_and_one marks.more i ∙ e)))
