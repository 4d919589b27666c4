use Rattle.std.proofs.Common.{◌≡◌, ◌↔◌, refl, arith, ℕ, ◌+◌, ◌<◌, ◌≤◌, Bool, true, false, cond, ltb, leb, get_or, replicate}
use Rattle.std.proofs.lemmas.Bool.Decides.{Decides-ltb}
use lib.Lanes.{top}
use Rattle.polygons.proofs.Sixteen.{itself, splat, zipped, sum16, both16, most16, less16, exact_sum, bit_of_lane}
use Rattle.polygons.proofs.short_lanes.passing.Goals as goal

-- the bit that three tests leave
abbrev bit_of : Bool → Bool → Bool → ℕ
bit_of a b d = cond (top 15 (both16 (both16 (cond a 65535 0) (cond b 65535 0)) (cond d 65535 0))) 1 0

record AreTrue (a b d : Bool) : Type 0 where
  first : a ≡ true
  second : b ≡ true
  third : d ≡ true

all_true : (a b d : Bool) → bit_of a b d ≡ 1 → AreTrue a b d
all_true true true true e = record { first = refl; second = refl; third = refl }
all_true true true false e = absurd (omega (arith, e))
all_true true false true e = absurd (omega (arith, e))
all_true true false false e = absurd (omega (arith, e))
all_true false true true e = absurd (omega (arith, e))
all_true false true false e = absurd (omega (arith, e))
all_true false false true e = absurd (omega (arith, e))
all_true false false false e = absurd (omega (arith, e))

is_set : (a b d : Bool) → a ≡ true → b ≡ true → d ≡ true → bit_of a b d ≡ 1
is_set a b d e f g = λ i. bit_of (e i) (f i) (g i)

passes : (d r : ℕ) → (bit_of (leb 256 d) (ltb d 16640) (leb 256 r) ≡ 1) ↔ ((256 ≤ d) × (d < 16640) × (256 ≤ r))
passes d r = (
  (λ e. let t = all_true (leb 256 d) (ltb d 16640) (leb 256 r) e in ((Decides-ltb 255 d).0 t.first, (Decides-ltb d 16640).0 t.second, (Decides-ltb 255 r).0 t.third)),
  (λ h. is_set _ _ _ ((Decides-ltb 255 d).1 h.0) ((Decides-ltb d 16640).1 h.1) ((Decides-ltb 255 r).1 h.2)),
)

pub returns : goal.returns
returns c s l =
    let d = c.args.distances in
    let r = c.args.rests in
    let d_lanes = itself d c.fits-distances.0 in
    let some = zipped most16 (replicate 16 256) d _ _ (splat 256) d_lanes in
    let few = zipped less16 d (replicate 16 16640) _ _ d_lanes (splat 16640) in
    let sums = zipped sum16 r (replicate 16 c.args.by) _ _ (itself r c.fits-rests.0) (splat c.args.by) in
    let more = zipped most16 (replicate 16 256) _ _ _ (splat 256) sums in
    let all = zipped both16 _ _ _ _ (zipped both16 _ _ _ _ some few) more in
    let bit = bit_of_lane _ _ s all l in
    let low = c.requires.rests s l in
    let sum = exact_sum (get_or r s 0) c.args.by (omega (arith, low, c.requires.by)) in
    rw (bit, sum) (passes (get_or d s 0) (get_or r s 0 + c.args.by))
