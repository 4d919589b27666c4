use Rattle.std.proofs.Common.{◌≡◌, ◌∙◌, arith, ℕ, ◌+◌, ◌%◌, ◌^◌, ◌<◌, List, length, get_or, map, replicate, Fits, w8, w32}
use Rattle.std.specs.Simd.Lanes.{zip2}
use Rattle.std.proofs.lemmas.List.{map-id}
use Rattle.std.proofs.lemmas.Simd.{Each1-get_or}
use borrow.Rule.Simd.Lanes.{act2}
use borrow.Table.Row.{s_int}
use mir.Syntax.{wrap_sub}
use Rattle.polygons.proofs.MaskLanes.{AreLanes, itself, splat, zipped}
use Rattle.polygons.proofs.four_sums.lowered.Goals as goal

abbrev difference32 : ℕ → ℕ → ℕ
difference32 = act2 wrap_sub (s_int w32) (s_int w32) (s_int w32)

less : (v : List ℕ) → length v ≡ 32 → AreLanes 32 (zip2 difference32 (map (λ (x : ℕ). x) v) (replicate 32 16)) (λ q. difference32 (get_or v q 0) 16)
less v long = rw (map-id v) (zipped 32 difference32 v (replicate 32 16) _ _ (itself 32 v long) (splat 32 16))

number : (n : ℕ) → n < 256 → difference32 n 16 ≡ (n + 4294967280) % 2 ^ 32
number n h = omega arith

pub returns-clause-whole : goal.returns-clause-whole
returns-clause-whole c = (less c.args.raised c.requires).long

pub returns-clause-each : goal.returns-clause-each
returns-clause-each c row h =
    (less c.args.raised c.requires).each row h ∙ number _ (Each1-get_or (Fits w8) c.args.raised row 0 (omega (arith, c.requires, h)) c.fits-raised.1).fits
