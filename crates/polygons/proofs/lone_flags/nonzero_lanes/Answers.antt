use Rattle.std.proofs.Common.{◌≡◌, refl, sym, ap, ◌∙◌, ℕ, ◌*◌, ◌<◌, Bool, true, false, not, eqb, cond, List, length, get_or, map, replicate, w8}
use Rattle.std.specs.Simd.Lanes.{sel_l, zip2, top}
use Rattle.std.proofs.lemmas.Simd.{tops_compared, length-sel_l, length-zip2, get_or-replicate}
use Rattle.polygons.proofs.MaskLanes.{chosen}
use Rattle.polygons.proofs.lone_flags.nonzero_lanes.Goals as goal

module _ (v : List ℕ) (long : length v ≡ 32) where
  abbrev tests : List Bool
  tests = zip2 (λ x y. not (eqb x y)) v (replicate 32 0)

  compared : map (top 7) (zip2 (λ x y. cond (not (eqb x y)) 255 0) v (replicate 32 0)) ≡ tests
  compared = tops_compared w8 (λ x y. not (eqb x y)) v (replicate 32 0)

  tests_long : length tests ≡ 32
  tests_long = let all : length {A = ℕ} (replicate 32 0) ≡ 32 = refl in length-zip2 (λ x y. not (eqb x y)) v (replicate 32 0) (long ∙ sym all) ∙ long

  whole : length {A = ℕ} (sel_l tests (replicate 32 255) (replicate 32 0)) ≡ 32
  whole = length-sel_l tests (replicate 32 255) (replicate 32 0) tests_long tests_long ∙ tests_long

  each : (q : ℕ) → q < 32 → get_or {A = ℕ} (sel_l tests (replicate 32 255) (replicate 32 0)) q 0 ≡ cond (not (eqb (get_or v q 0) 0)) 255 0
  each q h = chosen (λ x y. not (eqb x y)) 32 0 v (replicate 32 255) (replicate 32 0) long refl refl q h ∙ (λ i. cond (not (eqb (get_or v q 0) 0)) (get_or-replicate 32 q 255 0 h i) (get_or-replicate 32 q 0 0 h i))

all_bits : (b : Bool) → cond {A = ℕ} (not b) 255 0 ≡ 255 * cond b 0 1
all_bits true = refl
all_bits false = refl

pub returns-clause-whole : goal.returns-clause-whole
returns-clause-whole c = ap (λ ms. length {A = ℕ} (sel_l ms (replicate 32 255) (replicate 32 0))) (compared c.args.lanes c.requires) ∙ whole c.args.lanes c.requires

pub returns-clause-each : goal.returns-clause-each
returns-clause-each c row h =
    ap (λ ms. get_or {A = ℕ} (sel_l ms (replicate 32 255) (replicate 32 0)) row 0) (compared c.args.lanes c.requires) ∙ each c.args.lanes c.requires row h ∙ all_bits (eqb (get_or c.args.lanes row 0) 0)
