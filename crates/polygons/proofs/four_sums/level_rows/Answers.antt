use Rattle.std.proofs.Common.{◌≡◌, inl, inr, refl, sym, ap, ◌∙◌, arith, ℕ, ◌<◌, Bool, true, false, leb, cond, List, length, get_or, map, replicate, Fits, w8}
use Rattle.std.specs.Int.{bit_at}
use Rattle.std.specs.Simd.Lanes.{sel_l, zip2, top}
use Rattle.std.proofs.lemmas.Bool.{cases_lt, lt-ltb, le-ltb}
use Rattle.std.proofs.lemmas.Nat.Bits.{bit_at-zero, bit_at_ones}
use Rattle.std.proofs.lemmas.Simd.{tops_compared, length-sel_l, length-zip2, get_or-sel_l, get_or-zip2, get_or-replicate, Each1-get_or}
use Rattle.polygons.proofs.four_sums.level_rows.Goals as goal

module _ (rows : List ℕ) (long : length rows ≡ 32) where
  abbrev tests : List Bool
  tests = zip2 leb (replicate 32 128) rows

  tests_long : length tests ≡ 32
  tests_long = let all : length {A = ℕ} (replicate 32 128) ≡ 32 = refl in length-zip2 leb (replicate 32 128) rows (all ∙ sym long) ∙ all

  compared : map (top 7) (zip2 (λ x y. cond (leb x y) 255 0) (replicate 32 128) rows) ≡ tests
  compared = tops_compared w8 leb (replicate 32 128) rows

  whole : length {A = ℕ} (sel_l tests (replicate 32 255) (replicate 32 0)) ≡ 32
  whole = length-sel_l tests (replicate 32 255) (replicate 32 0) tests_long tests_long ∙ tests_long

  each : (q : ℕ) → q < 32 → get_or {A = ℕ} (sel_l tests (replicate 32 255) (replicate 32 0)) q 0 ≡ cond (leb 128 (get_or rows q 0)) 255 0
  each q h =
      get_or-sel_l tests (replicate 32 255) (replicate 32 0) q 0 (omega (arith, tests_long)) h h
      ∙ (λ i. cond (get_or-zip2 leb (replicate 32 128) rows q 0 0 false h (omega (arith, long)) i) (get_or-replicate 32 q 255 0 h i) (get_or-replicate 32 q 0 0 h i))
      ∙ ap (λ n. cond {A = ℕ} (leb n (get_or rows q 0)) 255 0) (get_or-replicate 32 q 128 0 h)

level : (row j : ℕ) → row < 256 → j < 8 → bit_at (cond (leb 128 row) 255 0) j ≡ bit_at row 7
level row j small h = elim (cases_lt row 128) [
  | inl l ↦
      let c : leb 128 row ≡ false = le-ltb 127 row (omega arith) in
      ap (λ t. bit_at (cond {A = ℕ} t 255 0) j) c ∙ bit_at-zero j ∙ omega arith
  | inr l ↦
      let c : leb 128 row ≡ true = lt-ltb 127 row (omega arith) in
      ap (λ t. bit_at (cond {A = ℕ} t 255 0) j) c ∙ bit_at_ones 8 j h ∙ omega arith
]

pub returns-clause-whole : goal.returns-clause-whole
returns-clause-whole c = ap (λ ms. length {A = ℕ} (sel_l ms (replicate 32 255) (replicate 32 0))) (compared c.args.rows c.requires) ∙ whole c.args.rows c.requires

pub returns-clause-each : goal.returns-clause-each
returns-clause-each c q j h l =
    let rows = c.args.rows in
    let fits = (Each1-get_or (Fits w8) rows q 0 (omega (arith, c.requires, h)) c.fits-rows.1).fits in
    ap (λ ms. bit_at (get_or {A = ℕ} (sel_l ms (replicate 32 255) (replicate 32 0)) q 0) j) (compared rows c.requires) ∙ ap (λ n. bit_at n j) (each rows c.requires q h) ∙ level (get_or rows q 0) j fits l
