use Rattle.std.proofs.Common.{◌≡◌, ◌≢◌, ◌<◌, ◌≤◌, ℕ, List, Bool, not, cond, eqb, leb, ltb, get_or, replicate, sym, subst, w16, length, map, Decides}
use Rattle.std.specs.Simd.Lanes.{sel_l, zip2, top}
use Rattle.std.proofs.lemmas.Simd.{tops_compared}
use Rattle.std.proofs.lemmas.Bool.Decides.{Decides-ltb, Decides-eqb}
use Rattle.lanes.specs.Lanes.{IsMask}
use Rattle.gradients.proofs.Lanes.{itself}
use Rattle.lanes.proofs.Lanes.{reported, always, never, not_equal, at_most}
use Rattle.lanes.proofs.merging.passes_lanes.Goals.{in-Never, in-Less, in-Equal, in-LessEqual, in-Greater, in-NotEqual, in-GreaterEqual, in-Always}
use Rattle.lanes.proofs.merging.passes_lanes.Goals as goal

compared : (t : ℕ → ℕ → Bool) (P : ℕ → ℕ → Type 0) → ((x y : ℕ) → Decides (t x y) (P x y)) → (a b : List ℕ) → length a ≡ 16 → length b ≡ 16
    → IsMask (sel_l (map (top 15) (zip2 (λ x y. cond (t x y) 65535 0) a b)) (replicate 16 65535) (replicate 16 0)) (λ i. P (get_or a i 0) (get_or b i 0))
compared t P d a b p q =
    subst (λ ms. IsMask (sel_l ms (replicate 16 65535) (replicate 16 0)) (λ i. P (get_or a i 0) (get_or b i 0))) (sym (tops_compared w16 t a b)) (reported t P d a b _ _ (itself a p) (itself b q))

pub returns : goal.returns
returns c =
    let new = c.args.new in
    let old = c.args.old in
    let p = c.fits-new.0 in
    let q = c.fits-old.0 in
    elim c.match-test.branch [
      | in-Never w ↦ rw (w.result-is, w.in-Never.is) (never _ (λ k h. h))
      | in-Less w ↦ rw (w.result-is, w.in-Less.is) (compared ltb ◌<◌ Decides-ltb new old p q)
      | in-Equal w ↦ rw (w.result-is, w.in-Equal.is) (compared eqb (λ x y. x ≡ y) Decides-eqb new old p q)
      | in-LessEqual w ↦ rw (w.result-is, w.in-LessEqual.is) (compared leb ◌≤◌ at_most new old p q)
      | in-Greater w ↦ rw (w.result-is, w.in-Greater.is) (compared ltb ◌<◌ Decides-ltb old new q p)
      | in-NotEqual w ↦ rw (w.result-is, w.in-NotEqual.is) (compared (λ x y. not (eqb x y)) (λ x y. x ≢ y) not_equal new old p q)
      | in-GreaterEqual w ↦ rw (w.result-is, w.in-GreaterEqual.is) (compared leb ◌≤◌ at_most old new q p)
      | in-Always w ↦ rw (w.result-is, w.in-Always.is) (always _ (λ k. tt))
    ]
