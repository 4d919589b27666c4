use Rattle.std.proofs.Common.{◌≡◌, ◌≢◌, ◌∙◌, sym, ℕ, ◌/◌, List, inl, inr, subst, slice_get, Some, arith}
use Rattle.std.proofs.lemmas.Bool.{cases_lt}
use Rattle.std.proofs.lemmas.Option.{get_or_from_slice_get}
use Rattle.shade.specs.declared.placed.Placed.{Placed}
use Rattle.reach.specs.Reach.{MeetsOnScreen}
use Rattle.reach.proofs.bounds.Bounds.set.Goals as goal

same_found : (ts : List Placed) (k : ℕ) (t u : Placed) → slice_get ts k ≡ Some t → slice_get ts k ≡ Some u → t ≡ u
same_found ts k t u found again = sym (get_or_from_slice_get ts k t t found) ∙ get_or_from_slice_get ts k u t again

pub loop-number-preserved : goal.loop-number-preserved
loop-number-preserved g c = λ k t low found count i j s m.
    let ts = g.T.Triangles.listed c.args.triangles.now in
    let number = c.loop-number.number in
    elim (cases_lt k number) [
      | inl less ↦
          let other : k ≢ number = λ e. omega (arith, e, less) in
          let before = c.loop-number.invariant k t less found count i j s m in
          let column_from = before.0.from in
          let column_below = before.0.below in
          let row_from = before.1.from in
          let row_below = before.1.below in (
            record { from = omega (arith, column_from, c.set.ensures.firsts k other); below = omega (arith, column_below, c.set.ensures.ends k other) },
            record { from = omega (arith, row_from, c.set-in-loop-number.ensures.firsts k other); below = omega (arith, row_below, c.set-in-loop-number.ensures.ends k other) },
            c.joined-self.ensures.these (j / 64) before.2,
          )
      | inr more ↦
          let same : k ≡ number = omega (arith, low, more) in
          let here : slice_get ts number ≡ Some t = subst (λ n. slice_get ts n ≡ Some t) same found in
          let item = same_found ts number t c.triangle.result here c.triangle.ensures in
          let met = c.tiles_of.ensures.all count i j s (subst (λ u. MeetsOnScreen u count i j s) item m) in
          let column_from = met.0.from in
          let column_below = met.0.below in
          let row_from = met.1.from in
          let row_below = met.1.below in (
            record { from = rw same (omega (arith, column_from, c.set.ensures.first)); below = rw same (omega (arith, column_below, c.set.ensures.end)) },
            record { from = rw same (omega (arith, row_from, c.set-in-loop-number.ensures.first)); below = rw same (omega (arith, row_below, c.set-in-loop-number.ensures.end)) },
            c.joined-self.ensures.others (j / 64) met.1,
          )
    ]

pub returns : goal.returns
returns g c = λ k t less found count i j s m. c.loop-number.invariant k t (omega (arith, less, c.loop-number-test.false, c.loop-number.auto.number-end, c.count-number-end.ensures)) found count i j s m
