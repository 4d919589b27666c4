use Rattle.std.proofs.Common.{◌≡◌, ◌∙◌, ℕ, ◌/◌, List, get_or, slice_get, Some, inl, inr, arith}
use Rattle.std.proofs.lemmas.Bool.{cases_lt}
use Rattle.std.proofs.lemmas.Option.{get_or_from_slice_get, slice_get_within}
use Rattle.shade.specs.declared.placed.Placed.{Placed}
use Rattle.reach.proofs.marks.reach_of.Goals as goal

-- the triangle that is read at a place, by the one that is found there
found_item : (ts : List Placed) (k : ℕ) (item t : Placed) → item ≡ get_or ts k item → slice_get ts k ≡ Some t → item ≡ t
found_item ts k item t is e = is ∙ get_or_from_slice_get ts k t item e

pub loop-k-preserved : goal.loop-k-preserved
loop-k-preserved c = λ k t low found count i j s m.
    elim (cases_lt k c.loop-k.k) [
      | inl less ↦ let before = c.loop-k.invariant k t less found count i j s m in (c.mark.ensures.kept (i / 64) k before.0, c.mark-in-loop-k.ensures.kept (j / 64) k before.1)
      | inr more ↦
          let same : k ≡ c.loop-k.k = omega arith in
          let item : c.index-chunk-k.result ≡ t = found_item c.args.chunk.now k c.index-chunk-k.result t (rw same c.index-chunk-k.is) found in
          let met = c.tiles_of.ensures.all count i j s (rw item m) in
          (rw same (c.mark.ensures.set (i / 64) met.0), rw same (c.mark-in-loop-k.ensures.set (j / 64) met.1))
    ]

pub returns : goal.returns
returns c = λ k t found count i j s m.
    let below = slice_get_within c.args.chunk.now k t found in
    c.loop-k.invariant k t (omega (arith, below, c.loop-k-test.false)) found count i j s m
