use Rattle.std.proofs.Common.{refl, arith, ℕ, List, [], ◌∷◌}
use Rattle.polygons.proofs.Filling.{zero_of}
use Rattle.fills.proofs.Zeros.{one_more, all}
use Rattle.fills.proofs.scratch.clear.Goals as goal

abbrev zeros : List ℕ
zeros = 0 ∷ 0 ∷ 0 ∷ 0 ∷ 0 ∷ 0 ∷ 0 ∷ 0 ∷ 0 ∷ 0 ∷ 0 ∷ 0 ∷ 0 ∷ 0 ∷ 0 ∷ 0 ∷ 0 ∷ 0 ∷ 0 ∷ 0 ∷ 0 ∷ 0 ∷ 0 ∷ 0 ∷ 0 ∷ 0 ∷ 0 ∷ 0 ∷ 0 ∷ 0 ∷ 0 ∷ 0 ∷ []

pub loop-words-preserved : goal.loop-words-preserved
loop-words-preserved c = one_more c.loop-words.flags c.loop-words.words-index zeros (zero_of zeros refl) (omega (arith, c.loop-words-test.true, c.loop-words.auto.flags)) c.loop-words.invariant

pub returns-clause-zeros : goal.returns-clause-zeros
returns-clause-zeros c = all c.loop-words.flags c.loop-words.words-index (omega (arith, c.loop-words-test.false, c.loop-words.auto.flags)) c.loop-words.invariant
