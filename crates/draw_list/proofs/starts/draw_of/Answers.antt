use Rattle.std.proofs.Common.{◌≡◌, inl, inr, true, false, leb, leb-false, leb-true, arith, rules}
use Rattle.std.specs.List.Sorted.{IsPartitionPoint}
use Rattle.std.proofs.lemmas.Bool.{cases_lt}
use Rattle.std.proofs.lemmas.List.Sorted.{IsPartitionPoint-from_clause, IsPartitionedBy-leb}
use Rattle.draw_list.proofs.starts.draw_of.Goals as goal

point : (c : goal.After-partition_point) → IsPartitionPoint (λ y. leb y c.args.number ≡ true) (λ y. leb y c.args.number ≡ false) c.args.starts.now c.partition_point.result
point c =
    let parted = IsPartitionedBy-leb (λ n. n) c.args.starts.now c.args.number c.requires.ascending in
    IsPartitionPoint-from_clause (λ y. leb y c.args.number) _ _ c.partition_point.ensures.partitioned parted (λ a r q k. search rules)

pub overflow_sub-result : goal.overflow_sub-result
overflow_sub-result c =
    elim (cases_lt 0 c.partition_point.result) [
      | inl h ↦ omega arith
      | inr h ↦ let first = leb-false _ _ ((point c).1 0 0 h c.requires.some) in let low = c.requires.first in omega arith
    ]

pub returns : goal.returns
returns c =
    let some = overflow_sub-result c in
    record {
      within = omega (arith, c.partition_point.ensures);
      start = leb-true _ _ ((point c).0 _ 0 (omega arith) (omega arith));
      last = λ k h l. leb-false _ _ ((point c).1 k 0 (omega arith) l);
    }
