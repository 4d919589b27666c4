use Rattle.std.proofs.Common.{◌≡◌, replicate}
use Rattle.std.proofs.lemmas.Result.{IfOk-weaker}
use Rattle.history.specs.declared.followed.Followed.{Followed}
use Rattle.list_history.specs.Counts.{IsRowAfter}
use Rattle.list_history.proofs.RowAfter.{row_first}
use Rattle.list_history.proofs.row.new_row.Goals as goal

pub returns-clause-row : goal.returns-clause-row
returns-clause-row c = λ n j s columns.
    IfOk-weaker c.vec.result
    (λ row. ((y : Followed) → y ≡ c.new.result → y ≡ c.new.result) → row.items ≡ replicate c.width.result c.new.result)
    (λ row. IsRowAfter c.args.list.now n j s columns 0 row.items)
    (λ row items. rw (items (λ y same. same))
    (row_first c.args.list.now n j s columns c.width.result c.new.result (λ i. rw c.clear.ensures at (c.new.ensures n c.args.list.now.count i j s))))
    c.vec.ensures.items_if_clones_equal
