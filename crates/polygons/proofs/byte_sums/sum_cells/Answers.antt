use Rattle.std.proofs.Common.{◌∙◌, arith, ◌+◌, ◌*◌, ◌%◌, slice_index}
use Rattle.polygons.proofs.MaskLanes.{itself}
use Rattle.polygons.proofs.ByteSums.{added, sum_of_byte}
use Rattle.polygons.proofs.byte_sums.sum_cells.Goals as goal

pub returns-clause-whole : goal.returns-clause-whole
returns-clause-whole c = (added _ _ _ _ (itself 64 c.sum_rows.result c.sum_rows.ensures.whole) (itself 64 c.starts.result c.starts.ensures.whole)).long

pub returns-clause-each : goal.returns-clause-each
returns-clause-each c f r j v h l =
    (added _ _ _ _ (itself 64 c.sum_rows.result c.sum_rows.ensures.whole) (itself 64 c.starts.result c.starts.ensures.whole)).each (8 * r + j) (omega arith)
    ∙ (λ i. (c.sum_rows.ensures.each r j h l i + c.starts.ensures.each r j h l i) % 256)
    ∙ sum_of_byte f (slice_index c.args.numbers) (8 * r) (slice_index c.args.sums r) (j + 1) (omega arith) (c.requires.small r h) (λ k m. v.small (8 * r + k) (omega arith)) (λ k m. v.each (8 * r + k) (omega arith))
