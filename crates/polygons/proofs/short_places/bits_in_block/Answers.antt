use Rattle.std.proofs.Common.{◌∙◌, ap, arith, ◌*◌, ◌%◌, get_or, replicate}
use Rattle.std.proofs.lemmas.Nat.{and_mask}
use Rattle.polygons.proofs.Sixteen.{itself, splat, zipped, sum16, product16, both16, exact_sum, exact_product}
use Rattle.polygons.proofs.short_places.bits_in_block.Goals as goal

pub returns-clause-whole : goal.returns-clause-whole
returns-clause-whole c =
    (zipped sum16 _ _ _ _ (zipped product16 (replicate 16 8) _ _ _ (splat 8) (zipped both16 c.args.rows (replicate 16 7) _ _ (itself c.args.rows c.requires.rows) (splat 7))) (zipped both16 c.args.columns (replicate 16 7) _ _ (itself c.args.columns c.requires.columns) (splat 7))).long

pub returns-clause-each : goal.returns-clause-each
returns-clause-each c s l =
    let r = get_or c.args.rows s 0 in
    let k = get_or c.args.columns s 0 in
    (zipped sum16 _ _ _ _ (zipped product16 (replicate 16 8) _ _ _ (splat 8) (zipped both16 c.args.rows (replicate 16 7) _ _ (itself c.args.rows c.requires.rows) (splat 7))) (zipped both16 c.args.columns (replicate 16 7) _ _ (itself c.args.columns c.requires.columns) (splat 7))).each s l
    ∙ (λ i. sum16 (product16 8 (and_mask r 3 i)) (and_mask k 3 i))
    ∙ ap (λ n. sum16 n (k % 8)) (exact_product 8 (r % 8) (omega arith))
    ∙ exact_sum (8 * (r % 8)) (k % 8) (omega arith)
