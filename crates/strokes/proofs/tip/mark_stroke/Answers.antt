use Rattle.std.proofs.Common.{◌-◌, length, take, drop, arith}
use Rattle.polygons.specs.Strip.{strip_sample}
use Rattle.strokes.proofs.MarkedPieces.{marked_none}
use Rattle.strokes.proofs.Traced.{no_stroke, traced_path}
use Rattle.strokes.proofs.Walks.{first_and_rest}
use Rattle.strokes.proofs.tip.mark_stroke.Goals as goal

pub returns-in-empty : goal.returns-in-empty
returns-in-empty c =
    let blocks = c.args.blocks.now in
    marked_none blocks _ c.args.flags.now (λ s row k. no_stroke c.args.style c.args.path.now (strip_sample blocks.strip s row k) (omega (arith, c.in-empty.len_below)))

pub returns-in-len1-up : goal.returns-in-len1-up
returns-in-len1-up c =
    let path = c.args.path.now in
    let first = c.first-item.result in
    let e = first_and_rest path first (omega (arith, c.in-len1-up.len_at_least)) c.first-item.is in
    let once = rw c.new.ensures at c.along-tip.ensures in
    traced_path c.args.style c.args.blocks.now path first (take (length path - 1) (drop 1 path)) c.along-tip.result c.along_again.result _ _ _ _ e once c.along_again.ensures c.end.ensures
