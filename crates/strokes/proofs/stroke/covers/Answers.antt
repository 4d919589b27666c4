use Rattle.std.proofs.Common.{[], ◌++◌, ◌-◌, length, take, drop, arith}
use Rattle.strokes.specs.Walking.{again}
use Rattle.strokes.proofs.Walks.{first_and_rest, started}
use Rattle.strokes.proofs.stroke.covers.Goals as goal

pub returns-in-len1-up : goal.returns-in-len1-up
returns-in-len1-up c =
    let path = c.args.path.now in
    let first = c.first-item.result in
    let rest = take (length path - 1) (drop 1 path) in
    let e = first_and_rest path first (omega (arith, c.in-len1-up.len_at_least)) c.first-item.is in
    let whole = started c.args.style path first rest c.args.p e in
    let once = rw c.new.ensures at (c.along-pen.ensures (again c.args.style path ++ [])) in
    let twice = c.along_again.ensures [] in
    let end = c.covers.ensures in
    (λ t. whole.0 (once.1 (twice.1 (end.0 t))), λ s. end.1 (twice.0 (once.0 (whole.1 s))))
