use Rattle.list_json.specs.Denotes.{Denotes}
use Rattle.trirast_c.proofs.Lists.{every}
use Rattle.trirast_c.specs.History.{HasTriangle}
use Rattle.trirast_c.proofs.triangle.write_triangle_samples.Goals as goal

pub returns-clause-judged : goal.returns-clause-judged
returns-clause-judged c =
    let read = c.in_ok-list.ensures in
    let pass = read.judged.0 in
    let found = c.in-Some.ensures in
    let has = every (Denotes c.args.json.now) (λ l. HasTriangle l c.args.place) c.in_ok-list.list read.only (c.in-Some.number, found.within, found.place) in
    ((pass.0, (pass.1.0, (has, record {}))), record {})
