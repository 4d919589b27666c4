use Rattle.cover.specs.Masks.{to_column, to_row}
use Rattle.cover.proofs.Joined.{both_exact, means, inside_is}
use Rattle.cover.proofs.edges.Edges.masks.Goals as goal

pub returns : goal.returns
returns g c =
    let n = c.args.count in
    means n c.args.from g.row.SIDE c.both-2.result (λ s row column. inside_is c.args.self.now c.args.at.now (to_column n s column) (to_row n s row) c.requires.at)
    (both_exact n c.args.from g.row.SIDE c.both.result c.masks-3.result c.both-2.result (both_exact n c.args.from g.row.SIDE c.masks.result c.masks-2.result c.both.result c.masks.ensures c.masks-2.ensures c.both.ensures) c.masks-3.ensures c.both-2.ensures)
