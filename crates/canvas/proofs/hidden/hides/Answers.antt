use Rattle.canvas.proofs.Shown.{hides_tile}
use Rattle.canvas.proofs.hidden.hides.Goals as goal

pub returns-then-holds_tile : goal.returns-then-holds_tile
returns-then-holds_tile c = λ covered.
    hides_tile c.args.triangle.now c.args.tile.now (c.replaces_colours.ensures c.if-not-replaces_colours.false) (c.holds_tile.ensures c.if-holds_tile.true) (c.is_over.ensures.drawn covered) (c.is_over.ensures.covers covered)
