use Rattle.cover.specs.Masks.{to_column, to_row}
use Rattle.cover.proofs.Joined.{both_exact, means}
use Rattle.cover.proofs.FourSides.{small_at, value_kept, inside_at}
use Rattle.cover.proofs.quad.Sides.masks.Goals as goal

pub masks-requires-clause-at : goal.masks-requires-clause-at
masks-requires-clause-at c = small_at c.args.self.now.ab _ _ _ c.requires.x c.requires.y c.on_screen.ensures

pub masks-requires-2-clause-at : goal.masks-requires-2-clause-at
masks-requires-2-clause-at c = small_at c.args.self.now.bc _ _ _ c.requires.x c.requires.y c.on_screen-2.ensures

pub masks-requires-3-clause-at : goal.masks-requires-3-clause-at
masks-requires-3-clause-at c = small_at c.args.self.now.cd _ _ _ c.requires.x c.requires.y c.on_screen-3.ensures

pub masks-requires-4-clause-at : goal.masks-requires-4-clause-at
masks-requires-4-clause-at c = small_at c.args.self.now.da _ _ _ c.requires.x c.requires.y c.on_screen-4.ensures

pub returns : goal.returns
returns c =
    let n = c.args.count in
    let e = c.args.self.now in
    let x = c.args.x in
    let y = c.args.y in
    means n 0 8 c.both-3.result
    (λ s row column. inside_at e x y (to_column n s column) (to_row n s row) _ _ _ _
    (value_kept e.ab c.on_screen.result x y c.requires.x c.requires.y c.on_screen.ensures) (value_kept e.bc c.on_screen-2.result x y c.requires.x c.requires.y c.on_screen-2.ensures)
    (value_kept e.cd c.on_screen-3.result x y c.requires.x c.requires.y c.on_screen-3.ensures) (value_kept e.da c.on_screen-4.result x y c.requires.x c.requires.y c.on_screen-4.ensures))
    (both_exact n 0 8 c.both-2.result c.masks-4.result c.both-3.result
    (both_exact n 0 8 c.both.result c.masks-3.result c.both-2.result (both_exact n 0 8 c.masks.result c.masks-2.result c.both.result c.masks.ensures c.masks-2.ensures c.both.ensures) c.masks-3.ensures c.both-2.ensures)
    c.masks-4.ensures c.both-3.ensures)
