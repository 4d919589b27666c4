use Rattle.std.proofs.Common.{sym, ◌∙◌, ◌*◌, ◌+◌, arith, rules}
use Rattle.tile.proofs.PixelRuns.{adds_run, run_of_colours, run_of_depths}
use Rattle.tile.proofs.pixels.SampledTile.push_pixel_run.Goals as goal

pub returns-in-Some : goal.returns-in-Some
returns-in-Some c =
    let tile = c.args.self.now.tile.now in
    adds_run _ c.args.self.now.list.now (8 * tile.bx + 8 * c.args.column) (8 * tile.by + c.args.row) c.args.many _ _ _
    (run_of_colours c.args.self.now.list.now tile c.args.self.now.samples.now c.args.row c.args.column c.args.many c.requires.ends c.args.self.now.same_count c.requires.many c.requires.shown _ (sym c.output.ensures ∙ c.in-Color.is) (search rules) ((rw c.in-Some.is at c.requires.same) c.args.row c.args.column c.requires.row c.requires.column))
    c.push_first.ensures

pub returns-in-None : goal.returns-in-None
returns-in-None c =
    let tile = c.args.self.now.tile.now in
    adds_run _ c.args.self.now.list.now (8 * tile.bx + 8 * c.args.column) (8 * tile.by + c.args.row) c.args.many _ _ _
    (run_of_colours c.args.self.now.list.now tile c.args.self.now.samples.now c.args.row c.args.column c.args.many c.requires.ends c.args.self.now.same_count c.requires.many c.requires.shown _ (sym c.output.ensures ∙ c.in-Color.is) (search rules) c.colour_run.ensures)
    c.push_first-in-None.ensures

pub returns-in-Depth : goal.returns-in-Depth
returns-in-Depth c =
    let tile = c.args.self.now.tile.now in
    adds_run _ c.args.self.now.list.now (8 * tile.bx + 8 * c.args.column) (8 * tile.by + c.args.row) c.args.many _ _ _
    (run_of_depths c.args.self.now.list.now tile c.args.self.now.samples.now c.args.row c.args.column c.args.many c.requires.ends c.args.self.now.same_count c.requires.many c.requires.shown _ (sym c.output.ensures ∙ c.in-Depth.is) (omega arith) c.depths.ensures)
    c.push_first-in-Depth.ensures
