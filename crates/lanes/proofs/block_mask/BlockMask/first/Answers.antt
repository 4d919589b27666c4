use Rattle.std.proofs.Common.{◌+◌, ◌*◌, subst, sym, rules}
use Rattle.grid.specs.Position.{Position}
use Rattle.gradients.specs.Multiple.{IsSixteenth}
use Rattle.gradients.proofs.WholeValues.{sample_x, sample_y}
use Rattle.lanes.proofs.block_mask.BlockMask.first.Goals as goal

pub returns-clause-on_screen : goal.returns-clause-on_screen
returns-clause-on_screen c =
    let m = c.args.self.now in
    record {
      left = search rules;
      top = search rules;
      right = search rules;
      bottom = search rules;
      sixteenth_x = subst (λ (p : Position). IsSixteenth p.x) (sym c.sample_at.ensures) (sample_x (8 * m.bx) (8 * m.by) (m.from + c.args.s) m.count);
      sixteenth_y = subst (λ (p : Position). IsSixteenth p.y) (sym c.sample_at.ensures) (sample_y (8 * m.bx) (8 * m.by) (m.from + c.args.s) m.count);
    }
