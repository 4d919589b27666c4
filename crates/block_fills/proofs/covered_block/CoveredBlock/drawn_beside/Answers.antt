use Rattle.std.proofs.Common.{rules, ◌≡◌, sym, subst}
use Rattle.shade.specs.declared.sample.CanvasSample.{CanvasSample}
use Rattle.lanes.specs.Fragment.{Takes}
use Rattle.block_fills.proofs.covered_block.CoveredBlock.drawn_beside.Goals as goal

pub returns-then-eq : goal.returns-then-eq
returns-then-eq c =
    let same : c.args.stored ≡ c.args.other = search rules in
    subst (λ (x : CanvasSample). Takes c.args.self.now.fragment.now x c.args.made) (sym same) c.requires
