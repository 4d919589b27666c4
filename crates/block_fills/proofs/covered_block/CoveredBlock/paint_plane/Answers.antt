use Rattle.std.proofs.Common.{◌≡◌, arith, ℕ, ◌+◌, ◌-◌, ◌≤◌, length}
use Rattle.block_fills.proofs.OnePlane.{plane_painted, others_kept}
use Rattle.block_fills.proofs.covered_block.CoveredBlock.paint_plane.Goals as goal

pub returns-clause-painted : goal.returns-clause-painted
returns-clause-painted c =
    let samples = c.args.samples.now in
    let place : ℕ = c.args.place in
    let n : ℕ = place + 1 - place in
    let single : n ≡ 1 = omega arith in
    let fits : place + n ≤ length samples = omega (arith, c.requires.within, c.requires.samples) in
    plane_painted c.args.self.now.fragment.now c.args.self.now.tile.now c.args.self.now.side place samples c.draw_plane.new.plane n single c.requires.place fits (omega (arith, c.draw_plane.auto.plane, fits)) c.requires.masks c.draw_plane.ensures

pub returns-clause-others : goal.returns-clause-others
returns-clause-others c =
    let samples = c.args.samples.now in
    let place : ℕ = c.args.place in
    let n : ℕ = place + 1 - place in
    let single : n ≡ 1 = omega arith in
    let fits : place + n ≤ length samples = omega (arith, c.requires.within, c.requires.samples) in
    others_kept c.args.self.now.fragment.now c.args.self.now.tile.now c.args.self.now.side place samples c.draw_plane.new.plane n single c.requires.place fits (omega (arith, c.draw_plane.auto.plane, fits)) c.requires.masks c.draw_plane.ensures
