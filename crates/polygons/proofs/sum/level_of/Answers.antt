use Rattle.std.proofs.Common.{arith, ◌+◌, ◌*◌, ◌∙◌}
use Rattle.std.proofs.lemmas.Nat.Bits.{bit_at-zero, bit_at-lt}
use Rattle.std.specs.Int.{bit_at}
use Rattle.polygons.proofs.Parity.{parity-none}
use Rattle.polygons.proofs.sum.level_of.Goals as goal

pub returns : goal.returns
returns c r j h l =
    let none = parity-none (λ k. bit_at 0 (8 * r + k)) (j + 1) (λ k _. bit_at-zero (8 * r + k)) in
    let last = c.last_column.ensures.bits r h in
    let small = bit_at-lt c.args.mask (8 * r + 7) in
    c.fill_rows.ensures.filled r j h l ∙ omega (arith, none, last, small)
