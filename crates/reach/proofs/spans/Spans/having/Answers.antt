use Rattle.std.proofs.Common.{◌≡◌, ◌∙◌, ℕ, ◌+◌, ◌-◌, ◌<◌, List, length, take, drop, slice_index, arith}
use Rattle.std.proofs.lemmas.List.{get_or-drop, get_or-take}
use Rattle.reach.proofs.Bits.{both_set}
use Rattle.reach.proofs.spans.Spans.having.Goals as goal

-- a number of the part from place `from` on
part : (bytes : List ℕ) (from bit : ℕ) → from + bit < length bytes → slice_index (take (length bytes - from) (drop from bytes)) bit ≡ slice_index bytes (from + bit)
part bytes from bit within = get_or-take (length bytes - from) (drop from bytes) bit 0 (omega (arith, within)) ∙ get_or-drop from bytes bit 0

pub returns : goal.returns
returns g c bit less has =
    let spans = c.args.self.now in
    let from = has.from in
    let below = has.below in
    let low = c.at_most.ensures bit less (omega (arith, from, part spans.firsts c.args.from bit (omega (arith, less, c.requires.from)))) in
    let high = c.above.ensures bit less (omega (arith, below, part spans.ends c.args.from bit (omega (arith, less, c.requires.from)))) in
    (both_set c.at_most.result c.above.result bit).1 (low, high)
