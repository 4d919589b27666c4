use Rattle.std.proofs.Common.{◌≡◌, ◌∙◌, sym, ◌+◌, ◌<◌, arith}
use Rattle.std.proofs.lemmas.List.FromFn.{length-range_with_len, get_or-range_with_len}
use Rattle.batch.proofs.indices.InOrderIndices.at.Goals as goal

pub returns : goal.returns
returns c =
    let count = c.args.self.now.count in
    let inside : c.args.place < count = omega (arith, c.requires, length-range_with_len 0 count) in
    let same : 0 + c.args.place ≡ c.args.place = omega arith in
    sym (get_or-range_with_len 0 count c.args.place 0 inside ∙ same)
