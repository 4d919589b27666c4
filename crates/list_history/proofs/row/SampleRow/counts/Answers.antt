use Rattle.std.proofs.Common.{◌≡◌, length, drop, arith}
use Rattle.std.proofs.lemmas.List.{take_at}
use Rattle.list_history.proofs.row.SampleRow.counts.Goals as goal

pub follow-requires-clause-start : goal.follow-requires-clause-start
follow-requires-clause-start c = λ i f first end found.
    let of = c.args.self.now in
    c.in_ok-row.ensures.row of.number of.py of.s of.columns i f first end (rw c.deref_mut.ensures.value at found)

pub counts_in-requires-clause-followed : goal.counts_in-requires-clause-followed
counts_in-requires-clause-followed c = λ i f first end found.
    let followed = c.follow.new.row in
    let row = c.in_ok-row.row in
    let long : length followed ≡ row.len = omega (arith, c.follow.auto.row, c.deref_mut.ensures.len) in
    c.follow.ensures i f first end (rw (c.deref.ensures.value, take_at followed (drop (length followed) row.items) row.len long) at found)
