use Rattle.std.proofs.Common.{◌∙◌, ◌+◌, ℕ, ap, map, slice_index, arith}
use Rattle.std.proofs.lemmas.List.{length-map, map-set}
use Rattle.lanes.specs.Block.{stored_at}
use Rattle.readout.proofs.Units.{one_set}
use Rattle.readout.proofs.entries.write_entries.Goals as goal

pub loop-k-preserved : goal.loop-k-preserved
loop-k-preserved g c =
    let k : ℕ = c.loop-k.k in
    let number = g.E.Entry.number in
    let number_of = g.E.Entry.number_of in
    λ n l. ap (λ xs. slice_index xs n) (map-set number c.loop-k.entries k _)
    ∙ one_set (map number c.loop-k.entries) k _ (λ n. number_of (stored_at c.args.plane.now (c.args.first + n))) (omega (arith, length-map c.loop-k.entries number, c.loop-k.auto.entries, c.requires.entries, c.loop-k-test.true)) c.loop-k.invariant c.of.ensures n l
