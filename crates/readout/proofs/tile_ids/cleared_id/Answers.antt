use Rattle.std.proofs.Common.{◌∙◌, refl, sym}
use Rattle.std.proofs.lemmas.Bool.{false≢true}
use Rattle.readout.proofs.TileEntries.{uniform_plane, all_uniform, is_uniform}
use Rattle.readout.proofs.tile_ids.cleared_id.Goals as goal

pub returns-then-has_id-clause-some : goal.returns-then-has_id-clause-some
returns-then-has_id-clause-some c =
    (λ e. is_uniform c.args.count c.args.samples.now c.of-id.result (c.is_cleared.ensures.0 c.if-not-is_cleared.false) (c.has_id.ensures.0 c.if-has_id.true), λ u. refl)

pub returns-then-has_id-clause-id : goal.returns-then-has_id-clause-id
returns-then-has_id-clause-id c = all_uniform c.args.count c.args.samples.now c.of-id.result (c.is_cleared.ensures.0 c.if-not-is_cleared.false) (c.has_id.ensures.0 c.if-has_id.true)

pub returns-else-has_id-clause-some : goal.returns-else-has_id-clause-some
returns-else-has_id-clause-some c =
    (λ e. absurd (false≢true e), λ u. sym c.if-has_id.false ∙ c.has_id.ensures.1 (λ k l. uniform_plane c.args.count c.args.samples.now u k l ∙ sym c.of-id.ensures))
