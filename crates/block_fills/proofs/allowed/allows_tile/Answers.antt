use Rattle.block_fills.proofs.allowed.allows_tile.Goals as goal

pub returns-then-holds_tile : goal.returns-then-holds_tile
returns-then-holds_tile c all = record { in_scissor = c.holds_tile.ensures c.if-holds_tile.true; in_mask = c.has_all_samples.ensures all }
