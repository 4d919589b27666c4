use Rattle.canvas.proofs.Places.{planes_split, in_upper, in_lower}
use Rattle.canvas.proofs.tile_rows.TileRows.split.Goals as goal

pub returns-then-at-self-clause-planes : goal.returns-then-at-self-clause-planes
returns-then-at-self-clause-planes c = planes_split c.args.self.now.canvas c.args.self.now.first c.args.at c.args.self.now.end c.if-self-at.true c.if-at-self.true

pub returns-then-at-self-clause-in_upper : goal.returns-then-at-self-clause-in_upper
returns-then-at-self-clause-in_upper c = λ xs ys i j s long h.
    in_upper c.args.self.now.canvas c.args.self.now.first c.args.at xs ys i j s long h.column h.is_sample h.from h.below

pub returns-then-at-self-clause-in_lower : goal.returns-then-at-self-clause-in_lower
returns-then-at-self-clause-in_lower c = λ xs ys i j s long h.
    in_lower c.args.self.now.canvas c.args.self.now.first c.args.at xs ys i j s long h.column h.is_sample c.if-self-at.true h.from
