use Rattle.std.proofs.Common.{◌≡◌, subst, arith, ℕ, ◌+◌, ◌-◌, ◌<◌, ◌≤◌, map, length}
use Rattle.std.specs.List.{range_with_len}
use Rattle.canvas.specs.declared.tile_rows.TileRows.{TileRows}
use Rattle.fills.specs.Batches.{AreFit, shape_in}
use Rattle.fills.specs.Painting.{ArePainted}
use Rattle.fills.specs.Parts.{LiesInRows}
use Rattle.fills.proofs.Batches.{painted_both, none_met}
use Rattle.fills.proofs.batch.draw_polygons.Goals as goal

pub loop-first-preserved-then-is_beside : goal.loop-first-preserved-then-is_beside
loop-first-preserved-then-is_beside c =
    let f = shape_in c.args.polygons.now c.args.style.now in
    let v = c.loop-first.invariant in
    let rows = c.args.piece.now.rows in
    let origin = c.args.origin.now in
    let first = c.loop-first.first in
    let end = c.run_of-end.result.0 in
    let old = c.args.piece.now.planes.now in
    let mid = c.loop-first.piece.planes.now in
    let whole : first + (end - first) ≡ end = omega (arith, c.run_of-end.ensures.after) in
    let lies : AreFit c.args.polygons.now → (k : ℕ) → first ≤ k → k < first + (end - first) → LiesInRows (f k) origin rows.canvas 0 0 = λ fit k from to.
    subst (λ (r : TileRows). LiesInRows (f k) origin r.canvas 0 0) v.rows (c.run_of-end.ensures.beside c.if-is_beside.true fit c.args.style.now k from (omega (arith, to, whole))) in
    record {
      rows = v.rows;
      same = v.same;
      within = c.run_of-end.ensures.within;
      painted = λ fit. subst (λ (n : ℕ). ArePainted (map f (range_with_len 0 n)) origin rows.canvas rows.first rows.end old mid) whole
          (painted_both f first (end - first) origin rows.canvas rows.first rows.end old mid mid (v.painted fit) (none_met f first (end - first) origin rows.canvas rows.first rows.end mid rows.within (lies fit)));
      flags = v.flags;
    }

pub loop-first-preserved : goal.loop-first-preserved
loop-first-preserved c =
    let f = shape_in c.args.polygons.now c.args.style.now in
    let v = c.loop-first.invariant in
    let rows = c.args.piece.now.rows in
    let origin = c.args.origin.now in
    let first = c.loop-first.first in
    let end = c.take.new.self.end in
    let old = c.args.piece.now.planes.now in
    let mid = c.loop-first.piece.planes.now in
    let new = c.paint.new.samples in
    let here : AreFit c.args.polygons.now → ArePainted (map f (range_with_len first (end - first))) origin c.loop-first.piece.rows.canvas c.loop-first.piece.rows.first c.loop-first.piece.rows.end mid new = λ fit.
    subst (λ (k : ℕ). ArePainted (map f (range_with_len k (end - k))) origin c.loop-first.piece.rows.canvas c.loop-first.piece.rows.first c.loop-first.piece.rows.end mid new) c.take.ensures.first (c.paint.ensures.painted fit) in
    let there : AreFit c.args.polygons.now → ArePainted (map f (range_with_len first (end - first))) origin rows.canvas rows.first rows.end mid new = λ fit.
    subst (λ (r : TileRows). ArePainted (map f (range_with_len first (end - first))) origin r.canvas r.first r.end mid new) v.rows (here fit) in
    let whole : first + (end - first) ≡ end = omega (arith, c.take.ensures.some) in
    record {
      rows = v.rows;
      same = v.same;
      within = c.take.ensures.within;
      painted = λ fit. subst (λ (n : ℕ). ArePainted (map f (range_with_len 0 n)) origin rows.canvas rows.first rows.end old new) whole
          (painted_both f first (end - first) origin rows.canvas rows.first rows.end old mid new (v.painted fit) (there fit));
      flags = c.paint.ensures.flags;
    }

pub returns-clause-painted : goal.returns-clause-painted
returns-clause-painted c fit =
    let rows = c.args.piece.now.rows in
    let all : c.loop-first.first ≡ length c.args.polygons.now.polygon_ends.now = omega (arith, c.loop-first-test.false, c.loop-first.invariant.within, c.count.ensures) in
    subst (λ n. ArePainted (map (shape_in c.args.polygons.now c.args.style.now) (range_with_len 0 n)) c.args.origin.now rows.canvas rows.first rows.end c.args.piece.now.planes.now c.loop-first.piece.planes.now) all (c.loop-first.invariant.painted fit)

pub paint-requires-clause-ready : goal.paint-requires-clause-ready
paint-requires-clause-ready c =
    let v = c.loop-first.invariant in
    let taken = c.take.ensures in
    record {
      rows = taken.rows c.args.style.now;
      seen = taken.seen;
      some = omega (arith, taken.first, taken.some);
      within = taken.within;
      colours = c.requires.colours;
      in_band = c.requires.origin;
      columns = rw v.rows (omega (arith, c.requires.columns, c.loop-first.auto.flags));
      zeros = v.flags;
      counted = λ nonzero. let enough = c.requires.counted nonzero in rw v.rows (omega (arith, enough, c.loop-first.auto.counters));
    }
