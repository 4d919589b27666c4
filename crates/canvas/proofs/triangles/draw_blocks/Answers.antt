use Rattle.std.proofs.Common.{◌≡◌, ◌+◌, ◌/◌, ◌^◌, ◌<◌, ℕ, w64, length, arith}
use Rattle.std.specs.Int.{bit_at, trailing_zeros}
use Rattle.std.proofs.lemmas.Nat.{shr_le}
use Rattle.std.proofs.lemmas.Nat.Bits.{bit_at-trailing_zeros}
use Rattle.canvas.proofs.Ends.{tile_more, tile_ends}
use Rattle.canvas.proofs.Masks.{run_skipped, rest_skipped, last_skipped, item_found}
use Rattle.canvas.proofs.triangles.draw_blocks.Goals as goal

-- the bits before the next one are not set
none_before : (mask n : ℕ) → mask < 2 ^ 64 → ¬ (mask / 2 ^ n ≡ 0) → (i : ℕ) → i < trailing_zeros w64 (mask / 2 ^ n) → bit_at (mask / 2 ^ n) i ≡ 0
none_before mask n small some i l =
    let below : mask / 2 ^ n < 2 ^ 64 = omega (arith, shr_le mask n, small) in
    let positive : 0 < mask / 2 ^ n = omega (arith, some) in
    (bit_at-trailing_zeros w64 (mask / 2 ^ n) positive below).2 i l

pub loop-done-preserved : goal.loop-done-preserved
loop-done-preserved c =
    let ts = c.args.chunk.now in
    let tile = c.args.tile.now in
    let done : ℕ = c.loop-done.done in
    let next : ℕ = trailing_zeros w64 (c.args.mask / 2 ^ done) in
    let inside : done + next < length ts = c.if-chunk-k.false in
    let past = run_skipped ts tile c.args.mask c.args.samples.now c.loop-done.samples c.requires.mask done next (omega (arith, inside)) (none_before c.args.mask done c.ranges.mask.fits c.if-rest-eq0.false) c.loop-done.invariant.1 in
    (omega (arith, inside), tile_more ts tile (done + next) c.index-chunk-k.result _ _ _ inside (item_found ts (done + next) c.index-chunk-k.result inside c.index-chunk-k.is) past c.draw_triangle.ensures)

pub returns-then-rest-eq0 : goal.returns-then-rest-eq0
returns-then-rest-eq0 c =
    rest_skipped c.args.chunk.now c.args.tile.now c.args.mask c.loop-done.done c.args.samples.now c.loop-done.samples c.requires.mask c.loop-done.invariant.0 c.if-rest-eq0.true c.loop-done.invariant.1

pub returns-then-chunk-k : goal.returns-then-chunk-k
returns-then-chunk-k c =
    let done : ℕ = c.loop-done.done in
    let next : ℕ = trailing_zeros w64 (c.args.mask / 2 ^ done) in
    last_skipped c.args.chunk.now c.args.tile.now c.args.mask done next c.args.samples.now c.loop-done.samples c.requires.mask c.loop-done.invariant.0 c.if-chunk-k.true
    (none_before c.args.mask done c.ranges.mask.fits c.if-rest-eq0.false) c.loop-done.invariant.1

pub returns : goal.returns
returns c = tile_ends c.args.chunk.now c.args.tile.now c.loop-done.done _ _ (omega (arith, c.loop-done-test.false)) c.loop-done.invariant.1
