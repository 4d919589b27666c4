-- Tiles that begin with a later triangle, which hides those before it.
use Rattle.std.proofs.Common.{true, sym, zero, suc, ◌≡◌, ◌∙◌, inl, inr, refl, ap, subst, ℕ, ◌+◌, ◌-◌, ◌*◌, ◌/◌, ◌%◌, ◌^◌, ◌<◌, ◌≤◌, Bool, false, slice_index_or, List, [], ◌∷◌, length, take, get_or, slice_get, Some, IsTrue, IsBitSet, arith}
use Rattle.std.proofs.lemmas.Bool.{cases_lt, false≢true}
use Rattle.std.proofs.lemmas.Option.{get_or_from_slice_get}
use Rattle.grid.specs.Samples.{count_of}
use Rattle.grid.specs.declared.sample_count.SampleCount.{SampleCount}
use Rattle.grid.specs.declared.sample_count.SampleCount.TheVariants.{One, Two, Four, Eight, Sixteen}
use Rattle.cover.specs.Rasterized.{IsRasterized}
use Rattle.cover.specs.Square.{CoversAll}
use Rattle.shade.specs.declared.depth.DepthTest.{DepthTest}
use Rattle.shade.specs.declared.depth.DepthTest.TheVariants.{Always}
use Rattle.shade.specs.declared.sample.CanvasSample.{CanvasSample}
use Rattle.shade.specs.declared.sample.Shaded.{Shaded}
use Rattle.shade.specs.declared.sample.Merge.{Merge}
use Rattle.shade.specs.declared.state.State.{State}
use Rattle.shade.specs.declared.placed.Placed.{Placed}
use Rattle.shade.specs.declared.equation.Equation.{Equation}
use Rattle.shade.specs.declared.operands.Channel.TheVariants.{Colour}
use Rattle.shade.specs.declared.operands.Operands.{Operands}
use Rattle.shade.specs.Blend.{IsBlended}
use Rattle.shade.specs.Presets.{replace}
use Rattle.shade.proofs.Blended.{replaced_alike}
use Rattle.shade.specs.Depth.{Passes}
use Rattle.shade.specs.Merging.{Writes, operands_of, IsWritten, IsChannelMerged}
use Rattle.shade.specs.Placed.{Meets}
use Rattle.shade.specs.Canvas.{IsCanvasMerged, CanvasDraws, CanvasEnds}
use Rattle.shade.proofs.Decided.{IsDecided, meets, passes}
use Rattle.shade.proofs.Endings.{of_canvas, ends, ends_more}
use Rattle.lanes.specs.declared.block_samples.BlockSamples.{BlockSamples}
use Rattle.raster.specs.declared.tile.Tile.{Tile}
use Rattle.raster.specs.Samples.{stored}
use Rattle.raster.specs.Region.{HoldsTile}
use Rattle.raster.specs.Drawing.{DrawsTile, square_of}
use Rattle.canvas.specs.Drawing.{TileHasEnds}
use Rattle.canvas.specs.Rows.{IsMaskOf}
use Rattle.canvas.specs.Hidden.{ReplacesColours, Hides, KeepsDepths, FirstKeepDepths, CanBegin}

-- ---- a triangle that hides the tile
in_mask : (count : SampleCount) (mask s : ℕ) → mask % 2 ^ count_of count ≡ 2 ^ count_of count - 1 → s < count_of count → mask / 2 ^ s % 2 ≡ 1
in_mask One mask zero all below = omega (arith, all)
in_mask One mask (suc s) all below = absurd (omega (arith, below))
in_mask Two mask zero all below = omega (arith, all)
in_mask Two mask (suc zero) all below = omega (arith, all)
in_mask Two mask (suc (suc s)) all below = absurd (omega (arith, below))
in_mask Four mask zero all below = omega (arith, all)
in_mask Four mask (suc zero) all below = omega (arith, all)
in_mask Four mask (suc (suc zero)) all below = omega (arith, all)
in_mask Four mask (suc (suc (suc zero))) all below = omega (arith, all)
in_mask Four mask (suc (suc (suc (suc s)))) all below = absurd (omega (arith, below))
in_mask Eight mask zero all below = omega (arith, all)
in_mask Eight mask (suc zero) all below = omega (arith, all)
in_mask Eight mask (suc (suc zero)) all below = omega (arith, all)
in_mask Eight mask (suc (suc (suc zero))) all below = omega (arith, all)
in_mask Eight mask (suc (suc (suc (suc zero)))) all below = omega (arith, all)
in_mask Eight mask (suc (suc (suc (suc (suc zero))))) all below = omega (arith, all)
in_mask Eight mask (suc (suc (suc (suc (suc (suc zero)))))) all below = omega (arith, all)
in_mask Eight mask (suc (suc (suc (suc (suc (suc (suc zero))))))) all below = omega (arith, all)
in_mask Eight mask (suc (suc (suc (suc (suc (suc (suc (suc s)))))))) all below = absurd (omega (arith, below))
in_mask Sixteen mask zero all below = omega (arith, all)
in_mask Sixteen mask (suc zero) all below = omega (arith, all)
in_mask Sixteen mask (suc (suc zero)) all below = omega (arith, all)
in_mask Sixteen mask (suc (suc (suc zero))) all below = omega (arith, all)
in_mask Sixteen mask (suc (suc (suc (suc zero)))) all below = omega (arith, all)
in_mask Sixteen mask (suc (suc (suc (suc (suc zero))))) all below = omega (arith, all)
in_mask Sixteen mask (suc (suc (suc (suc (suc (suc zero)))))) all below = omega (arith, all)
in_mask Sixteen mask (suc (suc (suc (suc (suc (suc (suc zero))))))) all below = omega (arith, all)
in_mask Sixteen mask (suc (suc (suc (suc (suc (suc (suc (suc zero)))))))) all below = omega (arith, all)
in_mask Sixteen mask (suc (suc (suc (suc (suc (suc (suc (suc (suc zero))))))))) all below = omega (arith, all)
in_mask Sixteen mask (suc (suc (suc (suc (suc (suc (suc (suc (suc (suc zero)))))))))) all below = omega (arith, all)
in_mask Sixteen mask (suc (suc (suc (suc (suc (suc (suc (suc (suc (suc (suc zero))))))))))) all below = omega (arith, all)
in_mask Sixteen mask (suc (suc (suc (suc (suc (suc (suc (suc (suc (suc (suc (suc zero)))))))))))) all below = omega (arith, all)
in_mask Sixteen mask (suc (suc (suc (suc (suc (suc (suc (suc (suc (suc (suc (suc (suc zero))))))))))))) all below = omega (arith, all)
in_mask Sixteen mask (suc (suc (suc (suc (suc (suc (suc (suc (suc (suc (suc (suc (suc (suc zero)))))))))))))) all below = omega (arith, all)
in_mask Sixteen mask (suc (suc (suc (suc (suc (suc (suc (suc (suc (suc (suc (suc (suc (suc (suc zero))))))))))))))) all below = omega (arith, all)
in_mask Sixteen mask (suc (suc (suc (suc (suc (suc (suc (suc (suc (suc (suc (suc (suc (suc (suc (suc s)))))))))))))))) all below = absurd (omega (arith, below))

pub always : (test : DepthTest) (new old : ℕ) → test ≡ Always → Passes test new old
always test new old is = rw is tt

written_alike : (written : Bool) (e : Equation) (o p : Operands) (new : ℕ) → IsTrue written → e ≡ replace → o.source ≡ p.source → IsWritten written (IsBlended e Colour o) o.stored new
    → IsWritten written (IsBlended e Colour p) p.stored new
written_alike written e o p new is plain same h = rw (is, plain) (replaced_alike o p new same (rw (is, plain) at h))

replaced : (m : Merge) (k source alpha e f x y new : ℕ) → Writes m k → m.blend.colour ≡ replace → IsChannelMerged m k source alpha e x new → IsChannelMerged m k source alpha f y new
replaced m k source alpha e f x y new is plain h =
    written_alike (slice_index_or m.write k false) m.blend.colour (operands_of m k source alpha e x) (operands_of m k source alpha f y) new is plain refl h

pub merged_alike : (state : State) (count : SampleCount) (f : Shaded) (x y new : CanvasSample) → ReplacesColours state count → y.z ≡ x.z → y.alpha ≡ x.alpha → IsCanvasMerged state.merge f x new → IsCanvasMerged state.merge f y new
merged_alike state count f x y new r same same_alpha h = record {
  red = replaced state.merge 0 f.r f.a x.alpha y.alpha x.r y.r new.r r.red r.plain h.red;
  green = replaced state.merge 1 f.g f.a x.alpha y.alpha x.g y.g new.g r.green r.plain h.green;
  blue = replaced state.merge 2 f.b f.a x.alpha y.alpha x.b y.b new.b r.blue r.plain h.blue;
  alpha = rw same_alpha h.alpha;
  depth = rw same h.depth;
}

pub hides_tile : (t : Placed) (tile : Tile) → ReplacesColours t.state tile.count → HoldsTile t.state.scissor tile → IsRasterized t.tri t.state.cull → CoversAll (square_of t.tri tile) → Hides t tile
hides_tile t tile replaces holds drawn covers row column s h x y new same same_alpha draws =
    let meets_sample : Meets t tile.count (8 * tile.bx + column) (8 * tile.by + row) s =
    record { kept = drawn.kept; covered = covers s row column h.is_sample h.high h.wide; in_scissor = holds row column h.high h.wide; in_mask = in_mask tile.count t.state.sample_mask s replaces.all_samples h.is_sample } in
    let made = draws.met meets_sample in
    let old = made.2.passed (always t.state.merge.test made.0.z x.z replaces.passes) in
    record {
      met = λ _. (made.0, made.1, record { passed = λ _. merged_alike t.state tile.count made.0 x y new replaces same same_alpha old; failed = λ fails. absurd (fails (always t.state.merge.test made.0.z y.z replaces.passes)) });
      missed = λ missed. absurd (missed meets_sample);
    }

-- ---- triangles that keep depths and alphas
-- what is kept of a sample
abbrev IsKept : CanvasSample → CanvasSample → Type 0
IsKept x y = (y.z ≡ x.z) × (y.alpha ≡ x.alpha)

kept_itself : (x y : CanvasSample) → y ≡ x → IsKept x y
kept_itself x y same = (ap (λ (a : CanvasSample). a.z) same, ap (λ (a : CanvasSample). a.alpha) same)

alpha_kept : (written : Bool) (P : ℕ → Type 0) (x y : ℕ) → written ≡ false → IsWritten written P x y → y ≡ x
alpha_kept false P x y off h = h
alpha_kept true P x y off h = absurd (false≢true (sym off))

depth_kept : (m : Merge) (f : Shaded) (x y : CanvasSample) → m.depth_write ≡ false → m.blend.write_alpha ≡ false → IsCanvasMerged m f x y → IsKept x y
depth_kept m f x y off alpha_off h = (rw off at h.depth, alpha_kept m.blend.write_alpha _ x.alpha y.alpha alpha_off h.alpha)

module _ (t : Placed) (count : SampleCount) (i j s : ℕ) (x y : CanvasSample) (off : t.state.merge.depth_write ≡ false) (alpha_off : t.state.merge.blend.write_alpha ≡ false) (draws : CanvasDraws t count i j s x y) where
  kept_when_tested : (m : Meets t count i j s) → IsDecided (Passes t.state.merge.test (draws.met m).0.z x.z) → IsKept x y
  kept_when_tested m (inl passed) = depth_kept t.state.merge (draws.met m).0 x y off alpha_off ((draws.met m).2.passed passed)
  kept_when_tested m (inr failed) = kept_itself x y ((draws.met m).2.failed failed)

  kept_when : IsDecided (Meets t count i j s) → IsKept x y
  kept_when (inl m) = kept_when_tested m (passes t.state.merge.test (draws.met m).0.z x.z)
  kept_when (inr n) = kept_itself x y (draws.missed n)

pub keeps_depths : (t : Placed) (tile : Tile) → (t.state.merge.depth_write ≡ false) × (t.state.merge.blend.write_alpha ≡ false) → KeepsDepths t tile
keeps_depths t tile off row column s h x y draws =
    kept_when t tile.count (8 * tile.bx + column) (8 * tile.by + row) s x y off.0 off.1 draws (meets t tile.count (8 * tile.bx + column) (8 * tile.by + row) s)

-- those from number n on whose bits are not set meet nothing of the tile
pub keep_past : (ts : List Placed) (tile : Tile) (mask n m : ℕ) → IsMaskOf ts tile mask → ((k : ℕ) → n ≤ k → k < m → ¬ IsBitSet mask k) → FirstKeepDepths ts tile n → FirstKeepDepths ts tile m
keep_past ts tile mask n m is unset before k t below found =
    elim (cases_lt k n) [
      | inl less ↦ before k t less found
      | inr more ↦ λ row column s h x y draws. kept_itself x y (draws.missed (is k t found (unset k more below) row column s h))
    ]

-- one more
pub keep_one : (ts : List Placed) (tile : Tile) (n : ℕ) (item : Placed) → ((get_or ts n item).state.merge.depth_write ≡ false) × ((get_or ts n item).state.merge.blend.write_alpha ≡ false) → FirstKeepDepths ts tile n → FirstKeepDepths ts tile (n + 1)
keep_one ts tile n item off before k t below found =
    elim (cases_lt k n) [
      | inl less ↦ before k t less found
      | inr more ↦
          let here : k ≡ n = omega (arith, below, more) in
          let same : get_or ts n item ≡ t = get_or_from_slice_get ts n t item (rw here at found) in
          keeps_depths t tile (rw same at off)
    ]

-- ---- a tile that begins with a triangle
pub can_begin : (ts : List Placed) (tile : Tile) (n m : ℕ) (item : Placed) → item ≡ get_or ts n item → Hides item tile → n ≤ m → FirstKeepDepths ts tile m → CanBegin ts tile n
can_begin ts tile n m item is hides few keep = record {
  hides = λ t found. let same : item ≡ t = is ∙ get_or_from_slice_get ts n t item found in subst (λ u. Hides u tile) same hides;
  keep = λ k t below found. keep k t (omega (arith, below, few)) found;
}

depth_after : (ts : List Placed) (n : ℕ) (count : SampleCount) (i j s : ℕ) → ((k : ℕ) (t : Placed) → k < n → slice_get ts k ≡ Some t → (x y : CanvasSample) → CanvasDraws t count i j s x y → IsKept x y)
    → (x y : CanvasSample) → CanvasEnds (take n ts) count i j s x y → IsKept x y
depth_after ts zero count i j s keep x y h = kept_itself x y h
depth_after [] (suc n) count i j s keep x y h = kept_itself x y h
depth_after (t ∷ ts) (suc n) count i j s keep x y h =
    let rest = depth_after ts n count i j s (λ k u below found. keep (suc k) u (omega (arith, below)) found) h.0 y h.2 in
    let first = keep zero t (omega arith) refl x h.0 h.1 in
    (rest.0 ∙ first.0, rest.1 ∙ first.1)

pub begins : (ts : List Placed) (tile : Tile) (n : ℕ) (t : Placed) (old new : List BlockSamples) → n < length ts → slice_get ts n ≡ Some t → CanBegin ts tile n → DrawsTile t tile old new → TileHasEnds (take (n + 1) ts) tile old new
begins ts tile n t old new below found can draws row column s h =
    let x : CanvasSample = stored tile old row column s in
    let before = ends (of_canvas tile.count (8 * tile.bx + column) (8 * tile.by + row) s) (take n ts) x in
    let same : IsKept x before.0 = depth_after ts n tile.count (8 * tile.bx + column) (8 * tile.by + row) s (λ k u less at_k a b made. can.keep k u less at_k row column s h a b made) x before.0 before.1 in
    ends_more (of_canvas tile.count (8 * tile.bx + column) (8 * tile.by + row) s) ts n t x before.0 (stored tile new row column s) below found before.1
    (can.hides t found row column s h x before.0 (stored tile new row column s) same.0 same.1 (draws row column s h))
