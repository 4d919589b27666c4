-- Samples of a canvas, which store alpha.
use Rattle.std.specs.Prelude.{false, ◌≡◌, ℕ, if◌then◌else◌, slice_index, List, [], ◌∷◌}
use Rattle.grid.specs.Position.{Position}
use Rattle.grid.specs.Samples.{sample_position}
use Rattle.grid.specs.declared.sample_count.SampleCount.{SampleCount}
use Rattle.shade.specs.declared.operands.Channel.TheVariants.{Alpha}
use Rattle.shade.specs.declared.operands.Operands.{Operands}
use Rattle.shade.specs.declared.sample.Sample.{Sample}
use Rattle.shade.specs.declared.sample.CanvasSample.{CanvasSample}
use Rattle.shade.specs.declared.sample.Shaded.{Shaded}
use Rattle.shade.specs.declared.sample.Merge.{Merge}
use Rattle.shade.specs.declared.placed.Placed.{Placed}
use Rattle.shade.specs.Depth.{Passes}
use Rattle.shade.specs.Blend.{IsBlended}
use Rattle.shade.specs.Merging.{IsWritten, IsChannelMerged}
use Rattle.shade.specs.Placed.{IsFragmentAt, Meets}

-- The sample with this alpha.
abbrev pub with_alpha : Sample → ℕ → CanvasSample
with_alpha s alpha = record { r = s.r; g = s.g; b = s.b; alpha = alpha; z = s.z }

-- The colour and the depth of a sample.
abbrev pub colour_and_depth : CanvasSample → Sample
colour_and_depth s = record { r = s.r; g = s.g; b = s.b; z = s.z }

-- The triangle, drawn without writing alpha.
abbrev pub keeping_alpha : Placed → Placed
keeping_alpha t = record t { state = record t.state { merge = record t.state.merge { blend = record t.state.merge.blend { write_alpha = false } } } }

-- What the blend equation of alpha reads of a fragment's alpha and of the stored alpha.
abbrev pub alpha_operands : Merge → ℕ → ℕ → Operands
alpha_operands m alpha stored = record { source = alpha; source_alpha = alpha; stored = stored; stored_alpha = stored; constant = slice_index m.blend.constant 3 }

-- What stored alpha becomes. If it is written, it is blended by the equation of alpha.
abbrev pub IsAlphaMerged : Merge → ℕ → ℕ → ℕ → Type 0
IsAlphaMerged m alpha stored = IsWritten m.blend.write_alpha (IsBlended m.blend.alpha Alpha (alpha_operands m alpha stored)) stored

-- The sample of a canvas after a fragment that passed the depth test (Direct3D 11, output merger). Each channel that is written is
-- drawn, all by the alpha that was stored before, and the depth is stored if depth writes are on.
pub record IsCanvasMerged (m : Merge) (f : Shaded) (old new : CanvasSample) : Type 0 where
  pub red : IsChannelMerged m 0 f.r f.a old.alpha old.r new.r
  pub green : IsChannelMerged m 1 f.g f.a old.alpha old.g new.g
  pub blue : IsChannelMerged m 2 f.b f.a old.alpha old.b new.b
  pub alpha : IsAlphaMerged m f.a old.alpha new.alpha
  pub depth : new.z ≡ (if m.depth_write then f.z else old.z)

-- The sample of a canvas after a fragment. If the depth test fails, nothing changes (Direct3D 11, output merger).
pub record IsCanvasApplied (m : Merge) (f : Shaded) (old new : CanvasSample) : Type 0 where
  pub passed : Passes m.test f.z old.z → IsCanvasMerged m f old new
  pub failed : ¬ Passes m.test f.z old.z → new ≡ old

-- What the triangle makes of a sample of a canvas at a point p that it covers. The sample takes the fragment there by the depth test,
-- the write mask and the blending of the draw.
abbrev pub IsCanvasDrawnAt : Placed → Position → CanvasSample → CanvasSample → Type 0
IsCanvasDrawnAt t p old new = (f : Shaded) × IsFragmentAt t p f × IsCanvasApplied t.state.merge f old new

-- What the triangle makes of sample s of pixel (i, j) of a canvas. If it meets the sample, the sample takes its fragment by the depth
-- test, the write mask and the blending of the draw (Direct3D 11, output merger). Any other sample is unchanged.
pub record CanvasDraws (t : Placed) (count : SampleCount) (i j s : ℕ) (old new : CanvasSample) : Type 0 where
  pub met : Meets t count i j s → IsCanvasDrawnAt t (sample_position i j s count) old new
  pub missed : ¬ Meets t count i j s → new ≡ old

-- What the triangles make of sample s of pixel (i, j) of a canvas, one after another in draw order.
abbrev pub CanvasEnds : List Placed → SampleCount → ℕ → ℕ → ℕ → CanvasSample → CanvasSample → Type 0
CanvasEnds [] count i j s start end = end ≡ start
CanvasEnds (t ∷ ts) count i j s start end = (next : CanvasSample) × CanvasDraws t count i j s start next × CanvasEnds ts count i j s next end
