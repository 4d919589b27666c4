-- Sixteen samples drawn at once: what a depth test, a mask and the channels make of one of them.
use Rattle.std.proofs.Common.{◌≡◌, ◌≢◌, inl, inr, refl, sym, subst, ◌∙◌, ℕ, if◌then◌else◌}
use Rattle.shade.specs.declared.sample.Merge.{Merge}
use Rattle.shade.specs.declared.sample.CanvasSample.{CanvasSample}
use Rattle.shade.specs.declared.sample.Shaded.{Shaded}
use Rattle.shade.specs.Depth.{Passes}
use Rattle.lanes.specs.Lanes.{IsMaskLane}
use Rattle.shade.specs.Merging.{IsChannelMerged, Writes, ReadsAlpha}
use Rattle.shade.specs.Canvas.{IsAlphaMerged, IsCanvasMerged, IsCanvasApplied}
use Rattle.lanes.specs.Merging.{IsTested}
use Rattle.lanes.specs.Sources.{NeedsNoDepth}
use Rattle.shade.proofs.Decided.{IsDecided, passes}
use Rattle.shade.proofs.CanvasDrawn.{same_canvas_sample}
use Rattle.shade.proofs.Merged.{same_merged, same_alpha}

-- ---- the depth test
pub tested_lane : (m : Merge) (z old read new lane reported : ℕ) → read ≡ old → IsMaskLane reported (Passes m.test z read) → lane ≡ reported
    → (lane ≡ 65535 → new ≡ (if m.depth_write then z else old)) → (lane ≡ 0 → new ≡ old) → IsTested m z old new lane
tested_lane m z old read new lane reported e (inl pass) same stored kept = record {
  passed = λ _. (same ∙ pass.0, stored (same ∙ pass.0));
  failed = λ fails. absurd (fails (subst (Passes m.test z) e pass.1));
}
tested_lane m z old read new lane reported e (inr fail) same stored kept = record {
  passed = λ holds. absurd (fail.1 (subst (Passes m.test z) (sym e) holds));
  failed = λ _. (same ∙ fail.0, kept (same ∙ fail.0));
}

-- if the depth has no part, every lane passes, and nothing is stored
pub untested_lane : (m : Merge) (z old lane : ℕ) → NeedsNoDepth m → lane ≡ 65535 → IsTested m z old old lane
untested_lane m z old lane none set = record {
  passed = λ _. (set, rw none.unstored refl);
  failed = λ fails. absurd (fails (rw none.passes tt));
}

-- what is tested of a depth is tested of an equal one
pub tested_as : (m : Merge) (z given old new lane : ℕ) → given ≡ z → IsTested m given old new lane → IsTested m z old new lane
tested_as m z given old new lane same = subst (λ v. IsTested m v old new lane) same

-- ---- a channel that is drawn if the mask's lane is set, and unchanged if it is not
pub record IsMasked (m : Merge) (k lane s a e old new : ℕ) : Type 0 where
  pub set : lane ≡ 65535 → IsChannelMerged m k s a e old new
  pub clear : lane ≡ 0 → new ≡ old

pub record IsAlphaMasked (m : Merge) (lane a : ℕ) (old new : ℕ) : Type 0 where
  pub set : lane ≡ 65535 → IsAlphaMerged m a old new
  pub clear : lane ≡ 0 → new ≡ old

-- ---- a sample
combined_when : (m : Merge) (f : Shaded) (old new : CanvasSample) (lane r g b a : ℕ) → IsDecided (Passes m.test f.z old.z)
    → IsTested m f.z old.z new.z lane → (Writes m 0 → r ≡ f.r) → (Writes m 1 → g ≡ f.g) → (Writes m 2 → b ≡ f.b) → (ReadsAlpha m → a ≡ f.a)
    → IsMasked m 0 lane r a old.alpha old.r new.r → IsMasked m 1 lane g a old.alpha old.g new.g → IsMasked m 2 lane b a old.alpha old.b new.b → IsAlphaMasked m lane a old.alpha new.alpha
    → IsCanvasApplied m f old new
combined_when m f old new lane r g b a (inl pass) tested er eg eb ea red green blue alpha =
    let full = (tested.passed pass).0 in
    let merged : IsCanvasMerged m f old new = record {
      red = same_merged m 0 _ _ _ _ _ _ _ er ea (red.set full);
      green = same_merged m 1 _ _ _ _ _ _ _ eg ea (green.set full);
      blue = same_merged m 2 _ _ _ _ _ _ _ eb ea (blue.set full);
      alpha = same_alpha m _ _ _ _ ea (alpha.set full);
      depth = (tested.passed pass).1;
    } in
    record { passed = λ _. merged; failed = λ fails. absurd (fails pass) }
combined_when m f old new lane r g b a (inr fail) tested er eg eb ea red green blue alpha =
    let none = (tested.failed fail).0 in
    record { passed = λ pass. absurd (fail pass); failed = λ _. same_canvas_sample new old (red.clear none) (green.clear none) (blue.clear none) (alpha.clear none) (tested.failed fail).1 }

-- the channels that are read are the fragment's
pub combined : (m : Merge) (f : Shaded) (old new : CanvasSample) (lane r g b a : ℕ)
    → IsTested m f.z old.z new.z lane → (Writes m 0 → r ≡ f.r) → (Writes m 1 → g ≡ f.g) → (Writes m 2 → b ≡ f.b) → (ReadsAlpha m → a ≡ f.a)
    → IsMasked m 0 lane r a old.alpha old.r new.r → IsMasked m 1 lane g a old.alpha old.g new.g → IsMasked m 2 lane b a old.alpha old.b new.b → IsAlphaMasked m lane a old.alpha new.alpha
    → IsCanvasApplied m f old new
combined m f old new lane r g b a = combined_when m f old new lane r g b a (passes m.test f.z old.z)

-- a lane that did not pass leaves its sample
undrawn_when : (m : Merge) (f : Shaded) (old new : CanvasSample) (lane : ℕ) → IsDecided (Passes m.test f.z old.z)
    → IsTested m f.z old.z new.z lane → lane ≢ 65535 → new.r ≡ old.r → new.g ≡ old.g → new.b ≡ old.b → new.alpha ≡ old.alpha → IsCanvasApplied m f old new
undrawn_when m f old new lane (inl pass) tested unset er eg eb el = absurd (unset (tested.passed pass).0)
undrawn_when m f old new lane (inr fail) tested unset er eg eb el =
    record { passed = λ pass. absurd (fail pass); failed = λ _. same_canvas_sample new old er eg eb el (tested.failed fail).1 }

pub undrawn : (m : Merge) (f : Shaded) (old new : CanvasSample) (lane : ℕ)
    → IsTested m f.z old.z new.z lane → lane ≢ 65535 → new.r ≡ old.r → new.g ≡ old.g → new.b ≡ old.b → new.alpha ≡ old.alpha → IsCanvasApplied m f old new
undrawn m f old new lane = undrawn_when m f old new lane (passes m.test f.z old.z)
