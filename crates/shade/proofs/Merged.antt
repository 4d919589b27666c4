-- A triangle drawn at a covered point, where only what is needed of its fragment is formed.
use Rattle.std.proofs.Common.{◌≡◌, refl, subst, inl, inr, ℕ, Bool, true, false, IsTrue, slice_index, slice_index_or, List}
use Rattle.grid.specs.Position.{Position}
use Rattle.grid.specs.Triangle.{Covers}
use Rattle.shade.specs.declared.sample.CanvasSample.{CanvasSample}
use Rattle.shade.specs.declared.sample.Shaded.{Shaded}
use Rattle.shade.specs.declared.sample.Merge.{Merge}
use Rattle.shade.specs.declared.equation.Equation.{Equation}
use Rattle.shade.specs.declared.operands.Channel.TheVariants.{Colour, Alpha}
use Rattle.shade.specs.declared.operands.Operands.{Operands}
use Rattle.shade.specs.Blend.{IsBlended, ReadsSourceAlpha}
use Rattle.shade.specs.Depth.{Passes}
use Rattle.shade.specs.Merging.{Writes, ReadsAlpha, operands_of, IsWritten, IsChannelMerged}
use Rattle.shade.specs.Canvas.{alpha_operands, IsAlphaMerged, IsCanvasMerged, IsCanvasDrawnAt}
use Rattle.shade.proofs.Blended.{alike}
use Rattle.shade.specs.Value.{IsValueAt}
use Rattle.shade.specs.Weights.{TriangleAndPoint}
use Rattle.shade.proofs.Values.{quotient-unique}
use Rattle.shade.specs.declared.placed.Placed.{Placed}
use Rattle.shade.specs.Placed.{AreWeightsOf, IsInterpolated, IsFragmentAt, IsNeededAt}
use Rattle.shade.proofs.Drawn.{fragment}

-- what weights give of the vertices' values is the value at their point
pub interpolated : (t : Placed) (w : TriangleAndPoint) (values given : List ℕ) (v : ℕ) → AreWeightsOf t w → given ≡ values
    → IsValueAt w.a w.b w.c w.p (slice_index given 0) (slice_index given 1) (slice_index given 2) v → IsInterpolated t w.p values v
interpolated t w values given v h e value = rw (← h.a, ← h.b, ← h.c, ← e) value

-- a channel becomes the same by all of a fragment as by what is read of it
same_written : (written : Bool) (e : Equation) (o : Operands) (source alpha new : ℕ) → (IsTrue written → o.source ≡ source) → (ReadsSourceAlpha e → o.source_alpha ≡ alpha)
    → IsWritten written (IsBlended e Colour o) o.stored new
    → IsWritten written (IsBlended e Colour (record { source = source; source_alpha = alpha; stored = o.stored; stored_alpha = o.stored_alpha; constant = o.constant })) o.stored new
same_written false e o source alpha new f g h = h
same_written true e o source alpha new f g h = rw (← f refl) (alike e o alpha new g h)

pub same_merged : (m : Merge) (k source source' alpha alpha' stored_alpha stored new : ℕ) → (Writes m k → source ≡ source') → (ReadsAlpha m → alpha ≡ alpha')
    → IsChannelMerged m k source alpha stored_alpha stored new → IsChannelMerged m k source' alpha' stored_alpha stored new
same_merged m k source source' alpha alpha' stored_alpha stored new e f h =
    same_written (slice_index_or m.write k false) m.blend.colour (operands_of m k source alpha stored_alpha stored) source' alpha' new e (λ reads. f (inl reads)) h

-- alpha becomes the same by all of a fragment as by what is read of it
same_alpha_written : (written : Bool) (m : Merge) (alpha alpha' stored new : ℕ) → (IsTrue written → alpha ≡ alpha')
    → IsWritten written (IsBlended m.blend.alpha Alpha (alpha_operands m alpha stored)) stored new → IsWritten written (IsBlended m.blend.alpha Alpha (alpha_operands m alpha' stored)) stored new
same_alpha_written false m alpha alpha' stored new f h = h
same_alpha_written true m alpha alpha' stored new f h = subst (λ a. IsBlended m.blend.alpha Alpha (alpha_operands m a stored) new) (f refl) h

pub same_alpha : (m : Merge) (alpha alpha' stored new : ℕ) → (ReadsAlpha m → alpha ≡ alpha') → IsAlphaMerged m alpha stored new → IsAlphaMerged m alpha' stored new
same_alpha m alpha alpha' stored new f h = same_alpha_written m.blend.write_alpha m alpha alpha' stored new (λ written. f (inr written)) h

merged_by_needed : (t : Placed) (p : Position) (old new : CanvasSample) (f g : Shaded) → IsFragmentAt t p f → IsNeededAt t p g → IsCanvasMerged t.state.merge g old new → IsCanvasMerged t.state.merge f old new
merged_by_needed t p old new f g is needed h =
    let alpha : ReadsAlpha t.state.merge → g.a ≡ f.a = λ blends. quotient-unique _ _ _ _ (needed.alpha blends) is.alpha in
    let depth : g.z ≡ f.z = quotient-unique _ _ _ _ needed.depth is.depth in
    record {
      red = same_merged t.state.merge 0 g.r f.r g.a f.a old.alpha old.r new.r (λ written. quotient-unique _ _ _ _ (needed.red written) is.red) alpha h.red;
      green = same_merged t.state.merge 1 g.g f.g g.a f.a old.alpha old.g new.g (λ written. quotient-unique _ _ _ _ (needed.green written) is.green) alpha h.green;
      blue = same_merged t.state.merge 2 g.b f.b g.a f.a old.alpha old.b new.b (λ written. quotient-unique _ _ _ _ (needed.blue written) is.blue) alpha h.blue;
      alpha = same_alpha t.state.merge g.a f.a old.alpha new.alpha alpha h.alpha;
      depth = rw depth at h.depth;
    }

-- the depth test failed
pub test_failed : (t : Placed) (p : Position) (old : CanvasSample) (z : ℕ) → Covers t.tri.a t.tri.b t.tri.c p → IsInterpolated t p t.z z → ¬ Passes t.state.merge.test z old.z → IsCanvasDrawnAt t p old old
test_failed t p old z covered value fails =
    let f = fragment t p covered in
    let same : z ≡ f.0.z = quotient-unique _ _ _ _ value f.1.depth in
    (f.0, f.1, record { passed = λ pass. absurd (fails (rw same pass)); failed = λ _. refl })

-- it passed
pub test_passed : (t : Placed) (p : Position) (old new : CanvasSample) (z : ℕ) (g : Shaded) → Covers t.tri.a t.tri.b t.tri.c p → IsInterpolated t p t.z z → Passes t.state.merge.test z old.z → IsNeededAt t p g
    → IsCanvasMerged t.state.merge g old new → IsCanvasDrawnAt t p old new
test_passed t p old new z g covered value passes needed h =
    let f = fragment t p covered in
    let same : z ≡ f.0.z = quotient-unique _ _ _ _ value f.1.depth in
    (f.0, f.1, record { passed = λ _. merged_by_needed t p old new f.0 g f.1 needed h; failed = λ fails. absurd (fails (rw same at passes)) })
