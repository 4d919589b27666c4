-- A triangle makes exactly one sample of each sample of a canvas; where none stores alpha, it is that of draw lists.
use Rattle.std.proofs.Common.{◌≡◌, inl, inr, refl, sym, ap, ◌∙◌, ℕ, Bool, true, false, List, [], ◌∷◌, map, if◌then◌else◌}
use Rattle.std.proofs.lemmas.Bool.{false≢true}
use Rattle.grid.specs.Position.{Position}
use Rattle.grid.specs.Samples.{sample_position}
use Rattle.grid.specs.declared.sample_count.SampleCount.{SampleCount}
use Rattle.shade.specs.declared.sample.Sample.{Sample}
use Rattle.shade.specs.declared.sample.CanvasSample.{CanvasSample}
use Rattle.shade.specs.declared.sample.Shaded.{Shaded}
use Rattle.shade.specs.declared.sample.Merge.{Merge}
use Rattle.shade.specs.declared.operands.Channel.TheVariants.{Alpha}
use Rattle.shade.specs.declared.placed.Placed.{Placed}
use Rattle.shade.specs.Depth.{Passes}
use Rattle.shade.specs.Merging.{IsWritten, IsMerged, IsApplied}
use Rattle.shade.specs.Placed.{IsDrawnAt, Meets, Draws}
use Rattle.shade.specs.Ending.{Ends}
use Rattle.shade.specs.Canvas.{with_alpha, colour_and_depth, keeping_alpha, alpha_operands, IsAlphaMerged, IsCanvasMerged, IsCanvasApplied, IsCanvasDrawnAt, CanvasDraws, CanvasEnds}
use Rattle.shade.proofs.Decided.{IsDecided, meets, passes}
use Rattle.shade.proofs.Drawn.{fragment, fragment-unique, drawn, drawn-unique, channel_drawn, channel_drawn-unique}

-- samples of the same parts
canvas_sample : ℕ → ℕ → ℕ → ℕ → ℕ → CanvasSample
canvas_sample r g b alpha z = record { r = r; g = g; b = b; alpha = alpha; z = z }

made_same : (r g b z r' g' b' z' a a' : ℕ) → r ≡ r' → g ≡ g' → b ≡ b' → a ≡ a' → z ≡ z' → canvas_sample r g b a z ≡ canvas_sample r' g' b' a' z'
made_same r g b z r' g' b' z' a a' e f h i k = cc

pub same_canvas_sample : (x y : CanvasSample) → x.r ≡ y.r → x.g ≡ y.g → x.b ≡ y.b → x.alpha ≡ y.alpha → x.z ≡ y.z → x ≡ y
unfolding canvas_sample
same_canvas_sample x y e f g a h = made_same x.r x.g x.b x.z y.r y.g y.b y.z x.alpha y.alpha e f g a h

-- ---- what it makes of a sample
alpha_drawn : (m : Merge) (alpha stored : ℕ) → (new : ℕ) × IsAlphaMerged m alpha stored new
alpha_drawn m alpha stored = drawn m.blend.write_alpha m.blend.alpha Alpha (alpha_operands m alpha stored) stored

alpha_drawn-unique : (m : Merge) (alpha stored new new' : ℕ) → IsAlphaMerged m alpha stored new → IsAlphaMerged m alpha stored new' → new ≡ new'
alpha_drawn-unique m alpha stored new new' h k = drawn-unique m.blend.write_alpha m.blend.alpha Alpha (alpha_operands m alpha stored) stored new new' h k

canvas_merged : (m : Merge) (f : Shaded) (old : CanvasSample) → (new : CanvasSample) × IsCanvasMerged m f old new
canvas_merged m f old =
    let e = old.alpha in
    let r = channel_drawn m 0 f.r f.a e old.r in
    let g = channel_drawn m 1 f.g f.a e old.g in
    let b = channel_drawn m 2 f.b f.a e old.b in
    let a = alpha_drawn m f.a old.alpha in
    (record { r = r.0; g = g.0; b = b.0; alpha = a.0; z = if m.depth_write then f.z else old.z }, record { red = r.1; green = g.1; blue = b.1; alpha = a.1; depth = refl })

canvas_merged-unique : (m : Merge) (f : Shaded) (old new new' : CanvasSample) → IsCanvasMerged m f old new → IsCanvasMerged m f old new' → new ≡ new'
canvas_merged-unique m f old new new' h k =
    let e = old.alpha in
    same_canvas_sample new new' (channel_drawn-unique m 0 f.r f.a e old.r _ _ h.red k.red) (channel_drawn-unique m 1 f.g f.a e old.g _ _ h.green k.green)
    (channel_drawn-unique m 2 f.b f.a e old.b _ _ h.blue k.blue) (alpha_drawn-unique m f.a old.alpha _ _ h.alpha k.alpha) (h.depth ∙ sym k.depth)

canvas_applied_when : (m : Merge) (f : Shaded) (old : CanvasSample) → IsDecided (Passes m.test f.z old.z) → (new : CanvasSample) × IsCanvasApplied m f old new
canvas_applied_when m f old (inl p) = let new = canvas_merged m f old in (new.0, record { passed = λ _. new.1; failed = λ n. absurd (n p) })
canvas_applied_when m f old (inr n) = (old, record { passed = λ p. absurd (n p); failed = λ _. refl })

canvas_applied-unique_when : (m : Merge) (f : Shaded) (old new new' : CanvasSample) → IsDecided (Passes m.test f.z old.z) → IsCanvasApplied m f old new → IsCanvasApplied m f old new' → new ≡ new'
canvas_applied-unique_when m f old new new' (inl p) h k = canvas_merged-unique m f old new new' (h.passed p) (k.passed p)
canvas_applied-unique_when m f old new new' (inr n) h k = h.failed n ∙ sym (k.failed n)

canvas_applied-unique : (m : Merge) (f : Shaded) (old new new' : CanvasSample) → IsCanvasApplied m f old new → IsCanvasApplied m f old new' → new ≡ new'
canvas_applied-unique m f old new new' h k = canvas_applied-unique_when m f old new new' (passes m.test f.z old.z) h k

-- ---- what a triangle makes of it
module _ (t : Placed) (count : SampleCount) (i j s : ℕ) where
  canvas_draws_when : (old : CanvasSample) → IsDecided (Meets t count i j s) → (new : CanvasSample) × CanvasDraws t count i j s old new
  canvas_draws_when old (inl m) =
      let f = fragment t (sample_position i j s count) m.covered in
      let new = canvas_applied_when t.state.merge f.0 old (passes t.state.merge.test f.0.z old.z) in
      (new.0, record { met = λ _. (f.0, f.1, new.1); missed = λ n. absurd (n m) })
  canvas_draws_when old (inr n) = (old, record { met = λ m. absurd (n m); missed = λ _. refl })

  pub canvas_draws : (old : CanvasSample) → (new : CanvasSample) × CanvasDraws t count i j s old new
  canvas_draws old = canvas_draws_when old (meets t count i j s)

  canvas_draws-unique_when : (old new new' : CanvasSample) → IsDecided (Meets t count i j s) → CanvasDraws t count i j s old new → CanvasDraws t count i j s old new' → new ≡ new'
  canvas_draws-unique_when old new new' (inl m) h k =
      let f = h.met m in
      let f' = k.met m in
      let same = fragment-unique t (sample_position i j s count) f.0 f'.0 f.1 f'.1 in
      canvas_applied-unique t.state.merge f.0 old new new' f.2 (rw same f'.2)
  canvas_draws-unique_when old new new' (inr n) h k = h.missed n ∙ sym (k.missed n)

  pub canvas_draws-unique : (old new new' : CanvasSample) → CanvasDraws t count i j s old new → CanvasDraws t count i j s old new' → new ≡ new'
  canvas_draws-unique old new new' h k = canvas_draws-unique_when old new new' (meets t count i j s) h k

-- ---- where alpha is one
merged_alike : (m : Merge) (f : Shaded) (old : Sample) (new : CanvasSample) → IsCanvasMerged m f (with_alpha old 255) new → IsMerged m f old (colour_and_depth new)
merged_alike m f old new h = record { red = h.red; green = h.green; blue = h.blue; depth = h.depth }

pub applied_alike : (m : Merge) (f : Shaded) (old : Sample) (new : CanvasSample) → IsCanvasApplied m f (with_alpha old 255) new → IsApplied m f old (colour_and_depth new)
applied_alike m f old new h = record { passed = λ p. merged_alike m f old new (h.passed p); failed = λ n. ap colour_and_depth (h.failed n) }

pub drawn_alike : (t : Placed) (p : Position) (old : Sample) (new : CanvasSample) → IsCanvasDrawnAt t p (with_alpha old 255) new → IsDrawnAt t p old (colour_and_depth new)
drawn_alike t p old new h = (h.0, h.1, applied_alike t.state.merge h.0 old new h.2)

pub draws_alike : (t : Placed) (count : SampleCount) (i j s : ℕ) (old : Sample) (new : CanvasSample) → CanvasDraws t count i j s (with_alpha old 255) new → Draws t count i j s old (colour_and_depth new)
draws_alike t count i j s old new h =
    record { met = λ m. drawn_alike t (sample_position i j s count) old new (h.met m); missed = λ n. ap colour_and_depth (h.missed n) }

-- ---- alpha that is not written stays
kept : (written : Bool) (P : ℕ → Type 0) (stored new : ℕ) → written ≡ false → IsWritten written P stored new → new ≡ stored
kept false P stored new e h = h
kept true P stored new e h = absurd (false≢true (sym e))

applied_keeps_when : (m : Merge) (f : Shaded) (old new : CanvasSample) → m.blend.write_alpha ≡ false → IsDecided (Passes m.test f.z old.z) → IsCanvasApplied m f old new → new.alpha ≡ old.alpha
applied_keeps_when m f old new off (inl p) h = kept m.blend.write_alpha _ old.alpha new.alpha off (h.passed p).alpha
applied_keeps_when m f old new off (inr n) h = ap (λ (s : CanvasSample). s.alpha) (h.failed n)

draws_keep_when : (t : Placed) (count : SampleCount) (i j s : ℕ) (old new : CanvasSample) → t.state.merge.blend.write_alpha ≡ false → IsDecided (Meets t count i j s) → CanvasDraws t count i j s old new → new.alpha ≡ old.alpha
draws_keep_when t count i j s old new off (inl m) h =
    let f = h.met m in
    applied_keeps_when t.state.merge f.0 old new off (passes t.state.merge.test f.0.z old.z) f.2
draws_keep_when t count i j s old new off (inr n) h = ap (λ (s : CanvasSample). s.alpha) (h.missed n)

pub draws_keep : (t : Placed) (count : SampleCount) (i j s : ℕ) (old new : CanvasSample) → t.state.merge.blend.write_alpha ≡ false → CanvasDraws t count i j s old new → new.alpha ≡ old.alpha
draws_keep t count i j s old new off h = draws_keep_when t count i j s old new off (meets t count i j s) h

-- ---- a triangle that writes no alpha, on alphas of one
module _ (t : Placed) (count : SampleCount) (i j s : ℕ) where
  meets_too : Meets t count i j s → Meets (keeping_alpha t) count i j s
  meets_too m = record { kept = m.kept; covered = m.covered; in_scissor = m.in_scissor; in_mask = m.in_mask }

  meets_also : Meets (keeping_alpha t) count i j s → Meets t count i j s
  meets_also m = record { kept = m.kept; covered = m.covered; in_scissor = m.in_scissor; in_mask = m.in_mask }

  same_merge : (f : Shaded) (old new : Sample) → IsMerged (keeping_alpha t).state.merge f old new → IsMerged t.state.merge f old new
  same_merge f old new h = record { red = h.red; green = h.green; blue = h.blue; depth = h.depth }

  same_drawn : (p : Position) (old new : Sample) → IsDrawnAt (keeping_alpha t) p old new → IsDrawnAt t p old new
  same_drawn p old new h =
      let f = h.1 in
      (h.0, record { depth = f.depth; red = f.red; green = f.green; blue = f.blue; alpha = f.alpha }, record { passed = λ q. same_merge h.0 old new (h.2.passed q); failed = h.2.failed })

  pub keeping_draws : (old : Sample) (new : CanvasSample) → CanvasDraws (keeping_alpha t) count i j s (with_alpha old 255) new → Draws t count i j s old (colour_and_depth new)
  keeping_draws old new h =
      let d = draws_alike (keeping_alpha t) count i j s old new h in
      record { met = λ m. same_drawn (sample_position i j s count) old (colour_and_depth new) (d.met (meets_too m)); missed = λ n. d.missed (λ m. n (meets_also m)) }

  pub keeping_stays : (old : Sample) (new : CanvasSample) → CanvasDraws (keeping_alpha t) count i j s (with_alpha old 255) new → new ≡ with_alpha (colour_and_depth new) 255
  keeping_stays old new h = same_canvas_sample _ _ refl refl refl (draws_keep (keeping_alpha t) count i j s (with_alpha old 255) new refl h) refl

pub keeping_ends : (ts : List Placed) (count : SampleCount) (i j s : ℕ) (start : Sample) (end : CanvasSample) → CanvasEnds (map keeping_alpha ts) count i j s (with_alpha start 255) end → Ends ts count i j s start (colour_and_depth end)
keeping_ends [] count i j s start end h = ap colour_and_depth h
keeping_ends (t ∷ ts) count i j s start end h =
    let stays = keeping_stays t count i j s start h.0 h.1 in
    (colour_and_depth h.0, keeping_draws t count i j s start h.0 h.1, keeping_ends ts count i j s (colour_and_depth h.0) end (rw stays at h.2))
