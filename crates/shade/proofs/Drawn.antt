-- A triangle makes exactly one sample of each sample.
use Rattle.std.proofs.Common.{◌≡◌, inl, inr, refl, sym, ◌∙◌, ℕ, List, Bool, true, false, if◌then◌else◌, slice_index_or}
use Rattle.grid.specs.Position.{Position}
use Rattle.grid.specs.Triangle.{Covers}
use Rattle.grid.specs.Samples.{sample_position}
use Rattle.grid.specs.declared.sample_count.SampleCount.{SampleCount}
use Rattle.shade.specs.declared.sample.Sample.{Sample}
use Rattle.shade.specs.declared.sample.Shaded.{Shaded}
use Rattle.shade.specs.declared.sample.Merge.{Merge}
use Rattle.shade.specs.declared.equation.Equation.{Equation}
use Rattle.shade.specs.declared.operands.Channel.{Channel}
use Rattle.shade.specs.declared.operands.Channel.TheVariants.{Colour}
use Rattle.shade.specs.declared.operands.Operands.{Operands}
use Rattle.shade.specs.Blend.{IsBlended}
use Rattle.shade.specs.Depth.{Passes}
use Rattle.shade.specs.Merging.{operands_of, IsWritten, IsChannelMerged, IsMerged, IsApplied}
use Rattle.shade.proofs.Blended.{blended, blended-unique}
use Rattle.shade.proofs.Values.{quotient, quotient-unique, area_positive}
use Rattle.shade.specs.declared.placed.Placed.{Placed}
use Rattle.shade.specs.Placed.{channel, IsInterpolated, IsFragmentAt, Meets, Draws}
use Rattle.shade.proofs.Decided.{IsDecided, meets, passes}

-- samples of the same parts
sample : ℕ → ℕ → ℕ → ℕ → Sample
sample r g b z = record { r = r; g = g; b = b; z = z }

made_same : (r g b z r' g' b' z' : ℕ) → r ≡ r' → g ≡ g' → b ≡ b' → z ≡ z' → sample r g b z ≡ sample r' g' b' z'
made_same r g b z r' g' b' z' e f h k = cc

pub same_sample : (x y : Sample) → x.r ≡ y.r → x.g ≡ y.g → x.b ≡ y.b → x.z ≡ y.z → x ≡ y
unfolding sample
same_sample x y e f g h = made_same x.r x.g x.b x.z y.r y.g y.b y.z e f g h

shaded : ℕ → ℕ → ℕ → ℕ → ℕ → Shaded
shaded r g b a z = record { r = r; g = g; b = b; a = a; z = z }

made_same_shaded : (r g b a z r' g' b' a' z' : ℕ) → r ≡ r' → g ≡ g' → b ≡ b' → a ≡ a' → z ≡ z' → shaded r g b a z ≡ shaded r' g' b' a' z'
made_same_shaded r g b a z r' g' b' a' z' e f h k l = cc

same_shaded : (x y : Shaded) → x.r ≡ y.r → x.g ≡ y.g → x.b ≡ y.b → x.a ≡ y.a → x.z ≡ y.z → x ≡ y
unfolding shaded
same_shaded x y e f g h k = made_same_shaded x.r x.g x.b x.a x.z y.r y.g y.b y.a y.z e f g h k

-- ---- the fragment
interpolated : (t : Placed) (p : Position) (values : List ℕ) → Covers t.tri.a t.tri.b t.tri.c p → (v : ℕ) × IsInterpolated t p values v
interpolated t p values h = (_, quotient _ _ (area_positive t.tri.a t.tri.b t.tri.c p h))

pub fragment : (t : Placed) (p : Position) → Covers t.tri.a t.tri.b t.tri.c p → (f : Shaded) × IsFragmentAt t p f
fragment t p h =
    let z = interpolated t p t.z h in
    let r = interpolated t p (channel t 0) h in
    let g = interpolated t p (channel t 1) h in
    let b = interpolated t p (channel t 2) h in
    let a = interpolated t p (channel t 3) h in
    (record { r = r.0; g = g.0; b = b.0; a = a.0; z = z.0 }, record { depth = z.1; red = r.1; green = g.1; blue = b.1; alpha = a.1 })

pub fragment-unique : (t : Placed) (p : Position) (f f' : Shaded) → IsFragmentAt t p f → IsFragmentAt t p f' → f ≡ f'
fragment-unique t p f f' h k =
    same_shaded f f' (quotient-unique _ _ _ _ h.red k.red) (quotient-unique _ _ _ _ h.green k.green) (quotient-unique _ _ _ _ h.blue k.blue) (quotient-unique _ _ _ _ h.alpha k.alpha) (quotient-unique _ _ _ _ h.depth k.depth)

-- ---- what it makes of a sample
pub drawn : (written : Bool) (e : Equation) (channel : Channel) (o : Operands) (stored : ℕ) → (new : ℕ) × IsWritten written (IsBlended e channel o) stored new
drawn false e channel o stored = (stored, refl)
drawn true e channel o stored = blended e channel o

pub drawn-unique : (written : Bool) (e : Equation) (channel : Channel) (o : Operands) (stored new new' : ℕ) → IsWritten written (IsBlended e channel o) stored new → IsWritten written (IsBlended e channel o) stored new' → new ≡ new'
drawn-unique false e channel o stored new new' h k = h ∙ sym k
drawn-unique true e channel o stored new new' h k = blended-unique e channel o new new' h k

pub channel_drawn : (m : Merge) (k source alpha e stored : ℕ) → (new : ℕ) × IsChannelMerged m k source alpha e stored new
channel_drawn m k source alpha e stored = drawn (slice_index_or m.write k false) m.blend.colour Colour (operands_of m k source alpha e stored) stored

pub channel_drawn-unique : (m : Merge) (k source alpha e stored new new' : ℕ) → IsChannelMerged m k source alpha e stored new → IsChannelMerged m k source alpha e stored new' → new ≡ new'
channel_drawn-unique m k source alpha e stored new new' h i =
    drawn-unique (slice_index_or m.write k false) m.blend.colour Colour (operands_of m k source alpha e stored) stored new new' h i

merged : (m : Merge) (f : Shaded) (old : Sample) → (new : Sample) × IsMerged m f old new
merged m f old =
    let r = channel_drawn m 0 f.r f.a 255 old.r in
    let g = channel_drawn m 1 f.g f.a 255 old.g in
    let b = channel_drawn m 2 f.b f.a 255 old.b in
    (record { r = r.0; g = g.0; b = b.0; z = if m.depth_write then f.z else old.z }, record { red = r.1; green = g.1; blue = b.1; depth = refl })

merged-unique : (m : Merge) (f : Shaded) (old new new' : Sample) → IsMerged m f old new → IsMerged m f old new' → new ≡ new'
merged-unique m f old new new' h k =
    same_sample new new' (channel_drawn-unique m 0 f.r f.a 255 old.r _ _ h.red k.red) (channel_drawn-unique m 1 f.g f.a 255 old.g _ _ h.green k.green)
    (channel_drawn-unique m 2 f.b f.a 255 old.b _ _ h.blue k.blue) (h.depth ∙ sym k.depth)

applied_when : (m : Merge) (f : Shaded) (old : Sample) → IsDecided (Passes m.test f.z old.z) → (new : Sample) × IsApplied m f old new
applied_when m f old (inl p) = let new = merged m f old in (new.0, record { passed = λ _. new.1; failed = λ n. absurd (n p) })
applied_when m f old (inr n) = (old, record { passed = λ p. absurd (n p); failed = λ _. refl })

applied-unique_when : (m : Merge) (f : Shaded) (old new new' : Sample) → IsDecided (Passes m.test f.z old.z) → IsApplied m f old new → IsApplied m f old new' → new ≡ new'
applied-unique_when m f old new new' (inl p) h k = merged-unique m f old new new' (h.passed p) (k.passed p)
applied-unique_when m f old new new' (inr n) h k = h.failed n ∙ sym (k.failed n)

applied-unique : (m : Merge) (f : Shaded) (old new new' : Sample) → IsApplied m f old new → IsApplied m f old new' → new ≡ new'
applied-unique m f old new new' h k = applied-unique_when m f old new new' (passes m.test f.z old.z) h k

-- ---- what a triangle makes of it
module _ (t : Placed) (count : SampleCount) (i j s : ℕ) where
  draws_when : (old : Sample) → IsDecided (Meets t count i j s) → (new : Sample) × Draws t count i j s old new
  draws_when old (inl m) =
      let f = fragment t (sample_position i j s count) m.covered in
      let new = applied_when t.state.merge f.0 old (passes t.state.merge.test f.0.z old.z) in
      (new.0, record { met = λ _. (f.0, f.1, new.1); missed = λ n. absurd (n m) })
  draws_when old (inr n) = (old, record { met = λ m. absurd (n m); missed = λ _. refl })

  pub draws : (old : Sample) → (new : Sample) × Draws t count i j s old new
  draws old = draws_when old (meets t count i j s)

  draws-unique_when : (old new new' : Sample) → IsDecided (Meets t count i j s) → Draws t count i j s old new → Draws t count i j s old new' → new ≡ new'
  draws-unique_when old new new' (inl m) h k =
      let f = h.met m in
      let f' = k.met m in
      let same = fragment-unique t (sample_position i j s count) f.0 f'.0 f.1 f'.1 in
      applied-unique t.state.merge f.0 old new new' f.2 (rw same f'.2)
  draws-unique_when old new new' (inr n) h k = h.missed n ∙ sym (k.missed n)

  pub draws-unique : (old new new' : Sample) → Draws t count i j s old new → Draws t count i j s old new' → new ≡ new'
  draws-unique old new new' h k = draws-unique_when old new new' (meets t count i j s) h k
