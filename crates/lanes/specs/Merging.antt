use Rattle.std.specs.Prelude.{◌≡◌, ◌⊎◌, ℕ, Bool, false, List, ◌+◌, ◌<◌, ◌≤◌, if◌then◌else◌, slice_index, slice_index_or}
use Rattle.gradients.specs.declared.colour_planes.Colours.{Colours}
use Rattle.shade.specs.declared.sample.Merge.{Merge}
use Rattle.shade.specs.declared.sample.CanvasSample.{CanvasSample}
use Rattle.shade.specs.declared.operands.Channel.TheVariants.{Colour}
use Rattle.shade.specs.Blend.{IsBlended}
use Rattle.shade.specs.Depth.{Passes}
use Rattle.shade.specs.Merging.{operands_of, IsWritten, IsChannelMerged}
use Rattle.lanes.specs.declared.block_samples.BlockSamples.{BlockSamples}
use Rattle.lanes.specs.Block.{stored_at}
use Rattle.lanes.specs.declared.operands.ColourLanes.{ColourLanes}
use Rattle.lanes.specs.declared.operands.ColourOperands.{ColourOperands}
use Rattle.lanes.specs.Operands.{AreByteLanes, red_of, green_of, blue_of}

-- What the depth test makes of a stored depth, and the lane of its result: all ones if it passed, else 0.
pub record IsTested (m : Merge) (z old new lane : ℕ) : Type 0 where
  pub passed : Passes m.test z old → (lane ≡ 65535) × (new ≡ (if m.depth_write then z else old))
  pub failed : ¬ Passes m.test z old → (lane ≡ 0) × (new ≡ old)

-- The fragments have sixteen lanes of at most 255 in each channel.
pub record AreByteFragments (c : Colours) : Type 0 where
  pub red : AreByteLanes c.r
  pub green : AreByteLanes c.g
  pub blue : AreByteLanes c.b
  pub alpha : AreByteLanes c.a

-- Lane i of the operands is what is read of fragment i and of stored sample k.
pub record ReadsColours (m : Merge) (c : Colours) (s : BlockSamples) (k i : ℕ) (o : ColourOperands) : Type 0 where
  pub red : red_of o i ≡ operands_of m 0 (slice_index c.r i) (slice_index c.a i) (slice_index s.alpha k) (slice_index s.r k)
  pub green : green_of o i ≡ operands_of m 1 (slice_index c.g i) (slice_index c.a i) (slice_index s.alpha k) (slice_index s.g k)
  pub blue : blue_of o i ≡ operands_of m 2 (slice_index c.b i) (slice_index c.a i) (slice_index s.alpha k) (slice_index s.b k)

-- The colours are those of fragments blended with the sixteen samples from k on.
pub record AreMerged (m : Merge) (c : Colours) (s : BlockSamples) (k : ℕ) (v : ColourLanes) : Type 0 where
  pub red : (i : ℕ) → i < 16 → IsBlended m.blend.colour Colour (operands_of m 0 (slice_index c.r i) (slice_index c.a i) (slice_index s.alpha (k + i)) (slice_index s.r (k + i))) (slice_index v.red i)
  pub green : (i : ℕ) → i < 16 → IsBlended m.blend.colour Colour (operands_of m 1 (slice_index c.g i) (slice_index c.a i) (slice_index s.alpha (k + i)) (slice_index s.g (k + i))) (slice_index v.green i)
  pub blue : (i : ℕ) → i < 16 → IsBlended m.blend.colour Colour (operands_of m 2 (slice_index c.b i) (slice_index c.a i) (slice_index s.alpha (k + i)) (slice_index s.b (k + i))) (slice_index v.blue i)

-- The colour of a sample takes a value with each of these in the channels of the write mask.
pub record IsStored (write : List Bool) (r g b : ℕ → Type 0) (old new : CanvasSample) : Type 0 where
  pub red : IsWritten (slice_index_or write 0 false) r old.r new.r
  pub green : IsWritten (slice_index_or write 1 false) g old.g new.g
  pub blue : IsWritten (slice_index_or write 2 false) b old.b new.b

-- The colour of a sample is merged with a fragment's.
pub record IsColoured (m : Merge) (r g b a : ℕ) (old new : CanvasSample) : Type 0 where
  pub red : IsChannelMerged m 0 r a old.alpha old.r new.r
  pub green : IsChannelMerged m 1 g a old.alpha old.g new.g
  pub blue : IsChannelMerged m 2 b a old.alpha old.b new.b

-- Of the sixteen samples from k on P holds where the mask is set, and no other changes, nor any alpha or depth.
pub record AreMasked (P : ℕ → CanvasSample → CanvasSample → Type 0) (mask : List ℕ) (old new : BlockSamples) (k : ℕ) : Type 0 where
  pub set : (i : ℕ) → i < 16 → slice_index mask i ≡ 65535 → P i (stored_at old (k + i)) (stored_at new (k + i))
  pub clear : (i : ℕ) → i < 16 → slice_index mask i ≡ 0 → stored_at new (k + i) ≡ stored_at old (k + i)
  pub elsewhere : (j : ℕ) → (j < k) ⊎ (k + 16 ≤ j) → stored_at new j ≡ stored_at old j
  pub alpha : new.alpha ≡ old.alpha
  pub depth : new.z ≡ old.z

-- Sixteen samples take these colours where the mask is set.
abbrev pub TakeColours : List Bool → List ℕ → ColourLanes → BlockSamples → BlockSamples → ℕ → Type 0
TakeColours write mask v old new k =
    AreMasked (λ i. IsStored write (λ n. n ≡ slice_index v.red i) (λ n. n ≡ slice_index v.green i) (λ n. n ≡ slice_index v.blue i)) mask old new k

-- The colours of sixteen samples are merged with those of fragments where the mask is set.
abbrev pub AreColoured : Merge → List ℕ → Colours → BlockSamples → BlockSamples → ℕ → Type 0
AreColoured m mask c old new k = AreMasked (λ i. IsColoured m (slice_index c.r i) (slice_index c.g i) (slice_index c.b i) (slice_index c.a i)) mask old new k
