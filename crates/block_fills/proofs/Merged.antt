-- What a fragment makes of a sample.
use Rattle.std.proofs.Common.{IsTrue, ◌≤◌, ◌≡◌, refl, sym, ap, arith, Bool, false, ℕ}
use Rattle.std.specs.Prelude.{if◌then◌else◌, slice_index_or}
use Rattle.std.proofs.lemmas.Int.{ints}
use Rattle.grid.specs.declared.sample_count.SampleCount.{SampleCount}
use Rattle.shade.specs.declared.equation.Equation.{Equation}
use Rattle.shade.specs.declared.operands.Channel.TheVariants.{Colour}
use Rattle.shade.specs.declared.operands.Operands.{Operands}
use Rattle.shade.specs.declared.sample.Merge.{Merge}
use Rattle.shade.specs.Blend.{IsBlended, IsOver}
use Rattle.shade.specs.Merging.{operands_of, Writes, IsWritten, IsChannelMerged}
use Rattle.shade.specs.declared.sample.CanvasSample.{CanvasSample}
use Rattle.shade.specs.declared.sample.Shaded.{Shaded}
use Rattle.shade.specs.Canvas.{IsCanvasApplied}
use Rattle.shade.proofs.Blended.{replace_is}
use Rattle.shade.specs.Presets.{replace, over}
use Rattle.shade.specs.declared.state.State.{State}
use Rattle.canvas.proofs.Shown.{always}
use Rattle.canvas.specs.Hidden.{ReplacesColours}
use Rattle.block_fills.specs.Changes.{BlendsAlone}

-- ---- of a fragment that replaces colours, and writes neither depth nor alpha
written_replaced : (w : Bool) (e : Equation) (o : Operands) → IsTrue w → e ≡ replace → o.source ≤ 255 → IsWritten w (IsBlended e Colour o) o.stored o.source
written_replaced w e o is plain small = rw (is, plain) ((replace_is o o.source small).0 refl)

channel_replaced : (m : Merge) (k source alpha stored_alpha stored : ℕ) → Writes m k → m.blend.colour ≡ replace → source ≤ 255 → IsChannelMerged m k source alpha stored_alpha stored source
channel_replaced m k source alpha stored_alpha stored is plain small = written_replaced (slice_index_or m.write k false) m.blend.colour (operands_of m k source alpha stored_alpha stored) is plain small

alpha_kept : (w : Bool) (P : ℕ → Type 0) (old : ℕ) → w ≡ false → IsWritten w P old old
alpha_kept w P old is = rw is refl

pub colour_replaced : (s : State) (count : SampleCount) (f : Shaded) (old : CanvasSample) → ReplacesColours s count → s.merge.depth_write ≡ false → s.merge.blend.write_alpha ≡ false → f.r ≤ 255 → f.g ≤ 255 → f.b ≤ 255
    → IsCanvasApplied s.merge f old (record { r = f.r; g = f.g; b = f.b; alpha = old.alpha; z = old.z })
colour_replaced s count f old replaces depth alpha red green blue = record {
  passed = λ _. record {
    red = channel_replaced s.merge 0 f.r f.a old.alpha old.r replaces.red replaces.plain red;
    green = channel_replaced s.merge 1 f.g f.a old.alpha old.g replaces.green replaces.plain green;
    blue = channel_replaced s.merge 2 f.b f.a old.alpha old.b replaces.blue replaces.plain blue;
    alpha = alpha_kept s.merge.blend.write_alpha _ old.alpha alpha;
    depth = ap (λ w. if w then f.z else old.z) (sym depth);
  };
  failed = λ fails. absurd (fails (always s.merge.test f.z old.z replaces.passes));
}

-- ---- of a fragment that is blended over, and writes neither depth nor alpha
written_over : (w : Bool) (e : Equation) (o : Operands) (n : ℕ) → IsTrue w → e ≡ over → n ≤ 255 → IsOver o.source o.source_alpha o.stored n → IsWritten w (IsBlended e Colour o) o.stored n
written_over w e o n is plain most h = rw (is, plain) (record { most = most; low = λ _. omega (arith, ints, h.low); high = λ _. omega (arith, ints, h.high) })

channel_over : (m : Merge) (k source alpha stored_alpha stored n : ℕ) → Writes m k → m.blend.colour ≡ over → n ≤ 255 → IsOver source alpha stored n → IsChannelMerged m k source alpha stored_alpha stored n
channel_over m k source alpha stored_alpha stored n is plain most h = written_over (slice_index_or m.write k false) m.blend.colour (operands_of m k source alpha stored_alpha stored) n is plain most h

pub colour_over : (s : State) (f : Shaded) (old : CanvasSample) (r g b : ℕ) → BlendsAlone s.merge → r ≤ 255 → g ≤ 255 → b ≤ 255 → IsOver f.r f.a old.r r → IsOver f.g f.a old.g g → IsOver f.b f.a old.b b
    → IsCanvasApplied s.merge f old (record { r = r; g = g; b = b; alpha = old.alpha; z = old.z })
colour_over s f old r g b is small_r small_g small_b red green blue = record {
  passed = λ _. record {
    red = channel_over s.merge 0 f.r f.a old.alpha old.r r is.red is.over small_r red;
    green = channel_over s.merge 1 f.g f.a old.alpha old.g g is.green is.over small_g green;
    blue = channel_over s.merge 2 f.b f.a old.alpha old.b b is.blue is.over small_b blue;
    alpha = alpha_kept s.merge.blend.write_alpha _ old.alpha is.alpha;
    depth = ap (λ w. if w then f.z else old.z) (sym is.depth);
  };
  failed = λ fails. absurd (fails (always s.merge.test f.z old.z is.passes));
}
