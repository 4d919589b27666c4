-- Two parts of tile rows, each made by itself, are the whole.
use Rattle.std.proofs.Common.{◌≡◌, ◌≢◌, ◌∙◌, inl, inr, sym, ap, subst, ℕ, ◌+◌, ◌-◌, ◌*◌, ◌/◌, ◌<◌, ◌≤◌, List, ◌++◌, length, slice_index, get_or-append-add, arith}
use Rattle.std.proofs.Math.Nat.{mul_comm, add-mul}
use Rattle.std.proofs.lemmas.Bool.{cases_lt}
use Rattle.std.proofs.lemmas.List.{get_or_append_left}
use Rattle.std.proofs.lemmas.Nat.{mul-add-lt}
use Rattle.grid.specs.Samples.{count_of}
use Rattle.lanes.specs.declared.block_samples.BlockSamples.{BlockSamples}
use Rattle.shade.specs.declared.placed.Placed.{Placed}
use Rattle.shade.specs.declared.sample.CanvasSample.{CanvasSample}
use Rattle.shade.specs.Canvas.{CanvasEnds}
use Rattle.shade.proofs.Resolved.{resolved_same}
use Rattle.canvas.specs.declared.canvas.Canvas.{Canvas}
use Rattle.readout.specs.declared.format.Format.{Format}
use Rattle.canvas.specs.Layout.{IsStoredIn, HasPixel, columns_of, stored}
use Rattle.canvas.specs.Drawing.{AreCleared, HaveEnds}
use Rattle.readout.specs.Pixels.{pixel_bytes, entry_of, AreWritten}
use Rattle.readout.specs.Colours.{IsColourOfPixel, IsAlphaOfPixel, IsPixelOf, AreResolved, AreEntries}
use Rattle.canvas.proofs.Places.{in_upper, in_lower}
use Rattle.readout.proofs.PixelColours.{bytes_same}
use Rattle.readout.proofs.Units.{below_unit}
use Rattle.canvas_picture.specs.Parts.{AreUpper, AreUpperRows}

-- ---- samples
module _ (c : Canvas) (first at end : ℕ) (xs ys : List BlockSamples) (upper : AreUpper c first at end xs) where
  -- what holds of the samples of both parts holds of those of the whole
  pub of_both : (P : ℕ → ℕ → ℕ → CanvasSample → Type 0)
      → ((i j s : ℕ) → IsStoredIn c first at i j s → P i j s (stored c first xs i j s))
      → ((i j s : ℕ) → IsStoredIn c at end i j s → P i j s (stored c at ys i j s))
      → (i j s : ℕ) → IsStoredIn c first end i j s → P i j s (stored c first (xs ++ ys) i j s)
  of_both P above below i j s h =
      elim (cases_lt (j / 64) at) [
        | inl less ↦
            subst (λ x. P i j s x) (sym (in_upper c first at xs ys i j s upper.size h.column h.is_sample h.from less))
            (above i j s (record { column = h.column; from = h.from; below = less; is_sample = h.is_sample }))
        | inr more ↦
            subst (λ x. P i j s x) (sym (in_lower c first at xs ys i j s upper.size h.column h.is_sample upper.from more))
            (below i j s (record { column = h.column; from = more; below = h.below; is_sample = h.is_sample }))
      ]

pub joined_cleared : (c : Canvas) (first at end : ℕ) (sample : CanvasSample) (xs ys : List BlockSamples) → AreUpper c first at end xs
    → AreCleared c first at sample xs → AreCleared c at end sample ys → AreCleared c first end sample (xs ++ ys)
joined_cleared c first at end sample xs ys upper above below = of_both c first at end xs ys upper (λ i j s x. x ≡ sample) above below

pub joined_drawn : (ts : List Placed) (c : Canvas) (first at end : ℕ) (xs ys xs' ys' : List BlockSamples) → AreUpper c first at end xs → AreUpper c first at end xs'
    → HaveEnds ts c first at xs xs' → HaveEnds ts c at end ys ys' → HaveEnds ts c first end (xs ++ ys) (xs' ++ ys')
joined_drawn ts c first at end xs ys xs' ys' upper upper' above below i j s h =
    elim (cases_lt (j / 64) at) [
      | inl less ↦
          subst (λ x. CanvasEnds ts c.count i j s x (stored c first (xs' ++ ys') i j s)) (sym (in_upper c first at xs ys i j s upper.size h.column h.is_sample h.from less))
          (subst (λ x. CanvasEnds ts c.count i j s (stored c first xs i j s) x) (sym (in_upper c first at xs' ys' i j s upper'.size h.column h.is_sample h.from less))
          (above i j s (record { column = h.column; from = h.from; below = less; is_sample = h.is_sample })))
      | inr more ↦
          subst (λ x. CanvasEnds ts c.count i j s x (stored c first (xs' ++ ys') i j s)) (sym (in_lower c first at xs ys i j s upper.size h.column h.is_sample upper.from more))
          (subst (λ x. CanvasEnds ts c.count i j s (stored c at ys i j s) x) (sym (in_lower c first at xs' ys' i j s upper'.size h.column h.is_sample upper.from more))
          (below i j s (record { column = h.column; from = more; below = h.below; is_sample = h.is_sample })))
    ]

-- ---- entries
-- where the entries of a pixel stand
module _ (c : Canvas) (first at unit stride i j k : ℕ) (wide : c.width * unit ≤ stride) (inside : i < c.width) (small : k < unit) where
  pub above_end : first ≤ j / 64 → j / 64 < at → entry_of first unit stride i j + k < (64 * at - 64 * first) * stride
  above_end from below =
      let column = below_unit unit i k c.width inside small in
      let place = mul-add-lt (j - 64 * first) stride (i * unit + k) (64 * at - 64 * first) (omega (arith, from, below)) (omega (arith, column, wide)) in
      omega (arith, place, mul_comm stride (64 * at - 64 * first))

pub below_end : (first at unit stride i j k : ℕ) → first ≤ at → at ≤ j / 64 → entry_of first unit stride i j + k ≡ (64 * at - 64 * first) * stride + (entry_of at unit stride i j + k)
below_end first at unit stride i j k rising from =
    let rows : j - 64 * first ≡ (64 * at - 64 * first) + (j - 64 * at) = omega arith in
    let places : (j - 64 * first) * stride ≡ (64 * at - 64 * first) * stride + (j - 64 * at) * stride = ap (λ n. n * stride) rows ∙ add-mul (64 * at - 64 * first) (j - 64 * at) stride in
    omega (arith, places)

module _ (c : Canvas) (first at end unit stride : ℕ) (from : first ≤ at) (to : at ≤ end) (P Q R : ℕ → ℕ → (ℕ → ℕ) → Type 0)
    (above_is : (i j : ℕ) (f g : ℕ → ℕ) → HasPixel c first at i j → ((k : ℕ) → k < unit → g k ≡ f k) → P i j f → R i j g)
    (below_is : (i j : ℕ) (f g : ℕ → ℕ) → HasPixel c at end i j → ((k : ℕ) → k < unit → g k ≡ f k) → Q i j f → R i j g)
    (old new old' new' : List ℕ) (upper : AreUpperRows c first at unit stride old) (upper' : AreUpperRows c first at unit stride new)
    (above : AreWritten c first at unit stride P old new) (below : AreWritten c at end unit stride Q old' new') where
  in_both : (i j : ℕ) → HasPixel c first end i j → R i j (λ k. slice_index (new ++ new') (entry_of first unit stride i j + k))
  in_both i j h =
      elim (cases_lt (j / 64) at) [
        | inl less ↦
            let here : HasPixel c first at i j = record { column = h.column; row = h.row; from = h.from; below = less } in
            above_is i j _ _ here (λ k small. get_or_append_left new new' 0 _ (let place = above_end c first at unit stride i j k upper.wide h.column small h.from less in omega (arith, place, upper'.size))) (above.pixels i j here)
        | inr more ↦
            let here : HasPixel c at end i j = record { column = h.column; row = h.row; from = more; below = h.below } in
            below_is i j _ _ here
            (λ k small.
            let place : entry_of first unit stride i j + k ≡ length new + (entry_of at unit stride i j + k) = omega (arith, below_end first at unit stride i j k from more, upper'.size) in
            ap (λ n. slice_index (new ++ new') n) place ∙ get_or-append-add new new' (entry_of at unit stride i j + k) 0)
            (below.pixels i j here)
      ]

  of_none : (n : ℕ) → ((i j k : ℕ) → HasPixel c first end i j → k < unit → n ≢ entry_of first unit stride i j + k) → slice_index (new ++ new') n ≡ slice_index (old ++ old') n
  of_none n none =
      elim (cases_lt n (length new)) [
        | inl less ↦
            let kept : slice_index new n ≡ slice_index old n =
            above.others n (λ i j k h small. none i j k (record { column = h.column; row = h.row; from = h.from; below = (let below = h.below in omega (arith, below, to)) }) small) in
            get_or_append_left new new' 0 n less ∙ kept ∙ sym (get_or_append_left old old' 0 n (omega (arith, less, upper.size, upper'.size)))
        | inr more ↦
            let m : ℕ = n - length new in
            let at_new : n ≡ length new + m = omega arith in
            let at_old : n ≡ length old + m = omega (arith, upper.size, upper'.size) in
            let kept : slice_index new' m ≡ slice_index old' m =
            below.others m
            (λ i j k h small e.
            none i j k (record { column = h.column; row = h.row; from = (let first_of = h.from in omega (arith, first_of, from)); below = h.below }) small
            (let first_of = h.from in omega (arith, e, below_end first at unit stride i j k from first_of, upper'.size, at_new))) in
            ap (λ p. slice_index (new ++ new') p) at_new ∙ get_or-append-add new new' m 0 ∙ kept ∙ sym (ap (λ p. slice_index (old ++ old') p) at_old ∙ get_or-append-add old old' m 0)
      ]

  pub joined_written : AreWritten c first end unit stride R (old ++ old') (new ++ new')
  joined_written = record { pixels = in_both; others = of_none }

-- ---- colours
module _ (c : Canvas) (i j : ℕ) (a b : ℕ) (xs zs : List BlockSamples) (same : (s : ℕ) → s < count_of c.count → stored c a xs i j s ≡ stored c b zs i j s) where
  same_colour : (red green blue : ℕ) → IsColourOfPixel c a xs i j red green blue → IsColourOfPixel c b zs i j red green blue
  same_colour red green blue h = record {
    red = resolved_same c.count _ (λ s. (stored c b zs i j s).r) red (λ s l. ap (λ (x : CanvasSample). x.r) (same s l)) h.red;
    green = resolved_same c.count _ (λ s. (stored c b zs i j s).g) green (λ s l. ap (λ (x : CanvasSample). x.g) (same s l)) h.green;
    blue = resolved_same c.count _ (λ s. (stored c b zs i j s).b) blue (λ s l. ap (λ (x : CanvasSample). x.b) (same s l)) h.blue;
  }

  same_alpha : (alpha : ℕ) → IsAlphaOfPixel c a xs i j alpha → IsAlphaOfPixel c b zs i j alpha
  same_alpha alpha h = resolved_same c.count _ (λ s. (stored c b zs i j s).alpha) alpha (λ s l. ap (λ (x : CanvasSample). x.alpha) (same s l)) h

  pub same_pixel : (format : Format) (f g : ℕ → ℕ) → ((k : ℕ) → k < pixel_bytes format → g k ≡ f k) → IsPixelOf c a xs format i j f → IsPixelOf c b zs format i j g
  same_pixel format f g bytes h = record { r = h.r; g = h.g; b = h.b; a = h.a; colour = same_colour h.r h.g h.b h.colour; alpha = λ has. same_alpha h.a (h.alpha has); order = bytes_same format h.r h.g h.b h.a f g bytes h.order }

-- a column of pixels in the picture is in a column of tiles
column_in : (c : Canvas) (i : ℕ) → i < c.width → i / 64 < columns_of c
column_in c i h = omega arith

module _ (c : Canvas) (first at end : ℕ) (xs ys : List BlockSamples) (upper : AreUpper c first at end xs) (old new old' new' : List ℕ) where
  from_upper : (i j s : ℕ) → HasPixel c first at i j → s < count_of c.count → stored c first xs i j s ≡ stored c first (xs ++ ys) i j s
  from_upper i j s h l = sym (in_upper c first at xs ys i j s upper.size (column_in c i h.column) l h.from h.below)

  from_lower : (i j s : ℕ) → HasPixel c at end i j → s < count_of c.count → stored c at ys i j s ≡ stored c first (xs ++ ys) i j s
  from_lower i j s h l = sym (in_lower c first at xs ys i j s upper.size (column_in c i h.column) l upper.from h.from)

  pub joined_resolved : (format : Format) (stride : ℕ) → AreUpperRows c first at (pixel_bytes format) stride old → AreUpperRows c first at (pixel_bytes format) stride new
      → AreResolved c first at xs format stride old new → AreResolved c at end ys format stride old' new' → AreResolved c first end (xs ++ ys) format stride (old ++ old') (new ++ new')
  joined_resolved format stride rows rows' above below =
      joined_written c first at end (pixel_bytes format) stride upper.from upper.to
      (λ i j bytes. IsPixelOf c first xs format i j bytes) (λ i j bytes. IsPixelOf c at ys format i j bytes) (λ i j bytes. IsPixelOf c first (xs ++ ys) format i j bytes)
      (λ i j f g h same is. same_pixel c i j first first xs (xs ++ ys) (λ s l. from_upper i j s h l) format f g same is)
      (λ i j f g h same is. same_pixel c i j at first ys (xs ++ ys) (λ s l. from_lower i j s h l) format f g same is)
      old new old' new' rows rows' above below

  pub joined_entries : (entry : CanvasSample → ℕ) (s stride : ℕ) → s < count_of c.count → AreUpperRows c first at 1 stride old → AreUpperRows c first at 1 stride new
      → AreEntries entry c first at xs s stride old new → AreEntries entry c at end ys s stride old' new' → AreEntries entry c first end (xs ++ ys) s stride (old ++ old') (new ++ new')
  joined_entries entry s stride l rows rows' above below =
      joined_written c first at end 1 stride upper.from upper.to
      (λ i j entries. entries 0 ≡ entry (stored c first xs i j s)) (λ i j entries. entries 0 ≡ entry (stored c at ys i j s)) (λ i j entries. entries 0 ≡ entry (stored c first (xs ++ ys) i j s))
      (λ i j f g h same is. same 0 (omega arith) ∙ is ∙ ap entry (from_upper i j s h l))
      (λ i j f g h same is. same 0 (omega arith) ∙ is ∙ ap entry (from_lower i j s h l))
      old new old' new' rows rows' above below
