use Rattle.std.proofs.Common.{◌≡◌, Bool, if◌then◌else◌, ◌∙◌, inl, inr, refl, sym, ap, subst, ◌+◌, ◌/◌, ◌<◌, ℕ, [], ◌∷◌, slice_index, arith}
use Rattle.shade.specs.declared.sample.CanvasSample.{CanvasSample}
use Rattle.readout.specs.declared.format.Format.{Format}
use Rattle.readout.specs.declared.format.Format.TheVariants.{Rgb8, Rgba8, Bgra8, Rgba8Straight, Bgra8Straight}
use Rattle.canvas.specs.Layout.{columns_of, stored}
use Rattle.readout.specs.Pixels.{IsAsStored, HasAlpha, pixel_bytes, pixel_of, entry_of}
use Rattle.readout.specs.Colours.{IsSampleColour}
use Rattle.readout.specs.Loaded.{coloured}
use Rattle.blocks.proofs.TilePlanes.{cases_eq}
use Rattle.readout.proofs.laws.keeps_colours.Goals as goal

three : (f g : ℕ → ℕ) → f 0 ≡ g 0 → f 1 ≡ g 1 → f 2 ≡ g 2 → (k : ℕ) → k < 3 → f k ≡ g k
three f g zeroth first second k small =
    elim (cases_eq k 0) [
      | inl e ↦ subst (λ k. f k ≡ g k) (sym e) zeroth
      | inr not_0 ↦ elim (cases_eq k 1) [
        | inl e ↦ subst (λ k. f k ≡ g k) (sym e) first
        | inr not_1 ↦ let e : 2 ≡ k = omega (arith, small, not_0, not_1) in subst (λ k. f k ≡ g k) e second
      ]
    ]

within : (format : Format) (k : ℕ) → k < 3 → k < pixel_bytes format
within Rgb8 k small = small
within Rgba8 k small = omega (arith, small)
within Bgra8 k small = omega (arith, small)
within Rgba8Straight k small = omega (arith, small)
within Bgra8Straight k small = omega (arith, small)

-- the bytes of a sample that has the colour of bytes
own_bytes : (format : Format) → IsAsStored format → (too : Bool) (bytes : ℕ → ℕ) (old : CanvasSample) (k : ℕ) → k < 3
    → slice_index (pixel_of format (coloured format too bytes old).r (coloured format too bytes old).g (coloured format too bytes old).b (coloured format too bytes old).alpha) k ≡ bytes k
own_bytes Rgb8 plain too bytes old k small = three (λ k. slice_index (bytes 0 ∷ bytes 1 ∷ bytes 2 ∷ []) k) bytes refl refl refl k small
own_bytes Rgba8 plain too bytes old k small = three (λ k. slice_index (bytes 0 ∷ bytes 1 ∷ bytes 2 ∷ (if too then bytes 3 else 255) ∷ []) k) bytes refl refl refl k small
own_bytes Bgra8 plain too bytes old k small = three (λ k. slice_index (bytes 0 ∷ bytes 1 ∷ bytes 2 ∷ (if too then bytes 3 else 255) ∷ []) k) bytes refl refl refl k small
own_bytes Rgba8Straight never too bytes old k small = absurd never
own_bytes Bgra8Straight never too bytes old k small = absurd never

same_bytes : (format : Format) → IsAsStored format → (too : Bool) (bytes back : ℕ → ℕ) (old new : CanvasSample) → new ≡ coloured format too bytes old → IsSampleColour format new back → (k : ℕ) → k < 3 → back k ≡ bytes k
same_bytes format plain too bytes back old new is h k small =
    h k (within format k small) ∙ ap (λ (x : CanvasSample). slice_index (pixel_of format x.r x.g x.b (x.alpha)) k) is ∙ own_bytes format plain too bytes old k small

pub returns-clause-colours : goal.returns-clause-colours
returns-clause-colours c canvas first end s stride format bytes before after too old new plain few set are i j k h small =
    let column = h.column in
    let wide : i / 64 < columns_of canvas = omega (arith, column) in
    same_bytes format plain too (λ n. slice_index bytes (entry_of first (pixel_bytes format) stride i j + n)) (λ n. slice_index after (entry_of first (pixel_bytes format) stride i j + n)) (stored canvas first old i j s) (stored canvas first new i j s)
    (set.changed i j s (record { column = wide; from = h.from; below = h.below; is_sample = few }) (h, refl)) (are.pixels i j h) k small

-- the alpha of a sample that has the colour of bytes
own_alpha : (format : Format) → IsAsStored format → HasAlpha format → (too : Bool) (bytes back : ℕ → ℕ) (old new : CanvasSample) → new ≡ coloured format too bytes old → IsSampleColour format new back
    → back 3 ≡ (if too then bytes 3 else 255)
own_alpha Rgb8 plain never too bytes back old new is h = absurd never
own_alpha Rgba8 plain some too bytes back old new is h = h 3 (omega arith) ∙ ap (λ (x : CanvasSample). x.alpha) is
own_alpha Bgra8 plain some too bytes back old new is h = h 3 (omega arith) ∙ ap (λ (x : CanvasSample). x.alpha) is
own_alpha Rgba8Straight never some too bytes back old new is h = absurd never
own_alpha Bgra8Straight never some too bytes back old new is h = absurd never

pub returns-clause-alpha : goal.returns-clause-alpha
returns-clause-alpha c canvas first end s stride format bytes before after too old new plain some few set are i j h =
    let column = h.column in
    let wide : i / 64 < columns_of canvas = omega (arith, column) in
    own_alpha format plain some too (λ n. slice_index bytes (entry_of first (pixel_bytes format) stride i j + n)) (λ n. slice_index after (entry_of first (pixel_bytes format) stride i j + n)) (stored canvas first old i j s) (stored canvas first new i j s)
    (set.changed i j s (record { column = wide; from = h.from; below = h.below; is_sample = few }) (h, refl)) (are.pixels i j h)
