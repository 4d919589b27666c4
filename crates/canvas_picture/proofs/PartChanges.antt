-- Two parts of tile rows whose samples are changed, each by itself, are the whole.
use Rattle.std.proofs.Common.{◌≡◌, ◌∙◌, refl, inl, inr, sym, ap, Bool, ℕ, ◌+◌, ◌/◌, ◌<◌, ◌≤◌, List, ◌++◌, length, slice_index, get_or-append-add, arith}
use Rattle.std.proofs.lemmas.Bool.{cases_lt}
use Rattle.std.proofs.lemmas.List.{get_or_append_left}
use Rattle.lanes.specs.declared.block_samples.BlockSamples.{BlockSamples}
use Rattle.shade.specs.declared.sample.CanvasSample.{CanvasSample}
use Rattle.canvas.specs.declared.canvas.Canvas.{Canvas}
use Rattle.readout.specs.declared.format.Format.{Format}
use Rattle.blocks.specs.Layout.{id_of}
use Rattle.canvas.specs.Layout.{IsStoredIn, HasPixel, stored}
use Rattle.readout.specs.Loaded.{coloured, AreChanged, AreLoaded, AreStored}
use Rattle.readout.specs.Pixels.{pixel_bytes, entry_of}
use Rattle.readout.specs.Tiles.{IsInTile, said_of, with_colour, AreTileIds, AreTileColours}
use Rattle.readout.proofs.Changes.{coloured_same}
use Rattle.canvas.proofs.Places.{in_upper, in_lower}
use Rattle.canvas_picture.specs.Parts.{AreUpper, AreUpperRows}
use Rattle.canvas_picture.proofs.Parts.{of_both, above_end, below_end}

abbrev Change : Type 0
Change = ℕ → ℕ → ℕ → CanvasSample → CanvasSample

-- the whole's change is that of the part at the samples of a part
record IsOfPart (c : Canvas) (from to : ℕ) (IsOne IsSome : ℕ → ℕ → ℕ → Type 0) (f g : Change) : Type 0 where
  one : (i j s : ℕ) → IsStoredIn c from to i j s → IsSome i j s → IsOne i j s
  some : (i j s : ℕ) → IsStoredIn c from to i j s → IsOne i j s → IsSome i j s
  alike : (i j s : ℕ) → IsStoredIn c from to i j s → IsOne i j s → (x : CanvasSample) → f i j s x ≡ g i j s x

module _ (c : Canvas) (first at end : ℕ) (xs ys xs' ys' : List BlockSamples) (upper : AreUpper c first at end xs) (upper' : AreUpper c first at end xs')
    (IsA IsB IsC : ℕ → ℕ → ℕ → Type 0) (f g h : Change) (a : IsOfPart c first at IsA IsC f h) (b : IsOfPart c at end IsB IsC g h)
    (above : AreChanged c first at IsA f xs xs') (below : AreChanged c at end IsB g ys ys') where
  joined_at : (i j s : ℕ) → IsStoredIn c first end i j s → (IsC i j s → stored c first (xs' ++ ys') i j s ≡ h i j s (stored c first (xs ++ ys) i j s)) × (¬ IsC i j s → stored c first (xs' ++ ys') i j s ≡ stored c first (xs ++ ys) i j s)
  joined_at i j s is =
      elim (cases_lt (j / 64) at) [
        | inl less ↦
            let here : IsStoredIn c first at i j s = record { column = is.column; from = is.from; below = less; is_sample = is.is_sample } in
            let old = in_upper c first at xs ys i j s upper.size is.column is.is_sample is.from less in
            let new = in_upper c first at xs' ys' i j s upper'.size is.column is.is_sample is.from less in (
              λ some. let one = a.one i j s here some in new ∙ above.changed i j s here one ∙ a.alike i j s here one (stored c first xs i j s) ∙ sym (ap (h i j s) old),
              λ none. new ∙ above.kept i j s here (λ one. none (a.some i j s here one)) ∙ sym old,
            )
        | inr more ↦
            let here : IsStoredIn c at end i j s = record { column = is.column; from = more; below = is.below; is_sample = is.is_sample } in
            let old = in_lower c first at xs ys i j s upper.size is.column is.is_sample upper.from more in
            let new = in_lower c first at xs' ys' i j s upper'.size is.column is.is_sample upper.from more in (
              λ some. let one = b.one i j s here some in new ∙ below.changed i j s here one ∙ b.alike i j s here one (stored c at ys i j s) ∙ sym (ap (h i j s) old),
              λ none. new ∙ below.kept i j s here (λ one. none (b.some i j s here one)) ∙ sym old,
            )
      ]

  joined_changed : AreChanged c first end IsC h (xs ++ ys) (xs' ++ ys')
  joined_changed = record { changed = λ i j s is. (joined_at i j s is).0; kept = λ i j s is. (joined_at i j s is).1 }

-- ---- the bytes of pixels
-- sample s of a pixel in the colour of its bytes
abbrev by_bytes : ℕ → Format → ℕ → Bool → List ℕ → Change
by_bytes first format stride too bytes i j s x = coloured format too (λ k. slice_index bytes (entry_of first (pixel_bytes format) stride i j + k)) x

module _ (c : Canvas) (first at end : ℕ) (from : first ≤ at) (to : at ≤ end) (format : Format) (stride : ℕ) (too : Bool) (bytes bytes' : List ℕ) (rows : AreUpperRows c first at (pixel_bytes format) stride bytes) where
  in_part : (i j : ℕ) → HasPixel c first at i j → HasPixel c first end i j
  in_part i j h = record { column = h.column; row = h.row; from = h.from; below = (let below = h.below in omega (arith, below, to)) }

  in_rest : (i j : ℕ) → HasPixel c at end i j → HasPixel c first end i j
  in_rest i j h = record { column = h.column; row = h.row; from = (let first_of = h.from in omega (arith, from, first_of)); below = h.below }

  above_bytes : (i j s : ℕ) → HasPixel c first at i j → (x : CanvasSample) → by_bytes first format stride too bytes i j s x ≡ by_bytes first format stride too (bytes ++ bytes') i j s x
  above_bytes i j s h x =
      coloured_same format too _ _ x
      (λ k small. sym (get_or_append_left bytes bytes' 0 _ (let place = above_end c first at (pixel_bytes format) stride i j k rows.wide h.column small h.from h.below in omega (arith, place, rows.size))))

  below_bytes : (i j s : ℕ) → HasPixel c at end i j → (x : CanvasSample) → by_bytes at format stride too bytes' i j s x ≡ by_bytes first format stride too (bytes ++ bytes') i j s x
  below_bytes i j s h x =
      coloured_same format too _ _ x
      (λ k small.
      let place : entry_of first (pixel_bytes format) stride i j + k ≡ length bytes + (entry_of at (pixel_bytes format) stride i j + k) = omega (arith, below_end first at (pixel_bytes format) stride i j k from h.from, rows.size) in
      sym (ap (λ n. slice_index (bytes ++ bytes') n) place ∙ get_or-append-add bytes bytes' (entry_of at (pixel_bytes format) stride i j + k) 0))

pub joined_loaded : (c : Canvas) (first at end : ℕ) (xs ys xs' ys' : List BlockSamples) (bytes bytes' : List ℕ) (format : Format) (stride : ℕ) (too : Bool) → AreUpper c first at end xs → AreUpper c first at end xs'
    → AreUpperRows c first at (pixel_bytes format) stride bytes → AreLoaded c first at bytes format stride too xs xs' → AreLoaded c at end bytes' format stride too ys ys'
    → AreLoaded c first end (bytes ++ bytes') format stride too (xs ++ ys) (xs' ++ ys')
joined_loaded c first at end xs ys xs' ys' bytes bytes' format stride too upper upper' rows above below =
    joined_changed c first at end xs ys xs' ys' upper upper'
    (λ i j s. HasPixel c first at i j) (λ i j s. HasPixel c at end i j) (λ i j s. HasPixel c first end i j)
    (by_bytes first format stride too bytes) (by_bytes at format stride too bytes') (by_bytes first format stride too (bytes ++ bytes'))
    (record {
      one = λ i j s is h. record { column = h.column; row = h.row; from = is.from; below = is.below };
      some = λ i j s is h. in_part c first at end upper.from upper.to format stride too bytes bytes' rows i j h;
      alike = λ i j s is h. above_bytes c first at end upper.from upper.to format stride too bytes bytes' rows i j s h;
    })
    (record {
      one = λ i j s is h. record { column = h.column; row = h.row; from = is.from; below = is.below };
      some = λ i j s is h. in_rest c first at end upper.from upper.to format stride too bytes bytes' rows i j h;
      alike = λ i j s is h. below_bytes c first at end upper.from upper.to format stride too bytes bytes' rows i j s h;
    })
    above below

pub joined_stored : (c : Canvas) (first at end n : ℕ) (xs ys xs' ys' : List BlockSamples) (bytes bytes' : List ℕ) (format : Format) (stride : ℕ) (too : Bool) → AreUpper c first at end xs → AreUpper c first at end xs'
    → AreUpperRows c first at (pixel_bytes format) stride bytes → AreStored c first at n bytes format stride too xs xs' → AreStored c at end n bytes' format stride too ys ys'
    → AreStored c first end n (bytes ++ bytes') format stride too (xs ++ ys) (xs' ++ ys')
joined_stored c first at end n xs ys xs' ys' bytes bytes' format stride too upper upper' rows above below =
    joined_changed c first at end xs ys xs' ys' upper upper'
    (λ i j s. HasPixel c first at i j × (s ≡ n)) (λ i j s. HasPixel c at end i j × (s ≡ n)) (λ i j s. HasPixel c first end i j × (s ≡ n))
    (by_bytes first format stride too bytes) (by_bytes at format stride too bytes') (by_bytes first format stride too (bytes ++ bytes'))
    (record {
      one = λ i j s is h. (record { column = h.0.column; row = h.0.row; from = is.from; below = is.below }, h.1);
      some = λ i j s is h. (in_part c first at end upper.from upper.to format stride too bytes bytes' rows i j h.0, h.1);
      alike = λ i j s is h. above_bytes c first at end upper.from upper.to format stride too bytes bytes' rows i j s h.0;
    })
    (record {
      one = λ i j s is h. (record { column = h.0.column; row = h.0.row; from = is.from; below = is.below }, h.1);
      some = λ i j s is h. (in_rest c first at end upper.from upper.to format stride too bytes bytes' rows i j h.0, h.1);
      alike = λ i j s is h. below_bytes c first at end upper.from upper.to format stride too bytes bytes' rows i j s h.0;
    })
    above below

-- ---- tiles
pub ids_above : (c : Canvas) (first at end column row : ℕ) (xs ys : List BlockSamples) (ids : List ℕ) → AreUpper c first at end xs → row < at → AreTileIds c first at column row xs ids → AreTileIds c first end column row (xs ++ ys) ids
ids_above c first at end column row xs ys ids upper inside above =
    λ i j s is h. of_both c first at end xs ys upper (λ i j s x. IsInTile column row i j → said_of c.count ids i j s ≡ id_of x) above
    (λ i j s here h. absurd (let low = here.from in let down = h.down in omega (arith, low, down, inside))) i j s is h

pub ids_below : (c : Canvas) (first at end column row : ℕ) (xs ys : List BlockSamples) (ids : List ℕ) → AreUpper c first at end xs → at ≤ row → AreTileIds c at end column row ys ids → AreTileIds c first end column row (xs ++ ys) ids
ids_below c first at end column row xs ys ids upper outside below =
    λ i j s is h. of_both c first at end xs ys upper (λ i j s x. IsInTile column row i j → said_of c.count ids i j s ≡ id_of x)
    (λ i j s here h. absurd (let high = here.below in let down = h.down in omega (arith, high, down, outside))) below i j s is h

abbrev by_entries : Canvas → List ℕ → Change
by_entries c entries i j s x = with_colour (said_of c.count entries i j s) x

unchanged : (c : Canvas) (first end column row : ℕ) (entries : List ℕ) (xs : List BlockSamples) → ((i j s : ℕ) → IsStoredIn c first end i j s → ¬ IsInTile column row i j) → AreTileColours c first end column row entries xs xs
unchanged c first end column row entries xs none = record { changed = λ i j s is h. absurd (none i j s is h); kept = λ i j s is h. refl }

joined_tile : (c : Canvas) (first at end column row : ℕ) (entries : List ℕ) (xs ys xs' ys' : List BlockSamples) → AreUpper c first at end xs → AreUpper c first at end xs'
    → AreTileColours c first at column row entries xs xs' → AreTileColours c at end column row entries ys ys' → AreTileColours c first end column row entries (xs ++ ys) (xs' ++ ys')
joined_tile c first at end column row entries xs ys xs' ys' upper upper' above below =
    joined_changed c first at end xs ys xs' ys' upper upper'
    (λ i j s. IsInTile column row i j) (λ i j s. IsInTile column row i j) (λ i j s. IsInTile column row i j)
    (by_entries c entries) (by_entries c entries) (by_entries c entries)
    (record { one = λ i j s is h. h; some = λ i j s is h. h; alike = λ i j s is h x. refl })
    (record { one = λ i j s is h. h; some = λ i j s is h. h; alike = λ i j s is h x. refl })
    above below

pub colours_above : (c : Canvas) (first at end column row : ℕ) (entries : List ℕ) (xs ys xs' : List BlockSamples) → AreUpper c first at end xs → AreUpper c first at end xs' → row < at
    → AreTileColours c first at column row entries xs xs' → AreTileColours c first end column row entries (xs ++ ys) (xs' ++ ys)
colours_above c first at end column row entries xs ys xs' upper upper' inside above =
    joined_tile c first at end column row entries xs ys xs' ys upper upper' above
    (unchanged c at end column row entries ys (λ i j s here h. let low = here.from in let down = h.down in omega (arith, low, down, inside)))

pub colours_below : (c : Canvas) (first at end column row : ℕ) (entries : List ℕ) (xs ys ys' : List BlockSamples) → AreUpper c first at end xs → at ≤ row
    → AreTileColours c at end column row entries ys ys' → AreTileColours c first end column row entries (xs ++ ys) (xs ++ ys')
colours_below c first at end column row entries xs ys ys' upper outside below =
    joined_tile c first at end column row entries xs ys xs ys' upper upper
    (unchanged c first at column row entries xs (λ i j s here h. let high = here.below in let down = h.down in omega (arith, high, down, outside))) below
