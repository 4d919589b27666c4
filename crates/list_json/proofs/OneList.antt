-- The bytes of an input denote at most one draw list.
use Rattle.std.proofs.Common.{◌≡◌, refl, sym, ap, ◌∙◌, subst, ℕ, List, [], ◌∷◌, codes, Option, Some, None, if◌then◌else◌, bytes_eq, arith}
use Rattle.serde_json.specs.Data.{Data}
use Rattle.serde_json.specs.Find.{get}
use Rattle.grid.specs.Samples.{count_of}
use Rattle.grid.specs.declared.sample_count.SampleCount.{SampleCount}
use Rattle.grid.specs.declared.sample_count.SampleCount.TheVariants.{One, Two, Four, Eight, Sixteen}
use Rattle.shade.specs.declared.sample.Sample.{Sample}
use Rattle.list_json.specs.Json.{json_of, whole, text}
use Rattle.draw_list.specs.Listing.{DrawListing, Listing, scene_of}
use Rattle.draw_list.specs.Scene.{Scene}
use Rattle.draw_list.specs.declared.output.Output.{Output}
use Rattle.draw_list.specs.declared.output.Output.TheVariants as output
use Rattle.list_json.specs.Keys.{output_word}
use Rattle.list_json.specs.Denotes.{OrDefault, IsArrayOf, IsDepthNumber, IsSampleCount, IsClearColour, IsOutput, IsDraw, IsListing, Denotes}
use Rattle.draw_list.specs.Picture.{picture_box}
use Rattle.shade.proofs.Drawn.{same_sample}
use Rattle.list_json.proofs.OneValue.{IsUnique, same_some, same_number, default-unique, array-unique, made_same_three}
use Rattle.list_json.proofs.OneDraw.{draw-unique}

same_count : (x y : SampleCount) → count_of x ≡ count_of y → x ≡ y
same_count One One e = refl
same_count One Two e = absurd (omega arith)
same_count One Four e = absurd (omega arith)
same_count One Eight e = absurd (omega arith)
same_count One Sixteen e = absurd (omega arith)
same_count Two One e = absurd (omega arith)
same_count Two Two e = refl
same_count Two Four e = absurd (omega arith)
same_count Two Eight e = absurd (omega arith)
same_count Two Sixteen e = absurd (omega arith)
same_count Four One e = absurd (omega arith)
same_count Four Two e = absurd (omega arith)
same_count Four Four e = refl
same_count Four Eight e = absurd (omega arith)
same_count Four Sixteen e = absurd (omega arith)
same_count Eight One e = absurd (omega arith)
same_count Eight Two e = absurd (omega arith)
same_count Eight Four e = absurd (omega arith)
same_count Eight Eight e = refl
same_count Eight Sixteen e = absurd (omega arith)
same_count Sixteen One e = absurd (omega arith)
same_count Sixteen Two e = absurd (omega arith)
same_count Sixteen Four e = absurd (omega arith)
same_count Sixteen Eight e = absurd (omega arith)
same_count Sixteen Sixteen e = refl

count-unique : IsUnique IsSampleCount
count-unique value x y h k = same_count x y (same_number (whole value) _ _ h.0 k.0)

depth-unique : IsUnique IsDepthNumber
depth-unique value x y h k = same_number (whole value) x y h.0 k.0

output_of : List ℕ → Output
output_of word = if bytes_eq word (codes "color") then output.Color else output.Depth

output_of_word : (o : Output) → o ≡ output_of (output_word o)
unfolding output_of
output_of_word output.Color = refl
output_of_word output.Depth = refl

output-unique : IsUnique IsOutput
output-unique value x y h k = output_of_word x ∙ ap output_of (same_some (text value) _ _ h k) ∙ sym (output_of_word y)

-- ---- the clear values

colour : Sample → List ℕ
colour s = s.r ∷ s.g ∷ s.b ∷ []

colour-unique : (value : Option Data) (x y : Sample) → OrDefault (0 ∷ 0 ∷ 0 ∷ []) IsClearColour value (colour x) → OrDefault (0 ∷ 0 ∷ 0 ∷ []) IsClearColour value (colour y) → colour x ≡ colour y
unfolding colour
colour-unique None x y h k = h ∙ sym k
colour-unique (Some value) x y h k =
    made_same_three _ _ _ _ _ _ (same_number _ _ _ h.red.0 k.red.0) (same_number _ _ _ h.green.0 k.green.0) (same_number _ _ _ h.blue.0 k.blue.0)

parts_of_colour : (r g b r' g' b' : ℕ) → r ∷ g ∷ b ∷ [] ≡ r' ∷ g' ∷ b' ∷ [] → (r ≡ r') × (g ≡ g') × (b ≡ b')
parts_of_colour r g b r' g' b' e = (cc, cc, cc)

clear-unique : (x y : Sample) → colour x ≡ colour y → x.z ≡ y.z → x ≡ y
unfolding colour
clear-unique x y e f =
    let parts = parts_of_colour x.r x.g x.b y.r y.g y.b e in
    same_sample x y parts.0 parts.1 parts.2 f

-- ---- the list

listing : ℕ → ℕ → SampleCount → Sample → Output → List DrawListing → Listing
listing width height count clear output draws = record { width = width; height = height; count = count; clear = clear; output = output; draws = draws }

made_same_listing : (w w' h h' : ℕ) (n n' : SampleCount) (c c' : Sample) (o o' : Output) (d d' : List DrawListing) → w ≡ w' → h ≡ h' → n ≡ n' → c ≡ c' → o ≡ o' → d ≡ d' → listing w h n c o d ≡ listing w' h' n' c' o' d'
made_same_listing w w' h h' n n' c c' o o' d d' e f g k m l = cc

same_listing : (x y : Listing) → x.width ≡ y.width → x.height ≡ y.height → x.count ≡ y.count → x.clear ≡ y.clear → x.output ≡ y.output → x.draws ≡ y.draws → x ≡ y
unfolding listing
same_listing x y e f g k m l = made_same_listing x.width y.width x.height y.height x.count y.count x.clear y.clear x.output y.output x.draws y.draws e f g k m l

made_same_box : (w h w' h' : ℕ) → w ≡ w' → h ≡ h' → picture_box w h ≡ picture_box w' h'
made_same_box w h w' h' e f = rw (e, f) refl

listing-unique : IsUnique IsListing
unfolding colour
listing-unique value x y h k =
    let width = same_number (whole (get (codes "width") value)) x.width y.width h.width.0 k.width.0 in
    let height = same_number (whole (get (codes "height") value)) x.height y.height h.height.0 k.height.0 in
    let picture = made_same_box x.width x.height y.width y.height width height in
    let draws = subst (λ p. IsArrayOf 1024 (IsDraw p) (get (codes "draws") value) y.draws) (sym picture) k.draws in
    same_listing x y width height (default-unique _ IsSampleCount count-unique _ _ _ h.samples k.samples)
    (clear-unique x.clear y.clear (colour-unique (get (codes "clear") value) x.clear y.clear h.clear k.clear) (default-unique _ IsDepthNumber depth-unique _ _ _ h.clear_depth k.clear_depth))
    (default-unique _ IsOutput output-unique _ _ _ h.output k.output)
    (array-unique 1024 (IsDraw (picture_box x.width x.height)) (draw-unique (picture_box x.width x.height)) (get (codes "draws") value) x.draws y.draws h.draws draws)

-- ---- the bytes

pub denotes-unique : (bytes : List ℕ) (a b : Scene) → Denotes bytes a → Denotes bytes b → a ≡ b
denotes-unique bytes a b h k =
    let value = same_some (json_of bytes) h.value k.value h.json k.json in
    let is = subst (λ v. IsListing v h.is.listing) value h.is.is in
    h.is.scene ∙ ap scene_of (listing-unique k.value h.is.listing k.is.listing is k.is.is) ∙ sym k.is.scene
