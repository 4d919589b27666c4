use Rattle.std.proofs.Common.{◌≡◌, ◌∙◌, ap, ℕ, ◌+◌, ◌-◌, ◌/◌, slice_index, arith}
use Rattle.std.specs.Int.{bit_at}
use Rattle.std.proofs.lemmas.Nat.Bits.{bit_at-zero}
use Rattle.grid.specs.Samples.{count_of}
use Rattle.lanes.specs.Block.{stored_at}
use Rattle.blocks.specs.declared.way.Way.TheVariants.{Own}
use Rattle.blocks.specs.Layout.{masks_from, first_further, further_plane, place_by, flat_place, mask_of, in_list}
use Rattle.blocks.proofs.Palettes.{stored_palette}
use Rattle.blocks.proofs.palette.Palette.stored.Goals as goal
use Rattle.blocks.proofs.palette.Palette.stored.Goals.{then-has_bits, else-has_bits}

pub returns : goal.returns
returns c s p h l =
    let count = c.args.count in
    let k : ℕ = c.args.k in
    let f = in_list c.args.samples.now in
    let many = c.count-many.ensures in
    let low : ℕ = slice_index c.masks_of-low.result s in
    let high : ℕ = slice_index c.further_masks_of-high.result s in
    let place : c.place_by.result ≡ place_by count Own k (count_of count - 1) = c.place_by.ensures.value ∙ ap (λ n. place_by count Own k (n - 1)) many in
    let more : c.place_by-more.result ≡ place_by count Own k (further_plane count) = c.place_by-more.ensures.value ∙ ap (place_by count Own k) c.further_plane.ensures.value in
    let last : c.place_by-last.result ≡ flat_place count k (count_of count / 2 + count_of count / 4) = c.place_by-last.ensures.value ∙ ap (λ n. flat_place count k (n / 2 + n / 4)) many in
    let fourth : bit_at low p ≡ 1 → bit_at high p ≡ 1 → c.if-has_bits.fourth ≡ stored_at (f (flat_place count k (count_of count / 2 + count_of count / 4))) k =
    λ in_low in_high.
    elim c.if-has_bits.branch [
      | then-has_bits w ↦ w.fourth-is ∙ w.sample-fourth.ensures ∙ ap (λ n. stored_at (f n) k) last
      | else-has_bits w ↦
          absurd
          (let none = c.has_bits.ensures.0 w.if-has_bits.false s h in
          let both = (c.shared.ensures s p h l).1 (in_low, in_high) in
          let zero = ap (λ m. bit_at m p) none ∙ bit_at-zero p in
          omega (arith, both, zero))
    ] in
    stored_palette count f k s p low high c.sample-first.result c.sample-second.result c.sample-third.result c.if-has_bits.fourth (c.masks_of-low.ensures s h ∙ ap (λ n. mask_of (f n) s) place)
    (c.further_masks_of-high.ensures s h ∙ ap (λ n. mask_of (masks_from (first_further count) (f n)) s) more) (c.sample-first.ensures ∙ ap (λ n. stored_at (f n) k) c.place_by-2.ensures.value)
    (c.sample-second.ensures ∙ ap (λ n. stored_at (f n) k) (c.place_by-3.ensures.value ∙ ap (λ n. flat_place count k (n / 2)) many))
    (c.sample-third.ensures ∙ ap (λ n. stored_at (f n) k) (c.place_by-4.ensures.value ∙ ap (λ n. flat_place count k (n / 4)) many)) fourth
