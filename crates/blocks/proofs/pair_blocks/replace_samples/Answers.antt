use Rattle.std.proofs.Common.{rules, refl, ◌≡◌, ◌∙◌, ap, sym, ℕ, ◌-◌, ◌/◌, slice_index, slice_set, arith}
use Rattle.std.specs.Int.{bit_at}
use Rattle.grid.specs.Samples.{count_of}
use Rattle.lanes.specs.Block.{stored_at}
use Rattle.blocks.specs.declared.way.Way.TheVariants.{Pair, Single}
use Rattle.blocks.specs.Layout.{pixel_in_block, in_list, place_by, mask_of, masks_in, chosen, way_in_tile, stored_in_tile}
use Rattle.blocks.proofs.Places.{middle_sample}
use Rattle.shade.proofs.Resolved.{some_samples}
use Rattle.blocks.proofs.Pairs.{in_replaced, all_replaced, same_replaced, pair_sample, put_others, put_other, put_is, put_ways}
use Rattle.blocks.proofs.TilePlanes.{by_way}
use Rattle.blocks.proofs.pair_blocks.replace_samples.Goals as goal

pub returns-then-ne-clause-others : goal.returns-then-ne-clause-others
returns-then-ne-clause-others c i j s h other =
    let count = c.args.count in
    c.make_pair.ensures.others i j s h other
    ∙ put_others count c.args.k (count_of count / 2) c.second_place.result c.args.plane.now c.single_block.new.samples c.second_place.ensures.value (middle_sample count) i j s h other
    ∙ c.single_block.ensures.kept i j s h

-- of the planes of a pair that is stored, and the masks that were read of it
pub returns-then-are_in-clause-replaced : goal.returns-then-are_in-clause-replaced
returns-then-are_in-clause-replaced c is i j s h here =
    let count = c.args.count in
    let k = c.args.k in
    let old = c.args.samples.now in
    let plane = c.args.plane.now in
    let p : ℕ = pixel_in_block i j in
    let four = c.has_pairs.ensures.0 c.if-not-has_pairs.false in
    let pair : way_in_tile old k ≡ Pair = search rules in
    let b : ℕ = c.second_place-then-are_in.result in
    let mask : ℕ = slice_index c.args.masks.now s in
    let stored : slice_index c.masks_of-stored.result s ≡ mask_of (masks_in count (in_list old) k) s =
    c.masks_of-stored.ensures s h ∙ ap (λ q. mask_of (in_list old q) s) (c.place_by.ensures.value ∙ ap (λ n. place_by count Pair k (n - 1)) c.count.ensures) in
    let first = stored_at (in_list old (place_by count Pair k 0)) p in
    let second = stored_at (in_list old (place_by count Pair k (count_of count / 2))) p in
    c.make_pair-then-are_in.ensures.made i j s h here
    ∙ ap (λ q. chosen mask p (stored_at q p) (stored_at (in_list (slice_set old b plane) (place_by count Pair k 0)) p)) (put_is count k (count_of count / 2) b plane old c.second_place-then-are_in.ensures.value (middle_sample count) c.requires.block c.requires.samples)
    ∙ ap (λ q. chosen mask p (stored_at plane p) (stored_at q p)) (put_other count k (count_of count / 2) b plane old c.second_place-then-are_in.ensures.value (middle_sample count) 0 (λ e. omega (arith, e, four)))
    ∙ in_replaced mask (mask_of (masks_in count (in_list old) k) s) p (stored_at plane p) first second (λ set. c.are_in.ensures.0 c.if-are_in.true s p h (omega arith) (ap (λ m. bit_at m p) stored ∙ set))
    ∙ ap (chosen mask p (stored_at plane p)) (sym (pair_sample count old k i j s pair here))

pub returns-then-are_in-clause-others : goal.returns-then-are_in-clause-others
returns-then-are_in-clause-others c i j s h other =
    let count = c.args.count in
    c.make_pair-then-are_in.ensures.others i j s h other
    ∙ put_others count c.args.k (count_of count / 2) c.second_place-then-are_in.result c.args.plane.now c.args.samples.now c.second_place-then-are_in.ensures.value (middle_sample count) i j s h other

pub returns-then-are_all-clause-replaced : goal.returns-then-are_all-clause-replaced
returns-then-are_all-clause-replaced c is i j s h here =
    let count = c.args.count in
    let k = c.args.k in
    let old = c.args.samples.now in
    let plane = c.args.plane.now in
    let p : ℕ = pixel_in_block i j in
    let four = c.has_pairs.ensures.0 c.if-not-has_pairs.false in
    let pair : way_in_tile old k ≡ Pair = search rules in
    let a : ℕ = c.place_by-then-are_all.result in
    let mask : ℕ = slice_index c.args.masks.now s in
    let rest : ℕ = slice_index c.without-rest.result s in
    let stored : slice_index c.masks_of-stored.result s ≡ mask_of (masks_in count (in_list old) k) s =
    c.masks_of-stored.ensures s h ∙ ap (λ q. mask_of (in_list old q) s) (c.place_by.ensures.value ∙ ap (λ n. place_by count Pair k (n - 1)) c.count.ensures) in
    let first = stored_at (in_list old (place_by count Pair k 0)) p in
    let second = stored_at (in_list old (place_by count Pair k (count_of count / 2))) p in
    c.make_pair-then-are_all.ensures.made i j s h here
    ∙ ap (λ q. chosen rest p (stored_at q p) (stored_at (in_list (slice_set old a plane) (place_by count Pair k 0)) p)) (put_other count k 0 a plane old c.place_by-then-are_all.ensures.value (some_samples count) (count_of count / 2) (λ e. omega (arith, e, four)))
    ∙ ap (λ q. chosen rest p second (stored_at q p)) (put_is count k 0 a plane old c.place_by-then-are_all.ensures.value (some_samples count) c.requires.block c.requires.samples)
    ∙ all_replaced mask (mask_of (masks_in count (in_list old) k) s) rest p (stored_at plane p) first second
    (λ clear. ap (λ m. bit_at m p) (sym stored) ∙ c.are_all.ensures.0 c.if-are_all.true s p h (omega arith) clear) (λ set. c.without-rest.ensures.less s p h (omega arith) set)
    (λ clear. c.without-rest.ensures.rest s p h (omega arith) clear ∙ ap (λ m. bit_at m p) stored)
    ∙ ap (chosen mask p (stored_at plane p)) (sym (pair_sample count old k i j s pair here))

pub returns-then-are_all-clause-others : goal.returns-then-are_all-clause-others
returns-then-are_all-clause-others c i j s h other =
    let count = c.args.count in
    c.make_pair-then-are_all.ensures.others i j s h other
    ∙ put_others count c.args.k 0 c.place_by-then-are_all.result c.args.plane.now c.args.samples.now c.place_by-then-are_all.ensures.value (some_samples count) i j s h other

pub returns-then-are_same-clause-replaced : goal.returns-then-are_same-clause-replaced
returns-then-are_same-clause-replaced c is i j s h here =
    let count = c.args.count in
    let k = c.args.k in
    let old = c.args.samples.now in
    let plane = c.args.plane.now in
    let p : ℕ = pixel_in_block i j in
    let pair : way_in_tile old k ≡ Pair = search rules in
    let mask : ℕ = slice_index c.args.masks.now s in
    let stored : slice_index c.masks_of-stored.result s ≡ mask_of (masks_in count (in_list old) k) s =
    c.masks_of-stored.ensures s h ∙ ap (λ q. mask_of (in_list old q) s) (c.place_by.ensures.value ∙ ap (λ n. place_by count Pair k (n - 1)) c.count.ensures) in
    let first = stored_at (in_list old (place_by count Pair k 0)) p in
    let second = stored_at (in_list old (place_by count Pair k (count_of count / 2))) p in
    let same : second ≡ stored_at plane p = ap (λ q. stored_at (in_list old q) p) (sym c.second_place-2.ensures.value) ∙ ap (λ q. stored_at q p) (c.are_same.ensures.0 c.if-are_same.true) in
    c.make_pair-then-are_same.ensures.made i j s h here
    ∙ same_replaced mask (mask_of (masks_in count (in_list old) k) s) (slice_index c.united-union.result s) p first second (λ set. c.united-union.ensures.more s p h (omega arith) set)
    (λ clear. c.united-union.ensures.rest s p h (omega arith) clear ∙ ap (λ m. bit_at m p) stored)
    ∙ ap (λ x. chosen mask p x (chosen (mask_of (masks_in count (in_list old) k) s) p second first)) same
    ∙ ap (chosen mask p (stored_at plane p)) (sym (pair_sample count old k i j s pair here))

-- of a block that one plane stood for
pub returns-then-ne-clause-replaced : goal.returns-then-ne-clause-replaced
returns-then-ne-clause-replaced c is i j s h here =
    let count = c.args.count in
    let k = c.args.k in
    let single = c.single_block.new.samples in
    let plane = c.args.plane.now in
    let b : ℕ = c.second_place.result in
    let p : ℕ = pixel_in_block i j in
    let mask : ℕ = slice_index c.args.masks.now s in
    let four = c.has_pairs.ensures.0 c.if-not-has_pairs.false in
    let long = c.single_block.auto.samples ∙ c.requires.samples in
    let first : place_by count Pair k 0 ≡ place_by count Single k 0 = omega arith in
    let one : stored_in_tile count single i j s ≡ stored_at (in_list single (place_by count Single k 0)) p =
    by_way count single Single i j s refl (ap (way_in_tile single) here ∙ c.single_block.ensures.single c.if-not-single_block.false)
    ∙ ap (λ m. stored_at (in_list single (place_by count Single m 0)) p) here in
    c.make_pair.ensures.made i j s h here
    ∙ ap (λ q. chosen mask p (stored_at q p) (stored_at (in_list (slice_set single b plane) (place_by count Pair k 0)) p)) (put_is count k (count_of count / 2) b plane single c.second_place.ensures.value (middle_sample count) c.requires.block long)
    ∙ ap (λ q. chosen mask p (stored_at plane p) (stored_at q p)) (put_other count k (count_of count / 2) b plane single c.second_place.ensures.value (middle_sample count) 0 (λ e. omega (arith, e, four)))
    ∙ ap (chosen mask p (stored_at plane p)) (ap (λ q. stored_at (in_list single q) p) first ∙ sym one ∙ c.single_block.ensures.kept i j s h)

pub returns-then-ne-clause-ways : goal.returns-then-ne-clause-ways
returns-then-ne-clause-ways c m l other =
    let count = c.args.count in
    c.make_pair.ensures.ways m l other
    ∙ put_ways count c.args.k (count_of count / 2) c.second_place.result c.args.plane.now c.single_block.new.samples c.second_place.ensures.value (middle_sample count) m
    ∙ c.single_block.ensures.ways m l other

pub returns-then-are_all-clause-ways : goal.returns-then-are_all-clause-ways
returns-then-are_all-clause-ways c m l other =
    let count = c.args.count in
    c.make_pair-then-are_all.ensures.ways m l other
    ∙ put_ways count c.args.k 0 c.place_by-then-are_all.result c.args.plane.now c.args.samples.now c.place_by-then-are_all.ensures.value (some_samples count) m
