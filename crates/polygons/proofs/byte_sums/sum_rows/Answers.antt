use Rattle.std.proofs.Common.{◌≡◌, refl, arith, ℕ, ◌+◌, ◌*◌, ◌%◌, ◌<◌, List, length, slice_index, get_or, Fits, w8}
use Rattle.std.specs.Simd.Lanes.{zip2, Each1}
use Rattle.std.proofs.lemmas.Simd.{Each1-get_or}
use Rattle.polygons.proofs.MaskLanes.{AreLanes, itself}
use Rattle.polygons.proofs.ByteSums.{sum8, added, of_bytes, window_one, window_doubled, window_whole}
use Rattle.polygons.proofs.byte_sums.sum_rows.Goals as goal

-- lanes, each added to another one
step : (v w : List ℕ) → length v ≡ 64 → length w ≡ 64 → AreLanes 64 (zip2 sum8 v w) (λ p. (get_or v p 0 + get_or w p 0) % 256)
step v w p q = added v w _ _ (itself 64 v p) (itself 64 w q)

pub moved-requires-2-clause-whole : goal.moved-requires-2-clause-whole
moved-requires-2-clause-whole c = (step c.args.numbers c.moved.result c.requires c.moved.ensures.whole).long

pub moved-requires-3-clause-whole : goal.moved-requires-3-clause-whole
moved-requires-3-clause-whole c =
    let two = step c.args.numbers c.moved.result c.requires c.moved.ensures.whole in
    (step _ c.moved-2.result two.long c.moved-2.ensures.whole).long

small : (v : List ℕ) → length v ≡ 64 → Each1 (Fits w8) v → (p : ℕ) → p < 64 → slice_index v p < 256
small v long fits p l = (Each1-get_or (Fits w8) v p 0 (omega (arith, long, l)) fits).fits

pub returns-clause-whole : goal.returns-clause-whole
returns-clause-whole c =
    let two = step c.args.numbers c.moved.result c.requires c.moved.ensures.whole in
    let four = step _ c.moved-2.result two.long c.moved-2.ensures.whole in
    (step _ c.moved-3.result four.long c.moved-3.ensures.whole).long

pub returns-clause-each : goal.returns-clause-each
returns-clause-each c r j h l =
    let v = c.args.numbers in
    let f = slice_index v in
    let two = step v c.moved.result c.requires c.moved.ensures.whole in
    let four = step _ c.moved-2.result two.long c.moved-2.ensures.whole in
    let eight = step _ c.moved-3.result four.long c.moved-3.ensures.whole in
    let inside : (k : ℕ) → k < 8 → 8 * r + k < 64 = (λ k m. omega arith) in
    let first = window_one 256 of_bytes f (8 * r) (λ k. f (8 * r + k)) (λ k m. refl) (λ k m. small v c.requires c.fits-numbers.1 (8 * r + k) (inside k m)) in
    let second = window_doubled 256 of_bytes f (8 * r) 1 2 _ _ _ refl (λ k m. c.moved.ensures.each r k h m) (λ k m. two.each (8 * r + k) (inside k m)) first in
    let third = window_doubled 256 of_bytes f (8 * r) 2 4 _ _ _ refl (λ k m. c.moved-2.ensures.each r k h m) (λ k m. four.each (8 * r + k) (inside k m)) second in
    window_whole 256 of_bytes f (8 * r) _ (window_doubled 256 of_bytes f (8 * r) 4 8 _ _ _ refl (λ k m. c.moved-3.ensures.each r k h m) (λ k m. eight.each (8 * r + k) (inside k m)) third) j l
