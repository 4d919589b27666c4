use Rattle.std.proofs.Common.{refl, ap, ◌∙◌, arith, ℕ, ◌+◌, ◌*◌, ◌%◌, ◌^◌, ◌≤◌, List, ◌++◌, length, slice_index, get_or, map}
use Rattle.std.specs.List.{range_with_len}
use Rattle.std.proofs.lemmas.List.{get_or_append_left}
use Rattle.std.proofs.lemmas.List.FromFn.{get_or-map-range_with_len}
use Rattle.polygons.proofs.ByteSums.{put, part_set, part_apart}
use Rattle.polygons.proofs.byte_sums.set_sums.Goals as goal

abbrev last : List ℕ → List ℕ
last lanes = map (λ (r : ℕ). (get_or (lanes ++ lanes) (8 * r + 7) 0 + 4294967168) % 2 ^ 32) (range_with_len 0 8)

pub returns-clause-next : goal.returns-clause-next
returns-clause-next c r l =
    let lanes = c.args.lanes in
    let a = 8 * c.args.word in
    let xs = c.args.sums.now in
    let inside : a + 8 ≤ length xs = omega (arith, c.requires.word, c.told-sums) in
    ap (λ v. slice_index v (a + r)) (put a 8 xs (last lanes) inside refl) ∙ part_set a 8 xs (last lanes) (omega (arith, inside)) refl r l
    ∙ get_or-map-range_with_len (λ (k : ℕ). (get_or (lanes ++ lanes) (8 * k + 7) 0 + 4294967168) % 2 ^ 32) 0 8 r r 0 l (omega arith)
    ∙ ap (λ n. (n + 4294967168) % 2 ^ 32) (get_or_append_left lanes lanes 0 (8 * r + 7) (omega (arith, l, c.requires.lanes)))

pub returns-clause-other_sums : goal.returns-clause-other_sums
returns-clause-other_sums c q n =
    let lanes = c.args.lanes in
    let a = 8 * c.args.word in
    let xs = c.args.sums.now in
    let inside : a + 8 ≤ length xs = omega (arith, c.requires.word, c.told-sums) in
    ap (λ v. slice_index v q) (put a 8 xs (last lanes) inside refl) ∙ part_apart a 8 xs (last lanes) (omega (arith, inside)) refl q (λ l m. n (omega arith))
