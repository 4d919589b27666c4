use Rattle.std.proofs.Common.{◌≡◌, ◌∙◌, ap, arith, ℕ, zero, suc, ◌+◌, ◌*◌, ◌^◌, ◌<◌, lit<, ℤ, pos, ◌+ℤ◌, ◌-ℤ◌, ◌*ℤ◌, w64, to_z, of_z, [], ◌∷◌, slice_index_or}
use Rattle.std.proofs.lemmas.Int.{ints}
use Rattle.std.specs.Int.{int_div_euclid, int_rem_euclid}
use Rattle.grid.specs.Bounds.{IsWithin}
use Rattle.grid.specs.Samples.{part_size}
use Rattle.polygons.specs.declared.strip.Strip.{Strip}
use Rattle.polygons.specs.declared.walk.Descent.{Descent}
use Rattle.polygons.specs.Blocks.{down}
use Rattle.polygons.specs.Columns.{IsAtColumn}
use Rattle.polygons.specs.Strip.{start_of}
use Rattle.polygons.specs.Walking.{if_below, corner_of, IsDescent}
use Rattle.polygons.proofs.Plotted.{part_small}
use Rattle.polygons.proofs.Samples.{few_parts, in_part, offset_y}
use Rattle.polygons.proofs.Walks.{below_size, started}
use Rattle.polygons.proofs.walk.PartWalk.new.Goals as goal

above_size : (strip : Strip) (d : Descent) → IsDescent strip d → IsWithin (2 ^ 34) d.above
above_size strip d k = let l = k.above_low in let h = k.above_high in let s = k.small.height in record { low = omega (arith, ints); high = omega (arith, ints) }

wider : (z : ℤ) → IsWithin (2 ^ 43) z → IsWithin (2 ^ 44) (to_z w64 (of_z w64 z))
wider z h = record { low = omega (arith, ints); high = omega (arith, ints) }

-- the number after one column more at the most
after_size : (strip : Strip) (d : Descent) (z n : ℤ) → IsDescent strip d → IsWithin (2 ^ 43) n → z ≡ to_z w64 (of_z w64 n) +ℤ if_below (to_z w64 (of_z w64 n)) (pos 256 *ℤ d.height) → IsWithin (2 ^ 44) (to_z w64 (of_z w64 z))
after_size strip d z n k h is =
    let s = k.small.height in
    let b = below_size (2 ^ 33) (to_z w64 (of_z w64 n)) (pos 256 *ℤ d.height) (record { low = omega (arith, ints); high = omega (arith, ints) }) in
    of_sum z (to_z w64 (of_z w64 n)) (if_below (to_z w64 (of_z w64 n)) (pos 256 *ℤ d.height)) is (record { low = omega (arith, ints); high = omega (arith, ints) }) b
  where
    of_sum : (z x y : ℤ) → z ≡ x +ℤ y → IsWithin (2 ^ 43) x → IsWithin (2 ^ 33) y → IsWithin (2 ^ 44) (to_z w64 (of_z w64 z))
    of_sum z x y e l m = record { low = omega (arith, ints); high = omega (arith, ints) }

same42 : (z : ℤ) → IsWithin (2 ^ 42) z → to_z w64 (of_z w64 z) ≡ z
same42 z h = omega (arith, ints)

same43 : (z : ℤ) → IsWithin (2 ^ 43) z → to_z w64 (of_z w64 z) ≡ z
same43 z h = omega (arith, ints)

same45 : (z : ℤ) → IsWithin (2 ^ 45) z → to_z w64 (of_z w64 z) ≡ z
same45 z h = omega (arith, ints)

same51 : (z : ℤ) → IsWithin (2 ^ 51) z → to_z w64 (of_z w64 z) ≡ z
same51 z h = omega (arith, ints)

room : (z : ℤ) (n : ℕ) → IsWithin (2 ^ 51) z → IsWithin (2 ^ 51 + 2 ^ 26 * n) (to_z w64 (of_z w64 z))
room z n h = record { low = omega (arith, ints); high = omega (arith, ints) }

-- the numbers of a sample that lies so far from the end of its pixel, as the code finds them one after another
record AreFound (d : Descent) (r b : ℕ) (t v a c f : ℤ) : Type 0 where
  behind : t ≡ (pos 256 -ℤ pos b) *ℤ d.columns -ℤ (pos 256 -ℤ pos r)
  behind_size : IsWithin (2 ^ 42) t
  before : v ≡ (d.above -ℤ d.height *ℤ int_rem_euclid (to_z w64 (of_z w64 t)) (pos 256)) -ℤ d.part *ℤ (pos 256 -ℤ pos b)
  before_size : IsWithin (2 ^ 43) v
  after : a ≡ to_z w64 (of_z w64 v) +ℤ if_below (to_z w64 (of_z w64 v)) (pos 256 *ℤ d.height)
  after_size : IsWithin (2 ^ 45) a
  column : c ≡ ((d.column +ℤ int_div_euclid (to_z w64 (of_z w64 t)) (pos 256)) +ℤ if_below (to_z w64 (of_z w64 v)) (pos 1)) +ℤ if_below (to_z w64 (of_z w64 a)) (pos 1)
  column_size : IsWithin (2 ^ 51) c
  rest : f ≡ int_div_euclid (to_z w64 (of_z w64 a) +ℤ if_below (to_z w64 (of_z w64 a)) (pos 256 *ℤ d.height)) (pos 256)
  rest_size : IsWithin (2 ^ 51) f

start : (strip : Strip) (d : Descent) (s r b : ℕ) (t v a c f : ℤ) → IsDescent strip d
    → (start_of strip s).x +ℤ pos r ≡ pos 256 *ℤ strip.column +ℤ pos 256 → (start_of strip s).y +ℤ pos b ≡ pos 256 *ℤ strip.row +ℤ pos 256
    → AreFound d r b t v a c f → IsAtColumn d.edge (down (start_of strip s) d.first) (to_z w64 (of_z w64 c)) (to_z w64 (of_z w64 f))
start strip d s r b t v a c f k across level n =
    let o = offset_y strip.count s in
    let t_is = same42 t n.behind_size ∙ n.behind in
    let v_is = same43 v n.before_size ∙ n.before ∙ ap (λ z. (d.above -ℤ d.height *ℤ int_rem_euclid z (pos 256)) -ℤ d.part *ℤ (pos 256 -ℤ pos b)) t_is in
    let a_is = same45 a n.after_size ∙ n.after ∙ ap (λ z. z +ℤ if_below z (pos 256 *ℤ d.height)) v_is in
    let c_is = same51 c n.column_size ∙ n.column ∙ (λ i. ((d.column +ℤ int_div_euclid (t_is i) (pos 256)) +ℤ if_below (v_is i) (pos 1)) +ℤ if_below (a_is i) (pos 1)) in
    let f_is = same51 f n.rest_size ∙ n.rest ∙ ap (λ z. int_div_euclid (z +ℤ if_below z (pos 256 *ℤ d.height)) (pos 256)) a_is in
    rw (c_is, f_is) (started d.edge (corner_of strip d.first) (down (start_of strip s) d.first) d.height d.columns d.part d.column d.above (pos 256 -ℤ pos r) (pos 256 -ℤ pos b)
    k.tall k.step k.place k.above_low k.above_high (omega (arith, ints)) (omega (arith, ints)) (omega (arith, ints, o)) (omega (arith, ints, o)))

zeroth : (n : ℕ) → 4 * n + 0 ≡ 4 * n
zeroth n = omega arith

pub before-before_1-requires-clause-below : goal.before-before_1-requires-clause-below
before-before_1-requires-clause-below c = c.args.starts.now.below_room (4 * c.args.part + 1) (few_parts c.args.starts.now.strip.count c.args.part 1 c.requires.part (lit< tt))

pub before-before_2-requires-clause-below : goal.before-before_2-requires-clause-below
before-before_2-requires-clause-below c = c.args.starts.now.below_room (4 * c.args.part + 2) (few_parts c.args.starts.now.strip.count c.args.part 2 c.requires.part (lit< tt))

pub before-before_3-requires-clause-below : goal.before-before_3-requires-clause-below
before-before_3-requires-clause-below c = c.args.starts.now.below_room (4 * c.args.part + 3) (few_parts c.args.starts.now.strip.count c.args.part 3 c.requires.part (lit< tt))

pub before-before_2-requires-clause-above : goal.before-before_2-requires-clause-above
before-before_2-requires-clause-above c = above_size _ _ c.requires.descent

pub after-after_0-requires-clause-number : goal.after-after_0-requires-clause-number
after-after_0-requires-clause-number c = wider _ c.before-before_0.ensures.size

pub after-after_1-requires-clause-number : goal.after-after_1-requires-clause-number
after-after_1-requires-clause-number c = wider _ c.before-before_1.ensures.size

pub after-after_2-requires-clause-number : goal.after-after_2-requires-clause-number
after-after_2-requires-clause-number c = wider _ c.before-before_2.ensures.size

pub after-after_3-requires-clause-number : goal.after-after_3-requires-clause-number
after-after_3-requires-clause-number c = wider _ c.before-before_3.ensures.size

pub rest-requires-clause-after : goal.rest-requires-clause-after
rest-requires-clause-after c = after_size _ _ _ _ c.requires.descent c.before-before_0.ensures.size c.after-after_0.ensures.value

pub rest-requires-2-clause-after : goal.rest-requires-2-clause-after
rest-requires-2-clause-after c = after_size _ _ _ _ c.requires.descent c.before-before_1.ensures.size c.after-after_1.ensures.value

pub rest-requires-3-clause-after : goal.rest-requires-3-clause-after
rest-requires-3-clause-after c = after_size _ _ _ _ c.requires.descent c.before-before_2.ensures.size c.after-after_2.ensures.value

pub rest-requires-4-clause-after : goal.rest-requires-4-clause-after
rest-requires-4-clause-after c = after_size _ _ _ _ c.requires.descent c.before-before_3.ensures.size c.after-after_3.ensures.value

pub returns : goal.returns
returns c = record { at = at; columns = columns; rests = rests }
  where
    strip : Strip
    strip = c.args.starts.now.strip

    columns : (s : ℕ) → s < 4 → IsWithin (2 ^ 51 + 2 ^ 26 * c.args.descent.now.first) (slice_index_or (to_z w64 (of_z w64 c.place.result) ∷ to_z w64 (of_z w64 c.place-2.result) ∷ to_z w64 (of_z w64 c.place-3.result) ∷ to_z w64 (of_z w64 c.place-4.result) ∷ []) s (pos 0))
    columns zero l = room _ _ c.place.ensures.size
    columns (suc zero) l = room _ _ c.place-2.ensures.size
    columns (suc (suc zero)) l = room _ _ c.place-3.ensures.size
    columns (suc (suc (suc zero))) l = room _ _ c.place-4.ensures.size
    columns (suc (suc (suc (suc s)))) l = absurd (omega arith)

    rests : (s : ℕ) → s < 4 → IsWithin (2 ^ 51 + 2 ^ 26 * c.args.descent.now.first) (slice_index_or (to_z w64 (of_z w64 c.rest.result) ∷ to_z w64 (of_z w64 c.rest-2.result) ∷ to_z w64 (of_z w64 c.rest-3.result) ∷ to_z w64 (of_z w64 c.rest-4.result) ∷ []) s (pos 0))
    rests zero l = room _ _ c.rest.ensures.size
    rests (suc zero) l = room _ _ c.rest-2.ensures.size
    rests (suc (suc zero)) l = room _ _ c.rest-3.ensures.size
    rests (suc (suc (suc zero))) l = room _ _ c.rest-4.ensures.size
    rests (suc (suc (suc (suc s)))) l = absurd (omega arith)

    start_at : (s : ℕ) (t v a x f : ℤ) → s < part_size strip.count → AreFound c.args.descent.now (slice_index_or c.args.starts.now.right (4 * c.args.part + s) 0) (slice_index_or c.args.starts.now.below (4 * c.args.part + s) 0) t v a x f
        → IsAtColumn c.args.descent.now.edge (down (start_of strip (4 * c.args.part + s)) c.args.descent.now.first) (to_z w64 (of_z w64 x)) (to_z w64 (of_z w64 f))
    start_at s t v a x f l n =
        let there = in_part strip.count c.args.part s c.requires.part l in
        start strip c.args.descent.now (4 * c.args.part + s) _ _ t v a x f c.requires.descent (c.args.starts.now.rightwards (4 * c.args.part + s) there) (c.args.starts.now.downwards (4 * c.args.part + s) there) n

    at : (s : ℕ) → s < part_size strip.count → IsAtColumn c.args.descent.now.edge (down (start_of strip (4 * c.args.part + s)) c.args.descent.now.first) (slice_index_or (to_z w64 (of_z w64 c.place.result) ∷ to_z w64 (of_z w64 c.place-2.result) ∷ to_z w64 (of_z w64 c.place-3.result) ∷ to_z w64 (of_z w64 c.place-4.result) ∷ []) s (pos 0)) (slice_index_or (to_z w64 (of_z w64 c.rest.result) ∷ to_z w64 (of_z w64 c.rest-2.result) ∷ to_z w64 (of_z w64 c.rest-3.result) ∷ to_z w64 (of_z w64 c.rest-4.result) ∷ []) s (pos 0))
    at zero l = start_at 0 _ _ _ _ _ l (record { behind = rw (zeroth c.args.part) c.behind-behind_0.ensures.value; behind_size = c.behind-behind_0.ensures.size; before = rw (zeroth c.args.part) c.before-before_0.ensures.value; before_size = c.before-before_0.ensures.size; after = c.after-after_0.ensures.value; after_size = c.after-after_0.ensures.size; column = c.place.ensures.value; column_size = c.place.ensures.size; rest = c.rest.ensures.value; rest_size = c.rest.ensures.size })
    at (suc zero) l = start_at 1 _ _ _ _ _ l (record { behind = c.behind-behind_1.ensures.value; behind_size = c.behind-behind_1.ensures.size; before = c.before-before_1.ensures.value; before_size = c.before-before_1.ensures.size; after = c.after-after_1.ensures.value; after_size = c.after-after_1.ensures.size; column = c.place-2.ensures.value; column_size = c.place-2.ensures.size; rest = c.rest-2.ensures.value; rest_size = c.rest-2.ensures.size })
    at (suc (suc zero)) l = start_at 2 _ _ _ _ _ l (record { behind = c.behind-behind_2.ensures.value; behind_size = c.behind-behind_2.ensures.size; before = c.before-before_2.ensures.value; before_size = c.before-before_2.ensures.size; after = c.after-after_2.ensures.value; after_size = c.after-after_2.ensures.size; column = c.place-3.ensures.value; column_size = c.place-3.ensures.size; rest = c.rest-3.ensures.value; rest_size = c.rest-3.ensures.size })
    at (suc (suc (suc zero))) l = start_at 3 _ _ _ _ _ l (record { behind = c.behind-behind_3.ensures.value; behind_size = c.behind-behind_3.ensures.size; before = c.before-before_3.ensures.value; before_size = c.before-before_3.ensures.size; after = c.after-after_3.ensures.value; after_size = c.after-after_3.ensures.size; column = c.place-4.ensures.value; column_size = c.place-4.ensures.size; rest = c.rest-4.ensures.value; rest_size = c.rest-4.ensures.size })
    at (suc (suc (suc (suc s)))) l = absurd (let m = part_small strip.count in omega arith)
