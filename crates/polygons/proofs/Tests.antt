-- Whether an edge is crossed, by the heights and the side.
use Rattle.std.proofs.Common.{◌≡◌, arith, true, false, ◌&&◌, ℤ, pos, ◌<ℤ◌, ◌≤ℤ◌}
use Rattle.std.proofs.lemmas.Int.{ints}
use Rattle.std.proofs.lemmas.Bool.{and_from, and_left, and_right}
use Rattle.std.specs.Int.RustNames.{int_le, int_lt}
use Rattle.grid.specs.Position.{Position}
use Rattle.grid.specs.Edge.{side}
use Rattle.polygons.specs.declared.edge.Edge.{Edge}
use Rattle.polygons.specs.Crossing.{is_crossed_down, is_crossed_up}

pub le_yes : (x y : ℤ) → x ≤ℤ y → int_le x y ≡ true
le_yes x y h = grind (arith, ints)

pub le_is : (x y : ℤ) → int_le x y ≡ true → x ≤ℤ y
le_is x y h = grind (arith, ints)

pub le_no : (x y : ℤ) → y <ℤ x → int_le x y ≡ false
le_no x y h = grind (arith, ints)

pub lt_yes : (x y : ℤ) → x <ℤ y → int_lt x y ≡ true
lt_yes x y h = grind (arith, ints)

pub lt_no : (x y : ℤ) → y ≤ℤ x → int_lt x y ≡ false
lt_no x y h = grind (arith, ints)

-- ---- downwards
pub down_yes : (e : Edge) (p : Position) → e.a.y ≤ℤ p.y → p.y <ℤ e.b.y → side e.a e.b p ≤ℤ pos 0 → is_crossed_down e p ≡ true
down_yes e p h k l =
    and_from (int_le e.a.y p.y && int_lt p.y e.b.y) _ (and_from (int_le e.a.y p.y) _ (le_yes _ _ h) (lt_yes _ _ k)) (le_yes _ _ l)

pub down_above : (e : Edge) (p : Position) → p.y <ℤ e.a.y → is_crossed_down e p ≡ false
down_above e p h =
    and_left (int_le e.a.y p.y && int_lt p.y e.b.y) _ (and_left (int_le e.a.y p.y) _ (le_no _ _ h))

pub down_below : (e : Edge) (p : Position) → e.b.y ≤ℤ p.y → is_crossed_down e p ≡ false
down_below e p h =
    and_left (int_le e.a.y p.y && int_lt p.y e.b.y) _ (and_right (int_le e.a.y p.y) _ (lt_no _ _ h))

pub down_left : (e : Edge) (p : Position) → pos 0 <ℤ side e.a e.b p → is_crossed_down e p ≡ false
down_left e p h = and_right (int_le e.a.y p.y && int_lt p.y e.b.y) _ (le_no _ _ h)

-- ---- upwards
pub up_yes : (e : Edge) (p : Position) → e.b.y ≤ℤ p.y → p.y <ℤ e.a.y → pos 0 ≤ℤ side e.a e.b p → is_crossed_up e p ≡ true
up_yes e p h k l =
    and_from (int_le e.b.y p.y && int_lt p.y e.a.y) _ (and_from (int_le e.b.y p.y) _ (le_yes _ _ h) (lt_yes _ _ k)) (le_yes _ _ l)

pub up_above : (e : Edge) (p : Position) → p.y <ℤ e.b.y → is_crossed_up e p ≡ false
up_above e p h =
    and_left (int_le e.b.y p.y && int_lt p.y e.a.y) _ (and_left (int_le e.b.y p.y) _ (le_no _ _ h))

pub up_below : (e : Edge) (p : Position) → e.a.y ≤ℤ p.y → is_crossed_up e p ≡ false
up_below e p h =
    and_left (int_le e.b.y p.y && int_lt p.y e.a.y) _ (and_right (int_le e.b.y p.y) _ (lt_no _ _ h))

pub up_left : (e : Edge) (p : Position) → side e.a e.b p <ℤ pos 0 → is_crossed_up e p ≡ false
up_left e p h = and_right (int_le e.b.y p.y && int_lt p.y e.a.y) _ (le_no _ _ h)
