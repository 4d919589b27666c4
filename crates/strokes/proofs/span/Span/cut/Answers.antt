use Rattle.std.proofs.Common.{◌≡◌, ◌↔◌, refl, arith, ℤ, pos, ◌-ℤ◌, ◌*ℤ◌, neg_ℤ, ◌≤ℤ◌, ◌<ℤ◌, w32, w64, to_z, of_z}
use Rattle.std.proofs.lemmas.Int.{ints}
use Rattle.grid.specs.Position.{Position}
use Rattle.strokes.specs.Lines.{edge_function}
use Rattle.strokes.proofs.Lines.{rightmost, leftmost, level}
use Rattle.strokes.proofs.Rows.{none_in}
use Rattle.strokes.proofs.span.Span.cut.Goals as goal

pub returns-then-by-gt0 : goal.returns-then-by-gt0
returns-then-by-gt0 c k =
    let line = c.args.line.now in
    let p : Position = record { x = c.args.x; y = c.args.y } in
    let px : to_z w32 (of_z w32 c.args.x) ≡ c.args.x = omega (arith, ints, c.requires.x.low, c.requires.x.high) in
    let py : to_z w32 (of_z w32 c.args.y) ≡ c.args.y = omega (arith, ints, c.requires.y.low, c.requires.y.high) in
    let right = line.right in
    let by : to_z w64 (of_z w64 c.from-by.result) ≡ line.x = omega (arith, ints, c.from-by.ensures, right.low, right.high) in
    let rest : to_z w64 (of_z w64 c.rest-rest.result) ≡ c.rest-rest.result = omega (arith, ints, c.rest-rest.ensures.size.low, c.rest-rest.ensures.size.high) in
    let is : c.rest-rest.result ≡ line.bound -ℤ edge_function line p = rw (px, py) at c.rest-rest.ensures.value in
    let last : to_z w64 (of_z w64 c.last_column.result) ≡ c.last_column.result = omega (arith, ints, c.last_column.ensures.size.low, c.last_column.ensures.size.high) in
    let columns : (j : ℤ) → ((pos 256 *ℤ (line.x *ℤ j)) ≤ℤ c.rest-rest.result) ↔ (j ≤ℤ c.last_column.result) = λ j. rw (by, rest) at (c.last_column.ensures.columns j) in
    let side = rightmost line p c.rest-rest.result line.x c.last_column.result is refl columns k in
    let cut = rw last at (c.up_to.ensures k) in
    (λ h. let q = cut.0 h in (q.0, side.1 (q.1)), λ h. cut.1 (h.0, side.0 (h.1)))

pub returns-then-by-lt0 : goal.returns-then-by-lt0
returns-then-by-lt0 c k =
    let line = c.args.line.now in
    let p : Position = record { x = c.args.x; y = c.args.y } in
    let px : to_z w32 (of_z w32 c.args.x) ≡ c.args.x = omega (arith, ints, c.requires.x.low, c.requires.x.high) in
    let py : to_z w32 (of_z w32 c.args.y) ≡ c.args.y = omega (arith, ints, c.requires.y.low, c.requires.y.high) in
    let right = line.right in
    let by : to_z w64 (of_z w64 c.from-by.result) ≡ line.x = omega (arith, ints, c.from-by.ensures, right.low, right.high) in
    let rest : to_z w64 (of_z w64 c.rest-rest.result) ≡ c.rest-rest.result = omega (arith, ints, c.rest-rest.ensures.size.low, c.rest-rest.ensures.size.high) in
    let is : c.rest-rest.result ≡ line.bound -ℤ edge_function line p = rw (px, py) at c.rest-rest.ensures.value in
    let back : to_z w64 (of_z w64 c.opposite.result) ≡ neg_ℤ line.x = omega (arith, ints, c.opposite.ensures, by, right.low, right.high) in
    let x : line.x ≡ neg_ℤ (neg_ℤ line.x) = omega (arith, ints) in
    let columns : (j : ℤ) → ((pos 256 *ℤ (neg_ℤ line.x *ℤ j)) ≤ℤ c.rest-rest.result) ↔ (j ≤ℤ c.last_column-then-by-lt0.result) = λ j. rw (back, rest) at (c.last_column-then-by-lt0.ensures.columns j) in
    let last : to_z w64 (of_z w64 c.opposite-then-by-lt0.result) ≡ neg_ℤ c.last_column-then-by-lt0.result = omega (arith, ints, c.opposite-then-by-lt0.ensures, c.last_column-then-by-lt0.ensures.size.low, c.last_column-then-by-lt0.ensures.size.high) in
    let side = leftmost line p c.rest-rest.result (neg_ℤ line.x) c.last_column-then-by-lt0.result is x columns k in
    let cut = rw last at (c.since.ensures k) in
    (λ h. let q = cut.0 h in (q.0, side.1 (q.1)), λ h. cut.1 (h.0, side.0 (h.1)))

pub returns-then-rest-lt0 : goal.returns-then-rest-lt0
returns-then-rest-lt0 c k =
    let line = c.args.line.now in
    let p : Position = record { x = c.args.x; y = c.args.y } in
    let px : to_z w32 (of_z w32 c.args.x) ≡ c.args.x = omega (arith, ints, c.requires.x.low, c.requires.x.high) in
    let py : to_z w32 (of_z w32 c.args.y) ≡ c.args.y = omega (arith, ints, c.requires.y.low, c.requires.y.high) in
    let right = line.right in
    let by : to_z w64 (of_z w64 c.from-by.result) ≡ line.x = omega (arith, ints, c.from-by.ensures, right.low, right.high) in
    let rest : to_z w64 (of_z w64 c.rest-rest.result) ≡ c.rest-rest.result = omega (arith, ints, c.rest-rest.ensures.size.low, c.rest-rest.ensures.size.high) in
    let is : c.rest-rest.result ≡ line.bound -ℤ edge_function line p = rw (px, py) at c.rest-rest.ensures.value in
    let x : line.x ≡ pos 0 = omega (arith, ints, by, c.if-by-gt0.false, c.if-by-lt0.false) in
    let side = level line p c.rest-rest.result is x k in
    let less : c.rest-rest.result <ℤ pos 0 = omega (arith, ints, rest, c.if-rest-lt0.true) in
    (λ h. absurd (none_in k h), λ h. absurd (let l = side.0 (h.1) in omega (arith, ints, l, less)))

pub returns-else-rest-lt0 : goal.returns-else-rest-lt0
returns-else-rest-lt0 c k =
    let line = c.args.line.now in
    let p : Position = record { x = c.args.x; y = c.args.y } in
    let px : to_z w32 (of_z w32 c.args.x) ≡ c.args.x = omega (arith, ints, c.requires.x.low, c.requires.x.high) in
    let py : to_z w32 (of_z w32 c.args.y) ≡ c.args.y = omega (arith, ints, c.requires.y.low, c.requires.y.high) in
    let right = line.right in
    let by : to_z w64 (of_z w64 c.from-by.result) ≡ line.x = omega (arith, ints, c.from-by.ensures, right.low, right.high) in
    let rest : to_z w64 (of_z w64 c.rest-rest.result) ≡ c.rest-rest.result = omega (arith, ints, c.rest-rest.ensures.size.low, c.rest-rest.ensures.size.high) in
    let is : c.rest-rest.result ≡ line.bound -ℤ edge_function line p = rw (px, py) at c.rest-rest.ensures.value in
    let x : line.x ≡ pos 0 = omega (arith, ints, by, c.if-by-gt0.false, c.if-by-lt0.false) in
    let side = level line p c.rest-rest.result is x k in
    let more : pos 0 ≤ℤ c.rest-rest.result = omega (arith, ints, rest, c.if-rest-lt0.false) in
    (λ h. (h, side.1 more), λ h. h.0)
