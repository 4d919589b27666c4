use Rattle.std.proofs.Common.{refl, arith, rules}
use Rattle.std.proofs.lemmas.Int.{ints}
use Rattle.polygons.proofs.Outside.{sample_y, sample_below, sample_x, sample_right}
use Rattle.polygons.proofs.apart.is_beside.Goals as goal

pub returns-then-is_above : goal.returns-then-is_above
returns-then-is_above c t s row k h l inside =
    let a = (c.if-is_above.ensures.0 refl).0 in
    let b = sample_below c.args.strip.now s row k c.args.extent.now.bottom (search rules) in
    let i = inside.bottom in
    omega (arith, ints)

pub returns-then-is_below : goal.returns-then-is_below
returns-then-is_below c t s row k h l inside =
    let a = (c.if-is_below.ensures.0 refl).0 in
    let b = sample_y c.args.strip.now s row k c.args.extent.now.top h (search rules) in
    let i = inside.top in
    omega (arith, ints)

pub returns-then-is_left : goal.returns-then-is_left
returns-then-is_left c t s row k h l inside =
    let a = c.if-is_left.ensures.0 refl in
    let b = sample_right c.args.strip.now s row k c.args.extent.now.right (search rules) in
    let i = inside.right in
    omega (arith, ints)

pub returns : goal.returns
returns c t s row k h l inside =
    let a = c.is_right.ensures.0 t k l in
    let b = sample_x c.args.strip.now s row k c.args.extent.now.left (search rules) in
    let i = inside.left in
    omega (arith, ints)
