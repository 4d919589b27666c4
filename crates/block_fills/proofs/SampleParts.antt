-- The parts of a pixel's samples, each of at most four.
use Rattle.std.proofs.Common.{arith, ℕ, ◌+◌, ◌*◌, ◌<◌, ◌≤◌}
use Rattle.grid.specs.Samples.{count_of, part_size, parts_of}
use Rattle.grid.specs.declared.sample_count.SampleCount.{SampleCount}
use Rattle.grid.specs.declared.sample_count.SampleCount.TheVariants.{One, Two, Four, Eight, Sixteen}

pub all_parts : (count : SampleCount) → count_of count ≤ 4 * parts_of count
all_parts One = omega arith
all_parts Two = omega arith
all_parts Four = omega arith
all_parts Eight = omega arith
all_parts Sixteen = omega arith

pub part_end : (count : SampleCount) (part s : ℕ) → s < count_of count → s < 4 * (part + 1) → s < 4 * part + part_size count
part_end One part s h l = omega (arith, h)
part_end Two part s h l = omega (arith, h)
part_end Four part s h l = omega (arith, l)
part_end Eight part s h l = omega (arith, l)
part_end Sixteen part s h l = omega (arith, l)

-- a part that there is has all of its samples
pub is_part : (count : SampleCount) (part : ℕ) → part < parts_of count → 4 * part + part_size count ≤ count_of count
is_part One part h = omega (arith, h)
is_part Two part h = omega (arith, h)
is_part Four part h = omega (arith, h)
is_part Eight part h = omega (arith, h)
is_part Sixteen part h = omega (arith, h)
