-- Where samples lie in their pixels, and their parts.
use Rattle.std.proofs.Common.{arith, ℕ, zero, suc, ◌+◌, ◌*◌, ◌/◌, ◌%◌, ◌<◌, ◌≤◌, lit<, List, [], ◌∷◌, slice_index}
use Rattle.grid.specs.Samples.{count_of, offsets_x, offsets_y, part_size, parts_of}
use Rattle.grid.specs.declared.sample_count.SampleCount.{SampleCount}
use Rattle.grid.specs.declared.sample_count.SampleCount.TheVariants.{One, Two, Four, Eight, Sixteen}

-- ---- the offsets, coordinate by coordinate
abbrev AreSmall : List ℕ → Type 0
AreSmall [] = Unit {0}
AreSmall (x ∷ xs) = (x < 256) × AreSmall xs

of_each : (xs : List ℕ) → AreSmall xs → (s : ℕ) → slice_index xs s < 256
of_each [] h s = omega arith
of_each (x ∷ xs) h zero = h.0
of_each (x ∷ xs) h (suc s) = of_each xs h.1 s

all_x : (count : SampleCount) → AreSmall (offsets_x count)
all_x One = (lit< tt, tt)
all_x Two = (lit< tt, (lit< tt, tt))
all_x Four = (lit< tt, (lit< tt, (lit< tt, (lit< tt, tt))))
all_x Eight = (lit< tt, (lit< tt, (lit< tt, (lit< tt, (lit< tt, (lit< tt, (lit< tt, (lit< tt, tt))))))))
all_x Sixteen = (lit< tt, (lit< tt, (lit< tt, (lit< tt, (lit< tt, (lit< tt, (lit< tt, (lit< tt, (lit< tt, (lit< tt, (lit< tt, (lit< tt, (lit< tt, (lit< tt, (lit< tt, (lit< tt, tt))))))))))))))))

pub offset_x : (count : SampleCount) (s : ℕ) → slice_index (offsets_x count) s < 256
offset_x count s = of_each (offsets_x count) (all_x count) s

all_y : (count : SampleCount) → AreSmall (offsets_y count)
all_y One = (lit< tt, tt)
all_y Two = (lit< tt, (lit< tt, tt))
all_y Four = (lit< tt, (lit< tt, (lit< tt, (lit< tt, tt))))
all_y Eight = (lit< tt, (lit< tt, (lit< tt, (lit< tt, (lit< tt, (lit< tt, (lit< tt, (lit< tt, tt))))))))
all_y Sixteen = (lit< tt, (lit< tt, (lit< tt, (lit< tt, (lit< tt, (lit< tt, (lit< tt, (lit< tt, (lit< tt, (lit< tt, (lit< tt, (lit< tt, (lit< tt, (lit< tt, (lit< tt, (lit< tt, tt))))))))))))))))

pub offset_y : (count : SampleCount) (s : ℕ) → slice_index (offsets_y count) s < 256
offset_y count s = of_each (offsets_y count) (all_y count) s

-- ---- the parts of a pixel's samples
pub few_samples : (count : SampleCount) → count_of count ≤ 16
few_samples One = omega arith
few_samples Two = omega arith
few_samples Four = omega arith
few_samples Eight = omega arith
few_samples Sixteen = omega arith

pub few_parts : (count : SampleCount) (part s : ℕ) → part < parts_of count → s < 4 → 4 * part + s < 16
few_parts One part s h l = omega arith
few_parts Two part s h l = omega arith
few_parts Four part s h l = omega arith
few_parts Eight part s h l = omega arith
few_parts Sixteen part s h l = omega arith

-- a part that there is has all of its samples
pub in_part : (count : SampleCount) (part s : ℕ) → part < parts_of count → s < part_size count → 4 * part + s < count_of count
in_part One part s h l = omega arith
in_part Two part s h l = omega arith
in_part Four part s h l = omega arith
in_part Eight part s h l = omega arith
in_part Sixteen part s h l = omega arith

-- the part of a sample, and its index there
pub part_of_sample : (count : SampleCount) (s : ℕ) → s < count_of count → (s / 4 < parts_of count) × (s % 4 < part_size count)
part_of_sample One s h = (omega arith, omega arith)
part_of_sample Two s h = (omega arith, omega arith)
part_of_sample Four s h = (omega arith, omega arith)
part_of_sample Eight s h = (omega arith, omega arith)
part_of_sample Sixteen s h = (omega arith, omega arith)
