-- Colours that are multiplied by their alpha, and those of image files, which are not (Porter and Duff 1984; PNG, W3C, second edition).
use Rattle.std.specs.Prelude.{ℕ, ◌+◌, ◌*◌, ◌/◌, ◌==◌, min, if◌then◌else◌}

-- A channel c that was multiplied by alpha, divided by it: the nearest of 0 to 255, halves upwards. Where alpha is 0, it is 0.
abbrev pub straight_of : ℕ → ℕ → ℕ
straight_of c a = if a == 0 then 0 else min 255 ((255 * c + a / 2) / a)

-- A channel c multiplied by alpha, to the nearest.
abbrev pub multiplied_by : ℕ → ℕ → ℕ
multiplied_by c a = (c * a + 127) / 255
