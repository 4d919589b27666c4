-- Values that are whole multiples of a part of the area.
use Rattle.std.specs.Prelude.{ℕ, ℤ, ◌≡◌, ◌<◌, ◌*◌, ◌^◌, ◌-ℤ◌, ◌*ℤ◌}
use Rattle.std.specs.Int.{◌∣◌}
use Rattle.gradients.specs.declared.slope.Slope.{Slope}
use Rattle.gradients.specs.Slope.{numerator}
use Rattle.gradients.specs.Multiple.{IsMultiple, IsSixteenth}

-- g divides the four numbers, and is over 0.
pub record IsCommonDivisor (area across down corner g : ℕ) : Type 0 where
  pub some : 0 < g
  pub of_area : g ∣ area
  pub of_across : g ∣ across
  pub of_down : g ∣ down
  pub of_corner : g ∣ corner

-- n is a growth times the distance of z from some multiple of a sixteenth of a pixel.
pub record IsPast (z growth n : ℤ) : Type 0 where
  pub by : ℤ
  pub sixteenth : IsSixteenth (z -ℤ by)
  pub is : n ≡ by *ℤ growth

-- The area, and the numerator wherever a sample may lie, are multiples of a unit.
-- Divided by the area, the unit is more than six times the last of k fractional bits of a value. So a value that is no whole number is
-- more than that below the next one.
pub record IsWholeSlope (k area : ℕ) (s : Slope) : Type 0 where
  pub unit : ℕ
  pub of_area : unit ∣ area
  pub of_numerator : (x y : ℤ) → IsSixteenth x → IsSixteenth y → IsMultiple unit (numerator s area x y)
  pub few : 6 * area < unit * 2 ^ k
