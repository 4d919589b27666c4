-- Sums over the samples of eight pixels.
use Rattle.std.specs.Prelude.{◌≡◌, ℕ, ◌*◌, ◌<◌, ◌≤◌, List, length, slice_index}
use Rattle.shade.specs.Resolve.{total}

-- Lane i is the sum of what f is of n samples at pixel i.
pub record AreSums (lanes : List ℕ) (n : ℕ) (f : ℕ → ℕ → ℕ) : Type 0 where
  pub whole : length lanes ≡ 8
  pub each : (i : ℕ) → i < 8 → slice_index lanes i ≡ total n (λ s. f s i)
  pub most : (i : ℕ) → i < 8 → slice_index lanes i ≤ 255 * n
