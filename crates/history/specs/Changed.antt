-- Which triangles change a sample, and which of them it shows in the end.
use Rattle.std.specs.Prelude.{◌≢◌, ◌↔◌, ℕ, ◌+◌, ◌<◌, List, take, IsTrue}
use Rattle.grid.specs.declared.sample_count.SampleCount.{SampleCount}
use Rattle.shade.specs.declared.sample.Sample.{Sample}
use Rattle.shade.specs.declared.placed.Placed.{Placed}
use Rattle.shade.specs.Ending.{Ends}
use Rattle.history.specs.declared.followed.Followed.{Followed}

-- Triangle n changes sample s of pixel (i, j): what the sample stores after triangle n is not what it stored before it.
pub record IsChangedBy (ts : List Placed) (n : ℕ) (count : SampleCount) (i j s : ℕ) (start : Sample) : Type 0 where
  pub before : Sample
  pub after : Sample
  pub old : Ends (take n ts) count i j s start before
  pub new : Ends (take (n + 1) ts) count i j s start after
  pub differs : after ≢ before

-- Sample s of pixel (i, j) still shows triangle n after all triangles: triangle n is the last that changes the sample.
pub record Shows (ts : List Placed) (n : ℕ) (count : SampleCount) (i j s : ℕ) (start : Sample) : Type 0 where
  pub changed : IsChangedBy ts n count i j s start
  pub last : (m : ℕ) → n < m → ¬ IsChangedBy ts m count i j s start

-- What sample s of pixel (i, j) stores after these triangles, whether triangle n changes it, and whether it shows triangle n.
pub record IsFollowed (ts : List Placed) (n : ℕ) (count : SampleCount) (i j s : ℕ) (start : Sample) (f : Followed) : Type 0 where
  pub stored : Ends ts count i j s start f.stored
  pub changed : IsTrue f.changed ↔ IsChangedBy ts n count i j s start
  pub shown : IsTrue f.shown ↔ Shows ts n count i j s start
