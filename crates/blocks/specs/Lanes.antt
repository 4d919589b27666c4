-- What is done lane by lane with the 64 pixels of a block.
use Rattle.std.specs.Prelude.{◌≡◌, ◌==◌, if◌then◌else◌, ℕ, ◌<◌, List, slice_index}
use Rattle.shade.specs.declared.sample.CanvasSample.{CanvasSample}
use Rattle.blocks.specs.declared.block_means.Channel.{Channel}
use Rattle.blocks.specs.declared.block_means.Channel.TheVariants.{Red, Green, Blue, Alpha}

-- Each pixel has the number of `set` where its lane is 1, else that of `clear`.
abbrev pub AreChosen : List ℕ → List ℕ → List ℕ → List ℕ → Type 0
AreChosen lanes set clear result =
    (p : ℕ) → p < 64 → slice_index result p ≡ (if slice_index lanes p == 1 then slice_index set p else slice_index clear p)

-- A channel of a sample.
abbrev pub channel_of : Channel → CanvasSample → ℕ
channel_of Red sample = sample.r
channel_of Green sample = sample.g
channel_of Blue sample = sample.b
channel_of Alpha sample = sample.alpha
