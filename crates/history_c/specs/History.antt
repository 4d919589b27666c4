-- The sample whose history is asked for, and what is said of it beside its events.
use Rattle.std.specs.Prelude.{◌≡◌, ℕ, ◌<◌}
use Rattle.grid.specs.Samples.{count_of, sample_position}
use Rattle.shade.specs.declared.sample.Sample.{Sample as Stored}
use Rattle.checks.specs.Checking.{Checks, check, done}
use Rattle.draw_list.specs.Scene.{Scene}
use Rattle.draw_list.specs.declared.output.Output.{Output}
use Rattle.draw_list.specs.declared.output.Output.TheVariants.{Color, Depth}
use Rattle.c_abi.specs.Sizes.{IsOwnSize}
use Rattle.c_abi.specs.declared.status.Status.{Status}
use Rattle.c_abi.specs.declared.status.Status.TheVariants.{BadSample, BadPixel}
use Rattle.history_c.specs.declared.request.HistoryRequest.{HistoryRequest}
use Rattle.history_c.specs.declared.sample_info.SampleInfo.{SampleInfo}
use Rattle.history_c.specs.Events.{stored_of}

-- The structs have the sizes, in bytes, that this library knows, or 0 for just these.
pub record HasSizes (request : HistoryRequest) : Type 0 where
  pub request_size : IsOwnSize request.struct_size 28
  pub event_size : IsOwnSize request.event_size 136
  pub info_size : IsOwnSize request.info_size 56

-- The picture has the pixel that is asked for.
pub record HasRequestedPixel (l : Scene) (request : HistoryRequest) : Type 0 where
  pub column : request.x < l.width
  pub row : request.y < l.height

-- A pixel has the sample that is asked for.
abbrev pub HasRequestedSample : Scene → HistoryRequest → Type 0
HasRequestedSample l request = request.sample < count_of l.count

-- What a picture shows, by its number in C.
abbrev pub output_number : Output → ℕ
output_number Color = 0
output_number Depth = 1

-- The sample beside its events: their number, what the picture is, where it lies, and what it begins and ends with.
pub record IsSampleInfo (l : Scene) (request : HistoryRequest) (event_count : ℕ) (end : Stored) (info : SampleInfo) : Type 0 where
  pub count : info.event_count ≡ event_count
  pub samples : info.samples ≡ count_of l.count
  pub output : info.output ≡ output_number l.output
  pub x : info.x ≡ (sample_position request.x request.y request.sample l.count).x
  pub y : info.y ≡ (sample_position request.x request.y request.sample l.count).y
  pub begins : info.begin ≡ stored_of l.clear
  pub ends : info.end ≡ stored_of end

-- The checks of a list that was read: its picture has the pixel, and the pixel has the sample.
abbrev pub place_checks : Scene → HistoryRequest → Checks Status
place_checks l request = check (HasRequestedPixel l request) BadPixel (check (HasRequestedSample l request) BadSample done)
