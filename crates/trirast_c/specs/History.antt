-- The history of a sample, and how many samples of the picture a triangle has, in the caller's memory.
use Rattle.std.specs.Prelude.{◌≡◌, ◌≢◌, ◌↔◌, ℕ, ◌<◌, List, length, Bool, IsTrue}
use Rattle.shade.specs.declared.sample.Sample.{Sample as Stored}
use Rattle.checks.specs.Checking.{Checks, check, done}
use Rattle.list_json.specs.Denotes.{Denotes}
use Rattle.draw_list.specs.Picture.{IsEnd}
use Rattle.draw_list.specs.Place.{IsPlace}
use Rattle.draw_list.specs.Scene.{Scene}
use Rattle.draw_list.specs.declared.place.TrianglePlace.{TrianglePlace}
use Rattle.list_history.specs.Counts.{AreCountsOf}
use Rattle.list_history.specs.Walk.{history_start}
use Rattle.c_abi.specs.declared.status.Status.{Status}
use Rattle.c_abi.specs.declared.status.Status.TheVariants.{BadStructSize, BadSample, BadPixel, BadTriangle}
use Rattle.history_c.specs.declared.event.SampleEvent.{SampleEvent}
use Rattle.history_c.specs.declared.request.HistoryRequest.{HistoryRequest}
use Rattle.history_c.specs.declared.sample_info.SampleInfo.{SampleInfo}
use Rattle.history_c.specs.History.{HasSizes, HasRequestedPixel, HasRequestedSample, IsSampleInfo}
use Rattle.history_c.specs.Walk.{AreEventsWritten}
use Rattle.trirast_c.specs.Texts.{text_checks}
use Rattle.trirast_c.specs.declared.triangle.TriangleSamples.{TriangleSamples}

-- The caller's memory holds the history of the sample that is asked for, of the list that the text denotes. Its end is what the picture
-- is made of.
pub record HoldsHistory (json : List ℕ) (request : HistoryRequest) (old new : List SampleEvent) (info : SampleInfo) : Type 0 where
  pub list : Scene
  pub means : Denotes json list
  pub pixel : HasRequestedPixel list request
  pub sample : HasRequestedSample list request
  pub all : Bool
  pub is_all : IsTrue all ↔ (request.all ≢ 0)
  pub event_count : ℕ
  pub end : Stored
  pub written : AreEventsWritten all (history_start list request.x request.y request.sample) old new event_count end
  pub is_end : IsEnd list request.x request.y request.sample end
  pub is_info : IsSampleInfo list request event_count end info

-- The checks of a call that writes a history. Those of the pixel and the sample are of each list that the text denotes.
abbrev pub history_checks : List ℕ → HistoryRequest → Checks Status
history_checks json request =
    check (HasSizes request) BadStructSize (
    text_checks json (
    check ((l : Scene) → Denotes json l → HasRequestedPixel l request) BadPixel (
    check ((l : Scene) → Denotes json l → HasRequestedSample l request) BadSample
    done)))

-- The caller's memory holds the counts of the triangle in this place, of the list that the text denotes.
pub record HoldsCounts (json : List ℕ) (place : TrianglePlace) (samples : TriangleSamples) : Type 0 where
  pub list : Scene
  pub means : Denotes json list
  pub number : ℕ
  pub within : number < length list.triangles
  pub stands : IsPlace list number place
  pub counts : AreCountsOf list number (record { covered = samples.covered; changed = samples.changed; shown = samples.shown })

-- The list has a triangle in this place.
abbrev pub HasTriangle : Scene → TrianglePlace → Type 0
HasTriangle l place = (number : ℕ) × (number < length l.triangles) × IsPlace l number place

-- The checks of a call that counts the samples of a triangle. That of the triangle is of each list that the text denotes.
abbrev pub samples_checks : List ℕ → TrianglePlace → Checks Status
samples_checks json place = text_checks json (check ((l : Scene) → Denotes json l → HasTriangle l place) BadTriangle done)
