use Rattle.std.specs.Prelude.{◌≡◌, ℕ, ◌<◌, ◌≤◌, drop, length, IsSome}
use Rattle.grid.specs.Samples.{count_of}
use Rattle.shade.specs.declared.sample.Sample.{Sample}
use Rattle.history.specs.History.{Place, EndsWith, IsNext, IsBehindUncovered}
use Rattle.draw_list.specs.Picture.{IsEnd}
use Rattle.draw_list.specs.Place.{IsPlace}
use Rattle.draw_list.specs.Scene.{Scene}
use Rattle.list_history.specs.declared.list_event.ListEvent.{ListEvent}

-- Where the history of a sample of a list's picture stands.
pub record ListPlace : Type 0 where
  pub scene : Scene
  pub history : Place

-- Where the history of sample s of pixel (i, j) begins: before the first triangle, with the clear colour and depth.
abbrev pub history_start : Scene → ℕ → ℕ → ℕ → ListPlace
history_start l i j s = record {
  scene = l;
  history = record { left = l.triangles; number = 0; count = l.count; i = i; j = j; s = s; stored = l.clear };
}

-- The triangles to come are those of the list from the number on, and they end with the picture's sample.
pub record IsPlaceOfList (l : Scene) (q : Place) : Type 0 where
  pub column : q.i < 4096
  pub row : q.j < 4096
  pub sample : q.s < count_of q.count
  pub count : q.count ≡ l.count
  pub left : q.left ≡ drop q.number l.triangles
  pub within : q.number ≤ length l.triangles
  pub ends : (end : Sample) → EndsWith q end → IsEnd l q.i q.j q.s end

-- The event is that of the next triangle, with its draw and what that writes, and the history stands behind it.
pub record IsNextOfList (old : ListPlace) (e : ListEvent) (new : ListPlace) : Type 0 where
  pub next : IsNext old.history e.event new.history
  pub number : e.number ≡ old.history.number
  pub place : IsPlace old.scene e.number e.place
  pub write : e.write ≡ next.triangle.state.merge.write
  pub depth_write : e.depth_write ≡ next.triangle.state.merge.depth_write
  pub same : new.scene ≡ old.scene

-- The event is that of the first triangle to come that covers the sample, and the history stands behind it.
pub record IsNextCoveredOfList (old : ListPlace) (e : ListEvent) (new : ListPlace) : Type 0 where
  pub before : Place
  pub past : IsBehindUncovered old.history before
  pub next : IsNextOfList (record { scene = old.scene; history = before }) e new
  pub covered : IsSome e.event.fragment
