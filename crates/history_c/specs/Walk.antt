-- The events of a sample that are asked for, and the array into which they are written.
use Rattle.std.specs.Prelude.{◌≡◌, ℕ, Bool, true, false, List, [], ◌∷◌, length}
use Rattle.shade.specs.declared.sample.Sample.{Sample}
use Rattle.history.specs.History.{AreUncovered}
use Rattle.list_history.specs.Walk.{ListPlace, IsNextOfList, IsNextCoveredOfList}
use Rattle.list_history.specs.declared.list_event.ListEvent.{ListEvent}
use Rattle.history_c.specs.declared.event.SampleEvent.{SampleEvent}
use Rattle.history_c.specs.Events.{event_of}

-- The next event that is asked for: if all are, that of the next triangle, else that of the next one that covers the sample.
abbrev pub IsNextAsked : Bool → ListPlace → ListEvent → ListPlace → Type 0
IsNextAsked true = IsNextOfList
IsNextAsked false = IsNextCoveredOfList

-- No event that is asked for is to come.
abbrev pub IsNoneToCome : Bool → ListPlace → Type 0
IsNoneToCome true q = q.history.left ≡ []
IsNoneToCome false q = AreUncovered q.history q.history.left

-- These are the events to come that are asked for, all of them, in draw order. The last leaves `end`.
abbrev pub AreEventsFrom : Bool → ListPlace → List ListEvent → Sample → Type 0
AreEventsFrom all q [] end = IsNoneToCome all q × (end ≡ q.history.stored)
AreEventsFrom all q (e ∷ es) end = (next : ListPlace) × IsNextAsked all q e next × AreEventsFrom all next es end

-- What an array holds after these events are written at its beginning, as many as it has elements. Behind them it holds what it held.
abbrev pub written : List ListEvent → List SampleEvent → List SampleEvent
written [] old = old
written (e ∷ es) [] = []
written (e ∷ es) (o ∷ os) = event_of e ∷ written es os

-- The events to come that are asked for are written at the beginning of the array. The count is that of all of them, also if the array
-- holds only the first ones, and the last leaves `end`.
pub record AreEventsWritten (all : Bool) (q : ListPlace) (old new : List SampleEvent) (count : ℕ) (end : Sample) : Type 0 where
  pub events : List ListEvent
  pub are : AreEventsFrom all q events end
  pub put : new ≡ written events old
  pub counted : count ≡ length events
