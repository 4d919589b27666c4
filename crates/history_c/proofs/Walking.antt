-- The events that are written so far, one after another.
use Rattle.std.proofs.Common.{◌≡◌, refl, sym, ap, subst, ◌∙◌, ℕ, ◌+◌, ◌<◌, ◌≤◌, Bool, true, false, List, [], ◌∷◌, ◌++◌, append_assoc, append-nil, length, length-append, set, arith}
use Rattle.shade.specs.declared.sample.Sample.{Sample}
use Rattle.list_history.specs.Walk.{ListPlace}
use Rattle.list_history.specs.declared.list_event.ListEvent.{ListEvent}
use Rattle.list_history.proofs.Passed.{IsOfSame, same_next, same_covered, shorter_next, shorter_covered}
use Rattle.history_c.specs.declared.event.SampleEvent.{SampleEvent}
use Rattle.history_c.specs.Events.{event_of}
use Rattle.history_c.specs.Walk.{IsNextAsked, IsNoneToCome, AreEventsFrom, written, AreEventsWritten}

-- ---- one more event in the array
pub written_more : (es : List ListEvent) (e : ListEvent) (old : List SampleEvent) → length es < length old → written (es ++ e ∷ []) old ≡ set (written es old) (length es) (event_of e)
written_more [] e [] h = absurd (omega (arith, h))
written_more [] e (o ∷ os) h = refl
written_more (x ∷ es) e [] h = absurd (omega (arith, h))
written_more (x ∷ es) e (o ∷ os) h = ap (λ (l : List SampleEvent). event_of x ∷ l) (written_more es e os (omega (arith, h)))

pub written_full : (es : List ListEvent) (e : ListEvent) (old : List SampleEvent) → length old ≤ length es → written (es ++ e ∷ []) old ≡ written es old
written_full [] e [] h = refl
written_full [] e (o ∷ os) h = absurd (omega (arith, h))
written_full (x ∷ es) e [] h = refl
written_full (x ∷ es) e (o ∷ os) h = ap (λ (l : List SampleEvent). event_of x ∷ l) (written_full es e os (omega (arith, h)))

pub written_length : (es : List ListEvent) (old : List SampleEvent) → length (written es old) ≡ length old
written_length [] old = refl
written_length (x ∷ es) [] = refl
written_length (x ∷ es) (o ∷ os) = omega (arith, written_length es os)

-- ---- one step of a history
pub shorter : (all : Bool) (now next : ListPlace) (e : ListEvent) → IsNextAsked all now e next → length next.history.left < length now.history.left
shorter true now next e h = shorter_next now next e h
shorter false now next e h = shorter_covered now next e h

same_sample : (all : Bool) (q now next : ListPlace) (e : ListEvent) → IsOfSame q now → IsNextAsked all now e next → IsOfSame q next
same_sample true q now next e same h = same_next q now next e same h
same_sample false q now next e same h = same_covered q now next e same h

-- ---- the events so far
pub record IsWalked (all : Bool) (q now : ListPlace) (old new : List SampleEvent) (count : ℕ) : Type 0 where
  pub same : IsOfSame q now
  pub events : List ListEvent
  pub are : (rest : List ListEvent) (end : Sample) → AreEventsFrom all now rest end → AreEventsFrom all q (events ++ rest) end
  pub put : new ≡ written events old
  pub counted : count ≡ length events
  pub few : count + length now.history.left ≤ length q.history.left

module _ (all : Bool) (q now next : ListPlace) (e : ListEvent) (old new : List SampleEvent) (count : ℕ) where
  more : (after : List SampleEvent) → (so_far : IsWalked all q now old new count) → IsNextAsked all now e next → after ≡ written (so_far.events ++ e ∷ []) old → IsWalked all q next old after (count + 1)
  more after so_far step put =
      record {
        same = same_sample all q now next e so_far.same step;
        events = so_far.events ++ e ∷ [];
        are = λ rest end h. subst (λ (es : List ListEvent). AreEventsFrom all q es end) (sym (append_assoc so_far.events (e ∷ []) rest)) (so_far.are (e ∷ rest) end (next, step, h));
        put = put;
        counted = omega (arith, so_far.counted, length-append so_far.events (e ∷ []));
        few = omega (arith, so_far.few, shorter all now next e step);
      }

  put_one : (so_far : IsWalked all q now old new count) → count < length new → set new count (event_of e) ≡ written (so_far.events ++ e ∷ []) old
  put_one so_far room =
      let long : length new ≡ length old = ap length so_far.put ∙ written_length so_far.events old in
      let here : length so_far.events < length old = omega (arith, long, room, so_far.counted) in
      ap (λ (l : List SampleEvent). set l count (event_of e)) so_far.put ∙ ap (λ n. set (written so_far.events old) n (event_of e)) so_far.counted ∙ sym (written_more so_far.events e old here)

  pass_one : (so_far : IsWalked all q now old new count) → length new ≤ count → new ≡ written (so_far.events ++ e ∷ []) old
  pass_one so_far full =
      let long : length new ≡ length old = ap length so_far.put ∙ written_length so_far.events old in
      so_far.put ∙ sym (written_full so_far.events e old (omega (arith, long, full, so_far.counted)))

  -- the event is written
  pub put_more : (after : List SampleEvent) (x : SampleEvent) → IsWalked all q now old new count → IsNextAsked all now e next → count < length new → after ≡ set new count x → x ≡ event_of e
      → IsWalked all q next old after (count + 1)
  put_more after x so_far step room put is = more after so_far step (put ∙ ap (λ (y : SampleEvent). set new count y) is ∙ put_one so_far room)

  -- the array is full
  pub pass_more : (after : List SampleEvent) → IsWalked all q now old new count → IsNextAsked all now e next → length new ≤ count → after ≡ new → IsWalked all q next old after (count + 1)
  pass_more after so_far step full kept = more after so_far step (kept ∙ pass_one so_far full)

pub all_walked : (all : Bool) (q now : ListPlace) (old new : List SampleEvent) (count : ℕ) (end : Sample) → IsWalked all q now old new count → IsNoneToCome all now → end ≡ now.history.stored → AreEventsWritten all q old new count end
all_walked all q now old new count end so_far over is = record {
  events = so_far.events;
  are = subst (λ (es : List ListEvent). AreEventsFrom all q es end) (append-nil so_far.events) (so_far.are [] end (over, is));
  put = so_far.put;
  counted = so_far.counted;
}
