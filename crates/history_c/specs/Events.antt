-- An event of a sample's history as C has it: flags and numbers in place of names, and zeros in place of a fragment that is not there.
use Rattle.std.specs.Prelude.{ℕ, ◌+◌, Bool, true, false, ◌||◌, is_some, slice_index_or, Option, Some, None}
use Rattle.shade.specs.declared.sample.Sample.{Sample}
use Rattle.shade.specs.declared.sample.Shaded.{Shaded}
use Rattle.history.specs.declared.edge.EdgeReason.{EdgeReason}
use Rattle.history.specs.declared.edge.EdgeReason.TheVariants.{Outside, OnUncoveredEdge}
use Rattle.history.specs.declared.event.Event.{Event}
use Rattle.history.specs.declared.event.Outcome.{Outcome}
use Rattle.history.specs.declared.event.Outcome.TheVariants.{Missed, DepthFailed, Drawn}
use Rattle.history.specs.declared.reasons.Reasons.{Reasons}
use Rattle.list_history.specs.declared.list_event.ListEvent.{ListEvent}
use Rattle.history_c.specs.declared.event.SampleEvent.{SampleEvent}
use Rattle.history_c.specs.declared.stored.Fragment.{Fragment}
use Rattle.history_c.specs.declared.stored.StoredSample.{StoredSample}

-- The value of a flag if it is set, and else 0.
abbrev pub flag : Bool → ℕ → ℕ
flag true value = value
flag false value = 0

-- The sample fails the top-left rule at one of the edges.
abbrev pub fails_an_edge : Reasons → Bool
fails_an_edge r = is_some r.ab.reason || (is_some r.bc.reason || is_some r.ca.reason)

-- The flags of the reasons that hold, added.
abbrev pub reasons_of : Event → ℕ
reasons_of e =
    flag e.reasons.culled 1
    + flag e.reasons.zero_area 2
    + flag (fails_an_edge e.reasons) 4
    + flag e.reasons.outside_scissor 8
    + flag e.reasons.masked 16
    + flag e.fails_depth 32

-- The flags of what the triangle's draw writes, added: red, green, blue and depth.
abbrev pub writes_of : ListEvent → ℕ
writes_of e =
    flag (slice_index_or e.write 0 false) 1
    + flag (slice_index_or e.write 1 false) 2
    + flag (slice_index_or e.write 2 false) 4
    + flag e.depth_write 8

-- How a sample fails the top-left rule at an edge, by its number in C; 0 if it does not.
abbrev pub failure_of : Option EdgeReason → ℕ
failure_of None = 0
failure_of (Some Outside) = 1
failure_of (Some OnUncoveredEdge) = 2

-- The result of an event, by its number in C.
abbrev pub result_of : Outcome → ℕ
result_of Missed = 0
result_of DepthFailed = 1
result_of Drawn = 2

-- What a sample stores, as C has it.
abbrev pub stored_of : Sample → StoredSample
stored_of s = record { red = s.r; green = s.g; blue = s.b; depth = s.z }

-- A fragment as C has it: all zeros if there is none.
abbrev pub fragment_in_c : Option Shaded → Fragment
fragment_in_c None = record { red = 0; green = 0; blue = 0; alpha = 0; depth = 0 }
fragment_in_c (Some f) = record { red = f.r; green = f.g; blue = f.b; alpha = f.a; depth = f.z }

-- An event as C has it.
abbrev pub event_of : ListEvent → SampleEvent
event_of e = record {
  doubled_area = e.event.reasons.area2;
  edge_ab = e.event.reasons.ab.value;
  edge_bc = e.event.reasons.bc.value;
  edge_ca = e.event.reasons.ca.value;
  number = e.number;
  draw = e.place.draw;
  triangle = e.place.triangle;
  failure_ab = failure_of e.event.reasons.ab.reason;
  failure_bc = failure_of e.event.reasons.bc.reason;
  failure_ca = failure_of e.event.reasons.ca.reason;
  result = result_of e.event.outcome;
  reasons = reasons_of e.event;
  writes = writes_of e;
  covered = flag (is_some e.event.fragment) 1;
  fragment = fragment_in_c e.event.fragment;
  before = stored_of e.event.before;
  after = stored_of e.event.after;
}
