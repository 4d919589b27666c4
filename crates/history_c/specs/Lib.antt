-- The definitions of this crate, each file behind those that it uses; `python3 -m tools.definitions` writes these lines.
--
-- Events.antt
--   flag: The value of a flag if it is set, and else 0.
--   fails_an_edge: The sample fails the top-left rule at one of the edges.
--   reasons_of: The flags of the reasons that hold, added.
--   writes_of: The flags of what the triangle's draw writes, added: red, green, blue and depth.
--   failure_of: How a sample fails the top-left rule at an edge, by its number in C; 0 if it does not.
--   result_of: The result of an event, by its number in C.
--   stored_of: What a sample stores, as C has it.
--   fragment_in_c: A fragment as C has it: all zeros if there is none.
--   event_of: An event as C has it.
--
-- Walk.antt
--   IsNextAsked: The next event that is asked for: if all are, that of the next triangle, else that of the next one that covers the sample.
--   IsNoneToCome: No event that is asked for is to come.
--   AreEventsFrom: These are the events to come that are asked for, all of them, in draw order.
--   written: What an array holds after these events are written at its beginning, as many as it has elements.
--   AreEventsWritten: The events to come that are asked for are written at the beginning of the array.
--
-- History.antt
--   HasSizes: The structs have the sizes, in bytes, that this library knows, or 0 for just these.
--   HasRequestedPixel: The picture has the pixel that is asked for.
--   HasRequestedSample: A pixel has the sample that is asked for.
--   output_number: What a picture shows, by its number in C.
--   IsSampleInfo: The sample beside its events: their number, what the picture is, where it lies, and what it begins and ends with.
--   place_checks: The checks of a list that was read: its picture has the pixel, and the pixel has the sample.

pub mod Events
pub mod Walk
pub mod History
