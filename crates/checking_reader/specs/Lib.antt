-- The definitions of this crate, each file behind those that it uses; `python3 -m tools.definitions` writes these lines.
--
-- Answer.antt
--   Answers: The result is right: no check fails, or the first that fails has this kind.
--   Reads: The result is right, or out of memory: no check fails, or the first that fails has this kind.
--   ReadsAll: The result is right, or out of memory: no check fails, or the first that fails reports this kind and this draw.
--
-- Header.antt
--   IsHeader: The value is a top object with this size, these samples, clear values and output, and these draws as JSON values.
--
-- Given.antt
--   given_triangles: The value of `triangles`, if that is the list of primitives.
--   given_strip: The value of `strip`, if that is the list of primitives.
--   given_quads: The value of `quads`, if that is the list of primitives.
--   IsGiven: The draw has this list of primitives, and no other.

pub mod Answer
pub mod Header
pub mod Given
