-- The definitions of this crate, each file behind those that it uses; `python3 -m tools.definitions` writes these lines.
--
-- Lexed.antt
--   AreDigits: The bytes from `from` to `end` are decimal digits, and write n.
--   IsSizeAt: From `from` to `end` is a natural number below 2^62 without leading zeros.
--   MayEnd: A number or a boolean may end before the byte at an index.
--   IsIntegerAt: The lexeme that begins at `from` is a number, which serde_json reads as the integer z, and `end` is behind it.
--   TookInteger: The first of the tokens `old` is a number, which serde_json reads as the integer z, and `new` are the others.
--   ArePlain: Each byte stands for itself in a string: it is no quote, backslash or control byte.
--   GoesOn: The byte is a comma or a closing bracket.
--   truth_text: How a boolean is written.
--
-- Tokens.antt
--   tokens_from: The tokens of a text from a place on.
--   begins_at: Whether a value or a key may begin at a place.
--   closes_at: Whether a closing bracket may stand at a place.
--   IsOpening: The byte opens an array or an object.
--   opened_by: The token of a byte that opens an array or an object.
--
-- Eight.antt
--   offset: The byte less `0` of ASCII, modulo 256.
--   is_other: The byte less `0` of ASCII is no digit.
--   IsEight: The bytes of the word are these eight digits, the first in the lowest byte.
--   BeginsWithDigits: The first of eight bytes are digits.
--
-- Blank.antt
--   is_no_space: The byte is no space.
--
-- Row.antt
--   IsAhead: The mask says which bytes from an index on are no digits, the first lowest, and eight more bytes follow them.
--   TookIntegers: The tokens `old` begin with these integers, and `new` is what follows them.
--   TookRow: The tokens `old` begin with an array of these integers, and `new` is what follows it.

pub mod Lexed
pub mod Tokens
pub mod Eight
pub mod Blank
pub mod Row
