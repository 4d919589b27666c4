-- Lemmas of `strokes`.
mod Roots
mod Comparing
mod Reversed
mod Walks
mod Wide
mod Wider
mod Lines
mod Rows
mod Bits
mod Marked
mod MarkedPieces
mod Traced
mod StrokeMasks
