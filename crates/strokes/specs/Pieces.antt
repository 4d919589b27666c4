-- Parts of a stroke, each bounded by straight lines and by at most one circle.
use Rattle.std.specs.Prelude.{Option, None, Some}
use Rattle.grid.specs.Position.{Position}
use Rattle.strokes.specs.declared.disc.Disc.{Disc}
use Rattle.strokes.specs.declared.piece.Pair.{Pair}
use Rattle.strokes.specs.declared.piece.Piece.{Piece}
use Rattle.strokes.specs.Disc.{DiscCovers}
use Rattle.strokes.specs.Lines.{IsOnSide}

-- p is on both sides.
pub record IsInPair (pair : Pair) (p : Position) : Type 0 where
  pub first : IsOnSide pair.first p
  pub second : IsOnSide pair.second p

-- p is in the disc, if there is one.
abbrev pub IsRound : Option Disc → Position → Type 0
IsRound None p = Unit {0}
IsRound (Some disc) p = DiscCovers disc.center disc.width p

-- p is in this part of a stroke: on all of its sides, and in its disc.
pub record IsInPiece (piece : Piece) (p : Position) : Type 0 where
  pub ends : IsInPair piece.ends p
  pub strip : IsInPair piece.strip p
  pub other : IsInPair piece.other p
  pub disc : IsRound piece.disc p
