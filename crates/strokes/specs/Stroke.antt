use Rattle.std.specs.Prelude.{◌≡◌, ◌⊎◌, ℕ, ◌≤◌, ◌^◌, false, List, [], ◌∷◌}
use Rattle.grid.specs.Position.{Position}
use Rattle.strokes.specs.declared.join.Join.{Join}
use Rattle.strokes.specs.declared.join.Join.TheVariants.{Round, Miter}
use Rattle.strokes.specs.declared.style.Style.{Style}
use Rattle.strokes.specs.Segment.{SegmentCovers}
use Rattle.strokes.specs.Cap.{CapCovers, DotCovers}
use Rattle.strokes.specs.Join.{JoinCovers}
use Rattle.strokes.specs.Path.{walk}

-- The miter limit is at most 16, in eighths (this project's limit).
abbrev pub IsLimit : Join → Type 0
IsLimit Round = Unit
IsLimit (Miter limit) = limit ≤ 128

-- The width is at most 4,096 pixels, in 1/256 pixel (this project's limit), and the miter limit at most 16.
pub record IsStyle (style : Style) : Type 0 where
  pub width : style.width ≤ 2 ^ 20
  pub limit : IsLimit style.join

-- A segment of the path from a through these points covers p.
abbrev pub SegmentsCover : ℕ → Position → List Position → Position → Type 0
SegmentsCover width a [] p = ⊥
SegmentsCover width a (b ∷ rest) p = SegmentCovers a b width p ⊎ SegmentsCover width b rest p

-- A join of the path from a to b and through these points covers p.
abbrev pub JoinsCover : Style → Position → Position → List Position → Position → Type 0
JoinsCover style a b [] p = ⊥
JoinsCover style a b (c ∷ rest) p = JoinCovers style.join a b c style.width p ⊎ JoinsCover style b c rest p

-- The cap at the last point of the path from a to b and through these points covers p.
abbrev pub EndCovers : Style → Position → Position → List Position → Position → Type 0
EndCovers style a b [] p = CapCovers style.cap b a style.width p
EndCovers style a b (c ∷ rest) p = EndCovers style b c rest p

-- A cap covers p: at the first or at the last point of a path, unless it is closed.
abbrev pub CapsCover : Style → Position → Position → List Position → Position → Type 0
CapsCover style a b rest p = (style.is_closed ≡ false) × (CapCovers style.cap a b style.width p ⊎ EndCovers style a b rest p)

-- A pen that goes through these points covers p, by a segment, a join or a cap. Each point is another than the one before, and a single
-- point is a dot.
abbrev pub WalkCovers : Style → List Position → Position → Type 0
WalkCovers style [] p = ⊥
WalkCovers style (a ∷ []) p = DotCovers style.cap a style.width p
WalkCovers style (a ∷ b ∷ rest) p =
    SegmentsCover style.width a (b ∷ rest) p ⊎ (JoinsCover style a b rest p ⊎ CapsCover style a b rest p)

-- The stroke of the path covers p (SVG 2, computing the shape of the stroke). It is painted once, wherever the path crosses itself.
abbrev pub StrokeCovers : Style → List Position → Position → Type 0
StrokeCovers style path p = WalkCovers style (walk style.is_closed path) p
