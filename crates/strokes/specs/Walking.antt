use Rattle.std.specs.Prelude.{◌≡◌, ◌⊎◌, false, List, [], ◌∷◌, if◌then◌else◌, Option, None, Some, IsTrue}
use Rattle.grid.specs.Position.{Position}
use Rattle.strokes.specs.declared.style.Style.{Style}
use Rattle.strokes.specs.declared.pen.Pen.{Pen}
use Rattle.strokes.specs.Segment.{SegmentCovers}
use Rattle.strokes.specs.Cap.{CapCovers, DotCovers}
use Rattle.strokes.specs.Join.{JoinCovers}
use Rattle.strokes.specs.Path.{moves}
use Rattle.strokes.specs.Stroke.{SegmentsCover, JoinsCover, EndCovers, WalkCovers}

-- The points of the second round, which only a closed path has.
abbrev pub again : Style → List Position → List Position
again style path = if style.is_closed then path else []

-- What is covered around the pen's point when it goes on to the next: a cap where the path begins, and else a join.
abbrev pub CornerCovers : Style → Option Position → Position → Position → Position → Type 0
CornerCovers style None a b p = (style.is_closed ≡ false) × CapCovers style.cap a b style.width p
CornerCovers style (Some before) a b p = JoinCovers style.join before a b style.width p

-- What is covered by going on to the next point: the segment, or what is around the pen's point.
abbrev pub StepCovers : Style → Option Position → Position → Position → Position → Type 0
StepCovers style before a b p = SegmentCovers a b style.width p ⊎ CornerCovers style before a b p

-- What is covered around the point where the pen ends: a dot if it went nowhere, and else a cap, unless the path is closed.
abbrev pub LastCovers : Style → Option Position → Position → Position → Type 0
LastCovers style None a p = DotCovers style.cap a style.width p
LastCovers style (Some before) a p = (style.is_closed ≡ false) × CapCovers style.cap a before style.width p

-- What is covered from here on by a pen that came from `before` and goes through these points.
abbrev pub OnwardsCover : Style → Option Position → Position → List Position → Position → Type 0
OnwardsCover style None a rest p = WalkCovers style (a ∷ rest) p
OnwardsCover style (Some before) a rest p =
    SegmentsCover style.width a rest p ⊎ (JoinsCover style before a rest p ⊎ ((style.is_closed ≡ false) × EndCovers style before a rest p))

-- The pen has covered p, or will.
abbrev pub PenCovers : Style → Pen → List Position → Position → Type 0
PenCovers style pen rest p = IsTrue pen.has_covered ⊎ OnwardsCover style pen.before pen.at (moves pen.at rest) p
