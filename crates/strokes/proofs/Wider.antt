-- A wider stroke covers what a narrower one covers.
use Rattle.std.proofs.Common.{inl, inr, arith, ℕ, ◌*◌, ◌≤◌, ℤ, pos, ◌-ℤ◌, ◌≤ℤ◌, Bool, List, [], ◌∷◌}
use Rattle.std.proofs.lemmas.Int.{ints}
use Rattle.std.proofs.lemmas.Nat.{mul-le}
use Rattle.grid.specs.Position.{Position}
use Rattle.grid.proofs.Sign.{sign, negative, null, positive}
use Rattle.strokes.specs.declared.cap.Cap.{Cap}
use Rattle.strokes.specs.declared.cap.Cap.TheVariants.{Butt, Round, Square}
use Rattle.strokes.specs.declared.join.Join.{Join}
use Rattle.strokes.specs.declared.style.Style.{Style}
use Rattle.strokes.specs.Border.{IsAtMost, IsWithinHalf}
use Rattle.strokes.specs.Segment.{IsInStrip, SegmentCovers}
use Rattle.strokes.specs.Disc.{DiscCovers}
use Rattle.strokes.specs.Cap.{IsAcross, CapCovers, DotCovers}
use Rattle.strokes.specs.Join.{JoinBounds, JoinCovers}
use Rattle.strokes.specs.Path.{walk}
use Rattle.strokes.specs.Laws.{widened}
use Rattle.strokes.specs.Stroke.{SegmentsCover, JoinsCover, EndCovers, CapsCover, WalkCovers, StrokeCovers}

wider_bound : (y z : ℤ) (o : Bool) (x : ℤ) → y ≤ℤ z → IsAtMost y o x → IsAtMost z o x
wider_bound y z o x h (inl l) = inl (omega (arith, ints, h, l))
wider_bound y z o x h (inr t) =
    elim (sign (z -ℤ y)) [
      | negative l ↦ absurd (omega (arith, ints, h, l))
      | null e ↦ inr (omega (arith, ints, t.0, e), t.1)
      | positive l ↦ inl (omega (arith, ints, t.0, l))
    ]

square_le : (v w : ℕ) → v ≤ w → v * v ≤ w * w
square_le v w h = mul-le v v w w h h

wider_half : (v w square : ℕ) (o : Bool) (f : ℤ) → v ≤ w → IsWithinHalf v square o f → IsWithinHalf w square o f
wider_half v w square o f h (inl l) = inl l
wider_half v w square o f h (inr b) =
    let k : v * v * square ≤ w * w * square = mul-le (v * v) square (w * w) square (square_le v w h) (omega arith) in
    inr (wider_bound (pos (v * v * square)) (pos (w * w * square)) o _ (omega (arith, ints, k)) b)

wider_strip : (a b : Position) (v w : ℕ) (p : Position) → v ≤ w → IsInStrip a b v p → IsInStrip a b w p
wider_strip a b v w p h s = record { right = wider_half v w _ _ _ h s.right; left = wider_half v w _ _ _ h s.left }

pub wider_segment : (a b : Position) (v w : ℕ) (p : Position) → v ≤ w → SegmentCovers a b v p → SegmentCovers a b w p
wider_segment a b v w p h s = record { start = s.start; end = s.end; strip = wider_strip a b v w p h s.strip }

wider_disc : (c : Position) (v w : ℕ) (p : Position) → v ≤ w → DiscCovers c v p → DiscCovers c w p
wider_disc c v w p h d =
    let k : v * v ≤ w * w = square_le v w h in
    wider_bound (pos (v * v)) (pos (w * w)) _ _ (omega (arith, ints, k)) d

wider_cap : (cap : Cap) (a b : Position) (v w : ℕ) (p : Position) → v ≤ w → CapCovers cap a b v p → CapCovers cap a b w p
wider_cap Butt a b v w p h s = s
wider_cap Round a b v w p h s = (s.0, wider_disc a v w p h s.1)
wider_cap Square a b v w p h s = (s.0, wider_strip a b v w p h s.1, wider_half v w _ _ _ h s.2)

wider_range : (c : ℤ) (v w : ℕ) (z : ℤ) → v ≤ w → IsAcross c v z → IsAcross c w z
wider_range c v w z h s =
    let l = s.low in
    let k = s.high in
    record { low = omega (arith, ints, h, l); high = omega (arith, ints, h, k) }

wider_dot : (cap : Cap) (c : Position) (v w : ℕ) (p : Position) → v ≤ w → DotCovers cap c v p → DotCovers cap c w p
wider_dot Butt c v w p h s = s
wider_dot Round c v w p h s = wider_disc c v w p h s
wider_dot Square c v w p h s = record { x = wider_range c.x v w p.x h s.x; y = wider_range c.y v w p.y h s.y }

wider_bounds : (join : Join) (a b c : Position) (v w : ℕ) (p : Position) → v ≤ w → JoinBounds join a b c v p → JoinBounds join a b c w p
wider_bounds join a b c v w p h (inl m) =
    inl (m.0, record { first = wider_strip a b v w p h m.1.first; second = wider_strip b c v w p h m.1.second })
wider_bounds join a b c v w p h (inr r) = inr (r.0, wider_disc b v w p h r.1)

wider_join : (join : Join) (a b c : Position) (v w : ℕ) (p : Position) → v ≤ w → JoinCovers join a b c v p → JoinCovers join a b c w p
wider_join join a b c v w p h s =
    record { wedge = s.wedge; shape = wider_bounds join a b c v w p h s.shape }

wider_segments : (a : Position) (rest : List Position) (v w : ℕ) (p : Position) → v ≤ w → SegmentsCover v a rest p → SegmentsCover w a rest p
wider_segments a [] v w p h s = s
wider_segments a (b ∷ rest) v w p h (inl s) = inl (wider_segment a b v w p h s)
wider_segments a (b ∷ rest) v w p h (inr s) = inr (wider_segments b rest v w p h s)

wider_joins : (style : Style) (w : ℕ) (a b : Position) (rest : List Position) (p : Position) → style.width ≤ w
    → JoinsCover style a b rest p → JoinsCover (widened style w) a b rest p
wider_joins style w a b [] p h s = s
wider_joins style w a b (c ∷ rest) p h (inl s) = inl (wider_join style.join a b c style.width w p h s)
wider_joins style w a b (c ∷ rest) p h (inr s) = inr (wider_joins style w b c rest p h s)

wider_end : (style : Style) (w : ℕ) (a b : Position) (rest : List Position) (p : Position) → style.width ≤ w
    → EndCovers style a b rest p → EndCovers (widened style w) a b rest p
wider_end style w a b [] p h s = wider_cap style.cap b a style.width w p h s
wider_end style w a b (c ∷ rest) p h s = wider_end style w b c rest p h s

wider_caps : (style : Style) (w : ℕ) (a b : Position) (rest : List Position) (p : Position) → style.width ≤ w
    → CapsCover style a b rest p → CapsCover (widened style w) a b rest p
wider_caps style w a b rest p h s =
    (s.0, elim (s.1) [ inl c ↦ inl (wider_cap style.cap a b style.width w p h c) | inr e ↦ inr (wider_end style w a b rest p h e) ])

wider_walk : (style : Style) (w : ℕ) (ps : List Position) (p : Position) → style.width ≤ w
    → WalkCovers style ps p → WalkCovers (widened style w) ps p
wider_walk style w [] p h s = s
wider_walk style w (a ∷ []) p h s = wider_dot style.cap a style.width w p h s
wider_walk style w (a ∷ b ∷ rest) p h (inl s) = inl (wider_segments a (b ∷ rest) style.width w p h s)
wider_walk style w (a ∷ b ∷ rest) p h (inr (inl s)) = inr (inl (wider_joins style w a b rest p h s))
wider_walk style w (a ∷ b ∷ rest) p h (inr (inr s)) = inr (inr (wider_caps style w a b rest p h s))

pub wider_stroke : (style : Style) (w : ℕ) (path : List Position) (p : Position) → style.width ≤ w
    → StrokeCovers style path p → StrokeCovers (widened style w) path p
wider_stroke style w path p h s = wider_walk style w (walk style.is_closed path) p h s
