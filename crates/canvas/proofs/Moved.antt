-- What a triangle that is moved by whole pixels makes of the moved samples.
use Rattle.std.proofs.Common.{◌≡◌, ◌∙◌, inl, inr, refl, sym, subst, ℕ, ◌<◌, ℤ, pos, ◌+ℤ◌, ◌-ℤ◌, ◌*ℤ◌, ◌<ℤ◌, List, [], ◌∷◌, map, slice_index, arith}
use Rattle.std.proofs.lemmas.Int.{ints, clamps}
use Rattle.grid.specs.Position.{Position}
use Rattle.grid.specs.Samples.{sample_position}
use Rattle.grid.specs.Edge.{side, left_excess, IsTopEdge, IsLeftEdge, PassesEdge}
use Rattle.grid.specs.Triangle.{doubled_area, Covers}
use Rattle.grid.specs.Pixels.{IsInBox}
use Rattle.grid.specs.declared.sample_count.SampleCount.{SampleCount}
use Rattle.shade.specs.declared.sample.CanvasSample.{CanvasSample}
use Rattle.shade.specs.declared.placed.Placed.{Placed}
use Rattle.shade.specs.Value.{weighted_sum, IsValueAt}
use Rattle.shade.specs.Placed.{channel, IsInterpolated, Meets}
use Rattle.shade.specs.Canvas.{IsCanvasDrawnAt, CanvasDraws, CanvasEnds}
use Rattle.canvas.specs.Window.{moved}

-- q is p, moved by (x, y)
pub record IsShift (x y : ℤ) (p q : Position) : Type 0 where
  pub across : q.x ≡ p.x -ℤ x
  pub down : q.y ≡ p.y -ℤ y

pub back : (x y : ℤ) (p q : Position) → IsShift x y p q → IsShift (pos 0 -ℤ x) (pos 0 -ℤ y) q p
back x y p q h = record { across = (let e = h.across in omega (arith, ints)); down = (let e = h.down in omega (arith, ints)) }

same_difference : (x a b a' b' : ℤ) → a' ≡ a -ℤ x → b' ≡ b -ℤ x → b' -ℤ a' ≡ b -ℤ a
same_difference x a b a' b' e f = omega (arith, ints)

module _ (x y : ℤ) where
  side_same : (a b p a' b' p' : Position) → IsShift x y a a' → IsShift x y b b' → IsShift x y p p' → side a' b' p' ≡ side a b p
  unfolding side
  side_same a b p a' b' p' h k l =
      let e : b'.x -ℤ a'.x ≡ b.x -ℤ a.x = same_difference x a.x b.x a'.x b'.x h.across k.across in
      let f : p'.y -ℤ a'.y ≡ p.y -ℤ a.y = same_difference y a.y p.y a'.y p'.y h.down l.down in
      let g : b'.y -ℤ a'.y ≡ b.y -ℤ a.y = same_difference y a.y b.y a'.y b'.y h.down k.down in
      let i : p'.x -ℤ a'.x ≡ p.x -ℤ a.x = same_difference x a.x p.x a'.x p'.x h.across l.across in
      rw (e, f, g, i) refl

  excess_same : (a b c a' b' c' : Position) → IsShift x y a a' → IsShift x y b b' → IsShift x y c c' → left_excess a' b' c' ≡ left_excess a b c
  unfolding left_excess
  excess_same a b c a' b' c' h k l =
      let e : b'.x -ℤ a'.x ≡ b.x -ℤ a.x = same_difference x a.x b.x a'.x b'.x h.across k.across in
      let f : c'.y -ℤ a'.y ≡ c.y -ℤ a.y = same_difference y a.y c.y a'.y c'.y h.down l.down in
      let g : b'.y -ℤ a'.y ≡ b.y -ℤ a.y = same_difference y a.y b.y a'.y b'.y h.down k.down in
      let i : c'.x -ℤ a'.x ≡ c.x -ℤ a.x = same_difference x a.x c.x a'.x c'.x h.across l.across in
      rw (e, f, g, i) refl

  top_same : (a b c a' b' c' : Position) → IsShift x y a a' → IsShift x y b b' → IsShift x y c c' → IsTopEdge a b c → IsTopEdge a' b' c'
  top_same a b c a' b' c' h k l t =
      let e = h.down in let f = k.down in let g = l.down in let u = t.horizontal in let v = t.third_below in
      record { horizontal = omega (arith, ints); third_below = omega (arith, ints) }

  left_same : (a b c a' b' c' : Position) → IsShift x y a a' → IsShift x y b b' → IsShift x y c c' → IsLeftEdge a b c → IsLeftEdge a' b' c'
  left_same a b c a' b' c' h k l t = record {
    not_horizontal = (λ z. let e = h.down in let f = k.down in let same : a.y ≡ b.y = omega (arith, ints) in t.not_horizontal same);
    third_right = subst (λ n. pos 0 <ℤ n) (sym (excess_same a b c a' b' c' h k l)) t.third_right;
  }

  edge_same : (a b c p a' b' c' p' : Position) → IsShift x y a a' → IsShift x y b b' → IsShift x y c c' → IsShift x y p p' → PassesEdge a b c p → PassesEdge a' b' c' p'
  edge_same a b c p a' b' c' p' h k l m (inl inside) =
      inl (rw (side_same a b p a' b' p' h k m, side_same a b c a' b' c' h k l) inside)
  edge_same a b c p a' b' c' p' h k l m (inr (on, inl top)) = inr (side_same a b p a' b' p' h k m ∙ on, inl (top_same a b c a' b' c' h k l top))
  edge_same a b c p a' b' c' p' h k l m (inr (on, inr left)) = inr (side_same a b p a' b' p' h k m ∙ on, inr (left_same a b c a' b' c' h k l left))

  module _ (a b c p a' b' c' p' : Position) (h : IsShift x y a a') (k : IsShift x y b b') (l : IsShift x y c c') (m : IsShift x y p p') where
    pub covers_same : Covers a b c p → Covers a' b' c' p'
    covers_same t = record {
      area = (λ z. t.area (sym (side_same a b c a' b' c' h k l) ∙ z));
      edge_ab = edge_same a b c p a' b' c' p' h k l m t.edge_ab;
      edge_bc = edge_same b c a p b' c' a' p' k l h m t.edge_bc;
      edge_ca = edge_same c a b p c' a' b' p' l h k m t.edge_ca;
    }

    pub area_same : doubled_area a' b' c' ≡ doubled_area a b c
    area_same = side_same a b c a' b' c' h k l

    sum_same : (u v w : ℕ) → weighted_sum a' b' c' p' u v w ≡ weighted_sum a b c p u v w
    unfolding weighted_sum
    sum_same u v w = rw (side_same b c p b' c' p' k l m, side_same c a p c' a' p' l h m, side_same a b p a' b' p' h k m) refl

    pub value_same : (u v w q : ℕ) → IsValueAt a b c p u v w q → IsValueAt a' b' c' p' u v w q
    value_same u v w q t = rw (sum_same u v w, area_same) t

-- u is t, moved by (x, y), with the same pixels in its scissor
pub record IsMoved (x y : ℤ) (t u : Placed) : Type 0 where
  pub a : IsShift x y t.tri.a u.tri.a
  pub b : IsShift x y t.tri.b u.tri.b
  pub c : IsShift x y t.tri.c u.tri.c
  pub depths : u.z ≡ t.z
  pub colours : u.rgba ≡ t.rgba
  pub merge : u.state.merge ≡ t.state.merge
  pub cull : u.state.cull ≡ t.state.cull
  pub mask : u.state.sample_mask ≡ t.state.sample_mask

pub moved_back : (x y : ℤ) (t u : Placed) → IsMoved x y t u → IsMoved (pos 0 -ℤ x) (pos 0 -ℤ y) u t
moved_back x y t u m = record {
  a = back x y t.tri.a u.tri.a m.a;
  b = back x y t.tri.b u.tri.b m.b;
  c = back x y t.tri.c u.tri.c m.c;
  depths = sym m.depths;
  colours = sym m.colours;
  merge = sym m.merge;
  cull = sym m.cull;
  mask = sym m.mask;
}

module _ (x y : ℤ) (t u : Placed) (m : IsMoved x y t u) (count : SampleCount) (s i j i' j' : ℕ) (at : IsShift x y (sample_position i j s count) (sample_position i' j' s count)) where
  pub meets_moved : (IsInBox t.state.scissor i j → IsInBox u.state.scissor i' j') → Meets t count i j s → Meets u count i' j' s
  meets_moved box h = record {
    kept = (λ z. h.kept (rw (m.cull, area_same x y t.tri.a t.tri.b t.tri.c (sample_position i j s count) u.tri.a u.tri.b u.tri.c (sample_position i' j' s count) m.a m.b m.c at) at z));
    covered = covers_same x y t.tri.a t.tri.b t.tri.c (sample_position i j s count) u.tri.a u.tri.b u.tri.c (sample_position i' j' s count) m.a m.b m.c at h.covered;
    in_scissor = box h.in_scissor;
    in_mask = rw m.mask h.in_mask;
  }

  value_moved : (values : List ℕ) (q : ℕ) → IsInterpolated t (sample_position i j s count) values q → IsInterpolated u (sample_position i' j' s count) values q
  value_moved values q = value_same x y t.tri.a t.tri.b t.tri.c (sample_position i j s count) u.tri.a u.tri.b u.tri.c (sample_position i' j' s count) m.a m.b m.c at (slice_index values 0) (slice_index values 1) (slice_index values 2) q

  drawn_moved : (old new : CanvasSample) → IsCanvasDrawnAt t (sample_position i j s count) old new → IsCanvasDrawnAt u (sample_position i' j' s count) old new
  drawn_moved old new (f, is, applied) = (
    f,
    record {
      depth = rw m.depths (value_moved t.z f.z is.depth);
      red = rw m.colours (value_moved (channel t 0) f.r is.red);
      green = rw m.colours (value_moved (channel t 1) f.g is.green);
      blue = rw m.colours (value_moved (channel t 2) f.b is.blue);
      alpha = rw m.colours (value_moved (channel t 3) f.a is.alpha);
    },
    rw m.merge applied,
  )

  pub draws_moved : (IsInBox t.state.scissor i j → IsInBox u.state.scissor i' j') → (IsInBox u.state.scissor i' j' → IsInBox t.state.scissor i j) → (Meets u count i' j' s → Meets t count i j s)
      → (old new : CanvasSample) → CanvasDraws t count i j s old new → CanvasDraws u count i' j' s old new
  draws_moved box unbox unmeets old new d = record {
    met = λ h. drawn_moved old new (d.met (unmeets h));
    missed = λ h. d.missed (λ k. h (meets_moved box k));
  }

-- ---- a canvas whose first pixel is (x, y)
module _ (x y : ℤ) (count : SampleCount) (i j i' j' s : ℕ) (wide : i < 4096) (high : j < 4096) (across : pos i' ≡ pos i +ℤ x) (down : pos j' ≡ pos j +ℤ y) where
  abbrev X : ℤ
  X = pos 256 *ℤ x

  abbrev Y : ℤ
  Y = pos 256 *ℤ y

  sample_moves : IsShift X Y (sample_position i' j' s count) (sample_position i j s count)
  sample_moves = record { across = omega (arith, ints, across); down = omega (arith, ints, down) }

  is_moved : (t : Placed) → IsMoved X Y t (moved x y t)
  is_moved t = record {
    a = record { across = refl; down = refl };
    b = record { across = refl; down = refl };
    c = record { across = refl; down = refl };
    depths = refl;
    colours = refl;
    merge = refl;
    cull = refl;
    mask = refl;
  }

  box_moves : (t : Placed) → IsInBox t.state.scissor i' j' → IsInBox (moved x y t).state.scissor i j
  box_moves t h =
      let l = h.left in let r = h.right in let u = h.top in let d = h.bottom in
      record { left = omega (arith, ints, clamps, across, wide); right = omega (arith, ints, clamps, across, wide); top = omega (arith, ints, clamps, down, high); bottom = omega (arith, ints, clamps, down, high) }

  box_returns : (t : Placed) → IsInBox (moved x y t).state.scissor i j → IsInBox t.state.scissor i' j'
  box_returns t h =
      let l = h.left in let r = h.right in let u = h.top in let d = h.bottom in
      record { left = omega (arith, ints, clamps, across, wide); right = omega (arith, ints, clamps, across, wide); top = omega (arith, ints, clamps, down, high); bottom = omega (arith, ints, clamps, down, high) }

  sample_returns : IsShift (pos 0 -ℤ X) (pos 0 -ℤ Y) (sample_position i j s count) (sample_position i' j' s count)
  sample_returns = back X Y (sample_position i' j' s count) (sample_position i j s count) sample_moves

  returned : (t : Placed) → IsMoved (pos 0 -ℤ X) (pos 0 -ℤ Y) (moved x y t) t
  returned t = moved_back X Y t (moved x y t) (is_moved t)

  one_moves : (t : Placed) (old new : CanvasSample) → CanvasDraws t count i' j' s old new → CanvasDraws (moved x y t) count i j s old new
  one_moves t old new =
      draws_moved X Y t (moved x y t) (is_moved t) count s i' j' i j sample_moves (box_moves t) (box_returns t)
      (meets_moved (pos 0 -ℤ X) (pos 0 -ℤ Y) (moved x y t) t (returned t) count s i j i' j' sample_returns (box_returns t)) old new

  one_returns : (t : Placed) (old new : CanvasSample) → CanvasDraws (moved x y t) count i j s old new → CanvasDraws t count i' j' s old new
  one_returns t old new =
      draws_moved (pos 0 -ℤ X) (pos 0 -ℤ Y) (moved x y t) t (returned t) count s i j i' j' sample_returns (box_returns t) (box_moves t)
      (meets_moved X Y t (moved x y t) (is_moved t) count s i' j' i j sample_moves (box_moves t)) old new

  pub all_move : (ts : List Placed) (start end : CanvasSample) → CanvasEnds ts count i' j' s start end → CanvasEnds (map (moved x y) ts) count i j s start end
  all_move [] start end h = h
  all_move (t ∷ ts) start end h = (h.0, one_moves t start h.0 h.1, all_move ts h.0 end h.2)

  pub all_return : (ts : List Placed) (start end : CanvasSample) → CanvasEnds (map (moved x y) ts) count i j s start end → CanvasEnds ts count i' j' s start end
  all_return [] start end h = h
  all_return (t ∷ ts) start end h = (h.0, one_returns t start h.0 h.1, all_return ts h.0 end h.2)
