-- The draws of a batch, one at a time.
use Rattle.std.proofs.Common.{◌≡◌, ◌≢◌, ◌∙◌, refl, sym, ap, subst, Bool, ℕ, ℤ, ◌+◌, ◌<◌, ◌≤◌, Option, List, [], ◌∷◌, ◌++◌, length, map, take, drop, get_or, drop-cons, add-one, arith}
use Rattle.std.proofs.lemmas.List.{map-append, drop_all, length-map}
use Rattle.shade.specs.declared.placed.Placed.{Placed}
use Rattle.lanes.specs.declared.block_samples.BlockSamples.{BlockSamples}
use Rattle.batch.specs.declared.fault.BatchFault.{BatchFault}
use Rattle.batch.specs.declared.fault.DrawFault.{DrawFault}
use Rattle.checks.specs.Checking.{Checks, reported_as, Pass, FirstIs}
use Rattle.draw_list.specs.Primitives.{triangles_of}
use Rattle.draw_list.specs.Listing.{placed, placed_all}
use Rattle.checks.proofs.Checking.{pass_both, pass_each, passes_as, passed_as, fails_as, fails_before, fails_later as later_fails}
use Rattle.draw_list.proofs.Triangulated.{length-triangles_of}
use Rattle.batch.specs.declared.draw.BatchDraw.{BatchDraw}
use Rattle.batch.specs.declared.vertex.BatchVertex.{BatchVertex}
use Rattle.batch.specs.Listed.{draw_listed, draws_of, primitives_listed}
use Rattle.batch.specs.OwnIndices.{indices_behind, own_indices}
use Rattle.canvas.specs.declared.canvas.Canvas.{Canvas}
use Rattle.canvas.specs.Window.{moved}
use Rattle.canvas.specs.Drawing.{HaveEnds}
use Rattle.canvas.proofs.Ends.{ends_joined}
use Rattle.batch.specs.Ids.{drawn_as, HasIds, ids_after}
use Rattle.batch.specs.Seen.{draws_seen}
use Rattle.batch.specs.Causes.{in_draw}
use Rattle.batch.specs.Checks.{triangles_listed, opening_checks, primitives_checks, draw_checks, draws_checks}
use Rattle.batch.proofs.Numbered.{drawn-append, nothing_drawn}

-- ---- what passes of a draw
module _ (x y : ℤ) (ids : Option ℕ) (d : BatchDraw) (vs : List BatchVertex) (is : Option (List ℕ)) where
  own_passed : Pass (draw_checks x y ids d vs is) → Pass (primitives_checks x y ids (take d.vertices vs) d.topology (own_indices d is))
  own_passed pass =
      let each = pass_each (opening_checks d vs is) (primitives_checks x y ids (take d.vertices vs) d.topology (own_indices d is)) pass in
      each.1

-- ---- from the draw of number i on
module _ (x y : ℤ) (ds : List BatchDraw) (i : ℕ) (none : BatchDraw) (lt : i < length ds) (ids : Option ℕ) (vs : List BatchVertex) (is : Option (List ℕ)) where
  abbrev d : BatchDraw
  d = get_or ds i none

  from_here : drop i ds ≡ get_or ds i none ∷ drop (i + 1) ds
  from_here = rw (drop-cons ds i none lt, add-one) refl

  abbrev here : Checks DrawFault
  here = draw_checks x y ids d vs is

  abbrev later : Checks BatchFault
  later = draws_checks x y (i + 1) (ids_after ids (triangles_listed d is)) (drop (i + 1) ds) (drop d.vertices vs) (indices_behind d.indices is)

  pub fails_here : (fault : DrawFault) → FirstIs here fault → FirstIs (draws_checks x y i ids (drop i ds) vs is) (in_draw i fault)
  fails_here fault first = rw from_here (fails_before (reported_as (in_draw i) here) later (in_draw i fault) (fails_as (in_draw i) here fault first))

  pub fails_later : (fault : BatchFault) → Pass here → FirstIs later fault → FirstIs (draws_checks x y i ids (drop i ds) vs is) fault
  fails_later fault pass first = rw from_here (later_fails (reported_as (in_draw i) here) later fault (passes_as (in_draw i) here pass) first)

  pub passes_here : Pass here → Pass later → Pass (draws_checks x y i ids (drop i ds) vs is)
  passes_here pass rest = rw from_here (pass_both (reported_as (in_draw i) here) later (passes_as (in_draw i) here pass) rest)

  pub passed_here : Pass (draws_checks x y i ids (drop i ds) vs is) → Pass here × Pass later
  passed_here passed =
      let each = pass_each (reported_as (in_draw i) here) later (rw from_here at passed) in
      (passed_as (in_draw i) here each.0, each.1)

  pub ids_here : Pass (draws_checks x y i ids (drop i ds) vs is) → HasIds ids (triangles_listed d is)
  ids_here passed =
      let own = own_passed x y ids d vs is (passed_here passed).0 in
      own.1.0

-- ---- its triangles
module _ (has_alpha : Bool) (x y : ℤ) (ds : List BatchDraw) (i : ℕ) (none : BatchDraw) (lt : i < length ds) (ids : Option ℕ) (vs : List BatchVertex) (is : Option (List ℕ)) where
  abbrev own : BatchDraw
  own = get_or ds i none

  -- the triangles of this draw, and those of the draws behind it
  abbrev triangles : List Placed
  triangles = map (moved x y) (placed_all (draw_listed has_alpha own vs is))

  seen_here : draws_seen has_alpha x y (drop i ds) vs is ≡ triangles ++ draws_seen has_alpha x y (drop (i + 1) ds) (drop own.vertices vs) (indices_behind own.indices is)
  seen_here = ap (λ rest. draws_seen has_alpha x y rest vs is) (from_here x y ds i none lt ids vs is) ∙ map-append (moved x y) (placed_all (draw_listed has_alpha own vs is)) _

  many_here : length triangles ≡ triangles_listed own is
  many_here =
      length-map (placed_all (draw_listed has_alpha own vs is)) (moved x y)
      ∙ length-map (triangles_of (primitives_listed own.topology (own_indices own is))) (placed (draw_listed has_alpha own vs is))
      ∙ length-triangles_of (primitives_listed own.topology (own_indices own is))

  pub drawn_here : (c : Canvas) (first end : ℕ) (old middle new : List BlockSamples) → HaveEnds (drawn_as ids triangles) c first end old middle
      → HaveEnds (drawn_as (ids_after ids (triangles_listed own is)) (draws_seen has_alpha x y (drop (i + 1) ds) (drop own.vertices vs) (indices_behind own.indices is))) c first end middle new
      → HaveEnds (drawn_as ids (draws_seen has_alpha x y (drop i ds) vs is)) c first end old new
  drawn_here c first end old middle new a b =
      let later : List Placed = draws_seen has_alpha x y (drop (i + 1) ds) (drop own.vertices vs) (indices_behind own.indices is) in
      let e : drawn_as ids (draws_seen has_alpha x y (drop i ds) vs is) ≡ drawn_as ids triangles ++ drawn_as (ids_after ids (triangles_listed own is)) later = ap (drawn_as ids) seen_here ∙ drawn-append ids triangles later (triangles_listed own is) many_here in
      subst (λ us. HaveEnds us c first end old new) (sym e) (ends_joined (drawn_as ids triangles) (drawn_as (ids_after ids (triangles_listed own is)) later) c first end old middle new a b)

-- ---- past the last draw
module _ (x y : ℤ) (ds : List BatchDraw) (i : ℕ) (past : length ds ≤ i) (ids : Option ℕ) (vs : List BatchVertex) (is : Option (List ℕ)) where
  nothing_left : drop i ds ≡ []
  nothing_left = drop_all i ds past

  pub end_drawn : (has_alpha : Bool) (c : Canvas) (first end : ℕ) (xs : List BlockSamples) → HaveEnds (drawn_as ids (draws_seen has_alpha x y (drop i ds) vs is)) c first end xs xs
  end_drawn has_alpha c first end xs = subst (λ rest. HaveEnds (drawn_as ids (draws_seen has_alpha x y rest vs is)) c first end xs xs) (sym nothing_left) (nothing_drawn ids c first end xs)

pub draws_given : (ds : List BatchDraw) (vs : List BatchVertex) (is : Option (List ℕ)) → length ds ≢ 0 → ds ≡ draws_of ds vs is
draws_given [] vs is some = absurd (some refl)
draws_given (d ∷ ds) vs is some = refl

pub none_of_none : {X : Type 0} (xs : List X) → length xs ≡ 0 → xs ≡ []
none_of_none [] e = refl
none_of_none (x ∷ xs) e = absurd (omega arith)
