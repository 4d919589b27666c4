-- A pen that goes on by one point covers what it covers on this step, and what it covers from there on.
use Rattle.std.proofs.Common.{◌≡◌, ◌⊎◌, ◌↔◌, ◌∙◌, inl, inr, refl, sym, ap, subst, ℕ, ◌+◌, ◌-◌, ◌<◌, arith, true, false, List, [], ◌∷◌, ◌++◌, length, length-drop, take, drop, get_or, drop-cons, add-one, append-nil, Option, None, Some, IsTrue, Bool, if◌then◌else◌}
use Rattle.std.proofs.lemmas.List.{take_all}
use Rattle.grid.specs.Position.{Position}
use Rattle.strokes.specs.declared.style.Style.{Style}
use Rattle.strokes.specs.declared.pen.Pen.{Pen}
use Rattle.strokes.specs.Path.{is_same, moves, walk}
use Rattle.strokes.specs.Stroke.{StrokeCovers}
use Rattle.strokes.specs.Walking.{again, StepCovers, LastCovers, OnwardsCover, PenCovers}
use Rattle.strokes.proofs.Roots.{not_true}

first : (style : Style) (before : Option Position) (a b : Position) (ds : List Position) (p : Position)
    → OnwardsCover style before a (b ∷ ds) p → StepCovers style before a b p ⊎ OnwardsCover style (Some a) b ds p
first style None a b ds p (inl (inl s)) = inl (inl s)
first style None a b ds p (inl (inr s)) = inr (inl s)
first style None a b ds p (inr (inl j)) = inr (inr (inl j))
first style None a b ds p (inr (inr k)) = elim (k.1) [ inl c ↦ inl (inr (k.0, c)) | inr e ↦ inr (inr (inr (k.0, e))) ]
first style (Some x) a b ds p (inl (inl s)) = inl (inl s)
first style (Some x) a b ds p (inl (inr s)) = inr (inl s)
first style (Some x) a b ds p (inr (inl (inl j))) = inl (inr j)
first style (Some x) a b ds p (inr (inl (inr j))) = inr (inr (inl j))
first style (Some x) a b ds p (inr (inr k)) = inr (inr (inr k))

back : (style : Style) (before : Option Position) (a b : Position) (ds : List Position) (p : Position)
    → StepCovers style before a b p ⊎ OnwardsCover style (Some a) b ds p → OnwardsCover style before a (b ∷ ds) p
back style None a b ds p (inl (inl s)) = inl (inl s)
back style None a b ds p (inl (inr k)) = inr (inr (k.0, inl k.1))
back style None a b ds p (inr (inl s)) = inl (inr s)
back style None a b ds p (inr (inr (inl j))) = inr (inl j)
back style None a b ds p (inr (inr (inr k))) = inr (inr (k.0, inr k.1))
back style (Some x) a b ds p (inl (inl s)) = inl (inl s)
back style (Some x) a b ds p (inl (inr j)) = inr (inl (inl j))
back style (Some x) a b ds p (inr (inl s)) = inl (inr s)
back style (Some x) a b ds p (inr (inr (inl j))) = inr (inl (inr j))
back style (Some x) a b ds p (inr (inr (inr k))) = inr (inr k)

-- the next point is another one
moved : (a b : Position) (rest : List Position) → is_same a b ≡ false → moves a (b ∷ rest) ≡ b ∷ moves b rest
moved a b rest e = rw e

-- what is covered by going on to it, and from there on
pub onwards : (style : Style) (before : Option Position) (a b : Position) (rest : List Position) (p : Position) → is_same a b ≡ false
    → OnwardsCover style before a (moves a (b ∷ rest)) p ↔ (StepCovers style before a b p ⊎ OnwardsCover style (Some a) b (moves b rest) p)
onwards style before a b rest p e = (
  λ ahead. first style before a b (moves b rest) p (rw (moved a b rest e) at ahead),
  λ k. rw (moved a b rest e) (back style before a b (moves b rest) p k),
)

pub stepped : (style : Style) (pen : Pen) (b : Position) (covered : Bool) (p : Position) → is_same pen.at b ≡ false
    → IsTrue covered ↔ (IsTrue pen.has_covered ⊎ StepCovers style pen.before pen.at b p)
    → (rest : List Position) → PenCovers style pen (b ∷ rest) p ↔ PenCovers style (record { before = Some pen.at; at = b; has_covered = covered }) rest p
stepped style pen b covered p e h rest = let on = onwards style pen.before pen.at b rest p e in (
  λ k. elim k [
    | inl done ↦ inl (h.1 (inl done))
    | inr ahead ↦ elim (on.0 ahead) [ inl step ↦ inl (h.1 (inr step)) | inr more ↦ inr more ]
  ],
  λ k. elim k [
    | inl done ↦ elim (h.0 done) [ inl before ↦ inl before | inr step ↦ inr (on.1 (inl step)) ]
    | inr more ↦ inr (on.1 (inr more))
  ],
)

-- where the pen ends
pub ended : (style : Style) (before : Option Position) (a p : Position) → OnwardsCover style before a [] p ↔ LastCovers style before a p
ended style None a p = (λ k. k, λ k. k)
ended style (Some x) a p = (
  λ k. elim k [ inl none ↦ absurd none | inr more ↦ elim more [ inl none ↦ absurd none | inr last ↦ last ] ],
  λ last. inr (inr last),
)

-- ---- the rounds of a path
pub dropped : (ps : List Position) (i : ℕ) (b : Position) → i < length ps → b ≡ get_or ps i b → drop i ps ≡ b ∷ drop (i + 1) ps
dropped ps i b h e =
    let k : drop i ps ≡ get_or ps i b ∷ drop (i + 1) ps = rw add-one (drop-cons ps i b h) in
    k ∙ ap (λ (x : Position). x ∷ drop (i + 1) ps) (sym e)

pub first_and_rest : (ps : List Position) (a : Position) → 0 < length ps → a ≡ get_or ps 0 a → ps ≡ a ∷ take (length ps - 1) (drop 1 ps)
first_and_rest ps a h e =
    let t : take (length ps - 1) (drop 1 ps) ≡ drop 1 ps = take_all (length ps - 1) (drop 1 ps) (omega (arith, length-drop 1 ps)) in
    dropped ps 0 a h e ∙ ap (λ (xs : List Position). a ∷ xs) (sym t)

abbrev round_of : List Position → Bool → List Position
round_of path is_closed = if is_closed then path else []

pub second_round : (style : Style) (path : List Position) (from to : Pen) (p : Position) → style.is_closed ≡ true
    → ((rest : List Position) → PenCovers style from (path ++ rest) p ↔ PenCovers style to rest p)
    → (rest : List Position) → PenCovers style from (again style path ++ rest) p ↔ PenCovers style to rest p
second_round style path from to p e h rest =
    subst (λ (xs : List Position). PenCovers style from (xs ++ rest) p ↔ PenCovers style to rest p) (sym (ap (round_of path) e)) (h rest)

pub no_round : (style : Style) (path : List Position) (pen : Pen) (p : Position) → style.is_closed ≡ false
    → (rest : List Position) → PenCovers style pen (again style path ++ rest) p ↔ PenCovers style pen rest p
no_round style path pen p e rest =
    subst (λ (xs : List Position). PenCovers style pen (xs ++ rest) p ↔ PenCovers style pen rest p) (sym (ap (round_of path) e)) (λ k. k, λ k. k)

round : (is_closed : Bool) (a : Position) (rest : List Position)
    → walk is_closed (a ∷ rest) ≡ a ∷ moves a (rest ++ ((if is_closed then a ∷ rest else []) ++ []))
round true a rest = ap (λ (xs : List Position). a ∷ moves a (rest ++ xs)) (sym (append-nil (a ∷ rest)))
round false a rest = ap (λ (xs : List Position). a ∷ moves a xs) (sym (append-nil rest))

-- what is covered from the first point on, once or twice round, is the stroke
pub from_start : (style : Style) (path : List Position) (a : Position) (rest : List Position) (p : Position) → path ≡ a ∷ rest
    → OnwardsCover style None a (moves a (rest ++ (again style path ++ []))) p ↔ StrokeCovers style path p
from_start style path a rest p e =
    let r : walk style.is_closed (a ∷ rest) ≡ a ∷ moves a (rest ++ (again style (a ∷ rest) ++ [])) = round style.is_closed a rest in
    rw e (λ w. rw r w, λ s. rw r at s)

pub started : (style : Style) (path : List Position) (a : Position) (rest : List Position) (p : Position) → path ≡ a ∷ rest
    → PenCovers style (record { before = None; at = a; has_covered = false }) (rest ++ (again style path ++ [])) p ↔ StrokeCovers style path p
started style path a rest p e = let from = from_start style path a rest p e in (
  λ k. elim k [ inl f ↦ absurd (not_true false refl f) | inr w ↦ from.0 w ],
  λ s. inr (from.1 s),
)
