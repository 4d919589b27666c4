-- A pen that marks what it covers, point by point.
use Rattle.std.proofs.Common.{◌≡◌, ◌↔◌, ◌⊎◌, inl, inr, refl, sym, subst, ap, arith, ℕ, true, false, Bool, if◌then◌else◌, List, [], ◌∷◌, ◌++◌, length, append_assoc, None, Some}
use Rattle.grid.specs.Position.{Position}
use Rattle.polygons.specs.Strip.{strip_sample}
use Rattle.strokes.specs.declared.blocks.Blocks.{Blocks}
use Rattle.strokes.specs.declared.style.Style.{Style}
use Rattle.strokes.specs.declared.tip.Tip.{Tip}
use Rattle.strokes.specs.Path.{is_same, moves, walk}
use Rattle.strokes.specs.Stroke.{StrokeCovers}
use Rattle.strokes.specs.Walking.{again, StepCovers, LastCovers}
use Rattle.strokes.specs.Marking.{IsMarkedAt, MarksShape}
use Rattle.strokes.specs.Tracing.{TipCovers, MarksOnwards}
use Rattle.strokes.proofs.Walks.{onwards, ended, from_start}

module _ (style : Style) (blocks : Blocks) where
  pub traced_none : (tip : Tip) (flags : List (List ℕ)) → MarksOnwards style blocks tip [] tip flags flags
  traced_none tip flags = record { len = refl; bits = λ rest s row k _ _ _. (λ h. h, λ h. h) }

  -- a point that repeats the one before
  repeat_none : (tip : Tip) (next : Position) (rest : List Position) (p : Position) → is_same tip.at next ≡ true → TipCovers style tip (next ∷ rest) p ↔ TipCovers style tip rest p
  repeat_none tip next rest p e =
      let same : moves tip.at (next ∷ rest) ≡ moves tip.at rest = rw e refl in
      (λ h. rw same at h, λ h. rw same h)

  pub traced_repeat : (tip : Tip) (next : Position) (flags : List (List ℕ)) → is_same tip.at next ≡ true → MarksOnwards style blocks tip (next ∷ []) tip flags flags
  traced_repeat tip next flags e = record {
    len = refl;
    bits = λ rest s row k _ _ _. let same = repeat_none tip next rest (strip_sample blocks.strip s row k) e in (
      λ h. elim h [ inl set ↦ inl set | inr ahead ↦ inr (same.0 ahead) ],
      λ h. elim h [ inl set ↦ inl set | inr ahead ↦ inr (same.1 ahead) ],
    );
  }

  pub traced_step : (tip : Tip) (next : Position) (old new : List (List ℕ)) → is_same tip.at next ≡ false
      → MarksShape blocks (λ p. StepCovers style tip.before tip.at next p) old new
      → MarksOnwards style blocks tip (next ∷ []) (record { before = Some tip.at; at = next }) old new
  traced_step tip next old new e m = record {
    len = m.len;
    bits = λ rest s row k h l r.
        let at = m.bits s row k h l r in
        let on = onwards style tip.before tip.at next rest (strip_sample blocks.strip s row k) e in (
          λ x. elim x [
            | inl set ↦ inl (at.1 (inl set))
            | inr ahead ↦ elim (on.0 ahead) [ inl step ↦ inl (at.1 (inr step)) | inr more ↦ inr more ]
          ],
          λ x. elim x [
            | inl set ↦ elim (at.0 set) [ inl before ↦ inl before | inr step ↦ inr (on.1 (inl step)) ]
            | inr more ↦ inr (on.1 (inr more))
          ],
        );
  }

  pub traced_both : (a b c : Tip) (ps qs : List Position) (old mid new : List (List ℕ)) → MarksOnwards style blocks a ps b old mid → MarksOnwards style blocks b qs c mid new
      → MarksOnwards style blocks a (ps ++ qs) c old new
  traced_both a b c ps qs old mid new m n = record {
    len = let x = m.len in let y = n.len in omega (arith, x, y);
    bits = λ rest s row k h l r.
        let p = strip_sample blocks.strip s row k in
        let first = m.bits (qs ++ rest) s row k h l r in
        let second = n.bits rest s row k h l r in
        let order = append_assoc ps qs rest in
        subst (λ (xs : List Position). (IsMarkedAt old blocks.columns s row k ⊎ TipCovers style a xs p) ↔ (IsMarkedAt new blocks.columns s row k ⊎ TipCovers style c rest p)) (sym order)
        (λ x. second.0 (first.0 x), λ x. first.1 (second.1 x));
  }

  -- the second round of a closed path
  pub traced_again : (path : List Position) (a b : Tip) (old new : List (List ℕ)) → style.is_closed ≡ true → MarksOnwards style blocks a path b old new
      → MarksOnwards style blocks a (again style path) b old new
  traced_again path a b old new e m = subst (λ (xs : List Position). MarksOnwards style blocks a xs b old new) (sym (ap (λ (x : Bool). if x then path else []) e)) m

  pub traced_once : (path : List Position) (tip : Tip) (flags : List (List ℕ)) → style.is_closed ≡ false → MarksOnwards style blocks tip (again style path) tip flags flags
  traced_once path tip flags e = subst (λ (xs : List Position). MarksOnwards style blocks tip xs tip flags flags) (sym (ap (λ (x : Bool). if x then path else []) e)) (traced_none tip flags)

  -- the whole path
  pub traced_path : (path : List Position) (a : Position) (rest : List Position) (once twice : Tip) (f g h i : List (List ℕ)) → path ≡ a ∷ rest
      → MarksOnwards style blocks (record { before = None; at = a }) rest once f g → MarksOnwards style blocks once (again style path) twice g h
      → MarksShape blocks (λ p. LastCovers style twice.before twice.at p) h i
      → MarksShape blocks (StrokeCovers style path) f i
  traced_path path a rest once twice f g h i e m n last = record {
    len = let x = m.len in let y = n.len in let z = last.len in omega (arith, x, y, z);
    bits = λ s row k u v w.
        let p = strip_sample blocks.strip s row k in
        let whole = from_start style path a rest p e in
        let first = m.bits (again style path ++ []) s row k u v w in
        let second = n.bits [] s row k u v w in
        let at = last.bits s row k u v w in
        let end = ended style twice.before twice.at p in (
          λ set. elim (first.1 (second.1 (elim (at.0 set) [ inl before ↦ inl before | inr now ↦ inr (end.1 now) ]))) [
            | inl before ↦ inl before
            | inr ahead ↦ inr (whole.0 ahead)
          ],
          λ x. elim (second.0 (first.0 (elim x [ inl before ↦ inl before | inr covers ↦ inr (whole.1 covers) ]))) [
            | inl before ↦ at.1 (inl before)
            | inr ahead ↦ at.1 (inr (end.0 ahead))
          ],
        );
  }

-- ---- the path of no point
no_walk : (is_closed : Bool) → walk is_closed [] ≡ []
no_walk true = refl
no_walk false = refl

pub no_stroke : (style : Style) (path : List Position) (p : Position) → length path ≡ 0 → StrokeCovers style path p → ⊥
no_stroke style [] p e h = let none = rw (no_walk style.is_closed) at h in none
no_stroke style (a ∷ rest) p e h = absurd (omega (arith, e))
