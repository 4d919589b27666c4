-- What a step of a history keeps of its list.
use Rattle.std.proofs.Common.{◌≡◌, inl, inr, refl, sym, ap, subst, ◌∙◌, ℕ, ◌+◌, ◌<◌, ◌≤◌, List, [], ◌∷◌, ◌++◌, length, length-append, drop, drop-drop, drop_at, get_or, slice_get, Some, IfSome, arith}
use Rattle.std.proofs.lemmas.List.{get_or-drop, length-drop}
use Rattle.std.proofs.Math.ListN.{drop_of_length-le}
use Rattle.std.proofs.lemmas.Option.{get_or_from_slice_get, slice_get-get_or, slice_get_cases, slice_get_within}
use Rattle.shade.specs.declared.placed.Placed.{Placed}
use Rattle.shade.specs.declared.sample.Sample.{Sample}
use Rattle.history.specs.History.{Place, EndsWith, IsNext, IsBehindUncovered, IsCoveredBy, moved_behind}
use Rattle.history.specs.declared.event.Event.{Event}
use Rattle.history.proofs.Chained.{next_ends, past_all, past_ends, uncovered_ends}
use Rattle.draw_list.specs.Picture.{IsEnd}
use Rattle.draw_list.specs.Rows.{IsRowSpan}
use Rattle.draw_list.specs.Scene.{Scene}
use Rattle.draw_list.specs.declared.rows.RowSpan.{RowSpan}
use Rattle.list_history.proofs.Rows.{in_rows}
use Rattle.list_history.specs.Walk.{ListPlace, IsPlaceOfList, IsNextOfList, IsNextCoveredOfList}
use Rattle.list_history.specs.declared.list_event.ListEvent.{ListEvent}

-- ---- the triangle that comes
pub within_left : (ts : List Placed) (n : ℕ) (t : Placed) → slice_get (drop n ts) 0 ≡ Some t → n < length ts
within_left ts n t is = omega (arith, slice_get_within (drop n ts) 0 t is, length-drop n ts)

pub get_left : (ts : List Placed) (n : ℕ) (t : Placed) → slice_get (drop n ts) 0 ≡ Some t → slice_get ts n ≡ Some t
get_left ts n t is =
    let none : n ≡ n + 0 = omega arith in
    let read : get_or ts n t ≡ t = ap (λ k. get_or ts k t) none ∙ sym (get_or-drop n ts 0 t) ∙ get_or_from_slice_get (drop n ts) 0 t t is in
    slice_get-get_or ts n t (within_left ts n t is) ∙ ap Some read

next_left : (l : Scene) (q : Place) → IsPlaceOfList l q → q.number < length l.triangles → (t : Placed) × (slice_get q.left 0 ≡ Some t)
next_left l q is some = elim (slice_get_cases q.left 0).1 [
  | inl w ↦ (w.0, w.2)
  | inr w ↦ absurd (omega (arith, some, w.0, ap length is.left ∙ length-drop q.number l.triangles))
]

pub some_left : (l : Scene) (q : Place) → IsPlaceOfList l q → q.number < length l.triangles → ¬ (q.left ≡ [])
some_left l q is some none = absurd (omega (arith, some, ap length none, ap length is.left ∙ length-drop q.number l.triangles))

get_next : (l : Scene) (q : Place) (t : Placed) → IsPlaceOfList l q → slice_get q.left 0 ≡ Some t → slice_get l.triangles q.number ≡ Some t
get_next l q t is found = get_left l.triangles q.number t (subst (λ (ts : List Placed). slice_get ts 0 ≡ Some t) is.left found)

-- it does not cover the sample if its rows do not have the sample's
pub outside : (l : Scene) (q : Place) (span : RowSpan) → IsPlaceOfList l q → q.number < length l.triangles → IfSome (slice_get l.triangles q.number) (λ t. IsRowSpan t.tri span)
    → ¬ ((span.first ≤ q.j) × (q.j < span.end)) → (t : Placed) × (slice_get q.left 0 ≡ Some t) × (¬ IsCoveredBy q t)
outside l q span is some rows out =
    let next = next_left l q is some in
    let found : slice_get l.triangles q.number ≡ Some next.0 = get_next l q next.0 is next.1 in
    (next.0, next.1, λ covered. out (in_rows next.0.tri span q.count q.i q.j q.s is.column is.row is.sample (rw found at rows) covered))

-- ---- a history behind some of the list's triangles
of_moved : (l : Scene) (q : Place) (past rest : List Placed) (stored : Sample) → q.left ≡ past ++ rest
    → ((end : Sample) → EndsWith (moved_behind q past rest stored) end → EndsWith q end) → IsPlaceOfList l q → IsPlaceOfList l (moved_behind q past rest stored)
of_moved l q past rest stored split ends is = record {
  column = is.column;
  row = is.row;
  sample = is.sample;
  count = is.count;
  left = sym (sym (drop-drop (length past) q.number l.triangles) ∙ ap (drop (length past)) (sym is.left ∙ split) ∙ drop_at past rest (length past) refl);
  within = omega (arith, is.within, ap length is.left ∙ length-drop q.number l.triangles, ap length split ∙ length-append past rest);
  ends = λ end h. is.ends end (ends end h);
}

pub of_next : (l : Scene) (q next : Place) (e : Event) → IsPlaceOfList l q → IsNext q e next → IsPlaceOfList l next
of_next l q next e is h =
    subst (λ (x : Place). IsPlaceOfList l x) (sym h.behind)
    (of_moved l q (h.triangle ∷ []) next.left e.after h.first (λ end k. (next_ends q next e end h).1 (subst (λ (x : Place). EndsWith x end) (sym h.behind) k)) is)

pub of_past : (l : Scene) (q next : Place) → IsPlaceOfList l q → IsBehindUncovered q next → IsPlaceOfList l next
of_past l q next is h =
    subst (λ (x : Place). IsPlaceOfList l x) (sym h.behind)
    (of_moved l q h.skipped next.left q.stored h.split (λ end k. (past_ends q next end h).1 (subst (λ (x : Place). EndsWith x end) (sym h.behind) k)) is)

pub none_left : (l : Scene) (q : Place) → IsPlaceOfList l q → length l.triangles ≤ q.number → q.left ≡ []
none_left l q is h = is.left ∙ drop_of_length-le l.triangles h

pub end_past : (l : Scene) (q now : Place) → IsPlaceOfList l q → IsBehindUncovered q now → now.left ≡ [] → IsEnd l q.i q.j q.s q.stored
end_past l q now is past none = is.ends q.stored (uncovered_ends q (past_all q now past none).0)

-- ---- the sample that a history keeps, and the triangles that are left
-- Both are of the same sample of the same list.
pub record IsOfSame (q now : ListPlace) : Type 0 where
  pub scene : now.scene ≡ q.scene
  pub i : now.history.i ≡ q.history.i
  pub j : now.history.j ≡ q.history.j
  pub s : now.history.s ≡ q.history.s

same_moved : (q now next : ListPlace) (past rest : List Placed) (stored : Sample) → IsOfSame q now → next.scene ≡ now.scene → next.history ≡ moved_behind now.history past rest stored → IsOfSame q next
same_moved q now next past rest stored same scene behind = record {
  scene = scene ∙ same.scene;
  i = ap (λ (x : Place). x.i) behind ∙ same.i;
  j = ap (λ (x : Place). x.j) behind ∙ same.j;
  s = ap (λ (x : Place). x.s) behind ∙ same.s;
}

pub same_next : (q now next : ListPlace) (e : ListEvent) → IsOfSame q now → IsNextOfList now e next → IsOfSame q next
same_next q now next e same h = same_moved q now next (h.next.triangle ∷ []) next.history.left e.event.after same h.same h.next.behind

pub same_covered : (q now next : ListPlace) (e : ListEvent) → IsOfSame q now → IsNextCoveredOfList now e next → IsOfSame q next
same_covered q now next e same h =
    let before : ListPlace = record { scene = now.scene; history = h.before } in
    same_next q before next e (same_moved q now before h.past.skipped h.before.left now.history.stored same refl h.past.behind) h.next

pub shorter_next : (now next : ListPlace) (e : ListEvent) → IsNextOfList now e next → length next.history.left < length now.history.left
shorter_next now next e h = omega (arith, ap length h.next.first)

pub shorter_covered : (now next : ListPlace) (e : ListEvent) → IsNextCoveredOfList now e next → length next.history.left < length now.history.left
shorter_covered now next e h =
    omega (arith, shorter_next (record { scene = now.scene; history = h.before }) next e h.next, ap length h.past.split ∙ length-append h.past.skipped h.before.left)
