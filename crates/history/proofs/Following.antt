-- What one more triangle makes of a sample that is followed.
use Rattle.std.proofs.Common.{◌≡◌, ◌≢◌, inl, inr, refl, sym, ◌∙◌, ℕ, ◌+◌, ◌<◌, ◌≤◌, List, [], ◌∷◌, ◌++◌, length, take, get_or, slice_get, Some, true, false, arith, length-append}
use Rattle.std.proofs.lemmas.Bool.{cases_lt}
use Rattle.std.proofs.lemmas.List.{take_all, take_more, take-append-le, length-take-le}
use Rattle.std.proofs.lemmas.Option.{get_or_from_slice_get, slice_get_within}
use Rattle.grid.specs.declared.sample_count.SampleCount.{SampleCount}
use Rattle.shade.specs.declared.sample.Sample.{Sample}
use Rattle.shade.specs.declared.placed.Placed.{Placed}
use Rattle.shade.specs.Placed.{Meets, Draws}
use Rattle.shade.specs.Ending.{Ends}
use Rattle.shade.proofs.Endings.{of_list, ends-unique, ends-append}
use Rattle.history.specs.declared.followed.Followed.{Followed}
use Rattle.history.specs.Changed.{IsChangedBy, Shows, IsFollowed}

module _ (count : SampleCount) (i j s : ℕ) (start : Sample) where
  -- ---- of some triangles
  -- a number past the last triangle changes nothing
  pub none_past : (ts : List Placed) (m : ℕ) → length ts ≤ m → ¬ IsChangedBy ts m count i j s start
  none_past ts m past h =
      let old : Ends ts count i j s start h.before = rw (take_all m ts past) at h.old in
      let new : Ends ts count i j s start h.after = rw (take_all (m + 1) ts (omega (arith, past))) at h.new in
      h.differs (ends-unique (of_list count i j s) ts start h.after h.before new old)

  -- ---- one more triangle
  module _ (ts : List Placed) (t : Placed) where
    longer : length (ts ++ t ∷ []) ≡ length ts + 1
    longer = length-append ts (t ∷ [])

    kept : (m : ℕ) → m < length ts → IsChangedBy ts m count i j s start → IsChangedBy (ts ++ t ∷ []) m count i j s start
    kept m within h = record {
      before = h.before;
      after = h.after;
      old = rw (take-append-le m ts (t ∷ []) (omega (arith, within))) h.old;
      new = rw (take-append-le (m + 1) ts (t ∷ []) (omega (arith, within))) h.new;
      differs = h.differs;
    }

    was : (m : ℕ) → m < length ts → IsChangedBy (ts ++ t ∷ []) m count i j s start → IsChangedBy ts m count i j s start
    was m within h = record {
      before = h.before;
      after = h.after;
      old = rw (take-append-le m ts (t ∷ []) (omega (arith, within))) at h.old;
      new = rw (take-append-le (m + 1) ts (t ∷ []) (omega (arith, within))) at h.new;
      differs = h.differs;
    }

    module _ (old new : Sample) (ends : Ends ts count i j s start old) (draws : Draws t count i j s old new) where
      all : Ends (ts ++ t ∷ []) count i j s start new
      all = ends-append (of_list count i j s) ts (t ∷ []) start old new ends (new, draws, refl)

      at_last : new ≢ old → IsChangedBy (ts ++ t ∷ []) (length ts) count i j s start
      at_last other = record {
        before = old;
        after = new;
        old = rw (take-append-le (length ts) ts (t ∷ []) (omega arith), take_all (length ts) ts (omega arith)) ends;
        new = rw (take_all (length ts + 1) (ts ++ t ∷ []) (omega (arith, longer))) all;
        differs = other;
      }

      of_last : IsChangedBy (ts ++ t ∷ []) (length ts) count i j s start → new ≢ old
      of_last h same =
          let before : Ends ts count i j s start h.before =
          rw (take-append-le (length ts) ts (t ∷ []) (omega arith), take_all (length ts) ts (omega arith)) at h.old in
          let after : Ends (ts ++ t ∷ []) count i j s start h.after = rw (take_all (length ts + 1) (ts ++ t ∷ []) (omega (arith, longer))) at h.new in
          let e : h.before ≡ old = ends-unique (of_list count i j s) ts start h.before old before ends in
          let f : h.after ≡ new = ends-unique (of_list count i j s) (ts ++ t ∷ []) start h.after new after all in
          h.differs (f ∙ same ∙ sym e)

      -- a triangle that changes nothing
      same_to : new ≡ old → (m : ℕ) → IsChangedBy ts m count i j s start → IsChangedBy (ts ++ t ∷ []) m count i j s start
      same_to same m h = elim (cases_lt m (length ts)) [
        | inl within ↦ kept m within h
        | inr past ↦ absurd (none_past ts m past h)
      ]

      same_from : new ≡ old → (m : ℕ) → IsChangedBy (ts ++ t ∷ []) m count i j s start → IsChangedBy ts m count i j s start
      same_from same m h = elim (cases_lt m (length ts)) [
        | inl within ↦ was m within h
        | inr past ↦ elim (cases_lt (length ts) m) [
          | inl above ↦ absurd (none_past (ts ++ t ∷ []) m (omega (arith, longer, above)) h)
          | inr under ↦ let here : m ≡ length ts = omega (arith, past, under) in absurd (of_last (rw here at h) same)
        ]
      ]

      pub followed_same : (n : ℕ) (f : Followed) → f.stored ≡ old → new ≡ old → IsFollowed ts n count i j s start f → IsFollowed (ts ++ t ∷ []) n count i j s start f
      followed_same n f is same h = record {
        stored = rw (is ∙ sym same) all;
        changed = (λ e. same_to same n (h.changed.0 e), λ c. h.changed.1 (same_from same n c));
        shown = (
          λ e. let shows = h.shown.0 e in record { changed = same_to same n shows.changed; last = λ m more c. shows.last m more (same_from same m c) },
          λ shows. h.shown.1 (record { changed = same_from same n shows.changed; last = λ m more c. shows.last m more (same_to same m c) }),
        );
      }

      -- the triangle that is asked for
      pub followed_asked : (n : ℕ) → new ≢ old → n ≡ length ts → IsFollowed (ts ++ t ∷ []) n count i j s start (record { stored = new; changed = true; shown = true })
      followed_asked n other is = record {
        stored = all;
        changed = (λ _. rw is (at_last other), λ _. refl);
        shown = (λ _. record { changed = rw is (at_last other); last = λ m more. none_past (ts ++ t ∷ []) m (omega (arith, longer, is, more)) }, λ _. refl);
      }

      -- another triangle that changes the sample
      other_from : (n : ℕ) → n ≢ length ts → IsChangedBy (ts ++ t ∷ []) n count i j s start → IsChangedBy ts n count i j s start
      other_from n not h = elim (cases_lt n (length ts)) [
        | inl within ↦ was n within h
        | inr past ↦ absurd (none_past (ts ++ t ∷ []) n (omega (arith, longer, past, not)) h)
      ]

      other_to : (n : ℕ) → IsChangedBy ts n count i j s start → IsChangedBy (ts ++ t ∷ []) n count i j s start
      other_to n h = elim (cases_lt n (length ts)) [
        | inl within ↦ kept n within h
        | inr past ↦ absurd (none_past ts n past h)
      ]

      hidden : (n : ℕ) → n ≢ length ts → new ≢ old → ¬ Shows (ts ++ t ∷ []) n count i j s start
      hidden n not other h = elim (cases_lt n (length ts)) [
        | inl within ↦ h.last (length ts) within (at_last other)
        | inr past ↦ none_past (ts ++ t ∷ []) n (omega (arith, longer, past, not)) h.changed
      ]

      pub followed_other : (n : ℕ) (f : Followed) → new ≢ old → n ≢ length ts → IsFollowed ts n count i j s start f
          → IsFollowed (ts ++ t ∷ []) n count i j s start (record { stored = new; changed = f.changed; shown = false })
      followed_other n f other not h = record {
        stored = all;
        changed = (λ e. other_to n (h.changed.0 e), λ c. h.changed.1 (other_from n not c));
        shown = (λ e. let bad : false ≡ true = e in absurd (cc), λ shows. absurd (hidden n not other shows));
      }

  -- ---- by the triangle's number
  pub first_more : (ts : List Placed) (k : ℕ) (t : Placed) → slice_get ts k ≡ Some t → take (k + 1) ts ≡ take k ts ++ t ∷ []
  first_more ts k t is =
      let found : get_or ts k t ≡ t = get_or_from_slice_get ts k t t is in
      take_more ts k t (slice_get_within ts k t is) ∙ (λ d. take k ts ++ found d ∷ [])

  pub first_length : (ts : List Placed) (k : ℕ) (t : Placed) → slice_get ts k ≡ Some t → length (take k ts) ≡ k
  first_length ts k t is = let within = slice_get_within ts k t is in length-take-le k ts (omega (arith, within))

  pub after_same : (ts : List Placed) (k n : ℕ) (t : Placed) (f : Followed) → slice_get ts k ≡ Some t → Draws t count i j s f.stored f.stored
      → IsFollowed (take k ts) n count i j s start f → IsFollowed (take (k + 1) ts) n count i j s start f
  after_same ts k n t f is draws h = rw (first_more ts k t is) (followed_same (take k ts) t f.stored f.stored h.stored draws n f refl refl h)

  pub after_asked : (ts : List Placed) (k n : ℕ) (t : Placed) (f : Followed) (new : Sample) → slice_get ts k ≡ Some t → k ≡ n → new ≢ f.stored
      → Draws t count i j s f.stored new → IsFollowed (take k ts) n count i j s start f
      → IsFollowed (take (k + 1) ts) n count i j s start (record { stored = new; changed = true; shown = true })
  after_asked ts k n t f new is asked other draws h =
      let long = first_length ts k t is in
      rw (first_more ts k t is) (followed_asked (take k ts) t f.stored new h.stored draws n other (sym asked ∙ sym long))

  pub after_other : (ts : List Placed) (k n : ℕ) (t : Placed) (f : Followed) (new : Sample) → slice_get ts k ≡ Some t → k ≢ n → new ≢ f.stored
      → Draws t count i j s f.stored new → IsFollowed (take k ts) n count i j s start f
      → IsFollowed (take (k + 1) ts) n count i j s start (record { stored = new; changed = f.changed; shown = false })
  after_other ts k n t f new is not other draws h =
      let long = first_length ts k t is in
      rw (first_more ts k t is) (followed_other (take k ts) t f.stored new h.stored draws n f other (λ e. not (sym long ∙ sym e)) h)

  -- ---- before all triangles
  -- ---- a triangle that does not meet the sample
  pub unmet : (t : Placed) (old : Sample) → ¬ Meets t count i j s → Draws t count i j s old old
  unmet t old n = record { met = λ m. absurd (n m); missed = λ _. refl }

  -- changes nothing
  pub unchanged : (ts : List Placed) (n : ℕ) (t : Placed) → slice_get ts n ≡ Some t → ¬ Meets t count i j s → ¬ IsChangedBy ts n count i j s start
  unchanged ts n t is missed h =
      let long = first_length ts n t is in
      let more : Ends (take n ts ++ t ∷ []) count i j s start h.after = rw (first_more ts n t is) at h.new in
      h.differs (ends-unique (of_list count i j s) (take n ts ++ t ∷ []) start h.after h.before more
      (ends-append (of_list count i j s) (take n ts) (t ∷ []) start h.before h.before h.old (h.before, unmet t h.before missed, refl)))
