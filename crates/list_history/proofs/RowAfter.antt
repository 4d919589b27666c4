-- A row of samples after some of the triangles, and its counts after all of them.
use Rattle.std.proofs.Common.{◌≡◌, ◌≢◌, ◌⊎◌, inl, inr, refl, sym, ap, ◌∙◌, ℕ, zero, suc, ◌+◌, ◌<◌, ◌≤◌, List, [], ◌∷◌, length, take, set, get_or, slice_get, Some, IfSome, IsTrue, replicate, arith}
use Rattle.std.proofs.lemmas.Bool.{cases_lt}
use Rattle.std.proofs.lemmas.List.{take_all, length-replicate, get_or-replicate}
use Rattle.std.proofs.lemmas.Option.{same_Some, none-some, slice_get_within, get_or_from_slice_get, slice_get_cases, slice_get-get_or}
use Rattle.grid.specs.Position.{Position}
use Rattle.grid.specs.Samples.{count_of, sample_position}
use Rattle.grid.specs.Triangle.{Covers}
use Rattle.grid.specs.declared.triangle.Tri.{Tri}
use Rattle.shade.specs.declared.placed.Placed.{Placed}
use Rattle.shade.specs.Placed.{Meets}
use Rattle.shade.proofs.Decided.{IsDecided, meets}
use Rattle.history.specs.Changed.{IsChangedBy, IsFollowed}
use Rattle.history.specs.Samples.{IsOneIf}
use Rattle.history.specs.declared.followed.Followed.{Followed}
use Rattle.history.proofs.Following.{after_same, unmet, unchanged}
use Rattle.draw_list.specs.Scene.{Scene}
use Rattle.draw_list.specs.Rows.{IsRowSpan}
use Rattle.draw_list.specs.declared.rows.RowSpan.{RowSpan}
use Rattle.list_history.proofs.Rows.{in_rows}
use Rattle.list_history.proofs.Sums.{no_sums}
use Rattle.list_history.specs.Counts.{CoversSample, AreCountsAt, AreCountSums, HoldColumns, IsRowAfter, no_counts}
use Rattle.list_history.specs.declared.columns.Columns.{Columns}
use Rattle.list_history.specs.declared.sample_counts.SampleCounts.{SampleCounts}

-- ---- elements of a list after a write
found_when : {X : Type 0} (xs : List X) (p i : ℕ) (y x : X) → slice_get (set xs p y) i ≡ Some x → ((i ≡ p) × (x ≡ y)) ⊎ ((i ≢ p) × (slice_get xs i ≡ Some x))
found_when [] p i y x h = absurd (none-some x h)
found_when (z ∷ xs) zero zero y x h = inl (refl, sym (same_Some y x h))
found_when (z ∷ xs) zero (suc i) y x h = inr (λ e. omega arith, h)
found_when (z ∷ xs) (suc p) zero y x h = inr (λ e. omega arith, h)
found_when (z ∷ xs) (suc p) (suc i) y x h = elim (found_when xs p i y x h) [
  | inl same ↦ inl (ap suc same.0, same.1)
  | inr other ↦ inr (λ e. other.0 (omega arith), other.1)
]

found_in_copies : {X : Type 0} (n i : ℕ) (y x : X) → slice_get (replicate n y) i ≡ Some x → x ≡ y
found_in_copies n i y x h =
    let within : i < n = let k = slice_get_within (replicate n y) i x h in omega (arith, length-replicate n y, k) in
    sym (get_or_from_slice_get (replicate n y) i x x h) ∙ get_or-replicate n i y x within

-- The samples of the row in the columns that a triangle reaches, which begin with `from`, are followed through it to before px.
pub record IsRowWithin (l : Scene) (n j s : ℕ) (columns : Columns) (from k px : ℕ) (row : List Followed) : Type 0 where
  pub passed : (i : ℕ) (f : Followed) → columns.first ≤ i → i < columns.end → from ≤ i → i < px → slice_get row i ≡ Some f
      → IsFollowed (take (k + 1) l.triangles) n l.count i j s l.clear f
  pub rest : (i : ℕ) (f : Followed) → columns.first ≤ i → i < columns.end → (i < from) ⊎ (px ≤ i) → slice_get row i ≡ Some f
      → IsFollowed (take k l.triangles) n l.count i j s l.clear f

module _ (l : Scene) (n j s : ℕ) (columns : Columns) where
  -- ---- the first row
  pub row_first : (m : ℕ) (first : Followed) → ((i : ℕ) → IsFollowed [] n l.count i j s l.clear first) → IsRowAfter l n j s columns 0 (replicate m first)
  row_first m first h = λ i f low high found. rw (found_in_copies m i first f found) (h i)

  -- ---- a triangle that covers none of the samples
  module _ (k : ℕ) (t : Placed) (is : slice_get l.triangles k ≡ Some t) where
    stays : (i : ℕ) (f : Followed) → ¬ Covers t.tri.a t.tri.b t.tri.c (sample_position i j s l.count) → IsFollowed (take k l.triangles) n l.count i j s l.clear f
        → IsFollowed (take (k + 1) l.triangles) n l.count i j s l.clear f
    stays i f uncovered h =
        after_same l.count i j s l.clear l.triangles k n t f is (unmet l.count i j s l.clear t f.stored (λ m. uncovered m.covered)) h

    pub row_past : (row : List Followed)
        → ((i : ℕ) → columns.first ≤ i → i < columns.end → ¬ Covers t.tri.a t.tri.b t.tri.c (sample_position i j s l.count))
        → IsRowAfter l n j s columns k row → IsRowAfter l n j s columns (k + 1) row
    row_past row uncovered h = λ i f low high found. stays i f (uncovered i low high) (h i f low high found)

    -- ---- the loop over the columns that the triangle reaches
    pub row_done : (reached : Columns) (px : ℕ) (row : List Followed) → columns.end ≤ 4096 → j < 4096 → s < count_of l.count
        → HoldColumns t.tri columns reached → reached.end ≤ px
        → IsRowWithin l n j s columns reached.first k px row → IsRowAfter l n j s columns (k + 1) row
    row_done reached px row screen down sample all past h = λ i f low high found.
        elim (cases_lt i reached.first) [
          | inl before ↦
              stays i f
              (λ c. let in_reach = all l.count i j s (omega (arith, screen, high)) down sample low high c in omega (arith, before, in_reach))
              (h.rest i f low high (inl before) found)
          | inr from ↦ elim (cases_lt i px) [
            | inl under ↦ h.passed i f low high from under found
            | inr behind ↦
                stays i f
                (λ c. let in_reach = all l.count i j s (omega (arith, screen, high)) down sample low high c in omega (arith, past, behind, in_reach))
                (h.rest i f low high (inr behind) found)
          ]
        ]

    pub row_entered : (from : ℕ) (row : List Followed) → IsRowAfter l n j s columns k row → IsRowWithin l n j s columns from k from row
    row_entered from row h = record {
      passed = λ i f low high above under found. absurd (omega (arith, above, under));
      rest = λ i f low high where_it_is found. h i f low high found;
    }

    pub row_step : (from px : ℕ) (row : List Followed) (d g : Followed) → from ≤ px → columns.first ≤ px → px < columns.end → px < length row
        → IsRowWithin l n j s columns from k px row
        → (IsFollowed (take k l.triangles) n l.count px j s l.clear (get_or row px d) → IsFollowed (take (k + 1) l.triangles) n l.count px j s l.clear g)
        → IsRowWithin l n j s columns from k (px + 1) (set row px g)
    row_step from px row d g above first end long h after =
        let new : IsFollowed (take (k + 1) l.triangles) n l.count px j s l.clear g =
        after (h.rest px (get_or row px d) first end (inr (omega arith)) (slice_get-get_or row px d long)) in
        record {
          passed = λ i e low high low' under found. elim (found_when row px i g e found) [
            | inl same ↦ rw (same.0, same.1) new
            | inr other ↦ h.passed i e low high low' (omega (arith, under, other.0)) other.1
          ];
          rest = λ i e low high where_it_is found. elim (found_when row px i g e found) [
            | inl same ↦ absurd (behind_first from px i above same.0 where_it_is)
            | inr other ↦ h.rest i e low high (still from px i where_it_is) other.1
          ];
        }
      where
        behind_first : (from px i : ℕ) → from ≤ px → i ≡ px → (i < from) ⊎ (px + 1 ≤ i) → ⊥
        behind_first from px i above e (inl before) = omega (arith, above, e, before)
        behind_first from px i above e (inr behind) = omega (arith, e, behind)

        still : (from px i : ℕ) → (i < from) ⊎ (px + 1 ≤ i) → (i < from) ⊎ (px ≤ i)
        still from px i (inl before) = inl before
        still from px i (inr behind) = inr (omega (arith, behind))

-- ---- the counts of a sample
module _ (l : Scene) (n i j s : ℕ) (t : Placed) (is : slice_get l.triangles n ≡ Some t) where
  covers_at : CoversSample l n i j s → Covers t.tri.a t.tri.b t.tri.c (sample_position i j s l.count)
  covers_at h = let same : h.triangle ≡ t = same_Some h.triangle t (sym h.is ∙ is) in rw same at h.covers

  covers_sample : Covers t.tri.a t.tri.b t.tri.c (sample_position i j s l.count) → CoversSample l n i j s
  covers_sample c = record { triangle = t; is = is; covers = c }

  changed_covers_when : IsDecided (Meets t l.count i j s) → IsChangedBy l.triangles n l.count i j s l.clear → Covers t.tri.a t.tri.b t.tri.c (sample_position i j s l.count)
  changed_covers_when (inl m) h = m.covered
  changed_covers_when (inr missed) h = absurd (unchanged l.count i j s l.clear l.triangles n t is missed h)

  changed_covers : IsChangedBy l.triangles n l.count i j s l.clear → Covers t.tri.a t.tri.b t.tri.c (sample_position i j s l.count)
  changed_covers h = changed_covers_when (meets t l.count i j s) h

  pub counts_uncovered : ¬ Covers t.tri.a t.tri.b t.tri.c (sample_position i j s l.count) → AreCountsAt l n i j s no_counts
  counts_uncovered not = record {
    covered = record { one = λ h. absurd (not (covers_at h)); zero = λ _. refl };
    changed = record { one = λ h. absurd (not (changed_covers h)); zero = λ _. refl };
    shown = record { one = λ h. absurd (not (changed_covers h.changed)); zero = λ _. refl };
  }

  pub counts_followed : (f : Followed) (c : SampleCounts) → (CoversSample l n i j s → IsFollowed l.triangles n l.count i j s l.clear f)
      → IsOneIf (Covers t.tri.a t.tri.b t.tri.c (sample_position i j s l.count)) c.covered
      → IsOneIf (Covers t.tri.a t.tri.b t.tri.c (sample_position i j s l.count) × IsTrue f.changed) c.changed
      → IsOneIf (Covers t.tri.a t.tri.b t.tri.c (sample_position i j s l.count) × IsTrue f.shown) c.shown
      → AreCountsAt l n i j s c
  counts_followed f c followed covered changed shown = record {
    covered = record { one = λ h. covered.one (covers_at h); zero = λ not. covered.zero (λ k. not (covers_sample k)) };
    changed = record {
      one = λ h. let k = changed_covers h in changed.one (k, (followed (covers_sample k)).changed.1 h);
      zero = λ not. changed.zero (λ k. not ((followed (covers_sample k.0)).changed.0 k.1));
    };
    shown = record {
      one = λ h. let k = changed_covers h.changed in shown.one (k, (followed (covers_sample k)).shown.1 h);
      zero = λ not. shown.zero (λ k. not ((followed (covers_sample k.0)).shown.0 k.1));
    };
  }

-- all triangles, by the length of their list
pub after_all : (l : Scene) (n j s : ℕ) (columns : Columns) (row : List Followed) → IsRowAfter l n j s columns (length l.triangles) row
    → (i : ℕ) (f : Followed) → columns.first ≤ i → i < columns.end → slice_get row i ≡ Some f → IsFollowed l.triangles n l.count i j s l.clear f
after_all l n j s columns row h = λ i f low high found. rw (take_all (length l.triangles) l.triangles (omega arith)) at (h i f low high found)

-- the counts of the sample in a column
pub counts_in_column : (l : Scene) (n i j s : ℕ) (t : Placed) (is : slice_get l.triangles n ≡ Some t) (columns : Columns) (row : List Followed) (d : Followed)
    (p : Position) (c : SampleCounts) → p ≡ sample_position i j s l.count → i < length row
    → (CoversSample l n i j s → (columns.first ≤ i) × (i < columns.end)) → IsRowAfter l n j s columns (length l.triangles) row
    → IsOneIf (Covers t.tri.a t.tri.b t.tri.c p) c.covered
    → IsOneIf (Covers t.tri.a t.tri.b t.tri.c p × IsTrue (get_or row i d).changed) c.changed
    → IsOneIf (Covers t.tri.a t.tri.b t.tri.c p × IsTrue (get_or row i d).shown) c.shown
    → AreCountsAt l n i j s c
counts_in_column l n i j s t is columns row d p c here long held after covered changed shown =
    counts_followed l n i j s t is (get_or row i d) c
    (λ h. let within = held h in after_all l n j s columns row after i (get_or row i d) within.0 within.1 (slice_get-get_or row i d long))
    (rw here at covered) (rw here at changed) (rw here at shown)

-- ---- a row outside of the triangle's rows
-- a triangle of the list
at_number : (l : Scene) (k : ℕ) → k < length l.triangles → (t : Placed) × (slice_get l.triangles k ≡ Some t)
at_number l k within = elim ((slice_get_cases l.triangles k).1) [
  | inl there ↦ (there.0, there.2)
  | inr past ↦ absurd (omega (arith, within, past.0))
]

outside : (t : Tri) (span : RowSpan) (l : Scene) (i j s : ℕ) → i < 4096 → j < 4096 → s < count_of l.count → IsRowSpan t span
    → (j < span.first) ⊎ (span.end ≤ j) → ¬ Covers t.a t.b t.c (sample_position i j s l.count)
outside t span l i j s column row sample is (inl above) covered = let rows = in_rows t span l.count i j s column row sample is covered in omega (arith, above, rows.0)
outside t span l i j s column row sample is (inr below) covered = let rows = in_rows t span l.count i j s column row sample is covered in omega (arith, below, rows.1)

pub row_skipped : (l : Scene) (n j s : ℕ) (columns : Columns) (k : ℕ) (row : List Followed) (span : RowSpan) → k < length l.triangles
    → IfSome (slice_get l.triangles k) (λ t. IsRowSpan t.tri span) → columns.end ≤ 4096 → j < 4096 → s < count_of l.count
    → (j < span.first) ⊎ (span.end ≤ j) → IsRowAfter l n j s columns k row → IsRowAfter l n j s columns (k + 1) row
row_skipped l n j s columns k row span within rows screen down sample apart h =
    let t = at_number l k within in
    let is : IsRowSpan t.0.tri span = rw t.1 at rows in
    row_past l n j s columns k t.0 t.1 row (λ i low high. outside t.0.tri span l i j s (omega (arith, screen, high)) down sample is apart) h

pub sums_skipped : (l : Scene) (n j : ℕ) (span : RowSpan) → n < length l.triangles → IfSome (slice_get l.triangles n) (λ t. IsRowSpan t.tri span)
    → l.width ≤ 4096 → j < 4096 → (j < span.first) ⊎ (span.end ≤ j)
    → AreCountSums (λ s c. AreCountSums (λ i d. AreCountsAt l n i j s d) l.width c) (count_of l.count) no_counts
sums_skipped l n j span within rows narrow down apart =
    let t = at_number l n within in
    let is : IsRowSpan t.0.tri span = rw t.1 at rows in
    no_sums (λ s c. AreCountSums (λ i d. AreCountsAt l n i j s d) l.width c) (count_of l.count) (λ s sample.
    no_sums (λ i d. AreCountsAt l n i j s d) l.width (λ i across.
    counts_uncovered l n i j s t.0 t.1 (outside t.0.tri span l i j s (omega (arith, across, narrow)) down sample is apart)))
