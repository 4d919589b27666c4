-- What a status says of how a call ended, and room for rows of pixels.
use Rattle.std.specs.Prelude.{⊤}
use Rattle.std.proofs.Common.{◌≡◌, ◌≢◌, ◌↔◌, ◌∙◌, refl, sym, ap, subst, inl, inr, ℕ, max, ℤ, Option, List, Result, Ok, Err, IsOk, IfErr, OnOk, MatchResult}
use Rattle.std.proofs.lemmas.Bool.{false≢true}
use Rattle.readout.specs.declared.misfit.Misfit.{Misfit}
use Rattle.canvas.specs.declared.tile_rows.TileRows.{TileRows as Rows}
use Rattle.readout.specs.Pixels.{IsLargeEnough}
use Rattle.grid.specs.Samples.{count_of, pattern_of}
use Rattle.checks.specs.Checking.{Checks, done as checked, check, followed_by, Pass, FirstIs, IsJudged}
use Rattle.checks.proofs.Checking.{pass_both, fails_later}
use Rattle.batch.specs.declared.draw.BatchDraw.{BatchDraw}
use Rattle.batch.specs.declared.fault.BatchFault.{BatchFault}
use Rattle.batch.specs.declared.vertex.BatchVertex.{BatchVertex}
use Rattle.batch.specs.Checks.{batch_checks}
use Rattle.c_abi.specs.Calls.{IsCall, IsReported, IsReport, IsStatus}
use Rattle.c_abi.specs.Statuses.{status_number}
use Rattle.c_abi.specs.declared.call_error.CallError.{CallError}
use Rattle.c_abi.specs.declared.error.Error.{Error}
use Rattle.c_abi.specs.declared.fault.Fault.{Fault}
use Rattle.c_abi.specs.declared.status.Status.{Status}
use Rattle.c_abi.specs.declared.status.Status.TheVariants.{BadList, BadBatch, BufferTooSmall}
use Rattle.canvas_c.specs.declared.piece.CanvasHead.{CanvasHead}
use Rattle.canvas_c.specs.Pieces.{IsCount, piece_checks, AreRowsOf, HasRoom}

-- ---- room for rows of pixels
pub room_of : (head : CanvasHead) (rows : Rows) (unit stride size : ℕ) → AreRowsOf head rows → IsLargeEnough rows.canvas rows.first rows.end unit stride size → HasRoom head unit stride size
room_of head rows unit stride size are large = record {
  wide = rw are.width at large.wide;
  high = rw (are.width, are.height, are.first, are.end) at large.high;
}

pub large_of : (head : CanvasHead) (rows : Rows) (unit stride size : ℕ) → AreRowsOf head rows → HasRoom head unit stride size → IsLargeEnough rows.canvas rows.first rows.end unit stride size
large_of head rows unit stride size are room = record {
  wide = rw are.width room.wide;
  high = rw (are.width, are.height, are.first, are.end) room.high;
}

-- ---- what holds after success
-- what holds after a call without an error holds if its status is 0
pub done_if : {E : Type 0} (P : Type 0) (r : Result ⊤ E) (n : ℕ) → (n ≡ 0 ↔ IsOk r) → OnOk r P → n ≡ 0 → P
done_if P (Ok x) n done on zero = on
done_if P (Err e) n done on zero = absurd (false≢true (done.0 zero))

-- what holds after each error but one of the list or the batch holds if the status is neither 0 nor that one's
pub kept_but : (P : Type 0) (r : Result ⊤ CallError) (n : ℕ) (error : Error) → IsReported r n error → IfErr r (λ e. e.status ≢ BadBatch → P) → n ≢ 0 → n ≢ status_number BadBatch → P
kept_but P (Ok x) n error is kept some other = absurd (some is.0)
kept_but P (Err e) n error is kept some other = kept (λ same. other (is.0 ∙ ap status_number same))

-- what holds after rows that fit holds after the call
pub on_done : (P Q : Type 0) (r : Result ⊤ Misfit) (s : Result ⊤ Status) → (IsOk s ↔ IsOk r) → (P → Q) → OnOk r P → OnOk s Q
on_done P Q r (Err e) same more on = tt
on_done P Q (Ok x) (Ok y) same more on = more on
on_done P Q (Err e) (Ok y) same more on = absurd (false≢true (same.0 refl))

-- ---- a batch on a canvas whose origin is the same
pub at_origin : (x x' y y' : ℤ) → x' ≡ x → y' ≡ y → (ids : Option ℕ) (ds : List BatchDraw) (vs : List BatchVertex) (is : Option (List ℕ)) (fault : BatchFault)
    → FirstIs (batch_checks x' y' ids ds vs is) fault → FirstIs (batch_checks x y ids ds vs is) fault
at_origin x x' y y' same_x same_y ids ds vs is fault first =
    subst (λ b. FirstIs (batch_checks x b ids ds vs is) fault) same_y (subst (λ a. FirstIs (batch_checks a y' ids ds vs is) fault) same_x first)

-- ---- how many samples a pixel has
pub count_is : (samples : ℕ) → IsCount samples → count_of (pattern_of samples) ≡ max 1 samples
count_is samples (inl e) = rw e refl
count_is samples (inr (inl e)) = rw e refl
count_is samples (inr (inr (inl e))) = rw e refl
count_is samples (inr (inr (inr (inl e)))) = rw e refl
count_is samples (inr (inr (inr (inr (inl e))))) = rw e refl
count_is samples (inr (inr (inr (inr (inr e))))) = rw e refl

-- ---- what the caller gets
pub status_is : (checks : Checks Status) (r : Result ⊤ Status) (n : ℕ) → IsJudged checks (λ done. ⊤) r → MatchResult r (λ done. n ≡ 0) (λ failed. n ≡ status_number failed) → IsStatus checks n
status_is checks (Ok x) n judged ended = inl (judged.0, ended)
status_is checks (Err e) n judged ended = inr (e, judged, ended)

pub report_is : (checks : Checks Status) (IsFirst : Fault → Type 0) (r : Result ⊤ CallError) (n : ℕ) (error : Error) → IsCall checks IsFirst (λ done. ⊤) r → IsReported r n error → IsReport checks IsFirst n error
report_is checks IsFirst (Ok x) n error judged reported = inl (judged.0, reported.0, reported.1)
report_is checks IsFirst (Err e) n error judged reported = inr (e, judged, reported.0, reported.1)

-- how a call is judged that passes its checks and then reads or writes rows of pixels, which fit or not
pub fitted_is : (before : Checks Status) (Room : Type 0) (r : Result ⊤ Misfit) (s : Result ⊤ Status) → Pass before → (IsOk s ↔ IsOk r) → IfErr s (λ failed. failed ≡ BufferTooSmall) → (IsOk r ↔ Room)
    → IsJudged (followed_by before (check Room BufferTooSmall checked)) (λ done. ⊤) s
fitted_is before Room r (Ok x) passed same small room = (pass_both before (check Room BufferTooSmall checked) passed (room.0 (same.0 refl), record {}), record {})
fitted_is before Room r (Err e) passed same small room = fails_later before (check Room BufferTooSmall checked) e passed (inl ((λ fits. false≢true (same.1 (room.1 fits))), sym small))

-- ---- what a piece fails by is no list's and no batch's
pub piece_fault : (head : CanvasHead) (planes : ℕ) (failed : Status) → FirstIs (piece_checks head planes) failed → (failed ≢ BadList) × (failed ≢ BadBatch)
piece_fault head planes failed (inl a) = subst (λ s. (s ≢ BadList) × (s ≢ BadBatch)) a.1 ((λ h. cc), (λ h. cc))
piece_fault head planes failed (inr (a, inl b)) = subst (λ s. (s ≢ BadList) × (s ≢ BadBatch)) b.1 ((λ h. cc), (λ h. cc))
piece_fault head planes failed (inr (a, inr (b, inl c))) = subst (λ s. (s ≢ BadList) × (s ≢ BadBatch)) c.1 ((λ h. cc), (λ h. cc))
piece_fault head planes failed (inr (a, inr (b, inr (c, inl d)))) = subst (λ s. (s ≢ BadList) × (s ≢ BadBatch)) d.1 ((λ h. cc), (λ h. cc))
piece_fault head planes failed (inr (a, inr (b, inr (c, inr d)))) = absurd d.1
