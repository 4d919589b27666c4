use Rattle.std.proofs.Common.{rules, IsSome, ◌≡◌, ◌∙◌, sym, ap, subst, pos, ◌-ℤ◌, ◌*ℤ◌, FitsSigned, to_z, of_z, w32}
use Rattle.grid.specs.Position.{IsInBand, IsInGuardBand}
use Rattle.canvas.specs.Window.{moved_position, clamped_to_i32}
use Rattle.canvas.proofs.Windows.{narrowed_position, position_same, clamped_in_band, in_band_clamped, some_with}
use Rattle.canvas.proofs.window.seen_point.Goals.{After-new}
use Rattle.canvas.proofs.window.seen_point.Goals as goal

across : (c : After-new) → to_z w32 (of_z w32 c.narrowed.result) ≡ clamped_to_i32 (c.args.p.x -ℤ pos 256 *ℤ c.args.origin.now.x)
across c =
    let p : FitsSigned w32 c.args.p.x = search rules in
    let x : FitsSigned w32 c.args.origin.now.x = search rules in
    narrowed_position c.args.p.x c.args.origin.now.x _ _ _ p x (c.from.ensures ∙ ap (λ z. to_z w32 (of_z w32 z)) c.x.ensures.value) c.from-2.ensures c.narrowed.ensures

down : (c : After-new) → to_z w32 (of_z w32 c.narrowed-2.result) ≡ clamped_to_i32 (c.args.p.y -ℤ pos 256 *ℤ c.args.origin.now.y)
down c =
    let p : FitsSigned w32 c.args.p.y = search rules in
    let y : FitsSigned w32 c.args.origin.now.y = search rules in
    narrowed_position c.args.p.y c.args.origin.now.y _ _ _ p y (c.from-3.ensures ∙ ap (λ z. to_z w32 (of_z w32 z)) c.y.ensures.value) c.from-4.ensures c.narrowed-2.ensures

band : (c : After-new) → IsSome c.new.result → IsInGuardBand (moved_position c.args.origin.now.x c.args.origin.now.y c.args.p)
band c s =
    let both = c.new.ensures.some.0 s in
    record { x = in_band_clamped _ (subst IsInBand (across c) both.0); y = in_band_clamped _ (subst IsInBand (down c) both.1) }

pub returns-clause-some : goal.returns-clause-some
returns-clause-some c = (
  (λ s. band c s),
  (λ h. c.new.ensures.some.1 (subst IsInBand (sym (clamped_in_band _ h.x) ∙ sym (across c)) h.x, subst IsInBand (sym (clamped_in_band _ h.y) ∙ sym (down c)) h.y)),
)

pub returns-clause-value : goal.returns-clause-value
returns-clause-value c = some_with c.new.result (band c) c.new.ensures.value (λ q b is. position_same q _ _ (is.0 ∙ across c ∙ clamped_in_band _ b.x) (is.1 ∙ down c ∙ clamped_in_band _ b.y))
