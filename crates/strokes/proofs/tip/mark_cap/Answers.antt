use Rattle.std.proofs.Common.{rules, ◌≡◌, false}
use Rattle.strokes.specs.Cap.{CapCovers}
use Rattle.strokes.proofs.MarkedPieces.{shape_as}
use Rattle.strokes.proofs.tip.mark_cap.Goals as goal

pub returns-then-not-style : goal.returns-then-not-style
returns-then-not-style c =
    let style = c.args.style in
    let open_path : style.is_closed ≡ false = search rules in
    shape_as c.args.blocks.now _ (λ p. (style.is_closed ≡ false) × CapCovers style.cap c.args.at c.args.next style.width p) _ _ c.mark.ensures
    (λ p. let at = c.cap.ensures p in (λ h. (open_path, at.0 h), λ h. at.1 (h.1)))
