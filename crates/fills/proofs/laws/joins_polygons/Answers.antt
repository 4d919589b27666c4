use Rattle.fills.proofs.Batches.{paint_both}
use Rattle.fills.proofs.Once.{canvases_alike}
use Rattle.fills.proofs.laws.joins_polygons.Goals as goal

pub returns-clause-joined : goal.returns-clause-joined
returns-clause-joined c = λ ps qs origin canvas first end old middle new before rest i j s h.
    paint_both ps qs canvas.count _ _ s _ _ _ (before i j s h) (rest i j s h)

pub returns-clause-windows : goal.returns-clause-windows
returns-clause-windows c = λ ps origin origin' canvas canvas' first end first' end' old new old' new' counts painted painted' i j i' j' s h h' same start.
    canvases_alike ps origin origin' canvas canvas' first end first' end' old new old' new' counts painted painted' i j i' j' s h h' same start
