use Rattle.std.proofs.Common.{arith}
use Rattle.canvas.proofs.Moved.{all_move, all_return}
use Rattle.canvas.proofs.Views.{seen_alike, views_alike}
use Rattle.canvas.proofs.Windows.{ends_on_screen}
use Rattle.canvas.proofs.laws.moves_by_pixels.Goals as goal

pub returns-clause-sample : goal.returns-clause-sample
returns-clause-sample c = λ x y ts count i j column row s start end wide high across down.
    (all_return x y count i j column row s wide high across down ts start end, all_move x y count i j column row s wide high across down ts start end)

pub returns-clause-canvas : goal.returns-clause-canvas
returns-clause-canvas c = λ origin ts size first end old new within drawn.
    ends_on_screen origin ts size first end old new size.width_fits (omega (arith, within, size.height_fits)) drawn

pub returns-clause-anywhere : goal.returns-clause-anywhere
returns-clause-anywhere c = λ origin origin' ts count i j i' j' s start end same wide high wide' high'.
    seen_alike origin origin' count i j i' j' s same wide high wide' high' ts start end

pub returns-clause-windows : goal.returns-clause-windows
returns-clause-windows c = λ origin origin' ts size size' first end first' end' old new old' new' rows rows' counts drawn drawn' i j i' j' s h h' same start.
    views_alike origin origin' ts size size' first end first' end' old new old' new' rows rows' counts drawn drawn' i j i' j' s h h' same start
