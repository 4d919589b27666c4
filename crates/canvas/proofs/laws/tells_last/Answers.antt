use Rattle.canvas.proofs.DrawnIds.{tells}
use Rattle.canvas.proofs.laws.tells_last.Goals as goal

pub returns : goal.returns
returns c = λ ts n count i j s start end e. tells ts n count i j s start end e
