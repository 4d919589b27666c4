use Rattle.canvas_picture.proofs.Depths.{is_picture}
use Rattle.canvas_picture.proofs.laws.draws_depths.Goals as goal

pub returns : goal.returns
returns c = λ l canvas batches samples old depths bytes shows of listed made size written pairs. is_picture l canvas batches samples of listed made old depths bytes shows size written pairs
