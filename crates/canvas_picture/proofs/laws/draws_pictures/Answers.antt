use Rattle.canvas_picture.proofs.Pictures.{is_picture}
use Rattle.canvas_picture.proofs.laws.draws_pictures.Goals as goal

pub returns : goal.returns
returns c = λ l canvas batches samples old bytes colours of listed made size resolved. is_picture l canvas batches samples of listed made old bytes colours size resolved
