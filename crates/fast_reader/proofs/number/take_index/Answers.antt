use Rattle.std.proofs.lemmas.Option.{IfSome_then}
use Rattle.fast_reader.proofs.Numbers.{took_index}
use Rattle.fast_reader.proofs.number.take_index.Goals as goal

pub returns : goal.returns
returns c = IfSome_then c.index.result c.index.ensures (λ n is. took_index c.args.count c.in_ok-number.number n c.args.reader.now c.take_natural.new.self c.in_ok-number.ensures is.0 is.1)
