use Rattle.std.proofs.lemmas.Option.{IfSome_then}
use Rattle.fast_reader.proofs.Numbers.{took_up_to}
use Rattle.fast_reader.proofs.number.take_depth.Goals as goal

pub returns : goal.returns
returns c = IfSome_then c.depth.result c.depth.ensures (λ n is. took_up_to 65535 c.in_ok-number.number n c.args.reader.now c.take_natural.new.self c.in_ok-number.ensures is.0 is.1)
