use Rattle.fast_reader.proofs.TakenArrays.{took_triangle}
use Rattle.fast_reader.proofs.index_lists.TriangleReaderElementReader.take.Goals as goal

pub returns : goal.returns
returns c =
    took_triangle c.args.self.now.count c.args.reader.now c.take_three.new.self c.in_ok-first.first c.in_ok-first.second c.in_ok-first.third
    c.in_ok-first-2.first c.in_ok-second.second c.in_ok-third.third c.in_ok-first.ensures c.in_ok-first-2.ensures c.in_ok-second.ensures c.in_ok-third.ensures
