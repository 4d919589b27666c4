use Rattle.std.proofs.Common.{◌∙◌, arith}
use Rattle.polygons.proofs.ByteSums.{added}
use Rattle.polygons.proofs.byte_sums.with_counters.Goals as goal

pub returns : goal.returns
returns c f g a b =
    let all = added c.args.firsts c.args.bytes.now _ _ (record { long = a.whole; each = a.each }) (record { long = b.whole; each = b.each }) in
    record {
      whole = all.long;
      small = λ i h. (let p = a.small i h in let q = b.small i h in omega arith);
      each = λ i h. all.each i h ∙ omega arith;
    }
