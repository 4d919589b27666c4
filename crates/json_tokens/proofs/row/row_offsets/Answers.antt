use Rattle.std.proofs.Common.{◌+◌, ◌-◌, ◌%◌}
use Rattle.std.proofs.lemmas.Simd.{zip2_splat, length-chunk}
use lib.Lanes.{chunk}
use Rattle.json_tokens.proofs.row.row_offsets.Goals as goal

pub returns : goal.returns
returns c =
    let text = c.args.bytes.now in
    zip2_splat (λ x y. (x + (256 - y)) % 256) (chunk c.args.from 64 text) 64 48 (length-chunk c.args.from 64 text c.requires)
