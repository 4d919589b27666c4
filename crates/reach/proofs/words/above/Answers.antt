use Rattle.std.proofs.Common.{◌≡◌, ◌∙◌, ℕ, take, replicate, length, get_or, true, ltb, ap₂, arith}
use Rattle.std.proofs.lemmas.List.{length-take, length-replicate, get_or-take, get_or-replicate}
use Rattle.std.proofs.lemmas.Bool.Decides.{Decides-ltb}
use Rattle.reach.proofs.Sixteen.{bit_compared}
use Rattle.reach.proofs.words.above.Goals as goal

pub returns : goal.returns
returns c bit less high =
    let bytes = c.args.bytes.now in
    let least : ℕ = c.args.least in
    let long : length (take 16 bytes) ≡ 16 = omega (arith, length-take 16 bytes, c.requires) in
    let lane : ltb (get_or (replicate 16 least) bit 0) (get_or (take 16 bytes) bit 0) ≡ true =
    ap₂ ltb (get_or-replicate 16 bit least 0 less) (get_or-take 16 bytes bit 0 less) ∙ (Decides-ltb least (get_or bytes bit 0)).1 high in
    bit_compared ltb (replicate 16 least) (take 16 bytes) (length-replicate 16 least) long bit less lane
