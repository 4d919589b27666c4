use Rattle.std.proofs.Common.{◌≡◌, ◌∙◌, ℕ, take, replicate, length, get_or, true, leb, ap₂, arith}
use Rattle.std.proofs.lemmas.List.{length-take, length-replicate, get_or-take, get_or-replicate}
use Rattle.std.proofs.lemmas.Bool.{le-leb}
use Rattle.reach.proofs.Sixteen.{bit_compared}
use Rattle.reach.proofs.words.at_most.Goals as goal

pub returns : goal.returns
returns c bit less low =
    let bytes = c.args.bytes.now in
    let most : ℕ = c.args.most in
    let long : length (take 16 bytes) ≡ 16 = omega (arith, length-take 16 bytes, c.requires) in
    let lane : leb (get_or (take 16 bytes) bit 0) (get_or (replicate 16 most) bit 0) ≡ true =
    ap₂ leb (get_or-take 16 bytes bit 0 less) (get_or-replicate 16 bit most 0 less) ∙ le-leb (get_or bytes bit 0) most low in
    bit_compared leb (take 16 bytes) (replicate 16 most) long (length-replicate 16 most) bit less lane
