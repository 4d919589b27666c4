use Rattle.std.proofs.Common.{refl, sym, ap, ◌∙◌, ◌+◌, ◌*◌, ◌^◌, ◌<◌, w8}
use Rattle.std.specs.Int.{bit_at}
use Rattle.std.specs.Simd.Lanes.{number_l, chunk}
use Rattle.std.proofs.lemmas.Simd.{get_or_wider, get_or-chunk, Each1-chunk, below_from_Fits}
use Rattle.polygons.proofs.ByteSums.{byte_of}
use Rattle.polygons.proofs.MaskLanes.{bit_of_part}
use Rattle.polygons.proofs.four_words.words_of.Goals as goal

pub returns-clause-each : goal.returns-clause-each
returns-clause-each c w r j hw hr hj =
    let rows = c.args.rows in
    let bytes = chunk (8 * w) 8 rows in
    let below = below_from_Fits w8 rows c.fits-rows.1 in
    ap (λ n. bit_at n (8 * r + j)) (get_or_wider (2 ^ 8) 8 (2 ^ 64) 4 rows w refl below hw) ∙ sym (bit_of_part (number_l (2 ^ 8) bytes) (8 * r) 8 j hj)
    ∙ ap (λ n. bit_at n j) (byte_of bytes r (Each1-chunk (λ x. x < 2 ^ 8) (8 * w) 8 rows below) ∙ get_or-chunk (8 * w) 8 rows r 0 hr)
