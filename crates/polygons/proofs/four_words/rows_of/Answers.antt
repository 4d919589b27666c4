use Rattle.std.proofs.Common.{refl, ap, ◌∙◌, arith, ◌*◌, ◌/◌, ◌%◌, ◌^◌, w64, slice_index}
use Rattle.std.specs.Int.{bit_at}
use Rattle.std.proofs.lemmas.Simd.{get_or_narrower, below_from_Fits}
use Rattle.polygons.proofs.ByteSums.{byte_power}
use Rattle.polygons.proofs.MaskLanes.{bit_of_part}
use Rattle.polygons.proofs.four_words.rows_of.Goals as goal

pub returns-clause-each : goal.returns-clause-each
returns-clause-each c w r j hw hr hj =
    let word = slice_index c.args.words w in
    ap (λ n. bit_at n j) (get_or_narrower (2 ^ 64) 8 (2 ^ 8) 32 c.args.words w r refl (below_from_Fits w64 c.args.words c.fits-words.1) hr (omega arith) ∙ ap (λ n. word / n % 2 ^ 8) (byte_power r)) ∙ bit_of_part word (8 * r) 8 j hj
