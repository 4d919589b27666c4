use Rattle.std.proofs.Common.{ℕ, List, ◌+◌, ◌++◌, ◌∙◌, ap, map, sym, get_or, get_or-append-add, arith}
use Rattle.std.proofs.lemmas.List.{get_or_append_left}
use Rattle.std.specs.List.{range_with_len}
use Rattle.raster.proofs.PixelRow.{interleaved_is}
use Rattle.raster.proofs.pixel_row.interleaved.Goals as goal

pub returns-clause-bytes : goal.returns-clause-bytes
returns-clause-bytes c i h =
    let r : List ℕ = c.args.r in
    let g : List ℕ = c.args.g in
    let b : List ℕ = c.args.b in
    let all = interleaved_is (λ k. get_or (r ++ g) k 0) (λ k. get_or (r ++ g) (8 + k) 0) (λ k. get_or (b ++ b) k 0) (map (λ k. get_or (b ++ b) k 0) (range_with_len 8 8)) i h in (
      all.0 ∙ get_or_append_left r g 0 i (omega (arith, c.requires.red)),
      all.1 ∙ ap (λ n. get_or (r ++ g) (n + i) 0) (sym c.requires.red) ∙ get_or-append-add r g i 0,
      all.2 ∙ get_or_append_left b b 0 i (omega (arith, c.requires.blue)),
    )
