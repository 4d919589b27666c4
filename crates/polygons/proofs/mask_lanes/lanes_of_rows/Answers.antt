use Rattle.std.proofs.Common.{◌∙◌, arith, ℕ, List, ◌++◌, ◌/◌, get_or}
use Rattle.std.proofs.lemmas.List.{get_or_append_left}
use Rattle.std.proofs.lemmas.List.FromFn.{get_or-map-range_with_len}
use Rattle.polygons.proofs.mask_lanes.lanes_of_rows.Goals as goal

pub returns-clause-each : goal.returns-clause-each
returns-clause-each c p l =
    let rows : List ℕ = c.args.rows in
    get_or-map-range_with_len (λ (k : ℕ). get_or (rows ++ rows) (k / 8) 0) 0 64 p p 0 l (omega arith) ∙ get_or_append_left rows rows 0 (p / 8) (omega (arith, l, c.requires))
