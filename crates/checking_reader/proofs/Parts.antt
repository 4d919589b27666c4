-- The vertices of a draw, and the primitives over them.
use Rattle.std.proofs.Common.{◌≡◌, ap, ◌∙◌, ℕ, List, length, map, Option, None}
use Rattle.std.specs.Option.{option_or}
use Rattle.serde_json.specs.Data.{Data}
use Rattle.draw_list.specs.declared.draw.Vertex.{Vertex}
use Rattle.draw_list.specs.declared.fault.ReadKind.{ReadKind}
use Rattle.list_json.specs.Json.{elements, count}
use Rattle.checks.specs.FirstFault.{first_fault}
use Rattle.list_json.specs.Checks.{KindChecks, where_there, vertices_checks, primitive_checks, part_checks, positions_written}
use Rattle.list_json.specs.Denotes.{IsArrayOf, IsVertex}
use Rattle.list_json.proofs.Corners.{same_places}
use Rattle.list_json.proofs.Counts.{items_len_each}
use Rattle.checks.proofs.Faults.{first_fault_of_both}

-- the first fault of the primitives is that of the vertices and primitives, if the vertices pass
pub parts_answer : (earlier : ℕ) (v t s q : Option Data) (vs : List Vertex) (answer : Option ReadKind) → first_fault (where_there vertices_checks v) ≡ None → IsArrayOf 65536 IsVertex v vs
    → first_fault (primitive_checks earlier (length vs) (map (λ v. v.at) vs) t s q) ≡ answer → first_fault (part_checks earlier v t s q) ≡ answer
parts_answer earlier v t s q vs answer passed is reported =
    let many = items_len_each IsVertex (elements v) vs is.parts in
    let places = same_places (elements v) vs is.parts in
    let lists : KindChecks = primitive_checks earlier (count v) (positions_written (elements v)) t s q in
    let first : first_fault lists ≡ answer = rw (many, places) reported in
    first_fault_of_both (where_there vertices_checks v) lists ∙ (ap (λ o. option_or o (first_fault lists)) passed ∙ first)
