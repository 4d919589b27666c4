-- No check outside of vertices and primitives reports out of memory. Which checks have passed before the vertices of a draw are
-- read.
use Rattle.std.proofs.Common.{◌≡◌, ◌≢◌, ℕ, [], ◌∷◌, ◌++◌, Bool, true, false, ◌||◌, cond, Option, Some, None, is_none, codes, refl}
use Rattle.std.specs.List.{AllByRecursion}
use Rattle.serde_json.specs.Data.{Data}
use Rattle.serde_json.specs.Find.{get}
use Rattle.draw_list.specs.declared.fault.ReadKind.{ReadKind}
use Rattle.draw_list.specs.declared.fault.ReadKind.TheVariants.{WrongKind, OutOfRange, OutOfMemory}
use Rattle.list_json.specs.Json.{elements, count}
use Rattle.list_json.specs.Keys.{output_words, cull_words, depth_test_words, blend_words}
use Rattle.checks.specs.FirstFault.{first_fault}
use Rattle.list_json.specs.Checks.{KindChecks, where_there, word_checks, truth_checks, write_mask_checks, sample_mask_checks, scissor_checks, sample_count_checks, colour_checks, depth_checks, clear_checks, top_checks, array_checks, each, vertex_checks, positions_written, merge_checks, state_value_checks, vertices_checks, primitive_checks, part_checks, draw_opening_checks, has_no_list, is_absent, draw_value_checks, checks_before_vertices}
use Rattle.checks.proofs.Faults.{all_pass, both_pass, both_passed}

-- no check reports out of memory
abbrev NoneReportsMemory : KindChecks → Type 0
NoneReportsMemory checks = AllByRecursion (λ p. p.reported ≢ OutOfMemory) checks

not_reported : (b : Bool) (kind : ReadKind) (rest : Option ReadKind) → kind ≢ OutOfMemory → (rest ≡ Some OutOfMemory → ⊥) → cond b (Some kind) rest ≡ Some OutOfMemory → ⊥
not_reported true kind rest other later e = other (cc)
not_reported false kind rest other later e = later e

never : (ps : KindChecks) → NoneReportsMemory ps → first_fault ps ≡ Some OutOfMemory → ⊥
never [] none e = cc
never (p ∷ ps) none e = not_reported p.fails p.reported (first_fault ps) none.0 (never ps none.1) e

both_report : (ps qs : KindChecks) → NoneReportsMemory ps → NoneReportsMemory qs → NoneReportsMemory (ps ++ qs)
both_report [] qs p q = q
both_report (x ∷ ps) qs p q = (p.0, both_report ps qs p.1 q)

wrong_kind : WrongKind ≢ OutOfMemory
wrong_kind e = cc

out_of_range : OutOfRange ≢ OutOfMemory
out_of_range e = cc

there_reports : (checks : Option Data → KindChecks) (value : Option Data) → ((v : Data) → NoneReportsMemory (checks (Some v))) → NoneReportsMemory (where_there checks value)
there_reports checks None each = tt
there_reports checks (Some v) each = each v

-- ---- a draw's state

merge_reports : (d : Data) → NoneReportsMemory (merge_checks d)
unfolding merge_checks
merge_reports d =
    let tests : KindChecks = where_there (word_checks depth_test_words) (get (codes "depth_test") d) in
    let depths : KindChecks = where_there truth_checks (get (codes "depth_write") d) in
    let blends : KindChecks = where_there (word_checks blend_words) (get (codes "blend") d) in
    let masks : KindChecks = where_there write_mask_checks (get (codes "write") d) in
    let test = there_reports (word_checks depth_test_words) (get (codes "depth_test") d) (λ v. (wrong_kind, (out_of_range, tt))) in
    let depth = there_reports truth_checks (get (codes "depth_write") d) (λ v. (wrong_kind, tt)) in
    let blend = there_reports (word_checks blend_words) (get (codes "blend") d) (λ v. (wrong_kind, (out_of_range, tt))) in
    let mask = there_reports write_mask_checks (get (codes "write") d) (λ v. (wrong_kind, (wrong_kind, (wrong_kind, (wrong_kind, tt))))) in
    both_report tests (depths ++ (blends ++ masks)) test (both_report depths (blends ++ masks) depth (both_report blends masks blend mask))

state_reports : (d : Data) → NoneReportsMemory (state_value_checks d)
unfolding state_value_checks
state_reports d =
    let culls : KindChecks = where_there (word_checks cull_words) (get (codes "cull") d) in
    let masks : KindChecks = where_there sample_mask_checks (get (codes "sample_mask") d) in
    let scissors : KindChecks = where_there scissor_checks (get (codes "scissor") d) in
    let sides : (v : Data) → NoneReportsMemory (scissor_checks (Some v)) = λ v. (wrong_kind, (wrong_kind, (out_of_range, (wrong_kind, (out_of_range, (wrong_kind, (out_of_range, (wrong_kind, (out_of_range, tt))))))))) in
    let scissor = there_reports scissor_checks (get (codes "scissor") d) sides in
    let mask = there_reports sample_mask_checks (get (codes "sample_mask") d) (λ v. (wrong_kind, (out_of_range, tt))) in
    let cull = there_reports (word_checks cull_words) (get (codes "cull") d) (λ v. (wrong_kind, (out_of_range, tt))) in
    both_report culls (merge_checks d ++ (masks ++ scissors)) cull
    (both_report (merge_checks d) (masks ++ scissors) (merge_reports d) (both_report masks scissors mask scissor))

pub state_never : (d : Data) → first_fault (state_value_checks d) ≡ Some OutOfMemory → ⊥
state_never d = never (state_value_checks d) (state_reports d)

-- ---- the top object

clear_reports : (d : Data) → NoneReportsMemory (clear_checks d)
unfolding clear_checks
clear_reports d =
    let counts : KindChecks = where_there sample_count_checks (get (codes "samples") d) in
    let colours : KindChecks = where_there colour_checks (get (codes "clear") d) in
    let depths : KindChecks = where_there depth_checks (get (codes "clear_depth") d) in
    let outputs : KindChecks = where_there (word_checks output_words) (get (codes "output") d) in
    let channels : (v : Data) → NoneReportsMemory (colour_checks (Some v)) = λ v. (wrong_kind, (wrong_kind, (out_of_range, (wrong_kind, (out_of_range, (wrong_kind, (out_of_range, tt))))))) in
    let count = there_reports sample_count_checks (get (codes "samples") d) (λ v. (wrong_kind, (out_of_range, tt))) in
    let colour = there_reports colour_checks (get (codes "clear") d) channels in
    let depth = there_reports depth_checks (get (codes "clear_depth") d) (λ v. (wrong_kind, (out_of_range, tt))) in
    let output = there_reports (word_checks output_words) (get (codes "output") d) (λ v. (wrong_kind, (out_of_range, tt))) in
    both_report counts (colours ++ (depths ++ outputs)) count (both_report colours (depths ++ outputs) colour (both_report depths outputs depth output))

array_reports : (most : ℕ) (value : Option Data) → NoneReportsMemory (array_checks most value)
array_reports most value = (wrong_kind, ((λ e. cc), tt))

top_reports : (d : Data) → NoneReportsMemory (top_checks d)
unfolding top_checks
top_reports d =
    let draws = get (codes "draws") d in
    let rest = both_report (clear_checks d) (array_checks 1024 draws) (clear_reports d) (array_reports 1024 draws) in
    (wrong_kind, ((λ e. cc), ((λ e. cc), (wrong_kind, (out_of_range, (wrong_kind, (out_of_range, rest)))))))

pub top_never : (d : Data) → first_fault (top_checks d) ≡ Some OutOfMemory → ⊥
top_never d = never (top_checks d) (top_reports d)

-- ---- what has passed when vertices are begun

-- if the vertices pass, they are an array that is not too long
pub array_passed : (value : Option Data) → is_none value ≡ false → first_fault (where_there vertices_checks value) ≡ None → first_fault (array_checks 65536 value) ≡ None
unfolding vertices_checks
array_passed None there none = absurd (cc)
array_passed (Some d) there none = (both_passed (array_checks 65536 (Some d)) (each vertex_checks (elements (Some d))) none).0

first_is_false : (b c : Bool) → (b || c) ≡ false → b ≡ false
first_is_false true c e = e
first_is_false false c e = refl

-- if a draw passes, so do its checks before its vertices
pub passed_to_vertices : (earlier : ℕ) (d : Data) → first_fault (draw_value_checks earlier d) ≡ None → first_fault (checks_before_vertices d) ≡ None
passed_to_vertices earlier d none =
    let vertices = get (codes "vertices") d in
    let triangles = get (codes "triangles") d in
    let strip = get (codes "strip") d in
    let quads = get (codes "quads") d in
    let primitives : KindChecks = primitive_checks earlier (count vertices) (positions_written (elements vertices)) triangles strip quads in
    let both = both_passed (draw_opening_checks d) (part_checks earlier vertices triangles strip quads) none in
    let opened = all_pass (draw_opening_checks d) both.0 in
    let parts = both_passed (where_there vertices_checks vertices) primitives both.1 in
    both_pass (draw_opening_checks d) (array_checks 65536 vertices) both.0 (array_passed vertices (first_is_false (is_absent (codes "vertices") d) (has_no_list d) opened.1.1.0) parts.0)
