use Rattle.std.proofs.Common.{◌≡◌, ℕ, ◌<◌, ◌≤◌, [], ◌∷◌, ◌++◌, Option, Some, length, map, sum_by, arith, rules, refl, sym, ap, ◌∙◌}
use Rattle.std.proofs.lemmas.Result.{err_from_is_err_and}
use Rattle.std.proofs.lemmas.List.{map-append, drop_all}
use Rattle.std.proofs.lemmas.List.Sums.{sum_by-append}
use Rattle.serde_json.specs.View.{view, items_view}
use Rattle.draw_list.specs.declared.fault.ReadFault.{ReadFault}
use Rattle.checks.specs.FirstFault.{first_fault}
use Rattle.draw_list.specs.declared.fault.ReadKind.TheVariants.{OutOfMemory}
use Rattle.list_json.specs.Checks.{numbered_draw_checks, triangles_counted}
use Rattle.draw_list.specs.Fault.{fault_in_draw}
use Rattle.list_json.specs.Denotes.{IsDraw}
use Rattle.draw_list.specs.Primitives.{count_of_triangles}
use Rattle.draw_list.specs.Listing.{draw_listing, DrawListing}
use Rattle.list_json.proofs.Counts.{given_is}
use Rattle.checking_reader.proofs.Draws.{draw_fails, draw_passes}
use Rattle.checking_reader.proofs.ArrayElements.{one_more, all_read}
use Rattle.checking_reader.proofs.Memory.{passed_to_vertices}
use Rattle.checking_reader.proofs.Reached.{one_more_passed, reached_draw}
use Rattle.checking_reader.proofs.reader.draws_of.Goals as goal

of_draw : (fault : ReadFault) (n : ℕ) → fault.draw ≡ Some n → fault_in_draw n fault.kind ≡ fault
of_draw fault n named = ap (λ (draw : Option ℕ). record { kind = fault.kind; draw = draw }) (sym named)

pub returns-in_err-next-clause-reported : goal.returns-in_err-next-clause-reported
returns-in_err-next-clause-reported c =
    let within : c.loop-number.number < length c.args.list.now = omega arith in
    let fault = c.in_err-next.field-0.0 in
    let p = err_from_is_err_and c.from_residual.result c.from_residual.ensures.1 in
    rw (p.1, p.2) (λ other. draw_fails c.args.list.now _ _ c.index-list-number.result fault.kind within c.index-list-number.is c.loop-number.invariant.passed (c.in_err-next.ensures.reported other) ∙ ap Some (of_draw fault c.loop-number.number c.in_err-next.ensures.named))

pub returns-in_err-next-clause-reached : goal.returns-in_err-next-clause-reached
returns-in_err-next-clause-reached c =
    let within : c.loop-number.number < length c.args.list.now = omega arith in
    let fault = c.in_err-next.field-0.0 in
    let p = err_from_is_err_and c.from_residual.result c.from_residual.ensures.1 in
    let reached = reached_draw c.args.list.now _ _ c.index-list-number.result fault.kind within c.index-list-number.is c.loop-number.invariant.before c.in_err-next.ensures.memory in
    rw (p.1, p.2) (c.loop-number.number, c.in_err-next.ensures.named, reached)

pub returns-then-is_err-clause-reached : goal.returns-then-is_err-clause-reached
returns-then-is_err-clause-reached c =
    let within : c.loop-number.number < length c.args.list.now = omega arith in
    let begun = passed_to_vertices c.loop-number.earlier (view c.index-list-number.result) c.in_ok-next.ensures.reported.0 in
    rw c.in_draw.ensures (c.loop-number.number, refl, reached_draw c.args.list.now _ _ c.index-list-number.result OutOfMemory within c.index-list-number.is c.loop-number.invariant.before (λ memory. begun))

pub loop-number-preserved : goal.loop-number-preserved
loop-number-preserved c =
    let vs = c.args.list.now in
    let i = c.loop-number.number in
    let next = draw_listing c.in_ok-next.next in
    let within : i < length vs = omega arith in
    let reported = c.in_ok-next.ensures.reported in
    let pushed : c.push.new.self.items ≡ c.loop-number.found.items ++ c.in_ok-next.next ∷ [] = search rules in
    let listed : map draw_listing c.push.new.self.items ≡ map draw_listing c.loop-number.found.items ++ next ∷ [] =
    ap (map draw_listing) pushed ∙ map-append draw_listing c.loop-number.found.items (c.in_ok-next.next ∷ []) in
    let read = one_more (IsDraw c.args.picture) vs i c.index-list-number.result _ next within c.index-list-number.is reported.1 c.loop-number.invariant.read in
    let passed = draw_passes vs i c.loop-number.earlier c.index-list-number.result within c.index-list-number.is c.loop-number.invariant.passed reported.0 in
    let counted = given_is _ _ _ _ next.primitives reported.1.primitives in
    let triangles : c.triangles-earlier.result ≡ triangles_counted (view c.index-list-number.result) = omega (arith, counted) in
    let total = ap (sum_by (λ (d : DrawListing). count_of_triangles d.primitives)) listed ∙ sum_by-append (λ (d : DrawListing). count_of_triangles d.primitives) (map draw_listing c.loop-number.found.items) (next ∷ []) in
    record {
      passed = rw triangles passed;
      before = rw triangles (one_more_passed vs i c.loop-number.earlier c.index-list-number.result within c.index-list-number.is c.loop-number.invariant.before reported.0);
      read = rw listed read;
      counted = omega (arith, total);
      room = omega (arith, c.in_ok-next.ensures.room);
    }

pub returns-clause-reported : goal.returns-clause-reported
returns-clause-reported c =
    let vs = c.args.list.now in
    let past : length vs ≤ c.loop-number.number = omega arith in (
      sym c.loop-number.invariant.passed ∙ ap (λ xs. first_fault (numbered_draw_checks c.loop-number.number c.loop-number.earlier (items_view xs))) (drop_all _ vs past),
      (
        all_read (IsDraw c.args.picture) vs _ _ past c.loop-number.invariant.read,
        omega (arith, c.loop-number.invariant.counted, c.loop-number.invariant.room),
      ),
    )
