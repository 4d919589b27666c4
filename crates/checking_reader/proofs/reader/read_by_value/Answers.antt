use Rattle.std.proofs.Common.{inl, inr, ap, refl, ◌∙◌}
use Rattle.serde_json.specs.View.{view}
use Rattle.draw_list.specs.declared.fault.ReadFault.{ReadFault}
use Rattle.list_json.specs.Json.{json_of}
use Rattle.list_json.specs.Checks.{all_checks}
use Rattle.list_json.proofs.Bytes.{json_value, no_json}
use Rattle.checking_reader.proofs.Finish.{read_ok, read_only, read_first, is_first, not_denoted}
use Rattle.checking_reader.proofs.reader.read_by_value.Goals as goal

pub returns-clause-ok : goal.returns-clause-ok
returns-clause-ok c =
    let d = view c.in-Ok.value in
    let is = c.in-Ok.ensures.ok in
    read_ok c.args.bytes.now d (json_value c.args.bytes.now d is.0 is.1) c.read_value.result c.requires c.read_value.ensures.reported

pub returns-clause-only : goal.returns-clause-only
returns-clause-only c =
    let d = view c.in-Ok.value in
    let is = c.in-Ok.ensures.ok in
    read_only c.args.bytes.now d (json_value c.args.bytes.now d is.0 is.1) c.read_value.result c.read_value.ensures.reported

pub returns-clause-first : goal.returns-clause-first
returns-clause-first c =
    let d = view c.in-Ok.value in
    let is = c.in-Ok.ensures.ok in
    read_first c.args.bytes.now d (json_value c.args.bytes.now d is.0 is.1) c.read_value.result c.read_value.ensures.reported

pub returns-in-Err-clause-only : goal.returns-in-Err-clause-only
returns-in-Err-clause-only c l denotes =
    elim c.kind_of.ensures [
      | inl memory ↦ ap (λ (f : ReadFault). f.kind) c.outside.ensures ∙ memory.1
      | inr other ↦ absurd (not_denoted c.args.bytes.now (no_json c.args.bytes.now (λ utf8. c.in-Err.ensures.err other.0 utf8)) l denotes)
    ]

pub returns-in-Err-clause-first : goal.returns-in-Err-clause-first
returns-in-Err-clause-first c reported =
    elim c.kind_of.ensures [
      | inl memory ↦ absurd (reported (ap (λ (f : ReadFault). f.kind) c.outside.ensures ∙ memory.1))
      | inr other ↦
          let none = no_json c.args.bytes.now (λ utf8. c.in-Err.ensures.err other.0 utf8) in
          is_first (all_checks (json_of c.args.bytes.now)) c.outside.result (rw (none, c.outside.ensures, other.1) refl)
    ]

pub returns-clause-reached : goal.returns-clause-reached
returns-clause-reached c =
    let d = view c.in-Ok.value in
    let is = c.in-Ok.ensures.ok in
    rw (json_value c.args.bytes.now d is.0 is.1) c.read_value.ensures.reached
