use Rattle.std.proofs.Common.{refl, sym, ◌∙◌}
use Rattle.checking_reader.proofs.KnownKeys.{has_other_member-view}
use Rattle.checking_reader.proofs.keys.check_keys.Goals as goal

pub returns-then-has_key_beside : goal.returns-then-has_key_beside
returns-then-has_key_beside c =
    let known = sym (has_other_member-view c.args.names.now c.in-Some.object.now.entries) ∙ (sym c.has_key_beside.ensures ∙ c.if-has_key_beside.true) in
    rw (← c.in-Some.ensures, known) refl

pub returns : goal.returns
returns c =
    let known = sym (has_other_member-view c.args.names.now c.in-Some.object.now.entries) ∙ (sym c.has_key_beside.ensures ∙ c.if-has_key_beside.false) in
    rw (← c.in-Some.ensures, known) (refl, (refl, refl))
