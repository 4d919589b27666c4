use Rattle.std.proofs.Common.{◌≡◌, take, ◌<◌, ◌∙◌, sym, subst}
use Rattle.std.specs.Int.Digits.{number_from_digits}
use Rattle.json_tokens.proofs.Eights.{moved, moved_is, moved_value, moved_below}
use Rattle.json_tokens.proofs.eight.number.Goals as goal

pub eight-requires : goal.eight-requires
eight-requires c =
    let v = c.args.offsets in
    (moved c.args.count v, moved_is v c.args.count c.index-word.result.now c.requires c.index-word.ensures)

pub returns-clause-value : goal.returns-clause-value
returns-clause-value c =
    let v = c.args.offsets in
    c.eight.ensures (moved c.args.count v) (moved_is v c.args.count c.index-word.result.now c.requires c.index-word.ensures) ∙ moved_value v c.args.count

pub returns-clause-below : goal.returns-clause-below
returns-clause-below c =
    let v = c.args.offsets in
    let value : c.eight.result ≡ number_from_digits 10 (take c.args.count v) =
    c.eight.ensures (moved c.args.count v) (moved_is v c.args.count c.index-word.result.now c.requires c.index-word.ensures) ∙ moved_value v c.args.count in
    subst (λ n. n < 100000000) (sym value) (moved_below v c.args.count c.index-word.result.now c.requires c.index-word.ensures)
