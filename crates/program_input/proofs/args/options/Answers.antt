use Rattle.std.proofs.Common.{rules, ◌≡◌, ℕ, Option, Some, None, IfSome, IsSome, Bor, false, true, subst, map, codes, option_map, refl, ap, ap₂, sym, ◌∙◌}
use Rattle.clap.specs.Words.{Text, app_of, is_simple_and_free, rule_of, with_rule}
use Rattle.std.proofs.lemmas.Result.{err_from_is_err_and}
use Rattle.std.proofs.lemmas.Option.{same_Some}
use Rattle.std.specs.Result.{result_err}
use Rattle.program_input.specs.declared.line_fault.LineFault.TheVariants as fault
use Rattle.program_input.specs.Args.{option_rule, trirast_app, matched, IsNumberText}
use Rattle.program_input.proofs.Matches.{asked_for_help, named, no_fault}
use Rattle.program_input.proofs.args.options.Goals as goal

number_named : (found : Option (Bor Text)) (value : Option Text) (n : ℕ) → option_map (λ t. t.now) found ≡ value → IfSome found (λ t. IsNumberText t.now n) → IsSome found
    → IfSome value (λ t. IsNumberText t n) × IsSome value
number_named None value n is number some = let bad : false ≡ true = some in absurd (cc)
number_named (Some t) value n is number some =
    let Names : Option Text → Type 0 = λ o. IfSome o (λ t. IsNumberText t n) × IsSome o in
    subst Names is (number, refl)

pub returns-in_err-matches-clause-help : goal.returns-in_err-matches-clause-help
returns-in_err-matches-clause-help c reported =
    let p = err_from_is_err_and c.from_residual-in_err-matches.result c.from_residual-in_err-matches.ensures.1 in
    let tile_is : rule_of c.default_value-tile.result ≡ option_rule (codes "tile") (codes "32") = search rules in
    let workers_is : rule_of c.default_value-workers.result ≡ option_rule (codes "workers") (codes "4") = search rules in
    let app_is : app_of c.in_ok-command.command ≡ trirast_app = c.in_ok-command.ensures.shape (search rules)
    ∙ ap₂ with_rule (c.in_ok-arg.ensures.shape (search rules) ∙ ap₂ with_rule c.new-3.ensures.app tile_is) workers_is in
    let has = c.in_err-matches.ensures.kinds (ap is_simple_and_free app_is) in
    let help : p.0 ≡ fault.Help = same_Some _ _ (ap result_err (sym p.1 ∙ reported)) in
    asked_for_help (app_of c.in_ok-command.command) trirast_app (map (λ word. word.now) c.args.arguments.now) _ _ _ app_is p.2 refl help has

pub returns-clause-tile : goal.returns-clause-tile
returns-clause-tile c =
    let tile_is : rule_of c.default_value-tile.result ≡ option_rule (codes "tile") (codes "32") = search rules in
    let workers_is : rule_of c.default_value-workers.result ≡ option_rule (codes "workers") (codes "4") = search rules in
    let app_is : app_of c.in_ok-command.command ≡ trirast_app = c.in_ok-command.ensures.shape (search rules)
    ∙ ap₂ with_rule (c.in_ok-arg.ensures.shape (search rules) ∙ ap₂ with_rule c.new-3.ensures.app tile_is) workers_is in
    let texts = map (λ word. word.now) c.args.arguments.now in
    let none = c.in_ok-matches.ensures.kinds (ap is_simple_and_free app_is) in
    let value = named (app_of c.in_ok-command.command) trirast_app texts c.in_ok-matches.matches (codes "tile") app_is refl c.in_ok-matches.ensures.matches in
    (no_fault (app_of c.in_ok-command.command) trirast_app texts app_is none, sym value ∙ (sym c.get_str.ensures ∙ c.in-Some.ensures))

pub returns-clause-workers : goal.returns-clause-workers
returns-clause-workers c =
    let tile_is : rule_of c.default_value-tile.result ≡ option_rule (codes "tile") (codes "32") = search rules in
    let workers_is : rule_of c.default_value-workers.result ≡ option_rule (codes "workers") (codes "4") = search rules in
    let app_is : app_of c.in_ok-command.command ≡ trirast_app = c.in_ok-command.ensures.shape (search rules)
    ∙ ap₂ with_rule (c.in_ok-arg.ensures.shape (search rules) ∙ ap₂ with_rule c.new-3.ensures.app tile_is) workers_is in
    let texts = map (λ word. word.now) c.args.arguments.now in
    let value = named (app_of c.in_ok-command.command) trirast_app texts c.in_ok-matches.matches (codes "workers") app_is refl c.in_ok-matches.ensures.matches in
    let number = c.in-Some-workers_named.ensures in
    let both = number_named c.get_str-2.result (matched (codes "workers") texts) c.in-Some-workers_named.workers (c.get_str-2.ensures ∙ value) number.2 number.3 in
    (number.0, number.1, both.0, both.1)
