use Rattle.std.proofs.Common.{rules, ◌≡◌, ◌∙◌, refl, sym, ap, subst, true, false, map, codes, Option, Some, None, option_map, List}
use Rattle.std.proofs.lemmas.Result.{err_from_is_err_and}
use Rattle.std.proofs.lemmas.Option.{same_Some}
use Rattle.std.specs.Result.{result_err}
use Rattle.clap.specs.Words.{Text, app_of, is_simple, is_simple_and_free, rule_of}
use Rattle.program_input.specs.declared.line_fault.LineFault.TheVariants as fault
use Rattle.program_input.proofs.Matches.{asked_for_help, named, flagged}
use Rattle.why.specs.Arguments.{plain_rule, why_app, IsFlag, IsSampleNamed, flag_text}
use Rattle.why.specs.Arguments.{named as named_in}
use Rattle.why.proofs.CommandLine.{adds, flag_is, form_is, is_absent}
use Rattle.why.proofs.arguments.read_arguments.Goals as goal

pub returns-in_err-matches-clause-help : goal.returns-in_err-matches-clause-help
returns-in_err-matches-clause-help c reported =
    let p = err_from_is_err_and c.from_residual-in_err-matches.result c.from_residual-in_err-matches.ensures.1 in
    let pixel_is : rule_of c.action-pixel.result ≡ plain_rule (codes "pixel") = search rules in
    let app_is : app_of c.in_ok-command.command ≡ why_app =
    adds _ _ _ _ _ c.in_ok-command.ensures (adds _ _ _ _ _ c.in_ok-arg-4.ensures (adds _ _ _ _ _ c.in_ok-arg-3.ensures (adds _ _ _ _ _ c.in_ok-arg-2.ensures (adds _ _ _ _ _ c.in_ok-arg.ensures c.new-2.ensures.app pixel_is (search rules)) c.option.ensures.rule c.option.ensures.local) c.option-2.ensures.rule c.option-2.ensures.local) c.option-3.ensures.rule c.option-3.ensures.local) c.option-4.ensures.rule c.option-4.ensures.local in
    let has = c.in_err-matches.ensures.kinds (ap is_simple_and_free app_is) in
    let help : p.0 ≡ fault.Help = same_Some _ _ (ap result_err (sym p.1 ∙ reported)) in
    asked_for_help (app_of c.in_ok-command.command) why_app (map (λ word. word.now) c.args.arguments.now) _ _ _ app_is p.2 refl help has

pub returns-in-Some-clause-question : goal.returns-in-Some-clause-question
returns-in-Some-clause-question c =
    let pixel_is : rule_of c.action-pixel.result ≡ plain_rule (codes "pixel") = search rules in
    let app_is : app_of c.in_ok-command.command ≡ why_app =
    adds _ _ _ _ _ c.in_ok-command.ensures (adds _ _ _ _ _ c.in_ok-arg-4.ensures (adds _ _ _ _ _ c.in_ok-arg-3.ensures (adds _ _ _ _ _ c.in_ok-arg-2.ensures (adds _ _ _ _ _ c.in_ok-arg.ensures c.new-2.ensures.app pixel_is (search rules)) c.option.ensures.rule c.option.ensures.local) c.option-2.ensures.rule c.option-2.ensures.local) c.option-3.ensures.rule c.option-3.ensures.local) c.option-4.ensures.rule c.option-4.ensures.local in
    let texts = map (λ word. word.now) c.args.arguments.now in
    let value = λ (id : Text). named (app_of c.in_ok-command.command) why_app texts c.in_ok-matches.matches id app_is refl c.in_ok-matches.ensures.matches in
    let set = λ (id : Text). flagged (app_of c.in_ok-command.command) why_app texts c.in_ok-matches.matches id app_is refl c.in_ok-matches.ensures.matches in
    let json : IsFlag (flag_text (codes "json") texts) c.get_flag-json.result = flag_is _ _ _ (set (codes "json")) c.get_flag-json.ensures.value c.get_flag-json.ensures.other in
    let all : IsFlag (flag_text (codes "all") texts) c.get_flag-all.result = flag_is _ _ _ (set (codes "all")) c.get_flag-all.ensures.value c.get_flag-all.ensures.other in
    let e = c.in-Some.ensures in
    record {
      text = c.in-Some-None.pixel.now;
      pixel = sym (value (codes "pixel")) ∙ sym c.get_str-pixel.ensures ∙ ap (option_map (λ t. t.now)) c.in-Some-None.is-0;
      alone = sym (value (codes "triangle")) ∙ sym c.get_str-triangle.ensures ∙ ap (option_map (λ t. t.now)) c.in-Some-None.is-1;
      place = e.place;
      sample = subst (λ (t : Option Text). IsSampleNamed t c.in-Some.asked.sample) (c.get_str-sample.ensures ∙ value (codes "sample")) e.sample;
      all = subst (IsFlag (flag_text (codes "all") texts)) (sym e.flags.0) all;
      form = form_is _ _ _ json (e.flags.1 ∙ c.form_of.ensures);
    }

pub returns-in-Some-triangle_asked-clause-question : goal.returns-in-Some-triangle_asked-clause-question
returns-in-Some-triangle_asked-clause-question c =
    let pixel_is : rule_of c.action-pixel.result ≡ plain_rule (codes "pixel") = search rules in
    let app_is : app_of c.in_ok-command.command ≡ why_app =
    adds _ _ _ _ _ c.in_ok-command.ensures (adds _ _ _ _ _ c.in_ok-arg-4.ensures (adds _ _ _ _ _ c.in_ok-arg-3.ensures (adds _ _ _ _ _ c.in_ok-arg-2.ensures (adds _ _ _ _ _ c.in_ok-arg.ensures c.new-2.ensures.app pixel_is (search rules)) c.option.ensures.rule c.option.ensures.local) c.option-2.ensures.rule c.option-2.ensures.local) c.option-3.ensures.rule c.option-3.ensures.local) c.option-4.ensures.rule c.option-4.ensures.local in
    let texts = map (λ word. word.now) c.args.arguments.now in
    let value = λ (id : Text). named (app_of c.in_ok-command.command) why_app texts c.in_ok-matches.matches id app_is refl c.in_ok-matches.ensures.matches in
    let set = λ (id : Text). flagged (app_of c.in_ok-command.command) why_app texts c.in_ok-matches.matches id app_is refl c.in_ok-matches.ensures.matches in
    let json : IsFlag (flag_text (codes "json") texts) c.get_flag-json.result = flag_is _ _ _ (set (codes "json")) c.get_flag-json.ensures.value c.get_flag-json.ensures.other in
    let all : IsFlag (flag_text (codes "all") texts) c.get_flag-all.result = flag_is _ _ _ (set (codes "all")) c.get_flag-all.ensures.value c.get_flag-all.ensures.other in
    let none = is_absent c.get_str-sample.result c.is_none.result c.is_none.ensures c.if-is_none.true in
    let unset : c.get_flag-all.result ≡ false = search rules in
    let e = c.in-Some-triangle_asked.ensures in
    record {
      text = c.in-None-Some.triangle.now;
      triangle = sym (value (codes "triangle")) ∙ sym c.get_str-triangle.ensures ∙ ap (option_map (λ t. t.now)) c.in-None-Some.is-1;
      alone = (
        sym (value (codes "pixel")) ∙ sym c.get_str-pixel.ensures ∙ ap (option_map (λ t. t.now)) c.in-None-Some.is-0,
        sym (value (codes "sample")) ∙ sym c.get_str-sample.ensures ∙ ap (option_map (λ t. t.now)) none,
      );
      all = subst (IsFlag (flag_text (codes "all") texts)) unset all;
      place = e.place;
      form = form_is _ _ _ json (e.form ∙ c.form_of-in-None-Some.ensures);
    }
