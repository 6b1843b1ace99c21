use Rattle.std.proofs.Common.{◌≡◌, ◌∙◌, ap, ap₂, true}
use Rattle.std.proofs.lemmas.Result.{IfOk-weaker}
use Rattle.clap.specs.Words.{App, app_of, with_rule}
use Rattle.clap.specs.Simple.{app_of_fields}
use Rattle.colfind_run.specs.Command.{empty_command, first_options, options, table_rule, tailor_rule, strength_rule, variable_rule, pattern_rule}
use Rattle.colfind_run.proofs.settings.command_line.Goals as goal

pub returns : goal.returns
returns c =
    let bare = λ (a : App). record a { top = record a.top { no_binary_name = true; disable_help_flag = true } } in
    let empty_is : app_of c.disable_help_flag.result ≡ empty_command =
    ap app_of_fields c.disable_help_flag.ensures
    ∙ ap (λ f. app_of_fields (record f { disable_help_flag = true })) c.no_binary_name.ensures
    ∙ ap bare c.new.ensures.app in
    let s = c.strength_option.ensures.rule in
    let v = c.variable_option.ensures.rule in
    let with_table : app_of c.in_ok-arg.field-0 ≡ with_rule empty_command table_rule =
    c.in_ok-arg.ensures.shape c.table_option.ensures.local ∙ ap₂ with_rule empty_is c.table_option.ensures.rule in
    let with_tailor : app_of c.in_ok-arg-2.field-0 ≡ with_rule (with_rule empty_command table_rule) tailor_rule =
    c.in_ok-arg-2.ensures.shape c.tailor_option.ensures.local ∙ ap₂ with_rule with_table c.tailor_option.ensures.rule in
    let with_strength : app_of c.in_ok-arg-3.field-0 ≡ with_rule (with_rule (with_rule empty_command table_rule) tailor_rule) (strength_rule s.0) =
    c.in_ok-arg-3.ensures.shape c.strength_option.ensures.local ∙ ap₂ with_rule with_tailor s.1 in
    let with_variable : app_of c.in_ok-arg-4.field-0 ≡ with_rule (with_rule (with_rule (with_rule empty_command table_rule) tailor_rule) (strength_rule s.0)) (variable_rule v.0) =
    c.in_ok-arg-4.ensures.shape c.variable_option.ensures.local ∙ ap₂ with_rule with_strength v.1 in
    let o = c.output_option.ensures.rule in
    let with_output : app_of c.in_ok-arg-5.field-0 ≡ first_options s.0 v.0 o.0 =
    c.in_ok-arg-5.ensures.shape c.output_option.ensures.local ∙ ap₂ with_rule with_variable o.1 in
    let e = c.select_option.ensures.rule in
    let with_select : app_of c.in_ok-arg-6.field-0 ≡ options s.0 v.0 o.0 e.0 =
    c.in_ok-arg-6.ensures.shape c.select_option.ensures.local ∙ ap₂ with_rule with_output e.1 in
    let with_pattern : app_of c.in_ok-arg-7.field-0 ≡ with_rule (options s.0 v.0 o.0 e.0) pattern_rule =
    c.in_ok-arg-7.ensures.shape c.pattern_argument.ensures.local ∙ ap₂ with_rule with_select c.pattern_argument.ensures.rule in
    IfOk-weaker c.arg-8.result _ _ (λ r added.
    (s.0, v.0, o.0, e.0, s.2, v.2, o.2, e.2, added.shape c.text_argument.ensures.local ∙ ap₂ with_rule with_pattern c.text_argument.ensures.rule))
    c.arg-8.ensures
