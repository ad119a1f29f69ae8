use Rattle.std.proofs.Common.{rules, ap₂, codes, ◌≡◌, ◌∙◌}
use Rattle.std.proofs.lemmas.Result.{IfOk-weaker}
use Rattle.clap.specs.Words.{app_of, rule_of, with_rule}
use Rattle.run_words.specs.Command.{bare as bare_of, number_option}
use Rattle.run_words.specs.Ranges.{any_number}
use Rattle.v_show.proofs.options.command.Goals as goal

pub returns : goal.returns
returns c =
    let bare : app_of c.bare.result ≡ bare_of (codes "v_show") = search rules in
    let from : rule_of c.number_option-from.result ≡ number_option (codes "from") (codes "0") any_number = search rules in
    let to : rule_of c.number_option-to.result ≡ number_option (codes "to") (codes "4294967295") any_number = search rules in
    let one = c.in_ok-arg.ensures.shape c.number_option-from.ensures.local ∙ ap₂ with_rule bare from in
    let two = c.in_ok-arg-2.ensures.shape c.number_option-to.ensures.local ∙ ap₂ with_rule one to in
    IfOk-weaker c.arg-3.result _ _ (λ all h. h.shape c.steps_option-steps.ensures.local ∙ ap₂ with_rule two c.steps_option-steps.ensures.rule) c.arg-3.ensures
