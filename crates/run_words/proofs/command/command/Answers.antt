use Rattle.std.proofs.Common.{rules, ap₂, codes, ◌≡◌, ◌∙◌}
use Rattle.std.proofs.lemmas.Result.{IfOk-weaker}
use Rattle.clap.specs.Words.{app_of, rule_of, with_rule}
use Rattle.clap.specs.declared.builder.value_parser.ValueParser.TheVariants.{String}
use Rattle.run_words.specs.Command.{bare as bare_of, number_option, option}
use Rattle.run_words.specs.Ranges.{any_number, cpus_range, frames_range}
use Rattle.run_words.proofs.command.command.Goals as goal

pub returns : goal.returns
returns c =
    let bare : app_of c.bare.result ≡ bare_of (codes "v_run") = search rules in
    let mode : rule_of c.option-mode.result ≡ option (codes "mode") (codes "run") String = search rules in
    let cpus : rule_of c.number_option-cpus.result ≡ number_option (codes "cpus") (codes "1") cpus_range = search rules in
    let seed : rule_of c.number_option-seed.result ≡ number_option (codes "seed") (codes "0") any_number = search rules in
    let frames : rule_of c.number_option-frames.result ≡ number_option (codes "frames") (codes "64") frames_range = search rules in
    let one = c.in_ok-arg.ensures.shape c.option-mode.ensures.local ∙ ap₂ with_rule bare mode in
    let two = c.in_ok-arg-2.ensures.shape c.number_option-cpus.ensures.local ∙ ap₂ with_rule one cpus in
    let three = c.in_ok-arg-3.ensures.shape c.steps_option-steps.ensures.local ∙ ap₂ with_rule two c.steps_option-steps.ensures.rule in
    let four = c.in_ok-arg-4.ensures.shape c.number_option-seed.ensures.local ∙ ap₂ with_rule three seed in
    IfOk-weaker c.arg-5.result _ _ (λ all h. h.shape c.number_option-frames.ensures.local ∙ ap₂ with_rule four frames) c.arg-5.ensures
