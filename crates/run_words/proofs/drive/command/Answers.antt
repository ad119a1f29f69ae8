use Rattle.std.proofs.Common.{rules, ap₂, codes, ◌≡◌, ◌∙◌}
use Rattle.std.proofs.lemmas.Result.{IfOk-weaker}
use Rattle.clap.specs.Words.{app_of, with_rule}
use Rattle.run_words.specs.Command.{bare as bare_of}
use Rattle.run_words.proofs.drive.command.Goals as goal

pub returns : goal.returns
returns c =
    let bare : app_of c.bare.result ≡ bare_of (codes "v_drive") = search rules in
    IfOk-weaker c.arg.result _ _ (λ all h. h.shape c.steps_option-steps.ensures.local ∙ ap₂ with_rule bare c.steps_option-steps.ensures.rule) c.arg.ensures
