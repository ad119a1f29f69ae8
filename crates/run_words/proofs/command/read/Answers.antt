use Rattle.std.proofs.Common.{◌≡◌, ◌∙◌, true, false, ap, subst, Err, sym}
use Rattle.std.proofs.lemmas.Result.{IfOk-weaker}
use Rattle.std.proofs.lemmas.Result.{err_from_is_err_and}
use Rattle.clap.specs.Words.{App, app_of, found_of, is_simple_and_free, matches_of, rows_of}
use Rattle.clap.specs.declared.parser.matches.ArgMatches.{ArgMatches}
use Rattle.run_words.specs.Command.{command}
use Rattle.run_words.specs.Options.{are_taken, IfRefused, options, options_in}
use Rattle.run_words.proofs.Runs.{by_default_so, command_is_free}
use Rattle.run_words.proofs.Taken.{failed_so, read_so}
use Rattle.run_words.proofs.Within.{AreIn, read_in_ranges}
use Rattle.run_words.proofs.command.read.Goals as goal

pub matches_in-requires : goal.matches_in-requires
matches_in-requires c = ap is_simple_and_free c.in_ok-command.ensures ∙ command_is_free

pub returns-in_err-matches-clause-meant : goal.returns-in_err-matches-clause-meant
unfolding options
returns-in_err-matches-clause-meant c =
    let words = c.args.words.now in
    let fault = c.in_err-matches.field-0.0 in
    let failed = err_from_is_err_and c.from_residual-in_err-matches.result c.from_residual-in_err-matches.ensures.1 in
    let refused : IfRefused {A = ArgMatches} (Err fault) (are_taken command words ≡ false) =
    subst (λ (app : App). IfRefused {A = ArgMatches} (Err fault) (are_taken app words ≡ false)) c.in_ok-command.ensures c.in_err-matches.ensures.refused in
    rw (failed.1, failed.2) (failed_so ArgMatches command options_in words fault refused)

pub returns-clause-meant : goal.returns-clause-meant
unfolding options
returns-clause-meant c =
    let words = c.args.words.now in
    let is : app_of c.in_ok-command.command ≡ command = c.in_ok-command.ensures in
    let taken : are_taken command words ≡ true = ap (λ app. are_taken app words) (sym is) ∙ c.in_ok-matches.ensures.taken in
    let rows : rows_of (found_of c.in_ok-matches.matches) ≡ matches_of command words = c.in_ok-matches.ensures.matches ∙ ap (λ app. matches_of app words) is in
    read_so command options_in words _ c.options_in.result c.ok_or.result taken rows c.options_in.ensures c.ok_or.ensures.value

pub returns-clause-cpus : goal.returns-clause-cpus
returns-clause-cpus c = IfOk-weaker c.ok_or.result _ _ (λ o (within : AreIn o). within.cpus) (read_in_ranges c.args.words.now c.ok_or.result (returns-clause-meant c))

pub returns-clause-steps : goal.returns-clause-steps
returns-clause-steps c = IfOk-weaker c.ok_or.result _ _ (λ o (within : AreIn o). within.steps) (read_in_ranges c.args.words.now c.ok_or.result (returns-clause-meant c))

pub returns-clause-frames : goal.returns-clause-frames
returns-clause-frames c = IfOk-weaker c.ok_or.result _ _ (λ o (within : AreIn o). within.frames) (read_in_ranges c.args.words.now c.ok_or.result (returns-clause-meant c))

pub returns-clause-default : goal.returns-clause-default
returns-clause-default c none = by_default_so c.args.words.now c.ok_or.result none (returns-clause-meant c)
