use Rattle.std.proofs.Common.{◌≡◌, ◌∙◌, true, false, ap, subst, Err, codes, sym}
use Rattle.std.proofs.lemmas.Result.{err_from_is_err_and}
use Rattle.clap.specs.Words.{App, app_of, found_of, is_simple_and_free, matches_of, rows_of}
use Rattle.clap.specs.declared.parser.matches.ArgMatches.{ArgMatches}
use Rattle.run_words.specs.Command.{drive_command}
use Rattle.run_words.specs.Options.{are_taken, IfRefused, number_within, steps_allowed}
use Rattle.run_words.specs.Ranges.{steps_range}
use Rattle.run_words.proofs.Runs.{drive_command_is_free}
use Rattle.run_words.proofs.Taken.{failed_so, read_so}
use Rattle.run_words.proofs.drive.read_steps.Goals as goal

pub matches_in-requires : goal.matches_in-requires
matches_in-requires c = ap is_simple_and_free c.in_ok-command.ensures ∙ drive_command_is_free

pub returns-in_err-matches : goal.returns-in_err-matches
unfolding steps_allowed
returns-in_err-matches c =
    let words = c.args.words.now in
    let fault = c.in_err-matches.field-0.0 in
    let failed = err_from_is_err_and c.from_residual-in_err-matches.result c.from_residual-in_err-matches.ensures.1 in
    let refused : IfRefused {A = ArgMatches} (Err fault) (are_taken drive_command words ≡ false) =
    subst (λ (app : App). IfRefused {A = ArgMatches} (Err fault) (are_taken app words ≡ false)) c.in_ok-command.ensures c.in_err-matches.ensures.refused in
    rw (failed.1, failed.2) (failed_so ArgMatches drive_command (number_within (codes "steps") steps_range) words fault refused)

pub returns : goal.returns
unfolding steps_allowed
returns c =
    let words = c.args.words.now in
    let is : app_of c.in_ok-command.command ≡ drive_command = c.in_ok-command.ensures in
    let taken : are_taken drive_command words ≡ true = ap (λ app. are_taken app words) (sym is) ∙ c.in_ok-matches.ensures.taken in
    let rows : rows_of (found_of c.in_ok-matches.matches) ≡ matches_of drive_command words = c.in_ok-matches.ensures.matches ∙ ap (λ app. matches_of app words) is in
    read_so drive_command (number_within (codes "steps") steps_range) words _ c.number_within.result c.ok_or.result taken rows c.number_within.ensures c.ok_or.ensures.value
