use Rattle.std.proofs.Common.{rules, ◌∙◌}
use Rattle.clap.specs.Words.{found_of}
use Rattle.run_words.proofs.Found.{no_mode_found, named_mode_found}
use Rattle.run_words.proofs.command.mode_in.Goals as goal

pub returns-in_err-get_str : goal.returns-in_err-get_str
returns-in_err-get_str c =
    let none = no_mode_found (found_of c.args.matches.now) c.get_str.result c.get_str.ensures c.in_err-get_str.was in
    search rules

pub returns : goal.returns
returns c = c.named.ensures ∙ named_mode_found (found_of c.args.matches.now) c.get_str.result c.in_ok-get_str.field-0 c.get_str.ensures c.in_ok-get_str.was
