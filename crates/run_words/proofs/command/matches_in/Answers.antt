use Rattle.std.proofs.Common.{◌≡◌, ◌∙◌, ◌⊎◌, false, Err, ap, map, subst, sym}
use Rattle.std.specs.String.{string_bytes}
use Rattle.clap.specs.Words.{HasKind, IsAmong, Kinds, app_of, fault_of, kind_of, matches_of}
use Rattle.clap.specs.declared.error.kind.ErrorKind.TheVariants.{OutOfMemory}
use Rattle.clap.specs.declared.parser.matches.ArgMatches.{ArgMatches}
use Rattle.run_words.specs.declared.options.WordsFault.{WordsFault}
use Rattle.run_words.specs.Options.{are_taken, fault_by, IfRefused}
use Rattle.run_words.proofs.Taken.{no_fault, refused_by, simple_of}
use Rattle.run_words.proofs.command.matches_in.Goals as goal

pub returns-in-Ok-clause-taken : goal.returns-in-Ok-clause-taken
returns-in-Ok-clause-taken c =
    let app = app_of c.args.command in
    let given : map string_bytes c.as_slice.result.now ≡ c.args.words.now = c.as_slice.ensures in
    no_fault app c.args.words.now (ap (fault_of app) (sym given) ∙ c.in-Ok.ensures.kinds c.requires)

pub returns-in-Ok-clause-matches : goal.returns-in-Ok-clause-matches
returns-in-Ok-clause-matches c =
    let app = app_of c.args.command in
    (c.in-Ok.ensures.matches (simple_of app c.requires)).0 ∙ ap (matches_of app) c.as_slice.ensures

pub returns-in-Err-clause-refused : goal.returns-in-Err-clause-refused
returns-in-Err-clause-refused c =
    let app = app_of c.args.command in
    let words = c.args.words.now in
    let error = c.in-Err.error in
    let given : map string_bytes c.as_slice.result.now ≡ words = c.as_slice.ensures in
    let failed : (kind_of error ≡ OutOfMemory) ⊎ IsAmong (kind_of error) (fault_of app words) = subst (λ (k : Kinds). HasKind k error) (ap (fault_of app) given) (c.in-Err.ensures.kinds c.requires) in
    subst (λ (f : WordsFault). IfRefused {A = ArgMatches} (Err f) (are_taken app words ≡ false)) (sym (c.fault_by.ensures ∙ ap fault_by c.kind.ensures)) (refused_by ArgMatches app words (kind_of error) failed)
