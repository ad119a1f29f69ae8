-- Words by examples: some that are taken, each with what it asks for, and some that aren't.
use Rattle.std.specs.Prelude.{◌≡◌, List, [], ◌∷◌, Some, None, codes, map}
use Rattle.clap.specs.Words.{Text}
use Rattle.run_words.specs.declared.options.Mode.TheVariants.{Journal, Gen, Check, Page}
use Rattle.run_words.specs.declared.options.Options.{Options}
use Rattle.run_words.specs.Options.{options, by_default}

-- Each option alone, at both ends of its range; its name and its value in two words or in one; several in any order; a number
-- behind a plus or behind zeros; and `--` at the end.
abbrev pub taken : List (List Text × Options)
taken =
    ([], by_default)
    ∷ (codes "--mode" ∷ codes "run" ∷ [], by_default)
    ∷ (codes "--mode" ∷ codes "journal" ∷ [], record by_default { mode = Journal })
    ∷ (codes "--mode=gen" ∷ [], record by_default { mode = Gen })
    ∷ (codes "--mode=check" ∷ [], record by_default { mode = Check })
    ∷ (codes "--mode=page" ∷ [], record by_default { mode = Page })
    ∷ (codes "--cpus" ∷ codes "1" ∷ [], by_default)
    ∷ (codes "--cpus=8" ∷ [], record by_default { cpus = 8 })
    ∷ (codes "--steps" ∷ codes "1" ∷ [], record by_default { steps = 1 })
    ∷ (codes "--steps=1000000" ∷ [], by_default)
    ∷ (codes "--seed" ∷ codes "0" ∷ [], by_default)
    ∷ (codes "--seed=4294967295" ∷ [], record by_default { seed = 4294967295 })
    ∷ (codes "--frames" ∷ codes "2" ∷ [], record by_default { frames = 2 })
    ∷ (codes "--frames=2048" ∷ [], record by_default { frames = 2048 })
    ∷ (codes "--seed" ∷ codes "7" ∷ codes "--mode=gen" ∷ codes "--frames" ∷ codes "9" ∷ codes "--steps=10" ∷ codes "--cpus" ∷ codes "2" ∷ [], record { mode = Gen; cpus = 2; steps = 10; seed = 7; frames = 9 })
    ∷ (codes "--steps" ∷ codes "+5" ∷ [], record by_default { steps = 5 })
    ∷ (codes "--steps=005" ∷ [], record by_default { steps = 5 })
    ∷ (codes "--cpus" ∷ codes "3" ∷ codes "--" ∷ [], record by_default { cpus = 3 })
    ∷ []

-- What is no option; an option without its value, with an empty one, or twice, also with the same value; a mode that isn't
-- there; a number outside of its range or not decimal; a name cut short or written otherwise; help and version; and anything
-- behind `--`.
abbrev pub refused : List (List Text)
refused =
    (codes "x" ∷ [])
    ∷ ([] ∷ [])
    ∷ (codes "run" ∷ [])
    ∷ (codes "--mode" ∷ [])
    ∷ (codes "--mode=" ∷ [])
    ∷ (codes "--mode" ∷ codes "pages" ∷ [])
    ∷ (codes "--mode" ∷ codes "Run" ∷ [])
    ∷ (codes "--mode" ∷ codes "run" ∷ codes "journal" ∷ [])
    ∷ (codes "--mode" ∷ codes "run" ∷ codes "--mode" ∷ codes "run" ∷ [])
    ∷ (codes "--steps=5" ∷ codes "--steps=6" ∷ [])
    ∷ (codes "--cpus" ∷ codes "--steps" ∷ codes "5" ∷ [])
    ∷ (codes "--cpus=0" ∷ [])
    ∷ (codes "--cpus=9" ∷ [])
    ∷ (codes "--steps=0" ∷ [])
    ∷ (codes "--steps=1000001" ∷ [])
    ∷ (codes "--seed" ∷ codes "-1" ∷ [])
    ∷ (codes "--seed=4294967296" ∷ [])
    ∷ (codes "--seed=0x10" ∷ [])
    ∷ (codes "--frames=1" ∷ [])
    ∷ (codes "--frames=2049" ∷ [])
    ∷ (codes "--cpu=1" ∷ [])
    ∷ (codes "--Cpus=1" ∷ [])
    ∷ (codes "-c" ∷ codes "1" ∷ [])
    ∷ (codes "--help" ∷ [])
    ∷ (codes "-h" ∷ [])
    ∷ (codes "--version" ∷ [])
    ∷ (codes "--" ∷ codes "--mode" ∷ codes "run" ∷ [])
    ∷ []

abbrev pub AreTaken : Type 0
AreTaken = map (λ e. options e.0) taken ≡ map (λ e. Some e.1) taken

abbrev pub AreRefused : Type 0
AreRefused = map options refused ≡ map (λ words. None) refused
