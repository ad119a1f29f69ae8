-- What the words of a command line ask for, and which are taken.
use Rattle.std.specs.Prelude.{◌≡◌, ℕ, Bool, List, Result, Ok, Err, Option, Some, None, codes, if◌then◌else◌, option_and_then, option_map}
use Rattle.std.specs.Bool.{then_some}
use Rattle.std.specs.Str.{bytes_eq}
use Rattle.std.specs.Str.Parse.{digits_value, without_leading_plus}
use Rattle.clap.specs.Words.{App, Row, Text, first_of, one_of, matches_of, fault_of}
use Rattle.clap.specs.Walk.{is_empty}
use Rattle.clap.specs.ValueTests.{is_unsigned_in}
use Rattle.clap.specs.declared.error.kind.ErrorKind.{ErrorKind}
use Rattle.clap.specs.declared.error.kind.ErrorKind.TheVariants.{OutOfMemory}
use Rattle.run_words.specs.declared.options.Mode.{Mode}
use Rattle.run_words.specs.declared.options.Mode.TheVariants.{Run, Journal, Gen, Check, Page}
use Rattle.run_words.specs.declared.options.Options.{Options}
use Rattle.run_words.specs.declared.options.WordsFault.{WordsFault}
use Rattle.run_words.specs.declared.options.WordsFault.TheVariants.{NoMemory, Refused}
use Rattle.run_words.specs.declared.ranges.NumberRange.{NumberRange}
use Rattle.run_words.specs.Command.{command, drive_command}
use Rattle.run_words.specs.Ranges.{is_in, any_number, cpus_range, steps_range, frames_range}

-- ---- values

-- the mode of that name
abbrev pub mode_named : Text → Option Mode
mode_named name = if bytes_eq name (codes "run") then Some Run else (if bytes_eq name (codes "journal") then Some Journal else (if bytes_eq name (codes "gen") then Some Gen else (if bytes_eq name (codes "check") then Some Check else (if bytes_eq name (codes "page") then Some Page else None))))

abbrev pub mode_in : List Row → Option Mode
mode_in rows = option_and_then mode_named (first_of (codes "mode") rows)

-- the number that decimal digits write, perhaps behind a plus, where it is below 2^32
abbrev pub number : Text → Option ℕ
number text = if is_unsigned_in 0 4294967295 text then Some (digits_value 10 (without_leading_plus text)) else None

abbrev pub number_in : Text → List Row → Option ℕ
number_in name rows = option_and_then number (one_of name rows)

-- where it is one of these
abbrev pub number_within : Text → NumberRange → List Row → Option ℕ
number_within name numbers rows = option_and_then (λ n. then_some (is_in numbers n) n) (number_in name rows)

-- ---- words of any command

-- the command finds no fault in the words
abbrev pub are_taken : App → List Text → Bool
are_taken app words = is_empty (fault_of app words)

-- what words ask for that a command takes, by what is read of its matches
abbrev pub asked : {A : Type 0} → App → (List Row → Option A) → List Text → Option A
asked app read words = if are_taken app words then read (matches_of app words) else None

-- why a parse failed
abbrev pub fault_by : ErrorKind → WordsFault
fault_by OutOfMemory = NoMemory
fault_by _ = Refused

-- P where words were refused
abbrev pub IfRefused : {A : Type 0} → Result A WordsFault → Type 0 → Type 0
IfRefused (Err Refused) P = P
IfRefused _ P = Unit {0}

-- The words ask for what was read; or they aren't taken, or memory ran out.
abbrev pub IsReading : {A : Type 0} → Option A → Result A WordsFault → Type 0
IsReading meant (Ok a) = meant ≡ Some a
IsReading meant (Err NoMemory) = Unit {0}
IsReading meant (Err Refused) = meant ≡ None

-- ---- a run

-- what the values ask for that were found for the options
unfoldable pub options_in : List Row → Option Options
options_in rows =
    option_and_then (λ mode.
    option_and_then (λ cpus.
    option_and_then (λ steps.
    option_and_then (λ seed.
    option_map (λ frames. record { mode = mode; cpus = cpus; steps = steps; seed = seed; frames = frames })
    (number_within (codes "frames") frames_range rows))
    (number_within (codes "seed") any_number rows))
    (number_within (codes "steps") steps_range rows))
    (number_within (codes "cpus") cpus_range rows))
    (mode_in rows)

-- What the words ask for, where the command takes them.
unfoldable pub options : List Text → Option Options
options words = asked command options_in words

-- what no words ask for
abbrev pub by_default : Options
by_default = record { mode = Run; cpus = 1; steps = 1000000; seed = 0; frames = 64 }

-- ---- the board by hand

-- How many steps the words allow, where its command takes them.
unfoldable pub steps_allowed : List Text → Option ℕ
steps_allowed words = asked drive_command (number_within (codes "steps") steps_range) words
