-- What words ask for, by what a command finds in them.
use Rattle.std.proofs.Common.{◌≡◌, true, false, List, [], ◌∷◌, Option, Some, None, refl, sym, ap, ◌∙◌, ◌⊎◌, inl, inr, Result, Err, arith}
use Rattle.std.proofs.lemmas.Bool.{and_parts, ne_eqb}
use Rattle.std.specs.Option.{ok_or}
use Rattle.clap.specs.Words.{App, IsAmong, Kinds, Row, Text, fault_of, is_simple, is_simple_and_free, matches_of}
use Rattle.clap.specs.Walk.{is_empty}
use Rattle.clap.specs.declared.error.kind.ErrorKind.{ErrorKind}
use Rattle.clap.specs.declared.error.kind.ErrorKind.TheVariants.{OutOfMemory}
use Rattle.run_words.specs.declared.options.WordsFault.{WordsFault}
use Rattle.run_words.specs.declared.options.WordsFault.TheVariants.{NoMemory, Refused}
use Rattle.run_words.specs.Options.{are_taken, asked, fault_by, IfRefused, IsReading}

-- ---- what a parse says of words

pub no_fault : (app : App) (words : List Text) → fault_of app words ≡ [] → are_taken app words ≡ true
no_fault app words none = ap (λ (kinds : Kinds). is_empty kinds) none

some_kind : (kinds : Kinds) (kind : ErrorKind) → IsAmong kind kinds → is_empty kinds ≡ false
some_kind [] kind among = absurd among
some_kind (k ∷ ks) kind among = ne_eqb _ _ (λ e. absurd (omega (arith, e)))

pub is_fault : (app : App) (words : List Text) (kind : ErrorKind) → IsAmong kind (fault_of app words) → are_taken app words ≡ false
is_fault app words kind among = some_kind (fault_of app words) kind among

-- a parse that fails
pub refused_by : (A : Type 0) (app : App) (words : List Text) (kind : ErrorKind) → (kind ≡ OutOfMemory) ⊎ IsAmong kind (fault_of app words)
    → IfRefused {A = A} (Err (fault_by kind)) (are_taken app words ≡ false)
refused_by A app words kind (inl memory) = rw memory tt
refused_by A app words kind (inr among) = go (fault_by kind)
  where
    go : (f : WordsFault) → IfRefused {A = A} (Err f) (are_taken app words ≡ false)
    go NoMemory = tt
    go Refused = is_fault app words kind among

pub simple_of : (app : App) → is_simple_and_free app ≡ true → is_simple app ≡ true
simple_of app both = (and_parts (is_simple app) _ both).0

-- ---- what words ask for

-- words that are taken ask for what their matches do
pub asked_so : {A : Type 0} (app : App) (read : List Row → Option A) (words : List Text) → are_taken app words ≡ true → asked app read words ≡ read (matches_of app words)
asked_so app read words taken = rw taken refl

-- others for nothing
pub not_asked : {A : Type 0} (app : App) (read : List Row → Option A) (words : List Text) → are_taken app words ≡ false → asked app read words ≡ None
not_asked app read words refused = rw refused refl

meant_so : {A : Type 0} (meant o : Option A) (r : Result A WordsFault) → o ≡ meant → r ≡ ok_or o Refused → IsReading meant r
meant_so meant (Some x) r is made = rw made (sym is)
meant_so meant None r is made = rw made (sym is)

-- what is read of the matches of words that are taken is what the words ask for
pub read_so : {A : Type 0} (app : App) (read : List Row → Option A) (words : List Text) (rows : List Row) (o : Option A) (r : Result A WordsFault) → are_taken app words ≡ true
    → rows ≡ matches_of app words → o ≡ read rows → r ≡ ok_or o Refused → IsReading (asked app read words) r
read_so app read words rows o r taken is found made = meant_so (asked app read words) o r (found ∙ ap read is ∙ sym (asked_so app read words taken)) made

-- where the parse failed
pub failed_so : {A : Type 0} (B : Type 0) (app : App) (read : List Row → Option A) (words : List Text) (f : WordsFault) → IfRefused {A = B} (Err f) (are_taken app words ≡ false)
    → IsReading (asked app read words) (Err f)
failed_so B app read words NoMemory refused = tt
failed_so B app read words Refused refused = not_asked app read words refused
