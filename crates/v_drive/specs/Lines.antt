-- What lines ask for, and what is written of it.
use Rattle.std.specs.Prelude.{◌≡◌, ℕ, ◌+◌, ◌<◌, List, [], ◌∷◌, ◌++◌, length, Option, Some, None}
use Rattle.journal_text.specs.Lines.{journal_text}
use Rattle.drive_text.specs.declared.lines.Line.{Line}
use Rattle.drive_text.specs.declared.lines.Line.TheVariants.{Operation, Journal}
use Rattle.drive_text.specs.Answers.{answer_line}
use Rattle.drive_text.specs.Lines.{line_text}
use Rattle.drive_text.specs.Ranges.{BeginsWithNoLine}
use Rattle.cache_board.specs.board_ops.specs.declared.answers.Answer.{Answer}
use Rattle.cache_board.specs.board_core.specs.Core.{Recorded}
use Rattle.cache_board.specs.Desks.{Desktop}
use Rattle.cache_board.specs.Drive.{IsAnswered}

-- the lines of answers
abbrev pub answers_text : List Answer → List ℕ
answers_text [] = []
answers_text (answer ∷ more) = answer_line answer ++ answers_text more

-- An operation is made on the board and the desk, and the line of its answer is written; or the journal so far is.
abbrev pub IsDone : Line → Recorded → Desktop → List ℕ → Recorded → Desktop → Type 0
IsDone (Operation op) old desk text new laid = (answer : Answer) × IsAnswered op old desk answer new laid × (text ≡ answer_line answer)
IsDone Journal old desk text new laid = (text ≡ journal_text old.journal.entries) × (new ≡ old) × (laid ≡ desk)

-- lines one after another, each on the board and the desk that those before it left
abbrev pub AreDone : List Line → Recorded → Desktop → List ℕ → Recorded → Desktop → Type 0
AreDone [] old desk text new laid = (text ≡ []) × (new ≡ old) × (laid ≡ desk)
AreDone (line ∷ more) old desk text new laid =
    (first : List ℕ) × (behind : List ℕ) × (between : Recorded) × (lain : Desktop) × IsDone line old desk first between lain × AreDone more between lain behind new laid × (text ≡ first ++ behind)

-- the text of lines, each ended by a line feed
abbrev pub lines_text : List Line → List ℕ
lines_text [] = []
lines_text (line ∷ more) = line_text line ++ lines_text more

-- Nothing stands behind lines; or something that begins with no line, and this is its number, where those before it were
-- counted from a number on.
abbrev pub EndsAt : Option ℕ → ℕ → List Line → List ℕ → Type 0
EndsAt None number said tail = tail ≡ []
EndsAt (Some line) number said tail = (line ≡ number + length said) × (0 < length tail) × BeginsWithNoLine tail

-- The bytes are lines, with nothing behind them or with what is none, and what they ask for was done.
pub record IsTaken (bytes : List ℕ) (number : ℕ) (fault : Option ℕ) (old : Recorded) (desk : Desktop) (text : List ℕ) (new : Recorded) (laid : Desktop) : Type 0 where
  pub said : List Line
  pub tail : List ℕ
  pub split : bytes ≡ lines_text said ++ tail
  pub done : AreDone said old desk text new laid
  pub ends : EndsAt fault number said tail
