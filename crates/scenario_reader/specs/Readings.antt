-- A scenario while it is read: where its lines stand, and what they declared so far.
use Rattle.std.specs.Prelude.{◌≡◌, ℕ, ◌+◌, ◌==◌, nat_le, not, List, [], ◌∷◌, ◌++◌, length, Option, Some, None, Result, Ok, Err, MatchResult, ◌⊎◌}
use Rattle.cache_ident.specs.declared.names.SpaceNo.{SpaceNo}
use Rattle.cache_ident.specs.declared.names.ThreadNo.{ThreadNo}
use Rattle.cache_ident.specs.declared.names.Frame.{Frame}
use Rattle.flat_machine.specs.flat_state.specs.declared.events.Decl.{Decl}
use Rattle.flat_machine.specs.flat_state.specs.declared.events.Decl.TheVariants as decls
use Rattle.flat_machine.specs.flat_state.specs.State.{FlatState, nothing_declared}
use Rattle.flat_machine.specs.flat_state.specs.Declaration.{breaks, broken_rule, declared}
use Rattle.code_blocks.specs.Blocks.{Block, no_lines}
use Rattle.scenario_reader.specs.declared.fault.ScenarioFault.{ScenarioFault}
use Rattle.scenario_reader.specs.declared.fault.ScenarioFault.TheVariants.{NoMemory, Bad}

-- before the first line; right behind mem; behind that; within a block of code or of an executable; behind end
pub data Place : Type 0 where
  Start : Place
  Memory : (groups : ℕ) → Place
  Body : Place
  Code : (frame : Frame) (offset : ℕ) → Place
  Image : (space : SpaceNo) (frame : Frame) (thread : ThreadNo) → Place
  Ended : Place

pub record Reading : Type 0 where
  -- the number of the line that is read, from 1 on; 0 before all
  pub number : ℕ
  pub place : Place
  -- the lines of the block of code
  pub block : Block
  -- the bytes of the executable
  pub bytes : List ℕ
  -- the machine that the declarations make, and these
  pub flat : FlatState
  pub decls : List Decl

abbrev pub start : Reading
start = record { number = 0; place = Start; block = no_lines; bytes = []; flat = nothing_declared; decls = [] }

infixl 10 ◌>>=◌
abbrev pub ◌>>=◌ : {A B : Type 0} → Result A ScenarioFault → (A → Result B ScenarioFault) → Result B ScenarioFault
(Ok x) >>= f = f x
(Err e) >>= f = Err e

-- the line breaks that rule
abbrev pub broken : {A : Type 0} → Reading → ℕ → Result A ScenarioFault
broken r rule = Err (Bad r.number rule)

-- what follows where no rule is broken
abbrev pub unless : Option ℕ → Reading → Reading → Result Reading ScenarioFault
unless None r next = Ok next
unless (Some rule) r next = broken r rule

-- one more declaration, or the first rule that it breaks
unfoldable pub declare : Reading → Decl → Result Reading ScenarioFault
declare r d = unless (broken_rule r.flat d) r (record r { flat = declared r.flat d; decls = r.decls ++ d ∷ [] })

-- one after another
unfoldable pub declare_all : Reading → List Decl → Result Reading ScenarioFault
declare_all r [] = Ok r
declare_all r (d ∷ ds) = declare r d >>= λ next. declare_all next ds

-- words that follow one another from an offset on
unfoldable pub word_decls : Frame → ℕ → List ℕ → List Decl
word_decls frame offset [] = []
word_decls frame offset (w ∷ ws) = decls.Word frame offset w ∷ word_decls frame (offset + 4) ws

-- the rules of a line of code are those of a word there
abbrev pub rule_of_code : FlatState → Frame → ℕ → Option ℕ
rule_of_code s frame offset = broken_rule s (decls.Word frame offset 0)

-- The rules of a line of an executable. No memory has more than 2,048 frames.
abbrev pub rule_of_image : FlatState → SpaceNo → Frame → ThreadNo → Option ℕ
rule_of_image s space frame thread =
    breaks (not (thread.0 == length s.threads)) 8
    (breaks (nat_le (length s.spaces) space.0) 12
    (breaks (nat_le 2048 frame.0) 13
    (broken_rule s (decls.Word frame 0 0))))

abbrev pub in_place : Reading → Place → Reading
in_place r place = record r { place = place }

-- What a function made of a reading, seen by view, is what is meant, unless memory ran out.
abbrev pub Takes : {A B : Type 0} → (A → B) → Result (Unit {0}) ScenarioFault → A → Result B ScenarioFault → Type 0
Takes view result new meant = MatchResult result (λ _. meant ≡ Ok (view new)) (λ e. (e ≡ NoMemory) ⊎ (meant ≡ Err e))

-- The same of what a function returned.
abbrev pub Answers : {A B : Type 0} → (A → B) → Result A ScenarioFault → Result B ScenarioFault → Type 0
Answers view result meant = MatchResult result (λ x. meant ≡ Ok (view x)) (λ e. (e ≡ NoMemory) ⊎ (meant ≡ Err e))
