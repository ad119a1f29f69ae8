-- When an action's access to data doesn't translate.
use Rattle.std.proofs.Common.{◌≡◌, ℕ, ◌%◌, Bool, true, false, not, ◌&&◌, ◌||◌, eqb, List, Option, Some, None, refl, inl, inr}
use Rattle.std.specs.Option.{is_some, option_map}
use Rattle.std.proofs.lemmas.Bool.{cases_Bool}
use Rattle.rv32_isa.specs.declared.forms.Instr.{Instr}
use Rattle.rv32_isa.specs.Table.{instruction_of}
use Rattle.rv32_ma.specs.declared.atomics.AmoOp.{AmoOp}
use Rattle.rv32_exec.specs.declared.contexts.Context.{Context}
use Rattle.rv32_exec.specs.declared.statuses.Access.TheVariants.{Read, Write}
use Rattle.rv32_exec.specs.declared.spaces.Width.{Width}
use Rattle.rv32_exec.specs.declared.spaces.Width.TheVariants.{Word}
use Rattle.rv32_exec.specs.declared.actions.Action.TheVariants as actions
use Rattle.rv32_exec.specs.Actions.{action_of}
use Rattle.rv32_exec.specs.Pages.{Page, fetched, number_at, read_through, size_of, translates, translation}
use Rattle.rv32_exec.specs.Steps.{after_action, after_decoding, after_step, load_found, read_found, store_found, write_found}
use Rattle.flat_state.specs.NextSteps.{is_miss}
use Rattle.flat_rules.specs.Looking.{does_any_miss, does_miss}

-- a load misses where its page isn't found
found-load : (c : Context) (ps : List Page) (rd va : ℕ) (width : Width) (signed : Bool) (found : Option Page) → is_miss (load_found c ps rd va width signed (option_map (λ p. number_at width p.bytes (va % 4096)) found)).answer ≡ not (is_some found)
found-load c ps rd va width signed None = refl
found-load c ps rd va width signed (Some p) = refl

found-store : (c : Context) (ps : List Page) (va : ℕ) (width : Width) (value : ℕ) (found : Bool) → is_miss (store_found c ps va width value found).answer ≡ not found
found-store c ps va width value false = refl
found-store c ps va width value true = refl

found-atomic : (c : Context) (ps : List Page) (rd va : ℕ) (op : AmoOp) (operand : ℕ) (found : Option Page) (writes : Bool) → translates ps va Write ≡ writes → is_miss (read_found c ps rd va op operand (option_map (λ p. number_at Word p.bytes (va % 4096)) found)).answer ≡ (not (is_some found) || not writes)
found-atomic c ps rd va op operand None writes e = refl
found-atomic c ps rd va op operand (Some p) writes e = rw e (elim writes as (λ w. is_miss (write_found c ps rd va op operand (number_at Word p.bytes (va % 4096)) w).answer ≡ not w) [ true ↦ refl | false ↦ refl ])

pub miss-load : (c : Context) (ps : List Page) (rd va : ℕ) (width : Width) (signed : Bool) → does_miss c ps (actions.Load rd va width signed) ≡ (eqb (va % size_of width) 0 && not (translates ps va Read))
unfolding after_action read_through translates
miss-load c ps rd va width signed = elim (cases_Bool (eqb (va % size_of width) 0)) [
  | inl aligned ↦ rw aligned (found-load c ps rd va width signed (translation ps va Read))
  | inr crooked ↦ rw crooked refl
]

pub miss-store : (c : Context) (ps : List Page) (va : ℕ) (width : Width) (value : ℕ) → does_miss c ps (actions.Store va width value) ≡ (eqb (va % size_of width) 0 && not (translates ps va Write))
unfolding after_action
miss-store c ps va width value = elim (cases_Bool (eqb (va % size_of width) 0)) [
  | inl aligned ↦ rw aligned (found-store c ps va width value (translates ps va Write))
  | inr crooked ↦ rw crooked refl
]

pub miss-atomic : (c : Context) (ps : List Page) (rd va : ℕ) (op : AmoOp) (operand : ℕ) → does_miss c ps (actions.Atomic rd va op operand) ≡ (eqb (va % 4) 0 && (not (translates ps va Read) || not (translates ps va Write)))
unfolding after_action read_through translates
miss-atomic c ps rd va op operand = elim (cases_Bool (eqb (va % 4) 0)) [
  | inl aligned ↦ rw aligned (found-atomic c ps rd va op operand (translation ps va Read) (is_some (translation ps va Write)) refl)
  | inr crooked ↦ rw crooked refl
]

pub miss-jump : (c : Context) (ps : List Page) (rd target : ℕ) → does_miss c ps (actions.Jump rd target) ≡ false
unfolding after_action
miss-jump c ps rd target = elim (cases_Bool (eqb (target % 4) 0)) [ inl aligned ↦ rw aligned refl | inr crooked ↦ rw crooked refl ]

pub ruleset missing = (miss-load, miss-store, miss-atomic, miss-jump)

-- a step whose fetch translates misses where its action does
pub miss-decoded : (c : Context) (ps : List Page) (word : ℕ) (instr : Option Instr) → is_miss (after_decoding c ps word instr).answer ≡ does_any_miss c ps (option_map (λ i. action_of i c) instr)
miss-decoded c ps word None = refl
miss-decoded c ps word (Some i) = refl

-- a step whose fetch doesn't translate misses
pub faults_unfetched : (c : Context) (ps : List Page) → fetched ps c.pc ≡ None → is_miss (after_step c ps).answer ≡ true
unfolding after_step
faults_unfetched c ps lost = rw lost refl

pub faults_decoded : (c : Context) (ps : List Page) (word : ℕ) → fetched ps c.pc ≡ Some word → is_miss (after_step c ps).answer ≡ does_any_miss c ps (option_map (λ i. action_of i c) (instruction_of word))
unfolding after_step
faults_decoded c ps word found = rw found (miss-decoded c ps word (instruction_of word))
