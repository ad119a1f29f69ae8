-- What one step in the pages of a space leaves of the state.
use Rattle.std.proofs.Common.{◌≡◌, ℕ, ◌*◌, ◌%◌, ◌<◌, Bool, true, false, ◌&&◌, cond, List, length, map, Option, Some, None, refl, sym, ◌∙◌, ap, ap₂, inl, inr, arith}
use Rattle.std.specs.List.{slice_get, slice_set}
use Rattle.std.specs.Option.{IfSome}
use Rattle.std.proofs.lemmas.Bool.{and_parts, cases_Bool}
use Rattle.cache_ident.specs.declared.names.Frame.{Frame}
use Rattle.cache_ident.specs.declared.names.SpaceNo.{SpaceNo}
use Rattle.cache_ident.specs.declared.names.ThreadNo.{ThreadNo}
use Rattle.cache_ident.specs.declared.names.Vpn.{Vpn}
use Rattle.phys_groups.specs.declared.rows.Row.{Row}
use Rattle.phys_groups.specs.Translation.{Translated, no_flag, no_right, no_row, through}
use Rattle.signal_pages.specs.Signals.{is_signalling}
use Rattle.rv32_exec.specs.declared.contexts.Context.{Context}
use Rattle.rv32_exec.specs.declared.statuses.Access.TheVariants.{Write}
use Rattle.rv32_exec.specs.declared.spaces.Width.{Width}
use Rattle.rv32_exec.specs.declared.spaces.Width.TheVariants.{Byte, Half, Word}
use Rattle.rv32_exec.specs.declared.actions.Action.{Action}
use Rattle.rv32_exec.specs.declared.actions.Action.TheVariants as actions
use Rattle.rv32_exec.specs.declared.statuses.Status.{Status}
use Rattle.rv32_exec.specs.declared.statuses.Status.TheVariants.{Ready, Trapped, Ended}
use Rattle.rv32_exec.specs.declared.steps.Stepped.{Stepped}
use Rattle.rv32_exec.specs.declared.steps.Stepped.TheVariants.{Next, Call, Stop, Miss}
use Rattle.rv32_exec.specs.Steps.{IsAfter, OnMiss, after_step as after_instruction}
use Rattle.flat_state.specs.declared.records.FlatThread.{FlatThread}
use Rattle.flat_state.specs.declared.records.Signal.{Signal}
use Rattle.flat_state.specs.State.{FlatState, groups_of, is_ended, is_ready, with_thread}
use Rattle.flat_state.specs.Translation.{reached, rights_of}
use Rattle.flat_state.specs.Pages.{pages_in, pages_of, with_marks, with_pages}
use Rattle.flat_state.specs.Rest.{Rest, rest_of}
use Rattle.flat_state.specs.Signals.{HasRoom, next_action, next_signal, receivers_for, signal_of, signal_through}
use Rattle.flat_state.specs.Step.{moved, outcome, stepped, stepped_so, written_back}
use Rattle.flat_state.specs.NextSteps.{is_miss}
use Rattle.flat_state.specs.WellFormed.{IsWellFormed}
use Rattle.flat_state.proofs.FormedEvents.{ends_at_most, room_kept}
use Rattle.flat_state.proofs.WritingBack.{written_back-memory, written_back-rows}
use Rattle.flat_rules.proofs.Known.{row_in_memory}
use Rattle.flat_mmu.specs.Seen.{Beside, beside}
use Rattle.flat_events.specs.Readings.{RanIn, delivered_unless, status_so, unsignalled, unsignalled_so}

module _ (s u : FlatState) (formed : IsWellFormed s) (after_formed : IsWellFormed u) (space : SpaceNo) (name : ℕ) (kept : beside u space name ≡ beside s space name) where
  rights_stay : rights_of u space ≡ rights_of s space
  rights_stay = ap (λ (b : Beside). rights_of b.others space) kept

  rest : rest_of (rights_of s space) u.memory u.rows space ≡ rest_of (rights_of s space) s.memory s.rows space
  rest = ap (λ (r : List (Bool × Bool)). rest_of r u.memory u.rows space) (sym rights_stay) ∙ ap (λ (b : Beside). b.rest) kept

  size : length s.memory ≡ 4096 * (128 * groups_of s.machine)
  size = formed.memory.size ∙ omega arith

  same_size : length u.memory ≡ length s.memory
  same_size = ap (λ (r : Rest). r.size) rest

  memory_is : with_pages s.memory (pages_in (rights_of s space) u.memory u.rows space) ≡ u.memory
  memory_is =
      written_back-memory (rights_of s space) space (128 * groups_of s.machine) s.memory u.memory s.rows u.rows size (same_size ∙ size) (λ row there. omega (arith, (row_in_memory u after_formed row there).within, same_size, size)) (λ f. ap (λ (r : Rest). r.frames f) rest)

  rows_are : map (with_marks space (pages_in (rights_of s space) u.memory u.rows space)) s.rows ≡ u.rows
  rows_are = written_back-rows (rights_of s space) space u.memory s.rows u.rows after_formed.rows.single (ap (λ (r : Rest). r.rows) rest)

  pages_are : pages_in (rights_of s space) u.memory u.rows space ≡ pages_of u space
  pages_are = ap (λ (r : List (Bool × Bool)). pages_in r u.memory u.rows space) (sym rights_stay)

  others_stay : u ≡ record s { memory = u.memory; rows = u.rows }
  others_stay = ap (λ (b : Beside). record b.others { memory = u.memory; rows = u.rows }) kept

  -- what is in the pages is what went back
  pub went_back : u ≡ written_back s space (pages_of u space)
  went_back =
      others_stay
      ∙ ap₂ (λ (m : List ℕ) (rs : List Row). record s { memory = m; rows = rs }) (sym memory_is) (sym rows_are)
      ∙ ap (written_back s space) pages_are

  pub ran_in : (before after : Context) (answer : Stepped) → IsAfter after (pages_of u space) answer (after_instruction before (pages_of s space)) → RanIn s space before u after answer
  ran_in before after answer is = record {
    context = is.context_is;
    answered = is.answer_is;
    state = went_back ∙ ap (written_back s space) is.pages_are;
  }

-- where the pages are as they were, so is the state
pub ran_unchanged : (s u : FlatState) (formed : IsWellFormed s) (after_formed : IsWellFormed u) (space : SpaceNo) (name : ℕ) → beside u space name ≡ beside s space name → pages_of u space ≡ pages_of s space → u ≡ s
ran_unchanged s u formed after_formed space name kept same =
    went_back s u formed after_formed space name kept ∙ ap (written_back s space) same ∙ sym (went_back s s formed formed space name refl)

-- what a step leaves of its thread
pub step_state : (old now : FlatState) (n : ℕ) (t : FlatThread) (context : Context) (answer : Stepped) (status : Status) → RanIn old t.space t.context now context answer → OnMiss answer ((context ≡ t.context) × (now ≡ old)) → status ≡ status_so now t answer → with_thread now n (record t { context = context; status = status }) ≡ unsignalled old n t
step_state old now n t context answer status ran missed is =
    ap (λ (st : Status). with_thread now n (record t { context = context; status = st })) is ∙ by answer missed ∙ ap (unsignalled_so old n t (outcome old t)) ran.answered
  where
    went : (st : Status) → with_thread now n (record t { context = context; status = st }) ≡ moved old n t (outcome old t) st
    went st = ap₂ (λ (u : FlatState) (c : Context). with_thread u n (record t { context = c; status = st })) ran.state ran.context

    by : (a : Stepped) → OnMiss a ((context ≡ t.context) × (now ≡ old)) → with_thread now n (record t { context = context; status = status_so now t a }) ≡ unsignalled_so old n t (outcome old t) a
    by Next m = went Ready
    by Call m = went Trapped
    by (Stop reason) m = went (Ended reason)
    by (Miss va access) m = ap₂ (λ (u : FlatState) (c : Context). with_thread u n (record t { context = c; status = status_so u t (Miss va access) })) m.1 m.0

-- a step that went on, and its signals
pub step_done : (old u : FlatState) (n : ℕ) (t : FlatThread) (answer : Stepped) (signal : Option Signal) (receivers : List (ThreadNo × Vpn)) → u ≡ unsignalled old n t → answer ≡ (outcome old t).answer → signal ≡ next_signal old t → receivers ≡ receivers_for old signal → record u { threads = delivered_unless (is_miss answer) u.threads signal receivers } ≡ stepped old n t (outcome old t)
step_done old u n t answer signal receivers is-u is-answer is-signal are =
    ap₂ (λ (v : FlatState) (a : Stepped). record v { threads = delivered_unless (is_miss a) v.threads signal receivers }) is-u is-answer
    ∙ ap₂ (λ (o : Option Signal) (rs : List (ThreadNo × Vpn)). record (unsignalled old n t) { threads = delivered_unless (is_miss (outcome old t).answer) (unsignalled old n t).threads o rs }) is-signal (are ∙ ap (receivers_for old) is-signal)
    ∙ by (outcome old t).answer
  where
    by : (a : Stepped) → record (unsignalled_so old n t (outcome old t) a) { threads = delivered_unless (is_miss a) (unsignalled_so old n t (outcome old t) a).threads (next_signal old t) (receivers_for old (next_signal old t)) } ≡ stepped_so old n t (outcome old t) a
    by Next = refl
    by Call = refl
    by (Stop reason) = refl
    by (Miss va access) = refl

-- a signal is sent at a signalling offset of a page
pub signal_facts : (s : FlatState) (t : FlatThread) (signal : Option Signal) → signal ≡ next_signal s t → IfSome signal (λ g. (g.offset < 4096) × (is_signalling g.offset ≡ true))
unfolding next_signal
signal_facts s t None e = tt
signal_facts s t (Some g) e = of_action (next_action t.context (pages_of s t.space)) g (sym e)
  where
    through-facts : (va : ℕ) (m : Bool) (frame : Frame) (g : Signal) → cond (m && is_signalling (va % 4096)) (Some (record { frame = frame; offset = va % 4096 })) None ≡ Some g → (g.offset < 4096) × (is_signalling g.offset ≡ true)
    through-facts va m frame g e = elim (cases_Bool (m && is_signalling (va % 4096))) [
      | inl sends ↦
          let same : va % 4096 ≡ g.offset = grind (arith, sends, e) in
          (omega (arith, same), ap is_signalling (sym same) ∙ (and_parts m (is_signalling (va % 4096)) sends).1)
      | inr silent ↦ grind (arith, silent, e)
    ]

    of_through : (va : ℕ) (r : Translated) (g : Signal) → signal_through va r ≡ Some g → (g.offset < 4096) × (is_signalling g.offset ≡ true)
    of_through va (through row) g e = through-facts va row.flags.m row.frame g e
    of_through va no_row g e = grind (arith, e)
    of_through va no_flag g e = grind (arith, e)
    of_through va no_right g e = grind (arith, e)

    of_store : (va : ℕ) (width : Width) (value : ℕ) (g : Signal) → signal_of s t (Some (actions.Store va width value)) ≡ Some g → (g.offset < 4096) × (is_signalling g.offset ≡ true)
    of_store va Byte value g e = grind (arith, e)
    of_store va Half value g e = grind (arith, e)
    of_store va Word value g e = of_through va (reached s Write t.space va) g e

    of_action : (o : Option Action) (g : Signal) → signal_of s t o ≡ Some g → (g.offset < 4096) × (is_signalling g.offset ≡ true)
    of_action None g e = grind (arith, e)
    of_action (Some (actions.Store va width value)) g e = of_store va width value g e
    of_action (Some (actions.Set rd value)) g e = grind (arith, e)
    of_action (Some actions.Pass) g e = grind (arith, e)
    of_action (Some (actions.Jump rd target)) g e = grind (arith, e)
    of_action (Some (actions.Load rd va width signed)) g e = grind (arith, e)
    of_action (Some (actions.Atomic rd va op operand)) g e = grind (arith, e)
    of_action (Some actions.Call) g e = grind (arith, e)
    of_action (Some actions.Break) g e = grind (arith, e)

ready_goes_on : (status : Status) → is_ready status ≡ true → is_ended status ≡ false
ready_goes_on Ready e = refl
ready_goes_on Trapped e = refl
ready_goes_on (Ended reason) e = grind (arith, e)

-- a thread's own step leaves the receivers their room
pub room_after : (s : FlatState) (n : ℕ) (t : FlatThread) (receivers : List (ThreadNo × Vpn)) → slice_get s.threads n ≡ Some t → is_ready t.status ≡ true → HasRoom s.threads receivers → HasRoom (unsignalled s n t).threads receivers
room_after s n t receivers here ready has = by (outcome s t).answer
  where
    kept : (u : FlatThread) → u.queue ≡ t.queue → HasRoom (slice_set s.threads n u) receivers
    kept u queue = room_kept s.threads (slice_set s.threads n u) receivers (ends_at_most s.threads n t u here queue (ready_goes_on t.status ready)) has

    by : (a : Stepped) → HasRoom (unsignalled_so s n t (outcome s t) a).threads receivers
    by Next = kept (record t { context = (outcome s t).context; status = Ready }) refl
    by Call = kept (record t { context = (outcome s t).context; status = Trapped }) refl
    by (Stop reason) = kept (record t { context = (outcome s t).context; status = Ended reason }) refl
    by (Miss va access) = kept (record t { status = status_so s t (Miss va access) }) refl
