-- A step that is missed on copied pages, by an access that the machine doesn't translate either, is missed there.
use Rattle.std.proofs.Common.{◌≡◌, ℕ, ◌%◌, Bool, true, false, not, ◌&&◌, List, map, Option, Some, None, slice_get, Contains, refl, ap, ap₂, sym, ◌∙◌, subst, ◌⊎◌, inl, inr}
use Rattle.std.specs.Prelude.{if◌then◌else◌, ◌==◌, is_some}
use Rattle.std.specs.Option.{option_map, option_and_then}
use Rattle.phys_groups.specs.declared.rows.Row.{Row}
use Rattle.phys_groups.specs.Translation.{Translated, through, no_row, no_flag, no_right}
use Rattle.rv32_isa.specs.declared.forms.Instr.{Instr}
use Rattle.rv32_isa.specs.Table.{instruction_of}
use Rattle.rv32_ma.specs.declared.atomics.AmoOp.{AmoOp}
use Rattle.flat_machine.specs.rv32_exec.specs.declared.contexts.Context.{Context}
use Rattle.flat_machine.specs.rv32_exec.specs.declared.statuses.Access.{Access}
use Rattle.flat_machine.specs.rv32_exec.specs.declared.statuses.Access.TheVariants.{Fetch, Read, Write}
use Rattle.flat_machine.specs.rv32_exec.specs.declared.statuses.Reason.{Reason}
use Rattle.flat_machine.specs.rv32_exec.specs.declared.statuses.Status.{Status}
use Rattle.flat_machine.specs.rv32_exec.specs.declared.statuses.Status.TheVariants.{Ready}
use Rattle.flat_machine.specs.rv32_exec.specs.declared.spaces.Width.{Width}
use Rattle.flat_machine.specs.rv32_exec.specs.declared.spaces.Width.TheVariants.{Byte, Half, Word}
use Rattle.flat_machine.specs.rv32_exec.specs.declared.actions.Action.{Action}
use Rattle.flat_machine.specs.rv32_exec.specs.declared.actions.Action.TheVariants as actions
use Rattle.flat_machine.specs.rv32_exec.specs.declared.steps.Stepped.{Stepped}
use Rattle.flat_machine.specs.rv32_exec.specs.declared.steps.Stepped.TheVariants as steps
use Rattle.flat_machine.specs.rv32_exec.specs.Pages.{Page, size_of, translation, translates, number_at, read_through, fetched, loaded}
use Rattle.flat_machine.specs.rv32_exec.specs.Actions.{action_of}
use Rattle.flat_machine.specs.rv32_exec.specs.Steps.{After, ended, load_found, store_found, write_found, read_found, after_action, after_decoding, after_fetch, after_step as after_instruction}
use Rattle.flat_machine.specs.flat_state.specs.declared.records.FlatThread.{FlatThread}
use Rattle.flat_machine.specs.flat_state.specs.declared.records.Signal.{Signal}
use Rattle.flat_machine.specs.flat_state.specs.State.{FlatState, is_ready}
use Rattle.flat_machine.specs.flat_state.specs.Translation.{reached, rights_of, row_through}
use Rattle.flat_machine.specs.flat_state.specs.Pages.{pages_of, page_of}
use Rattle.flat_machine.specs.flat_state.specs.NextSteps.{is_miss}
use Rattle.flat_machine.specs.flat_state.specs.Signals.{full_among, is_runnable, next_action, next_signal, receivers_for, signal_of, signal_through}
use Rattle.flat_machine.specs.flat_state.specs.Step.{after_step, faulted, outcome, step_if, step_of, stepped}
use Rattle.flat_machine.specs.flat_state.proofs.Translating.{translation-pages}
use Rattle.quantum.specs.page_views.specs.Views.{page_of as view_page, pages_of_views, view_through, View}
use Rattle.quantum.specs.page_views.proofs.Tables.{translation_is}
use Rattle.ahead_laws.specs.Addresses.{address_of}
use Rattle.quantum.specs.LocalRun.{Shows}
use Rattle.quantum.proofs.StepsIn.{ShowsAt}
use Rattle.quantum.proofs.Changed.{shows_at, through_parts}

false_true : {P : Type 0} → false ≡ true → P
false_true e = absurd (cc)

-- the access that was missed doesn't translate there
abbrev Lacks : List Page → Stepped → Type 0
Lacks qs (steps.Miss va access) = translation qs va access ≡ None
Lacks qs steps.Next = Unit {0}
Lacks qs steps.Call = Unit {0}
Lacks qs (steps.Stop reason) = Unit {0}

module _ (s : FlatState) (t : FlatThread) (ps : List Page) (shows : (access : Access) (va : ℕ) → ShowsAt ps (pages_of s t.space) access va) where
  abbrev qs : List Page
  qs = pages_of s t.space

  unread : (access : Access) (va : ℕ) (width : Width) → translation qs va access ≡ None → read_through access qs va width ≡ None
  unfolding read_through
  unread access va width lost = ap (option_map (λ (p : Page). number_at width p.bytes (va % 4096))) lost

  untranslated : (va : ℕ) → translation qs va Write ≡ None → translates qs va Write ≡ false
  unfolding translates
  untranslated va lost = ap is_some lost

  read_same : (access : Access) (va : ℕ) (width : Width) (n : ℕ) → read_through access ps va width ≡ Some n → read_through access qs va width ≡ Some n
  unfolding read_through
  read_same access va width n is = by (translation ps va access) refl is
    where
      by : (o : Option Page) → translation ps va access ≡ o → option_map (λ (p : Page). number_at width p.bytes (va % 4096)) o ≡ Some n → option_map (λ (p : Page). number_at width p.bytes (va % 4096)) (translation qs va access) ≡ Some n
      by None e is = absurd (cc)
      by (Some p) e is =
          let q = shows access va p e in
          ap (option_map (λ (r : Page). number_at width r.bytes (va % 4096))) q.1 ∙ ap (λ bytes. Some (number_at width bytes (va % 4096))) q.3 ∙ is

  abbrev Follows : After → After → Type 0
  Follows a b = is_miss a.answer ≡ true → Lacks qs a.answer → b ≡ record { context = t.context; pages = qs; answer = a.answer }

  either : (d : Bool) (x y u v : After) → Follows x u → Follows y v → Follows (if d then x else y) (if d then u else v)
  either true x y u v h k = h
  either false x y u v h k = k

  ends : (reason : Reason) → Follows (ended t.context ps reason) (ended t.context qs reason)
  ends reason = λ missed lacks. false_true missed

  of_load : (rd va : ℕ) (width : Width) (signed : Bool) (o : Option ℕ) → Follows (load_found t.context ps rd va width signed o) (load_found t.context qs rd va width signed (loaded qs va width))
  of_load rd va width signed None = λ missed lacks. ap (load_found t.context qs rd va width signed) (unread Read va width lacks)
  of_load rd va width signed (Some n) = λ missed lacks. false_true missed

  of_store : (va : ℕ) (width : Width) (value : ℕ) (d : Bool) → Follows (store_found t.context ps va width value d) (store_found t.context qs va width value (translates qs va Write))
  of_store va width value false = λ missed lacks. ap (store_found t.context qs va width value) (untranslated va lacks)
  of_store va width value true = λ missed lacks. false_true missed

  of_write : (rd va : ℕ) (op : AmoOp) (operand old : ℕ) (d : Bool) → loaded qs va Word ≡ Some old → Follows (write_found t.context ps rd va op operand old d) (read_found t.context qs rd va op operand (loaded qs va Word))
  of_write rd va op operand old false same = λ missed lacks. ap (read_found t.context qs rd va op operand) same ∙ ap (write_found t.context qs rd va op operand old) (untranslated va lacks)
  of_write rd va op operand old true same = λ missed lacks. false_true missed

  of_read : (rd va : ℕ) (op : AmoOp) (operand : ℕ) (o : Option ℕ) → loaded ps va Word ≡ o → Follows (read_found t.context ps rd va op operand o) (read_found t.context qs rd va op operand (loaded qs va Word))
  of_read rd va op operand None is = λ missed lacks. ap (read_found t.context qs rd va op operand) (unread Read va Word lacks)
  of_read rd va op operand (Some old) is = of_write rd va op operand old (translates ps va Write) (read_same Read va Word old is)

  of_action : (a : Action) → Follows (after_action a t.context ps) (after_action a t.context qs)
  unfolding after_action
  of_action (actions.Set rd value) = λ missed lacks. false_true missed
  of_action actions.Pass = λ missed lacks. false_true missed
  of_action (actions.Jump rd target) = either (target % 4 == 0) _ _ _ _ (λ missed lacks. false_true missed) (λ missed lacks. false_true missed)
  of_action (actions.Load rd va width signed) = either (va % size_of width == 0) _ _ _ _ (of_load rd va width signed (loaded ps va width)) (λ missed lacks. false_true missed)
  of_action (actions.Store va width value) = either (va % size_of width == 0) _ _ _ _ (of_store va width value (translates ps va Write)) (λ missed lacks. false_true missed)
  of_action (actions.Atomic rd va op operand) = either (va % 4 == 0) _ _ _ _ (of_read rd va op operand (loaded ps va Word) refl) (λ missed lacks. false_true missed)
  of_action actions.Call = λ missed lacks. false_true missed
  of_action actions.Break = λ missed lacks. false_true missed

  of_decoding : (word : ℕ) (o : Option Instr) → Follows (after_decoding t.context ps word o) (after_decoding t.context qs word o)
  of_decoding word None = λ missed lacks. false_true missed
  of_decoding word (Some i) = of_action (action_of i t.context)

  of_fetch : (o : Option ℕ) → fetched ps t.context.pc ≡ o → Follows (after_fetch t.context ps o) (after_fetch t.context qs (fetched qs t.context.pc))
  of_fetch None is = λ missed lacks. ap (after_fetch t.context qs) (unread Fetch t.context.pc Word lacks)
  of_fetch (Some word) is = λ missed lacks. ap (after_fetch t.context qs) (read_same Fetch t.context.pc Word word is) ∙ of_decoding word (instruction_of word) missed lacks

  same_miss : Follows (after_instruction t.context ps) (after_instruction t.context qs)
  unfolding after_instruction
  same_miss = of_fetch (fetched ps t.context.pc) refl

  -- ---- it sends nothing

  lost_row : (va : ℕ) → translation qs va Write ≡ None → row_through (reached s Write t.space va) ≡ None
  lost_row va lost = by (row_through (reached s Write t.space va)) (sym (translation-pages (rights_of s t.space) s.memory s.rows t.space va Write) ∙ lost)
    where
      by : (o : Option Row) → option_map (page_of (rights_of s t.space) s.memory) o ≡ None → o ≡ None
      by None e = refl
      by (Some row) e = absurd (cc)

  unsent : (va : ℕ) (r : Translated) → row_through r ≡ None → signal_through va r ≡ None
  unsent va (through row) lost = absurd (cc)
  unsent va no_row lost = refl
  unsent va no_flag lost = refl
  unsent va no_right lost = refl

  word_unsent : (va value : ℕ) (reason : Reason) (b d : Bool) → is_miss (if b then store_found t.context ps va Word value d else ended t.context ps reason).answer ≡ true → Lacks qs (if b then store_found t.context ps va Word value d else ended t.context ps reason).answer
      → signal_through va (reached s Write t.space va) ≡ None
  word_unsent va value reason false d missed lacks = false_true missed
  word_unsent va value reason true true missed lacks = false_true missed
  word_unsent va value reason true false missed lacks = unsent va (reached s Write t.space va) (lost_row va lacks)

  silent_action : (a : Action) → is_miss (after_action a t.context ps).answer ≡ true → Lacks qs (after_action a t.context ps).answer → signal_of s t (Some a) ≡ None
  unfolding after_action
  silent_action (actions.Store va Word value) missed lacks = word_unsent va value _ (va % 4 == 0) (translates ps va Write) missed lacks
  silent_action (actions.Store va Byte value) missed lacks = refl
  silent_action (actions.Store va Half value) missed lacks = refl
  silent_action (actions.Set rd value) missed lacks = refl
  silent_action actions.Pass missed lacks = refl
  silent_action (actions.Jump rd target) missed lacks = refl
  silent_action (actions.Load rd va width signed) missed lacks = refl
  silent_action (actions.Atomic rd va op operand) missed lacks = refl
  silent_action actions.Call missed lacks = refl
  silent_action actions.Break missed lacks = refl

  silent_decoding : (word : ℕ) (o : Option Instr) → is_miss (after_decoding t.context ps word o).answer ≡ true → Lacks qs (after_decoding t.context ps word o).answer → signal_of s t (option_map (λ instr. action_of instr t.context) o) ≡ None
  silent_decoding word None missed lacks = refl
  silent_decoding word (Some i) missed lacks = silent_action (action_of i t.context) missed lacks

  abbrev asks : Option ℕ → Option Signal
  asks o = signal_of s t (option_and_then (λ word. option_map (λ instr. action_of instr t.context) (instruction_of word)) o)

  silent_fetch : (o : Option ℕ) → fetched ps t.context.pc ≡ o → is_miss (after_fetch t.context ps o).answer ≡ true → Lacks qs (after_fetch t.context ps o).answer → asks (fetched qs t.context.pc) ≡ None
  silent_fetch None is missed lacks = ap asks (unread Fetch t.context.pc Word lacks)
  silent_fetch (Some word) is missed lacks = ap asks (read_same Fetch t.context.pc Word word is) ∙ silent_decoding word (instruction_of word) missed lacks

  silent : is_miss (after_instruction t.context ps).answer ≡ true → Lacks qs (after_instruction t.context ps).answer → next_signal s t ≡ None
  unfolding after_instruction next_signal next_action
  silent missed lacks = silent_fetch (fetched ps t.context.pc) refl missed lacks

-- the step faults
pub missed_faults : (s : FlatState) (n : ℕ) (t : FlatThread) (vs : List View) (va : ℕ) (access : Access) → slice_get s.threads n ≡ Some t → t.status ≡ Ready → ((v : View) → Contains vs v → Shows s t.space v v.present)
    → (after_instruction t.context (pages_of_views vs)).answer ≡ steps.Miss va access → row_through (reached s access t.space va) ≡ None → after_step s n ≡ Some (faulted s n t va access)
unfolding after_step
missed_faults s n t vs va access here ready views missed lost =
    let ps = pages_of_views vs in
    let shows : (access : Access) (va : ℕ) → ShowsAt ps (pages_of s t.space) access va = λ access va. shows_at s t.space vs access va (λ v found. views v (through_parts vs access va v found).0) in
    let answer = (after_instruction t.context ps).answer in
    let is : is_miss answer ≡ true = ap is_miss missed in
    let away : translation (pages_of s t.space) va access ≡ None = translation-pages (rights_of s t.space) s.memory s.rows t.space va access ∙ ap (option_map (page_of (rights_of s t.space) s.memory)) lost in
    let lacks : Lacks (pages_of s t.space) answer = subst (Lacks (pages_of s t.space)) (sym missed) away in
    let same : outcome s t ≡ record { context = t.context; pages = pages_of s t.space; answer = steps.Miss va access } =
    same_miss s t ps shows is lacks ∙ ap (λ (a : Stepped). record { context = t.context; pages = pages_of s t.space; answer = a }) missed in
    let quiet = silent s t ps shows is lacks in
    let runs : is_runnable s t ≡ true = ap₂ (λ (a : Status) (signal : Option Signal). is_ready a && not (is_some (full_among s.threads (map (λ receiver. receiver.0) (receivers_for s signal))))) ready quiet in
    ap (step_of s n) here ∙ (ap (λ (runnable : Bool). step_if runnable s n t) runs ∙ ap (λ (u : FlatState). Some u) (ap (stepped s n t) same))

-- ---- an access that is missed doesn't translate

module _ (c : Context) (ps : List Page) where
  chosen : (d : Bool) (x y : After) → Lacks ps x.answer → Lacks ps y.answer → Lacks ps (if d then x else y).answer
  chosen true x y h k = h
  chosen false x y h k = k

  unread_there : (access : Access) (va : ℕ) (width : Width) → read_through access ps va width ≡ None → translation ps va access ≡ None
  unfolding read_through
  unread_there access va width lost = by (translation ps va access) lost
    where
      by : (o : Option Page) → option_map (λ (p : Page). number_at width p.bytes (va % 4096)) o ≡ None → o ≡ None
      by None e = refl
      by (Some p) e = absurd (cc)

  untranslated_there : (va : ℕ) → translates ps va Write ≡ false → translation ps va Write ≡ None
  unfolding translates
  untranslated_there va lost = by (translation ps va Write) lost
    where
      by : (o : Option Page) → is_some o ≡ false → o ≡ None
      by None e = refl
      by (Some p) e = absurd (cc)

  lacks_load : (rd va : ℕ) (width : Width) (signed : Bool) (o : Option ℕ) → loaded ps va width ≡ o → Lacks ps (load_found c ps rd va width signed o).answer
  lacks_load rd va width signed None is = unread_there Read va width is
  lacks_load rd va width signed (Some n) is = tt

  lacks_store : (va : ℕ) (width : Width) (value : ℕ) (d : Bool) → translates ps va Write ≡ d → Lacks ps (store_found c ps va width value d).answer
  lacks_store va width value false is = untranslated_there va is
  lacks_store va width value true is = tt

  lacks_write : (rd va : ℕ) (op : AmoOp) (operand old : ℕ) (d : Bool) → translates ps va Write ≡ d → Lacks ps (write_found c ps rd va op operand old d).answer
  lacks_write rd va op operand old false is = untranslated_there va is
  lacks_write rd va op operand old true is = tt

  lacks_read : (rd va : ℕ) (op : AmoOp) (operand : ℕ) (o : Option ℕ) → loaded ps va Word ≡ o → Lacks ps (read_found c ps rd va op operand o).answer
  lacks_read rd va op operand None is = unread_there Read va Word is
  lacks_read rd va op operand (Some old) is = lacks_write rd va op operand old (translates ps va Write) refl

  lacks_action : (a : Action) → Lacks ps (after_action a c ps).answer
  unfolding after_action
  lacks_action (actions.Set rd value) = tt
  lacks_action actions.Pass = tt
  lacks_action (actions.Jump rd target) = chosen (target % 4 == 0) _ _ tt tt
  lacks_action (actions.Load rd va width signed) = chosen (va % size_of width == 0) _ _ (lacks_load rd va width signed (loaded ps va width) refl) tt
  lacks_action (actions.Store va width value) = chosen (va % size_of width == 0) _ _ (lacks_store va width value (translates ps va Write) refl) tt
  lacks_action (actions.Atomic rd va op operand) = chosen (va % 4 == 0) _ _ (lacks_read rd va op operand (loaded ps va Word) refl) tt
  lacks_action actions.Call = tt
  lacks_action actions.Break = tt

  lacks_decoding : (word : ℕ) (o : Option Instr) → Lacks ps (after_decoding c ps word o).answer
  lacks_decoding word None = tt
  lacks_decoding word (Some i) = lacks_action (action_of i c)

  lacks_fetch : (o : Option ℕ) → fetched ps c.pc ≡ o → Lacks ps (after_fetch c ps o).answer
  lacks_fetch None is = unread_there Fetch c.pc Word is
  lacks_fetch (Some word) is = lacks_decoding word (instruction_of word)

  lacks_step : Lacks ps (after_instruction c ps).answer
  unfolding after_instruction
  lacks_step = lacks_fetch (fetched ps c.pc) refl

-- so no view lets it through
pub missed_unseen : (c : Context) (vs : List View) (va : ℕ) (access : Access) → (after_instruction c (pages_of_views vs)).answer ≡ steps.Miss va access → view_through vs access va ≡ None
missed_unseen c vs va access missed =
    let lost : translation (pages_of_views vs) va access ≡ None = subst (Lacks (pages_of_views vs)) missed (lacks_step c (pages_of_views vs)) in
    by (view_through vs access va) (sym (translation_is vs access va) ∙ lost)
  where
    by : (o : Option View) → option_map view_page o ≡ None → o ≡ None
    by None e = refl
    by (Some v) e = absurd (cc)

-- ---- which access is missed: the fetch, or one to the address that the action asks for

abbrev Owns : Context → Option Action → Stepped → Type 0
Owns c asked (steps.Miss va access) = (va ≡ c.pc) ⊎ (address_of asked ≡ Some va)
Owns c asked steps.Next = Unit {0}
Owns c asked steps.Call = Unit {0}
Owns c asked (steps.Stop reason) = Unit {0}

module _ (c : Context) (ps : List Page) where
  owner : (asked : Option Action) (d : Bool) (x y : After) → Owns c asked x.answer → Owns c asked y.answer → Owns c asked (if d then x else y).answer
  owner asked true x y h k = h
  owner asked false x y h k = k

  owns_load : (rd va : ℕ) (width : Width) (signed : Bool) (o : Option ℕ) → Owns c (Some (actions.Load rd va width signed)) (load_found c ps rd va width signed o).answer
  owns_load rd va width signed None = inr refl
  owns_load rd va width signed (Some n) = tt

  owns_store : (va : ℕ) (width : Width) (value : ℕ) (d : Bool) → Owns c (Some (actions.Store va width value)) (store_found c ps va width value d).answer
  owns_store va width value false = inr refl
  owns_store va width value true = tt

  owns_write : (rd va : ℕ) (op : AmoOp) (operand old : ℕ) (d : Bool) → Owns c (Some (actions.Atomic rd va op operand)) (write_found c ps rd va op operand old d).answer
  owns_write rd va op operand old false = inr refl
  owns_write rd va op operand old true = tt

  owns_read : (rd va : ℕ) (op : AmoOp) (operand : ℕ) (o : Option ℕ) → Owns c (Some (actions.Atomic rd va op operand)) (read_found c ps rd va op operand o).answer
  owns_read rd va op operand None = inr refl
  owns_read rd va op operand (Some old) = owns_write rd va op operand old (translates ps va Write)

  owns_action : (a : Action) → Owns c (Some a) (after_action a c ps).answer
  unfolding after_action
  owns_action (actions.Set rd value) = tt
  owns_action actions.Pass = tt
  owns_action (actions.Jump rd target) = owner (Some (actions.Jump rd target)) (target % 4 == 0) _ _ tt tt
  owns_action (actions.Load rd va width signed) = owner (Some (actions.Load rd va width signed)) (va % size_of width == 0) _ _ (owns_load rd va width signed (loaded ps va width)) tt
  owns_action (actions.Store va width value) = owner (Some (actions.Store va width value)) (va % size_of width == 0) _ _ (owns_store va width value (translates ps va Write)) tt
  owns_action (actions.Atomic rd va op operand) = owner (Some (actions.Atomic rd va op operand)) (va % 4 == 0) _ _ (owns_read rd va op operand (loaded ps va Word)) tt
  owns_action actions.Call = tt
  owns_action actions.Break = tt

  owns_decoding : (word : ℕ) (o : Option Instr) → Owns c (option_map (λ instr. action_of instr c) o) (after_decoding c ps word o).answer
  owns_decoding word None = tt
  owns_decoding word (Some i) = owns_action (action_of i c)

  owns_fetch : (o : Option ℕ) → Owns c (option_and_then (λ word. option_map (λ instr. action_of instr c) (instruction_of word)) o) (after_fetch c ps o).answer
  owns_fetch None = inl refl
  owns_fetch (Some word) = owns_decoding word (instruction_of word)

  owns_step : Owns c (next_action c ps) (after_instruction c ps).answer
  unfolding after_instruction next_action
  owns_step = owns_fetch (fetched ps c.pc)

pub missed_own : (c : Context) (ps : List Page) (va : ℕ) (access : Access) → (after_instruction c ps).answer ≡ steps.Miss va access → (va ≡ c.pc) ⊎ (address_of (next_action c ps) ≡ Some va)
missed_own c ps va access missed = subst (Owns c (next_action c ps)) missed (owns_step c ps)
