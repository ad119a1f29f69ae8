-- What a step does to the pages of its space: the one walk over the cases of a step.
use Rattle.std.proofs.Common.{◌≡◌, ℕ, ◌/◌, ◌%◌, Bool, true, false, List, [], ◌∷◌, map, Option, Some, None, refl, ap, sym, ◌∙◌, subst, arith, eqb-true}
use Rattle.std.specs.Option.{option_map, option_and_then}
use Rattle.std.proofs.lemmas.List.{map-id}
use Rattle.std.proofs.lemmas.Simd.{map-map}
use Rattle.std.specs.Prelude.{if◌then◌else◌, ◌==◌, is_some}
use Rattle.rv32_isa.specs.declared.forms.Instr.{Instr}
use Rattle.rv32_isa.specs.Table.{instruction_of}
use Rattle.rv32_ma.specs.declared.atomics.AmoOp.{AmoOp}
use Rattle.rv32_ma.specs.Atomics.{amo_of}
use Rattle.rv32_exec.specs.declared.contexts.Context.{Context}
use Rattle.rv32_exec.specs.declared.statuses.Access.{Access}
use Rattle.rv32_exec.specs.declared.statuses.Access.TheVariants.{Fetch, Read, Write}
use Rattle.rv32_exec.specs.declared.statuses.Reason.{Reason}
use Rattle.rv32_exec.specs.declared.statuses.Misaligned.TheVariants as misaligned
use Rattle.rv32_exec.specs.declared.statuses.Reason.TheVariants.{Illegal, Misaligned, Breakpoint}
use Rattle.rv32_exec.specs.declared.spaces.Width.{Width}
use Rattle.rv32_exec.specs.declared.spaces.Width.TheVariants.{Word}
use Rattle.rv32_exec.specs.declared.actions.Action.{Action}
use Rattle.rv32_exec.specs.declared.actions.Action.TheVariants as actions
use Rattle.rv32_exec.specs.declared.steps.Stepped.{Stepped}
use Rattle.rv32_exec.specs.declared.steps.Stepped.TheVariants.{Next, Call, Stop, Miss}
use Rattle.rv32_exec.specs.Registers.{with_register, next_of}
use Rattle.rv32_exec.specs.Pages.{Page, size_of, translation, translates, fetched, loaded, stored_through, stored, touched_at, put_in_frame}
use Rattle.rv32_exec.specs.Changes.{Change, Marked, Put, changed, all_changed}
use Rattle.rv32_exec.specs.Actions.{action_of}
use Rattle.rv32_exec.specs.Steps.{After, OnMiss, missed, ended, after_jump, load_found, store_found, write_found, read_found, after_action, after_decoding, after_fetch, after_step}
use Rattle.rv32_exec.proofs.Translations.{translates-read, is_some-option_map}

-- a mark is that of an access that translates
pub record IsMark (ps : List Page) (number : ℕ) (access : Access) : Type 0 where
  pub va : ℕ
  pub page : number ≡ va / 4096
  pub there : translates ps va access ≡ true

-- what is put is what a store through a page puts into its frame
pub record IsPut (ps : List Page) (frame count at : ℕ) : Type 0 where
  pub va : ℕ
  pub width : Width
  pub page : Page
  pub there : translation ps va Write ≡ Some page
  pub aligned : va % size_of width ≡ 0
  pub frame_is : frame ≡ page.frame
  pub count_is : count ≡ size_of width
  pub at_is : at ≡ va % 4096

-- each change is that of an access that translates
abbrev pub AreMade : List Page → List Change → Type 0
AreMade ps [] = Unit {0}
AreMade ps (Marked number access ∷ changes) = IsMark ps number access × AreMade ps changes
AreMade ps (Put frame count at value ∷ changes) = IsPut ps frame count at × AreMade ps changes

-- the marks among some changes
abbrev pub marks_in : List Change → List Change
marks_in [] = []
marks_in (Marked number access ∷ changes) = Marked number access ∷ marks_in changes
marks_in (Put frame count at value ∷ changes) = marks_in changes

-- the marks of an action's accesses to data, where the width divides the address
abbrev pub marks_of : Option Action → List Change
marks_of (Some (actions.Load rd va width signed)) = if va % size_of width == 0 then Marked (va / 4096) Read ∷ [] else []
marks_of (Some (actions.Store va width value)) = if va % size_of width == 0 then Marked (va / 4096) Write ∷ [] else []
marks_of (Some (actions.Atomic rd va op operand)) = if va % 4 == 0 then Marked (va / 4096) Read ∷ Marked (va / 4096) Write ∷ [] else []
marks_of (Some (actions.Set rd value)) = []
marks_of (Some actions.Pass) = []
marks_of (Some (actions.Jump rd target)) = []
marks_of (Some actions.Call) = []
marks_of (Some actions.Break) = []
marks_of None = []

-- what a word that may have been fetched asks for
abbrev pub asked : Context → Option ℕ → Option Action
asked c fetched = option_and_then (λ word. option_map (λ instr. action_of instr c) (instruction_of word)) fetched

-- a fact where a step isn't missed
abbrev pub OnHit : Stepped → Type 0 → Type 0
OnHit (Miss va access) P = Unit {0}
OnHit Next P = P
OnHit Call P = P
OnHit (Stop reason) P = P

-- Two lists of pages of which a step reads the same: a fetch and a load get one number, and a store goes to one frame.
pub record ReadAlike (ps qs : List Page) : Type 0 where
  pub fetches : (va : ℕ) → fetched ps va ≡ fetched qs va
  pub loads : (va : ℕ) (width : Width) → loaded ps va width ≡ loaded qs va width
  pub stores : (va : ℕ) → option_map (λ p. p.frame) (translation ps va Write) ≡ option_map (λ p. p.frame) (translation qs va Write)

-- What is after a step over each of two such lists: one context and one answer, and the same changes of both lists. Where
-- it is missed nothing changes, and else its marks are those of its fetch and of these accesses to data. An aligned pc
-- stays aligned in any case.
pub record IsStep (c : Context) (ps qs : List Page) (marks : List Change) (a b : After) : Type 0 where
  pub context : a.context ≡ b.context
  pub answer : a.answer ≡ b.answer
  pub changes : List Change
  pub here : a.pages ≡ all_changed changes ps
  pub there : b.pages ≡ all_changed changes qs
  pub each : AreMade ps changes
  pub missed : OnMiss a.answer ((a.context ≡ c) × (a.pages ≡ ps))
  pub hit : OnHit a.answer (marks_in changes ≡ Marked (c.pc / 4096) Fetch ∷ marks)
  pub aligned : c.pc % 4 ≡ 0 → a.context.pc % 4 ≡ 0

-- a space with a page for an access, and one without
found_or_not : (r : Option Page) → is_some r ≡ true → (p : Page) × (r ≡ Some p)
found_or_not None e = absurd (cc)
found_or_not (Some p) e = (p, refl)

page_there : (ps : List Page) (va : ℕ) (access : Access) → translates ps va access ≡ true → (p : Page) × (translation ps va access ≡ Some p)
unfolding translates
page_there ps va access e = found_or_not (translation ps va access) e

abbrev put_into : Option ℕ → ℕ → ℕ → ℕ → List Page → List Page
put_into None count at value ps = ps
put_into (Some frame) count at value ps = map (put_in_frame frame count at value) ps

-- a store puts into the frame that it goes to
stored_in : (ps : List Page) (va : ℕ) (width : Width) (value : ℕ) (frame : ℕ) → option_map (λ p. p.frame) (translation ps va Write) ≡ Some frame → stored ps va width value ≡ map (put_in_frame frame (size_of width) (va % 4096) value) ps
unfolding stored
stored_in ps va width value frame e = by_page (translation ps va Write) ∙ ap (λ o. put_into o (size_of width) (va % 4096) value ps) e
  where
    by_page : (r : Option Page) → stored_through r ps va width value ≡ put_into (option_map (λ p. p.frame) r) (size_of width) (va % 4096) value ps
    by_page None = refl
    by_page (Some p) = refl

is_mark : (ps : List Page) (va : ℕ) (access : Access) → translates ps va access ≡ true → IsMark ps (va / 4096) access
is_mark ps va access there = record { va = va; page = refl; there = there }

is_put : (ps : List Page) (va : ℕ) (width : Width) → va % size_of width ≡ 0 → (p : Page) → translation ps va Write ≡ Some p → IsPut ps p.frame (size_of width) (va % 4096)
is_put ps va width aligned p there = record { va = va; width = width; page = p; there = there; aligned = aligned; frame_is = refl; count_is = refl; at_is = refl }

next_aligned : (c : Context) → c.pc % 4 ≡ 0 → next_of c % 4 ≡ 0
next_aligned c aligned = omega arith

choice : (c : Context) (ps qs : List Page) (b : Bool) (marks : List Change) (x y v w : After) → (b ≡ true → IsStep c ps qs marks x v) → IsStep c ps qs [] y w → IsStep c ps qs (if b then marks else []) (if b then x else y) (if b then v else w)
choice c ps qs true marks x y v w first second = first refl
choice c ps qs false marks x y v w first second = second

module _ (c : Context) (ps qs : List Page) (alike : ReadAlike ps qs) where
  translates_alike : (va : ℕ) → translates ps va Write ≡ translates qs va Write
  unfolding translates
  translates_alike va = sym (is_some-option_map (λ (p : Page). p.frame) (translation ps va Write)) ∙ ap is_some (alike.stores va) ∙ is_some-option_map (λ (p : Page). p.frame) (translation qs va Write)

  of_miss : (marks : List Change) (va : ℕ) (access : Access) → IsStep c ps qs marks (missed c ps va access) (missed c qs va access)
  of_miss marks va access = record { context = refl; answer = refl; changes = []; here = refl; there = refl; each = tt; missed = (refl, refl); hit = tt; aligned = λ e. e }

  module _ (fetches : translates ps c.pc Fetch ≡ true) where
    fetch_mark : IsMark ps (c.pc / 4096) Fetch
    fetch_mark = is_mark ps c.pc Fetch fetches

    -- nothing but the fetch
    of_next : (d : Context) → (c.pc % 4 ≡ 0 → d.pc % 4 ≡ 0) → IsStep c ps qs [] (record { context = d; pages = touched_at ps c.pc Fetch; answer = Next }) (record { context = d; pages = touched_at qs c.pc Fetch; answer = Next })
    unfolding touched_at
    of_next d aligned =
        record { context = refl; answer = refl; changes = Marked (c.pc / 4096) Fetch ∷ []; here = refl; there = refl; each = (fetch_mark, tt); missed = tt; hit = refl; aligned = aligned }

    of_call : let after : List Page → After = λ rs. record { context = record c { pc = next_of c }; pages = touched_at rs c.pc Fetch; answer = Call } in IsStep c ps qs [] (after ps) (after qs)
    unfolding touched_at
    of_call =
        record { context = refl; answer = refl; changes = Marked (c.pc / 4096) Fetch ∷ []; here = refl; there = refl; each = (fetch_mark, tt); missed = tt; hit = refl; aligned = next_aligned c }

    of_end : (reason : Reason) → IsStep c ps qs [] (ended c ps reason) (ended c qs reason)
    unfolding touched_at
    of_end reason =
        record { context = refl; answer = refl; changes = Marked (c.pc / 4096) Fetch ∷ []; here = refl; there = refl; each = (fetch_mark, tt); missed = tt; hit = refl; aligned = λ e. e }

    of_jump : (rd target : ℕ) → IsStep c ps qs [] (after_jump c ps rd target) (after_jump c qs rd target)
    of_jump rd target = by (target % 4 == 0) refl
      where
        by : (b : Bool) → (target % 4 == 0) ≡ b → let after : List Page → After = λ rs. if b then record { context = record { regs = with_register c rd (next_of c); pc = target }; pages = touched_at rs c.pc Fetch; answer = Next } else ended c rs (Misaligned misaligned.Jump target) in IsStep c ps qs [] (after ps) (after qs)
        by true e = of_next _ (λ _. eqb-true (target % 4) 0 e)
        by false e = of_end _

    of_load : (rd va : ℕ) (width : Width) (signed : Bool) (r : Option ℕ) → r ≡ loaded ps va width → IsStep c ps qs (Marked (va / 4096) Read ∷ []) (load_found c ps rd va width signed r) (load_found c qs rd va width signed r)
    unfolding touched_at
    of_load rd va width signed None e = of_miss _ va Read
    of_load rd va width signed (Some n) e = record {
      context = refl;
      answer = refl;
      changes = Marked (c.pc / 4096) Fetch ∷ Marked (va / 4096) Read ∷ [];
      here = refl;
      there = refl;
      each = (fetch_mark, (is_mark ps va Read (translates-read Read ps va width n e), tt));
      missed = tt;
      hit = refl;
      aligned = next_aligned c;
    }

    of_store : (va : ℕ) (width : Width) (value : ℕ) → va % size_of width ≡ 0 → (found : Bool) → found ≡ translates ps va Write → IsStep c ps qs (Marked (va / 4096) Write ∷ []) (store_found c ps va width value found) (store_found c qs va width value found)
    unfolding touched_at
    of_store va width value aligned false e = of_miss _ va Write
    of_store va width value aligned true e =
        let page = page_there ps va Write (sym e) in
        let frame : option_map (λ p. p.frame) (translation ps va Write) ≡ Some page.0.frame = ap (option_map (λ (p : Page). p.frame)) page.1 in
        let marked : List Page → List Page = λ rs. touched_at (touched_at rs c.pc Fetch) va Write in
        record {
          context = refl;
          answer = refl;
          changes = Put page.0.frame (size_of width) (va % 4096) value ∷ Marked (c.pc / 4096) Fetch ∷ Marked (va / 4096) Write ∷ [];
          here = ap marked (stored_in ps va width value page.0.frame frame);
          there = ap marked (stored_in qs va width value page.0.frame (sym (alike.stores va) ∙ frame));
          each = (is_put ps va width aligned page.0 page.1, (fetch_mark, (is_mark ps va Write (sym e), tt)));
          missed = tt;
          hit = refl;
          aligned = next_aligned c;
        }

    of_write : (rd va : ℕ) (op : AmoOp) (operand old : ℕ) → va % 4 ≡ 0 → translates ps va Read ≡ true → (found : Bool) → found ≡ translates ps va Write → IsStep c ps qs (Marked (va / 4096) Read ∷ Marked (va / 4096) Write ∷ []) (write_found c ps rd va op operand old found) (write_found c qs rd va op operand old found)
    unfolding touched_at
    of_write rd va op operand old aligned reads false e = of_miss _ va Write
    of_write rd va op operand old aligned reads true e =
        let page = page_there ps va Write (sym e) in
        let frame : option_map (λ p. p.frame) (translation ps va Write) ≡ Some page.0.frame = ap (option_map (λ (p : Page). p.frame)) page.1 in
        let marked : List Page → List Page = λ rs. touched_at (touched_at (touched_at rs c.pc Fetch) va Read) va Write in
        record {
          context = refl;
          answer = refl;
          changes = Put page.0.frame 4 (va % 4096) (amo_of op old operand) ∷ Marked (c.pc / 4096) Fetch ∷ Marked (va / 4096) Read ∷ Marked (va / 4096) Write ∷ [];
          here = ap marked (stored_in ps va Word (amo_of op old operand) page.0.frame frame);
          there = ap marked (stored_in qs va Word (amo_of op old operand) page.0.frame (sym (alike.stores va) ∙ frame));
          each = (is_put ps va Word aligned page.0 page.1, (fetch_mark, (is_mark ps va Read reads, (is_mark ps va Write (sym e), tt))));
          missed = tt;
          hit = refl;
          aligned = next_aligned c;
        }

    of_read : (rd va : ℕ) (op : AmoOp) (operand : ℕ) → va % 4 ≡ 0 → (r : Option ℕ) → r ≡ loaded ps va Word → IsStep c ps qs (Marked (va / 4096) Read ∷ Marked (va / 4096) Write ∷ []) (read_found c ps rd va op operand r) (read_found c qs rd va op operand r)
    of_read rd va op operand aligned None e = of_miss _ va Read
    of_read rd va op operand aligned (Some old) e =
        subst (λ found. IsStep c ps qs (Marked (va / 4096) Read ∷ Marked (va / 4096) Write ∷ []) (read_found c ps rd va op operand (Some old)) (write_found c qs rd va op operand old found)) (translates_alike va)
        (of_write rd va op operand old aligned (translates-read Read ps va Word old e) (translates ps va Write) refl)

    of_action : (a : Action) → IsStep c ps qs (marks_of (Some a)) (after_action a c ps) (after_action a c qs)
    unfolding after_action
    of_action (actions.Set rd value) = of_next _ (next_aligned c)
    of_action actions.Pass = of_next _ (next_aligned c)
    of_action (actions.Jump rd target) = of_jump rd target
    of_action (actions.Load rd va width signed) =
        choice c ps qs (va % size_of width == 0) _ _ _ _ _
        (λ _. subst (λ r. IsStep c ps qs (Marked (va / 4096) Read ∷ []) (load_found c ps rd va width signed (loaded ps va width)) (load_found c qs rd va width signed r)) (alike.loads va width) (of_load rd va width signed (loaded ps va width) refl))
        (of_end _)
    of_action (actions.Store va width value) =
        choice c ps qs (va % size_of width == 0) _ _ _ _ _
        (λ e. subst (λ found. IsStep c ps qs (Marked (va / 4096) Write ∷ []) (store_found c ps va width value (translates ps va Write)) (store_found c qs va width value found)) (translates_alike va) (of_store va width value (eqb-true (va % size_of width) 0 e) (translates ps va Write) refl))
        (of_end _)
    of_action (actions.Atomic rd va op operand) =
        choice c ps qs (va % 4 == 0) _ _ _ _ _
        (λ e. subst (λ r. IsStep c ps qs (Marked (va / 4096) Read ∷ Marked (va / 4096) Write ∷ []) (read_found c ps rd va op operand (loaded ps va Word)) (read_found c qs rd va op operand r)) (alike.loads va Word) (of_read rd va op operand (eqb-true (va % 4) 0 e) (loaded ps va Word) refl))
        (of_end _)
    of_action actions.Call = of_call
    of_action actions.Break = of_end Breakpoint

    of_decoding : (word : ℕ) (r : Option Instr) → IsStep c ps qs (marks_of (option_map (λ instr. action_of instr c) r)) (after_decoding c ps word r) (after_decoding c qs word r)
    of_decoding word None = of_end (Illegal word)
    of_decoding word (Some i) = of_action (action_of i c)

  of_fetch : (r : Option ℕ) → r ≡ fetched ps c.pc → IsStep c ps qs (marks_of (asked c r)) (after_fetch c ps r) (after_fetch c qs r)
  of_fetch None e = of_miss _ c.pc Fetch
  of_fetch (Some word) e = of_decoding (translates-read Fetch ps c.pc Word word e) word (instruction_of word)

  pub steps_alike : IsStep c ps qs (marks_of (asked c (fetched ps c.pc))) (after_step c ps) (after_step c qs)
  unfolding after_step
  steps_alike = subst (λ r. IsStep c ps qs (marks_of (asked c (fetched ps c.pc))) (after_fetch c ps (fetched ps c.pc)) (after_fetch c qs r)) (alike.fetches c.pc) (of_fetch (fetched ps c.pc) refl)

-- the same of one list
pub is_step : (c : Context) (ps : List Page) → IsStep c ps ps (marks_of (asked c (fetched ps c.pc))) (after_step c ps) (after_step c ps)
is_step c ps = steps_alike c ps ps (record { fetches = λ va. refl; loads = λ va width. refl; stores = λ va. refl })

-- a fact that follows from another where a step was missed
pub missed-map : (answer : Stepped) {P Q : Type 0} → (P → Q) → OnMiss answer P → OnMiss answer Q
missed-map Next f p = tt
missed-map Call f p = tt
missed-map (Stop reason) f p = tt
missed-map (Miss va access) f p = f p

pub missed_after : (c : Context) (ps : List Page) (d : Context) (qs : List Page) (r : Stepped) → d ≡ (after_step c ps).context → qs ≡ (after_step c ps).pages → r ≡ (after_step c ps).answer → OnMiss r ((d ≡ c) × (qs ≡ ps))
missed_after c ps d qs r same_context same_pages same_answer = rw (same_answer, same_context, same_pages) (is_step c ps).missed

-- a page after some changes
abbrev pub changed_by : List Change → Page → Page
changed_by [] p = p
changed_by (change ∷ changes) p = changed_by changes (changed change p)

pub all_changed-is : (changes : List Change) (ps : List Page) → all_changed changes ps ≡ map (changed_by changes) ps
all_changed-is [] ps = sym (map-id ps)
all_changed-is (change ∷ changes) ps = all_changed-is changes (map (changed change) ps) ∙ map-map (changed_by changes) (changed change) ps
