-- Which marks a step that isn't missed leaves on the pages of its space, and which of its accesses translate.
use Rattle.std.proofs.Common.{◌≡◌, ℕ, ◌/◌, ◌%◌, Bool, true, false, ◌&&◌, ◌||◌, List, [], ◌∷◌, map, Option, Some, None, is_some, refl, ap, ap₂, sym, ◌∙◌, subst}
use Rattle.std.specs.Prelude.{if◌then◌else◌, ◌==◌}
use Rattle.std.specs.List.{find}
use Rattle.std.proofs.Math.Bool.{and-false, or-false, or_assoc}
use Rattle.std.proofs.lemmas.Bool.{eq-eqb}
use Rattle.rv32_ma.specs.declared.atomics.AmoOp.{AmoOp}
use Rattle.rv32_exec.specs.declared.contexts.Context.{Context}
use Rattle.rv32_exec.specs.declared.statuses.Access.{Access}
use Rattle.rv32_exec.specs.declared.statuses.Access.TheVariants.{Fetch, Read, Write}
use Rattle.rv32_exec.specs.declared.actions.Action.{Action}
use Rattle.rv32_exec.specs.declared.actions.Action.TheVariants as actions
use Rattle.rv32_exec.specs.declared.steps.Stepped.{Stepped}
use Rattle.rv32_exec.specs.declared.steps.Stepped.TheVariants.{Next, Call, Stop, Miss}
use Rattle.rv32_exec.specs.Pages.{Page, size_of, where_allowed, translation, translates, put_bytes, put_in_frame, mark, mark_page, is_write}
use Rattle.rv32_exec.specs.Changes.{Change, Marked, Put}
use Rattle.rv32_exec.specs.Steps.{After, after_step}
use Rattle.rv32_exec.proofs.StepChanges.{IsMark, AreMade, marks_in, marks_of, OnHit, is_step, changed_by, all_changed-is}
use Rattle.flat_state.specs.declared.records.DataAccess.{DataAccess}
use Rattle.flat_state.specs.Signals.{next_action}
use Rattle.flat_state.specs.NextSteps.{data_access, stores, is_miss}

-- The pages became others, each with its number. Those whose number passes the first test are touched, those whose
-- number passes the second are written, and no other mark changes.
pub record AreMarked (before after : List Page) (touches writes : ℕ → Bool) : Type 0 where
  pub by : Page → Page
  pub is : after ≡ map by before
  pub number : (p : Page) → (by p).number ≡ p.number
  pub touched : (p : Page) → (by p).touched ≡ (p.touched || touches p.number)
  pub written : (p : Page) → (by p).written ≡ (p.written || writes p.number)

mark_marks : (number : ℕ) (access : Access) (p : Page) → ((mark_page number access p).number ≡ p.number) × ((mark_page number access p).touched ≡ (p.touched || (p.number == number))) × ((mark_page number access p).written ≡ (p.written || (is_write access && (p.number == number))))
mark_marks number access p = by_test (p.number == number) access
  where
    or-true : (b : Bool) → true ≡ (b || true)
    or-true true = refl
    or-true false = refl

    by_test : (b : Bool) (access : Access) → ((if b then mark access p else p).number ≡ p.number) × ((if b then mark access p else p).touched ≡ (p.touched || b)) × ((if b then mark access p else p).written ≡ (p.written || (is_write access && b)))
    by_test true Fetch = (refl, or-true p.touched, sym (or-false p.written))
    by_test true Read = (refl, or-true p.touched, sym (or-false p.written))
    by_test true Write = (refl, or-true p.touched, or-true p.written)
    by_test false access = (refl, sym (or-false p.touched), sym (ap (λ b. p.written || b) (and-false (is_write access)) ∙ or-false p.written))

put_marks : (frame count at value : ℕ) (p : Page) → ((put_in_frame frame count at value p).number ≡ p.number) × ((put_in_frame frame count at value p).touched ≡ p.touched) × ((put_in_frame frame count at value p).written ≡ p.written)
put_marks frame count at value p = by_test (p.frame == frame) (record p { bytes = put_bytes count p.bytes at value }) refl refl refl
  where
    by_test : (b : Bool) (q : Page) → q.number ≡ p.number → q.touched ≡ p.touched → q.written ≡ p.written → ((if b then q else p).number ≡ p.number) × ((if b then q else p).touched ≡ p.touched) × ((if b then q else p).written ≡ p.written)
    by_test true q number touched written = (number, touched, written)
    by_test false q number touched written = (refl, refl, refl)

-- whether some marks touch the page of that number, and whether one of them is of a write
abbrev touched_in : List Change → ℕ → Bool
touched_in [] n = false
touched_in (Marked number access ∷ marks) n = (n == number) || touched_in marks n
touched_in (Put frame count at value ∷ marks) n = touched_in marks n

abbrev written_in : List Change → ℕ → Bool
written_in [] n = false
written_in (Marked number access ∷ marks) n = (is_write access && (n == number)) || written_in marks n
written_in (Put frame count at value ∷ marks) n = written_in marks n

-- what the marks among some changes make of a page
record HasMarks (marks : List Change) (p q : Page) : Type 0 where
  number : q.number ≡ p.number
  touched : q.touched ≡ (p.touched || touched_in marks p.number)
  written : q.written ≡ (p.written || written_in marks p.number)

changes_mark : (changes : List Change) (p : Page) → HasMarks (marks_in changes) p (changed_by changes p)
changes_mark [] p = record { number = refl; touched = sym (or-false p.touched); written = sym (or-false p.written) }
changes_mark (Marked number access ∷ changes) p =
    let first = mark_marks number access p in
    let rest = changes_mark changes (mark_page number access p) in
    record {
      number = rest.number ∙ first.0;
      touched = rest.touched ∙ ap₂ (λ (b : Bool) (n : ℕ). b || touched_in (marks_in changes) n) first.1 first.0 ∙ or_assoc p.touched (p.number == number) (touched_in (marks_in changes) p.number);
      written = rest.written ∙ ap₂ (λ (b : Bool) (n : ℕ). b || written_in (marks_in changes) n) first.2 first.0 ∙ or_assoc p.written (is_write access && (p.number == number)) (written_in (marks_in changes) p.number);
    }
changes_mark (Put frame count at value ∷ changes) p =
    let first = put_marks frame count at value p in
    let rest = changes_mark changes (put_in_frame frame count at value p) in
    record {
      number = rest.number ∙ first.0;
      touched = rest.touched ∙ ap₂ (λ (b : Bool) (n : ℕ). b || touched_in (marks_in changes) n) first.1 first.0;
      written = rest.written ∙ ap₂ (λ (b : Bool) (n : ℕ). b || written_in (marks_in changes) n) first.2 first.0;
    }

-- the access of an action, if there is one
abbrev pub access_of : Option Action → Option DataAccess
access_of None = None
access_of (Some action) = data_access action

-- the page of that number is the one of an access
abbrev pub is_at : Option DataAccess → ℕ → Bool
is_at None n = false
is_at (Some a) n = n == a.va / 4096

-- an action's marks are those of its access, and writes where it stores
its_marks : (action : Option Action) (n : ℕ) → (touched_in (marks_of action) n ≡ is_at (access_of action) n) × (written_in (marks_of action) n ≡ (stores action && is_at (access_of action) n))
its_marks None n = (refl, refl)
its_marks (Some (actions.Load rd va width signed)) n = by_test (va % size_of width == 0)
  where
    by_test : (b : Bool) → let marks : List Change = if b then Marked (va / 4096) Read ∷ [] else [] in let access : Option DataAccess = if b then Some (record { access = Read; va = va }) else None in (touched_in marks n ≡ is_at access n) × (written_in marks n ≡ (false && is_at access n))
    by_test true = (or-false (n == va / 4096), refl)
    by_test false = (refl, refl)
its_marks (Some (actions.Store va width value)) n = by_test (va % size_of width == 0)
  where
    by_test : (b : Bool) → let marks : List Change = if b then Marked (va / 4096) Write ∷ [] else [] in let access : Option DataAccess = if b then Some (record { access = Write; va = va }) else None in (touched_in marks n ≡ is_at access n) × (written_in marks n ≡ (true && is_at access n))
    by_test true = (or-false (n == va / 4096), or-false (n == va / 4096))
    by_test false = (refl, refl)
its_marks (Some (actions.Atomic rd va op operand)) n = by_test (va % 4 == 0)
  where
    twice : (b : Bool) → (b || (b || false)) ≡ b
    twice true = refl
    twice false = refl

    by_test : (b : Bool) → let marks : List Change = if b then Marked (va / 4096) Read ∷ Marked (va / 4096) Write ∷ [] else [] in let access : Option DataAccess = if b then Some (record { access = Read; va = va }) else None in (touched_in marks n ≡ is_at access n) × (written_in marks n ≡ (true && is_at access n))
    by_test true = (twice (n == va / 4096), or-false (n == va / 4096))
    by_test false = (refl, refl)
its_marks (Some (actions.Set rd value)) n = (refl, refl)
its_marks (Some actions.Pass) n = (refl, refl)
its_marks (Some (actions.Jump rd target)) n = (refl, refl)
its_marks (Some actions.Call) n = (refl, refl)
its_marks (Some actions.Break) n = (refl, refl)

on_hit : (P : Type 0) (answer : Stepped) → is_miss answer ≡ false → OnHit answer P → P
on_hit P Next hit p = p
on_hit P Call hit p = p
on_hit P (Stop reason) hit p = p
on_hit P (Miss va access) hit p = absurd (cc)

module _ (c : Context) (ps : List Page) where
  -- a step that made that access, if any, and stored or not
  pub record IsWalked (access : Option DataAccess) (storing : Bool) (after : After) : Type 0 where
    pub marks : AreMarked ps after.pages (λ n. (n == c.pc / 4096) || is_at access n) (λ n. storing && is_at access n)
    pub reaches : (a : DataAccess) → access ≡ Some a → translates ps a.va a.access ≡ true

  marks_made : (changes : List Change) → AreMade ps changes → AreMade ps (marks_in changes)
  marks_made [] made = tt
  marks_made (Marked number access ∷ changes) made = (made.0, marks_made changes made.1)
  marks_made (Put frame count at value ∷ changes) made = marks_made changes made.1

  -- a mark is of a page to which its access translates
  mark_there : (va : ℕ) (access : Access) → IsMark ps (va / 4096) access → translates ps va access ≡ true
  unfolding translates translation
  mark_there va access is = ap (λ n. is_some (where_allowed access (find (λ p. p.number == n) ps))) is.page ∙ is.there

  reaches_one : (b : Bool) (va : ℕ) (access : Access) (marks : List Change) → AreMade ps (if b then Marked (va / 4096) access ∷ marks else []) → (a : DataAccess) → (if b then Some (record { access = access; va = va }) else None) ≡ Some a → translates ps a.va a.access ≡ true
  reaches_one true va access marks made a e =
      let same : record { access = access; va = va } ≡ a = cc in
      ap (λ (x : DataAccess). translates ps x.va x.access) (sym same) ∙ mark_there va access made.0
  reaches_one false va access marks made a e = absurd (cc)

  reaches_its : (action : Option Action) → AreMade ps (marks_of action) → (a : DataAccess) → access_of action ≡ Some a → translates ps a.va a.access ≡ true
  reaches_its (Some (actions.Load rd va width signed)) made a e = reaches_one (va % size_of width == 0) va Read [] made a e
  reaches_its (Some (actions.Store va width value)) made a e = reaches_one (va % size_of width == 0) va Write [] made a e
  reaches_its (Some (actions.Atomic rd va op operand)) made a e = reaches_one (va % 4 == 0) va Read (Marked (va / 4096) Write ∷ []) made a e
  reaches_its _ made a e = absurd (cc)

  module _ (hit : is_miss (after_step c ps).answer ≡ false) where
    its_changes : marks_in (is_step c ps).changes ≡ Marked (c.pc / 4096) Fetch ∷ marks_of (next_action c ps)
    unfolding next_action
    its_changes = on_hit _ (after_step c ps).answer hit (is_step c ps).hit

    made : AreMade ps (Marked (c.pc / 4096) Fetch ∷ marks_of (next_action c ps))
    made = subst (AreMade ps) its_changes (marks_made (is_step c ps).changes (is_step c ps).each)

    -- what a step that isn't missed goes through and marks
    pub step_walks : IsWalked (access_of (next_action c ps)) (stores (next_action c ps)) (after_step c ps) × (translates ps c.pc Fetch ≡ true)
    step_walks =
        let step = is_step c ps in
        let marks = its_marks (next_action c ps) in (
          record {
            marks = record {
              by = changed_by step.changes;
              is = step.here ∙ all_changed-is step.changes ps;
              number = λ p. (changes_mark step.changes p).number;
              touched = λ p. (changes_mark step.changes p).touched ∙ ap (λ cs. p.touched || touched_in cs p.number) its_changes ∙ ap (λ b. p.touched || ((p.number == c.pc / 4096) || b)) (marks p.number).0;
              written = λ p. (changes_mark step.changes p).written ∙ ap (λ cs. p.written || written_in cs p.number) its_changes ∙ ap (λ b. p.written || b) (marks p.number).1;
            };
            reaches = reaches_its (next_action c ps) made.1;
          },
          mark_there c.pc Fetch made.0,
        )

    -- an atomic action that isn't missed writes too
    pub atomic_writes : (rd va : ℕ) (op : AmoOp) (operand : ℕ) → next_action c ps ≡ Some (actions.Atomic rd va op operand) → va % 4 ≡ 0 → translates ps va Write ≡ true
    atomic_writes rd va op operand is divides =
        mark_there va Write
        (subst (λ b. AreMade ps (if b then Marked (va / 4096) Read ∷ Marked (va / 4096) Write ∷ [] else [])) (eq-eqb (va % 4) 0 divides) (subst (λ action. AreMade ps (marks_of action)) is made.1)).1.0
