-- A step in few pages is the same step in more pages, where these show the same through every access that it makes.
use Rattle.std.proofs.Common.{◌≡◌, ℕ, ◌+◌, ◌/◌, ◌%◌, ◌≤◌, Bool, true, false, List, [], ◌∷◌, Option, Some, None, Contains, refl, ap, sym, ◌∙◌, subst}
use Rattle.std.specs.Prelude.{if◌then◌else◌, ◌==◌, ◌||◌, is_some}
use Rattle.std.specs.List.{find}
use Rattle.std.specs.Option.{option_map, option_and_then}
use Rattle.std.proofs.lemmas.Bool.{eqb-true, eq-eqb, or_right}
use Rattle.rv32_isa.specs.declared.forms.Instr.{Instr}
use Rattle.rv32_isa.specs.Table.{instruction_of}
use Rattle.rv32_ma.specs.declared.atomics.AmoOp.{AmoOp}
use Rattle.rv32_ma.specs.Atomics.{amo_of}
use Rattle.rv32_exec.specs.declared.contexts.Context.{Context}
use Rattle.rv32_exec.specs.declared.statuses.Access.{Access}
use Rattle.rv32_exec.specs.declared.statuses.Access.TheVariants.{Fetch, Read, Write}
use Rattle.rv32_exec.specs.declared.statuses.Reason.{Reason}
use Rattle.rv32_exec.specs.declared.spaces.Width.{Width}
use Rattle.rv32_exec.specs.declared.spaces.Width.TheVariants.{Word}
use Rattle.rv32_exec.specs.declared.actions.Action.{Action}
use Rattle.rv32_exec.specs.declared.actions.Action.TheVariants as actions
use Rattle.rv32_exec.specs.Pages.{Page, size_of, allows, where_allowed, translation, translates, number_at, read_through, fetched, loaded, stored_through, stored, touched_at}
use Rattle.rv32_exec.specs.Changes.{Change, Marked, Put, all_changed}
use Rattle.rv32_exec.specs.Actions.{action_of}
use Rattle.rv32_exec.specs.declared.steps.Stepped.TheVariants.{Next}
use Rattle.rv32_exec.specs.Registers.{next_of}
use Rattle.rv32_exec.specs.Steps.{After, ended, after_jump, advanced, load_found, store_found, write_found, read_found, after_action, after_decoding, after_fetch, after_step}
use Rattle.flat_laws.specs.flat_state.specs.NextSteps.{is_miss}
use Rattle.flat_laws.specs.flat_state.specs.Signals.{next_action}
use Rattle.flat_laws.specs.flat_state.proofs.Finding.{find-contains, find-passes}
use Rattle.flat_laws.specs.flat_state.proofs.Storing.{fits}
use Rattle.quantum.specs.Made.{has_mark}

-- what an access finds in the few pages it finds in the others: the frame, and the bytes
abbrev pub ShowsAt : List Page → List Page → Access → ℕ → Type 0
ShowsAt ps qs access va = (p : Page) → translation ps va access ≡ Some p → (q : Page) × (translation qs va access ≡ Some q) × (q.frame ≡ p.frame) × (q.bytes ≡ p.bytes)

abbrev pub AllShow : List Page → List Page → List (Access × ℕ) → Type 0
AllShow ps qs [] = Unit {0}
AllShow ps qs (x ∷ xs) = ShowsAt ps qs x.0 x.1 × AllShow ps qs xs

-- each access translates
abbrev pub AllFound : List Page → List (Access × ℕ) → Type 0
AllFound ps [] = Unit {0}
AllFound ps (x ∷ xs) = ((p : Page) × (translation ps x.1 x.0 ≡ Some p)) × AllFound ps xs

-- each access is marked
abbrev pub AllMarked : List Change → List (Access × ℕ) → Type 0
AllMarked cs [] = Unit {0}
AllMarked cs (x ∷ xs) = (has_mark (x.1 / 4096) cs ≡ true) × AllMarked cs xs

-- each mark is that of a page; what is put stays within the frame of a page that is marked
abbrev pub ArePuts : List Change → List Page → List Change → Type 0
ArePuts all ps [] = Unit {0}
ArePuts all ps (Marked number access ∷ cs) = ((p : Page) × Contains ps p × (p.number ≡ number)) × ArePuts all ps cs
ArePuts all ps (Put frame count at value ∷ cs) = (at + count ≤ 4096) × ((p : Page) × Contains ps p × (p.frame ≡ frame) × (has_mark p.number all ≡ true)) × ArePuts all ps cs

-- the accesses to data that an action makes
abbrev pub data_of : Action → List (Access × ℕ)
data_of (actions.Load rd va width signed) = if va % size_of width == 0 then (Read, va) ∷ [] else []
data_of (actions.Store va width value) = if va % size_of width == 0 then (Write, va) ∷ [] else []
data_of (actions.Atomic rd va op operand) = if va % 4 == 0 then (Read, va) ∷ (Write, va) ∷ [] else []
data_of _ = []

abbrev pub data_of_next : Option Action → List (Access × ℕ)
data_of_next None = []
data_of_next (Some a) = data_of a

found_allowed : (access : Access) (o : Option Page) (q : Page) → where_allowed access o ≡ Some q → o ≡ Some q
found_allowed access None q e = absurd (cc)
found_allowed access (Some p) q e = by (allows access p) e
  where
    by : (b : Bool) → (if b then Some p else None) ≡ Some q → Some p ≡ Some q
    by true e = e
    by false e = absurd (cc)

pub translation_contains : (qs : List Page) (va : ℕ) (access : Access) (q : Page) → translation qs va access ≡ Some q → Contains qs q
unfolding translation
translation_contains qs va access q e = find-contains (λ (p : Page). p.number == va / 4096) qs q (found_allowed access (find (λ (p : Page). p.number == va / 4096) qs) q e)

pub translation_number : (qs : List Page) (va : ℕ) (access : Access) (q : Page) → translation qs va access ≡ Some q → (q.number == va / 4096) ≡ true
unfolding translation
translation_number qs va access q e = find-passes (λ (p : Page). p.number == va / 4096) qs q (found_allowed access (find (λ (p : Page). p.number == va / 4096) qs) q e)

-- What a step makes of few pages, and of whatever pages show the same through its accesses: one context, one answer, and the
-- same changes.
pub record Acts (ps : List Page) (accesses : List (Access × ℕ)) (a : After) (b : List Page → After) : Type 0 where
  pub changes : List Change
  pub here : a.pages ≡ all_changed changes ps
  pub found : AllFound ps accesses
  pub marks : AllMarked changes accesses
  pub puts : ArePuts changes ps changes
  pub there : (qs : List Page) → AllShow ps qs accesses → b qs ≡ record { context = a.context; pages = all_changed changes qs; answer = a.answer }

marked_here : (n : ℕ) (access : Access) (cs : List Change) → has_mark n (Marked n access ∷ cs) ≡ true
marked_here n access cs = ap (λ (b : Bool). b || has_mark n cs) (eq-eqb n n refl)

marked_behind : (n k : ℕ) (access : Access) (cs : List Change) → has_mark n cs ≡ true → has_mark n (Marked k access ∷ cs) ≡ true
marked_behind n k access cs behind = ap (λ (b : Bool). (n == k) || b) behind ∙ or_right (n == k) true refl

module _ (ps : List Page) (c : Context) where
  abbrev Good : List (Access × ℕ) → After → (List Page → After) → Type 0
  Good accesses a b = is_miss a.answer ≡ false → Acts ps ((Fetch, c.pc) ∷ accesses) a b

  choice : (b : Bool) (xs ys : List (Access × ℕ)) (x y : After) (v w : List Page → After) → (b ≡ true → Good xs x v) → Good ys y w → Good (if b then xs else ys) (if b then x else y) (λ qs. if b then v qs else w qs)
  choice true xs ys x y v w h k = h refl
  choice false xs ys x y v w h k = k

  page_of_access : (va : ℕ) (access : Access) (p : Page) → translation ps va access ≡ Some p → (p : Page) × Contains ps p × (p.number ≡ va / 4096)
  page_of_access va access p e = (p, translation_contains ps va access p e, eqb-true p.number (va / 4096) (translation_number ps va access p e))

  -- what is read
  read_found_in : (qs : List Page) (access : Access) (va : ℕ) (width : Width) → ShowsAt ps qs access va → (o : Option Page) → translation ps va access ≡ o → (n : ℕ) → option_map (λ (p : Page). number_at width p.bytes (va % 4096)) o ≡ Some n → read_through access qs va width ≡ Some n
  unfolding read_through
  read_found_in qs access va width shows None e n is = absurd (cc)
  read_found_in qs access va width shows (Some p) e n is =
      let q = shows p e in
      ap (option_map (λ (r : Page). number_at width r.bytes (va % 4096))) q.1
      ∙ ap (λ bytes. Some (number_at width bytes (va % 4096))) q.3 ∙ is

  read_in : (qs : List Page) (access : Access) (va : ℕ) (width : Width) → ShowsAt ps qs access va → (n : ℕ) → read_through access ps va width ≡ Some n → read_through access qs va width ≡ Some n
  unfolding read_through
  read_in qs access va width shows n is = read_found_in qs access va width shows (translation ps va access) refl n is

  read_page : (access : Access) (va : ℕ) (width : Width) (n : ℕ) → read_through access ps va width ≡ Some n → (p : Page) × (translation ps va access ≡ Some p)
  unfolding read_through
  read_page access va width n is = by (translation ps va access) refl is
    where
      by : (o : Option Page) → translation ps va access ≡ o → option_map (λ (p : Page). number_at width p.bytes (va % 4096)) o ≡ Some n → (p : Page) × (translation ps va access ≡ Some p)
      by None e is = absurd (cc)
      by (Some p) e is = (p, e)

  write_page : (va : ℕ) → translates ps va Write ≡ true → (p : Page) × (translation ps va Write ≡ Some p)
  unfolding translates
  write_page va found = by (translation ps va Write) refl found
    where
      by : (o : Option Page) → translation ps va Write ≡ o → is_some o ≡ true → (p : Page) × (translation ps va Write ≡ Some p)
      by None e found = absurd (cc)
      by (Some p) e found = (p, e)

  true_not_false : {P : Type 0} → true ≡ false → P
  true_not_false e = absurd (cc)

  module _ (f : Page) (fetches : translation ps c.pc Fetch ≡ Some f) where
    -- nothing but the fetch
    only_fetch : (a : After) (b : List Page → After) → a.pages ≡ touched_at ps c.pc Fetch → ((qs : List Page) → b qs ≡ record a { pages = touched_at qs c.pc Fetch }) → Acts ps ((Fetch, c.pc) ∷ []) a b
    unfolding touched_at
    only_fetch a b here there = record {
      changes = Marked (c.pc / 4096) Fetch ∷ [];
      here = here;
      found = ((f, fetches), tt);
      marks = (marked_here (c.pc / 4096) Fetch [], tt);
      puts = (page_of_access c.pc Fetch f fetches, tt);
      there = λ qs shows. there qs;
    }

    of_end : (reason : Reason) → Good [] (ended c ps reason) (λ qs. ended c qs reason)
    of_end reason went = only_fetch _ _ refl (λ qs. refl)

    of_jump : (rd target : ℕ) → Good [] (after_jump c ps rd target) (λ qs. after_jump c qs rd target)
    of_jump rd target went = by (target % 4 == 0) _ _ _ _ (only_fetch _ _ refl (λ qs. refl)) (only_fetch _ _ refl (λ qs. refl))
      where
        by : (b : Bool) (x y : After) (v w : List Page → After) → Acts ps ((Fetch, c.pc) ∷ []) x v → Acts ps ((Fetch, c.pc) ∷ []) y w → Acts ps ((Fetch, c.pc) ∷ []) (if b then x else y) (λ qs. if b then v qs else w qs)
        by true x y v w h k = h
        by false x y v w h k = k

    of_load : (rd va : ℕ) (width : Width) (signed : Bool) (o : Option ℕ) → loaded ps va width ≡ o → Good ((Read, va) ∷ []) (load_found c ps rd va width signed o) (λ qs. load_found c qs rd va width signed (loaded qs va width))
    unfolding touched_at
    of_load rd va width signed None is = λ went. true_not_false went
    of_load rd va width signed (Some n) is = λ went.
        let p = read_page Read va width n is in
        record {
          changes = Marked (c.pc / 4096) Fetch ∷ Marked (va / 4096) Read ∷ [];
          here = refl;
          found = ((f, fetches), (p, tt));
          marks = (marked_here (c.pc / 4096) Fetch (Marked (va / 4096) Read ∷ []), (marked_behind (va / 4096) (c.pc / 4096) Fetch (Marked (va / 4096) Read ∷ []) (marked_here (va / 4096) Read []), tt));
          puts = (page_of_access c.pc Fetch f fetches, (page_of_access va Read p.0 p.1, tt));
          there = λ qs shows. ap (load_found c qs rd va width signed) (read_in qs Read va width shows.1.0 n is);
        }

    stored_in : (qs : List Page) (va : ℕ) (width : Width) (value : ℕ) (p q : Page) → translation qs va Write ≡ Some q → q.frame ≡ p.frame → (cs : List Change) → all_changed cs (stored qs va width value) ≡ all_changed (Put p.frame (size_of width) (va % 4096) value ∷ cs) qs
    unfolding stored
    stored_in qs va width value p q e frame cs =
        ap (λ o. all_changed cs (stored_through o qs va width value)) e ∙ ap (λ (g : ℕ). all_changed (Put g (size_of width) (va % 4096) value ∷ cs) qs) frame

    translates_in : (qs : List Page) (va : ℕ) (q : Page) → translation qs va Write ≡ Some q → translates qs va Write ≡ true
    unfolding translates
    translates_in qs va q e = ap is_some e

    aligned : (va : ℕ) (width : Width) → (va % size_of width == 0) ≡ true → va % 4096 + size_of width ≤ 4096
    aligned va width e = fits width va (eqb-true (va % size_of width) 0 e)

    put_page : (va : ℕ) (p : Page) (cs : List Change) → translation ps va Write ≡ Some p → has_mark (va / 4096) cs ≡ true → (q : Page) × Contains ps q × (q.frame ≡ p.frame) × (has_mark q.number cs ≡ true)
    put_page va p cs e mark = (p, translation_contains ps va Write p e, refl, subst (λ (n : ℕ). has_mark n cs ≡ true) (sym (eqb-true p.number (va / 4096) (translation_number ps va Write p e))) mark)

    of_store : (va : ℕ) (width : Width) (value : ℕ) → va % 4096 + size_of width ≤ 4096 → (b : Bool) → translates ps va Write ≡ b → Good ((Write, va) ∷ []) (store_found c ps va width value b) (λ qs. store_found c qs va width value (translates qs va Write))
    unfolding touched_at
    of_store va width value within false is = λ went. true_not_false went
    of_store va width value within true is = λ went.
        let p = write_page va is in
        let marks : List Change = Marked (c.pc / 4096) Fetch ∷ Marked (va / 4096) Write ∷ [] in
        let mark : has_mark (va / 4096) marks ≡ true = marked_behind (va / 4096) (c.pc / 4096) Fetch (Marked (va / 4096) Write ∷ []) (marked_here (va / 4096) Write []) in
        record {
          changes = Put p.0.frame (size_of width) (va % 4096) value ∷ marks;
          here = stored_in ps va width value p.0 p.0 p.1 refl marks;
          found = ((f, fetches), (p, tt));
          marks = (marked_here (c.pc / 4096) Fetch (Marked (va / 4096) Write ∷ []), (mark, tt));
          puts = (within, put_page va p.0 (Put p.0.frame (size_of width) (va % 4096) value ∷ marks) p.1 mark, (page_of_access c.pc Fetch f fetches, (page_of_access va Write p.0 p.1, tt)));
          there = λ qs shows.
              let q = shows.1.0 p.0 p.1 in
              ap (store_found c qs va width value) (translates_in qs va q.0 q.1)
              ∙ ap (λ (rs : List Page). record { context = record c { pc = next_of c }; pages = rs; answer = Next }) (stored_in qs va width value p.0 q.0 q.1 q.2 marks);
        }

    of_write : (rd va : ℕ) (op : AmoOp) (operand old : ℕ) → va % 4096 + 4 ≤ 4096 → loaded ps va Word ≡ Some old → (b : Bool) → translates ps va Write ≡ b
        → Good ((Read, va) ∷ (Write, va) ∷ []) (write_found c ps rd va op operand old b) (λ qs. read_found c qs rd va op operand (loaded qs va Word))
    unfolding touched_at
    of_write rd va op operand old within read false is = λ went. true_not_false went
    of_write rd va op operand old within read true is = λ went.
        let r = read_page Read va Word old read in
        let p = write_page va is in
        let value : ℕ = amo_of op old operand in
        let marks : List Change = Marked (c.pc / 4096) Fetch ∷ Marked (va / 4096) Read ∷ Marked (va / 4096) Write ∷ [] in
        let mark : has_mark (va / 4096) marks ≡ true = marked_behind (va / 4096) (c.pc / 4096) Fetch (Marked (va / 4096) Read ∷ Marked (va / 4096) Write ∷ []) (marked_here (va / 4096) Read (Marked (va / 4096) Write ∷ [])) in
        record {
          changes = Put p.0.frame 4 (va % 4096) value ∷ marks;
          here = stored_in ps va Word value p.0 p.0 p.1 refl marks;
          found = ((f, fetches), (r, (p, tt)));
          marks = (marked_here (c.pc / 4096) Fetch (Marked (va / 4096) Read ∷ Marked (va / 4096) Write ∷ []), (mark, (mark, tt)));
          puts = (within, put_page va p.0 (Put p.0.frame 4 (va % 4096) value ∷ marks) p.1 mark, (page_of_access c.pc Fetch f fetches, (page_of_access va Read r.0 r.1, (page_of_access va Write p.0 p.1, tt))));
          there = λ qs shows.
              let q = shows.1.1.0 p.0 p.1 in
              ap (read_found c qs rd va op operand) (read_in qs Read va Word shows.1.0 old read)
              ∙ (ap (write_found c qs rd va op operand old) (translates_in qs va q.0 q.1)
              ∙ ap (λ (rs : List Page). advanced c rs rd old) (stored_in qs va Word value p.0 q.0 q.1 q.2 marks));
        }

    of_read : (rd va : ℕ) (op : AmoOp) (operand : ℕ) → va % 4096 + 4 ≤ 4096 → (o : Option ℕ) → loaded ps va Word ≡ o
        → Good ((Read, va) ∷ (Write, va) ∷ []) (read_found c ps rd va op operand o) (λ qs. read_found c qs rd va op operand (loaded qs va Word))
    of_read rd va op operand within None is = λ went. true_not_false went
    of_read rd va op operand within (Some old) is = of_write rd va op operand old within is (translates ps va Write) refl

    of_action : (a : Action) → Good (data_of a) (after_action a c ps) (λ qs. after_action a c qs)
    unfolding after_action
    of_action (actions.Set rd value) = λ went. only_fetch _ _ refl (λ qs. refl)
    of_action actions.Pass = λ went. only_fetch _ _ refl (λ qs. refl)
    of_action (actions.Jump rd target) = of_jump rd target
    of_action (actions.Load rd va width signed) = choice (va % size_of width == 0) _ _ _ _ _ _ (λ e. of_load rd va width signed (loaded ps va width) refl) (of_end _)
    of_action (actions.Store va width value) = choice (va % size_of width == 0) _ _ _ _ _ _ (λ e. of_store va width value (aligned va width e) (translates ps va Write) refl) (of_end _)
    of_action (actions.Atomic rd va op operand) = choice (va % 4 == 0) _ _ _ _ _ _ (λ e. of_read rd va op operand (aligned va Word e) (loaded ps va Word) refl) (of_end _)
    of_action actions.Call = λ went. only_fetch _ _ refl (λ qs. refl)
    of_action actions.Break = of_end _

    of_decoding : (word : ℕ) (found : Option Instr) → Good (data_of_next (option_map (λ (instr : Instr). action_of instr c) found)) (after_decoding c ps word found) (λ qs. after_decoding c qs word found)
    of_decoding word None = of_end _
    of_decoding word (Some i) = of_action (action_of i c)

  of_fetch : (o : Option ℕ) → fetched ps c.pc ≡ o → Good (data_of_next (option_and_then (λ word. option_map (λ instr. action_of instr c) (instruction_of word)) o)) (after_fetch c ps o) (λ qs. after_fetch c qs (fetched qs c.pc))
  of_fetch None is = λ went. true_not_false went
  of_fetch (Some word) is = λ went.
      let f = read_page Fetch c.pc Word word is in
      let acts = of_decoding f.0 f.1 word (instruction_of word) went in
      record {
        changes = acts.changes;
        here = acts.here;
        found = acts.found;
        marks = acts.marks;
        puts = acts.puts;
        there = λ qs shows. ap (after_fetch c qs) (read_in qs Fetch c.pc Word shows.0 word is) ∙ acts.there qs shows;
      }

-- a step that isn't missed
pub step_acts : (ps : List Page) (c : Context) → is_miss (after_step c ps).answer ≡ false → Acts ps ((Fetch, c.pc) ∷ data_of_next (next_action c ps)) (after_step c ps) (λ qs. after_step c qs)
unfolding after_step next_action
step_acts ps c = of_fetch ps c (fetched ps c.pc) refl

-- it asks for the same
pub same_action : (ps qs : List Page) (c : Context) → is_miss (after_step c ps).answer ≡ false → ShowsAt ps qs Fetch c.pc → next_action c qs ≡ next_action c ps
unfolding after_step next_action
same_action ps qs c went shows = by (fetched ps c.pc) refl went
  where
    by : (o : Option ℕ) → fetched ps c.pc ≡ o → is_miss (after_fetch c ps o).answer ≡ false → option_and_then (λ word. option_map (λ instr. action_of instr c) (instruction_of word)) (fetched qs c.pc) ≡ option_and_then (λ word. option_map (λ instr. action_of instr c) (instruction_of word)) (fetched ps c.pc)
    by None is went = true_not_false ps c went
    by (Some word) is went = ap (option_and_then (λ word. option_map (λ instr. action_of instr c) (instruction_of word))) (read_in ps c qs Fetch c.pc Word shows word is ∙ sym is)
