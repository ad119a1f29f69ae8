-- What declarations make of the machine of a run with few frames.
use Rattle.std.proofs.Common.{◌≡◌, ℕ, suc, ◌+◌, ◌-◌, take, ◌*◌, ◌<◌, true, false, List, [], ◌∷◌, ◌++◌, map, length, replicate, drop, get_or, Option, Some, None, refl, sym, ap, ◌∙◌, subst, append_assoc, drop-cons, arith}
use Rattle.std.specs.Prelude.{unwrap_or, IsSome}
use Rattle.std.proofs.lemmas.List.{append-nil, length-drop, length-replicate, take_all}
use Rattle.cache_ident.specs.declared.names.Frame.{Frame}
use Rattle.phys_groups.specs.Memory.{word_bytes, written}
use Rattle.flat_rules.specs.flat_state.specs.declared.events.Decl.{Decl}
use Rattle.flat_rules.specs.flat_state.specs.declared.events.Decl.TheVariants as decls
use Rattle.flat_rules.specs.flat_state.specs.declared.events.Event.TheVariants.{Declare}
use Rattle.flat_rules.specs.flat_state.specs.declared.events.Machine.{Machine}
use Rattle.flat_rules.specs.flat_state.specs.State.{nothing_declared, FlatState}
use Rattle.flat_rules.specs.flat_state.specs.Declaration.{broken_rule, declared, rule_by_machine, rule_of_machine}
use Rattle.flat_rules.specs.flat_state.specs.Events.{after_declarations, applied, declared_unless, AllFit}
use Rattle.flat_rules.specs.flat_state.specs.WellFormed.{IsWellFormed}
use Rattle.flat_rules.specs.flat_state.proofs.FormedParts.{word_formed}
use Rattle.paged_steps.specs.memory_laws.specs.Apart.{is_apart, over}
use Rattle.paged_steps.specs.memory_laws.proofs.Apart.{declared_apart, rule_apart}
use Rattle.page_store.specs.Kept.{Kept, Means}
use Rattle.paged_steps.specs.Pages.{HasFrames}
use Rattle.paged_steps.proofs.Taking.{over_formed}
use Rattle.run_journal.specs.declared.entries.Entry.{Entry}
use Rattle.run_journal.specs.declared.entries.Entry.TheVariants.{Declared, Sealed}
use Rattle.run_journal.specs.Points.{opening}
use Rattle.paged_run.specs.declared.pager.Pager.{Pager}
use Rattle.paged_run.specs.Openings.{frames_of, AddsAll, IsBare, IsZeros, Makes}

-- ---- declarations over any memory

-- what a declaration adds is the same over any memory, but for memory
declared_over : (s : FlatState) (m : List ℕ) (d : Decl) → (n : List ℕ) × (declared (over s m) d ≡ over (declared s d) n)
unfolding declared
declared_over s m (decls.Machine machine) = (replicate (524288 * machine.groups) 0, refl)
declared_over s m (decls.Kernel n limits) = (m, refl)
declared_over s m (decls.Right kernel group read write) = (m, refl)
declared_over s m (decls.Space n kernel) = (m, refl)
declared_over s m (decls.Thread n space pc priority a0 a1) = (m, refl)
declared_over s m (decls.Map space vpn frame flags receiver) = (m, refl)
declared_over s m (decls.Word frame offset value) = (written m (4096 * frame.0 + offset) (word_bytes value), refl)

pub fit_over : (ds : List Decl) (s : FlatState) (m : List ℕ) → AllFit s ds → AllFit (over s m) ds
fit_over [] s m fit = tt
fit_over (d ∷ ds) s m fit =
    let next = declared_over s m d in
    (rule_apart s m d ∙ fit.0, subst (λ (u : FlatState). AllFit u ds) (sym next.1) (fit_over ds (declared s d) next.0 fit.1))

-- behind the machine's, a declaration that isn't a word's leaves memory
apart_if : (s : FlatState) (d : Decl) → IsSome s.machine → broken_rule s d ≡ None → ((frame : Frame) (offset value : ℕ) → d ≡ decls.Word frame offset value → ⊥) → is_apart d ≡ true
unfolding broken_rule
apart_if s (decls.Machine machine) there fits other = by s.machine there fits
  where
    by : (o : Option Machine) → IsSome o → rule_by_machine o s (decls.Machine machine) ≡ None → false ≡ true
    by None there fits = absurd (cc)
    by (Some m) there fits = absurd (cc)
apart_if s (decls.Kernel n limits) there fits other = refl
apart_if s (decls.Right kernel group read write) there fits other = refl
apart_if s (decls.Space n kernel) there fits other = refl
apart_if s (decls.Thread n space pc priority a0 a1) there fits other = refl
apart_if s (decls.Map space vpn frame flags receiver) there fits other = refl
apart_if s (decls.Word frame offset value) there fits other = absurd (other frame offset value refl)

kept_apart : (s : FlatState) (d : Decl) → is_apart d ≡ true → ((declared s d).memory ≡ s.memory) × ((declared s d).machine ≡ s.machine)
unfolding declared
kept_apart s (decls.Machine machine) apart = absurd (cc)
kept_apart s (decls.Kernel n limits) apart = (refl, refl)
kept_apart s (decls.Right kernel group read write) apart = (refl, refl)
kept_apart s (decls.Space n kernel) apart = (refl, refl)
kept_apart s (decls.Thread n space pc priority a0 a1) apart = (refl, refl)
kept_apart s (decls.Map space vpn frame flags receiver) apart = (refl, refl)
kept_apart s (decls.Word frame offset value) apart = absurd (cc)

pub applied_so : (s : FlatState) (d : Decl) → broken_rule s d ≡ None → applied s (Declare d) ≡ declared s d
applied_so s d fits = ap (λ (o : Option ℕ). unwrap_or (declared_unless o s d) s) fits

-- ---- one declaration

-- .. that isn't a word's
module _ (s new : FlatState) (d : Decl) (machine : IsSome s.machine) (fits : broken_rule s d ≡ None) (other : (frame : Frame) (offset value : ℕ) → d ≡ decls.Word frame offset value → ⊥) (is : new ≡ applied s (Declare d)) where
  so : new ≡ declared s d
  so = is ∙ applied_so s d fits

  size : length new.memory ≡ length s.memory
  size = ap (λ (u : FlatState). length u.memory) so ∙ ap length (kept_apart s d (apart_if s d machine fits other)).0

  pub makes_apart : (pages : Kept) (held : Option (List ℕ)) → Makes (d ∷ []) s pages held new pages held
  makes_apart pages held = λ m fit_size. (
    m,
    fit_size ∙ sym size,
    ap (λ (u : FlatState). over u m) so ∙ sym (declared_apart s m d (apart_if s d machine fits other)),
    λ means. means,
  )

  pub frames_apart : (pages : Kept) (frames : ℕ) → HasFrames s pages frames → HasFrames new pages frames
  frames_apart pages frames has = record { size = size ∙ has.size; same = has.same }

  pub machine_apart : new.machine ≡ s.machine
  machine_apart = ap (λ (u : FlatState). u.machine) so ∙ (kept_apart s d (apart_if s d machine fits other)).1

-- .. that is
pub makes_word : (s : FlatState) (frame : Frame) (offset value : ℕ) (pages kept : Kept) (frames : ℕ) (held told : Option (List ℕ)) → IsWellFormed s → HasFrames s pages frames → broken_rule s (decls.Word frame offset value) ≡ None
    → ((m : List ℕ) → Means pages held m → Means kept told (written m (4096 * frame.0 + offset) (word_bytes value))) → Makes (decls.Word frame offset value ∷ []) s pages held s kept told
unfolding declared
makes_word s frame offset value pages kept frames held told formed has fits puts = λ m size.
    let over_it = over_formed s pages frames m formed has (size ∙ has.size) in
    let after = word_formed (over s m) frame offset value over_it (rule_apart s m (decls.Word frame offset value) ∙ fits) in
    (written m (4096 * frame.0 + offset) (word_bytes value), after.memory.size ∙ sym formed.memory.size, refl, puts m)

-- ---- all of them

pub adds_none : (p : Pager) (h : Option (List ℕ)) → AddsAll [] p h p h
adds_none p h = record {
  makes = λ m size. (m, size, refl, λ means. means);
  entries = sym (append-nil p.journal.entries);
  machine = refl;
  quantum = refl;
  order = refl;
  steps = refl;
}

pub adds_then : (d : Decl) (ds : List Decl) (p q r : Pager) (h k l : Option (List ℕ)) → AddsAll (d ∷ []) p h q k → AddsAll ds q k r l → AddsAll (d ∷ ds) p h r l
adds_then d ds p q r h k l first rest = record {
  makes = λ m size.
      let one = first.makes m size in
      let more = rest.makes one.0 one.1 in
      (more.0, more.1, more.2 ∙ ap (λ (s : FlatState). after_declarations s ds) one.2, λ means. more.3 (one.3 means));
  entries = rest.entries ∙ ap (λ (j : List Entry). j ++ map Declared ds) first.entries ∙ append_assoc p.journal.entries (Declared d ∷ []) (map Declared ds);
  machine = rest.machine ∙ first.machine;
  quantum = rest.quantum ∙ first.quantum;
  order = rest.order ∙ first.order;
  steps = rest.steps ∙ first.steps;
}

pub cut : (ds : List Decl) (i : ℕ) (d : Decl) → i < length ds → drop i ds ≡ get_or ds i d ∷ drop (i + 1) ds
cut ds i d h =
    let e : i + 1 ≡ suc i = omega arith in
    rw e (drop-cons ds i d h)

pub first_fits : (s : FlatState) (ds rest : List Decl) (d : Decl) → ds ≡ d ∷ rest → AllFit s ds → broken_rule s d ≡ None
first_fits s ds rest d is fit = let here : AllFit s (d ∷ rest) = subst (AllFit s) is fit in here.0

-- those that follow fit what a declaration made
pub rest_fits : (p q : Pager) (h k : Option (List ℕ)) (ds rest : List Decl) (d : Decl) → ds ≡ d ∷ rest → AllFit p.tables ds → AddsAll (d ∷ []) p h q k → AllFit q.tables rest
rest_fits p q h k ds rest d is fit adds =
    let here : AllFit p.tables (d ∷ rest) = subst (AllFit p.tables) is fit in
    let made = adds.makes p.tables.memory refl in
    fit_over rest (over q.tables made.0) q.tables.memory (subst (λ (s : FlatState). AllFit s rest) (sym made.2) here.1)

-- what is declared of the rest is declared of all
pub one_more : (p q r t : Pager) (g h k l : Option (List ℕ)) (whole ds rest : List Decl) (d : Decl) → ds ≡ d ∷ rest → AddsAll (d ∷ []) q h r k
    → ((end : Pager) (told : Option (List ℕ)) → AddsAll ds q h end told → AddsAll whole p g end told) → AddsAll rest r k t l → AddsAll whole p g t l
one_more p q r t g h k l whole ds rest d is adds so_far more =
    so_far t l (subst (λ (xs : List Decl). AddsAll xs q h t l) (sym is) (adds_then d rest q r t h k l adds more))

pub all_done : (p q : Pager) (g h : Option (List ℕ)) (whole ds : List Decl) → ds ≡ [] → ((end : Pager) (told : Option (List ℕ)) → AddsAll ds q h end told → AddsAll whole p g end told) → AddsAll whole p g q h
all_done p q g h whole ds none so_far = so_far q h (subst (λ (xs : List Decl). AddsAll xs q h q h) (sym none) (adds_none q h))

-- ---- the machine

-- those behind the first are what a slice from there has
pub whole_tail : (ds : List Decl) (m : Machine) → ds ≡ decls.Machine m ∷ drop 1 ds → ds ≡ decls.Machine m ∷ take (length ds - 1) (drop 1 ds)
whole_tail ds m is = is ∙ ap (λ (xs : List Decl). decls.Machine m ∷ xs) (sym (take_all (length ds - 1) (drop 1 ds) (omega (arith, length-drop 1 ds))))

-- a machine that stands first breaks no rule of machines
pub machine_fits : (ds rest : List Decl) (m : Machine) → ds ≡ decls.Machine m ∷ rest → AllFit nothing_declared ds → rule_of_machine m ≡ None
unfolding broken_rule
machine_fits ds rest m is fit = first_fits nothing_declared ds rest (decls.Machine m) is fit

pub machine_alone : (m : Machine) → rule_of_machine m ≡ None → broken_rule nothing_declared (decls.Machine m) ≡ None
unfolding broken_rule
machine_alone m fits = fits

-- there is the machine, with the frames of its groups
module _ (m : Machine) (frames : ℕ) (p : Pager) (bare : IsBare m frames p) where
  bare_machine : p.tables.machine ≡ Some m
  unfolding declared
  bare_machine = ap (λ (s : FlatState). s.machine) bare.tables

  pub bare_some : IsSome p.tables.machine
  bare_some = subst IsSome (sym bare_machine) refl

  pub bare_size : length p.tables.memory ≡ 524288 * m.groups
  unfolding declared
  bare_size = ap (λ (s : FlatState). length s.memory) bare.tables ∙ length-replicate (524288 * m.groups) 0

  bare_frames : p.paged.frames ≡ 128 * m.groups
  bare_frames = ap (λ (k : Kept). k.frames) bare.paged

  pub bare_has : (has : ℕ) → has ≡ 128 * m.groups → HasFrames p.tables p.paged has
  bare_has has is = record { size = omega (arith, bare_size, bare_frames); same = is ∙ sym bare_frames }

  pub bare_fit : (ds rest : List Decl) → ds ≡ decls.Machine m ∷ rest → AllFit nothing_declared ds → AllFit p.tables rest
  bare_fit ds rest is fit =
      let here : AllFit nothing_declared (decls.Machine m ∷ rest) = subst (AllFit nothing_declared) is fit in
      subst (λ (s : FlatState). AllFit s rest) (sym bare.tables) here.1

  over_zeros : over p.tables (replicate (524288 * m.groups) 0) ≡ declared nothing_declared (decls.Machine m)
  unfolding declared
  over_zeros = ap (λ (s : FlatState). over s (replicate (524288 * m.groups) 0)) bare.tables

  pub opened_memory : (ds rest : List Decl) (q : Pager) (held told : Option (List ℕ)) (bytes : List ℕ) → ds ≡ decls.Machine m ∷ rest → AddsAll rest p held q told → held ≡ Some bytes → IsZeros (frames_of ds) bytes
      → (n : List ℕ) × Means q.paged told n × (over q.tables n ≡ after_declarations nothing_declared ds)
  opened_memory ds rest q held told bytes is adds tells zeros =
      let z : List ℕ = replicate (524288 * m.groups) 0 in
      let many : 4096 * frames_of ds ≡ 524288 * m.groups = omega (arith, ap frames_of is) in
      let all : held ≡ Some z = tells ∙ ap (λ (x : List ℕ). Some x) (zeros ∙ ap (λ (k : ℕ). replicate k 0) many) in
      let made = adds.makes z (length-replicate (524288 * m.groups) 0 ∙ sym bare_size) in (
        made.0,
        made.3 (subst (λ (h : Option (List ℕ)). Means p.paged h z) (sym all) bare.memory),
        made.2 ∙ ap (λ (s : FlatState). after_declarations s rest) over_zeros ∙ ap (λ (xs : List Decl). after_declarations nothing_declared xs) (sym is),
      )

pub opened_entries : (ds rest : List Decl) (m : Machine) (before between after : List Entry) → ds ≡ decls.Machine m ∷ rest → before ≡ Declared (decls.Machine m) ∷ [] → between ≡ before ++ map Declared rest → after ≡ between ++ Sealed ∷ [] → after ≡ opening ds
opened_entries ds rest m before between after is first then last =
    last ∙ ap (λ (j : List Entry). j ++ Sealed ∷ []) (then ∙ ap (λ (j : List Entry). j ++ map Declared rest) first) ∙ ap opening (sym is)
