-- What the tables are of while nothing comes or goes.
use Rattle.std.proofs.Common.{◌≡◌, ◌↔◌, ℕ, zero, suc, ◌/◌, ◌%◌, true, List, [], ◌∷◌, ◌++◌, replicate, Contains, Option, Some, None, is_some, slice_get, refl, ap, ap₂, sym, ◌∙◌, subst}
use Rattle.std.specs.Prelude.{◌||◌, if◌then◌else◌, option_to_list}
use Rattle.std.specs.Option.{option_map}
use Rattle.cache_ident.specs.declared.names.Frame.{Frame}
use Rattle.cache_ident.specs.declared.names.KernelNo.{KernelNo}
use Rattle.cache_ident.specs.declared.names.Name.{Name}
use Rattle.cache_ident.specs.declared.names.Name.TheVariants.{Kernel, Space, Thread, Mapping}
use Rattle.cache_ident.specs.declared.names.SpaceNo.{SpaceNo}
use Rattle.cache_ident.specs.declared.names.ThreadNo.{ThreadNo}
use Rattle.cache_ident.specs.Residents.{Resident}
use Rattle.phys_groups.specs.declared.rows.Flags.{Flags}
use Rattle.phys_groups.specs.declared.rows.Row.{Row}
use Rattle.phys_groups.specs.Translation.{row_of}
use Rattle.residents.specs.flat_state.specs.declared.events.Decl.{Decl}
use Rattle.residents.specs.flat_state.specs.declared.events.Event.{Event}
use Rattle.residents.specs.flat_state.specs.declared.events.Event.TheVariants.{Step, Complete}
use Rattle.residents.specs.flat_state.specs.State.{FlatState}
use Rattle.residents.specs.flat_state.specs.Names.{stands}
use Rattle.residents.specs.flat_state.specs.Dependence.{Depends, owner, owner_of_row, parents}
use Rattle.residents.specs.flat_state.specs.Events.{after_events, applied, flat}
use Rattle.residents.specs.flat_state.specs.WellFormed.{IsWellFormed}
use Rattle.residents.specs.flat_state.proofs.FormedEvents.{flat_formed}
use Rattle.residents.specs.flat_laws.proofs.EventKeeps.{event_keeps}
use Rattle.residents.specs.flat_laws.proofs.Members.{contains_nothing}
use Rattle.residents.specs.flat_laws.proofs.StepSame.{IsSameBut, step_same, found_row, same_owner, same_parents}
use Rattle.journal_rules.specs.Relied.{reliances_of, relied_on}
use Rattle.journal_rules.specs.journal_laws.proofs.SameDependence.{depends_on_same, owner_stays}
use Rattle.residents.specs.declared.relying.Reliance.{Reliance}
use Rattle.residents.specs.declared.relying.Reliance.TheVariants.{Rights, Signals}
use Rattle.residents.specs.Pairs.{IsPair}
use Rattle.residents.specs.Relying.{IsRelying}
use Rattle.residents.specs.run_journal.specs.declared.entries.Entry.TheVariants.{Declared, Sealed, Ran, Ended, Completed}
use Rattle.residents.specs.run_journal.specs.Told.{Told, told_after}
use Rattle.residents.specs.run_journal.specs.Legal.{MayRun, MayEnd, MayComplete}
use Rattle.journal_tables.specs.declared.tables.Tables.{Tables}
use Rattle.journal_tables.specs.Tables.{AreOf}
use Rattle.journal_tables.specs.Whole.{AreWhole}
use Rattle.journal_tables.proofs.WholeLemmas.{whole_nothing, whole_ran, whole_ended, whole_completed}
use Rattle.journal_tables.proofs.PairLemmas.{pairs_same}
use Rattle.journal_tables.proofs.LockLemmas.{locks_same}

-- what is resident has the owner that it had, and depends and relies on what it did
pub record StaysOf (s u : FlatState) (rs : List Resident) : Type 0 where
  pub depends : (r : Resident) → Contains rs r → (parent : Name) → Depends u r.name parent ↔ Depends s r.name parent
  pub owner_is : (r : Resident) → Contains rs r → owner u r.name ≡ owner s r.name
  pub relies : (r : Resident) → Contains rs r → reliances_of u r.name ≡ reliances_of s r.name

pub of_same : (tables : Tables) (k after : Told) → AreOf tables k → after.residents ≡ k.residents → AreWhole after.state after.loads after.residents → StaysOf k.state after.state k.residents → AreOf tables after
of_same tables k after are same whole stays = subst (λ (rs : List Resident). AreWhole after.state after.loads rs → AreOf tables (record after { residents = rs })) {x = k.residents} {y = after.residents} (sym same)
    (λ whole_then. record {
      whole = whole_then;
      those = are.those;
      slots = are.slots;
      pairs = pairs_same (IsPair tables.dependents) (parents k.state) (parents after.state) k.residents stays.depends are.pairs;
      relying = pairs_same (IsRelying tables.relying) (reliances_of k.state) (reliances_of after.state) k.residents
          (λ r there reliance. (subst (λ (qs : List Reliance). Contains qs reliance) (stays.relies r there), subst (λ (qs : List Reliance). Contains qs reliance) (sym (stays.relies r there))))
          are.relying;
      locks = locks_same tables.locks k.state after.state k.residents stays.owner_is are.locks;
    })
    whole

-- what a row relies on, by what stands in it
abbrev relies_by : Option KernelNo → Frame → Flags → List Reliance
relies_by owner frame flags =
    option_to_list (option_map (λ (kernel : KernelNo). Rights kernel (frame.0 / 128) (flags.r || flags.x) flags.w) owner)
    ++ (if flags.m then Signals (frame.0 / 128) (frame.0 % 128) ∷ [] else [])

same_relies : (a b : Option KernelNo) (x y : Row) → a ≡ b → x.frame ≡ y.frame → x.flags ≡ y.flags → relies_by a x.frame x.flags ≡ relies_by b y.frame y.flags
same_relies a b x y owners frames flags = ap (λ (o : Option KernelNo). relies_by o x.frame x.flags) owners ∙ ap₂ (relies_by b) frames flags

same_reliances : (s u : FlatState) (same : IsSameBut s u) (name : Name) → reliances_of u name ≡ reliances_of s name
same_reliances s u same (Kernel kernel) = refl
same_reliances s u same (Space space) = refl
same_reliances s u same (Thread thread) = refl
same_reliances s u same (Mapping space vpn) = ap (relied_on u) (found_row s u same space vpn.0) ∙ by (row_of s.rows space vpn.0)
  where
    by : (o : Option Row) → relied_on u (option_map same.mark o) ≡ relied_on s o
    by None = refl
    by (Some row) =
        same_relies (slice_get u.spaces (same.mark row).space.0) (slice_get s.spaces row.space.0) (same.mark row) row
        (ap₂ (λ (spaces : List KernelNo) (space : SpaceNo). slice_get spaces space.0) same.spaces (same.keeps.space row)) (same.keeps.frame row) (same.keeps.flags row)

-- what stands before and after an event relies on the same
reliances_stay : (s : FlatState) (e : Event) → IsWellFormed s → (name : Name) → stands s name ≡ true → stands (applied s e) name ≡ true → reliances_of (applied s e) name ≡ reliances_of s name
unfolding stands owner
reliances_stay s e formed (Kernel kernel) there now = refl
reliances_stay s e formed (Space space) there now = refl
reliances_stay s e formed (Thread thread) there now = refl
reliances_stay s e formed (Mapping space vpn) there now = by (row_of s.rows space vpn.0) (row_of (applied s e).rows space vpn.0) refl refl there now
  where
    by : (o p : Option Row) → row_of s.rows space vpn.0 ≡ o → row_of (applied s e).rows space vpn.0 ≡ p → is_some o ≡ true → is_some p ≡ true → relied_on (applied s e) p ≡ relied_on s o
    by None p here after some_s some_u = absurd (cc)
    by (Some x) None here after some_s some_u = absurd (cc)
    by (Some x) (Some y) here after some_s some_u =
        let bits = (event_keeps s e).rows space vpn.0 x y here after in
        let owners : slice_get (applied s e).spaces y.space.0 ≡ slice_get s.spaces x.space.0 =
        sym (ap (owner_of_row (applied s e)) after) ∙ owner_stays s e formed (Mapping space vpn) there now ∙ ap (owner_of_row s) here in
        same_relies (slice_get (applied s e).spaces y.space.0) (slice_get s.spaces x.space.0) y x owners (ap (λ (r : Row). r.frame) bits) (ap (λ (r : Row). r.flags) bits)

-- a step leaves all that
step_stays : (s : FlatState) (thread : ThreadNo) (rs : List Resident) → StaysOf s (applied s (Step thread)) rs
step_stays s thread rs =
    let same = step_same s thread in
    record {
      depends = λ r there parent.
          let is = same_parents s (applied s (Step thread)) same r.name in
          (subst (λ (ps : List Name). Contains ps parent) is, subst (λ (ps : List Name). Contains ps parent) (sym is));
      owner_is = λ r there. same_owner s (applied s (Step thread)) same r.name;
      relies = λ r there. same_reliances s (applied s (Step thread)) same r.name;
    }

steps_stay : (n : ℕ) (s : FlatState) (thread : ThreadNo) (rs : List Resident) → StaysOf s (after_events s (replicate n (Step thread))) rs
steps_stay zero s thread rs = record { depends = λ r there parent. (λ d. d, λ d. d); owner_is = λ r there. refl; relies = λ r there. refl }
steps_stay (suc n) s thread rs =
    let first = step_stays s thread rs in
    let rest = steps_stay n (applied s (Step thread)) thread rs in
    record {
      depends = λ r there parent. (λ d. (first.depends r there parent).0 ((rest.depends r there parent).0 d), λ d. (rest.depends r there parent).1 ((first.depends r there parent).1 d));
      owner_is = λ r there. rest.owner_is r there ∙ first.owner_is r there;
      relies = λ r there. rest.relies r there ∙ first.relies r there;
    }

pub of_declared : (tables : Tables) (k : Told) (d : Decl) → AreOf tables k → k.residents ≡ [] → AreOf tables (told_after k (Declared d))
of_declared tables k d are none = of_same tables k (told_after k (Declared d)) are refl
    (subst (λ (rs : List Resident). AreWhole (told_after k (Declared d)).state k.loads rs) (sym none) (whole_nothing (told_after k (Declared d)).state k.loads))
    (subst (λ (rs : List Resident). StaysOf k.state (told_after k (Declared d)).state rs) (sym none) (record { depends = λ r there. absurd (contains_nothing r there); owner_is = λ r there. absurd (contains_nothing r there); relies = λ r there. absurd (contains_nothing r there) }))

pub of_sealed : (tables : Tables) (k : Told) → AreOf tables k → AreOf tables (told_after k Sealed)
of_sealed tables k are = record { whole = are.whole; those = are.those; slots = are.slots; pairs = are.pairs; relying = are.relying; locks = are.locks }

pub of_ran : (tables : Tables) (k : Told) (thread : ThreadNo) (steps cpu : ℕ) → AreOf tables k → MayRun k thread steps → AreOf tables (told_after k (Ran thread steps cpu))
of_ran tables k thread steps cpu are may =
    of_same tables k (told_after k (Ran thread steps cpu)) are refl (whole_ran k thread steps are.whole may) (steps_stay steps k.state thread k.residents)

pub of_ended : (tables : Tables) (k : Told) (thread : ThreadNo) (cpu : ℕ) → AreOf tables k → MayEnd k thread → AreOf tables (told_after k (Ended thread cpu))
of_ended tables k thread cpu are may =
    of_same tables k (told_after k (Ended thread cpu)) are refl (whole_ended k thread are.whole may) (step_stays k.state thread k.residents)

pub of_completed : (tables : Tables) (k : Told) (es : List Event) (thread : ThreadNo) (cpu : ℕ) → k.state ≡ flat es → AreOf tables k → MayComplete k thread → AreOf tables (told_after k (Completed thread cpu))
of_completed tables k es thread cpu reached are may =
    let whole = whole_completed k thread are.whole may in
    let formed : IsWellFormed k.state = subst IsWellFormed (sym reached) (flat_formed es) in
    of_same tables k (told_after k (Completed thread cpu)) are refl whole (record {
      depends = depends_on_same k.state (Complete thread) formed k.residents are.whole.good may.good;
      owner_is = λ r there. owner_stays k.state (Complete thread) formed r.name (are.whole.good r there).there (may.good r there).there;
      relies = λ r there. reliances_stay k.state (Complete thread) formed r.name (are.whole.good r there).there (may.good r there).there;
    })
