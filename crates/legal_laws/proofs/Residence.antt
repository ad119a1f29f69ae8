-- What is resident was loaded at a place, and has not left since.
use Rattle.std.proofs.Common.{◌≡◌, ◌↔◌, ℕ, ◌<◌, Bool, true, false, List, [], ◌∷◌, ◌++◌, length, Some, slice_get, refl, ap, sym, ◌∙◌, subst, inl, inr, ◌⊎◌, arith}
use Rattle.std.proofs.lemmas.List.{length-append}
use Rattle.std.proofs.lemmas.List.Elements.{Contains-append_left, Contains-push, Contains-push_cases}
use Rattle.std.proofs.lemmas.Option.{slice_get_within}
use Rattle.cache_ident.specs.declared.idents.Cause.{Cause}
use Rattle.cache_ident.specs.declared.idents.Ident.{Ident}
use Rattle.cache_ident.specs.declared.names.Name.{Name}
use Rattle.cache_ident.specs.Residents.{Resident, IsResident, locked_if, with_lock}
use Rattle.group_laws.specs.flat_state.proofs.Places.{get-append, push_cases}
use Rattle.group_laws.specs.flat_laws.proofs.Members.{contains_nothing, Contains-from_map, Contains-map}
use Rattle.group_laws.specs.run_journal.specs.declared.entries.Entry.{Entry}
use Rattle.group_laws.specs.run_journal.specs.declared.entries.Entry.TheVariants.{Declared, Sealed, Loaded, WrittenBack, Locked, Unlocked, Ran, Ended, Completed}
use Rattle.group_laws.specs.run_journal.specs.Told.{residents, residents_after}
use Rattle.group_laws.specs.run_journal.proofs.Growth.{residents_from-append}
use Rattle.group_laws.specs.run_journal.proofs.Others.{locked_keeps, stays_without, without_cases}
use Rattle.legal_laws.specs.Places.{IsDepartureAt, StaysLoaded}
use Rattle.legal_laws.proofs.AtPlaces.{by_last, get_last}

-- what an entry does
abbrev Loads : Entry → Ident → Name → Type 0
Loads e ident name = (cpu : ℕ) × (e ≡ Loaded ident name cpu)

abbrev pub Departs : Entry → Ident → Type 0
Departs e ident = (cause : Cause) × (cpu : ℕ) × (e ≡ WrittenBack ident cause cpu)

-- ---- by the list of residents

resident_lock : (ident other : Ident) (name : Name) (on : Bool) (rs : List Resident) → IsResident (with_lock other on rs) ident name → IsResident rs ident name
resident_lock ident other name on rs r =
    let was = Contains-from_map (locked_if other on) rs r.0 r.1 in
    (was.0, was.1, sym (locked_keeps other on was.0).0 ∙ ap (λ (x : Resident). x.ident) was.2 ∙ r.2, sym (locked_keeps other on was.0).1 ∙ ap (λ (x : Resident). x.name) was.2 ∙ r.3)

locked_resident : (ident other : Ident) (name : Name) (on : Bool) (rs : List Resident) → IsResident rs ident name → IsResident (with_lock other on rs) ident name
locked_resident ident other name on rs r =
    (locked_if other on r.0, Contains-map (locked_if other on) rs r.0 r.1, (locked_keeps other on r.0).0 ∙ r.2, (locked_keeps other on r.0).1 ∙ r.3)

resident_cases : (rs : List Resident) (e : Entry) (ident : Ident) (name : Name) → IsResident (residents_after rs e) ident name → Loads e ident name ⊎ (IsResident rs ident name × (Departs e ident → ⊥))
resident_cases rs (Declared d) ident name r = inr (r, λ is. let e = is.2 in cc)
resident_cases rs Sealed ident name r = inr (r, λ is. let e = is.2 in cc)
resident_cases rs (Loaded other called cpu) ident name r = elim (Contains-push_cases rs (record { ident = other; name = called; locked = false }) r.0 r.1) [
  | inl before ↦ inr ((r.0, before, r.2, r.3), λ is. let e = is.2 in cc)
  | inr now ↦
      let one : other ≡ ident = ap (λ (x : Resident). x.ident) now ∙ r.2 in
      let two : called ≡ name = ap (λ (x : Resident). x.name) now ∙ r.3 in
      inl (cpu, cc)
]
resident_cases rs (WrittenBack other cause cpu) ident name r =
    let kept = without_cases other rs r.0 r.1 in
    inr ((r.0, kept.0, r.2, r.3), λ is. let e = is.2 in let same : other ≡ ident = cc in kept.1 (r.2 ∙ sym same))
resident_cases rs (Locked other cpu) ident name r = inr (resident_lock ident other name true rs r, λ is. let e = is.2 in cc)
resident_cases rs (Unlocked other cpu) ident name r = inr (resident_lock ident other name false rs r, λ is. let e = is.2 in cc)
resident_cases rs (Ran thread steps cpu) ident name r = inr (r, λ is. let e = is.2 in cc)
resident_cases rs (Ended thread cpu) ident name r = inr (r, λ is. let e = is.2 in cc)
resident_cases rs (Completed thread cpu) ident name r = inr (r, λ is. let e = is.2 in cc)

resident_new : (rs : List Resident) (e : Entry) (ident : Ident) (name : Name) → Loads e ident name → IsResident (residents_after rs e) ident name
resident_new rs e ident name loads =
    let it : Resident = record { ident = ident; name = name; locked = false } in
    subst (λ (x : Entry). IsResident (residents_after rs x) ident name) (sym loads.1) (it, Contains-push rs it, refl, refl)

resident_old : (rs : List Resident) (e : Entry) (ident : Ident) (name : Name) → IsResident rs ident name → (Departs e ident → ⊥) → IsResident (residents_after rs e) ident name
resident_old rs (Declared d) ident name r stays = r
resident_old rs Sealed ident name r stays = r
resident_old rs (Loaded other called cpu) ident name r stays = (r.0, Contains-append_left rs _ r.0 r.1, r.2, r.3)
resident_old rs (WrittenBack other cause cpu) ident name r stays =
    (r.0, stays_without other rs r.0 r.1 (λ same. stays (cause, cpu, ap (λ (i : Ident). WrittenBack i cause cpu) (sym same ∙ r.2))), r.2, r.3)
resident_old rs (Locked other cpu) ident name r stays = locked_resident ident other name true rs r
resident_old rs (Unlocked other cpu) ident name r stays = locked_resident ident other name false rs r
resident_old rs (Ran thread steps cpu) ident name r stays = r
resident_old rs (Ended thread cpu) ident name r stays = r
resident_old rs (Completed thread cpu) ident name r stays = r

-- ---- by places

module _ (p : List Entry) (e : Entry) where
  -- no place stands behind the last
  pub none_behind : (k : ℕ) (x : Entry) → length p < k → slice_get (p ++ e ∷ []) k ≡ Some x → ⊥
  none_behind k x low there = let within = slice_get_within (p ++ e ∷ []) k x there in let long = length-append p (e ∷ []) in omega arith

  module _ (ident : Ident) where
    -- a departure of the list with one more is one before, or the last entry
    pub departs_before : (at : ℕ) → IsDepartureAt (p ++ e ∷ []) at ident → IsDepartureAt p at ident ⊎ Departs e ident
    departs_before at is = elim (push_cases p e (WrittenBack ident is.0 is.1) at is.2) [
      | inl before ↦ inl (is.0, is.1, before)
      | inr here ↦ inr (is.0, is.1, here.1)
    ]

    pub departs_later : (at : ℕ) → IsDepartureAt p at ident → IsDepartureAt (p ++ e ∷ []) at ident
    departs_later at is = (is.0, is.1, get-append p (e ∷ []) at (WrittenBack ident is.0 is.1) is.2)

    pub departs_last : Departs e ident → IsDepartureAt (p ++ e ∷ []) (length p) ident
    departs_last is = (is.0, is.1, get_last p e ∙ ap Some is.2)

    loaded_cases : (name : Name) → StaysLoaded (p ++ e ∷ []) ident name → Loads e ident name ⊎ (StaysLoaded p ident name × (Departs e ident → ⊥))
    loaded_cases name s = elim (push_cases p e (Loaded ident name s.loaded.0) s.at s.loaded.1) [
      | inl before ↦ inr (
        record { at = s.at; loaded = (s.loaded.0, before); stays = λ later behind leaves. s.stays later behind (departs_later later leaves) },
        λ is. s.stays (length p) (slice_get_within p s.at (Loaded ident name s.loaded.0) before) (departs_last is),
      )
      | inr here ↦ inl (s.loaded.0, here.1)
    ]

    loaded_new : (name : Name) → Loads e ident name → StaysLoaded (p ++ e ∷ []) ident name
    loaded_new name loads = record {
      at = length p;
      loaded = (loads.0, get_last p e ∙ ap Some loads.1);
      stays = λ later behind leaves. none_behind later (WrittenBack ident leaves.0 leaves.1) behind leaves.2;
    }

    loaded_old : (name : Name) → StaysLoaded p ident name → (Departs e ident → ⊥) → StaysLoaded (p ++ e ∷ []) ident name
    loaded_old name s stays = record {
      at = s.at;
      loaded = (s.loaded.0, get-append p (e ∷ []) s.at (Loaded ident name s.loaded.0) s.loaded.1);
      stays = λ later behind leaves. elim (departs_before later leaves) [
        | inl before ↦ s.stays later behind before
        | inr now ↦ stays now
      ];
    }

    one_more : (name : Name) → IsResident (residents p) ident name ↔ StaysLoaded p ident name → IsResident (residents_after (residents p) e) ident name ↔ StaysLoaded (p ++ e ∷ []) ident name
    one_more name so = (
      λ r. elim (resident_cases (residents p) e ident name r) [
        | inl loads ↦ loaded_new name loads
        | inr was ↦ loaded_old name (so.0 was.0) was.1
      ],
      λ s. elim (loaded_cases name s) [
        | inl loads ↦ resident_new (residents p) e ident name loads
        | inr was ↦ resident_old (residents p) e ident name (so.1 was.0) was.1
      ],
    )

-- an identifier is resident under a name exactly where an entry loaded it and no later one is its departure
pub residence : (j : List Entry) (ident : Ident) (name : Name) → IsResident (residents j) ident name ↔ StaysLoaded j ident name
residence j ident name =
    by_last (λ (p : List Entry). IsResident (residents p) ident name ↔ StaysLoaded p ident name)
    (λ r. absurd (contains_nothing r.0 r.1), λ s. absurd (let none = s.loaded.1 in cc))
    (λ p e so. subst (λ (rs : List Resident). IsResident rs ident name ↔ StaysLoaded (p ++ e ∷ []) ident name) (sym (residents_from-append [] p (e ∷ []))) (one_more p e ident name so))
    j
