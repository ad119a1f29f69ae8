-- What leaves for a load isn't kept, and leaves fewer behind. What came, and what is kept, is loaded.
use Rattle.std.proofs.Common.{◌≡◌, ℕ, ◌+◌, ◌≤◌, Bool, true, false, cond, eqb, List, [], ◌∷◌, ◌++◌, length, count_by, Contains, refl, ap, sym, ◌∙◌, subst, ◌⊎◌, inl, inr, arith}
use Rattle.std.proofs.lemmas.Bool.{cases_Bool, eqb-false, eqb-true}
use Rattle.std.proofs.lemmas.List.{length-map}
use Rattle.std.proofs.lemmas.List.Elements.{Contains-append_left, Contains-push, Contains-push_cases}
use Rattle.board_checks.specs.flat_laws.proofs.Members.{contains_nothing}
use Rattle.cache_ident.specs.declared.idents.Ident.{Ident}
use Rattle.cache_ident.specs.declared.names.Caps.{Caps}
use Rattle.cache_ident.specs.declared.names.Name.{Name}
use Rattle.cache_ident.specs.Names.{kind_of}
use Rattle.cache_ident.specs.Residents.{Resident, IsResident}
use Rattle.board_checks.specs.depend_lists.specs.declared.nodes.Node.{Node}
use Rattle.board_checks.specs.flat_state.specs.declared.events.Event.{Event}
use Rattle.board_checks.specs.run_journal.specs.declared.entries.Entry.TheVariants.{Loaded}
use Rattle.board_checks.specs.run_journal.specs.Entries.{erase}
use Rattle.board_checks.specs.run_journal.specs.Groups.{IsGroup}
use Rattle.board_checks.specs.run_journal.specs.Legal.{count_of}
use Rattle.board_checks.specs.run_journal.proofs.Growth.{erase-append}
use Rattle.board_core.specs.group_laws.specs.Leaving.{without_all}
use Rattle.board_core.specs.group_laws.proofs.Counting.{count-loaded, one}
use Rattle.board_core.specs.group_laws.proofs.Remaining.{stays_without_all, without_all_cases}
use Rattle.board_checks.specs.desc_stores.specs.Contents.{residents_of, Contents}
use Rattle.board_core.specs.store_residents.specs.Slots.{slots_of}
use Rattle.board_core.specs.store_residents.specs.Victims.{IsOldest}
use Rattle.board_core.specs.store_residents.proofs.SlotLaws.{full_iff}
use Rattle.board_checks.specs.desc_parents.specs.Seen.{seen}
use Rattle.board_checks.specs.desc_groups.specs.declared.departures.Gone.{Gone}
use Rattle.board_checks.specs.desc_groups.specs.Moves.{idents_of}
use Rattle.board_checks.specs.desc_groups.specs.Whole.{AreWhole}
use Rattle.board_core.specs.board_laws.specs.Moves.{written_back, IsLoad}
use Rattle.board_checks.specs.desc_tables.proofs.Remaining.{kept_stays, KeepsParentsOfKept}
use Rattle.board_core.proofs.GrowthLaws.{erase_back}
use Rattle.board_core.proofs.UnkeptLaws.{group_counts}

-- loads and departures are no events
pub erase_load : (cpu : ℕ) (gone : List Gone) (ident : Ident) (name : Name) → erase (written_back cpu gone ++ Loaded ident name cpu ∷ []) ≡ []
erase_load cpu gone ident name = erase-append (written_back cpu gone) (Loaded ident name cpu ∷ []) ∙ ap (λ (es : List Event). es ++ []) (erase_back cpu gone)

module _ (caps : Caps) (c : Contents) (pairs : List (Ident × Node)) (whole : AreWhole caps c pairs) where
  abbrev rs : List Resident
  rs = residents_of c

  module _ (new : Contents) (name : Name) (keep : List Ident) (at : ℕ) (gone : List Gone) (ident : Ident) (is : IsLoad caps c new name keep at gone ident) where
    -- nothing left, or a group whose last one isn't kept
    gone_cases : (gone ≡ []) ⊎ ((root : Resident) × IsOldest rs (kind_of name) keep root × IsGroup (seen c) rs root (idents_of gone))
    gone_cases =
        let full = full_iff c whole.one.sound (kind_of name) in
        elim (cases_Bool (eqb (count_of rs (kind_of name)) (slots_of c (kind_of name)))) [
          | inl all ↦ inr (is.displaced (full.1 (eqb-true (count_of rs (kind_of name)) (slots_of c (kind_of name)) all)))
          | inr less ↦ inl (is.nothing (λ is_full. eqb-false (count_of rs (kind_of name)) (slots_of c (kind_of name)) less (full.0 is_full)))
        ]

    -- what is kept hasn't left
    pub not_gone : KeepsParentsOfKept (seen c) rs keep → (kept : Ident) → Contains keep kept → Contains (idents_of gone) kept → ⊥
    not_gone closed kept there left = elim gone_cases [
      | inl none ↦ contains_nothing kept (subst (λ (g : List Gone). Contains (idents_of g) kept) none left)
      | inr some ↦ kept_stays (seen c) rs keep closed some.0 (idents_of gone) some.2 some.1.may_go.not_kept kept there left
    ]

    -- .. and so is still loaded
    pub kept_is_there : KeepsParentsOfKept (seen c) rs keep → (r : Resident) → Contains rs r → Contains keep r.ident → Contains (residents_of new) r
    kept_is_there closed r there kept =
        subst (λ (all : List Resident). Contains all r) (sym is.residents) (Contains-append_left (without_all (idents_of gone) rs) _ r (stays_without_all (idents_of gone) rs r there (not_gone closed r.ident kept)))

    -- what came is there
    pub loaded_there : IsResident (residents_of new) ident name
    loaded_there =
        let it : Resident = record { ident = ident; name = name; locked = false } in
        (it, subst (λ (all : List Resident). Contains all it) (sym is.residents) (Contains-push (without_all (idents_of gone) rs) it), refl, refl)

    pub new_cases : (r : Resident) → Contains (residents_of new) r → Contains rs r ⊎ (r.name ≡ name)
    new_cases r there =
        let it : Resident = record { ident = ident; name = name; locked = false } in
        elim (Contains-push_cases (without_all (idents_of gone) rs) it r (subst (λ (all : List Resident). Contains all r) is.residents there)) [
          | inl left ↦ inl (without_all_cases (idents_of gone) rs r left).0
          | inr same ↦ inr (ap (λ (x : Resident). x.name) (sym same))
        ]

    -- of those that pass a test, which all that left do and what came doesn't, there are fewer by what left
    pub fewer_pass : (p : Resident → Bool) → ((r : Resident) → Contains rs r → Contains (idents_of gone) r.ident → p r ≡ true) → p (record { ident = ident; name = name; locked = false }) ≡ false → length gone + count_by p (residents_of new) ≤ count_by p rs
    fewer_pass p passes fails =
        let after = ap (count_by p) is.residents in
        let came = count-loaded p ident name (without_all (idents_of gone) rs) in
        let none_came : one p (record { ident = ident; name = name; locked = false }) ≡ 0 = ap (λ (b : Bool). cond b 1 0) fails in
        let long = length-map gone (λ (g : Gone). g.ident) in
        let fewer_left : length (idents_of gone) + count_by p (without_all (idents_of gone) rs) ≤ count_by p rs = elim gone_cases [
          | inl none ↦ let empty = ap (λ (g : List Gone). length (idents_of g)) none in let same = ap (λ (g : List Gone). count_by p (without_all (idents_of g) rs)) none in omega (arith, empty, same)
          | inr some ↦ group_counts caps c pairs whole p some.0 some.1.there (idents_of gone) some.2 passes
        ] in
        omega arith
