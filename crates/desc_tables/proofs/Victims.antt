-- That a full cache has a victim, and what is so once it left with its group.
use Rattle.std.proofs.Common.{◌≡◌, ℕ, ◌+◌, ◌≤◌, Bool, true, cond, List, [], ◌∷◌, length, Contains, Option, Some, None, IsSome, refl, ap, sym, ◌∙◌, subst, arith}
use Rattle.std.specs.Option.{option_map}
use Rattle.std.proofs.lemmas.List.{length-map}
use Rattle.cache_ident.specs.declared.idents.Ident.{Ident}
use Rattle.cache_ident.specs.declared.idents.Kind.{Kind}
use Rattle.cache_ident.specs.declared.names.Caps.{Caps}
use Rattle.cache_ident.specs.declared.names.Name.{Name}
use Rattle.cache_ident.specs.Names.{amount_of, kind_of}
use Rattle.cache_ident.specs.declared.rolls.Issued.{Issued}
use Rattle.cache_ident.specs.Rolls.{departed, departed_if}
use Rattle.cache_ident.specs.Residents.{Resident, IsNameResident}
use Rattle.depend_lists.specs.declared.nodes.Node.{Node}
use Rattle.desc_groups.specs.flat_state.specs.State.{FlatState}
use Rattle.desc_groups.specs.flat_state.specs.Names.{is_fit_name, stands}
use Rattle.desc_groups.specs.flat_laws.proofs.ParentLaws.{there_is}
use Rattle.desc_groups.specs.run_journal.specs.Groups.{HasParents, IsGroup}
use Rattle.desc_groups.specs.run_journal.specs.Legal.{count_of, is_kind}
use Rattle.desc_groups.specs.run_journal.proofs.KindLemmas.{is_kind-refl, kind_is}
use Rattle.desc_groups.specs.desc_stores.specs.Contents.{content_of, residents_of, Contents, IsFullOf, IsLowestFreeOf, NoneMayGoOf}
use Rattle.desc_groups.specs.shown_state.proofs.LookupLemmas.{name_stands}
use Rattle.desc_groups.specs.store_residents.specs.Slots.{resident_at}
use Rattle.desc_groups.specs.store_residents.specs.Victims.{IsOldest}
use Rattle.desc_groups.specs.store_residents.proofs.ContentLemmas.{shelved_iff}
use Rattle.desc_groups.specs.store_residents.proofs.SlotLaws.{few, full_at, full_iff, lowest_at, what_is_there}
use Rattle.desc_groups.specs.store_residents.proofs.VictimLemmas.{locked_or_kept}
use Rattle.desc_groups.specs.group_laws.specs.Leaving.{without_all}
use Rattle.desc_groups.specs.group_laws.proofs.Remaining.{without_all_cases}
use Rattle.desc_groups.specs.desc_parents.specs.Seen.{seen}
use Rattle.desc_groups.specs.Moves.{but_for_counts, departed_all, KeepsButCounts, MayEnter}
use Rattle.desc_groups.specs.Whole.{AreWhole}
use Rattle.desc_tables.specs.May.{MayBeLoaded}
use Rattle.desc_tables.specs.Tables.{AreSound, Held}
use Rattle.desc_tables.proofs.Counts.{count_left_one}
use Rattle.desc_tables.proofs.Granted.{all_locked_or_kept, kept_within, locked_within}
use Rattle.desc_tables.proofs.Limits.{residents_apart, within_if_limited}
use Rattle.desc_tables.proofs.Owners.{name_owned, resident_owned}
use Rattle.desc_tables.proofs.Remaining.{last_leaves, parents_stay}

some_by_map : {X Y : Type 0} (f : X → Y) (before after : Option X) → option_map f after ≡ option_map f before → IsSome before → IsSome after
some_by_map f None after same some = absurd (cc)
some_by_map f (Some x) None same some = absurd (cc)
some_by_map f (Some x) (Some y) same some = refl

module _ (old : Held) (pairs : List (Ident × Node)) (sound : AreSound old pairs) (loading : Name) (keep : List Ident) (may : MayBeLoaded old.contents loading keep) where
  abbrev s : FlatState
  s = seen old.contents

  abbrev rs : List Resident
  rs = residents_of old.contents

  on_shelf : IsSome (content_of old.contents loading) × (IsNameResident rs loading → ⊥)
  on_shelf = (shelved_iff old.contents sound.whole.one loading).0 may.shelved

  is_there : stands s loading ≡ true
  is_there = name_stands None [] old.contents sound.whole.one loading ∙ on_shelf.0

  -- beside all that may be locked and kept there is room for one
  pub some_may_go : IsFullOf old.contents (kind_of loading) → NoneMayGoOf old.contents (kind_of loading) keep → ⊥
  some_may_go full none =
      let of = kind_of loading in
      let whole = sound.whole in
      let owned = resident_owned s rs whole.good in
      let its = name_owned s rs whole.good loading is_there may.kept.has in
      let high = its.2 in
      let within = within_if_limited old.caps old.contents pairs whole sound.limited in
      let locked = locked_within s rs of owned (λ kernel low. within kernel of (there_is s.kernels kernel.0 low)) in
      let kept = kept_within of rs (residents_apart old.caps old.contents pairs whole) keep in
      let all = all_locked_or_kept of rs keep (λ r there is. locked_or_kept old.contents of keep r none there is) kind_is in
      let count = (full_iff old.contents whole.one.sound of).0 full in
      let slots = whole.sized of in
      let one : cond {A = ℕ} (is_kind of of) 1 0 ≡ 1 = ap (λ (b : Bool). cond {A = ℕ} b 1 0) (is_kind-refl of) in
      let wanted = may.kept.few of in
      let room = sound.room (omega arith) of in
      omega arith

  -- once the victim has left with its group the name can come
  pub ready_behind : (new : Held) (after : List (Ident × Node)) (victim : Resident) (idents : List Ident) → IsOldest rs (kind_of loading) keep victim → IsGroup s rs victim idents → AreWhole new.caps new.contents after → new.caps ≡ old.caps → residents_of new.contents ≡ without_all idents rs → KeepsButCounts old.contents new.contents → MayEnter new.contents loading
  ready_behind new after victim idents oldest group whole caps left kept = record {
    shelved = (shelved_iff new.contents whole.one loading).1 (
      some_by_map but_for_counts (content_of old.contents loading) (content_of new.contents loading) (kept.contents loading) on_shelf.0,
      λ there. on_shelf.1 (there.0, (without_all_cases idents rs there.0 (subst (λ (xs : List Resident). Contains xs there.0) left there.1)).0, there.2),
    );
    place = λ full.
        let of = kind_of loading in
        let passes : is_kind victim.ident.kind of ≡ true = ap (λ k. is_kind k of) oldest.may_go.of_kind ∙ is_kind-refl of in
        let fewer : count_of (without_all idents rs) of + 1 ≤ count_of rs of = count_left_one (λ (r : Resident). is_kind r.ident.kind of) idents rs victim oldest.there passes (last_leaves s rs victim idents group) in
        let now : count_of (residents_of new.contents) of ≡ count_of (without_all idents rs) of = ap (λ xs. count_of xs of) left in
        let count = (full_iff new.contents whole.one.sound of).0 full in
        let slots = whole.sized of in
        let same : amount_of new.caps of ≡ amount_of old.caps of = ap (λ (k : Caps). amount_of k of) caps in
        let slots_before = sound.whole.sized of in
        let most = few old.contents sound.whole.one.sound of in
        omega arith;
    fit = subst (λ t. is_fit_name t loading ≡ true) (sym (kept.shows None [])) may.fit;
    has =
        let stay : HasParents s (without_all idents rs) loading = parents_stay s rs keep may.kept.closed victim idents group oldest.may_go.not_kept loading may.kept.has may.kept.direct in
        let here : HasParents s (residents_of new.contents) loading = subst (λ xs. HasParents s xs loading) (sym left) stay in
        subst (λ t. HasParents t (residents_of new.contents) loading) (sym (kept.shows None [])) here;
  }

  -- where a slot is free it can come at once
  pub ready_now : (IsFullOf old.contents (kind_of loading) → ⊥) → MayEnter old.contents loading
  ready_now place = record { shelved = may.shelved; place = place; fit = may.fit; has = may.kept.has }

-- a kind with a free slot isn't full
pub not_full : (c : Contents) (of : Kind) (slot : ℕ) → IsLowestFreeOf c of slot → IsFullOf c of → ⊥
not_full c of slot lowest full =
    let free = lowest_at c of slot lowest in
    let none = free.1 in
    let taken = what_is_there (resident_at c of slot) ((full_at c of).0 full slot free.0) in
    let some = taken.1 in
    cc

-- none is forgotten that was issued
pub length-departed_all : (issued : List Issued) (idents : List Ident) (at : ℕ) → length (departed_all issued idents at) ≡ length issued
length-departed_all issued [] at = refl
length-departed_all issued (ident ∷ idents) at = length-departed_all (departed issued ident at) idents (at + 1) ∙ length-map issued (departed_if ident at)
