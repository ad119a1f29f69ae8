-- What is loaded of a chain, one name after the other.
use Rattle.std.proofs.Common.{◌≡◌, ℕ, ◌+◌, ◌≤◌, Bool, true, false, not, List, [], ◌∷◌, ◌++◌, length, filter, take, Contains, Some, None, slice_get, refl, ap, sym, ◌∙◌, subst, ◌⊎◌, inl, inr, arith, add-zero, add_assoc, length-append}
use Rattle.std.specs.Prelude.{if◌then◌else◌}
use Rattle.std.proofs.lemmas.Bool.{false≢true}
use Rattle.std.proofs.lemmas.List.{append-nil, append_assoc, length-map, take-append-drop, take_more}
use Rattle.std.proofs.lemmas.List.Elements.{Contains-append_left, Contains-append_right, Contains-push_cases, filter-append}
use Rattle.std.proofs.lemmas.Option.{get_or_from_slice_get, slice_get_within}
use Rattle.board_core.specs.flat_laws.proofs.Members.{Contains-here, contains_nothing}
use Rattle.cache_ident.specs.declared.idents.Ident.{Ident}
use Rattle.cache_ident.specs.declared.names.Caps.{Caps}
use Rattle.cache_ident.specs.declared.names.Name.{Name}
use Rattle.cache_ident.specs.declared.names.Name.TheVariants.{Thread}
use Rattle.cache_ident.specs.declared.names.ThreadNo.{ThreadNo}
use Rattle.cache_ident.specs.Residents.{Resident, IsNameResident}
use Rattle.flat_state.specs.declared.events.Event.{Event}
use Rattle.flat_state.specs.Events.{after_events}
use Rattle.flat_state.proofs.Places.{Contains-from_get}
use Rattle.board_core.specs.run_journal.specs.declared.entries.Entry.{Entry}
use Rattle.board_core.specs.run_journal.specs.declared.entries.Entry.TheVariants.{Loaded}
use Rattle.board_core.specs.run_journal.specs.Entries.{erase}
use Rattle.board_core.specs.run_journal.proofs.Growth.{erase-append}
use Rattle.board_core.specs.desc_stores.specs.Contents.{residents_of, Contents}
use Rattle.board_core.specs.desc_groups.specs.declared.departures.Gone.{Gone}
use Rattle.board_core.specs.board_laws.specs.Moves.{written_back}
use Rattle.board_core.specs.cached_machine.specs.Cached.{is_loaded, state_of}
use Rattle.board_core.specs.cached_machine.specs.Posts.{mark_of, HasLoadedMarks, OnlyLoadedAreOut}
use Rattle.board_core.specs.cached_machine.proofs.AlikeLaws.{same_loaded}
use Rattle.board_core.specs.cached_machine.proofs.LoadedLaws.{loaded_by, loads, not_loaded}
use Rattle.board_chains.specs.Lists.{AreAllOnce}
use Rattle.board_chains.proofs.ListLemmas.{apart_before}
use Rattle.board_core.specs.Core.{contents_of, Recorded}
use Rattle.board_core.specs.Growth.{IsRoomMade}
use Rattle.board_core.proofs.GrowthLaws.{grows_more}
use Rattle.board_core.proofs.RoomLaws.{grows_nothing, loaded_marks_still, same_residents}
use Rattle.board_loads.proofs.GoneLaws.{erase_load}
use Rattle.board_heal.specs.Loads.{count_others, entries_of_load, is_to_load, AreLoadedTo, AreLoads, IsLoadedBeside, IsLoadOfChain, IsThereNow}

-- ---- what is loaded

module _ (c : Contents) (n : Name) where
  pub is_there : IsNameResident (residents_of c) n → is_loaded c n ≡ true
  is_there found = loads (residents_of c) n found.0 found.1 found.2

  pub is_not : (IsNameResident (residents_of c) n → ⊥) → is_loaded c n ≡ false
  is_not never = not_loaded (residents_of c) n (λ r there named. never (r, there, named))

  pub there_so : is_loaded c n ≡ true → IsNameResident (residents_of c) n
  there_so is = loaded_by (residents_of c) n is

-- ---- entries

-- loads are no events
pub erase_loads : (cpu : ℕ) (caps : Caps) (chain names : List Name) (old : Contents) (at : ℕ) (new : Contents) (es : List Entry) → AreLoads cpu caps chain names old at new es → erase es ≡ []
erase_loads cpu caps chain [] old at new es (same, none) = ap erase none
erase_loads cpu caps chain (n ∷ names) old at new es (mid, gone, ident, rest, first, is, later) =
    ap erase is ∙ erase-append (entries_of_load cpu gone ident n) rest ∙ ap (λ (events : List Event). events ++ erase rest) (erase_load cpu gone ident n)
    ∙ erase_loads cpu caps chain names mid (at + length (entries_of_load cpu gone ident n)) new rest later

-- one more at the end of some is one more of them
one_load_more : (cpu : ℕ) (caps : Caps) (chain names : List Name) (old : Contents) (at : ℕ) (mid : Contents) (es : List Entry) (new : Contents) (name : Name) (gone : List Gone) (ident : Ident)
    → AreLoads cpu caps chain names old at mid es
    → IsLoadOfChain caps chain mid new name (at + length es) gone ident
    → AreLoads cpu caps chain (names ++ name ∷ []) old at new (es ++ entries_of_load cpu gone ident name)
one_load_more cpu caps chain [] old at mid es new name gone ident (same, none) load = (
  new,
  gone,
  ident,
  [],
  subst (λ (c : Contents). IsLoadOfChain caps chain c new name at gone ident) same
      (subst (λ (place : ℕ). IsLoadOfChain caps chain mid new name place gone ident) (ap (λ (x : List Entry). at + length x) none ∙ add-zero at) load),
  ap (λ (x : List Entry). x ++ entries_of_load cpu gone ident name) none ∙ sym (append-nil (entries_of_load cpu gone ident name)),
  (refl, refl),
)
one_load_more cpu caps chain (n ∷ names) old at mid es new name gone ident (between, left, its, rest, first, is, later) load =
    let told = entries_of_load cpu left its n in
    let long : at + length es ≡ at + length told + length rest = ap (λ (x : List Entry). at + length x) is ∙ ap (λ (k : ℕ). at + k) (length-append told rest) ∙ sym (add_assoc at (length told) (length rest)) in (
      between,
      left,
      its,
      rest ++ entries_of_load cpu gone ident name,
      first,
      ap (λ (x : List Entry). x ++ entries_of_load cpu gone ident name) is ∙ append_assoc told rest (entries_of_load cpu gone ident name),
      one_load_more cpu caps chain names between (at + length told) mid rest new name gone ident later
          (subst (λ (place : ℕ). IsLoadOfChain caps chain mid new name place gone ident) long load),
    )

length_load : (cpu : ℕ) (gone : List Gone) (ident : Ident) (name : Name) → length (entries_of_load cpu gone ident name) ≡ length gone + 1
length_load cpu gone ident name =
    let long = length-append (written_back cpu gone) (Loaded ident name cpu ∷ []) in
    let back : length (written_back cpu gone) ≡ length gone = length-map gone _ in
    omega arith

-- ---- processors

-- a thread that came since was on none
pub marks_further : (old mid new : Contents) → OnlyLoadedAreOut old → HasLoadedMarks old mid → HasLoadedMarks mid new → ((whom : ThreadNo) → is_loaded new (Thread whom) ≡ true → is_loaded mid (Thread whom) ≡ false → is_loaded old (Thread whom) ≡ false) → HasLoadedMarks old new
marks_further old mid new out first second came = record {
  marks = λ whom. second.marks whom ∙ by whom (is_loaded new (Thread whom)) (is_loaded mid (Thread whom)) refl refl;
  lasts = λ whom. second.lasts whom ∙ first.lasts whom;
}
  where
    by : (whom : ThreadNo) (now was : Bool) → is_loaded new (Thread whom) ≡ now → is_loaded mid (Thread whom) ≡ was → (if now then mark_of mid whom else None) ≡ (if now then mark_of old whom else None)
    by whom false was is_now is_was = refl
    by whom true true is_now is_was = first.marks whom ∙ ap (λ (b : Bool). if b then mark_of old whom else None) is_was
    by whom true false is_now is_was =
        first.marks whom ∙ ap (λ (b : Bool). if b then mark_of old whom else None) is_was ∙ sym (out whom (came whom is_now is_was))

-- ---- at the beginning

-- who isn't loaded was on no processor before the room was made either
pub out_before : (old mid : Recorded) → IsRoomMade old mid → OnlyLoadedAreOut (contents_of mid) → OnlyLoadedAreOut (contents_of old)
out_before old mid room out whom absent = sym (room.only.marks.marks whom) ∙ out whom (same_loaded (contents_of old) (contents_of mid) (same_residents old mid room) (Thread whom) ∙ absent)

module _ (cpu : ℕ) (chain : List Name) (old mid : Recorded) (room : IsRoomMade old mid) (out : OnlyLoadedAreOut (contents_of old)) where
  pub none_yet : count_others mid chain + length chain + 1 ≤ mid.journal.spare → length chain ≤ (contents_of mid).spare → AreLoadedTo cpu chain 0 old mid
  none_yet fits issues = record {
    begun = mid;
    begins = room;
    loads = [];
    are = (refl, refl);
    grows = grows_nothing old mid room;
    state = room.only.state;
    there = λ name there. absurd (contains_nothing name there);
    stay = λ r there listed. subst (λ (rs : List Resident). Contains rs r) (sym (same_residents old mid room)) there;
    only = λ r there. inl (subst (λ (rs : List Resident). Contains rs r) (same_residents old mid room) there);
    room = omega (arith, fits);
    issues = omega (arith, issues);
    spare = let more = room.only.spare in omega arith;
    marks = loaded_marks_still old mid room out;
    sealed = ap (λ (b : Recorded). b.sealed) room.rest;
    checkouts = ap (λ (b : Recorded). b.checkouts) room.rest;
  }

-- ---- one name further

module _ (cpu : ℕ) (chain : List Name) (old mid new : Recorded) (i : ℕ) (name : Name) (at : slice_get chain i ≡ Some name) (apart : AreAllOnce chain) (way : AreLoadedTo cpu chain i old mid) (out : OnlyLoadedAreOut (contents_of old)) where
  abbrev first : List Name
  first = take i chain

  abbrev caps : Caps
  caps = old.machine.held.caps

  abbrev place : ℕ
  place = length old.journal.entries

  -- the load came behind those before it
  load_here : (gone : List Gone) (ident : Ident) → IsLoadOfChain mid.machine.held.caps chain (contents_of mid) (contents_of new) name (length mid.journal.entries) gone ident
      → IsLoadOfChain caps chain (contents_of mid) (contents_of new) name (place + length way.loads) gone ident
  load_here gone ident load =
      subst (λ (k : Caps). IsLoadOfChain k chain (contents_of mid) (contents_of new) name (place + length way.loads) gone ident) way.grows.caps
      (subst (λ (at : ℕ). IsLoadOfChain mid.machine.held.caps chain (contents_of mid) (contents_of new) name at gone ident)
      (ap length way.grows.entries ∙ length-append old.journal.entries way.loads) load)

  taken : take (i + 1) chain ≡ first ++ name ∷ []
  taken = take_more chain i name (slice_get_within chain i name at) ∙ ap (λ (n : Name). first ++ n ∷ []) (get_or_from_slice_get chain i name name at)

  listed : Contains chain name
  listed = Contains-from_get chain i name at

  taken_cases : (n : Name) → Contains (take (i + 1) chain) n → Contains first n ⊎ (name ≡ n)
  taken_cases n there = Contains-push_cases first name n (subst (λ (ns : List Name). Contains ns n) taken there)

  first_there : (n : Name) → Contains first n → Contains (take (i + 1) chain) n
  first_there n there = subst (λ (ns : List Name). Contains ns n) (sym taken) (Contains-append_left first (name ∷ []) n there)

  name_there : Contains (take (i + 1) chain) name
  name_there = subst (λ (ns : List Name). Contains ns name) (sym taken) (Contains-append_right first (name ∷ []) name (Contains-here name []))

  taken_listed : (n : Name) → Contains first n → Contains chain n
  taken_listed n there = subst (λ (ns : List Name). Contains ns n) (take-append-drop i chain) (Contains-append_left first _ n there)

  -- what is loaded of the name now was before
  was_loaded : IsNameResident (residents_of (contents_of mid)) name → IsNameResident (residents_of (contents_of old)) name
  was_loaded found = elim (way.only found.0 found.1) [
    | inl before ↦ (found.0, before, found.2)
    | inr earlier ↦ absurd (apart_before chain i name apart at (subst (Contains first) found.2 earlier))
  ]

  is_loaded_still : IsNameResident (residents_of (contents_of old)) name → IsNameResident (residents_of (contents_of mid)) name
  is_loaded_still found = (found.0, way.stay found.0 found.1 (subst (Contains chain) (sym found.2) listed), found.2)

  missing_so : (b : Bool) → is_to_load (contents_of old) name ≡ b → filter (is_to_load (contents_of old)) (take (i + 1) chain) ≡ filter (is_to_load (contents_of old)) first ++ (if b then name ∷ [] else [])
  missing_so b is = ap (filter (is_to_load (contents_of old))) taken ∙ filter-append (is_to_load (contents_of old)) first (name ∷ []) ∙ ap (λ (k : Bool). filter (is_to_load (contents_of old)) first ++ (if k then name ∷ [] else [])) is

  -- it was there
  was_there : IsNameResident (residents_of (contents_of mid)) name → AreLoadedTo cpu chain (i + 1) old mid
  was_there found = record {
    begun = way.begun;
    begins = way.begins;
    loads = way.loads;
    are = subst (λ (ns : List Name). AreLoads cpu caps chain ns (contents_of way.begun) place (contents_of mid) way.loads) (sym (missing_so false (ap not (is_there (contents_of old) name (was_loaded found))) ∙ append-nil _)) way.are;
    grows = way.grows;
    state = way.state;
    there = λ n there. elim (taken_cases n there) [
      | inl before ↦ way.there n before
      | inr same ↦ subst (IsNameResident (residents_of (contents_of mid))) same found
    ];
    stay = way.stay;
    only = λ r there. elim (way.only r there) [
      | inl before ↦ inl before
      | inr early ↦ inr (first_there r.name early)
    ];
    room = let fits = way.room in omega arith;
    issues = let fits = way.issues in omega arith;
    spare =
        let before = way.spare in
        let long = ap length (missing_so false (ap not (is_there (contents_of old) name (was_loaded found))) ∙ append-nil _) in
        omega arith;
    marks = way.marks;
    sealed = way.sealed;
    checkouts = way.checkouts;
  }

  -- it came
  came : (IsNameResident (residents_of (contents_of mid)) name → ⊥) → IsLoadedBeside cpu chain name mid new → AreLoadedTo cpu chain (i + 1) old new
  came never load = record {
    begun = way.begun;
    begins = way.begins;
    loads = way.loads ++ entries_of_load cpu load.gone load.ident name;
    are = subst (λ (ns : List Name). AreLoads cpu caps chain ns (contents_of way.begun) place (contents_of new) (way.loads ++ entries_of_load cpu load.gone load.ident name))
        (sym (missing_so true (ap not (is_not (contents_of old) name (λ found. never (is_loaded_still found))))))
        (one_load_more cpu caps chain (filter (is_to_load (contents_of old)) first) (contents_of way.begun) place (contents_of mid) way.loads (contents_of new) name load.gone load.ident way.are
        (load_here load.gone load.ident load.load));
    grows = grows_more way.loads (entries_of_load cpu load.gone load.ident name) old mid new way.grows load.grows;
    state = load.grows.state ∙ ap (after_events (state_of mid.machine)) (erase_load cpu load.gone load.ident name) ∙ way.state;
    there = λ n there. elim (taken_cases n there) [
      | inl before ↦ let found = way.there n before in (found.0, load.stay found.0 found.1 (subst (Contains chain) (sym found.2) (taken_listed n before)), found.2)
      | inr same ↦ subst (IsNameResident (residents_of (contents_of new))) same load.there
    ];
    stay = λ r there its. load.stay r (way.stay r there its) its;
    only = λ r there. elim (load.only r there) [
      | inl before ↦ elim (way.only r before) [
        | inl earlier ↦ inl earlier
        | inr early ↦ inr (first_there r.name early)
      ]
      | inr named ↦ inr (subst (Contains (take (i + 1) chain)) (sym named) name_there)
    ];
    room =
        let fits = way.room in
        let fewer = load.fewer in
        let spare = load.grows.spare in
        let long = length_load cpu load.gone load.ident name in
        omega arith;
    issues = let fits = way.issues in let one = load.issues in omega arith;
    spare =
        let before = way.spare in
        let one = load.issues in
        let more = ap length (missing_so true (ap not (is_not (contents_of old) name (λ found. never (is_loaded_still found))))) in
        let long = length-append (filter (is_to_load (contents_of old)) first) (name ∷ []) in
        omega arith;
    marks = marks_further (contents_of old) (contents_of mid) (contents_of new) out way.marks load.marks (λ whom now was.
        let found = there_so (contents_of new) (Thread whom) now in
        elim (load.only found.0 found.1) [
          | inl before ↦ absurd (false≢true (sym was ∙ is_there (contents_of mid) (Thread whom) (found.0, before, found.2)))
          | inr named ↦ is_not (contents_of old) (Thread whom) (λ earlier. never (is_loaded_still (subst (IsNameResident (residents_of (contents_of old))) (sym found.2 ∙ named) earlier)))
        ]);
    sealed = load.sealed ∙ way.sealed;
    checkouts = load.checkouts ∙ way.checkouts;
  }

  pub one_further : IsThereNow cpu chain name mid new → AreLoadedTo cpu chain (i + 1) old new
  one_further now = elim now [
    | inl there ↦ subst (AreLoadedTo cpu chain (i + 1) old) (sym there.1) (was_there there.0)
    | inr load ↦ came load.0 load.1
  ]
