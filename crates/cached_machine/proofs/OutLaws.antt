-- Which threads are on processors, found by those that are loaded.
use Rattle.std.proofs.Common.{◌≡◌, ℕ, ◌<◌, ◌≤◌, true, false, List, [], ◌∷◌, ◌++◌, Contains, Option, Some, None, IsSome, Bor, length, map, refl, ◌∙◌, ap, subst, inl, inr, arith}
use Rattle.std.specs.Option.{is_some, option_map}
use Rattle.std.specs.Iterator.{Yields, YieldsFirstRef}
use Rattle.std.proofs.lemmas.Iterator.Consumers.{YieldsList-end, YieldsList-from_first, YieldsList-turn}
use Rattle.std.proofs.lemmas.List.Elements.{Contains-append_left, Contains-push, Contains-push_cases}
use Rattle.cache_ident.specs.declared.idents.Ident.{Ident}
use Rattle.cache_ident.specs.declared.idents.Kind.{Kind}
use Rattle.cache_ident.specs.declared.idents.Kind.TheVariants as kind
use Rattle.cache_ident.specs.declared.names.Name.TheVariants as name
use Rattle.cache_ident.specs.declared.names.ThreadNo.{ThreadNo}
use Rattle.cache_ident.specs.Names.{kind_of}
use Rattle.cache_ident.specs.Residents.{IsNameResident, Resident}
use Rattle.flat_state.specs.WellFormed.{IsWellFormed}
use Rattle.thread_cache.specs.slot_cache.specs.declared.loaded.Loaded.{Loaded}
use Rattle.thread_cache.specs.slot_cache.specs.Cells.{cell_at, loaded_in, HasExactlyLoaded}
use Rattle.thread_cache.specs.Threads as thread_rec
use Rattle.thread_cache.specs.declared.ThreadRec.{ThreadRec}
use Rattle.board_laws.specs.flat_laws.proofs.Members.{Contains-map}
use Rattle.board_laws.specs.desc_stores.specs.declared.items.Item.TheVariants as item
use Rattle.board_laws.specs.desc_stores.specs.Contents.{content_of, resident_of, residents_of, Contents}
use Rattle.board_laws.specs.desc_stores.specs.Sound.{IsExactlyOne}
use Rattle.board_laws.specs.desc_stores.proofs.PutLemmas.{loaded_content}
use Rattle.board_laws.specs.shown_state.specs.Shown.{shown}
use Rattle.board_laws.specs.desc_tables.specs.Tables.{Held}
use Rattle.board_laws.specs.store_residents.specs.Slots.{resident_at}
use Rattle.board_laws.specs.store_residents.proofs.ResidentLemmas.{resident_kind, resident_seat}
use Rattle.cached_machine.specs.Cached.{state_of, Cached}
use Rattle.cached_machine.specs.Posts.{mark_in, mark_of, AreBackFrom, OnlyLoadedAreOut}
use Rattle.cached_machine.proofs.LoadedLaws.{loaded_by}
use Rattle.cached_machine.proofs.PostLaws.{loaded_if_out}

-- of these that are loaded the list has each that is on a processor, and nobody else
pub record AreOut (list : List (Loaded ThreadRec)) (out : List ThreadNo) : Type 0 where
  pub all : (l : Loaded ThreadRec) → Contains list l → IsSome l.value.on_cpu → Contains out l.value.no
  pub only : (no : ThreadNo) → Contains out no → (l : Loaded ThreadRec) × Contains list l × (l.value.no ≡ no)

module _ (list : List (Loaded ThreadRec)) (l : Loaded ThreadRec) (out : List ThreadNo) (are : AreOut list out) where
  -- the next one is on a processor
  pub one_more_out : AreOut (list ++ l ∷ []) (out ++ l.value.no ∷ [])
  one_more_out = record {
    all = λ other there some. elim (Contains-push_cases list l other there) [
      | inl before ↦ Contains-append_left out (l.value.no ∷ []) other.value.no (are.all other before some)
      | inr same ↦ subst (λ (x : Loaded ThreadRec). Contains (out ++ l.value.no ∷ []) x.value.no) same (Contains-push out l.value.no)
    ];
    only = λ no there. elim (Contains-push_cases out l.value.no no there) [
      | inl before ↦ let was = are.only no before in (was.0, Contains-append_left list (l ∷ []) was.0 was.1, was.2)
      | inr same ↦ (l, Contains-push list l, same)
    ];
  }

  -- or it is on none
  pub none_more_out : is_some l.value.on_cpu ≡ false → AreOut (list ++ l ∷ []) out
  none_more_out away = record {
    all = λ other there some. elim (Contains-push_cases list l other there) [
      | inl before ↦ are.all other before some
      | inr same ↦ absurd (let on : is_some l.value.on_cpu ≡ true = ap (λ (x : Loaded ThreadRec). is_some x.value.on_cpu) same ∙ some in cc)
    ];
    only = λ no there. let was = are.only no there in (was.0, Contains-append_left list (l ∷ []) was.0 was.1, was.2);
  }

-- ---- slots

module _ (c : Contents) (one : IsExactlyOne c) where
  -- what stands in a slot has the content of its name
  pub slot_content : (l : Loaded ThreadRec) → cell_at c.threads.cells l.ident.slot ≡ Some l → content_of c (name.Thread l.value.no) ≡ Some (item.Thread l.value)
  slot_content l there = ap (option_map item.Thread) (loaded_content thread_rec.name_of kind.Thread c.threads one.threads l.ident.slot l there (name.Thread l.value.no) refl)

  -- a loaded thread stands in one
  pub resident_slot : (whom : ThreadNo) → IsNameResident (residents_of c) (name.Thread whom) → (l : Loaded ThreadRec) × (cell_at c.threads.cells l.ident.slot ≡ Some l) × (l.value.no ≡ whom)
  resident_slot whom loaded =
      let r = loaded.0 in
      let of_thread : r.ident.kind ≡ kind.Thread = resident_kind c one.sound r loaded.1 ∙ ap kind_of loaded.2 in
      let seat = subst (λ (k : Kind). resident_at c k r.ident.slot ≡ Some r) of_thread (resident_seat c r loaded.1) in
      let cell = mapped_back (cell_at c.threads.cells r.ident.slot) r seat in
      let l = cell.0 in
      let there : cell_at c.threads.cells l.ident.slot ≡ Some l = ap (λ (i : Ident). cell_at c.threads.cells i.slot) (ap (λ (x : Resident). x.ident) cell.2) ∙ cell.1 in
      let named : name.Thread l.value.no ≡ name.Thread whom = ap (λ (x : Resident). x.name) cell.2 ∙ loaded.2 in
      let number : l.value.no ≡ whom = cc in
      (l, there, number)
    where
      mapped_back : (o : Option (Loaded ThreadRec)) (r : Resident) → option_map (resident_of thread_rec.name_of) o ≡ Some r → (l : Loaded ThreadRec) × (o ≡ Some l) × (resident_of thread_rec.name_of l ≡ r)
      mapped_back None r is = absurd (cc)
      mapped_back (Some l) r is = (l, refl, (cc))

-- ---- the list of all that are on a processor

module _ (c : Contents) (one : IsExactlyOne c) (list : List (Loaded ThreadRec)) (exact : HasExactlyLoaded c.threads.cells list) (out : List ThreadNo) (are : AreOut list out) where
  -- where only loaded threads are on processors the list has each that is
  pub all_out : OnlyLoadedAreOut c → (whom : ThreadNo) → IsSome (mark_of c whom) → Contains out whom
  all_out only whom some =
      let its = resident_slot c one whom (loaded_by (residents_of c) (name.Thread whom) (loaded_if_out c whom only some)) in
      let content = subst (λ (n : ThreadNo). content_of c (name.Thread n) ≡ Some (item.Thread its.0.value)) its.2 (slot_content c one its.0 its.1) in
      subst (Contains out) its.2 (are.all its.0 ((exact its.0).1 its.1) (subst (λ (o : Option ℕ). IsSome o) (ap mark_in content) some))

  -- and each in the list stands
  pub out_stand : (whom : ThreadNo) → Contains out whom → IsSome (content_of c (name.Thread whom))
  out_stand whom there =
      let its = are.only whom there in
      subst (λ (n : ThreadNo). IsSome (content_of c (name.Thread n))) its.2 (ap is_some (slot_content c one its.0 ((exact its.0).0 its.1)))

-- ---- the loaded threads, one after another

module _ (all start : List (Loaded ThreadRec)) (are : start ≡ all) (gone : List (Bor (Loaded ThreadRec))) (left : List (Loaded ThreadRec)) (yielded : Yields (YieldsFirstRef (λ (left : List (Loaded ThreadRec)). left)) start gone left) (item : Option (Bor (Loaded ThreadRec))) (rest : List (Loaded ThreadRec)) (next : YieldsFirstRef (λ (left : List (Loaded ThreadRec)). left) left item rest) where
  -- as long as one comes not all are gone
  pub fewer_gone : (l : Bor (Loaded ThreadRec)) → item ≡ Some l → length gone < length all
  fewer_gone l is = (YieldsList-turn (YieldsList-from_first (λ (x : Bor (Loaded ThreadRec)). x.now) (λ left. left) all are) gone left yielded item rest l is next).0

  -- and in the end all are
  pub all_gone : item ≡ None → map (λ (x : Bor (Loaded ThreadRec)). x.now) gone ≡ all
  all_gone none = (YieldsList-end (YieldsList-from_first (λ (x : Bor (Loaded ThreadRec)). x.now) (λ left. left) all are) gone left yielded item rest none next).0

-- no more are loaded than there are slots
pub few_loaded : (cells : List (Option (Loaded ThreadRec))) → length (loaded_in cells) ≤ length cells
few_loaded [] = omega arith
few_loaded (None ∷ cells) = let few = few_loaded cells in omega arith
few_loaded (Some l ∷ cells) = let few = few_loaded cells in omega arith

-- of which there are 256 at most
pub few_slots : (m : Cached) → IsWellFormed (state_of m) → m.machine.caps.threads ≤ 256
unfolding shown
few_slots m formed = formed.memory.caps.threads

-- ---- all of them came away

-- who was on a processor is in the list, and came away
pub nobody_out : (nos : List ThreadNo) (h h' : Held) → ((whom : ThreadNo) → IsSome (mark_of h.contents whom) → Contains nos whom) → AreBackFrom (map name.Thread nos) h h' → (whom : ThreadNo) → mark_of h'.contents whom ≡ None
nobody_out nos h h' all back whom = elim (back.others whom) [
  | inl among ↦ back.back whom among
  | inr same ↦ by same (mark_of h.contents whom) refl
]
  where
    by : mark_of h'.contents whom ≡ mark_of h.contents whom → (mark : Option ℕ) → mark_of h.contents whom ≡ mark → mark_of h'.contents whom ≡ None
    by same None is = same ∙ is
    by same (Some cpu) is = back.back whom (Contains-map name.Thread nos whom (all whom (ap is_some is)))
