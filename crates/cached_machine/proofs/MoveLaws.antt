-- What a load, a departure and a lock leave of a machine with caches.
use Rattle.std.proofs.Common.{◌≡◌, ℕ, Bool, true, false, List, [], ◌∷◌, Contains, Option, Some, None, IsSome, refl, sym, ◌∙◌, ap, subst, ◌⊎◌, inl, inr}
use Rattle.std.specs.List.{list_any}
use Rattle.std.specs.Option.{option_map}
use Rattle.std.specs.Prelude.{if◌then◌else◌}
use Rattle.std.proofs.lemmas.List.Elements.{Contains-append_left, Contains-push_cases}
use Rattle.cache_ident.specs.declared.idents.Ident.{Ident}
use Rattle.cache_ident.specs.declared.names.Caps.{Caps}
use Rattle.cache_ident.specs.declared.names.Name.{Name}
use Rattle.cache_ident.specs.declared.names.Name.TheVariants as name
use Rattle.cache_ident.specs.declared.names.ThreadNo.{ThreadNo}
use Rattle.cache_ident.specs.Residents.{locked_if, with_loaded, with_lock, IsNameResident, Resident}
use Rattle.board_laws.specs.flat_laws.proofs.Members.{contains_nothing, Contains-behind, Contains-cases, Contains-from_map, Contains-here, Contains-map}
use Rattle.thread_sets.specs.kind_store.specs.Changes.{is_name}
use Rattle.board_laws.specs.run_journal.proofs.Others.{locked_keeps}
use Rattle.board_laws.specs.journal_laws.specs.Leaving.{HaveOneEach}
use Rattle.board_laws.specs.group_laws.specs.Leaving.{without_all}
use Rattle.board_laws.specs.group_laws.proofs.Remaining.{stays_without_all, without_all_cases}
use Rattle.board_laws.specs.desc_stores.specs.declared.items.Item.{Item}
use Rattle.board_laws.specs.desc_stores.specs.Contents.{content_of, residents_of, Contents, IsShelved}
use Rattle.board_laws.specs.desc_stores.specs.Sound.{IsExactlyOne}
use Rattle.board_laws.specs.desc_groups.specs.declared.departures.Gone.{Gone}
use Rattle.board_laws.specs.desc_groups.specs.Moves.{but_for_counts, idents_of, AreNamed, KeepsButCounts}
use Rattle.board_laws.specs.desc_tables.specs.Tables.{Held}
use Rattle.board_laws.specs.Moves.{IsLoad, IsUnload}
use Rattle.board_laws.specs.store_residents.proofs.ContentLemmas.{resident_content, shelved_iff}
use Rattle.board_laws.specs.store_residents.proofs.ResidentLemmas.{one_each}
use Rattle.cached_machine.specs.Cached.{is_loaded}
use Rattle.cached_machine.specs.Posts.{last_in, mark_in, mark_of, AreBackFrom, HasLoadedMarks, HasSameMarks, OnlyLoadedAreOut, OnlyPosts}
use Rattle.cached_machine.proofs.AlikeLaws.{loaded_out, same_loaded, same_marks, same_out, threads_kept}
use Rattle.cached_machine.proofs.LoadedLaws.{loaded_alike, loaded_by, loads, not_loaded, ComesFrom}

-- ---- who has a name

-- each of the names is that of a resident that left
were_named : (rs : List Resident) (idents : List Ident) (names : List Name) → AreNamed rs idents names → (n : Name) → Contains names n → (r : Resident) × Contains rs r × Contains idents r.ident × (r.name ≡ n)
were_named rs [] [] are n among = absurd (contains_nothing n among)
were_named rs [] (m ∷ names) are n among = absurd are
were_named rs (ident ∷ idents) [] are n among = absurd are
were_named rs (ident ∷ idents) (m ∷ names) are n among = elim (Contains-cases m names n among) [
  | inl same ↦ (are.0.0, are.0.1, subst (Contains (ident ∷ idents)) (sym are.0.2) (Contains-here ident idents), are.0.3 ∙ same)
  | inr later ↦ let r = were_named rs idents names are.1 n later in (r.0, r.1, Contains-behind ident idents r.0.ident r.2, r.3)
]

-- and each resident that left has one of them
left_named : (rs : List Resident) → HaveOneEach rs → (idents : List Ident) (names : List Name) → AreNamed rs idents names → (r : Resident) → Contains rs r → Contains idents r.ident → Contains names r.name
left_named rs one [] names are r there gone = absurd (contains_nothing r.ident gone)
left_named rs one (ident ∷ idents) [] are r there gone = absurd are
left_named rs one (ident ∷ idents) (m ∷ names) are r there gone = elim (Contains-cases ident idents r.ident gone) [
  | inl same ↦
      let its = ap (λ (q : Resident). q.name) (one.idents are.0.0 r are.0.1 there (are.0.2 ∙ same)) in
      subst (Contains (m ∷ names)) (sym are.0.3 ∙ its) (Contains-here m names)
  | inr later ↦ Contains-behind m names r.name (left_named rs one idents names are.1 r there later)
]

-- ---- what leaves

-- What a load or a departure of the tables leaves, of what is said here: what left is named, and of what was loaded nothing else
-- left. What is loaded is that, and perhaps something that wasn't loaded before.
pub record HasMoved (h h' : Held) : Type 0 where
  pub contents : (other : Name) → option_map but_for_counts (content_of h'.contents other) ≡ option_map but_for_counts (content_of h.contents other)
  pub named : AreNamed (residents_of h.contents) (idents_of h'.gone) h'.left
  pub stay : (r : Resident) → Contains (residents_of h.contents) r → (Contains (idents_of h'.gone) r.ident → ⊥) → Contains (residents_of h'.contents) r
  pub only : (r : Resident) → Contains (residents_of h'.contents) r → (Contains (residents_of h.contents) r × (Contains (idents_of h'.gone) r.ident → ⊥)) ⊎ (IsNameResident (residents_of h.contents) r.name → ⊥)

module _ (h h' : Held) (one : IsExactlyOne h.contents) (moved : HasMoved h h') where
  threads : (whom : ThreadNo) → content_of h'.contents (name.Thread whom) ≡ content_of h.contents (name.Thread whom)
  threads = threads_kept h.contents h'.contents moved.contents

  -- a thread that left was loaded
  its_load : (whom : ThreadNo) → Contains h'.left (name.Thread whom) → (r : Resident) × Contains (residents_of h.contents) r × Contains (idents_of h'.gone) r.ident × (r.name ≡ name.Thread whom)
  its_load whom = were_named (residents_of h.contents) (idents_of h'.gone) h'.left moved.named (name.Thread whom)

  -- so it stands
  pub left_stand : (whom : ThreadNo) → Contains h'.left (name.Thread whom) → IsSome (content_of h'.contents (name.Thread whom))
  left_stand whom left =
      let its = its_load whom left in
      subst (λ (o : Option Item). IsSome o) (sym (threads whom)) (subst (λ (n : Name). IsSome (content_of h.contents n)) its.3 (resident_content h.contents one its.0 its.1))

  -- and it isn't loaded any more
  left_unloaded : (whom : ThreadNo) → Contains h'.left (name.Thread whom) → is_loaded h'.contents (name.Thread whom) ≡ false
  left_unloaded whom left =
      let its = its_load whom left in
      not_loaded (residents_of h'.contents) (name.Thread whom) (λ r there named. elim (moved.only r there) [
        | inl stayed ↦
            let same : its.0 ≡ r = (one_each h.contents one).names its.0 r its.1 stayed.0 (its.3 ∙ sym named) in
            stayed.1 (subst (λ (q : Resident). Contains (idents_of h'.gone) q.ident) same its.2)
        | inr never ↦ never (its.0, its.1, its.3 ∙ sym named)
      ])

  module _ (after : Held) (back : AreBackFrom h'.left h' after) where
    loaded_after : (n : Name) → is_loaded after.contents n ≡ is_loaded h'.contents n
    loaded_after = same_loaded h'.contents after.contents back.only.loaded.residents

    -- who was there is on no processor, if it left
    left_unmarked : (whom : ThreadNo) → is_loaded after.contents (name.Thread whom) ≡ false → (r : Resident) → Contains (residents_of h.contents) r → r.name ≡ name.Thread whom → mark_of after.contents whom ≡ None
    left_unmarked whom absent r there named = by (mark_of after.contents whom) refl
      where
        never_here : Contains (residents_of h'.contents) r → ⊥
        never_here here =
            let present : is_loaded h'.contents (name.Thread whom) ≡ true = loads (residents_of h'.contents) (name.Thread whom) r here named in
            let off = sym (loaded_after (name.Thread whom)) ∙ absent in
            cc

        by : (mark : Option ℕ) → mark_of after.contents whom ≡ mark → mark_of after.contents whom ≡ None
        by None is = is
        by (Some cpu) is = absurd (never_here (moved.stay r there (λ gone.
            let its = left_named (residents_of h.contents) (one_each h.contents one) (idents_of h'.gone) h'.left moved.named r there gone in
            let none = back.back whom (subst (Contains h'.left) named its) in
            let both : Some cpu ≡ None = sym is ∙ none in
            cc)))

    unloaded_unmarked : OnlyLoadedAreOut h.contents → (whom : ThreadNo) → is_loaded after.contents (name.Thread whom) ≡ false → mark_of after.contents whom ≡ None
    unloaded_unmarked out whom absent = by (is_loaded h.contents (name.Thread whom)) refl
      where
        by : (b : Bool) → is_loaded h.contents (name.Thread whom) ≡ b → mark_of after.contents whom ≡ None
        by true was = let r = loaded_by (residents_of h.contents) (name.Thread whom) was in left_unmarked whom absent r.0 r.1 r.2
        by false never = elim (back.others whom) [
          | inl left ↦ back.back whom left
          | inr same ↦ same ∙ ap mark_in (threads whom) ∙ out whom never
        ]

    loaded_marked : (whom : ThreadNo) → is_loaded after.contents (name.Thread whom) ≡ true → mark_of after.contents whom ≡ mark_of h.contents whom
    loaded_marked whom there = elim (back.others whom) [
      | inl left ↦ absurd (
          let off = left_unloaded whom left in
          let on = sym (loaded_after (name.Thread whom)) ∙ there in
          cc
          )
      | inr same ↦ same ∙ ap mark_in (threads whom)
    ]

    pub moved_marks : OnlyLoadedAreOut h.contents → HasLoadedMarks h.contents after.contents
    moved_marks out = record { marks = λ whom. by whom (is_loaded after.contents (name.Thread whom)) refl; lasts = λ whom. back.lasts whom ∙ ap last_in (threads whom) }
      where
        by : (whom : ThreadNo) (b : Bool) → is_loaded after.contents (name.Thread whom) ≡ b → mark_of after.contents whom ≡ (if b then mark_of h.contents whom else None)
        by whom true there = loaded_marked whom there
        by whom false absent = unloaded_unmarked out whom absent

    pub moved_out : OnlyLoadedAreOut h.contents → OnlyLoadedAreOut after.contents
    moved_out out = loaded_out h.contents after.contents (moved_marks out)

-- ---- what is locked

pub comes_locked : (ident : Ident) (on : Bool) (rs : List Resident) → ComesFrom rs (with_lock ident on rs)
comes_locked ident on rs = record {
  each = λ r there.
      let was = Contains-from_map (locked_if ident on) rs r there in
      let kept = locked_keeps ident on was.0 in
      (was.0, was.1, sym kept.1 ∙ ap (λ (q : Resident). q.name) was.2, sym kept.0 ∙ ap (λ (q : Resident). q.ident) was.2);
}

goes_locked : (ident : Ident) (on : Bool) (rs : List Resident) → ComesFrom (with_lock ident on rs) rs
goes_locked ident on rs = record {
  each = λ r there.
      let kept = locked_keeps ident on r in
      (locked_if ident on r, Contains-map (locked_if ident on) rs r there, kept.1, kept.0);
}

module _ (h h' : Held) (ident : Ident) (on : Bool) (residents : residents_of h'.contents ≡ with_lock ident on (residents_of h.contents)) where
  pub loaded_as_before : (n : Name) → is_loaded h'.contents n ≡ is_loaded h.contents n
  loaded_as_before n =
      ap (λ (rs : List Resident). list_any (λ (r : Resident). is_name n r.name) rs) residents
      ∙ loaded_alike (residents_of h.contents) (with_lock ident on (residents_of h.contents)) (comes_locked ident on (residents_of h.contents)) (goes_locked ident on (residents_of h.contents)) n

  pub locked_marks : KeepsButCounts h.contents h'.contents → HasSameMarks h.contents h'.contents
  locked_marks kept = same_marks h.contents h'.contents (threads_kept h.contents h'.contents kept.contents)

  pub locked_out : KeepsButCounts h.contents h'.contents → OnlyLoadedAreOut h.contents → OnlyLoadedAreOut h'.contents
  locked_out kept = same_out h.contents h'.contents (locked_marks kept) loaded_as_before

-- ---- what comes

-- what was on the shelf came, and what else is loaded stayed
module _ (h h' : Held) (loading : Name) (ident : Ident) (one : IsExactlyOne h.contents) (shelved : IsShelved h.contents loading) (residents : residents_of h'.contents ≡ with_loaded ident loading (without_all (idents_of h'.gone) (residents_of h.contents))) where
  abbrev stayed : List Resident
  stayed = without_all (idents_of h'.gone) (residents_of h.contents)

  abbrev new : Resident
  new = record { ident = ident; name = loading; locked = false }

  -- what came wasn't loaded
  came_from_shelf : IsNameResident (residents_of h.contents) loading → ⊥
  came_from_shelf = ((shelved_iff h.contents one loading).0 shelved).1

  pub load_moves : AreNamed (residents_of h.contents) (idents_of h'.gone) h'.left → ((other : Name) → option_map but_for_counts (content_of h'.contents other) ≡ option_map but_for_counts (content_of h.contents other)) → HasMoved h h'
  load_moves named contents = record {
    contents = contents;
    named = named;
    stay = λ r there apart. subst (λ (rs : List Resident). Contains rs r) (sym residents) (Contains-append_left stayed (new ∷ []) r (stays_without_all (idents_of h'.gone) (residents_of h.contents) r there apart));
    only = λ r there. elim (Contains-push_cases stayed new r (subst (λ (rs : List Resident). Contains rs r) residents there)) [
      | inl was ↦ inl (without_all_cases (idents_of h'.gone) (residents_of h.contents) r was)
      | inr is_new ↦ inr (λ found. came_from_shelf (subst (IsNameResident (residents_of h.contents)) (sym (ap (λ (q : Resident). q.name) is_new)) found))
    ];
  }

-- ---- what only leaves

pub unload_moves : (h h' : Held) → AreNamed (residents_of h.contents) (idents_of h'.gone) h'.left → residents_of h'.contents ≡ without_all (idents_of h'.gone) (residents_of h.contents)
    → ((other : Name) → option_map but_for_counts (content_of h'.contents other) ≡ option_map but_for_counts (content_of h.contents other)) → HasMoved h h'
unload_moves h h' named residents contents = record {
  contents = contents;
  named = named;
  stay = λ r there apart. subst (λ (rs : List Resident). Contains rs r) (sym residents) (stays_without_all (idents_of h'.gone) (residents_of h.contents) r there apart);
  only = λ r there. inl (without_all_cases (idents_of h'.gone) (residents_of h.contents) r (subst (λ (rs : List Resident). Contains rs r) residents there));
}

-- ---- what threads that come away leave of it

-- a load is one still where threads come away from their processors
pub sent_load : (caps : Caps) (old : Contents) (h h' : Held) (loading : Name) (keep : List Ident) (at : ℕ) (ident : Ident) → IsLoad caps old h.contents loading keep at h.gone ident → OnlyPosts h h' → IsLoad caps old h'.contents loading keep at h'.gone ident
sent_load caps old h h' loading keep at ident load only = subst (λ (gone : List Gone). IsLoad caps old h'.contents loading keep at gone ident) (sym (ap (λ (x : Held). x.gone) only.rest)) (record {
  displaced = load.displaced;
  nothing = load.nothing;
  causes = load.causes;
  own = load.own;
  free = load.free;
  lowest = load.lowest;
  within = load.within;
  residents = only.loaded.residents ∙ load.residents;
  issued = only.loaded.issued ∙ load.issued;
  shows = λ machine memory. only.shows machine memory ∙ load.shows machine memory;
})

-- and so is a departure
pub sent_unload : (old : Contents) (h h' : Held) (ident : Ident) (at : ℕ) → IsUnload old h.contents ident at h.gone → OnlyPosts h h' → IsUnload old h'.contents ident at h'.gone
sent_unload old h h' ident at unload only = subst (λ (gone : List Gone). IsUnload old h'.contents ident at gone) (sym (ap (λ (x : Held). x.gone) only.rest)) (record {
  group = unload.group;
  causes = unload.causes;
  residents = only.loaded.residents ∙ unload.residents;
  issued = only.loaded.issued ∙ unload.issued;
  shows = λ machine memory. only.shows machine memory ∙ unload.shows machine memory;
})
