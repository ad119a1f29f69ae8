-- What is left of a machine with caches where a thread goes to a processor or comes away from it.
use Rattle.std.proofs.Common.{◌≡◌, ◌≢◌, ℕ, Bool, true, false, cond, List, Option, Some, None, IsSome, refl, sym, ◌∙◌, ap, subst, inl, inr}
use Rattle.std.specs.Prelude.{◌==◌, is_some}
use Rattle.std.proofs.lemmas.Bool.{eq-eqb, eqb-true}
use Rattle.cache_ident.specs.declared.names.Caps.{Caps}
use Rattle.cache_ident.specs.declared.names.Name.{Name}
use Rattle.cache_ident.specs.declared.names.Name.TheVariants as name
use Rattle.cache_ident.specs.declared.names.ThreadNo.{ThreadNo}
use Rattle.flat_state.specs.declared.events.Machine.{Machine}
use Rattle.thread_cache.specs.declared.ThreadRec.{ThreadRec}
use Rattle.thread_sets.specs.kind_store.specs.Kept.{Kept}
use Rattle.thread_sets.specs.kind_store.proofs.ContentLemmas.{cases_name}
use Rattle.board_laws.specs.desc_stores.specs.declared.items.Item.{Item}
use Rattle.board_laws.specs.desc_stores.specs.declared.items.Item.TheVariants as item
use Rattle.board_laws.specs.desc_stores.specs.Changes.{with_named, HasContent}
use Rattle.board_laws.specs.desc_stores.specs.Contents.{content_of, Contents}
use Rattle.board_laws.specs.shown_state.specs.Shown.{flat_thread, kernel_of, row_of_item, space_of, thread_of}
use Rattle.board_laws.specs.shown_state.proofs.AlikeLemmas.{shown_alike}
use Rattle.board_laws.specs.shown_state.proofs.ChangeLemmas.{at_name, elsewhere}
use Rattle.board_laws.specs.shown_state.proofs.ContentLemmas.{item_has_name}
use Rattle.board_laws.specs.shown_state.proofs.MoveLemmas.{names_in_threads}
use Rattle.thread_sets.specs.Sets.{Sets}
use Rattle.board_laws.specs.desc_tables.specs.Tables.{Held}
use Rattle.board_laws.specs.desc_tables.specs.Calls.{IsLike}
use Rattle.board_laws.specs.Moves.{ShowsTheSame}
use Rattle.cached_machine.specs.declared.posts.Post.{Post}
use Rattle.cached_machine.specs.declared.posts.Post.TheVariants.{Out, In}
use Rattle.cached_machine.specs.Cached.{is_loaded, IsSoundMachine}
use Rattle.cached_machine.specs.Posts.{but_at, last_in, last_of, mark_in, mark_of, posted, IsPosted, OnlyLoadedAreOut, OnlyPosts}
use Rattle.cached_machine.proofs.AlikeLaws.{alike_sound, itself_but_room, same_loaded}

-- what a move leaves of the thread
pub posted_no : (post : Post) (thread : ThreadRec) → (posted post thread).no ≡ thread.no
posted_no (Out cpu number) thread = refl
posted_no In thread = refl

pub posted_like : (post : Post) (thread : ThreadRec) → IsLike (item.Thread thread) (item.Thread (posted post thread))
posted_like (Out cpu number) thread = (refl, refl)
posted_like In thread = (refl, refl)

pub posted_shows : (post : Post) (thread : ThreadRec) → flat_thread (posted post thread) ≡ flat_thread thread
posted_shows (Out cpu number) thread = refl
posted_shows In thread = refl

-- a thread stands in the place of one of its name, which shows the same
module _ (old new : Contents) (whom : ThreadNo) (was is : ThreadRec) (there : content_of old (name.Thread whom) ≡ Some (item.Thread was)) (number : is.no ≡ was.no) (shows : flat_thread is ≡ flat_thread was) (has : HasContent old new (item.Thread is)) where
  its_name : name.Thread is.no ≡ name.Thread whom
  its_name = ap name.Thread number ∙ item_has_name old (name.Thread whom) (item.Thread was) there

  -- at its name stands the one, and elsewhere what was there
  pub here : content_of new (name.Thread whom) ≡ Some (item.Thread is)
  here = subst (λ (m : Name). content_of new m ≡ Some (item.Thread is)) its_name (at_name old new (item.Thread is) has)

  pub others : (n : Name) → name.Thread whom ≢ n → content_of new n ≡ content_of old n
  others n apart = elsewhere old new (item.Thread is) has n (λ e. apart (sym its_name ∙ e))

  -- a view that sees the same of both sees what it saw
  sees : {Y : Type 0} (view : Option Item → Y) → view (Some (item.Thread is)) ≡ view (Some (item.Thread was)) → (n : Name) → view (content_of new n) ≡ view (content_of old n)
  sees view same n = elim (cases_name (name.Thread whom) n) [
    | inl same_name ↦ subst (λ (m : Name). view (content_of new m) ≡ view (content_of old m)) same_name (ap view here ∙ same ∙ sym (ap view there))
    | inr apart ↦ ap view (others n apart)
  ]

  pub shows_the_same : new ≡ with_named old (item.Thread is) → ShowsTheSame old new
  shows_the_same stands machine memory = shown_alike machine memory old new (record {
    names = names_in_threads old new (stands ∙ ap (λ (k : Kept ThreadRec). let c : Contents = record old { threads = k } in c) (sym (ap (λ (c : Contents). c.threads) stands)));
    kernels = sees kernel_of refl;
    spaces = sees space_of refl;
    threads = sees thread_of (ap Some shows);
    rows = sees row_of_item refl;
  })

module _ (post : Post) (h h' : Held) (whom : ThreadNo) (is : IsPosted post h h' whom) where
  abbrev old : Contents
  old = h.contents

  abbrev new : Contents
  new = h'.contents

  abbrev left : ThreadRec
  left = posted post is.value

  pub here_after : content_of new (name.Thread whom) ≡ Some (item.Thread left)
  here_after = here old new whom is.value left is.there (posted_no post is.value) (posted_shows post is.value) is.contents

  pub others_after : (n : Name) → name.Thread whom ≢ n → content_of new n ≡ content_of old n
  others_after = others old new whom is.value left is.there (posted_no post is.value) (posted_shows post is.value) is.contents

  pub loaded_after : (n : Name) → is_loaded new n ≡ is_loaded old n
  loaded_after = same_loaded old new is.only.loaded.residents

  -- what is read of the thread, and of the others as before
  at : {T : Type 0} (read : Option Item → T) (said : T) → read (Some (item.Thread left)) ≡ said → (other : ThreadNo) → read (content_of new (name.Thread other)) ≡ but_at whom said (λ (n : ThreadNo). read (content_of old (name.Thread n))) other
  at {T} read said reads other = by (other.0 == whom.0) refl
    where
      same_no : other.0 ≡ whom.0 → other ≡ whom
      same_no e = ap (λ (k : ℕ). let n : ThreadNo = record { 0 = k } in n) e

      by : (b : Bool) → (other.0 == whom.0) ≡ b → read (content_of new (name.Thread other)) ≡ cond b said (read (content_of old (name.Thread other)))
      by true test = subst (λ (n : ThreadNo). read (content_of new (name.Thread n)) ≡ said) (sym (same_no (eqb-true other.0 whom.0 test))) (ap read here_after ∙ reads)
      by false test = ap read (others_after (name.Thread other) (λ e. differs e))
        where
          differs : name.Thread whom ≡ name.Thread other → ⊥
          differs e =
              let same : other.0 ≡ whom.0 = cc in
              let yes : (other.0 == whom.0) ≡ true = eq-eqb other.0 whom.0 same in
              cc

  -- who stood stands
  pub stand_after : (other : ThreadNo) → IsSome (content_of old (name.Thread other)) → IsSome (content_of new (name.Thread other))
  stand_after other stood = elim (cases_name (name.Thread whom) (name.Thread other)) [
    | inl same ↦ subst (λ (m : Name). IsSome (content_of new m)) same (ap is_some here_after)
    | inr apart ↦ ap is_some (others_after (name.Thread other) apart) ∙ stood
  ]

  module _ (machine : Machine) (memory : List ℕ) (sets : Sets) where
    pub post_sound : (granted : Caps) → IsSoundMachine (record { machine = machine; memory = memory; held = h; sets = sets }) granted → IsSoundMachine (record { machine = machine; memory = memory; held = h'; sets = sets }) granted
    post_sound = alike_sound machine memory h h' sets sets (is.only.shows (Some machine) memory) (ap (λ (x : Held). x.caps) is.only.rest) (itself_but_room sets)

pub out_marks : (cpu number : ℕ) (h h' : Held) (whom : ThreadNo) → IsPosted (Out cpu number) h h' whom → (other : ThreadNo) → mark_of h'.contents other ≡ but_at whom (Some cpu) (mark_of h.contents) other
out_marks cpu number h h' whom is = at (Out cpu number) h h' whom is mark_in (Some cpu) refl

pub out_lasts : (cpu number : ℕ) (h h' : Held) (whom : ThreadNo) → IsPosted (Out cpu number) h h' whom → (other : ThreadNo) → last_of h'.contents other ≡ but_at whom number (last_of h.contents) other
out_lasts cpu number h h' whom is = at (Out cpu number) h h' whom is last_in number refl

pub in_marks : (h h' : Held) (whom : ThreadNo) → IsPosted In h h' whom → (other : ThreadNo) → mark_of h'.contents other ≡ but_at whom None (mark_of h.contents) other
in_marks h h' whom is = at In h h' whom is mark_in None refl

-- who comes away keeps its last checkout
pub in_lasts : (h h' : Held) (whom : ThreadNo) → IsPosted In h h' whom → (other : ThreadNo) → last_of h'.contents other ≡ last_of h.contents other
in_lasts h h' whom is other = elim (cases_name (name.Thread whom) (name.Thread other)) [
  | inl same ↦ subst (λ (m : Name). last_in (content_of h'.contents m) ≡ last_in (content_of h.contents m)) same (ap last_in (here_after In h h' whom is) ∙ sym (ap last_in is.there))
  | inr apart ↦ ap last_in (others_after In h h' whom is (name.Thread other) apart)
]

-- ---- only who is loaded is on a processor

pub loaded_if_out : (c : Contents) (whom : ThreadNo) → OnlyLoadedAreOut c → IsSome (mark_of c whom) → is_loaded c (name.Thread whom) ≡ true
loaded_if_out c whom out some = by (is_loaded c (name.Thread whom)) refl
  where
    by : (b : Bool) → is_loaded c (name.Thread whom) ≡ b → b ≡ true
    by true there = refl
    by false absent = absurd (let none : is_some (mark_of c whom) ≡ false = ap is_some (out whom absent) in cc)

-- a loaded thread went to one
pub still_out : (cpu number : ℕ) (h h' : Held) (whom : ThreadNo) → is_loaded h.contents (name.Thread whom) ≡ true → IsPosted (Out cpu number) h h' whom → OnlyLoadedAreOut h.contents → OnlyLoadedAreOut h'.contents
still_out cpu number h h' whom loaded is out other absent = elim (cases_name (name.Thread whom) (name.Thread other)) [
  | inl same ↦ absurd (let there : is_loaded h.contents (name.Thread other) ≡ true = ap (is_loaded h.contents) (sym same) ∙ loaded in let was = was_absent in cc)
  | inr apart ↦ ap mark_in (others_after (Out cpu number) h h' whom is (name.Thread other) apart) ∙ out other was_absent
]
  where
    was_absent : is_loaded h.contents (name.Thread other) ≡ false
    was_absent = sym (loaded_after (Out cpu number) h h' whom is (name.Thread other)) ∙ absent

-- one came away
pub fewer_out : (h h' : Held) (whom : ThreadNo) → IsPosted In h h' whom → OnlyLoadedAreOut h.contents → OnlyLoadedAreOut h'.contents
fewer_out h h' whom is out other absent = elim (cases_name (name.Thread whom) (name.Thread other)) [
  | inl same ↦ subst (λ (m : Name). mark_in (content_of h'.contents m) ≡ None) same (ap mark_in (here_after In h h' whom is))
  | inr apart ↦ ap mark_in (others_after In h h' whom is (name.Thread other) apart) ∙ out other (sym (loaded_after In h h' whom is (name.Thread other)) ∙ absent)
]

-- nothing else changed, move after move
pub only_onward : (a b c : Held) → OnlyPosts a b → OnlyPosts b c → OnlyPosts a c
only_onward a b c first second = record {
  rest = second.rest ∙ ap (λ (h : Held). let x : Held = record h { contents = c.contents } in x) first.rest;
  shows = λ machine memory. second.shows machine memory ∙ first.shows machine memory;
  loaded = record { residents = second.loaded.residents ∙ first.loaded.residents; issued = second.loaded.issued ∙ first.loaded.issued };
  spare = second.spare ∙ first.spare;
  room = second.room ∙ first.room;
}
