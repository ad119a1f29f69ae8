-- What a declaration leaves of the contents.
use Rattle.std.proofs.Common.{◌≡◌, ℕ, ◌+◌, ◌<◌, ◌≤◌, Bool, true, false, cond, ◌&&◌, List, [], ◌∷◌, length, Option, Some, None, is_some, IsSome, Contains, refl, ap, sym, ◌∙◌, subst, arith}
use Rattle.std.specs.Prelude.{if◌then◌else◌, ◌==◌}
use Rattle.std.specs.Option.{option_and_then, option_map}
use Rattle.std.proofs.lemmas.Bool.{and_parts, eqb-true, ltb-true}
use Rattle.cache_ident.specs.declared.idents.Ident.{Ident}
use Rattle.cache_ident.specs.declared.idents.Kind.{Kind}
use Rattle.cache_ident.specs.declared.idents.Kind.TheVariants as kind
use Rattle.cache_ident.specs.declared.names.Caps.{Caps}
use Rattle.cache_ident.specs.declared.names.KernelNo.{KernelNo}
use Rattle.cache_ident.specs.declared.names.Name.{Name}
use Rattle.cache_ident.specs.declared.names.Name.TheVariants as name
use Rattle.cache_ident.specs.declared.names.SpaceNo.{SpaceNo}
use Rattle.cache_ident.specs.declared.names.Vpn.{Vpn}
use Rattle.cache_ident.specs.Names.{amount_of}
use Rattle.cache_ident.specs.Residents.{Resident}
use Rattle.depend_lists.specs.declared.nodes.Node.{Node}
use Rattle.phys_groups.specs.declared.rows.Row.{Row}
use Rattle.phys_groups.specs.Translation.{row_of}
use Rattle.row_store.specs.signal_pages.specs.Signals.{is_signal_row_of}
use Rattle.kernel_cache.specs.declared.KernelRec.{KernelRec}
use Rattle.desc_groups.specs.flat_state.specs.declared.records.FlatThread.{FlatThread}
use Rattle.desc_groups.specs.flat_state.specs.State.{FlatState}
use Rattle.desc_groups.specs.flat_state.specs.Translation.{is_fit_row}
use Rattle.desc_groups.specs.flat_state.specs.Dependence.{owner}
use Rattle.desc_groups.specs.flat_state.specs.Names.{stands}
use Rattle.desc_groups.specs.flat_state.proofs.Places.{get-append}
use Rattle.desc_groups.specs.run_journal.specs.Legal.{locked_by}
use Rattle.desc_groups.specs.space_cache.specs.declared.SpaceRec.{SpaceRec}
use Rattle.desc_groups.specs.space_cache.specs.Spaces as space_rec
use Rattle.row_store.specs.kind_store.specs.Changes.{is_name}
use Rattle.row_store.specs.kind_store.specs.Kept as stored
use Rattle.desc_groups.specs.desc_stores.specs.declared.items.Item.{Item}
use Rattle.desc_groups.specs.desc_stores.specs.declared.items.Item.TheVariants as item
use Rattle.desc_groups.specs.desc_stores.specs.Changes.{HasContent, IsDeclaring, IsNext}
use Rattle.desc_groups.specs.desc_stores.specs.Contents.{content_of, residents_of, Contents}
use Rattle.desc_groups.specs.desc_stores.specs.Items.{name_of}
use Rattle.desc_groups.specs.desc_stores.specs.Sound.{AreOwned, IsExactlyOne}
use Rattle.desc_groups.specs.shown_state.specs.Shown.{flat_kernel, flat_thread, row_of_item, space_of, thread_of}
use Rattle.desc_groups.specs.shown_state.specs.Edits.{with_new}
use Rattle.desc_groups.specs.shown_state.specs.Owning.{kernel_in, owner_in}
use Rattle.desc_groups.specs.shown_state.proofs.ChangeLemmas.{at_name, elsewhere}
use Rattle.desc_groups.specs.shown_state.proofs.DeclareLemmas.{declaration_shown}
use Rattle.desc_groups.specs.shown_state.proofs.LookupLemmas.{count_kernels, found_row, name_stands}
use Rattle.desc_groups.specs.shown_state.proofs.OwnerLemmas.{owner_found, owners_declared, stays_owned}
use Rattle.desc_groups.specs.store_residents.proofs.StayLemmas.{slots-declaring}
use Rattle.desc_groups.specs.desc_parents.specs.Seen.{seen, HasPlainRows}
use Rattle.desc_groups.specs.declared.departures.Gone.{Gone}
use Rattle.desc_tables.specs.May.{no_locks, IsNewItem, IsNewRow}
use Rattle.desc_tables.specs.Calls.{OwnsNew}
use Rattle.desc_tables.specs.Tables.{ArePlaced, AreSound, IsLimited}
use Rattle.desc_tables.proofs.DeclareLemmas.{grants_kernel, keeps_grown, keeps_row, none_locked, placed_kernel, placed_row, placed_space, plain_row}
use Rattle.desc_tables.proofs.LikeLemmas.{is_below, like_for, test_below, KeepsLoaded}
use Rattle.desc_tables.proofs.SoundLemmas.{sound_like, AreCounted, IsLikeFor, RoomIn}

abbrev first_kernel : KernelNo
first_kernel = record { 0 = 0 }

-- what is shown as a row is one
mapping_item : (o : Option Item) (row : Row) → row_of_item o ≡ Some row → o ≡ Some (item.Mapping row)
mapping_item None row is = absurd (cc)
mapping_item (Some (item.Kernel kernel)) row is = absurd (cc)
mapping_item (Some (item.Space space)) row is = absurd (cc)
mapping_item (Some (item.Thread thread)) row is = absurd (cc)
mapping_item (Some (item.Mapping other)) row is = ap (λ (o : Option Row). option_map item.Mapping o) is

no_amount : (of : Kind) → amount_of no_locks of ≡ 0
no_amount kind.Kernel = refl
no_amount kind.Space = refl
no_amount kind.Thread = refl
no_amount kind.Mapping = refl

-- what has a content has its place in what is seen
module _ (c : Contents) (one : IsExactlyOne c) where
  kernel_below : (kernel : KernelNo) → IsSome (content_of c (name.Kernel kernel)) → kernel.0 < length (seen c).kernels
  unfolding stands
  kernel_below kernel some = ltb-true kernel.0 (length (seen c).kernels) (is_below (seen c).kernels kernel.0 (name_stands None [] c one (name.Kernel kernel) ∙ some))

  space_below : (space : SpaceNo) → IsSome (content_of c (name.Space space)) → space.0 < length (seen c).spaces
  unfolding stands
  space_below space some = ltb-true space.0 (length (seen c).spaces) (is_below (seen c).spaces space.0 (name_stands None [] c one (name.Space space) ∙ some))

-- who owns what was declared
owner_declared : (old new : Contents) → IsExactlyOne old → (it : Item) (who : KernelNo) → IsNext old it → HasContent old new it → IsDeclaring old new who it → OwnsNew old it who → owner_in new (name_of it) ≡ Some who
owner_declared old new one (item.Kernel kernel) who next has declaring owns =
    let count : new.kernel_count ≡ old.kernel_count + 1 = ap (λ (c : Contents). c.kernel_count) declaring.2 in
    let below : kernel.no.0 < new.kernel_count = let number = next.0 in omega arith in
    ap (λ (b : Bool). if b then Some first_kernel else None) (test_below kernel.no.0 new.kernel_count below) ∙ ap Some (sym owns)
owner_declared old new one (item.Space space) who next has declaring owns = ap space_of (at_name old new (item.Space space) has) ∙ ap Some (sym owns)
owner_declared old new one (item.Thread thread) who next has declaring owns =
    ap (λ (o : Option Item). option_and_then (λ (t : FlatThread). kernel_in new t.space) (thread_of o)) (at_name old new (item.Thread thread) has)
    ∙ ap space_of (elsewhere old new (item.Thread thread) has (name.Space thread.space) (λ same. (cc)))
    ∙ sym (owner_found None [] old one (name.Space thread.space))
    ∙ owns
owner_declared old new one (item.Mapping row) who next has declaring owns =
    ap (λ (o : Option Item). option_and_then (λ (r : Row). kernel_in new r.space) (row_of_item o)) (at_name old new (item.Mapping row) has)
    ∙ ap space_of (elsewhere old new (item.Mapping row) has (name.Space row.space) (λ same. (cc)))
    ∙ sym (owner_found None [] old one (name.Space row.space))
    ∙ owns

-- no loaded message row waits for a new signal row that is fit
row_apart : (caps : Caps) (c : Contents) → IsExactlyOne c → (row : Row) → IsNewRow c row → (r : Resident) (space : SpaceNo) (vpn : Vpn) (x : Row) → Contains (residents_of c) r → r.name ≡ name.Mapping space vpn → row_of (seen c).rows space vpn.0 ≡ Some x → x.flags.m ≡ true → (is_signal_row_of x.frame row && is_fit_row (seen c) row) ≡ false
row_apart caps c one row its r space vpn x there is at message = by (is_signal_row_of x.frame row && is_fit_row (seen c) row) refl
  where
    by : (b : Bool) → (is_signal_row_of x.frame row && is_fit_row (seen c) row) ≡ b → b ≡ false
    by false passes = refl
    by true passes =
        let parts = and_parts (is_signal_row_of x.frame row) (is_fit_row (seen c) row) passes in
        let signal = and_parts (row.frame.0 == x.frame.0) (is_some row.receiver) parts.0 in
        let number : x.frame.0 ≡ row.frame.0 = sym (eqb-true row.frame.0 x.frame.0 signal.0) in
        let frame : x.frame ≡ row.frame = ap (λ (n : ℕ). record { 0 = n }) number in
        let content : content_of c r.name ≡ Some (item.Mapping x) = ap (content_of c) is ∙ mapping_item (content_of c (name.Mapping space vpn)) x (sym (found_row None [] c one space vpn) ∙ at) in
        absurd (its.alone signal.1 parts.1 r x there content message frame)

module _ (caps : Caps) (old new : Contents) (gone : List Gone) (left : List Name) (pairs : List (Ident × Node)) (sound : AreSound (record { caps = caps; contents = old; gone = gone; left = left }) pairs) (one : IsExactlyOne new) (who : KernelNo) where
  kernel_cases : (it : Item) → HasContent old new it → {P : KernelRec → Type 0} → ((kernel : KernelRec) → it ≡ item.Kernel kernel → P kernel) → ((n : Name) (kernel : KernelRec) → content_of old n ≡ Some (item.Kernel kernel) → P kernel) → (n : Name) (kernel : KernelRec) → content_of new n ≡ Some (item.Kernel kernel) → P kernel
  kernel_cases it has {P = P} fresh before n kernel at = by (is_name (name_of it) n) (sym (has n) ∙ at)
    where
      by : (b : Bool) → cond b (Some it) (content_of old n) ≡ Some (item.Kernel kernel) → P kernel
      by true same = fresh kernel (let its : it ≡ item.Kernel kernel = cc in its)
      by false same = before n kernel same

  -- a new kernel is owned by nothing that is loaded, and has locked nothing
  counted : (it : Item) → IsNext old it → IsNewItem caps old it → HasContent old new it → AreCounted (seen old) (residents_of old) new
  counted it next its has n kernel at of =
      kernel_cases it has {P = λ kernel. amount_of kernel.locked of ≡ locked_by (seen old) (residents_of old) kernel.no of}
      (λ kernel is.
      let new_kernel = subst (IsNewItem caps old) is its in
      let number = subst (IsNext old) is next in
      let count = count_kernels None [] old sound.whole.one in
      ap (λ (l : Caps). amount_of l of) new_kernel.none_locked ∙ no_amount of ∙ sym (none_locked (seen old) sound.placed (residents_of old) kernel.no of (let same = number.0 in omega arith)))
      (λ n kernel there. sound.whole.counted n kernel there of)
      n kernel at

  limited : (it : Item) → IsNewItem caps old it → HasContent old new it → IsLimited new
  limited it its has n kernel at of =
      kernel_cases it has {P = λ kernel. amount_of kernel.locked of ≤ amount_of kernel.limits of}
      (λ kernel is.
      let new_kernel = subst (IsNewItem caps old) is its in
      let none = ap (λ (l : Caps). amount_of l of) new_kernel.none_locked ∙ no_amount of in
      omega arith)
      (λ n kernel there. sound.limited n kernel there of)
      n kernel at

  declared_so : (it : Item) → IsNext old it → IsNewItem caps old it → content_of old (name_of it) ≡ None → HasContent old new it → IsDeclaring old new who it → OwnsNew old it who → residents_of new ≡ residents_of old
      → ((owner_of : Name → Option KernelNo) → owner_of (name_of it) ≡ Some who → AreOwned owner_of old → AreOwned owner_of new)
      → HasPlainRows (with_new (seen old) it) → KeepsLoaded (seen old) (with_new (seen old) it) (residents_of old) → RoomIn caps (with_new (seen old) it) → ArePlaced (with_new (seen old) it)
      → AreSound (record { caps = caps; contents = new; gone = gone; left = left }) pairs
  declared_so it next its absent has declaring owns residents owned plain keeps room placed =
      let shows : seen new ≡ with_new (seen old) it = declaration_shown None [] old new sound.whole.one who it declaring next absent has in
      let its_owner : owner (seen new) (name_of it) ≡ Some who = owner_found None [] new one (name_of it) ∙ owner_declared old new sound.whole.one it who next has declaring owns in
      let before : AreOwned (owner (seen new)) old = stays_owned old (owner (seen old)) (owner (seen new)) (λ n kernel some at. subst (λ (s : FlatState). owner s n ≡ Some kernel) (sym shows) (owners_declared (seen old) it n kernel at)) sound.whole.owned in
      sound_like caps old new gone left pairs sound one (slots-declaring old new who it declaring) residents
      (subst HasPlainRows (sym shows) plain)
      (subst (λ (s : FlatState). IsLikeFor (seen old) s (residents_of old)) (sym shows) (like_for (seen old) (with_new (seen old) it) (residents_of old) sound.whole.good keeps))
      (owned (owner (seen new)) its_owner before)
      (counted it next its has)
      (subst (RoomIn caps) (sym shows) room)
      (limited it its has)
      (subst ArePlaced (sym shows) placed)

  pub sound_declared : (it : Item) → IsNext old it → IsNewItem caps old it → content_of old (name_of it) ≡ None → HasContent old new it → IsDeclaring old new who it → OwnsNew old it who → residents_of new ≡ residents_of old
      → ((owner_of : Name → Option KernelNo) → owner_of (name_of it) ≡ Some who → AreOwned owner_of old → AreOwned owner_of new)
      → AreSound (record { caps = caps; contents = new; gone = gone; left = left }) pairs
  sound_declared (item.Kernel kernel) next its absent has declaring owns residents owned =
      let s = seen old in
      declared_so (item.Kernel kernel) next its absent has declaring owns residents owned
      (record { agreed = sound.whole.rows.agreed; framed = sound.whole.rows.framed; few = sound.whole.rows.few })
      (keeps_grown s (with_new s (item.Kernel kernel)) sound.placed (λ n k at. get-append s.kernels (flat_kernel kernel ∷ []) n k at) (λ n k at. at) (residents_of old) sound.whole.good refl (λ n x at. at))
      (λ some of. let grants = grants_kernel s (flat_kernel kernel) of in let room = its.room of in omega arith)
      (placed_kernel s (flat_kernel kernel) sound.placed)
  sound_declared (item.Space space) next its absent has declaring owns residents owned =
      let s = seen old in
      declared_so (item.Space space) next its absent has declaring owns residents owned
      (record { agreed = sound.whole.rows.agreed; framed = sound.whole.rows.framed; few = sound.whole.rows.few })
      (keeps_grown s (with_new s (item.Space space)) sound.placed (λ n k at. at) (λ n k at. get-append s.spaces (space.kernel ∷ []) n k at) (residents_of old) sound.whole.good refl (λ n x at. at))
      sound.room
      (placed_space s space.kernel sound.placed (kernel_below old sound.whole.one space.kernel its))
  sound_declared (item.Thread thread) next its absent has declaring owns residents owned =
      let s = seen old in
      declared_so (item.Thread thread) next its absent has declaring owns residents owned
      (record { agreed = sound.whole.rows.agreed; framed = sound.whole.rows.framed; few = sound.whole.rows.few })
      (keeps_grown s (with_new s (item.Thread thread)) sound.placed (λ n k at. at) (λ n k at. at) (residents_of old) sound.whole.good refl (λ n x at. get-append s.threads (flat_thread thread ∷ []) n x at))
      sound.room
      (record { spaces = sound.placed.spaces; rows = sound.placed.rows })
  sound_declared (item.Mapping row) next its absent has declaring owns residents owned =
      let s = seen old in
      declared_so (item.Mapping row) next its absent has declaring owns residents owned
      (plain_row s row sound.whole.rows its.frame its.flags its.few)
      (keeps_row s row (residents_of old) sound.whole.good (row_apart caps old sound.whole.one row its))
      sound.room
      (placed_row s row sound.placed (space_below old sound.whole.one row.space its.space))

-- a space that stands has a kernel
pub space_has_owner : (c : Contents) → IsExactlyOne c → (space : SpaceNo) → IsSome (content_of c (name.Space space)) → owner (seen c) (name.Space space) ≡ None → ⊥
space_has_owner c one space some none = by (stored.content_of space_rec.name_of c.spaces (name.Space space)) some (sym (owner_found None [] c one (name.Space space)) ∙ none)
  where
    by : (o : Option SpaceRec) → IsSome (option_map item.Space o) → space_of (option_map item.Space o) ≡ None → ⊥
    by None some none = absurd (cc)
    by (Some value) some none = absurd (cc)
