-- Room and identifiers that may be issued change nothing else.
use Rattle.std.proofs.Common.{◌≡◌, ℕ, ◌+◌, ◌<◌, ◌≤◌, true, cond, List, [], Option, Some, None, IsSome, Contains, refl, ap, sym, ◌∙◌, subst, arith}
use Rattle.std.specs.Prelude.{◌-◌, count_by, min}
use Rattle.std.proofs.Math.Nat.{le-min, min-le_left, min-le_right}
use Rattle.cache_ident.specs.declared.idents.Ident.{Ident}
use Rattle.cache_ident.specs.declared.idents.Kind.{Kind}
use Rattle.cache_ident.specs.declared.idents.Kind.TheVariants as kind
use Rattle.cache_ident.specs.declared.names.Caps.{Caps}
use Rattle.cache_ident.specs.declared.names.KernelNo.{KernelNo}
use Rattle.cache_ident.specs.declared.names.Name.{Name}
use Rattle.cache_ident.specs.declared.names.Name.TheVariants as name
use Rattle.depend_lists.specs.declared.nodes.Node.{Node}
use Rattle.cache_ident.specs.Names.{amount_of}
use Rattle.cache_ident.specs.Residents.{Resident}
use Rattle.row_store.specs.signal_pages.specs.Signals.{is_signal_row_of}
use Rattle.desc_groups.specs.flat_state.specs.declared.events.Machine.{Machine}
use Rattle.desc_groups.specs.flat_state.specs.Declaration.{is_receiver_in, locks_granted}
use Rattle.desc_groups.specs.flat_state.specs.Dependence.{owner}
use Rattle.desc_groups.specs.flat_state.specs.State.{FlatState}
use Rattle.desc_groups.specs.flat_state.specs.Translation.{is_fit_row}
use Rattle.row_store.specs.kind_store.specs.Changes.{is_name}
use Rattle.row_store.specs.kind_store.specs.Kept as stored
use Rattle.desc_groups.specs.desc_stores.specs.declared.items.Item.{Item}
use Rattle.desc_groups.specs.desc_stores.specs.declared.items.Item.TheVariants as item
use Rattle.desc_groups.specs.desc_stores.specs.Changes.{room_of, HasContent, IsDeclaring, IsNext, KeepsContents, OnlyMakesRoom}
use Rattle.desc_groups.specs.desc_stores.specs.Contents.{content_of, resident_as, resident_in, residents_of, Contents}
use Rattle.desc_groups.specs.desc_stores.specs.Items.{name_of}
use Rattle.desc_groups.specs.desc_stores.specs.Sound.{AreOwned, IsExactlyOne}
use Rattle.desc_groups.specs.shown_state.specs.Shown.{shown}
use Rattle.desc_groups.specs.shown_state.proofs.AlikeLemmas.{shown_alike}
use Rattle.desc_groups.specs.shown_state.proofs.ListLemmas.{filter_map-agree}
use Rattle.desc_groups.specs.shown_state.proofs.MoveLemmas.{alike_room, alike_spare}
use Rattle.desc_groups.specs.store_residents.proofs.StayLemmas.{slots-roomier, slots-reserving}
use Rattle.desc_groups.specs.desc_parents.specs.Seen.{seen}
use Rattle.desc_groups.specs.declared.departures.Gone.{Gone}
use Rattle.desc_tables.specs.May.{IsNewItem, MayBeDeclared, wanted_of}
use Rattle.desc_tables.specs.Tables.{AreSound}
use Rattle.desc_tables.proofs.SoundLemmas.{sound_kept}

module _ (old new : Contents) where
  abbrev roomy : Contents
  roomy = record old {
    kernels = record old.kernels { room = new.kernels.room };
    spaces = record old.spaces { room = new.spaces.room };
    threads = record old.threads { room = new.threads.room };
    rows = record old.rows { kept = record old.rows.kept { room = new.rows.kept.room }; room = new.rows.room };
  }

  keeps_roomy : KeepsContents old roomy
  unfolding stored.content_of
  keeps_roomy (name.Kernel number) = refl
  keeps_roomy (name.Space number) = refl
  keeps_roomy (name.Thread number) = refl
  keeps_roomy (name.Mapping space vpn) = refl

  same_roomy : (k : Kind) (ident : Ident) → resident_in roomy k ident ≡ resident_in old k ident
  same_roomy kind.Kernel ident = refl
  same_roomy kind.Space ident = refl
  same_roomy kind.Thread ident = refl
  same_roomy kind.Mapping ident = refl

  resident_roomy : residents_of roomy ≡ residents_of old
  unfolding residents_of
  resident_roomy = filter_map-agree (λ entry. resident_as roomy entry.ident) (λ entry. resident_as old entry.ident) old.issued (λ entry there. same_roomy entry.ident.kind entry.ident)

  owned_roomy : (owner_of : Name → Option KernelNo) → AreOwned owner_of old → AreOwned owner_of roomy
  owned_roomy owner_of owned = record { kernels = owned.kernels; spaces = owned.spaces; threads = owned.threads; rows = owned.rows }

  pub residents_room : OnlyMakesRoom old new → residents_of new ≡ residents_of old
  residents_room more = ap residents_of more.is ∙ resident_roomy

  pub issued_room : OnlyMakesRoom old new → new.issued ≡ old.issued
  issued_room more = ap (λ (c : Contents). c.issued) more.is

  pub keeps_room : OnlyMakesRoom old new → KeepsContents old new
  keeps_room more = subst (KeepsContents old) (sym more.is) keeps_roomy

  sees_room : OnlyMakesRoom old new → seen new ≡ seen old
  sees_room more = shown_alike None [] old new (alike_room old new more)

  next_roomy : (it : Item) → IsNext old it → IsNext roomy it
  next_roomy (item.Kernel kernel) next = next
  next_roomy (item.Space space) next = next
  next_roomy (item.Thread thread) next = next
  next_roomy (item.Mapping row) next = next

  still_there : OnlyMakesRoom old new → (n : Name) → IsSome (content_of old n) → IsSome (content_of new n)
  still_there more n some = subst (λ (o : Option Item). IsSome o) (sym (keeps_room more n)) some

  its_room : (caps : Caps) → OnlyMakesRoom old new → (it : Item) → IsNewItem caps old it → IsNewItem caps new it
  its_room caps more (item.Kernel kernel) its = record {
    none_locked = its.none_locked;
    room = λ of. subst (λ (s : FlatState). amount_of (locks_granted s.kernels) of + (amount_of kernel.limits of + wanted_of of) ≤ amount_of caps of) (sym (sees_room more)) (its.room of);
  }
  its_room caps more (item.Space space) its = still_there more (name.Kernel space.kernel) its
  its_room caps more (item.Thread thread) its = still_there more (name.Space thread.space) its
  its_room caps more (item.Mapping row) its = record {
    space = still_there more (name.Space row.space) its.space;
    frame = its.frame;
    flags = its.flags;
    receiver = subst (λ (s : FlatState). is_receiver_in row.space s.threads row.receiver ≡ true) (sym (sees_room more)) its.receiver;
    few = λ some. subst (λ (s : FlatState). count_by (is_signal_row_of row.frame) s.rows < 4) (sym (sees_room more)) (its.few some);
    alone = λ some fit r other there content message frame.
        its.alone some (subst (λ (s : FlatState). is_fit_row s row ≡ true) (sees_room more) fit) r other
        (subst (λ (rs : List Resident). Contains rs r) (residents_room more) there) (sym (keeps_room more r.name) ∙ content) message frame;
  }

  -- what may be declared may be, once there is more room
  pub may_still : (caps : Caps) → OnlyMakesRoom old new → (it : Item) → MayBeDeclared caps old it → MayBeDeclared caps new it
  may_still caps more it may = record {
    absent = keeps_room more (name_of it) ∙ may.absent;
    next = subst (λ (c : Contents). IsNext c it) (sym more.is) (next_roomy it may.next);
    its = its_room caps more it may.its;
  }

  -- room shows nothing new
  pub shows_room : OnlyMakesRoom old new → (machine : Option Machine) (memory : List ℕ) → shown machine memory new ≡ shown machine memory old
  shows_room more machine memory = shown_alike machine memory old new (alike_room old new more)

  abbrev spared : Contents
  spared = record old { spare = new.spare }

  keeps_spared : KeepsContents old spared
  unfolding stored.content_of
  keeps_spared (name.Kernel number) = refl
  keeps_spared (name.Space number) = refl
  keeps_spared (name.Thread number) = refl
  keeps_spared (name.Mapping space vpn) = refl

  same_spared : (k : Kind) (ident : Ident) → resident_in spared k ident ≡ resident_in old k ident
  same_spared kind.Kernel ident = refl
  same_spared kind.Space ident = refl
  same_spared kind.Thread ident = refl
  same_spared kind.Mapping ident = refl

  resident_spared : residents_of spared ≡ residents_of old
  unfolding residents_of
  resident_spared = filter_map-agree (λ entry. resident_as spared entry.ident) (λ entry. resident_as old entry.ident) old.issued (λ entry there. same_spared entry.ident.kind entry.ident)

  owned_spared : (owner_of : Name → Option KernelNo) → AreOwned owner_of old → AreOwned owner_of spared
  owned_spared owner_of owned = record { kernels = owned.kernels; spaces = owned.spaces; threads = owned.threads; rows = owned.rows }

  module _ (caps : Caps) (gone : List Gone) (left : List Name) (pairs : List (Ident × Node)) (sound : AreSound (record { caps = caps; contents = old; gone = gone; left = left }) pairs) (one : IsExactlyOne new) where
    pub sound_room : OnlyMakesRoom old new → AreSound (record { caps = caps; contents = new; gone = gone; left = left }) pairs
    sound_room more =
        sound_kept caps old new gone left pairs sound one (slots-roomier old new more) (residents_room more)
        (shown_alike None [] old new (alike_room old new more))
        (subst (KeepsContents old) (sym more.is) keeps_roomy)
        (subst (AreOwned (owner (seen old))) (sym more.is) (owned_roomy (owner (seen old)) sound.whole.owned))

    pub sound_spare : new ≡ record old { spare = new.spare } → AreSound (record { caps = caps; contents = new; gone = gone; left = left }) pairs
    sound_spare is =
        sound_kept caps old new gone left pairs sound one (slots-reserving old new is) (ap residents_of is ∙ resident_spared)
        (shown_alike None [] old new (alike_spare old new is))
        (subst (KeepsContents old) (sym is) keeps_spared)
        (subst (AreOwned (owner (seen old))) (sym is) (owned_spared (owner (seen old)) sound.whole.owned))

-- nothing changed is no change of room
pub no_room : (c : Contents) → OnlyMakesRoom c c
no_room c = record { is = refl; kernels = omega arith; spaces = omega arith; threads = omega arith; rows = omega arith }

-- a content that came once there was room came to what there was
pub onward_from_room : (old mid new : Contents) (it : Item) → OnlyMakesRoom old mid → HasContent mid new it → HasContent old new it
onward_from_room old mid new it more has n = has n ∙ ap (cond (is_name (name_of it) n) (Some it)) (keeps_room old mid more n)

-- the least of four falls by one at most where none of them falls by more
least_falls : (a b c d e f g h : ℕ) → a ≤ e + 1 → b ≤ f + 1 → c ≤ g + 1 → d ≤ h + 1 → min (min a b) (min c d) ≤ min (min e f) (min g h) + 1
least_falls a b c d e f g h first second third fourth =
    let left = min-le_left (min a b) (min c d) in
    let right = min-le_right (min a b) (min c d) in
    let at_e : min (min a b) (min c d) - 1 ≤ e = omega (arith, left, min-le_left a b, first) in
    let at_f : min (min a b) (min c d) - 1 ≤ f = omega (arith, left, min-le_right a b, second) in
    let at_g : min (min a b) (min c d) - 1 ≤ g = omega (arith, right, min-le_left c d, third) in
    let at_h : min (min a b) (min c d) - 1 ≤ h = omega (arith, right, min-le_right c d, fourth) in
    omega (arith, le-min (le-min at_e at_f) (le-min at_g at_h))

-- a descriptor that comes takes the room of one at most
pub room_put : (old new : Contents) (owner : KernelNo) (it : Item) → IsDeclaring old new owner it → room_of old ≤ room_of new + 1
room_put old new owner (item.Kernel kernel) is =
    subst (λ (c : Contents). room_of old ≤ room_of c + 1) (sym is.2) (least_falls old.kernels.room old.spaces.room old.threads.room old.rows.room new.kernels.room old.spaces.room old.threads.room old.rows.room (omega (arith, is.1)) (omega arith) (omega arith) (omega arith))
room_put old new owner (item.Space space) is =
    subst (λ (c : Contents). room_of old ≤ room_of c + 1) (sym is.2) (least_falls old.kernels.room old.spaces.room old.threads.room old.rows.room old.kernels.room new.spaces.room old.threads.room old.rows.room (omega arith) (omega (arith, is.1)) (omega arith) (omega arith))
room_put old new owner (item.Thread thread) is =
    subst (λ (c : Contents). room_of old ≤ room_of c + 1) (sym is.2) (least_falls old.kernels.room old.spaces.room old.threads.room old.rows.room old.kernels.room old.spaces.room new.threads.room old.rows.room (omega arith) (omega arith) (omega (arith, is.1)) (omega arith))
room_put old new owner (item.Mapping row) is =
    subst (λ (c : Contents). room_of old ≤ room_of c + 1) (sym is.3) (least_falls old.kernels.room old.spaces.room old.threads.room old.rows.room old.kernels.room old.spaces.room old.threads.room new.rows.room (omega arith) (omega arith) (omega arith) (omega (arith, is.1)))

-- where room is made none falls
pub room_grows : (old new : Contents) → OnlyMakesRoom old new → room_of old ≤ room_of new
room_grows old new more =
    let left = min-le_left (min old.kernels.room old.spaces.room) (min old.threads.room old.rows.room) in
    let right = min-le_right (min old.kernels.room old.spaces.room) (min old.threads.room old.rows.room) in
    le-min
    (le-min (omega (arith, left, min-le_left old.kernels.room old.spaces.room, more.kernels)) (omega (arith, left, min-le_right old.kernels.room old.spaces.room, more.spaces)))
    (le-min (omega (arith, right, min-le_left old.threads.room old.rows.room, more.threads)) (omega (arith, right, min-le_right old.threads.room old.rows.room, more.rows)))
