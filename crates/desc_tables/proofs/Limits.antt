-- That no kernel has locked more than it may, as what is resident changes.
use Rattle.std.proofs.Common.{◌≡◌, ℕ, ◌+◌, ◌<◌, ◌≤◌, Bool, true, false, cond, List, [], length, Contains, Option, Some, None, IsSome, refl, ap, sym, ◌∙◌, subst, inl, inr, arith}
use Rattle.std.specs.Prelude.{◌&&◌, is_some, slice_get}
use Rattle.std.proofs.lemmas.Bool.{and_parts, cases_Bool, eqb-true}
use Rattle.cache_ident.specs.declared.idents.Ident.{Ident}
use Rattle.cache_ident.specs.declared.idents.Kind.{Kind}
use Rattle.cache_ident.specs.declared.idents.Kind.TheVariants as kind
use Rattle.cache_ident.specs.declared.names.Caps.{Caps}
use Rattle.cache_ident.specs.declared.names.KernelNo.{KernelNo}
use Rattle.cache_ident.specs.declared.names.Name.{Name}
use Rattle.cache_ident.specs.declared.names.Name.TheVariants as name
use Rattle.cache_ident.specs.Names.{amount_of}
use Rattle.cache_ident.specs.declared.idents.Standing.TheVariants.{Live}
use Rattle.cache_ident.specs.Rolls.{standing_in}
use Rattle.cache_ident.specs.Residents.{Resident, with_loaded, with_lock}
use Rattle.depend_lists.specs.declared.nodes.Node.{Node}
use Rattle.depend_lists.specs.Pairs as dependence
use Rattle.kernel_cache.specs.declared.KernelRec.{KernelRec}
use Rattle.desc_groups.specs.flat_state.specs.State.{FlatState}
use Rattle.desc_groups.specs.flat_state.specs.Dependence.{owner}
use Rattle.desc_groups.specs.flat_state.specs.Declaration.{locks_granted}
use Rattle.desc_groups.specs.run_journal.specs.Legal.{is_kernel, is_kind, limit_of, limits_in, locked_by}
use Rattle.desc_groups.specs.run_journal.proofs.KindLemmas.{kind_is}
use Rattle.desc_groups.specs.desc_stores.specs.declared.items.Item.{Item}
use Rattle.desc_groups.specs.desc_stores.specs.declared.items.Item.TheVariants as item
use Rattle.desc_groups.specs.desc_stores.specs.Contents.{content_of, resident_as, residents_of, Contents}
use Rattle.desc_groups.specs.desc_stores.specs.Sound.{kernel_named}
use Rattle.desc_groups.specs.shown_state.specs.Shown.{flat_kernel, kernel_of}
use Rattle.desc_groups.specs.shown_state.proofs.LookupLemmas.{found_kernel}
use Rattle.desc_groups.specs.shown_state.proofs.ContentLemmas.{item_has_name}
use Rattle.desc_groups.specs.store_residents.proofs.ResidentLemmas.{live_iff, one_each, resident_loaded, serials_rise}
use Rattle.desc_groups.specs.store_residents.proofs.SlotLaws.{are_few}
use Rattle.desc_groups.specs.journal_laws.specs.Leaving.{AreApart, HaveOneEach}
use Rattle.desc_groups.specs.group_laws.specs.Leaving.{lock_of, without_all}
use Rattle.desc_groups.specs.group_laws.proofs.LockCounts.{lock_is_there, locks_loaded, locks_locked, locks_unlocked}
use Rattle.desc_groups.specs.desc_parents.specs.Seen.{seen}
use Rattle.desc_groups.specs.Moves.{KeepsButCounts, MayBeLocked}
use Rattle.desc_groups.specs.Whole.{AreWhole}
use Rattle.desc_tables.specs.May.{wanted_of}
use Rattle.desc_tables.specs.Tables.{ArePlaced, AreSound, Held, IsLimited}
use Rattle.desc_tables.proofs.Counts.{count_left, length_by_kind}

-- of what is resident, each kernel has locked at most what it may
abbrev pub AreWithin : FlatState → List Resident → Type 0
AreWithin s rs = (kernel : KernelNo) (kind : Kind) → IsSome (slice_get s.kernels kernel.0) → locked_by s rs kernel kind ≤ limit_of s kernel kind

-- there are no more residents than the capacities allow, all kinds together
pub few_residents : (caps : Caps) (c : Contents) (pairs : List (Ident × Node)) → AreWhole caps c pairs → length (residents_of c) ≤ dependence.count_of caps
few_residents caps c pairs whole =
    let few = are_few c whole.one.sound caps whole.sized in
    let k = few kind.Kernel in
    let s = few kind.Space in
    let t = few kind.Thread in
    let m = few kind.Mapping in
    let all = length_by_kind (residents_of c) in
    omega arith

-- no two residents have one identifier
pub residents_apart : (caps : Caps) (c : Contents) (pairs : List (Ident × Node)) → AreWhole caps c pairs → AreApart (residents_of c)
residents_apart caps c pairs whole i j d lower within same =
    let rises = serials_rise c whole.one.sound i j d lower within in
    let equal = ap (λ (i : Ident). i.serial) same in
    omega arith

a_kernel : (o : Option Item) → IsSome (kernel_of o) → (k : KernelRec) × (o ≡ Some (item.Kernel k))
a_kernel None some = absurd (cc)
a_kernel (Some (item.Kernel k)) some = (k, refl)
a_kernel (Some (item.Space space)) some = absurd (cc)
a_kernel (Some (item.Thread thread)) some = absurd (cc)
a_kernel (Some (item.Mapping row)) some = absurd (cc)

abbrev number_of : Name → KernelNo → KernelNo
number_of (name.Kernel kernel) other = kernel
number_of _ other = other

module _ (caps : Caps) (c : Contents) (pairs : List (Ident × Node)) (whole : AreWhole caps c pairs) where
  -- a kernel's record is that of its own number, and says its limits
  kernel_shown : (name : Name) (kernel : KernelRec) → content_of c name ≡ Some (item.Kernel kernel) → slice_get (seen c).kernels kernel.no.0 ≡ Some (flat_kernel kernel)
  kernel_shown name kernel is =
      found_kernel None [] c whole.one kernel.no.0
      ∙ ap (λ n. kernel_of (content_of c n)) (item_has_name c name (item.Kernel kernel) is)
      ∙ ap kernel_of is

  pub within_if_limited : IsLimited c → AreWithin (seen c) (residents_of c)
  within_if_limited limited kernel of there =
      let found = found_kernel None [] c whole.one kernel.0 in
      let k = a_kernel (content_of c (kernel_named kernel.0)) (subst (λ o. IsSome o) found there) in
      let named : k.0.no ≡ kernel = ap (λ n. number_of n kernel) (item_has_name c (kernel_named kernel.0) (item.Kernel k.0) k.1) in
      let count : amount_of k.0.locked of ≡ locked_by (seen c) (residents_of c) kernel of = whole.counted (kernel_named kernel.0) k.0 k.1 of ∙ ap (λ n. locked_by (seen c) (residents_of c) n of) named in
      let limit : limit_of (seen c) kernel of ≡ amount_of k.0.limits of = ap (λ o. amount_of (limits_in o) of) (found ∙ ap kernel_of k.1) in
      let low = limited (kernel_named kernel.0) k.0 k.1 of in
      omega arith

  pub limited_if_within : AreWithin (seen c) (residents_of c) → IsLimited c
  limited_if_within within name kernel is of =
      let found = kernel_shown name kernel is in
      let count = whole.counted name kernel is of in
      let limit : limit_of (seen c) kernel.no of ≡ amount_of kernel.limits of = ap (λ o. amount_of (limits_in o) of) found in
      let low = within kernel.no of (ap is_some found) in
      omega arith

-- ---- as what is resident changes

kernel_is : (kernel : KernelNo) (o : Option KernelNo) → is_kernel kernel o ≡ true → o ≡ Some kernel
kernel_is kernel None is = absurd (cc)
kernel_is kernel (Some other) is = ap (λ (n : ℕ). Some (record { 0 = n })) (eqb-true other.0 kernel.0 is)

module _ (s : FlatState) (rs : List Resident) (within : AreWithin s rs) where
  pub within_left : (idents : List Ident) → AreWithin s (without_all idents rs)
  within_left idents kernel of there =
      let before = within kernel of there in
      let fewer : locked_by s (without_all idents rs) kernel of ≤ locked_by s rs kernel of = count_left (λ r. r.locked && (is_kind r.ident.kind of && is_kernel kernel (owner s r.name))) idents rs in
      omega arith

  pub within_loaded : (ident : Ident) (name : Name) → AreWithin s (with_loaded ident name rs)
  within_loaded ident name kernel of there =
      let before = within kernel of there in
      let same = locks_loaded s rs kernel of ident name in
      omega arith

  pub within_unlocked : (r : Resident) → AreApart rs → HaveOneEach rs → Contains rs r → AreWithin s (with_lock r.ident false rs)
  within_unlocked r apart one r_there kernel of there =
      let before = within kernel of there in
      elim (cases_Bool r.locked) [
        | inl locked ↦ let fewer = locks_unlocked s rs kernel of r apart r_there locked in omega arith
        | inr free ↦ subst (λ xs. locked_by s xs kernel of ≤ limit_of s kernel of) (sym (ap (λ on. with_lock r.ident on rs) (sym free) ∙ lock_is_there rs r one r_there)) before
      ]

  pub within_locked : (r : Resident) → AreApart rs → HaveOneEach rs → Contains rs r → ((kernel : KernelNo) → r.locked ≡ false → owner s r.name ≡ Some kernel → locked_by s rs kernel r.ident.kind < limit_of s kernel r.ident.kind) → AreWithin s (with_lock r.ident true rs)
  within_locked r apart one r_there may kernel of there =
      let before = within kernel of there in
      elim (cases_Bool r.locked) [
        | inl locked ↦ subst (λ xs. locked_by s xs kernel of ≤ limit_of s kernel of) (sym (ap (λ on. with_lock r.ident on rs) (sym locked) ∙ lock_is_there rs r one r_there)) before
        | inr free ↦
            let more = locks_locked s rs kernel of r apart r_there free in
            elim (cases_Bool (is_kind r.ident.kind of && is_kernel kernel (owner s r.name))) [
              | inl counts ↦
                  let parts = and_parts _ _ counts in
                  let room : locked_by s rs kernel of < limit_of s kernel of = subst (λ k. locked_by s rs kernel k < limit_of s kernel k) (kind_is r.ident.kind of parts.0) (may kernel free (kernel_is kernel (owner s r.name) parts.1)) in
                  let one_more : lock_of s (record r { locked = true }) kernel of ≡ 1 = ap (λ (b : Bool). cond {A = ℕ} b 1 0) counts in
                  omega arith
              | inr other ↦
                  let no_more : lock_of s (record r { locked = true }) kernel of ≡ 0 = ap (λ (b : Bool). cond {A = ℕ} b 1 0) other in
                  omega arith
            ]
      ]

-- ---- what holds of the tables stays so

pub stays_sound : (old new : Held) (before after : List (Ident × Node)) → AreSound old before → AreWhole new.caps new.contents after → new.caps ≡ old.caps → seen new.contents ≡ seen old.contents → AreWithin (seen old.contents) (residents_of new.contents) → AreSound new after
stays_sound old new before after sound whole same_caps shows within = record {
  whole = whole;
  room = (
      let P : Caps → FlatState → Type 0 = λ caps s. 0 < length s.kernels → (of : Kind) → amount_of (locks_granted s.kernels) of + wanted_of of ≤ amount_of caps of in
      subst (λ caps. P caps (seen new.contents)) (sym same_caps) (subst (P old.caps) (sym shows) sound.room));
  limited = limited_if_within new.caps new.contents after whole (subst (λ s. AreWithin s (residents_of new.contents)) (sym shows) within);
  placed = subst ArePlaced (sym shows) sound.placed;
}

-- as some leave
pub left_sound : (old new : Held) (before after : List (Ident × Node)) (idents : List Ident) → AreSound old before → AreWhole new.caps new.contents after → new.caps ≡ old.caps → residents_of new.contents ≡ without_all idents (residents_of old.contents) → KeepsButCounts old.contents new.contents → AreSound new after
left_sound old new before after idents sound whole caps left kept =
    let within = within_if_limited old.caps old.contents before sound.whole sound.limited in
    stays_sound old new before after sound whole caps (kept.shows None []) (subst (AreWithin (seen old.contents)) (sym left) (within_left (seen old.contents) (residents_of old.contents) within idents))

-- as one is locked that its owner may lock
pub locked_sound : (old new : Held) (before after : List (Ident × Node)) (ident : Ident) → AreSound old before → AreWhole new.caps new.contents after → new.caps ≡ old.caps → standing_in old.contents.issued ident ≡ Live → MayBeLocked old.contents ident → residents_of new.contents ≡ with_lock ident true (residents_of old.contents) → KeepsButCounts old.contents new.contents → AreSound new after
locked_sound old new before after ident sound whole caps live may locked kept =
    let c = old.contents in
    let within = within_if_limited old.caps c before sound.whole sound.limited in
    let held = (live_iff c sound.whole.one.sound ident).0 live in
    let r = held.0 in
    let loaded : resident_as c ident ≡ Some r = subst (λ i. resident_as c i ≡ Some r) held.2 (resident_loaded c r held.1) in
    let room : (kernel : KernelNo) → r.locked ≡ false → owner (seen c) r.name ≡ Some kernel → locked_by (seen c) (residents_of c) kernel r.ident.kind < limit_of (seen c) kernel r.ident.kind
    = λ kernel free owned. subst (λ (i : Ident). locked_by (seen c) (residents_of c) kernel i.kind < limit_of (seen c) kernel i.kind) (sym held.2) (may r kernel loaded free owned) in
    let stays = within_locked (seen c) (residents_of c) within r (residents_apart old.caps c before sound.whole) (one_each c sound.whole.one) held.1 room in
    stays_sound old new before after sound whole caps (kept.shows None []) (subst (AreWithin (seen c)) (sym (locked ∙ ap (λ i. with_lock i true (residents_of c)) (sym held.2))) stays)

-- as a lock ends
pub unlocked_sound : (old new : Held) (before after : List (Ident × Node)) (ident : Ident) → AreSound old before → AreWhole new.caps new.contents after → new.caps ≡ old.caps → standing_in old.contents.issued ident ≡ Live → residents_of new.contents ≡ with_lock ident false (residents_of old.contents) → KeepsButCounts old.contents new.contents → AreSound new after
unlocked_sound old new before after ident sound whole caps live unlocked kept =
    let c = old.contents in
    let within = within_if_limited old.caps c before sound.whole sound.limited in
    let held = (live_iff c sound.whole.one.sound ident).0 live in
    let stays = within_unlocked (seen c) (residents_of c) within held.0 (residents_apart old.caps c before sound.whole) (one_each c sound.whole.one) held.1 in
    stays_sound old new before after sound whole caps (kept.shows None []) (subst (AreWithin (seen c)) (sym (unlocked ∙ ap (λ i. with_lock i false (residents_of c)) (sym held.2))) stays)

-- as one comes, which isn't locked
pub loaded_sound : (old new : Held) (before after : List (Ident × Node)) (ident : Ident) (name : Name) → AreSound old before → AreWhole new.caps new.contents after → new.caps ≡ old.caps → seen new.contents ≡ seen old.contents → residents_of new.contents ≡ with_loaded ident name (residents_of old.contents) → AreSound new after
loaded_sound old new before after ident name sound whole caps shows loaded =
    let within = within_if_limited old.caps old.contents before sound.whole sound.limited in
    stays_sound old new before after sound whole caps shows (subst (AreWithin (seen old.contents)) (sym loaded) (within_loaded (seen old.contents) (residents_of old.contents) within ident name))
