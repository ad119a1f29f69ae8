-- What a lock of a descriptor, or its end, leaves, once it is counted.
use Rattle.std.proofs.Common.{◌≡◌, ℕ, ◌+◌, Bool, true, false, List, Option, Some, refl, sym, ◌∙◌, ap, subst, arith}
use Rattle.cache_ident.specs.declared.idents.Ident.{Ident}
use Rattle.cache_ident.specs.declared.idents.Kind.{Kind}
use Rattle.cache_ident.specs.declared.idents.Kind.TheVariants as kind
use Rattle.cache_ident.specs.declared.names.Caps.{Caps}
use Rattle.cache_ident.specs.declared.names.KernelNo.{KernelNo}
use Rattle.cache_ident.specs.declared.names.Name.{Name}
use Rattle.cache_ident.specs.declared.names.Name.TheVariants as name
use Rattle.cache_ident.specs.Residents.{Resident, with_lock}
use Rattle.depend_lists.specs.declared.nodes.Node.{Node}
use Rattle.desc_parents.specs.flat_state.specs.Dependence.{owner}
use Rattle.desc_parents.specs.run_journal.specs.Groups.{ArePairsOf}
use Rattle.desc_parents.specs.run_journal.specs.Legal.{locked_by, AreGood}
use Rattle.desc_parents.specs.kernel_cache.specs.declared.KernelRec.{KernelRec}
use Rattle.desc_parents.specs.resident_pairs.proofs.Staying.{lock_keeps}
use Rattle.desc_parents.specs.journal_laws.specs.Leaving.{AreApart}
use Rattle.desc_parents.specs.group_laws.specs.Leaving.{lock_of}
use Rattle.desc_parents.specs.group_laws.proofs.LockCounts.{locks_locked, locks_unlocked}
use Rattle.desc_parents.specs.group_laws.proofs.StayingGood.{good_locked}
use Rattle.desc_parents.specs.desc_stores.specs.declared.items.Item.TheVariants as item
use Rattle.desc_parents.specs.desc_stores.specs.Changes.{relocked, relocked_in, room_of, KeepsContents}
use Rattle.desc_parents.specs.desc_stores.specs.Contents.{content_of, resident_as, residents_of, Contents}
use Rattle.desc_parents.specs.desc_stores.specs.Sound.{AreOwned, IsExactlyOne}
use Rattle.desc_parents.specs.shown_state.proofs.MoveLemmas.{alike_locking}
use Rattle.desc_parents.specs.store_residents.specs.Slots.{KeepsSlots}
use Rattle.desc_parents.specs.store_residents.proofs.KindLemmas.{at_as}
use Rattle.desc_parents.specs.store_residents.proofs.ResidentLemmas.{loaded_resident, serials_rise}
use Rattle.desc_parents.specs.store_residents.proofs.StayLemmas.{slots-locking}
use Rattle.desc_parents.specs.Seen.{seen}
use Rattle.desc_groups.specs.Moves.{but_for_counts, counted_down, counted_up, IsPutKernel, KeepsButCounts}
use Rattle.desc_groups.specs.Whole.{AreWhole, StaysWhole}
use Rattle.desc_groups.proofs.CountLemmas.{counted_less, counted_more}
use Rattle.desc_groups.proofs.ShowLemmas.{but_counts_onward, kept_but_counts, put_but_counts, put_slots, seen_kept, whole_moved, AreCounted}

-- identifiers of which each has a later serial than those before it are apart
pub residents_apart : (c : Contents) → IsExactlyOne c → AreApart (residents_of c)
residents_apart c one i j d lower within same =
    let rise = serials_rise c one.sound i j d lower within in
    absurd (omega (arith, rise, ap (λ (ident : Ident). ident.serial) same))

-- a lock changes no more than itself
room_relocked : (c : Contents) (of : Kind) (ident : Ident) (on : Bool) → room_of (relocked_in of c ident on) ≡ room_of c
room_relocked c kind.Kernel ident on = refl
room_relocked c kind.Space ident on = refl
room_relocked c kind.Thread ident on = refl
room_relocked c kind.Mapping ident on = refl

spare_relocked : (c : Contents) (of : Kind) (ident : Ident) (on : Bool) → (relocked_in of c ident on).spare ≡ c.spare
spare_relocked c kind.Kernel ident on = refl
spare_relocked c kind.Space ident on = refl
spare_relocked c kind.Thread ident on = refl
spare_relocked c kind.Mapping ident on = refl

issued_relocked : (c : Contents) (of : Kind) (ident : Ident) (on : Bool) → (relocked_in of c ident on).issued ≡ c.issued
issued_relocked c kind.Kernel ident on = refl
issued_relocked c kind.Space ident on = refl
issued_relocked c kind.Thread ident on = refl
issued_relocked c kind.Mapping ident on = refl

owned_relocked : (c : Contents) (owner_of : Name → Option KernelNo) (of : Kind) (ident : Ident) (on : Bool) → AreOwned owner_of c → AreOwned owner_of (relocked_in of c ident on)
owned_relocked c owner_of kind.Kernel ident on owned = record { kernels = owned.kernels; spaces = owned.spaces; threads = owned.threads; rows = owned.rows }
owned_relocked c owner_of kind.Space ident on owned = record { kernels = owned.kernels; spaces = owned.spaces; threads = owned.threads; rows = owned.rows }
owned_relocked c owner_of kind.Thread ident on owned = record { kernels = owned.kernels; spaces = owned.spaces; threads = owned.threads; rows = owned.rows }
owned_relocked c owner_of kind.Mapping ident on owned = record { kernels = owned.kernels; spaces = owned.spaces; threads = owned.threads; rows = owned.rows }

module _ (old mid new : Contents) (ident : Ident) (on : Bool) (keeps : KeepsContents old mid) (residents : residents_of mid ≡ with_lock ident on (residents_of old)) (is : mid ≡ relocked old ident on) (was put : KernelRec) (there : content_of mid (name.Kernel was.no) ≡ Some (item.Kernel was)) (like : but_for_counts (item.Kernel put) ≡ but_for_counts (item.Kernel was)) (puts : IsPutKernel mid new put) where
  pub relocked_residents : residents_of new ≡ with_lock ident on (residents_of old)
  relocked_residents = puts.residents ∙ residents

  pub relocked_issued : new.issued ≡ old.issued
  relocked_issued = ap (λ (c : Contents). c.issued) puts.only ∙ ap (λ (c : Contents). c.issued) is ∙ issued_relocked old ident.kind ident on

  pub relocked_kept : KeepsButCounts old new
  relocked_kept =
      let room : room_of mid ≡ room_of old = ap room_of is ∙ room_relocked old ident.kind ident on in
      let spare : mid.spare ≡ old.spare = ap (λ (c : Contents). c.spare) is ∙ spare_relocked old ident.kind ident on in
      but_counts_onward old mid new (kept_but_counts old mid keeps (alike_locking old mid ident on keeps is) room spare) (put_but_counts mid new was put there like puts)

  -- what was whole is whole, where the counts are right
  relocked_whole : IsExactlyOne new → (caps : Caps) (pairs : List (Ident × Node)) → AreWhole caps old pairs → AreCounted (seen old) (residents_of new) new → AreWhole caps new pairs
  relocked_whole one caps pairs whole counted =
      let same = seen_kept old new relocked_kept in
      let slots : KeepsSlots old new = λ of. put_slots mid new put puts of ∙ slots-locking old mid ident on is of in
      let pairs_are = subst (λ (rs : List Resident). ArePairsOf (seen old) rs pairs) (sym relocked_residents) (lock_keeps (seen old) (residents_of old) pairs ident on whole.pairs_are) in
      let good = subst (λ (rs : List Resident). AreGood (seen old) rs) (sym relocked_residents) (good_locked (seen old) (residents_of old) ident on whole.good) in
      let owned = puts.owned (owner (seen old)) (subst (λ (c : Contents). AreOwned (owner (seen old)) c) (sym is) (owned_relocked old (owner (seen old)) ident.kind ident on whole.owned)) in
      whole_moved old new caps pairs pairs whole one same slots pairs_are good owned counted

module _ (old mid new : Contents) (ident : Ident) (keeps : KeepsContents old mid) (r : Resident) (loaded : resident_as old ident ≡ Some r) (was : KernelRec) (there : content_of mid (name.Kernel was.no) ≡ Some (item.Kernel was)) (owned : owner (seen old) r.name ≡ Some was.no) where
  own : r.ident ≡ ident
  own = (at_as old ident r loaded).1

  -- a lock that comes
  pub locked_whole : residents_of mid ≡ with_lock ident true (residents_of old) → mid ≡ relocked old ident true → r.locked ≡ false → IsPutKernel mid new (counted_up ident.kind was) → IsExactlyOne new → StaysWhole old new
  locked_whole residents is unlocked puts one caps pairs whole = relocked_whole old mid new ident true keeps residents is was (counted_up ident.kind was) there refl puts one caps pairs whole counted
    where
      step : (k : KernelNo) (of : Kind) → locked_by (seen old) (residents_of mid) k of ≡ locked_by (seen old) (residents_of old) k of + lock_of (seen old) (record r { locked = true }) k of
      step k of =
          ap (λ (rs : List Resident). locked_by (seen old) rs k of) residents
          ∙ ap (λ (i : Ident). locked_by (seen old) (with_lock i true (residents_of old)) k of) (sym own)
          ∙ locks_locked (seen old) (residents_of old) k of r (residents_apart old whole.one) (loaded_resident old whole.one.sound ident r loaded) unlocked

      counted : AreCounted (seen old) (residents_of new) new
      counted = counted_more (seen old) old mid new whole.counted keeps (record r { locked = true }) refl was there owned step (subst (λ (i : Ident). IsPutKernel mid new (counted_up i.kind was)) (sym own) puts)

  -- a lock that ends
  pub unlocked_step : (caps : Caps) (pairs : List (Ident × Node)) → AreWhole caps old pairs → residents_of mid ≡ with_lock ident false (residents_of old) → r.locked ≡ true → (k : KernelNo) (of : Kind) → locked_by (seen old) (residents_of old) k of ≡ locked_by (seen old) (residents_of mid) k of + lock_of (seen old) r k of
  unlocked_step caps pairs whole residents locked k of =
      locks_unlocked (seen old) (residents_of old) k of r (residents_apart old whole.one) (loaded_resident old whole.one.sound ident r loaded) locked
      ∙ ap (λ (n : ℕ). n + lock_of (seen old) r k of) (ap (λ (i : Ident). locked_by (seen old) (with_lock i false (residents_of old)) k of) own ∙ ap (λ (rs : List Resident). locked_by (seen old) rs k of) (sym residents))

  pub unlocked_whole : residents_of mid ≡ with_lock ident false (residents_of old) → mid ≡ relocked old ident false → r.locked ≡ true → IsPutKernel mid new (counted_down ident.kind was) → IsExactlyOne new → StaysWhole old new
  unlocked_whole residents is locked puts one caps pairs whole = relocked_whole old mid new ident false keeps residents is was (counted_down ident.kind was) there refl puts one caps pairs whole counted
    where
      counted : AreCounted (seen old) (residents_of new) new
      counted = counted_less (seen old) old mid new whole.counted keeps r locked was there owned (unlocked_step caps pairs whole residents locked) (subst (λ (i : Ident). IsPutKernel mid new (counted_down i.kind was)) (sym own) puts)
