-- What a resident takes along that leaves: its lock, and its pairs.
use Rattle.std.proofs.Common.{◌≡◌, ℕ, ◌+◌, ◌<◌, true, false, List, Contains, Some, sym, ◌∙◌, ap, subst, refl, arith}
use Rattle.std.specs.Prelude.{min}
use Rattle.cache_ident.specs.declared.idents.Ident.{Ident}
use Rattle.cache_ident.specs.declared.idents.Kind.{Kind}
use Rattle.cache_ident.specs.declared.idents.Kind.TheVariants as kind
use Rattle.cache_ident.specs.declared.names.Caps.{Caps}
use Rattle.cache_ident.specs.declared.names.KernelNo.{KernelNo}
use Rattle.cache_ident.specs.declared.names.Name.TheVariants as name
use Rattle.cache_ident.specs.Names.{amount_of}
use Rattle.cache_ident.specs.Residents.{without, Resident}
use Rattle.cache_ident.specs.Rolls.{departed}
use Rattle.depend_lists.specs.declared.nodes.Node.{Node}
use Rattle.desc_parents.specs.flat_state.specs.State.{FlatState}
use Rattle.desc_parents.specs.flat_state.specs.Dependence.{owner}
use Rattle.desc_parents.specs.kernel_cache.specs.declared.KernelRec.{KernelRec}
use Rattle.desc_parents.specs.run_journal.specs.Groups.{ArePairsOf, NothingDependsOn}
use Rattle.desc_parents.specs.run_journal.specs.Legal.{locked_by, AreGood}
use Rattle.desc_parents.specs.desc_stores.specs.declared.items.Item.TheVariants as item
use Rattle.desc_parents.specs.desc_stores.specs.Changes.{room_of, IsLeavingIn, IsLeavingOf, KeepsContents}
use Rattle.desc_parents.specs.desc_stores.specs.Contents.{content_of, residents_of, Contents}
use Rattle.desc_parents.specs.desc_stores.specs.Sound.{AreOwned, IsExactlyOne}
use Rattle.desc_parents.specs.group_laws.specs.Leaving.{lock_of}
use Rattle.desc_parents.specs.group_laws.proofs.LockCounts.{locks_left}
use Rattle.desc_parents.specs.group_laws.proofs.StayingGood.{good_left}
use Rattle.desc_parents.specs.shown_state.specs.Shown.{ShowsAlike}
use Rattle.desc_parents.specs.shown_state.proofs.MoveLemmas.{alike_leaving}
use Rattle.desc_parents.specs.store_residents.specs.Slots.{KeepsSlots}
use Rattle.desc_parents.specs.store_residents.proofs.KindLemmas.{at_as}
use Rattle.desc_parents.specs.store_residents.proofs.ResidentLemmas.{one_each}
use Rattle.desc_parents.specs.store_residents.proofs.StayLemmas.{slots-kept, slots-leaving}
use Rattle.desc_parents.specs.Seen.{seen, HasPlainRows}
use Rattle.desc_groups.specs.Moves.{counted_down, IsPutKernel, KeepsButCounts}
use Rattle.desc_groups.specs.Whole.{AreWhole, IsWhole}
use Rattle.desc_groups.proofs.CountLemmas.{counted_less, counted_some, lock_none}
use Rattle.desc_groups.proofs.LockLemmas.{residents_apart}
use Rattle.desc_groups.proofs.OwnedLemmas.{HasOwner}
use Rattle.desc_groups.proofs.ShowLemmas.{but_counts_onward, counted_kept, kept_but_counts, put_but_counts, put_slots, seen_alike, seen_kept, AreCounted}

-- the room of the contents is as it was
leaving_room : (old new : Contents) (ident : Ident) (own : KernelNo) → IsLeavingOf old new ident own → (room_of new ≡ room_of old) × (new.spare ≡ old.spare)
leaving_room old new ident own is = by ident.kind is
  where
    by : (k : Kind) → IsLeavingIn k old new ident own → (room_of new ≡ room_of old) × (new.spare ≡ old.spare)
    by kind.Kernel is = (ap room_of is.1 ∙ ap (λ (n : ℕ). min (min n old.spaces.room) (min old.threads.room old.rows.room)) is.0.room, ap (λ (c : Contents). c.spare) is.1)
    by kind.Space is = (ap room_of is.1 ∙ ap (λ (n : ℕ). min (min old.kernels.room n) (min old.threads.room old.rows.room)) is.0.room, ap (λ (c : Contents). c.spare) is.1)
    by kind.Thread is = (ap room_of is.1 ∙ ap (λ (n : ℕ). min (min old.kernels.room old.spaces.room) (min n old.rows.room)) is.0.room, ap (λ (c : Contents). c.spare) is.1)
    by kind.Mapping is = (ap room_of is.1, ap (λ (c : Contents). c.spare) is.1)

-- what was taken out of the stores, of which the owner still counts the lock
pub record IsDisplaced (old mid : Contents) (ident : Ident) (own : KernelNo) (at : ℕ) : Type 0 where
  pub contents : KeepsContents old mid
  pub residents : residents_of mid ≡ without ident (residents_of old)
  pub issued : mid.issued ≡ departed old.issued ident at
  pub owned : AreOwned (owner (seen old)) mid
  pub after : IsLeavingOf old mid ident own

-- an identifier left at a place of the journal, and its lock with it
pub record IsTakenOut (old new : Contents) (ident : Ident) (at : ℕ) : Type 0 where
  pub same : seen new ≡ seen old
  pub slots : KeepsSlots old new
  pub residents : residents_of new ≡ without ident (residents_of old)
  pub issued : new.issued ≡ departed old.issued ident at
  pub owned : AreOwned (owner (seen old)) new
  pub counted : AreCounted (seen old) (residents_of new) new
  pub kept : KeepsButCounts old new

module _ (old : Contents) (whole : IsWhole old) (ident : Ident) (own : KernelNo) (has : HasOwner old ident own) (mid : Contents) (at : ℕ) (out : IsDisplaced old mid ident own at) where
  abbrev r : Resident
  r = has.resident

  abbrev was : KernelRec
  was = has.was

  its : r.ident ≡ ident
  its = (at_as old ident r has.loaded).1

  -- as many are locked as were, but for it
  step : (kernel : KernelNo) (of : Kind) → locked_by (seen old) (residents_of old) kernel of ≡ locked_by (seen old) (residents_of mid) kernel of + lock_of (seen old) r kernel of
  step kernel of =
      let left = ap (λ (i : Ident). without i (residents_of old)) its ∙ sym out.residents in
      locks_left (seen old) (residents_of old) kernel of r (residents_apart old whole.2.one) has.there
      ∙ ap (λ (rs : List Resident). locked_by (seen old) rs kernel of + lock_of (seen old) r kernel of) left

  pub owner_kept : content_of mid (name.Kernel own) ≡ Some (item.Kernel was)
  owner_kept = out.contents (name.Kernel own) ∙ has.content

  kept_by_number : content_of mid (name.Kernel was.no) ≡ Some (item.Kernel was)
  kept_by_number = out.contents (name.Kernel was.no) ∙ has.its_content

  -- where it is locked, its owner has counted it
  pub owner_counts : r.locked ≡ true → 0 < amount_of was.locked ident.kind
  owner_counts locked =
      let after = locked_by (seen old) (residents_of mid) was.no r.ident.kind in
      let some = counted_some (seen old) old mid whole.2.counted out.contents r was after kept_by_number has.owned locked (step was.no r.ident.kind) in
      subst (λ (i : Ident). 0 < amount_of was.locked i.kind) its some

  alike : ShowsAlike old mid
  alike = alike_leaving old mid ident own out.contents out.after

  mid_kept : KeepsButCounts old mid
  mid_kept = let room = leaving_room old mid ident own out.after in kept_but_counts old mid out.contents alike room.0 room.1

  pub taken_unlocked : r.locked ≡ false → IsTakenOut old mid ident at
  taken_unlocked unlocked = record {
    same = seen_alike old mid alike;
    slots = slots-leaving old mid ident own out.after;
    residents = out.residents;
    issued = out.issued;
    owned = out.owned;
    counted = counted_kept (seen old) old mid whole.2.counted out.contents (λ kernel of. (let all = step kernel of in let none = lock_none (seen old) r unlocked kernel of in omega arith));
    kept = mid_kept;
  }

  pub taken_locked : r.locked ≡ true → (new : Contents) → IsPutKernel mid new (counted_down ident.kind was) → IsTakenOut old new ident at
  taken_locked locked new puts = record {
    same = seen_kept old new kept;
    slots = λ of. put_slots mid new (counted_down ident.kind was) puts of ∙ slots-leaving old mid ident own out.after of;
    residents = puts.residents ∙ out.residents;
    issued = ap (λ (c : Contents). c.issued) puts.only ∙ out.issued;
    owned = puts.owned (owner (seen old)) out.owned;
    counted = counted_less (seen old) old mid new whole.2.counted out.contents r locked was kept_by_number has.owned step (subst (λ (i : Ident). IsPutKernel mid new (counted_down i.kind was)) (sym its) puts);
    kept = kept;
  }
    where
      kept : KeepsButCounts old new
      kept = but_counts_onward old mid new mid_kept (put_but_counts mid new was (counted_down ident.kind was) kept_by_number refl puts)

-- so what is whole stays so with the pairs of what is left
pub whole_left : (caps : Caps) (old new : Contents) (before after : List (Ident × Node)) → AreWhole caps old before → (r : Resident) → Contains (residents_of old) r → NothingDependsOn (seen old) (residents_of old) r.name
    → IsExactlyOne new → seen new ≡ seen old → KeepsSlots old new → residents_of new ≡ without r.ident (residents_of old) → AreOwned (owner (seen new)) new → AreCounted (seen new) (residents_of new) new
    → ArePairsOf (seen old) (without r.ident (residents_of old)) after → AreWhole caps new after
whole_left caps old new _ after whole r there last one same slots residents owned counted pairs =
    let good = good_left (seen old) (residents_of old) r (one_each old whole.one) whole.good there last in
    record {
      one = one;
      sized = slots-kept caps old new whole.sized slots;
      rows = subst HasPlainRows (sym same) whole.rows;
      pairs_are = subst (λ (s : FlatState). ArePairsOf s (residents_of new) after) (sym same) (subst (λ (rs : List Resident). ArePairsOf (seen old) rs after) (sym residents) pairs);
      good = subst (λ (s : FlatState). AreGood s (residents_of new)) (sym same) (subst (λ (rs : List Resident). AreGood (seen old) rs) (sym residents) good);
      owned = owned;
      counted = counted;
    }
