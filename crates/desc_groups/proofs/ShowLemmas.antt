-- What contents show, and what stays whole, once something moved or a kernel's counts changed.
use Rattle.std.proofs.Common.{◌≡◌, ◌≢◌, Bool, true, false, cond, List, [], Option, Some, None, refl, sym, ◌∙◌, ap, subst}
use Rattle.std.specs.Option.{option_map}
use Rattle.cache_ident.specs.declared.idents.Ident.{Ident}
use Rattle.cache_ident.specs.declared.idents.Kind.{Kind}
use Rattle.cache_ident.specs.declared.names.Caps.{Caps}
use Rattle.cache_ident.specs.declared.names.KernelNo.{KernelNo}
use Rattle.cache_ident.specs.declared.names.Name.{Name}
use Rattle.cache_ident.specs.declared.names.Name.TheVariants as name
use Rattle.cache_ident.specs.Names.{amount_of}
use Rattle.cache_ident.specs.Residents.{Resident}
use Rattle.depend_lists.specs.declared.nodes.Node.{Node}
use Rattle.desc_parents.specs.flat_state.specs.declared.records.FlatKernel.{FlatKernel}
use Rattle.desc_parents.specs.flat_state.specs.State.{FlatState}
use Rattle.desc_parents.specs.flat_state.specs.Dependence.{owner}
use Rattle.desc_parents.specs.run_journal.specs.Groups.{ArePairsOf}
use Rattle.desc_parents.specs.run_journal.specs.Legal.{locked_by, AreGood}
use Rattle.desc_parents.specs.kernel_cache.specs.declared.KernelRec.{KernelRec}
use Rattle.desc_parents.specs.kind_store.specs.Changes.{is_name}
use Rattle.desc_parents.specs.owner_shelf.proofs.NameLemmas.{eq_same, same_by_eq}
use Rattle.desc_parents.specs.desc_stores.specs.declared.items.Item.{Item}
use Rattle.desc_parents.specs.desc_stores.specs.declared.items.Item.TheVariants as item
use Rattle.desc_parents.specs.desc_stores.specs.Changes.{room_of, HasContent, KeepsContents}
use Rattle.desc_parents.specs.desc_stores.specs.Contents.{content_of, residents_of, Contents}
use Rattle.desc_parents.specs.desc_stores.specs.Items.{name_of}
use Rattle.desc_parents.specs.desc_stores.specs.Sound.{AreOwned, IsExactlyOne}
use Rattle.desc_parents.specs.shown_state.specs.Shown.{flat_kernel, kernel_of, row_of_item, space_of, thread_of, ShowsAlike}
use Rattle.desc_parents.specs.shown_state.proofs.AlikeLemmas.{shown_alike}
use Rattle.desc_parents.specs.shown_state.proofs.ContentLemmas.{item_has_name}
use Rattle.desc_parents.specs.shown_state.proofs.MoveLemmas.{names_in_kernels}
use Rattle.desc_parents.specs.store_residents.specs.Slots.{KeepsSlots}
use Rattle.desc_parents.specs.store_residents.proofs.StayLemmas.{slots-is, slots-kept, slots-kernels}
use Rattle.desc_parents.specs.Seen.{seen, HasPlainRows}
use Rattle.desc_groups.specs.Moves.{but_for_counts, IsPutKernel, KeepsButCounts}
use Rattle.desc_groups.specs.Whole.{AreWhole}

-- each kernel's counts of locks, as that state and those residents have them
abbrev pub AreCounted : FlatState → List Resident → Contents → Type 0
AreCounted s rs c = (n : Name) (kernel : KernelRec) → content_of c n ≡ Some (item.Kernel kernel) → (kind : Kind) → amount_of kernel.locked kind ≡ locked_by s rs kernel.no kind

pub but_counts_itself : (c : Contents) → KeepsButCounts c c
but_counts_itself c = record { contents = λ n. refl; shows = λ machine memory. refl; room = refl; spare = refl }

pub but_counts_onward : (a b c : Contents) → KeepsButCounts a b → KeepsButCounts b c → KeepsButCounts a c
but_counts_onward a b c first second = record {
  contents = λ n. second.contents n ∙ first.contents n;
  shows = λ machine memory. second.shows machine memory ∙ first.shows machine memory;
  room = second.room ∙ first.room;
  spare = second.spare ∙ first.spare;
}

module _ (old new : Contents) where
  -- what shows alike is seen alike
  pub seen_alike : ShowsAlike old new → seen new ≡ seen old
  seen_alike alike = shown_alike None [] old new alike

  pub seen_kept : KeepsButCounts old new → seen new ≡ seen old
  seen_kept kept = kept.shows None []

  -- where no content changed, none did but for counts
  pub kept_but_counts : KeepsContents old new → ShowsAlike old new → room_of new ≡ room_of old → new.spare ≡ old.spare → KeepsButCounts old new
  kept_but_counts keeps alike room spare = record {
    contents = λ n. ap (option_map but_for_counts) (keeps n);
    shows = λ machine memory. shown_alike machine memory old new alike;
    room = room;
    spare = spare;
  }

  module _ (was put : KernelRec) (there : content_of old (name.Kernel was.no) ≡ Some (item.Kernel was)) (like : but_for_counts (item.Kernel put) ≡ but_for_counts (item.Kernel was)) (puts : IsPutKernel old new put) where
    same_number : put.no ≡ was.no
    same_number = ap number like
      where
        number : Item → KernelNo
        number (item.Kernel kernel) = kernel.no
        number _ = was.no

    -- what a name shows by a function that doesn't read counts
    puts_alike : {Y : Type 0} (f : Option Item → Y) → f (Some (item.Kernel put)) ≡ f (Some (item.Kernel was)) → (n : Name) → f (content_of new n) ≡ f (content_of old n)
    puts_alike f same n = ap f (puts.contents n) ∙ by (is_name (name_of (item.Kernel put)) n) refl
      where
        by : (b : Bool) → is_name (name_of (item.Kernel put)) n ≡ b → f (cond b (Some (item.Kernel put)) (content_of old n)) ≡ f (content_of old n)
        by true is =
            let named : name.Kernel was.no ≡ n = ap name.Kernel (sym same_number) ∙ same_by_eq (name.Kernel put.no) n is in
            same ∙ ap f (sym there) ∙ ap (λ (m : Name). f (content_of old m)) named
        by false is = refl

    shows_flat : flat_kernel put ≡ flat_kernel was
    shows_flat = ap flat like
      where
        flat : Item → FlatKernel
        flat (item.Kernel kernel) = flat_kernel kernel
        flat _ = flat_kernel was

    -- a kernel that differs in its counts alone shows what it showed
    pub put_alike : ShowsAlike old new
    put_alike = record {
      names = names_in_kernels old new puts.only;
      kernels = puts_alike kernel_of (ap Some shows_flat);
      spaces = puts_alike space_of refl;
      threads = puts_alike thread_of refl;
      rows = puts_alike row_of_item refl;
    }

    pub put_but_counts : KeepsButCounts old new
    put_but_counts = record {
      contents = puts_alike (option_map but_for_counts) (ap Some like);
      shows = λ machine memory. shown_alike machine memory old new put_alike;
      room = puts.room;
      spare = ap (λ (c : Contents). c.spare) puts.only;
    }

  pub put_slots : (put : KernelRec) → IsPutKernel old new put → KeepsSlots old new
  put_slots put puts = slots-is old (record old { kernels = new.kernels }) new puts.only (slots-kernels old new.kernels old.kernel_count old.issued old.spare puts.slots)

  -- what was whole is whole, where what is seen is the same, and what is loaded, shelved and counted fits it
  pub whole_moved : (caps : Caps) (before after : List (Ident × Node)) → AreWhole caps old before → IsExactlyOne new → seen new ≡ seen old → KeepsSlots old new → ArePairsOf (seen old) (residents_of new) after → AreGood (seen old) (residents_of new) → AreOwned (owner (seen old)) new → AreCounted (seen old) (residents_of new) new → AreWhole caps new after
  whole_moved caps before after whole one same slots pairs good owned counted = record {
    one = one;
    sized = slots-kept caps old new whole.sized slots;
    rows = subst HasPlainRows (sym same) whole.rows;
    pairs_are = subst (λ s. ArePairsOf s (residents_of new) after) (sym same) pairs;
    good = subst (λ s. AreGood s (residents_of new)) (sym same) good;
    owned = subst (λ s. AreOwned (owner s) new) (sym same) owned;
    counted = subst (λ s. AreCounted s (residents_of new) new) (sym same) counted;
  }

-- counts stay right where no content changed and as much is locked
pub counted_kept : (s : FlatState) (old new : Contents) → AreCounted s (residents_of old) old → KeepsContents old new → ((kernel : KernelNo) (kind : Kind) → locked_by s (residents_of new) kernel kind ≡ locked_by s (residents_of old) kernel kind) → AreCounted s (residents_of new) new
counted_kept s old new counted keeps same n kernel there kind = counted n kernel (sym (keeps n) ∙ there) kind ∙ sym (same kernel.no kind)

-- and where a kernel was put with as much as is locked of its own, and of each other kernel as much is locked as was
pub counted_put : (s : FlatState) (old mid new : Contents) (put : KernelRec) → AreCounted s (residents_of old) old → KeepsContents old mid → HasContent mid new (item.Kernel put)
    → ((kind : Kind) → amount_of put.locked kind ≡ locked_by s (residents_of new) put.no kind)
    → ((kernel : KernelNo) → kernel ≢ put.no → (kind : Kind) → locked_by s (residents_of new) kernel kind ≡ locked_by s (residents_of old) kernel kind)
    → AreCounted s (residents_of new) new
counted_put s old mid new put counted keeps contents own others n kernel there kind = by (is_name (name_of (item.Kernel put)) n) refl (sym (contents n) ∙ there)
  where
    by : (b : Bool) → is_name (name_of (item.Kernel put)) n ≡ b → cond b (Some (item.Kernel put)) (content_of mid n) ≡ Some (item.Kernel kernel) → amount_of kernel.locked kind ≡ locked_by s (residents_of new) kernel.no kind
    by true is same =
        let one : put ≡ kernel = cc in
        subst (λ (k : KernelRec). amount_of k.locked kind ≡ locked_by s (residents_of new) k.no kind) one (own kind)
    by false is same =
        let before : content_of old n ≡ Some (item.Kernel kernel) = sym (keeps n) ∙ same in
        let named : name.Kernel kernel.no ≡ n = item_has_name old n (item.Kernel kernel) before in
        let other : kernel.no ≢ put.no = λ same_no. (let passes = eq_same (name.Kernel put.no) n (ap name.Kernel (sym same_no) ∙ named) in absurd (cc)) in
        counted n kernel before kind ∙ sym (others kernel.no other kind)
