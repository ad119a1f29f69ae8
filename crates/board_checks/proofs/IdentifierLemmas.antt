-- What is loaded with an identifier.
use Rattle.std.proofs.Common.{◌≡◌, Bor, Option, Some, None, refl, sym, ◌∙◌, ap}
use Rattle.std.specs.Prelude.{if◌then◌else◌}
use Rattle.std.specs.Option.{option_and_then, option_map, option_or}
use Rattle.cache_ident.specs.declared.idents.Ident.{Ident}
use Rattle.cache_ident.specs.declared.idents.Kind.{Kind}
use Rattle.cache_ident.specs.declared.idents.Kind.TheVariants as kind
use Rattle.cache_ident.specs.declared.idents.Standing.{Standing}
use Rattle.cache_ident.specs.declared.idents.Standing.TheVariants.{Live}
use Rattle.cache_ident.specs.declared.names.Name.{Name}
use Rattle.cache_ident.specs.Names.{kind_of}
use Rattle.cache_ident.specs.Residents.{Resident, IsResident}
use Rattle.cache_ident.specs.Rolls.{standing_in}
use Rattle.slot_cache.specs.declared.loaded.Loaded.{Loaded}
use Rattle.slot_cache.specs.Rows.{row_name}
use Rattle.kernel_cache.specs.declared.KernelRec.{KernelRec}
use Rattle.kernel_cache.specs.Kernels as kernel_rec
use Rattle.space_cache.specs.declared.SpaceRec.{SpaceRec}
use Rattle.space_cache.specs.Spaces as space_rec
use Rattle.thread_cache.specs.declared.ThreadRec.{ThreadRec}
use Rattle.thread_cache.specs.Threads as thread_rec
use Rattle.kind_store.specs.Rolls.{loaded_as}
use Rattle.desc_tables.specs.run_journal.specs.Legal.{is_kind}
use Rattle.desc_tables.specs.desc_stores.specs.declared.items.Item.{Item}
use Rattle.desc_tables.specs.desc_stores.specs.declared.items.Item.TheVariants as item
use Rattle.desc_tables.specs.desc_stores.specs.declared.items.ItemRef.{ItemRef}
use Rattle.desc_tables.specs.desc_stores.specs.declared.items.ItemRef.TheVariants as ref
use Rattle.desc_tables.specs.desc_stores.specs.Contents.{item_as, item_in, resident_as, resident_in, resident_of, residents_of, Contents}
use Rattle.desc_tables.specs.desc_stores.specs.Items.{name_of, shown}
use Rattle.desc_tables.specs.desc_stores.specs.Sound.{IsExactlyOne}
use Rattle.desc_tables.specs.desc_stores.proofs.KindLemmas.{own_ident}
use Rattle.desc_tables.specs.shown_state.specs.Shown.{flat_thread, thread_of}
use Rattle.desc_tables.specs.store_residents.proofs.ContentLemmas.{loaded_item}
use Rattle.desc_tables.specs.store_residents.proofs.KindLemmas.{live_loaded, loaded_live}
use Rattle.desc_tables.specs.store_residents.proofs.ResidentLemmas.{loaded_resident}
use Rattle.desc_tables.specs.desc_groups.proofs.OwnerLemmas.{found_loaded}
use Rattle.board_ops.specs.flat_state.specs.declared.records.FlatThread.{FlatThread}
use Rattle.board_ops.specs.declared.refusals.Refused.TheVariants as why
use Rattle.board_checks.specs.Refusals.{not_completable, not_trapped, wait_empty}
use Rattle.board_checks.specs.Identifiers.{gone_by, kernel_as, kernel_number, name_as, not_live, space_as, space_number, thread_as, wrong_kind}

module _ (c : Contents) (ident : Ident) where
  -- an identifier is refused as it stands
  pub gone_as_it_stands : (standing : Standing) → standing ≡ standing_in c.issued ident → gone_by ident standing ≡ not_live c ident
  unfolding not_live
  gone_as_it_stands standing is = ap (gone_by ident) is

  -- what is loaded with it is of its kind
  pub item_kind : (it : Item) → item_as c ident ≡ Some it → ident.kind ≡ kind_of (name_of it)
  item_kind it is = by ident.kind is
    where
      of : {T : Type 0} (wrap : T → Item) (k : Kind) → ((v : T) → k ≡ kind_of (name_of (wrap v))) → (o : Option (Loaded T)) → option_map (λ (l : Loaded T). wrap l.value) o ≡ Some it → k ≡ kind_of (name_of it)
      of wrap k its None none = absurd (cc)
      of wrap k its (Some l) some =
          let same : wrap l.value ≡ it = cc in
          its l.value ∙ ap (λ (i : Item). kind_of (name_of i)) same

      by : (k : Kind) → item_in c k ident ≡ Some it → k ≡ kind_of (name_of it)
      by kind.Kernel = of item.Kernel kind.Kernel (λ v. refl) (loaded_as c.kernels.cells ident)
      by kind.Space = of item.Space kind.Space (λ v. refl) (loaded_as c.spaces.cells ident)
      by kind.Thread = of item.Thread kind.Thread (λ v. refl) (loaded_as c.threads.cells ident)
      by kind.Mapping = of item.Mapping kind.Mapping (λ v. refl) (loaded_as c.rows.kept.cells ident)

  -- so it is refused where that is of another kind
  pub kind_tested : (it : Item) → item_as c ident ≡ Some it → (of : Kind) → (if is_kind (kind_of (name_of it)) of then None else Some (why.WrongKind ident)) ≡ wrong_kind of ident
  unfolding wrong_kind
  kind_tested it is of = ap (λ (k : Kind). if is_kind k of then None else Some (why.WrongKind ident)) (sym (item_kind it is))

  -- what isn't of a kind is refused as one of it
  pub not_kernel : (r : ItemRef) → item_as c ident ≡ Some (shown r) → ((kernel : Bor KernelRec) → r ≡ ref.Kernel kernel → ⊥) → Some (why.WrongKind ident) ≡ wrong_kind kind.Kernel ident
  not_kernel (ref.Kernel kernel) is never = absurd (never kernel refl)
  not_kernel (ref.Space space) is never = kind_tested (item.Space space.now) is kind.Kernel
  not_kernel (ref.Thread thread) is never = kind_tested (item.Thread thread.now) is kind.Kernel
  not_kernel (ref.Mapping row) is never = kind_tested (item.Mapping row.now) is kind.Kernel

  pub not_space : (r : ItemRef) → item_as c ident ≡ Some (shown r) → ((space : Bor SpaceRec) → r ≡ ref.Space space → ⊥) → Some (why.WrongKind ident) ≡ wrong_kind kind.Space ident
  not_space (ref.Kernel kernel) is never = kind_tested (item.Kernel kernel.now) is kind.Space
  not_space (ref.Space space) is never = absurd (never space refl)
  not_space (ref.Thread thread) is never = kind_tested (item.Thread thread.now) is kind.Space
  not_space (ref.Mapping row) is never = kind_tested (item.Mapping row.now) is kind.Space

  pub not_thread : (r : ItemRef) → item_as c ident ≡ Some (shown r) → ((thread : Bor ThreadRec) → r ≡ ref.Thread thread → ⊥) → Some (why.WrongKind ident) ≡ wrong_kind kind.Thread ident
  not_thread (ref.Kernel kernel) is never = kind_tested (item.Kernel kernel.now) is kind.Thread
  not_thread (ref.Space space) is never = kind_tested (item.Space space.now) is kind.Thread
  not_thread (ref.Thread thread) is never = absurd (never thread refl)
  not_thread (ref.Mapping row) is never = kind_tested (item.Mapping row.now) is kind.Thread

  -- and it stands for that
  pub kernel_is : (kernel : KernelRec) → item_as c ident ≡ Some (item.Kernel kernel) → kernel_as c ident ≡ Some kernel.no
  unfolding kernel_as
  kernel_is kernel is = ap kernel_number is

  pub space_is : (space : SpaceRec) → item_as c ident ≡ Some (item.Space space) → space_as c ident ≡ Some space.no
  unfolding space_as
  space_is space is = ap space_number is

  -- a thread's call is tested
  pub call_tested : (thread : ThreadRec) → item_as c ident ≡ Some (item.Thread thread) → option_or (not_trapped (flat_thread thread)) (wait_empty (flat_thread thread)) ≡ not_completable c ident
  unfolding not_completable thread_as
  call_tested thread is = ap (λ (o : Option Item). option_and_then (λ (t : FlatThread). option_or (not_trapped t) (wait_empty t)) (thread_of o)) (sym is)

  pub thread_is : (thread : ThreadRec) → item_as c ident ≡ Some (item.Thread thread) → thread_as c ident ≡ Some (flat_thread thread)
  unfolding thread_as
  thread_is thread is = ap thread_of is

  pub name_is : (it : Item) → item_as c ident ≡ Some it → name_as c ident ≡ Some (name_of it)
  unfolding name_as
  name_is it is = ap (option_map name_of) is

  -- what has it is resident
  some_as : (it : Item) → item_as c ident ≡ Some it → (r : Resident) × (resident_as c ident ≡ Some r)
  some_as it is = by ident.kind is
    where
      of : {T : Type 0} (called : T → Name) (wrap : T → Item) (o : Option (Loaded T)) → option_map (λ (l : Loaded T). wrap l.value) o ≡ Some it → (r : Resident) × (option_map (resident_of called) o ≡ Some r)
      of called wrap None is = absurd (cc)
      of called wrap (Some l) is = (resident_of called l, refl)

      by : (k : Kind) → item_in c k ident ≡ Some it → (r : Resident) × (resident_in c k ident ≡ Some r)
      by kind.Kernel = of kernel_rec.name_of item.Kernel (loaded_as c.kernels.cells ident)
      by kind.Space = of space_rec.name_of item.Space (loaded_as c.spaces.cells ident)
      by kind.Thread = of thread_rec.name_of item.Thread (loaded_as c.threads.cells ident)
      by kind.Mapping = of row_name item.Mapping (loaded_as c.rows.kept.cells ident)

  module _ (one : IsExactlyOne c) where
    -- nothing live is missing
    pub live_there : standing_in c.issued ident ≡ Live → None ≡ item_as c ident → ⊥
    live_there live none =
        let r = live_loaded c one.sound ident live in
        let it = loaded_item c one ident r.0 r.1 in
        let some : None ≡ Some it.0 = none ∙ it.1 in
        cc

    module _ (it : Item) (is : item_as c ident ≡ Some it) where
      pub item_resident_as : (r : Resident) × (resident_as c ident ≡ Some r) × (r.name ≡ name_of it)
      item_resident_as = let r = some_as it is in (r.0, r.1, sym (found_loaded c one ident r.0 it r.1 (sym is)).0)

      pub item_resident : IsResident (residents_of c) ident (name_of it)
      item_resident = let r = item_resident_as in (r.0, loaded_resident c one.sound ident r.0 r.1, own_ident c ident r.0 r.1, r.2)

      pub item_live : standing_in c.issued ident ≡ Live
      item_live = let r = some_as it is in loaded_live c one.sound ident r.0 r.1
