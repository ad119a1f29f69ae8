-- What is shown once a descriptor was declared or a row retracted, and what nothing shows.
use Rattle.std.proofs.Common.{◌≡◌, ◌≢◌, ℕ, ◌+◌, Bool, not, cond, List, [], ◌∷◌, ◌++◌, map, filter, filter_map, Contains, Option, Some, None, IsSome, refl, sym, ◌∙◌, ap, subst, inl, inr}
use Rattle.std.specs.List.{cons_option, range_with_len}
use Rattle.std.proofs.lemmas.Bool.{false≢true}
use Rattle.std.proofs.lemmas.List.Elements.{filter_map-append}
use Rattle.cache_ident.specs.declared.names.Caps.{Caps}
use Rattle.cache_ident.specs.declared.names.KernelNo.{KernelNo}
use Rattle.cache_ident.specs.declared.names.Name.{Name}
use Rattle.cache_ident.specs.declared.names.Name.TheVariants as name
use Rattle.cache_ident.specs.declared.names.SpaceNo.{SpaceNo}
use Rattle.cache_ident.specs.declared.names.Vpn.{Vpn}
use Rattle.phys_groups.specs.declared.rows.Row.{Row}
use Rattle.phys_groups.specs.Rows.{row_name}
use Rattle.phys_groups.specs.Translation.{is_row_of, without}
use Rattle.desc_stores.specs.kernel_cache.specs.declared.KernelRec.{KernelRec}
use Rattle.desc_stores.specs.space_cache.specs.declared.SpaceRec.{SpaceRec}
use Rattle.desc_stores.specs.thread_cache.specs.declared.ThreadRec.{ThreadRec}
use Rattle.flat_state.specs.declared.events.Machine.{Machine}
use Rattle.flat_state.specs.declared.records.FlatKernel.{FlatKernel}
use Rattle.flat_state.specs.declared.records.FlatThread.{FlatThread}
use Rattle.flat_state.specs.State.{nothing_declared}
use Rattle.desc_stores.specs.owner_shelf.proofs.NameLemmas.{eq_apart, eq_same}
use Rattle.desc_stores.specs.kind_store.specs.Changes.{is_name}
use Rattle.desc_stores.specs.kind_store.proofs.ContentLemmas.{cases_name}
use Rattle.desc_stores.specs.row_store.specs.Kept.{KeptRows}
use Rattle.desc_stores.specs.declared.items.Item.{Item}
use Rattle.desc_stores.specs.declared.items.Item.TheVariants as item
use Rattle.desc_stores.specs.Items.{name_of}
use Rattle.desc_stores.specs.Changes.{HasContent, HasNoContent, IsDeclaring, IsNext, IsNothing}
use Rattle.desc_stores.specs.Contents.{content_of, Contents}
use Rattle.desc_stores.specs.Sound.{kernel_named, space_named, thread_named, IsExactlyOne}
use Rattle.shown_state.specs.Shown.{flat_kernel, flat_thread, kernel_of, row_of_item, shown, space_of, thread_of}
use Rattle.shown_state.specs.Edits.{with_new, without_row, IsRetraction}
use Rattle.shown_state.proofs.ListLemmas.{filter_map-agree, filter_map-filter, push-numbered}
use Rattle.shown_state.proofs.ContentLemmas.{one_kernel, one_space, one_thread, page_test, row_has_name, row_there}
use Rattle.shown_state.proofs.AlikeLemmas.{kernels_alike, rows_alike, shown_with, spaces_alike, threads_alike}
use Rattle.shown_state.proofs.LookupLemmas.{kernels_listed, spaces_listed, threads_listed}
use Rattle.shown_state.proofs.ChangeLemmas.{at_name, elsewhere, no_kernel, no_row, no_space, no_thread, unseen}

module _ (machine : Option Machine) (memory : List ℕ) (old new : Contents) where
  -- a kernel, a space or a thread came, with the next number
  kernels_pushed : (kernel : KernelRec) → new.kernel_count ≡ old.kernel_count + 1 → kernel.no.0 ≡ old.kernel_count → HasContent old new (item.Kernel kernel) → (shown machine memory new).kernels ≡ (shown machine memory old).kernels ++ flat_kernel kernel ∷ []
  kernels_pushed kernel count next has =
      let f = λ (n : ℕ). kernel_of (content_of old (kernel_named n)) in
      let g = λ (n : ℕ). kernel_of (content_of new (kernel_named n)) in
      kernels_listed machine memory new
      ∙ ap (λ (n : ℕ). filter_map g (range_with_len 0 n)) count
      ∙ push-numbered f g (flat_kernel kernel) old.kernel_count (subst (λ (n : ℕ). g n ≡ Some (flat_kernel kernel)) next (ap kernel_of (at_name old new (item.Kernel kernel) has))) (λ k apart. ap kernel_of (elsewhere old new (item.Kernel kernel) has (kernel_named k) (λ same. apart (sym (one_kernel kernel.no.0 k same) ∙ next))))
      ∙ ap (λ (kernels : List FlatKernel). kernels ++ flat_kernel kernel ∷ []) (sym (kernels_listed machine memory old))

  spaces_pushed : (space : SpaceRec) → new.space_count ≡ old.space_count + 1 → space.no.0 ≡ old.space_count → HasContent old new (item.Space space) → (shown machine memory new).spaces ≡ (shown machine memory old).spaces ++ space.kernel ∷ []
  spaces_pushed space count next has =
      let f = λ (n : ℕ). space_of (content_of old (space_named n)) in
      let g = λ (n : ℕ). space_of (content_of new (space_named n)) in
      spaces_listed machine memory new
      ∙ ap (λ (n : ℕ). filter_map g (range_with_len 0 n)) count
      ∙ push-numbered f g space.kernel old.space_count (subst (λ (n : ℕ). g n ≡ Some space.kernel) next (ap space_of (at_name old new (item.Space space) has))) (λ k apart. ap space_of (elsewhere old new (item.Space space) has (space_named k) (λ same. apart (sym (one_space space.no.0 k same) ∙ next))))
      ∙ ap (λ (spaces : List KernelNo). spaces ++ space.kernel ∷ []) (sym (spaces_listed machine memory old))

  threads_pushed : (thread : ThreadRec) → new.thread_count ≡ old.thread_count + 1 → thread.no.0 ≡ old.thread_count → HasContent old new (item.Thread thread) → (shown machine memory new).threads ≡ (shown machine memory old).threads ++ flat_thread thread ∷ []
  threads_pushed thread count next has =
      let f = λ (n : ℕ). thread_of (content_of old (thread_named n)) in
      let g = λ (n : ℕ). thread_of (content_of new (thread_named n)) in
      threads_listed machine memory new
      ∙ ap (λ (n : ℕ). filter_map g (range_with_len 0 n)) count
      ∙ push-numbered f g (flat_thread thread) old.thread_count (subst (λ (n : ℕ). g n ≡ Some (flat_thread thread)) next (ap thread_of (at_name old new (item.Thread thread) has))) (λ k apart. ap thread_of (elsewhere old new (item.Thread thread) has (thread_named k) (λ same. apart (sym (one_thread thread.no.0 k same) ∙ next))))
      ∙ ap (λ (threads : List FlatThread). threads ++ flat_thread thread ∷ []) (sym (threads_listed machine memory old))

  -- a row came, with a name that had no content
  rows_pushed : IsExactlyOne old → (row : Row) → new.rows.names ≡ old.rows.names ++ row_name row ∷ [] → content_of old (row_name row) ≡ None → HasContent old new (item.Mapping row) → (shown machine memory new).rows ≡ (shown machine memory old).rows ++ row ∷ []
  unfolding shown
  rows_pushed one row names absent has =
      let f = λ (n : Name). row_of_item (content_of old n) in
      let g = λ (n : Name). row_of_item (content_of new n) in
      ap (λ (ns : List Name). filter_map g ns) names
      ∙ filter_map-append g old.rows.names (row_name row ∷ [])
      ∙ ap (λ (o : Option Row). filter_map g old.rows.names ++ cons_option o []) (ap row_of_item (at_name old new (item.Mapping row) has))
      ∙ ap (λ (rows : List Row). rows ++ row ∷ []) (filter_map-agree g f old.rows.names (λ n there. ap row_of_item (elsewhere old new (item.Mapping row) has n (λ same. is_new n there same))))
    where
      is_new : (n : Name) → Contains old.rows.names n → row_name row ≡ n → ⊥
      is_new n there same =
          let none = sym (row_there old n) ∙ ap row_of_item (subst (λ (m : Name). content_of old m ≡ None) same absent) in
          false≢true (subst (λ o. IsSome o) none ((one.row_names.named n).0 there))

  -- a declared descriptor is the last of its kind
  pub declaration_shown : IsExactlyOne old → (owner : KernelNo) (content : Item) → IsDeclaring old new owner content → IsNext old content → content_of old (name_of content) ≡ None → HasContent old new content → shown machine memory new ≡ with_new (shown machine memory old) content
  unfolding shown
  declaration_shown one owner (item.Kernel kernel) declaring next absent has =
      shown_with machine memory new (with_new (shown machine memory old) (item.Kernel kernel)) refl refl
      (kernels_pushed kernel (ap (λ (c : Contents). c.kernel_count) declaring.2) next.0 has)
      (spaces_alike machine memory old new (ap (λ (c : Contents). c.space_count) declaring.2) (unseen old new (item.Kernel kernel) has space_of refl (no_kernel space_of refl old (λ v. refl) kernel.no)))
      (rows_alike machine memory old new (ap (λ (c : Contents). c.rows.names) declaring.2) (unseen old new (item.Kernel kernel) has row_of_item refl (no_kernel row_of_item refl old (λ v. refl) kernel.no)))
      (threads_alike machine memory old new (ap (λ (c : Contents). c.thread_count) declaring.2) (unseen old new (item.Kernel kernel) has thread_of refl (no_kernel thread_of refl old (λ v. refl) kernel.no)))
  declaration_shown one owner (item.Space space) declaring next absent has =
      shown_with machine memory new (with_new (shown machine memory old) (item.Space space)) refl refl
      (kernels_alike machine memory old new (ap (λ (c : Contents). c.kernel_count) declaring.2) (unseen old new (item.Space space) has kernel_of refl (no_space kernel_of refl old (λ v. refl) space.no)))
      (spaces_pushed space (ap (λ (c : Contents). c.space_count) declaring.2) next.0 has)
      (rows_alike machine memory old new (ap (λ (c : Contents). c.rows.names) declaring.2) (unseen old new (item.Space space) has row_of_item refl (no_space row_of_item refl old (λ v. refl) space.no)))
      (threads_alike machine memory old new (ap (λ (c : Contents). c.thread_count) declaring.2) (unseen old new (item.Space space) has thread_of refl (no_space thread_of refl old (λ v. refl) space.no)))
  declaration_shown one owner (item.Thread thread) declaring next absent has =
      shown_with machine memory new (with_new (shown machine memory old) (item.Thread thread)) refl refl
      (kernels_alike machine memory old new (ap (λ (c : Contents). c.kernel_count) declaring.2) (unseen old new (item.Thread thread) has kernel_of refl (no_thread kernel_of refl old (λ v. refl) thread)))
      (spaces_alike machine memory old new (ap (λ (c : Contents). c.space_count) declaring.2) (unseen old new (item.Thread thread) has space_of refl (no_thread space_of refl old (λ v. refl) thread)))
      (rows_alike machine memory old new (ap (λ (c : Contents). c.rows.names) declaring.2) (unseen old new (item.Thread thread) has row_of_item refl (no_thread row_of_item refl old (λ v. refl) thread)))
      (threads_pushed thread (ap (λ (c : Contents). c.thread_count) declaring.2) next.0 has)
  declaration_shown one owner (item.Mapping row) declaring next absent has =
      shown_with machine memory new (with_new (shown machine memory old) (item.Mapping row)) refl refl
      (kernels_alike machine memory old new (ap (λ (c : Contents). c.kernel_count) declaring.3) (unseen old new (item.Mapping row) has kernel_of refl (no_row kernel_of refl old (λ v. refl) row.space row.vpn)))
      (spaces_alike machine memory old new (ap (λ (c : Contents). c.space_count) declaring.3) (unseen old new (item.Mapping row) has space_of refl (no_row space_of refl old (λ v. refl) row.space row.vpn)))
      (rows_pushed one row declaring.2 absent has)
      (threads_alike machine memory old new (ap (λ (c : Contents). c.thread_count) declaring.3) (unseen old new (item.Mapping row) has thread_of refl (no_row thread_of refl old (λ v. refl) row.space row.vpn)))

  module _ (space : SpaceNo) (vpn : Vpn) (gone : HasNoContent old new (name.Mapping space vpn)) where
    left : (n : Name) → name.Mapping space vpn ≢ n → content_of new n ≡ content_of old n
    left n apart = gone n ∙ ap (λ (b : Bool). cond b None (content_of old n)) (eq_apart (name.Mapping space vpn) n apart)

    none_left : content_of new (name.Mapping space vpn) ≡ None
    none_left = gone (name.Mapping space vpn) ∙ ap (λ (b : Bool). cond b None (content_of old (name.Mapping space vpn))) (eq_same (name.Mapping space vpn) (name.Mapping space vpn) refl)

    unmissed : {Y : Type 0} (view : Option Item → Option Y) → view None ≡ None → ((v : Row) → view (Some (item.Mapping v)) ≡ None) → (n : Name) → view (content_of new n) ≡ view (content_of old n)
    unmissed view none some n = elim (cases_name (name.Mapping space vpn) n) [
      | inl same ↦ subst (λ (m : Name). view (content_of new m) ≡ view (content_of old m)) same (ap view none_left ∙ none ∙ sym (no_row view none old some space vpn))
      | inr apart ↦ ap view (left n apart)
    ]

    rows_left : new.rows.names ≡ filter (λ (other : Name). not (is_name other (name.Mapping space vpn))) old.rows.names → (shown machine memory new).rows ≡ without space vpn.0 (shown machine memory old).rows
    unfolding shown
    rows_left names =
        let f = λ (n : Name). row_of_item (content_of old n) in
        let g = λ (n : Name). row_of_item (content_of new n) in
        let target = name.Mapping space vpn in
        ap (λ (ns : List Name). filter_map g ns) names
        ∙ filter_map-filter f g (λ n. not (is_name n target)) (λ row. not (is_row_of space vpn.0 row)) old.rows.names
        (λ n stays. ap row_of_item (left n (λ same. false≢true (sym (ap not (eq_same n target (sym same))) ∙ stays))))
        (λ n row is. ap not (page_test space vpn row ∙ ap (λ (m : Name). is_name m target) (row_has_name old n row is)))

  -- a retracted row is gone
  pub retraction_shown : (space : SpaceNo) (vpn : Vpn) → IsRetraction old new space vpn → shown machine memory new ≡ without_row (shown machine memory old) space vpn
  unfolding shown
  retraction_shown space vpn gone =
      shown_with machine memory new (without_row (shown machine memory old) space vpn) refl refl
      (kernels_alike machine memory old new (ap (λ (c : Contents). c.kernel_count) gone.only) (unmissed space vpn gone.contents kernel_of refl (λ v. refl)))
      (spaces_alike machine memory old new (ap (λ (c : Contents). c.space_count) gone.only) (unmissed space vpn gone.contents space_of refl (λ v. refl)))
      (rows_left space vpn gone.contents gone.names)
      (threads_alike machine memory old new (ap (λ (c : Contents). c.thread_count) gone.only) (unmissed space vpn gone.contents thread_of refl (λ v. refl)))

-- nothing shows nothing
pub nothing_shown : (machine : Option Machine) (memory : List ℕ) (caps : Caps) (c : Contents) → IsNothing caps c → shown machine memory c ≡ record nothing_declared { machine = machine; memory = memory }
unfolding shown
nothing_shown machine memory caps c none =
    shown_with machine memory c (record nothing_declared { machine = machine; memory = memory }) refl refl
    (ap (λ (n : ℕ). filter_map (λ (m : Name). kernel_of (content_of c m)) (map kernel_named (range_with_len 0 n))) none.kernel_count)
    (ap (λ (n : ℕ). filter_map (λ (m : Name). space_of (content_of c m)) (map space_named (range_with_len 0 n))) none.space_count)
    (ap (λ (rows : KeptRows). filter_map (λ (m : Name). row_of_item (content_of c m)) rows.names) none.rows)
    (ap (λ (n : ℕ). filter_map (λ (m : Name). thread_of (content_of c m)) (map thread_named (range_with_len 0 n))) none.thread_count)
