-- What is shown once a content changed, came or went.
use Rattle.std.proofs.Common.{All, not, ◌≡◌, ◌≢◌, ℕ, Bool, true, false, cond, List, set, map, filter_map, Option, Some, None, IsSome, refl, sym, ◌∙◌, ap, subst, inl, inr}
use Rattle.std.specs.List.{range_with_len}
use Rattle.std.specs.Option.{option_map}
use Rattle.std.specs.Prelude.{◌||◌}
use Rattle.std.proofs.lemmas.Bool.{false≢true}
use Rattle.cache_ident.specs.declared.names.KernelNo.{KernelNo}
use Rattle.cache_ident.specs.declared.names.Name.{Name}
use Rattle.cache_ident.specs.declared.names.Name.TheVariants as name
use Rattle.cache_ident.specs.declared.names.SpaceNo.{SpaceNo}
use Rattle.cache_ident.specs.declared.names.Vpn.{Vpn}
use Rattle.phys_groups.specs.declared.rows.Row.{Row}
use Rattle.phys_groups.specs.Rows.{marked, row_name}
use Rattle.phys_groups.specs.Translation.{is_row_of}
use Rattle.std.proofs.lemmas.List.Elements.{All-weaker}
use Rattle.desc_stores.specs.kernel_cache.specs.declared.KernelRec.{KernelRec}
use Rattle.desc_stores.specs.kernel_cache.specs.Kernels as kernel_rec
use Rattle.desc_stores.specs.space_cache.specs.declared.SpaceRec.{SpaceRec}
use Rattle.desc_stores.specs.space_cache.specs.Spaces as space_rec
use Rattle.desc_stores.specs.thread_cache.specs.declared.ThreadRec.{ThreadRec}
use Rattle.desc_stores.specs.thread_cache.specs.Threads as thread_rec
use Rattle.flat_state.specs.declared.events.Machine.{Machine}
use Rattle.flat_state.specs.declared.records.FlatKernel.{FlatKernel}
use Rattle.flat_state.specs.declared.records.FlatThread.{FlatThread}
use Rattle.desc_stores.specs.owner_shelf.proofs.NameLemmas.{eq_apart, eq_itself}
use Rattle.desc_stores.specs.kind_store.specs.Kept as stored
use Rattle.desc_stores.specs.kind_store.proofs.ContentLemmas.{cases_name}
use Rattle.desc_stores.specs.declared.items.Item.{Item}
use Rattle.desc_stores.specs.declared.items.Item.TheVariants as item
use Rattle.desc_stores.specs.Items.{name_of}
use Rattle.desc_stores.specs.Changes.{HasContent}
use Rattle.desc_stores.specs.Contents.{content_of, Contents}
use Rattle.desc_stores.specs.Sound.{kernel_named, space_named, thread_named, IsExactlyOne}
use Rattle.shown_state.specs.Shown.{flat_kernel, flat_thread, kernel_of, row_of_item, shown, space_of, thread_of, HasSameNames}
use Rattle.shown_state.specs.Edits.{with_mark, without_row, IsMark, in_place_of, with_changed}
use Rattle.shown_state.proofs.ListLemmas.{All-filter_map, filter-stays, map-stays, filter_map-map, set-numbered}
use Rattle.shown_state.proofs.ContentLemmas.{kernels_counted, one_kernel, one_space, one_thread, page_by_name, page_test, row_has_name, spaces_counted, threads_counted}
use Rattle.shown_state.proofs.AlikeLemmas.{kernels_alike, rows_alike, shown_with, spaces_alike, threads_alike}
use Rattle.shown_state.proofs.LookupLemmas.{kernels_listed, spaces_listed, threads_listed}

-- a view that a kind doesn't show sees nothing of its contents
silent : {T Y : Type 0} (view : Option Item → Option Y) (make : T → Item) → view None ≡ None → ((v : T) → view (Some (make v)) ≡ None) → (o : Option T) → view (option_map make o) ≡ None
silent view make none some None = none
silent view make none some (Some v) = some v

-- under the name of a kernel nothing else is shown, and so of the other kinds
module _ {Y : Type 0} (view : Option Item → Option Y) (none : view None ≡ None) (c : Contents) where
  pub no_kernel : ((v : KernelRec) → view (Some (item.Kernel v)) ≡ None) → (number : KernelNo) → view (content_of c (name.Kernel number)) ≡ None
  no_kernel some number = silent view item.Kernel none some (stored.content_of kernel_rec.name_of c.kernels (name.Kernel number))

  pub no_space : ((v : SpaceRec) → view (Some (item.Space v)) ≡ None) → (number : SpaceNo) → view (content_of c (name.Space number)) ≡ None
  no_space some number = silent view item.Space none some (stored.content_of space_rec.name_of c.spaces (name.Space number))

  pub no_thread : ((v : ThreadRec) → view (Some (item.Thread v)) ≡ None) → (v : ThreadRec) → view (content_of c (thread_rec.name_of v)) ≡ None
  no_thread some v = silent view item.Thread none some (stored.content_of thread_rec.name_of c.threads (thread_rec.name_of v))

  pub no_row : ((v : Row) → view (Some (item.Mapping v)) ≡ None) → (space : SpaceNo) (vpn : Vpn) → view (content_of c (name.Mapping space vpn)) ≡ None
  no_row some space vpn = silent view item.Mapping none some (stored.content_of row_name c.rows.kept (name.Mapping space vpn))

module _ (old new : Contents) (content : Item) (has : HasContent old new content) where
  -- the name of a content that changed or came has it
  pub at_name : content_of new (name_of content) ≡ Some content
  at_name = has (name_of content) ∙ ap (λ (b : Bool). cond b (Some content) (content_of old (name_of content))) (eq_itself (name_of content))

  -- and each other name has what it had
  pub elsewhere : (n : Name) → name_of content ≢ n → content_of new n ≡ content_of old n
  elsewhere n apart = has n ∙ ap (λ (b : Bool). cond b (Some content) (content_of old n)) (eq_apart (name_of content) n apart)

  -- so a view that sees nothing of it sees what it saw
  pub unseen : {Y : Type 0} (view : Option Item → Option Y) → view (Some content) ≡ None → view (content_of old (name_of content)) ≡ None → (n : Name) → view (content_of new n) ≡ view (content_of old n)
  unseen view none was n = elim (cases_name (name_of content) n) [
    | inl same ↦ subst (λ (m : Name). view (content_of new m) ≡ view (content_of old m)) same (ap view at_name ∙ none ∙ sym was)
    | inr apart ↦ ap view (elsewhere n apart)
  ]

some_row : (o : Option Row) → IsSome (option_map item.Mapping o) → (was : Row) × (row_of_item (option_map item.Mapping o) ≡ Some was)
some_row None some = absurd (false≢true some)
some_row (Some was) some = (was, refl)

module _ (machine : Option Machine) (memory : List ℕ) (old new : Contents) where
  -- a kernel, a space or a thread changed in its place
  kernels_set : IsExactlyOne old → new.kernel_count ≡ old.kernel_count → (kernel : KernelRec) → HasContent old new (item.Kernel kernel) → (shown machine memory new).kernels ≡ set (shown machine memory old).kernels kernel.no.0 (flat_kernel kernel)
  kernels_set one count kernel has =
      let f = λ (n : ℕ). kernel_of (content_of old (kernel_named n)) in
      let g = λ (n : ℕ). kernel_of (content_of new (kernel_named n)) in
      kernels_listed machine memory new
      ∙ ap (λ (n : ℕ). filter_map g (range_with_len 0 n)) count
      ∙ set-numbered f g (flat_kernel kernel) old.kernel_count kernel.no.0 (kernels_counted old one).there (ap kernel_of (at_name old new (item.Kernel kernel) has)) (λ k apart. ap kernel_of (elsewhere old new (item.Kernel kernel) has (kernel_named k) (λ same. apart (sym (one_kernel kernel.no.0 k same)))))
      ∙ ap (λ (kernels : List FlatKernel). set kernels kernel.no.0 (flat_kernel kernel)) (sym (kernels_listed machine memory old))

  spaces_set : IsExactlyOne old → new.space_count ≡ old.space_count → (space : SpaceRec) → HasContent old new (item.Space space) → (shown machine memory new).spaces ≡ set (shown machine memory old).spaces space.no.0 space.kernel
  spaces_set one count space has =
      let f = λ (n : ℕ). space_of (content_of old (space_named n)) in
      let g = λ (n : ℕ). space_of (content_of new (space_named n)) in
      spaces_listed machine memory new
      ∙ ap (λ (n : ℕ). filter_map g (range_with_len 0 n)) count
      ∙ set-numbered f g space.kernel old.space_count space.no.0 (spaces_counted old one).there (ap space_of (at_name old new (item.Space space) has)) (λ k apart. ap space_of (elsewhere old new (item.Space space) has (space_named k) (λ same. apart (sym (one_space space.no.0 k same)))))
      ∙ ap (λ (spaces : List KernelNo). set spaces space.no.0 space.kernel) (sym (spaces_listed machine memory old))

  threads_set : IsExactlyOne old → new.thread_count ≡ old.thread_count → (thread : ThreadRec) → HasContent old new (item.Thread thread) → (shown machine memory new).threads ≡ set (shown machine memory old).threads thread.no.0 (flat_thread thread)
  threads_set one count thread has =
      let f = λ (n : ℕ). thread_of (content_of old (thread_named n)) in
      let g = λ (n : ℕ). thread_of (content_of new (thread_named n)) in
      threads_listed machine memory new
      ∙ ap (λ (n : ℕ). filter_map g (range_with_len 0 n)) count
      ∙ set-numbered f g (flat_thread thread) old.thread_count thread.no.0 (threads_counted old one).there (ap thread_of (at_name old new (item.Thread thread) has)) (λ k apart. ap thread_of (elsewhere old new (item.Thread thread) has (thread_named k) (λ same. apart (sym (one_thread thread.no.0 k same)))))
      ∙ ap (λ (threads : List FlatThread). set threads thread.no.0 (flat_thread thread)) (sym (threads_listed machine memory old))

  -- the row of a page changed, by whatever leaves the other rows
  pub rows_mapped : new.rows.names ≡ old.rows.names → (space : SpaceNo) (vpn : Vpn) (was now : Row) (change : Row → Row) → row_of_item (content_of old (name.Mapping space vpn)) ≡ Some was → row_name now ≡ name.Mapping space vpn → HasContent old new (item.Mapping now) → change was ≡ now → ((other : Row) → is_row_of space vpn.0 other ≡ false → change other ≡ other) → (shown machine memory new).rows ≡ map change (shown machine memory old).rows
  unfolding shown
  rows_mapped names space vpn was now change before named has changed others =
      ap (λ (ns : List Name). filter_map (λ n. row_of_item (content_of new n)) ns) names
      ∙ filter_map-map (λ n. row_of_item (content_of old n)) (λ n. row_of_item (content_of new n)) change old.rows.names (λ n. elim (cases_name (name.Mapping space vpn) n) [
        | inl same ↦ subst (λ (m : Name). row_of_item (content_of new m) ≡ option_map change (row_of_item (content_of old m))) same here
        | inr apart ↦ ap row_of_item (elsewhere old new (item.Mapping now) has n (λ same. apart (sym named ∙ same))) ∙ stays n apart (row_of_item (content_of old n)) refl
      ])
    where
      here : row_of_item (content_of new (name.Mapping space vpn)) ≡ option_map change (row_of_item (content_of old (name.Mapping space vpn)))
      here = ap row_of_item (subst (λ (m : Name). content_of new m ≡ Some (item.Mapping now)) named (at_name old new (item.Mapping now) has)) ∙ sym (ap (option_map change) before ∙ ap (λ (r : Row). Some r) changed)

      stays : (n : Name) → name.Mapping space vpn ≢ n → (o : Option Row) → row_of_item (content_of old n) ≡ o → o ≡ option_map change o
      stays n apart None is = refl
      stays n apart (Some r) is = ap (λ (x : Row). Some x) (sym (others r (page_test space vpn r ∙ eq_apart (row_name r) (name.Mapping space vpn) (λ same. apart (sym same ∙ row_has_name old n r is)))))

  rows_replaced : new.rows.names ≡ old.rows.names → (row : Row) → HasContent old new (item.Mapping row) → IsSome (content_of old (row_name row)) → (shown machine memory new).rows ≡ map (in_place_of row) (shown machine memory old).rows
  rows_replaced names row has there =
      let before = some_row (stored.content_of row_name old.rows.kept (row_name row)) there in
      rows_mapped names row.space row.vpn before.0 row (in_place_of row) before.1 refl has (ap (λ (b : Bool). cond b row before.0) (page_by_name row.space row.vpn before.0 (row_has_name old (row_name row) before.0 before.1))) (λ other past. ap (λ (b : Bool). cond b row other) past)

  -- a content changed in its place
  pub change_shown : IsExactlyOne old → HasSameNames old new → (content : Item) → HasContent old new content → IsSome (content_of old (name_of content)) → shown machine memory new ≡ with_changed (shown machine memory old) content
  unfolding shown
  change_shown one names (item.Kernel kernel) has there =
      shown_with machine memory new (with_changed (shown machine memory old) (item.Kernel kernel)) refl refl
      (kernels_set one names.kernels kernel has)
      (spaces_alike machine memory old new names.spaces (unseen old new (item.Kernel kernel) has space_of refl (no_kernel space_of refl old (λ v. refl) kernel.no)))
      (rows_alike machine memory old new names.rows (unseen old new (item.Kernel kernel) has row_of_item refl (no_kernel row_of_item refl old (λ v. refl) kernel.no)))
      (threads_alike machine memory old new names.threads (unseen old new (item.Kernel kernel) has thread_of refl (no_kernel thread_of refl old (λ v. refl) kernel.no)))
  change_shown one names (item.Space space) has there =
      shown_with machine memory new (with_changed (shown machine memory old) (item.Space space)) refl refl
      (kernels_alike machine memory old new names.kernels (unseen old new (item.Space space) has kernel_of refl (no_space kernel_of refl old (λ v. refl) space.no)))
      (spaces_set one names.spaces space has)
      (rows_alike machine memory old new names.rows (unseen old new (item.Space space) has row_of_item refl (no_space row_of_item refl old (λ v. refl) space.no)))
      (threads_alike machine memory old new names.threads (unseen old new (item.Space space) has thread_of refl (no_space thread_of refl old (λ v. refl) space.no)))
  change_shown one names (item.Thread thread) has there =
      shown_with machine memory new (with_changed (shown machine memory old) (item.Thread thread)) refl refl
      (kernels_alike machine memory old new names.kernels (unseen old new (item.Thread thread) has kernel_of refl (no_thread kernel_of refl old (λ v. refl) thread)))
      (spaces_alike machine memory old new names.spaces (unseen old new (item.Thread thread) has space_of refl (no_thread space_of refl old (λ v. refl) thread)))
      (rows_alike machine memory old new names.rows (unseen old new (item.Thread thread) has row_of_item refl (no_thread row_of_item refl old (λ v. refl) thread)))
      (threads_set one names.threads thread has)
  change_shown one names (item.Mapping row) has there =
      shown_with machine memory new (with_changed (shown machine memory old) (item.Mapping row)) refl refl
      (kernels_alike machine memory old new names.kernels (unseen old new (item.Mapping row) has kernel_of refl (no_row kernel_of refl old (λ v. refl) row.space row.vpn)))
      (spaces_alike machine memory old new names.spaces (unseen old new (item.Mapping row) has space_of refl (no_row space_of refl old (λ v. refl) row.space row.vpn)))
      (rows_replaced names.rows row has there)
      (threads_alike machine memory old new names.threads (unseen old new (item.Mapping row) has thread_of refl (no_row thread_of refl old (λ v. refl) row.space row.vpn)))

  -- a row changed, by whatever leaves the other rows
  pub row_change_shown : HasSameNames old new → (space : SpaceNo) (vpn : Vpn) (was now : Row) (change : Row → Row) → content_of old (name.Mapping space vpn) ≡ Some (item.Mapping was) → row_name now ≡ name.Mapping space vpn → HasContent old new (item.Mapping now) → change was ≡ now → ((other : Row) → is_row_of space vpn.0 other ≡ false → change other ≡ other) → shown machine memory new ≡ record (shown machine memory old) { rows = map change (shown machine memory old).rows }
  unfolding shown
  row_change_shown names space vpn was now change before named has changed others =
      shown_with machine memory new (record (shown machine memory old) { rows = map change (shown machine memory old).rows }) refl refl
      (kernels_alike machine memory old new names.kernels (unseen old new (item.Mapping now) has kernel_of refl (no_row kernel_of refl old (λ v. refl) now.space now.vpn)))
      (spaces_alike machine memory old new names.spaces (unseen old new (item.Mapping now) has space_of refl (no_row space_of refl old (λ v. refl) now.space now.vpn)))
      (rows_mapped names.rows space vpn was now change (ap row_of_item before) named has changed others)
      (threads_alike machine memory old new names.threads (unseen old new (item.Mapping now) has thread_of refl (no_row thread_of refl old (λ v. refl) now.space now.vpn)))

  -- a step or a store went through a row
  pub mark_shown : (space : SpaceNo) (vpn : Vpn) (written : Bool) → IsMark old new space vpn written → shown machine memory new ≡ with_mark (shown machine memory old) space vpn written
  mark_shown space vpn written mark =
      let named = row_has_name old (name.Mapping space vpn) mark.row (ap row_of_item mark.was) in
      row_change_shown mark.names space vpn mark.row (marked space vpn.0 written mark.row) (marked space vpn.0 written) mark.was (still mark.row named (is_row_of space vpn.0 mark.row)) mark.contents refl (λ other past. ap (λ (b : Bool). cond b (record other { referenced = true; modified = other.modified || written }) other) past)
    where
      still : (was : Row) → row_name was ≡ name.Mapping space vpn → (b : Bool) → row_name (cond b (record was { referenced = true; modified = was.modified || written }) was) ≡ name.Mapping space vpn
      still was named true = named
      still was named false = named

-- where a page has no row, no row is that of the page
module _ (machine : Option Machine) (memory : List ℕ) (c : Contents) (space : SpaceNo) (vpn : Vpn) (absent : content_of c (name.Mapping space vpn) ≡ None) where
  none_of_page : All (λ row. is_row_of space vpn.0 row ≡ false) (shown machine memory c).rows
  unfolding shown
  none_of_page = All-filter_map (λ row. is_row_of space vpn.0 row ≡ false) (λ n. row_of_item (content_of c n)) c.rows.names (λ n row is. page_test space vpn row ∙ eq_apart (row_name row) (name.Mapping space vpn) (λ same.
      let there : row_of_item (content_of c (name.Mapping space vpn)) ≡ Some row = subst (λ (m : Name). row_of_item (content_of c m) ≡ Some row) (sym (row_has_name c n row is) ∙ same) is in
      none_some row (sym (ap row_of_item absent) ∙ there)))
    where
      none_some : (row : Row) → None ≡ Some row → ⊥
      none_some row same = absurd (cc)

  -- so a mark changes nothing, and none goes
  pub mark_nothing : (written : Bool) → with_mark (shown machine memory c) space vpn written ≡ shown machine memory c
  mark_nothing written = ap (λ (rows : List Row). record (shown machine memory c) { rows = rows }) (map-stays (marked space vpn.0 written) (λ row. is_row_of space vpn.0 row ≡ false) (λ row past. ap (λ (b : Bool). cond b (record row { referenced = true; modified = row.modified || written }) row) past) (shown machine memory c).rows none_of_page)

  pub retract_nothing : without_row (shown machine memory c) space vpn ≡ shown machine memory c
  retract_nothing = ap (λ (rows : List Row). record (shown machine memory c) { rows = rows }) (filter-stays (λ row. not (is_row_of space vpn.0 row)) (shown machine memory c).rows (All-weaker (λ row. is_row_of space vpn.0 row ≡ false) (λ row. not (is_row_of space vpn.0 row) ≡ true) (λ row past. ap not past) (shown machine memory c).rows none_of_page))
