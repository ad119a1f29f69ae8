-- What is found in what is shown.
use Rattle.std.proofs.Common.{◌≡◌, ℕ, ◌<◌, List, length, get_or, map, filter, filter_map, Option, Some, None, is_some, IsSome, slice_get, refl, sym, ◌∙◌, ap, subst, inl, inr, arith}
use Rattle.std.specs.List.{range_with_len}
use Rattle.std.specs.Option.{option_map}
use Rattle.std.proofs.lemmas.Bool.{cases_eq, cases_lt}
use Rattle.std.proofs.lemmas.List.{length-map}
use Rattle.std.proofs.lemmas.Option.{get_or_from_slice_get, same_Some, slice_get-map, slice_get_within}
use Rattle.cache_ident.specs.declared.names.Frame.{Frame}
use Rattle.cache_ident.specs.declared.names.Name.{Name}
use Rattle.cache_ident.specs.declared.names.Name.TheVariants as name
use Rattle.cache_ident.specs.declared.names.SpaceNo.{SpaceNo}
use Rattle.cache_ident.specs.declared.names.Vpn.{Vpn}
use Rattle.phys_groups.specs.declared.rows.Row.{Row}
use Rattle.phys_groups.specs.Rows.{row_name, HasOneRowAPage}
use Rattle.phys_groups.specs.Translation.{is_row_of, row_of}
use Rattle.flat_state.specs.signal_pages.specs.Signals.{is_signal_row_of}
use Rattle.desc_stores.specs.kernel_cache.specs.declared.KernelRec.{KernelRec}
use Rattle.desc_stores.specs.kernel_cache.specs.Kernels as kernel_rec
use Rattle.desc_stores.specs.space_cache.specs.declared.SpaceRec.{SpaceRec}
use Rattle.desc_stores.specs.space_cache.specs.Spaces as space_rec
use Rattle.desc_stores.specs.thread_cache.specs.declared.ThreadRec.{ThreadRec}
use Rattle.desc_stores.specs.thread_cache.specs.Threads as thread_rec
use Rattle.flat_state.specs.declared.events.Machine.{Machine}
use Rattle.flat_state.specs.declared.records.FlatThread.{FlatThread}
use Rattle.flat_state.specs.Names.{stands}
use Rattle.desc_stores.specs.kind_store.specs.Kept as stored
use Rattle.desc_stores.specs.row_store.specs.Kept.{is_signal, is_signal_of, signal_names}
use Rattle.desc_stores.specs.declared.items.Item.TheVariants as item
use Rattle.desc_stores.specs.Contents.{content_of, Contents}
use Rattle.desc_stores.specs.Sound.{kernel_named, space_named, thread_named, IsExactlyOne}
use Rattle.shown_state.specs.Shown.{flat_thread, kernel_of, row_of_item, shown, space_of, thread_of}
use Rattle.shown_state.specs.Found.{AreFound, AreListed}
use Rattle.shown_state.proofs.ListLemmas.{filter_map-filter, filter_map-of_map, find-filter_map, get-numbered, length-numbered, map-filter-filter_map, map-filter_map}
use Rattle.shown_state.proofs.ContentLemmas.{content_has_name, kernels_counted, named_by_page, number_in, page_by_name, row_has_name, row_named, row_there, spaces_counted, threads_counted}

-- a thread that a number shows has that number
thread_has_number : (c : Contents) (n : ℕ) (thread : FlatThread) → thread_of (content_of c (thread_named n)) ≡ Some thread → thread.no.0 ≡ n
thread_has_number c n thread is = by (stored.content_of thread_rec.name_of c.threads (thread_named n)) refl is
  where
    by : (o : Option ThreadRec) → stored.content_of thread_rec.name_of c.threads (thread_named n) ≡ o → thread_of (option_map item.Thread o) ≡ Some thread → thread.no.0 ≡ n
    by None there is = absurd (cc)
    by (Some value) there is = ap (λ (t : FlatThread). t.no.0) (sym (same_Some (flat_thread value) thread is)) ∙ ap number_in (content_has_name thread_rec.name_of c.threads (thread_named n) value there)

shows_some_kernel : (o : Option KernelRec) → is_some (kernel_of (option_map item.Kernel o)) ≡ is_some (option_map item.Kernel o)
shows_some_kernel None = refl
shows_some_kernel (Some value) = refl

shows_some_space : (o : Option SpaceRec) → is_some (space_of (option_map item.Space o)) ≡ is_some (option_map item.Space o)
shows_some_space None = refl
shows_some_space (Some value) = refl

shows_some_thread : (o : Option ThreadRec) → is_some (thread_of (option_map item.Thread o)) ≡ is_some (option_map item.Thread o)
shows_some_thread None = refl
shows_some_thread (Some value) = refl

shows_some_row : (o : Option Row) → is_some (row_of_item (option_map item.Mapping o)) ≡ is_some (option_map item.Mapping o)
shows_some_row None = refl
shows_some_row (Some value) = refl

module _ (machine : Option Machine) (memory : List ℕ) (c : Contents) where
  -- the lists of the numbered kinds, by number
  pub kernels_listed : (shown machine memory c).kernels ≡ filter_map (λ n. kernel_of (content_of c (kernel_named n))) (range_with_len 0 c.kernel_count)
  unfolding shown
  kernels_listed = filter_map-of_map (λ n. kernel_of (content_of c n)) kernel_named (range_with_len 0 c.kernel_count)

  pub spaces_listed : (shown machine memory c).spaces ≡ filter_map (λ n. space_of (content_of c (space_named n))) (range_with_len 0 c.space_count)
  unfolding shown
  spaces_listed = filter_map-of_map (λ n. space_of (content_of c n)) space_named (range_with_len 0 c.space_count)

  pub threads_listed : (shown machine memory c).threads ≡ filter_map (λ n. thread_of (content_of c (thread_named n))) (range_with_len 0 c.thread_count)
  unfolding shown
  threads_listed = filter_map-of_map (λ n. thread_of (content_of c n)) thread_named (range_with_len 0 c.thread_count)

  -- the rows, by name
  pub rows_listed : (shown machine memory c).rows ≡ filter_map (λ n. row_of_item (content_of c n)) c.rows.names
  unfolding shown
  rows_listed = refl

  signal_by : (frame : Frame) (n : Name) (o : Option Row) → row_of_item (content_of c n) ≡ o → is_signal_of c.rows.kept frame n ≡ is_signal frame o
  signal_by frame n o is = ap (is_signal frame) (sym (row_there c n) ∙ is)

  -- the signal rows of a frame are those that the names in its list show
  pub signals_listed : (frame : Frame) → filter (is_signal_row_of frame) (shown machine memory c).rows ≡ filter_map (λ n. row_of_item (content_of c n)) (signal_names c.rows frame)
  unfolding shown
  signals_listed frame =
      let f = λ (n : Name). row_of_item (content_of c n) in
      sym (filter_map-filter f f (is_signal_of c.rows.kept frame) (is_signal_row_of frame) c.rows.names (λ n passes. refl) (λ n row is. sym (signal_by frame n (Some row) is)))

  module _ (one : IsExactlyOne c) where
    -- what is found under a number
    pub found_kernel : (n : ℕ) → slice_get (shown machine memory c).kernels n ≡ kernel_of (content_of c (kernel_named n))
    found_kernel n =
        let counted = kernels_counted c one in
        ap (λ kernels. slice_get kernels n) kernels_listed ∙ get-numbered (λ n. kernel_of (content_of c (kernel_named n))) c.kernel_count counted.there counted.none n

    pub found_space : (n : ℕ) → slice_get (shown machine memory c).spaces n ≡ space_of (content_of c (space_named n))
    found_space n =
        let counted = spaces_counted c one in
        ap (λ spaces. slice_get spaces n) spaces_listed ∙ get-numbered (λ n. space_of (content_of c (space_named n))) c.space_count counted.there counted.none n

    pub found_thread : (n : ℕ) → slice_get (shown machine memory c).threads n ≡ thread_of (content_of c (thread_named n))
    found_thread n =
        let counted = threads_counted c one in
        ap (λ threads. slice_get threads n) threads_listed ∙ get-numbered (λ n. thread_of (content_of c (thread_named n))) c.thread_count counted.there counted.none n

    pub thread_number : (n : ℕ) (thread : FlatThread) → slice_get (shown machine memory c).threads n ≡ Some thread → thread.no.0 ≡ n
    thread_number n thread is = thread_has_number c n thread (sym (found_thread n) ∙ is)

    -- how many there are
    pub count_kernels : length (shown machine memory c).kernels ≡ c.kernel_count
    count_kernels = ap length kernels_listed ∙ length-numbered (λ n. kernel_of (content_of c (kernel_named n))) 0 c.kernel_count (kernels_counted c one).there

    pub count_spaces : length (shown machine memory c).spaces ≡ c.space_count
    count_spaces = ap length spaces_listed ∙ length-numbered (λ n. space_of (content_of c (space_named n))) 0 c.space_count (spaces_counted c one).there

    pub count_threads : length (shown machine memory c).threads ≡ c.thread_count
    count_threads = ap length threads_listed ∙ length-numbered (λ n. thread_of (content_of c (thread_named n))) 0 c.thread_count (threads_counted c one).there

    -- the row of a page is what the page's name shows
    pub found_row : (space : SpaceNo) (vpn : Vpn) → row_of (shown machine memory c).rows space vpn.0 ≡ row_of_item (content_of c (name.Mapping space vpn))
    unfolding shown
    found_row space vpn =
        let target = name.Mapping space vpn in
        find-filter_map (λ n. row_of_item (content_of c n)) (is_row_of space vpn.0) target c.rows.names (λ n row is passes. sym (row_has_name c n row is) ∙ named_by_page space vpn row passes) (λ row is. page_by_name space vpn row (row_has_name c target row is)) (λ some. (one.row_names.named target).1 (row_named c one target some))

    -- the rows have the names of the rows, in their order
    pub rows_named : map row_name (shown machine memory c).rows ≡ c.rows.names
    unfolding shown
    rows_named = map-filter_map (λ n. row_of_item (content_of c n)) row_name c.rows.names (λ n there. subst (λ o. IsSome o) (sym (row_there c n)) ((one.row_names.named n).0 there)) (λ n row is. row_has_name c n row is)

    pub count_rows : length (shown machine memory c).rows ≡ length c.rows.names
    count_rows = sym (length-map (shown machine memory c).rows row_name) ∙ ap length rows_named

    name_at : (i : ℕ) (row : Row) (d : Name) → slice_get (shown machine memory c).rows i ≡ Some row → get_or c.rows.names i d ≡ row_name row
    name_at i row d at = get_or_from_slice_get c.rows.names i (row_name row) d (ap (λ names. slice_get names i) (sym rows_named) ∙ slice_get-map row_name (shown machine memory c).rows i ∙ ap (option_map row_name) at)

    within : (i : ℕ) (row : Row) → slice_get (shown machine memory c).rows i ≡ Some row → i < length c.rows.names
    within i row at = omega (arith, slice_get_within (shown machine memory c).rows i row at, count_rows)

    -- so no page has two
    pub one_row_a_page : HasOneRowAPage (shown machine memory c).rows
    one_row_a_page i j a b at_i at_j passes =
        let d = row_name a in
        let same : get_or c.rows.names i d ≡ get_or c.rows.names j d = name_at i a d at_i ∙ sym (named_by_page a.space a.vpn b passes) ∙ sym (name_at j b d at_j) in
        elim (cases_lt i j) [
          | inl before ↦ absurd (one.row_names.once i j d before (within j b at_j) same)
          | inr not_before ↦ elim (cases_eq i j) [
            | inl at ↦ at
            | inr other ↦ absurd (one.row_names.once j i d (omega (arith, not_before, other)) (within i a at_i) (sym same))
          ]
        ]

    -- and have those names
    pub signals_named : (frame : Frame) → map row_name (filter (is_signal_row_of frame) (shown machine memory c).rows) ≡ signal_names c.rows frame
    unfolding shown
    signals_named frame = map-filter-filter_map (λ n. row_of_item (content_of c n)) row_name (is_signal_of c.rows.kept frame) (is_signal_row_of frame) c.rows.names (λ n is. signal_by frame n None is) (λ n row is. (row_has_name c n row is, sym (signal_by frame n (Some row) is)))

    -- a name stands exactly if it has a content
    pub name_stands : (n : Name) → stands (shown machine memory c) n ≡ is_some (content_of c n)
    unfolding stands
    name_stands (name.Kernel number) = ap is_some (found_kernel number.0) ∙ shows_some_kernel (stored.content_of kernel_rec.name_of c.kernels (name.Kernel number))
    name_stands (name.Space number) = ap is_some (found_space number.0) ∙ shows_some_space (stored.content_of space_rec.name_of c.spaces (name.Space number))
    name_stands (name.Thread number) = ap is_some (found_thread number.0) ∙ shows_some_thread (stored.content_of thread_rec.name_of c.threads (name.Thread number))
    name_stands (name.Mapping space vpn) = ap is_some (found_row space vpn) ∙ shows_some_row (stored.content_of row_name c.rows.kept (name.Mapping space vpn))

    pub all_found : AreFound (shown machine memory c) c
    all_found = record { kernels = found_kernel; spaces = found_space; threads = found_thread; rows = found_row; stands = name_stands }

    pub all_listed : AreListed (shown machine memory c) c
    all_listed = record { kernels = count_kernels; spaces = count_spaces; threads = count_threads; rows = count_rows; thread_numbers = thread_number; row_names = rows_named }
