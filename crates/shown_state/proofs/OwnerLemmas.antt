-- Who owns what, once one descriptor changed, came or went.
use Rattle.std.proofs.Common.{◌≡◌, ℕ, ◌<◌, ◌≤◌, Bool, true, false, not, cond, List, [], ◌∷◌, ◌++◌, length, get_or, set, map, filter, Option, Some, None, IsSome, slice_get, refl, sym, ◌∙◌, ap, inl, inr, arith, length-append}
use Rattle.std.specs.List.{find}
use Rattle.std.specs.Option.{option_and_then, option_map, option_or}
use Rattle.std.specs.Prelude.{◌||◌, if◌then◌else◌, nat_lt}
use Rattle.std.proofs.lemmas.Bool.{cases_eq, false≢true}
use Rattle.std.proofs.lemmas.Bool.Decides.{nat_tests}
use Rattle.std.proofs.lemmas.List.{length-set}
use Rattle.std.proofs.lemmas.Option.{slice_get-get_or}
use Rattle.cache_ident.specs.declared.names.KernelNo.{KernelNo}
use Rattle.cache_ident.specs.declared.names.Name.{Name}
use Rattle.cache_ident.specs.declared.names.Name.TheVariants as name
use Rattle.cache_ident.specs.declared.names.SpaceNo.{SpaceNo}
use Rattle.cache_ident.specs.declared.names.Vpn.{Vpn}
use Rattle.phys_groups.specs.declared.rows.Row.{Row}
use Rattle.phys_groups.specs.Rows.{marked, row_name}
use Rattle.phys_groups.specs.Translation.{is_row_of, row_of}
use Rattle.desc_stores.specs.kernel_cache.specs.declared.KernelRec.{KernelRec}
use Rattle.desc_stores.specs.kernel_cache.specs.Kernels as kernel_rec
use Rattle.desc_stores.specs.space_cache.specs.Spaces as space_rec
use Rattle.desc_stores.specs.thread_cache.specs.declared.ThreadRec.{ThreadRec}
use Rattle.desc_stores.specs.thread_cache.specs.Threads as thread_rec
use Rattle.flat_state.specs.declared.events.Machine.{Machine}
use Rattle.flat_state.specs.declared.records.FlatThread.{FlatThread}
use Rattle.flat_state.specs.Dependence.{owner, owner_of_row, owner_of_thread}
use Rattle.flat_state.specs.State.{FlatState}
use Rattle.flat_state.proofs.Places.{fails_if_not_found, get-append, get-set_other, get-set_same}
use Rattle.desc_stores.specs.owner_shelf.specs.declared.shelved.Shelved.{Shelved}
use Rattle.desc_stores.specs.owner_shelf.specs.Rows.{content_under, is_named, row_under}
use Rattle.desc_stores.specs.owner_shelf.proofs.NameLemmas.{eq_itself}
use Rattle.desc_stores.specs.kind_store.specs.Kept as stored
use Rattle.desc_stores.specs.declared.items.Item.{Item}
use Rattle.desc_stores.specs.declared.items.Item.TheVariants as item
use Rattle.desc_stores.specs.Contents.{content_of, Contents}
use Rattle.desc_stores.specs.Sound.{AreOwned, IsExactlyOne}
use Rattle.shown_state.specs.Shown.{flat_kernel, flat_thread, row_of_item, shown, thread_of}
use Rattle.shown_state.specs.Edits.{in_place_of, with_changed, with_mark, with_new, without_row}
use Rattle.shown_state.specs.Owning.{kernel_in, owner_in, OtherOwnersStay, OwnersStay, OwnsAlike}
use Rattle.shown_state.proofs.LookupLemmas.{count_kernels, found_row, found_space, found_thread}
use Rattle.shown_state.proofs.ContentLemmas.{space_in, named_by_page, page_by_name, same_tests}

-- what is found is found again with more behind it
find-append : {X : Type 0} (p : X → Bool) (xs ys : List X) (x : X) → find p xs ≡ Some x → find p (xs ++ ys) ≡ Some x
find-append p [] ys x found = absurd (cc)
find-append {X} p (y ∷ xs) ys x found = by (p y) (λ later. find-append p xs ys x later) found
  where
    by : (b : Bool) → (find p xs ≡ Some x → find p (xs ++ ys) ≡ Some x) → cond b (Some y) (find p xs) ≡ Some x → cond b (Some y) (find p (xs ++ ys)) ≡ Some x
    by true rest found = found
    by false rest found = rest found

-- or once each is changed, if the change leaves the test
find-map : {X : Type 0} (p : X → Bool) (change : X → X) (xs : List X) → ((x : X) → p (change x) ≡ p x) → find p (map change xs) ≡ option_map change (find p xs)
find-map p change [] same = refl
find-map {X} p change (x ∷ xs) same = ap (λ (b : Bool). cond b (Some (change x)) (find p (map change xs))) (same x) ∙ by (p x) (find-map p change xs same)
  where
    by : (b : Bool) → find p (map change xs) ≡ option_map change (find p xs) → cond b (Some (change x)) (find p (map change xs)) ≡ option_map change (cond b (Some x) (find p xs))
    by true rest = refl
    by false rest = rest

-- or among those that stay, if what passes stays
find-filter : {X : Type 0} (p q : X → Bool) (xs : List X) → ((x : X) → p x ≡ true → q x ≡ true) → find p (filter q xs) ≡ find p xs
find-filter p q [] stays = refl
find-filter {X} p q (x ∷ xs) stays = by (find-filter p q xs stays) (p x) refl (q x) refl
  where
    by : find p (filter q xs) ≡ find p xs → (a : Bool) → p x ≡ a → (b : Bool) → q x ≡ b → find p (cond b (x ∷ filter q xs) (filter q xs)) ≡ cond a (Some x) (find p xs)
    by rest true passes true kept = ap (λ (c : Bool). cond c (Some x) (find p (filter q xs))) passes
    by rest true passes false gone = absurd (false≢true (sym gone ∙ stays x passes))
    by rest false fails true kept = ap (λ (c : Bool). cond c (Some x) (find p (filter q xs))) fails ∙ rest
    by rest false fails false gone = rest

-- what passes is found, or something before it
find-some : {X : Type 0} (p : X → Bool) (xs : List X) (k : ℕ) (d : X) → k < length xs → p (get_or xs k d) ≡ true → IsSome (find p xs)
find-some {X} p xs k d below passes = by (find p xs) refl
  where
    by : (o : Option X) → find p xs ≡ o → IsSome o
    by None none = absurd (false≢true (sym (fails_if_not_found p xs k (get_or xs k d) none (slice_get-get_or xs k d below)) ∙ passes))
    by (Some x) found = refl

abbrev owner_among : ℕ → ℕ → Option KernelNo
owner_among n count = if nat_lt n count then Some (record { 0 = 0 }) else None

-- a kernel stays one among more
kernel_among : (n few many : ℕ) → few ≤ many → (kernel : KernelNo) → owner_among n few ≡ Some kernel → owner_among n many ≡ Some kernel
kernel_among n few many le kernel is = by (nat_lt n few) refl is
  where
    below : nat_lt n few ≡ true → nat_lt n many ≡ true
    below passes = grind (arith, nat_tests)

    by : (b : Bool) → nat_lt n few ≡ b → cond b (Some (record { 0 = 0 })) None ≡ Some kernel → owner_among n many ≡ Some kernel
    by true passes is = ap (λ (b : Bool). cond b (Some (record { 0 = 0 })) None) (below passes) ∙ is
    by false fails is = absurd (cc)

-- an owner of a thread or a row is that of its space
thread_owned : (s t : FlatState) → ((n : ℕ) (k : KernelNo) → slice_get s.spaces n ≡ Some k → slice_get t.spaces n ≡ Some k) → (o : Option FlatThread) (kernel : KernelNo) → owner_of_thread s o ≡ Some kernel → owner_of_thread t o ≡ Some kernel
thread_owned s t spaces None kernel is = absurd (cc)
thread_owned s t spaces (Some thread) kernel is = spaces thread.space.0 kernel is

row_owned : (s t : FlatState) → ((n : ℕ) (k : KernelNo) → slice_get s.spaces n ≡ Some k → slice_get t.spaces n ≡ Some k) → (o : Option Row) (kernel : KernelNo) → owner_of_row s o ≡ Some kernel → owner_of_row t o ≡ Some kernel
row_owned s t spaces None kernel is = absurd (cc)
row_owned s t spaces (Some row) kernel is = spaces row.space.0 kernel is

module _ (s : FlatState) where
  -- where a thread or a row has an owner there is one
  thread_there : (o o' : Option FlatThread) (kernel : KernelNo) → ((t : FlatThread) → o ≡ Some t → o' ≡ Some t) → owner_of_thread s o ≡ Some kernel → owner_of_thread s o' ≡ Some kernel
  thread_there None o' kernel there is = absurd (cc)
  thread_there (Some t) o' kernel there is = ap (owner_of_thread s) (there t refl) ∙ is

  row_there : (o o' : Option Row) (kernel : KernelNo) → ((r : Row) → o ≡ Some r → o' ≡ Some r) → owner_of_row s o ≡ Some kernel → owner_of_row s o' ≡ Some kernel
  row_there None o' kernel there is = absurd (cc)
  row_there (Some r) o' kernel there is = ap (owner_of_row s) (there r refl) ∙ is

  -- one more descriptor changes no owner
  pub owners_declared : (content : Item) → OwnersStay s (with_new s content)
  unfolding owner
  owners_declared (item.Kernel kernel) (name.Kernel number) k is = kernel_among number.0 (length s.kernels) (length (s.kernels ++ flat_kernel kernel ∷ [])) (omega (arith, length-append s.kernels (flat_kernel kernel ∷ []))) k is
  owners_declared (item.Kernel kernel) (name.Space number) k is = is
  owners_declared (item.Kernel kernel) (name.Thread number) k is = is
  owners_declared (item.Kernel kernel) (name.Mapping space vpn) k is = is
  owners_declared (item.Space space) (name.Kernel number) k is = is
  owners_declared (item.Space space) (name.Space number) k is = get-append s.spaces (space.kernel ∷ []) number.0 k is
  owners_declared (item.Space space) (name.Thread number) k is = thread_owned s (with_new s (item.Space space)) (λ n k at. get-append s.spaces (space.kernel ∷ []) n k at) (slice_get s.threads number.0) k is
  owners_declared (item.Space space) (name.Mapping of vpn) k is = row_owned s (with_new s (item.Space space)) (λ n k at. get-append s.spaces (space.kernel ∷ []) n k at) (row_of s.rows of vpn.0) k is
  owners_declared (item.Thread thread) (name.Kernel number) k is = is
  owners_declared (item.Thread thread) (name.Space number) k is = is
  owners_declared (item.Thread thread) (name.Thread number) k is = thread_there (slice_get s.threads number.0) (slice_get (s.threads ++ flat_thread thread ∷ []) number.0) k (λ t at. get-append s.threads (flat_thread thread ∷ []) number.0 t at) is
  owners_declared (item.Thread thread) (name.Mapping space vpn) k is = is
  owners_declared (item.Mapping row) (name.Kernel number) k is = is
  owners_declared (item.Mapping row) (name.Space number) k is = is
  owners_declared (item.Mapping row) (name.Thread number) k is = is
  owners_declared (item.Mapping row) (name.Mapping space vpn) k is = row_there (row_of s.rows space vpn.0) (row_of (s.rows ++ row ∷ []) space vpn.0) k (λ r found. find-append (is_row_of space vpn.0) s.rows (row ∷ []) r found) is

  pub owners_kernel : (kernel : KernelRec) → OwnersStay s (with_changed s (item.Kernel kernel))
  unfolding owner
  owners_kernel kernel (name.Kernel number) k is = kernel_among number.0 (length s.kernels) (length (set s.kernels kernel.no.0 (flat_kernel kernel))) (omega (arith, length-set s.kernels kernel.no.0 (flat_kernel kernel))) k is
  owners_kernel kernel (name.Space number) k is = is
  owners_kernel kernel (name.Thread number) k is = is
  owners_kernel kernel (name.Mapping space vpn) k is = is

  pub owners_thread : (thread : ThreadRec) (was : FlatThread) → slice_get s.threads thread.no.0 ≡ Some was → was.space ≡ thread.space → OwnersStay s (with_changed s (item.Thread thread))
  unfolding owner
  owners_thread thread was at same (name.Kernel number) k is = is
  owners_thread thread was at same (name.Space number) k is = is
  owners_thread thread was at same (name.Thread number) k is = elim (cases_eq number.0 thread.no.0) [
    | inl here ↦
        let now : slice_get (set s.threads thread.no.0 (flat_thread thread)) number.0 ≡ Some (flat_thread thread) = ap (slice_get (set s.threads thread.no.0 (flat_thread thread))) here ∙ get-set_same s.threads thread.no.0 (flat_thread thread) was at in
        let before : owner_of_thread s (slice_get s.threads number.0) ≡ slice_get s.spaces was.space.0 = ap (λ (n : ℕ). owner_of_thread s (slice_get s.threads n)) here ∙ ap (owner_of_thread s) at in
        ap (owner_of_thread s) now ∙ ap (λ (space : SpaceNo). slice_get s.spaces space.0) (sym same) ∙ sym before ∙ is
    | inr other ↦ ap (owner_of_thread s) (get-set_other s.threads thread.no.0 number.0 (flat_thread thread) other) ∙ is
  ]
  owners_thread thread was at same (name.Mapping space vpn) k is = is

  -- rows that keep their names keep their owners
  owners_rows : (change : Row → Row) → ((r : Row) → row_name (change r) ≡ row_name r) → OwnersStay s (record s { rows = map change s.rows })
  unfolding owner
  owners_rows change named (name.Kernel number) k is = is
  owners_rows change named (name.Space number) k is = is
  owners_rows change named (name.Thread number) k is = is
  owners_rows change named (name.Mapping space vpn) k is = ap (owner_of_row s) (find-map (is_row_of space vpn.0) change s.rows tests) ∙ by (row_of s.rows space vpn.0) is
    where
      tests : (r : Row) → is_row_of space vpn.0 (change r) ≡ is_row_of space vpn.0 r
      tests r = same_tests _ _ (λ passes. page_by_name space vpn r (sym (named r) ∙ named_by_page space vpn (change r) passes)) (λ passes. page_by_name space vpn (change r) (named r ∙ named_by_page space vpn r passes))

      by : (o : Option Row) → owner_of_row s o ≡ Some k → owner_of_row s (option_map change o) ≡ Some k
      by None is = absurd (cc)
      by (Some r) is = ap (λ (n : Name). slice_get s.spaces (space_in n r.space).0) (named r) ∙ is

  pub owners_row : (row : Row) → OwnersStay s (with_changed s (item.Mapping row))
  owners_row row = owners_rows (in_place_of row) (λ r. by r (is_row_of row.space row.vpn.0 r) refl)
    where
      by : (r : Row) (b : Bool) → is_row_of row.space row.vpn.0 r ≡ b → row_name (cond b row r) ≡ row_name r
      by r true passes = sym (named_by_page row.space row.vpn r passes)
      by r false fails = refl

  pub owners_mark : (space : SpaceNo) (vpn : Vpn) (written : Bool) → OwnersStay s (with_mark s space vpn written)
  owners_mark space vpn written = owners_rows (marked space vpn.0 written) (λ r. by r (is_row_of space vpn.0 r))
    where
      by : (r : Row) (b : Bool) → row_name (cond b (record r { referenced = true; modified = r.modified || written }) r) ≡ row_name r
      by r true = refl
      by r false = refl

  pub owners_retracted : (space : SpaceNo) (vpn : Vpn) → OtherOwnersStay (name.Mapping space vpn) s (without_row s space vpn)
  unfolding owner
  owners_retracted space vpn (name.Kernel number) k other is = is
  owners_retracted space vpn (name.Space number) k other is = is
  owners_retracted space vpn (name.Thread number) k other is = is
  owners_retracted space vpn (name.Mapping of page) k other is = ap (owner_of_row s) (find-filter (is_row_of of page.0) (λ row. not (is_row_of space vpn.0 row)) s.rows (λ row passes. by row passes (is_row_of space vpn.0 row) refl)) ∙ is
    where
      by : (row : Row) → is_row_of of page.0 row ≡ true → (b : Bool) → is_row_of space vpn.0 row ≡ b → not (is_row_of space vpn.0 row) ≡ true
      by row passes true same = absurd (other (sym (named_by_page of page row passes) ∙ named_by_page space vpn row same))
      by row passes false apart = ap not apart

module _ {T : Type 0} (called : T → Name) (kept : stored.Kept T) where
  -- what stands on the shelf is a content of its name
  shelved_there : (k : ℕ) (d : Shelved T) → k < length kept.rows → IsSome (stored.content_of called kept (called (get_or kept.rows k d).content))
  unfolding stored.content_of
  shelved_there k d below =
      let n = called (get_or kept.rows k d).content in
      or_else (stored.loaded_under called kept.cells n) (content_under called kept.rows n) (mapped (row_under called kept.rows n) (find-some (is_named called n) kept.rows k d below (eq_itself n)))
    where
      mapped : (o : Option (Shelved T)) → IsSome o → IsSome (option_map (λ row. row.content) o)
      mapped None some = absurd (false≢true some)
      mapped (Some row) some = refl

      or_else : (a b : Option T) → IsSome b → IsSome (option_or a b)
      or_else None b some = some
      or_else (Some x) b some = refl

some_mapped : {A B : Type 0} (f : A → B) (o : Option A) → IsSome o → IsSome (option_map f o)
some_mapped f None some = absurd (false≢true some)
some_mapped f (Some x) some = refl

module _ (c : Contents) (before after : Name → Option KernelNo) (alike : OwnsAlike c before after) where
  kernels_owned : stored.AreOwned kernel_rec.name_of before c.kernels.rows → stored.AreOwned kernel_rec.name_of after c.kernels.rows
  kernels_owned owned = λ k d below.
      let number = (get_or c.kernels.rows k d).content.no in
      alike (name.Kernel number) (get_or c.kernels.rows k d).owner (some_mapped item.Kernel (stored.content_of kernel_rec.name_of c.kernels (name.Kernel number)) (shelved_there kernel_rec.name_of c.kernels k d below)) (owned k d below)

  spaces_owned : stored.AreOwned space_rec.name_of before c.spaces.rows → stored.AreOwned space_rec.name_of after c.spaces.rows
  spaces_owned owned = λ k d below.
      let number = (get_or c.spaces.rows k d).content.no in
      alike (name.Space number) (get_or c.spaces.rows k d).owner (some_mapped item.Space (stored.content_of space_rec.name_of c.spaces (name.Space number)) (shelved_there space_rec.name_of c.spaces k d below)) (owned k d below)

  threads_owned : stored.AreOwned thread_rec.name_of before c.threads.rows → stored.AreOwned thread_rec.name_of after c.threads.rows
  threads_owned owned = λ k d below.
      let number = (get_or c.threads.rows k d).content.no in
      alike (name.Thread number) (get_or c.threads.rows k d).owner (some_mapped item.Thread (stored.content_of thread_rec.name_of c.threads (name.Thread number)) (shelved_there thread_rec.name_of c.threads k d below)) (owned k d below)

  rows_owned : stored.AreOwned row_name before c.rows.kept.rows → stored.AreOwned row_name after c.rows.kept.rows
  rows_owned owned = λ k d below.
      let row = (get_or c.rows.kept.rows k d).content in
      alike (row_name row) (get_or c.rows.kept.rows k d).owner (some_mapped item.Mapping (stored.content_of row_name c.rows.kept (row_name row)) (shelved_there row_name c.rows.kept k d below)) (owned k d below)

  -- who owns a shelved descriptor by the one owns it by the other
  pub stays_owned : AreOwned before c → AreOwned after c
  stays_owned owned = record { kernels = kernels_owned owned.kernels; spaces = spaces_owned owned.spaces; threads = threads_owned owned.threads; rows = rows_owned owned.rows }

-- the owner is found by the content of its name and that of its space
module _ (machine : Option Machine) (memory : List ℕ) (c : Contents) (one : IsExactlyOne c) where
  by_thread : (o : Option FlatThread) → owner_of_thread (shown machine memory c) o ≡ option_and_then (λ (t : FlatThread). kernel_in c t.space) o
  by_thread None = refl
  by_thread (Some t) = found_space machine memory c one t.space.0

  by_row : (o : Option Row) → owner_of_row (shown machine memory c) o ≡ option_and_then (λ (row : Row). kernel_in c row.space) o
  by_row None = refl
  by_row (Some row) = found_space machine memory c one row.space.0

  pub owner_found : (n : Name) → owner (shown machine memory c) n ≡ owner_in c n
  unfolding owner
  owner_found (name.Kernel kernel) = ap (owner_among kernel.0) (count_kernels machine memory c one)
  owner_found (name.Space space) = found_space machine memory c one space.0
  owner_found (name.Thread thread) = ap (owner_of_thread (shown machine memory c)) (found_thread machine memory c one thread.0) ∙ by_thread (thread_of (content_of c (name.Thread thread)))
  owner_found (name.Mapping space vpn) = ap (owner_of_row (shown machine memory c)) (found_row machine memory c one space vpn) ∙ by_row (row_of_item (content_of c (name.Mapping space vpn)))
