-- What holds of the tables once a kernel has other rights.
use Rattle.std.proofs.Common.{◌≡◌, ℕ, ◌+◌, ◌<◌, ◌≤◌, Bool, true, false, cond, ◌&&◌, List, [], map, filter, length, Option, Some, None, is_some, IsSome, slice_get, slice_set, Contains, refl, ap, sym, ◌∙◌, subst, inl, inr}
use Rattle.std.specs.Prelude.{if◌then◌else◌, option_to_list}
use Rattle.std.specs.Option.{option_map}
use Rattle.std.proofs.lemmas.Bool.{and_from, cases_eq}
use Rattle.std.proofs.lemmas.List.{length-set}
use Rattle.std.proofs.lemmas.List.Elements.{Contains-append_right}
use Rattle.cache_ident.specs.declared.idents.Ident.{Ident}
use Rattle.cache_ident.specs.declared.idents.Kind.{Kind}
use Rattle.cache_ident.specs.declared.idents.Kind.TheVariants as kind
use Rattle.cache_ident.specs.declared.names.Caps.{Caps}
use Rattle.cache_ident.specs.declared.names.KernelNo.{KernelNo}
use Rattle.cache_ident.specs.declared.names.Name.{Name}
use Rattle.cache_ident.specs.declared.names.Name.TheVariants as name
use Rattle.cache_ident.specs.declared.names.SpaceNo.{SpaceNo}
use Rattle.cache_ident.specs.declared.names.Vpn.{Vpn}
use Rattle.cache_ident.specs.Names.{amount_of}
use Rattle.cache_ident.specs.Residents.{Resident}
use Rattle.depend_lists.specs.declared.nodes.Node.{Node}
use Rattle.phys_groups.specs.declared.rows.Row.{Row}
use Rattle.phys_groups.specs.Rows.{row_name, HasOneRowAPage}
use Rattle.phys_groups.specs.Translation.{row_of}
use Rattle.row_store.specs.signal_pages.specs.Signals.{is_signal_row_of}
use Rattle.kernel_cache.specs.declared.KernelRec.{KernelRec}
use Rattle.desc_groups.specs.flat_state.specs.declared.events.Machine.{Machine}
use Rattle.desc_groups.specs.flat_state.specs.declared.records.FlatKernel.{FlatKernel}
use Rattle.desc_groups.specs.flat_state.specs.Declaration.{declared, locks_granted}
use Rattle.desc_groups.specs.flat_state.specs.Declaration.{with_right as with_right_in}
use Rattle.desc_groups.specs.flat_state.specs.State.{FlatState}
use Rattle.desc_groups.specs.flat_state.specs.Translation.{is_fit_row}
use Rattle.desc_groups.specs.flat_state.specs.Dependence.{owner, parents, parents_of_found, signal_rows_of, Depends}
use Rattle.desc_groups.specs.flat_state.proofs.Places.{get-set_other, get-set_same, sum_by-set_same}
use Rattle.desc_groups.specs.flat_laws.proofs.Members.{Contains-behind, Contains-map}
use Rattle.desc_groups.specs.run_journal.specs.Legal.{locked_by, AreGood}
use Rattle.desc_groups.specs.run_journal.proofs.Others.{Contains-from_filter}
use Rattle.desc_groups.specs.group_laws.proofs.Ranks.{own_row}
use Rattle.kernel_cache.specs.Kernels as kernel_rec
use Rattle.row_store.specs.kind_store.specs.Kept as stored
use Rattle.row_store.specs.kind_store.specs.Changes.{is_name}
use Rattle.desc_groups.specs.desc_stores.specs.declared.items.Item.{Item}
use Rattle.desc_groups.specs.desc_stores.specs.declared.items.Item.TheVariants as item
use Rattle.desc_groups.specs.desc_stores.specs.Changes.{HasContent}
use Rattle.desc_groups.specs.desc_stores.specs.Contents.{content_of, residents_of, Contents}
use Rattle.desc_groups.specs.desc_stores.specs.Items.{name_of}
use Rattle.desc_groups.specs.desc_stores.specs.Sound.{AreOwned, IsExactlyOne}
use Rattle.row_store.specs.owner_shelf.proofs.NameLemmas.{same_by_eq}
use Rattle.desc_groups.specs.shown_state.specs.Shown.{flat_kernel, kernel_of, shown}
use Rattle.desc_groups.specs.shown_state.specs.Edits.{with_changed}
use Rattle.desc_groups.specs.shown_state.proofs.ChangeLemmas.{change_shown}
use Rattle.desc_groups.specs.shown_state.proofs.ContentLemmas.{item_has_name, same_tests}
use Rattle.desc_groups.specs.shown_state.proofs.LookupLemmas.{found_kernel, one_row_a_page}
use Rattle.desc_groups.specs.shown_state.proofs.MoveLemmas.{names_in_kernels}
use Rattle.desc_groups.specs.shown_state.proofs.OwnerLemmas.{owners_kernel, stays_owned}
use Rattle.desc_groups.specs.store_residents.proofs.StayLemmas.{slots-is, slots-kernels}
use Rattle.desc_groups.specs.desc_parents.specs.Seen.{seen, HasPlainRows}
use Rattle.desc_groups.specs.declared.departures.Gone.{Gone}
use Rattle.desc_tables.specs.Calls.{with_right, with_rights}
use Rattle.desc_tables.specs.May.{wanted_of}
use Rattle.desc_tables.specs.Tables.{ArePlaced, AreSound}
use Rattle.desc_tables.proofs.LikeLemmas.{fit_there, like_for, KeepsLoaded}
use Rattle.desc_tables.proofs.ListLemmas.{filter-agree}
use Rattle.desc_tables.proofs.SoundLemmas.{sound_like, AreCounted, IsLikeFor, RoomIn}

-- what passes for a signal row of a frame, and is fit
abbrev pub signals_on : FlatState → Row → Row → Bool
signals_on s x q = is_signal_row_of x.frame q && is_fit_row s q

-- two states that differ in their kernels, in both of which what is loaded is good
module _ (s : FlatState) (rs : List Resident) (single : HasOneRowAPage s.rows) where
  abbrev pub under : List FlatKernel → FlatState
  under kernels = record s { kernels = kernels }

  -- a loaded message row and a signal row of its frame
  module _ (r : Resident) (r_there : Contains rs r) (space : SpaceNo) (vpn : Vpn) (is : r.name ≡ name.Mapping space vpn) (x : Row) (at : row_of s.rows space vpn.0 ≡ Some x) (message : x.flags.m ≡ true) (q : Row) (q_there : Contains s.rows q) (signal : is_signal_row_of x.frame q ≡ true) where
    pub depends_on : (a : List FlatKernel) → is_fit_row (under a) q ≡ true → Depends (under a) r.name (row_name q)
    unfolding parents
    depends_on a fit =
        let listed : Contains (filter (signals_on (under a) x) s.rows) q = Contains-from_filter (signals_on (under a) x) s.rows q q_there (and_from (is_signal_row_of x.frame q) (is_fit_row (under a) q) signal fit) in
        let among : Contains (signal_rows_of (under a) x) q = subst (λ (m : Bool). Contains (if m then filter (signals_on (under a) x) s.rows else []) q) (sym message) listed in
        let its : Contains (parents_of_found (under a) (Some x)) (row_name q) =
        Contains-behind (name.Space x.space) _ (row_name q) (Contains-append_right (option_to_list (option_map name.Thread x.receiver)) (map row_name (signal_rows_of (under a) x)) (row_name q) (Contains-map row_name (signal_rows_of (under a) x) q among)) in
        subst (λ (n : Name). Depends (under a) n (row_name q)) (sym is) (subst (λ (o : Option Row). Contains (parents_of_found (under a) o) (row_name q)) (sym at) its)

    fit_in_other : (a b : List FlatKernel) → AreGood (under a) rs → AreGood (under b) rs → is_fit_row (under a) q ≡ true → is_fit_row (under b) q ≡ true
    fit_in_other a b good_a good_b fit =
        let o = (good_a r r_there).parents (row_name q) (depends_on a fit) in
        fit_there (under b) rs good_b o.0 q.space q.vpn q o.1 o.2 (own_row s.rows single q q_there)

  same_signals : (a : List FlatKernel) → AreGood s rs → AreGood (under a) rs → (r : Resident) → Contains rs r → (space : SpaceNo) (vpn : Vpn) → r.name ≡ name.Mapping space vpn → (x : Row) → row_of s.rows space vpn.0 ≡ Some x → signal_rows_of (under a) x ≡ signal_rows_of s x
  same_signals a good good_a r r_there space vpn is x at = by x.flags.m refl
    where
      test : x.flags.m ≡ true → (q : Row) → Contains s.rows q → (b : Bool) → is_signal_row_of x.frame q ≡ b → (b && is_fit_row (under a) q) ≡ (b && is_fit_row s q)
      test message q q_there true signal =
          same_tests (is_fit_row (under a) q) (is_fit_row s q)
          (fit_in_other r r_there space vpn is x at message q q_there signal a s.kernels good_a good)
          (fit_in_other r r_there space vpn is x at message q q_there signal s.kernels a good good_a)
      test message q q_there false signal = refl

      by : (m : Bool) → x.flags.m ≡ m → (if m then filter (signals_on (under a) x) s.rows else []) ≡ (if m then filter (signals_on s x) s.rows else [])
      by true message = filter-agree (signals_on (under a) x) (signals_on s x) s.rows (λ q q_there. test message q q_there (is_signal_row_of x.frame q) refl)
      by false message = refl

  keeps_rights : (a : List FlatKernel) → AreGood s rs → AreGood (under a) rs → ((n : ℕ) → is_some (slice_get s.kernels n) ≡ true → is_some (slice_get a n) ≡ true) → KeepsLoaded s (under a) rs
  keeps_rights a good good_a stay = record {
    kernels = stay;
    spaces = λ k kernel at. at;
    threads = λ k t at. (t, at, refl);
    rows = λ r space vpn x there is at. record {
      row = x;
      there = at;
      space = refl;
      message = refl;
      receiver = refl;
      signals = ap (map row_name) (same_signals a good good_a r there space vpn is x at);
      fit = fit_there (under a) rs good_a r space vpn x there is at;
    };
  }

-- a kernel with other rights and the same limits
module _ (kernels : List FlatKernel) (n : ℕ) (was now : FlatKernel) (here : slice_get kernels n ≡ Some was) (same : now.limits ≡ was.limits) where
  still_there : (k : ℕ) → is_some (slice_get kernels k) ≡ true → is_some (slice_get (slice_set kernels n now) k) ≡ true
  still_there k some = elim (cases_eq k n) [
    | inl is ↦ ap (λ (o : Option FlatKernel). is_some o) (subst (λ (m : ℕ). slice_get (slice_set kernels n now) m ≡ Some now) (sym is) (get-set_same kernels n now was here))
    | inr other ↦ ap (λ (o : Option FlatKernel). is_some o) (get-set_other kernels n k now other) ∙ some
  ]

  same_grants : (of : Kind) → amount_of (locks_granted (slice_set kernels n now)) of ≡ amount_of (locks_granted kernels) of
  same_grants kind.Kernel = sum_by-set_same (λ k. k.limits.kernels) kernels n now was here (ap (λ (l : Caps). l.kernels) same)
  same_grants kind.Space = sum_by-set_same (λ k. k.limits.spaces) kernels n now was here (ap (λ (l : Caps). l.spaces) same)
  same_grants kind.Thread = sum_by-set_same (λ k. k.limits.threads) kernels n now was here (ap (λ (l : Caps). l.threads) same)
  same_grants kind.Mapping = sum_by-set_same (λ k. k.limits.mappings) kernels n now was here (ap (λ (l : Caps). l.mappings) same)

module _ (old new : Contents) (one : IsExactlyOne old) (number : KernelNo) (group : ℕ) (right : Bool × Bool) (was : KernelRec) (there : content_of old (name.Kernel number) ≡ Some (item.Kernel was)) (has : HasContent old new (item.Kernel (with_right group right was))) (only : new ≡ record old { kernels = new.kernels }) where
  abbrev granted : KernelRec
  granted = with_right group right was

  own_number : was.no ≡ number
  own_number = let named = item_has_name old (name.Kernel number) (item.Kernel was) there in cc

  found : content_of old (name_of (item.Kernel granted)) ≡ Some (item.Kernel was)
  found = ap (λ (no : KernelNo). content_of old (name.Kernel no)) own_number ∙ there

  kernel_found : (machine : Option Machine) (memory : List ℕ) → slice_get (shown machine memory old).kernels was.no.0 ≡ Some (flat_kernel was)
  kernel_found machine memory = found_kernel machine memory old one was.no.0 ∙ ap kernel_of found

  shown_changed : (machine : Option Machine) (memory : List ℕ) → shown machine memory new ≡ with_changed (shown machine memory old) (item.Kernel granted)
  shown_changed machine memory = change_shown machine memory old new one (names_in_kernels old new only) (item.Kernel granted) has (subst (λ (o : Option Item). IsSome o) (sym found) refl)

  changed_granted : (s : FlatState) → slice_get s.kernels was.no.0 ≡ Some (flat_kernel was) → with_changed s (item.Kernel granted) ≡ with_rights s number group right
  unfolding declared
  changed_granted s at =
      ap (λ (o : Option FlatKernel). record s { kernels = with_right_in s.kernels o was.no.0 group right }) (sym at)
      ∙ ap (λ (no : KernelNo). record s { kernels = with_right_in s.kernels (slice_get s.kernels no.0) no.0 group right }) own_number

  pub shown_granted : (machine : Option Machine) (memory : List ℕ) → shown machine memory new ≡ with_rights (shown machine memory old) number group right
  shown_granted machine memory = shown_changed machine memory ∙ changed_granted (shown machine memory old) (kernel_found machine memory)

  -- what a kernel has that isn't its rights
  kernel_like : (n : Name) (kernel : KernelRec) → content_of new n ≡ Some (item.Kernel kernel) → (k : KernelRec) × (content_of old n ≡ Some (item.Kernel k)) × (k.no ≡ kernel.no) × (k.locked ≡ kernel.locked) × (k.limits ≡ kernel.limits)
  kernel_like n kernel at = by (is_name (name_of (item.Kernel granted)) n) refl (sym (has n) ∙ at)
    where
      by : (b : Bool) → is_name (name_of (item.Kernel granted)) n ≡ b → cond b (Some (item.Kernel granted)) (content_of old n) ≡ Some (item.Kernel kernel) → (k : KernelRec) × (content_of old n ≡ Some (item.Kernel k)) × (k.no ≡ kernel.no) × (k.locked ≡ kernel.locked) × (k.limits ≡ kernel.limits)
      by true is same =
          let one : granted ≡ kernel = cc in
          (was, ap (content_of old) (sym (same_by_eq (name_of (item.Kernel granted)) n is)) ∙ found, ap (λ (k : KernelRec). k.no) one, ap (λ (k : KernelRec). k.locked) one, ap (λ (k : KernelRec). k.limits) one)
      by false is same = (kernel, same, refl, refl, refl)

  module _ (caps : Caps) (gone : List Gone) (left : List Name) (pairs : List (Ident × Node)) (sound : AreSound (record { caps = caps; contents = old; gone = gone; left = left }) pairs) (now_one : IsExactlyOne new) (residents : residents_of new ≡ residents_of old) (slots : length new.kernels.cells ≡ length old.kernels.cells) (owned : AreOwned (owner (seen old)) new) (good : AreGood (with_rights (seen old) number group right) (residents_of old)) where
    abbrev after : FlatState
    after = with_changed (seen old) (item.Kernel granted)

    here : slice_get (seen old).kernels was.no.0 ≡ Some (flat_kernel was)
    here = kernel_found None []

    good_after : AreGood after (residents_of old)
    good_after = subst (λ (s : FlatState). AreGood s (residents_of old)) (sym (changed_granted (seen old) here)) good

    as_many : length (slice_set (seen old).kernels was.no.0 (flat_kernel granted)) ≡ length (seen old).kernels
    as_many = length-set (seen old).kernels was.no.0 (flat_kernel granted)

    room_after : RoomIn caps after
    room_after some of =
        let before : 0 < length (seen old).kernels = subst (λ (n : ℕ). 0 < n) as_many some in
        subst (λ (n : ℕ). n + wanted_of of ≤ amount_of caps of) (sym (same_grants (seen old).kernels was.no.0 (flat_kernel was) (flat_kernel granted) here refl of)) (sound.room before of)

    counted : AreCounted (seen old) (residents_of old) new
    counted n kernel at kind =
        let k = kernel_like n kernel at in
        ap (λ (l : Caps). amount_of l kind) (sym k.3) ∙ sound.whole.counted n k.0 k.1 kind ∙ ap (λ (no : KernelNo). locked_by (seen old) (residents_of old) no kind) k.2

    pub sound_granted : AreSound (record { caps = caps; contents = new; gone = gone; left = left }) pairs
    sound_granted =
        let shows : seen new ≡ after = shown_changed None [] in
        let like : IsLikeFor (seen old) after (residents_of old) =
        like_for (seen old) after (residents_of old) sound.whole.good
        (keeps_rights (seen old) (residents_of old) (one_row_a_page None [] old one) (slice_set (seen old).kernels was.no.0 (flat_kernel granted)) sound.whole.good good_after (still_there (seen old).kernels was.no.0 (flat_kernel was) (flat_kernel granted) here refl)) in
        let plain : HasPlainRows after = record { agreed = sound.whole.rows.agreed; framed = sound.whole.rows.framed; few = sound.whole.rows.few } in
        let placed : ArePlaced after = record { spaces = λ kernel at. subst (λ (n : ℕ). kernel.0 < n) (sym as_many) (sound.placed.spaces kernel at); rows = sound.placed.rows } in
        sound_like caps old new gone left pairs sound now_one
        (slots-is old (record old { kernels = new.kernels }) new only (slots-kernels old new.kernels old.kernel_count old.issued old.spare slots))
        residents
        (subst HasPlainRows (sym shows) plain)
        (subst (λ (s : FlatState). IsLikeFor (seen old) s (residents_of old)) (sym shows) like)
        (stays_owned new (owner (seen old)) (owner (seen new)) (λ n kernel some at. subst (λ (s : FlatState). owner s n ≡ Some kernel) (sym shows) (owners_kernel (seen old) granted n kernel at)) owned)
        counted
        (subst (RoomIn caps) (sym shows) room_after)
        (λ n kernel at of. let k = kernel_like n kernel at in subst (λ (l : Caps). amount_of l of ≤ amount_of kernel.limits of) k.3 (subst (λ (l : Caps). amount_of k.0.locked of ≤ amount_of l of) k.4 (sound.limited n k.0 k.1 of)))
        (subst ArePlaced (sym shows) placed)

-- what stands under the name of a kernel is one
pub kernel_there : (c : Contents) (number : KernelNo) → IsSome (content_of c (name.Kernel number)) → (was : KernelRec) × (content_of c (name.Kernel number) ≡ Some (item.Kernel was))
kernel_there c number some = by (stored.content_of kernel_rec.name_of c.kernels (name.Kernel number)) refl some
  where
    by : (o : Option KernelRec) → stored.content_of kernel_rec.name_of c.kernels (name.Kernel number) ≡ o → IsSome (option_map item.Kernel o) → (was : KernelRec) × (content_of c (name.Kernel number) ≡ Some (item.Kernel was))
    by None at some = absurd (cc)
    by (Some was) at some = (was, ap (option_map item.Kernel) at)
