-- Why a declaration that breaks no rule may be put on a shelf, and the first kernel be loaded and locked.
use Rattle.std.proofs.Common.{◌≡◌, ℕ, ◌+◌, ◌*◌, ◌<◌, ◌≤◌, Bool, true, false, not, List, [], ◌∷◌, length, Contains, Option, Some, None, slice_get, refl, ap, sym, ◌∙◌, subst, inl, inr, arith}
use Rattle.std.specs.Prelude.{count_by, if◌then◌else◌, is_some, nat_le, nat_lt, ◌&&◌, ◌||◌, ◌==◌, IsSome}
use Rattle.std.proofs.lemmas.Bool.{and_parts, eqb-true, leb-false, leb-true, ltb-true, not-false, or_parts}
use Rattle.std.proofs.lemmas.Option.{slice_get_cases, slice_get_past}
use Rattle.cache_ident.specs.declared.idents.Ident.{Ident}
use Rattle.cache_ident.specs.declared.idents.Kind.{Kind}
use Rattle.cache_ident.specs.declared.idents.Kind.TheVariants as kind
use Rattle.cache_ident.specs.declared.names.Caps.{Caps}
use Rattle.cache_ident.specs.declared.names.Frame.{Frame}
use Rattle.cache_ident.specs.declared.names.KernelNo.{KernelNo}
use Rattle.cache_ident.specs.declared.names.Name.{Name}
use Rattle.cache_ident.specs.declared.names.Name.TheVariants as name
use Rattle.cache_ident.specs.declared.names.SpaceNo.{SpaceNo}
use Rattle.cache_ident.specs.declared.names.ThreadNo.{ThreadNo}
use Rattle.cache_ident.specs.declared.names.Vpn.{Vpn}
use Rattle.cache_ident.specs.Names.{amount_of, first_name}
use Rattle.cache_ident.specs.Residents.{with_loaded, Resident}
use Rattle.quantum.specs.depend_lists.specs.declared.nodes.Node.{Node}
use Rattle.phys_groups.specs.declared.rows.Flags.{Flags}
use Rattle.phys_groups.specs.declared.rows.Row.{Row}
use Rattle.phys_groups.specs.Translation.{row_of}
use Rattle.quantum.specs.signal_pages.specs.Signals.{is_signal_row_of}
use Rattle.quantum.specs.flat_state.specs.declared.events.Decl.{Decl}
use Rattle.quantum.specs.flat_state.specs.declared.events.Decl.TheVariants as decls
use Rattle.quantum.specs.flat_state.specs.declared.events.Machine.{Machine}
use Rattle.quantum.specs.flat_state.specs.declared.records.FlatKernel.{FlatKernel}
use Rattle.quantum.specs.flat_state.specs.declared.records.FlatThread.{FlatThread}
use Rattle.quantum.specs.flat_state.specs.Declaration.{agree, broken_rule, caps_of, has_four, has_frame, has_no_flag, has_receiver, is_receiver_in, leaves_room, locks_granted, may_lock_kernels, new_row}
use Rattle.quantum.specs.flat_state.specs.Dependence.{owner, parents}
use Rattle.quantum.specs.flat_state.specs.Names.{is_fit_name, stands}
use Rattle.quantum.specs.flat_state.specs.State.{groups_of, FlatState}
use Rattle.quantum.specs.flat_state.specs.Translation.{is_fit_row}
use Rattle.quantum.specs.flat_state.specs.WellFormed.{IsWellFormed}
use Rattle.quantum.specs.flat_state.proofs.FormedParts.{breaks_none, other_rule}
use Rattle.quantum.specs.flat_laws.proofs.Members.{Contains-cases, contains_nothing}
use Rattle.desc_tables.specs.slot_cache.proofs.SlotLemmas.{some_same}
use Rattle.desc_tables.specs.run_journal.specs.Groups.{HasParents}
use Rattle.desc_tables.specs.run_journal.specs.Legal.{count_of, first_ident, is_kind, limit_of, limits_in, locked_by}
use Rattle.desc_tables.specs.group_laws.specs.Leaving.{without_all}
use Rattle.desc_tables.specs.kernel_cache.specs.declared.KernelRec.{KernelRec}
use Rattle.desc_tables.specs.space_cache.specs.declared.SpaceRec.{SpaceRec}
use Rattle.desc_tables.specs.thread_cache.specs.declared.ThreadRec.{ThreadRec}
use Rattle.desc_tables.specs.desc_stores.specs.declared.items.Item.{Item}
use Rattle.desc_tables.specs.desc_stores.specs.declared.items.Item.TheVariants as item
use Rattle.desc_tables.specs.desc_stores.specs.Contents.{content_of, residents_of, Contents, IsFullOf}
use Rattle.desc_tables.specs.desc_stores.specs.Sound.{IsExactlyOne}
use Rattle.desc_tables.specs.shown_state.specs.Found.{AreFound, AreListed}
use Rattle.desc_tables.specs.shown_state.specs.Shown.{shown}
use Rattle.desc_tables.specs.shown_state.proofs.LookupLemmas.{all_found, all_listed}
use Rattle.desc_tables.specs.store_residents.proofs.ContentLemmas.{shelved_iff}
use Rattle.desc_tables.specs.store_residents.proofs.ResidentLemmas.{loaded_resident}
use Rattle.desc_tables.specs.store_residents.proofs.SlotLaws.{full_iff}
use Rattle.desc_tables.specs.desc_parents.specs.Seen.{seen}
use Rattle.desc_tables.specs.desc_groups.specs.declared.departures.Gone.{Gone}
use Rattle.desc_tables.specs.desc_groups.specs.Moves.{idents_of, MayBeLocked}
use Rattle.desc_tables.specs.desc_groups.specs.Whole.{AreWhole}
use Rattle.desc_tables.specs.May.{wanted_of, HasNoMessages, MayBeDeclared, MayBeLoaded}
use Rattle.board_laws.specs.Moves.{Declares, IsLoad}
use Rattle.board_laws.proofs.First.{first}
use Rattle.board_laws.proofs.Shown.{limit_shown}

pub none_from : {X : Type 0} (o : Option X) → is_some o ≡ false → o ≡ None
none_from None e = refl
none_from (Some x) e = absurd (cc)

pub and_second : (a b : Bool) → a ≡ true → (a && b) ≡ false → b ≡ false
and_second true b is e = e
and_second false b is e = absurd (cc)

pub some_within : {X : Type 0} (xs : List X) (n : ℕ) → n < length xs → is_some (slice_get xs n) ≡ true
some_within xs n within = elim (slice_get_cases xs n).1 [
  | inl found ↦ ap is_some found.2
  | inr past ↦ absurd (let low = past.0 in omega arith)
]

pub none_past : {X : Type 0} (xs : List X) (n : ℕ) → n ≡ length xs → is_some (slice_get xs n) ≡ false
none_past xs n is = ap is_some (slice_get_past xs n (omega arith))

-- what is left beside the limits is left of each kind
pub room_left : (granted caps limits : Caps) → leaves_room caps granted limits ≡ true → (of : Kind) → amount_of granted of + (amount_of limits of + wanted_of of) ≤ amount_of caps of
room_left granted caps limits e of = by of
  where
    kernels : (nat_le (granted.kernels + limits.kernels + 5) caps.kernels ≡ true) × ((nat_le (granted.spaces + limits.spaces + 5) caps.spaces && (nat_le (granted.threads + limits.threads + 5) caps.threads && nat_le (granted.mappings + limits.mappings + 6) caps.mappings)) ≡ true)
    kernels = and_parts (nat_le (granted.kernels + limits.kernels + 5) caps.kernels) _ e

    spaces : (nat_le (granted.spaces + limits.spaces + 5) caps.spaces ≡ true) × ((nat_le (granted.threads + limits.threads + 5) caps.threads && nat_le (granted.mappings + limits.mappings + 6) caps.mappings) ≡ true)
    spaces = and_parts (nat_le (granted.spaces + limits.spaces + 5) caps.spaces) _ kernels.1

    threads : (nat_le (granted.threads + limits.threads + 5) caps.threads ≡ true) × (nat_le (granted.mappings + limits.mappings + 6) caps.mappings ≡ true)
    threads = and_parts (nat_le (granted.threads + limits.threads + 5) caps.threads) _ spaces.1

    by : (of : Kind) → amount_of granted of + (amount_of limits of + wanted_of of) ≤ amount_of caps of
    by kind.Kernel = let room = leb-true (granted.kernels + limits.kernels + 5) caps.kernels kernels.0 in omega arith
    by kind.Space = let room = leb-true (granted.spaces + limits.spaces + 5) caps.spaces spaces.0 in omega arith
    by kind.Thread = let room = leb-true (granted.threads + limits.threads + 5) caps.threads threads.0 in omega arith
    by kind.Mapping = let room = leb-true (granted.mappings + limits.mappings + 6) caps.mappings threads.1 in omega arith

module _ (m : Machine) (memory : List ℕ) (c : Contents) (one : IsExactlyOne c) where
  abbrev s : FlatState
  s = shown (Some m) memory c

  found : AreFound s c
  found = all_found (Some m) memory c one

  listed : AreListed s c
  listed = all_listed (Some m) memory c one

  seen_kernels : s.kernels ≡ (seen c).kernels
  unfolding shown
  seen_kernels = refl

  seen_rows : s.rows ≡ (seen c).rows
  unfolding shown
  seen_rows = refl

  seen_threads : s.threads ≡ (seen c).threads
  unfolding shown
  seen_threads = refl

  caps_shown : caps_of s.machine ≡ m.caps
  unfolding shown
  caps_shown = refl

  no_content : (n : Name) → stands s n ≡ false → content_of c n ≡ None
  no_content n e = none_from (content_of c n) (sym (found.stands n) ∙ e)

  pub some_content : (n : Name) → stands s n ≡ true → IsSome (content_of c n)
  some_content n e = sym (found.stands n) ∙ e

  pub kernel_stands : (kernel : KernelNo) → kernel.0 < length s.kernels → stands s (name.Kernel kernel) ≡ true
  unfolding stands
  kernel_stands kernel within = some_within s.kernels kernel.0 within

  space_stands : (space : SpaceNo) → space.0 < length s.spaces → stands s (name.Space space) ≡ true
  unfolding stands
  space_stands space within = some_within s.spaces space.0 within

  new_kernel_name : (kernel : KernelNo) → kernel.0 ≡ length s.kernels → stands s (name.Kernel kernel) ≡ false
  unfolding stands
  new_kernel_name kernel is = none_past s.kernels kernel.0 is

  new_space_name : (space : SpaceNo) → space.0 ≡ length s.spaces → stands s (name.Space space) ≡ false
  unfolding stands
  new_space_name space is = none_past s.spaces space.0 is

  new_thread_name : (thread : ThreadNo) → thread.0 ≡ length s.threads → stands s (name.Thread thread) ≡ false
  unfolding stands
  new_thread_name thread is = none_past s.threads thread.0 is

  new_row_name : (space : SpaceNo) (vpn : Vpn) → is_some (row_of s.rows space vpn.0) ≡ false → stands s (name.Mapping space vpn) ≡ false
  unfolding stands
  new_row_name space vpn is = is

  module _ (caps : Caps) (machine : caps ≡ m.caps) where
    pub kernel_may : (number : KernelNo) (limits : Caps) (kernel : KernelRec) → broken_rule s (decls.Kernel number limits) ≡ None → Declares (decls.Kernel number limits) (item.Kernel kernel) → MayBeDeclared caps c (item.Kernel kernel)
    unfolding broken_rule
    kernel_may number limits kernel e is =
        let rule = other_rule s.machine s (decls.Kernel number limits) refl e in
        let next = breaks_none (not (number.0 == length s.kernels)) 8 _ rule in
        let few = breaks_none (nat_le 1024 (length s.kernels)) 9 _ next.1 in
        let locking = breaks_none (not (may_lock_kernels number.0 limits)) 10 _ few.1 in
        let leaving = breaks_none (not (leaves_room (caps_of s.machine) (locks_granted s.kernels) limits)) 11 _ locking.1 in
        let number_is : number.0 ≡ length s.kernels = eqb-true number.0 (length s.kernels) (not-false _ next.0) in
        let own_number : kernel.no.0 ≡ length s.kernels = ap (λ (k : KernelNo). k.0) is.0 ∙ number_is in
        let below = leb-false 1024 (length s.kernels) few.0 in
        let count = listed.kernels in
        let limits_are : kernel.limits ≡ limits = ap (λ (k : FlatKernel). k.limits) is.1 in
        let room = room_left (locks_granted s.kernels) (caps_of s.machine) limits (not-false _ leaving.0) in
        record {
          absent = no_content (name.Kernel kernel.no) (new_kernel_name kernel.no own_number);
          next = (own_number ∙ count, omega arith);
          its = record {
            none_locked = is.2;
            room = λ of.
                subst (λ (cs : Caps). amount_of (locks_granted (seen c).kernels) of + (amount_of kernel.limits of + wanted_of of) ≤ amount_of cs of) (caps_shown ∙ sym machine)
                (subst (λ (ls : Caps). amount_of (locks_granted (seen c).kernels) of + (amount_of ls of + wanted_of of) ≤ amount_of (caps_of s.machine) of) (sym limits_are)
                (subst (λ (ks : List FlatKernel). amount_of (locks_granted ks) of + (amount_of limits of + wanted_of of) ≤ amount_of (caps_of s.machine) of) seen_kernels (room of)));
          };
        }

    pub space_may : (number : SpaceNo) (kernel : KernelNo) (space : SpaceRec) → broken_rule s (decls.Space number kernel) ≡ None → Declares (decls.Space number kernel) (item.Space space) → MayBeDeclared caps c (item.Space space)
    unfolding broken_rule
    space_may number kernel space e is =
        let rule = other_rule s.machine s (decls.Space number kernel) refl e in
        let next = breaks_none (not (number.0 == length s.spaces)) 8 _ rule in
        let few = breaks_none (nat_le 4096 (length s.spaces)) 9 _ next.1 in
        let owned = breaks_none (nat_le (length s.kernels) kernel.0) 12 _ few.1 in
        let number_is : number.0 ≡ length s.spaces = eqb-true number.0 (length s.spaces) (not-false _ next.0) in
        let own_number : space.no.0 ≡ length s.spaces = ap (λ (k : SpaceNo). k.0) is.0 ∙ number_is in
        let below = leb-false 4096 (length s.spaces) few.0 in
        let count = listed.spaces in
        record {
          absent = no_content (name.Space space.no) (new_space_name space.no own_number);
          next = (own_number ∙ count, omega arith);
          its = subst (λ (k : KernelNo). IsSome (content_of c (name.Kernel k))) (sym is.1) (some_content (name.Kernel kernel) (kernel_stands kernel (leb-false (length s.kernels) kernel.0 owned.0)));
        }

    pub thread_may : (number : ThreadNo) (space : SpaceNo) (pc priority a0 a1 : ℕ) (thread : ThreadRec) → broken_rule s (decls.Thread number space pc priority a0 a1) ≡ None → Declares (decls.Thread number space pc priority a0 a1) (item.Thread thread) → MayBeDeclared caps c (item.Thread thread)
    unfolding broken_rule
    thread_may number space pc priority a0 a1 thread e is =
        let rule = other_rule s.machine s (decls.Thread number space pc priority a0 a1) refl e in
        let next = breaks_none (not (number.0 == length s.threads)) 8 _ rule in
        let few = breaks_none (nat_le 16384 (length s.threads)) 9 _ next.1 in
        let owned = breaks_none (nat_le (length s.spaces) space.0) 12 _ few.1 in
        let number_is : number.0 ≡ length s.threads = eqb-true number.0 (length s.threads) (not-false _ next.0) in
        let own_number : thread.no.0 ≡ length s.threads = ap (λ (t : FlatThread). t.no.0) is ∙ number_is in
        let own_space : thread.space ≡ space = ap (λ (t : FlatThread). t.space) is in
        let below = leb-false 16384 (length s.threads) few.0 in
        let count = listed.threads in
        record {
          absent = no_content (name.Thread thread.no) (new_thread_name thread.no own_number);
          next = (own_number ∙ count, omega arith);
          its = subst (λ (k : SpaceNo). IsSome (content_of c (name.Space k))) (sym own_space) (some_content (name.Space space) (space_stands space (leb-false (length s.spaces) space.0 owned.0)));
        }

    module _ (formed : IsWellFormed s) where
      -- a new row, where it is no signal row that a loaded message row would depend on
      pub row_may : (space : SpaceNo) (vpn : Vpn) (frame : Frame) (flags : Flags) (receiver : Option ThreadNo)
          → (content_of c (name.Mapping space vpn) ≡ None → is_some receiver ≡ true → is_fit_row (seen c) (new_row space vpn frame flags receiver) ≡ true → HasNoMessages c (new_row space vpn frame flags receiver))
          → broken_rule s (decls.Map space vpn frame flags receiver) ≡ None → MayBeDeclared caps c (item.Mapping (new_row space vpn frame flags receiver))
      unfolding broken_rule
      row_may space vpn frame flags receiver alone e =
          let rule = other_rule s.machine s (decls.Map space vpn frame flags receiver) refl e in
          let flagged = breaks_none (has_no_flag flags) 4 _ rule in
          let few = breaks_none (nat_le 262144 (length s.rows)) 9 _ flagged.1 in
          let there = breaks_none (nat_le (length s.spaces) space.0 || not (has_receiver s.threads receiver)) 12 _ few.1 in
          let placed = breaks_none (not (has_frame s frame) || nat_lt 1048575 vpn.0) 13 _ there.1 in
          let agreed = breaks_none (not (agree flags (is_some receiver))) 16 _ placed.1 in
          let fresh = breaks_none (is_some (row_of s.rows space vpn.0)) 17 _ agreed.1 in
          let received = breaks_none (not (is_receiver_in space s.threads receiver)) 18 _ fresh.1 in
          let four = breaks_none (is_some receiver && has_four s.rows frame) 19 _ received.1 in
          let in_space = leb-false (length s.spaces) space.0 (or_parts _ _ there.0).0 in
          let in_memory = ltb-true frame.0 (128 * groups_of s.machine) (not-false _ (or_parts (not (has_frame s frame)) (nat_lt 1048575 vpn.0) placed.0).0) in
          let groups = formed.memory.groups in
          let absent = no_content (name.Mapping space vpn) (new_row_name space vpn fresh.0) in
          record {
            absent = absent;
            next = tt;
            its = record {
              space = some_content (name.Space space) (space_stands space in_space);
              frame = omega arith;
              flags = not-false _ agreed.0;
              receiver = subst (λ (ts : List FlatThread). is_receiver_in space ts receiver ≡ true) seen_threads (not-false _ received.0);
              few = λ some. subst (λ (rs : List Row). count_by (is_signal_row_of frame) rs < 4) seen_rows (leb-false 4 _ (and_second (is_some receiver) (has_four s.rows frame) some four.0));
              alone = alone absent;
            };
          }

      pub may_declare : residents_of c ≡ [] → (d : Decl) (it : Item) → broken_rule s d ≡ None → Declares d it → MayBeDeclared caps c it
      may_declare none (decls.Kernel number limits) (item.Kernel kernel) e is = kernel_may number limits kernel e is
      may_declare none (decls.Space number kernel) (item.Space space) e is = space_may number kernel space e is
      may_declare none (decls.Thread number space pc priority a0 a1) (item.Thread thread) e is = thread_may number space pc priority a0 a1 thread e is
      may_declare none (decls.Map space vpn frame flags receiver) (item.Mapping row) e is = subst (λ (r : Row). MayBeDeclared caps c (item.Mapping r)) (sym is)
          (row_may space vpn frame flags receiver (λ absent some fit r other there content flag same. contains_nothing r (subst (λ (rs : List Resident). Contains rs r) none there)) e)
      may_declare none d it e is = absurd is

-- ---- the first kernel

within_some : {X : Type 0} (xs : List X) (n : ℕ) → is_some (slice_get xs n) ≡ true → n < length xs
within_some xs n some = elim (slice_get_cases xs n).1 [
  | inl there ↦ there.1
  | inr past ↦ absurd (let no : is_some (slice_get xs n) ≡ false = ap is_some past.1 in cc)
]

module _ (m : Machine) (memory : List ℕ) (caps : Caps) (c : Contents) (pairs : List (Ident × Node)) (whole : AreWhole caps c pairs) (formed : IsWellFormed (shown (Some m) memory c)) (none : residents_of c ≡ []) (some : IsSome (content_of c first_name)) where
  abbrev t : FlatState
  t = shown (Some m) memory c

  first_stands : is_some (slice_get t.kernels 0) ≡ true
  unfolding stands
  first_stands = (all_found (Some m) memory c whole.one).stands first_name ∙ some

  none_there : {X : Type 0} (r : Resident) → Contains (residents_of c) r → X
  none_there r there = absurd (contains_nothing r (subst (λ (rs : List Resident). Contains rs r) none there))

  no_parents : HasParents (seen c) (residents_of c) first_name
  unfolding parents
  no_parents parent depends = absurd (contains_nothing parent depends)

  fit_first : is_fit_name (seen c) first_name ≡ true
  unfolding is_fit_name
  fit_first = refl

  one_at_most : (b : Bool) (of : Kind) → 0 + (if b then 1 else 0) ≤ wanted_of of
  one_at_most true kind.Kernel = omega arith
  one_at_most true kind.Space = omega arith
  one_at_most true kind.Thread = omega arith
  one_at_most true kind.Mapping = omega arith
  one_at_most false kind.Kernel = omega arith
  one_at_most false kind.Space = omega arith
  one_at_most false kind.Thread = omega arith
  one_at_most false kind.Mapping = omega arith

  pub first_may_load : MayBeLoaded c first_name []
  first_may_load = record {
    shelved = (shelved_iff c whole.one first_name).1 (some, λ resident. none_there resident.0 resident.1);
    fit = fit_first;
    kept = record {
      has = no_parents;
      direct = λ r there depends. none_there r there;
      closed = λ r parent there kept parent_there depends. none_there r there;
      few = λ of. one_at_most (is_kind kind.Kernel of) of;
    };
  }

  -- so its cache isn't full
  pub first_has_place : caps ≡ m.caps → IsFullOf c kind.Kernel → ⊥
  first_has_place machine full =
      let all = (full_iff c whole.one.sound kind.Kernel).0 full in
      let empty : count_of (residents_of c) kind.Kernel ≡ 0 = ap (λ (rs : List Resident). count_of rs kind.Kernel) none in
      let sized = whole.sized kind.Kernel in
      let room = (formed.kernels.locks (within_some t.kernels 0 first_stands)).0 in
      let same : (caps_of t.machine).kernels ≡ caps.kernels = ap (λ (cs : Caps). cs.kernels) (caps_shown m memory c whole.one ∙ sym machine) in
      omega arith

  limit_first : 0 < limit_of t (record { 0 = 0 }) kind.Kernel
  limit_first = by (slice_get t.kernels 0) refl first_stands
    where
      by : (o : Option FlatKernel) → slice_get t.kernels 0 ≡ o → is_some o ≡ true → 0 < amount_of (limits_in o) kind.Kernel
      by None is there = absurd (cc)
      by (Some k) is there = ltb-true 0 k.limits.kernels (formed.kernels.locking 0 k is)

  owner_first : (kernel : KernelNo) → owner (seen c) first_name ≡ Some kernel → kernel ≡ record { 0 = 0 }
  unfolding owner
  owner_first kernel is = by (nat_lt 0 (length (seen c).kernels)) is
    where
      by : (b : Bool) → (if b then Some (record { 0 = 0 }) else None) ≡ Some kernel → kernel ≡ record { 0 = 0 }
      by true same = sym (some_same (record { 0 = 0 }) kernel same)
      by false same = absurd (cc)

  module _ (mid : Contents) (after : List (Ident × Node)) (keep : List Ident) (at : ℕ) (gone : List Gone) (whole_mid : AreWhole caps mid after) (is : IsLoad caps c mid first_name keep at gone first_ident) (none_left : gone ≡ []) where
    alone : residents_of mid ≡ first false ∷ []
    alone = is.residents
        ∙ ap (λ (g : List Gone). with_loaded first_ident first_name (without_all (idents_of g) (residents_of c))) none_left
        ∙ ap (with_loaded first_ident first_name) none

    seen_mid : seen mid ≡ seen c
    seen_mid = is.shows None []

    pub first_may_lock : MayBeLocked mid first_ident
    first_may_lock r kernel found unlocked owned =
        let there = subst (λ (rs : List Resident). Contains rs r) alone (loaded_resident mid whole_mid.one.sound first_ident r found) in
        let own : owner (seen c) r.name ≡ Some kernel = ap (λ (u : FlatState). owner u r.name) (sym seen_mid) ∙ owned in
        let same : first false ≡ r = elim (Contains-cases (first false) [] r there) [
          | inl it ↦ it
          | inr behind ↦ absurd (contains_nothing r behind)
        ] in
        let own_first : owner (seen c) first_name ≡ Some kernel = ap (λ (q : Resident). owner (seen c) q.name) same ∙ own in
        let number = owner_first kernel own_first in
        let limit : 0 < limit_of (seen mid) kernel kind.Kernel =
        subst (λ (u : FlatState). 0 < limit_of u kernel kind.Kernel) (sym seen_mid)
        (subst (λ (k : KernelNo). 0 < limit_of (seen c) k kind.Kernel) (sym number)
        (subst (λ (n : ℕ). 0 < n) (sym (limit_shown m memory c (record { 0 = 0 }) kind.Kernel)) limit_first)) in
        subst (λ (rs : List Resident). locked_by (seen mid) rs kernel kind.Kernel < limit_of (seen mid) kernel kind.Kernel) (sym alone) limit
