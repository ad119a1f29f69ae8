-- Why the tables take a declaration that breaks no rule, and after which what is loaded is still good.
use Rattle.std.proofs.Common.{◌≡◌, ℕ, ◌<◌, Bool, true, not, List, [], ◌∷◌, ◌++◌, map, filter, length, Contains, Option, Some, None, refl, ap, ap₂, sym, ◌∙◌, subst, arith}
use Rattle.std.specs.Prelude.{if◌then◌else◌, is_some, option_to_list, ◌&&◌, ◌==◌, IsSome}
use Rattle.std.specs.Option.{option_map, option_or}
use Rattle.std.proofs.lemmas.Bool.{eqb-true, false≢true, not-false}
use Rattle.std.proofs.lemmas.Bool.Decides.{nat_tests}
use Rattle.std.proofs.lemmas.List.Elements.{filter-append, Contains-append_right}
use Rattle.std.proofs.lemmas.List.Folds.{find-append}
use Rattle.cache_ident.specs.declared.names.Caps.{Caps}
use Rattle.cache_ident.specs.declared.names.Frame.{Frame}
use Rattle.cache_ident.specs.declared.names.KernelNo.{KernelNo}
use Rattle.cache_ident.specs.declared.names.Name.{Name}
use Rattle.cache_ident.specs.declared.names.Name.TheVariants as name
use Rattle.cache_ident.specs.declared.names.SpaceNo.{SpaceNo}
use Rattle.cache_ident.specs.declared.names.ThreadNo.{ThreadNo}
use Rattle.cache_ident.specs.declared.names.Vpn.{Vpn}
use Rattle.phys_groups.specs.declared.rows.Flags.{Flags}
use Rattle.phys_groups.specs.declared.rows.Row.{Row}
use Rattle.phys_groups.specs.Rows.{row_name}
use Rattle.phys_groups.specs.Translation.{is_row_of, row_of}
use Rattle.flat_state.specs.signal_pages.specs.Signals.{is_signal_row_of}
use Rattle.flat_state.specs.declared.events.Decl.TheVariants as decls
use Rattle.flat_state.specs.declared.events.Machine.{Machine}
use Rattle.flat_state.specs.Declaration.{broken_rule, declared, new_row}
use Rattle.flat_state.specs.Dependence.{parents, parents_of_found, parents_of_row, signal_rows_of, Depends}
use Rattle.flat_state.specs.Names.{stands}
use Rattle.flat_state.specs.State.{FlatState}
use Rattle.flat_state.specs.Translation.{is_fit_row}
use Rattle.flat_state.specs.WellFormed.{IsWellFormed}
use Rattle.flat_state.proofs.FormedParts.{breaks_none, first_rule, other_rule}
use Rattle.board_laws.specs.flat_laws.proofs.Members.{Contains-behind, Contains-here, Contains-map}
use Rattle.board_laws.specs.run_journal.specs.Legal.{AreGood}
use Rattle.board_laws.specs.desc_stores.specs.declared.items.Item.TheVariants as item
use Rattle.board_laws.specs.desc_stores.specs.Contents.{content_of, residents_of, Contents}
use Rattle.board_laws.specs.desc_stores.specs.Sound.{IsExactlyOne}
use Rattle.board_laws.specs.shown_state.specs.Shown.{row_of_item, shown}
use Rattle.board_laws.specs.shown_state.proofs.ContentLemmas.{item_has_name}
use Rattle.board_laws.specs.shown_state.proofs.LookupLemmas.{all_found}
use Rattle.board_laws.specs.store_residents.proofs.ContentLemmas.{resident_content}
use Rattle.board_laws.specs.desc_parents.specs.Seen.{seen}
use Rattle.board_laws.specs.desc_tables.specs.May.{no_locks, HasNoMessages, MayBeDeclared}
use Rattle.board_laws.proofs.Admitted.{kernel_stands, row_may, some_content}

-- where there is a machine, none is declared
pub machine_once : (m : Machine) (memory : List ℕ) (c : Contents) (machine : Machine) → broken_rule (shown (Some m) memory c) (decls.Machine machine) ≡ None → ⊥
unfolding broken_rule shown
machine_once m memory c machine e = let none = (first_rule (Some m) (shown (Some m) memory c) machine e).0 in cc none

-- a kernel that has locked nothing
pub no_locks_are : (locks : Caps) → locks.kernels ≡ 0 → locks.spaces ≡ 0 → locks.threads ≡ 0 → locks.mappings ≡ 0 → locks ≡ no_locks
no_locks_are locks kernels spaces threads mappings =
    ap (λ (n : ℕ). record { kernels = n; spaces = locks.spaces; threads = locks.threads; mappings = locks.mappings }) kernels
    ∙ ap (λ (n : ℕ). record { kernels = 0; spaces = n; threads = locks.threads; mappings = locks.mappings }) spaces
    ∙ ap (λ (n : ℕ). record { kernels = 0; spaces = 0; threads = n; mappings = locks.mappings }) threads
    ∙ ap (λ (n : ℕ). record { kernels = 0; spaces = 0; threads = 0; mappings = n }) mappings

-- ---- what is loaded once a row has come

-- a message row depends on a fit signal row of its frame that comes behind the others
message_depends : (s : FlatState) (row other : Row) → row_of s.rows other.space other.vpn.0 ≡ Some other → other.flags.m ≡ true → (is_signal_row_of other.frame row && is_fit_row s row) ≡ true → Depends (record s { rows = s.rows ++ row ∷ [] }) (row_name other) (row_name row)
unfolding parents
message_depends s row other there message passes =
    let t : FlatState = record s { rows = s.rows ++ row ∷ [] } in
    let p = λ (q : Row). is_signal_row_of other.frame q && is_fit_row s q in
    let found : row_of t.rows other.space other.vpn.0 ≡ Some other = find-append (is_row_of other.space other.vpn.0) s.rows (row ∷ []) ∙ ap (λ (o : Option Row). option_or o (row_of (row ∷ []) other.space other.vpn.0)) there in
    let listed : signal_rows_of t other ≡ filter p s.rows ++ row ∷ [] =
    ap (λ (b : Bool). if b then filter p t.rows else []) message ∙ filter-append p s.rows (row ∷ []) ∙ ap (λ (b : Bool). filter p s.rows ++ (if b then row ∷ [] else [])) passes in
    let last : Contains (signal_rows_of t other) row = subst (λ (rows : List Row). Contains rows row) (sym listed) (Contains-append_right (filter p s.rows) (row ∷ []) row (Contains-here row [])) in
    let named : Contains (map row_name (signal_rows_of t other)) (row_name row) = Contains-map row_name (signal_rows_of t other) row last in
    let behind : Contains (parents_of_row t other) (row_name row) =
    Contains-behind (name.Space other.space) (option_to_list (option_map name.Thread other.receiver) ++ map row_name (signal_rows_of t other)) (row_name row)
    (Contains-append_right (option_to_list (option_map name.Thread other.receiver)) (map row_name (signal_rows_of t other)) (row_name row) named) in
    subst (λ (o : Option Row). Contains (parents_of_found t o) (row_name row)) (sym found) behind

is_signal : (frame : Frame) (row : Row) → frame ≡ row.frame → is_some row.receiver ≡ true → is_signal_row_of frame row ≡ true
is_signal frame row same some = rw (same, some) (let it : (row.frame.0 == row.frame.0) ≡ true = grind (arith, nat_tests) in rw it refl)

-- ---- the contents

module _ (m : Machine) (memory : List ℕ) (c : Contents) (one : IsExactlyOne c) where
  abbrev s : FlatState
  s = shown (Some m) memory c

  seen_fit : (row : Row) → is_fit_row s row ≡ is_fit_row (seen c) row
  unfolding shown
  seen_fit row = refl

  -- the kernel of a number below the count has a content
  pub kernel_there : (kernel : KernelNo) → kernel.0 < length s.kernels → IsSome (content_of c (name.Kernel kernel))
  kernel_there kernel within = some_content m memory c one (name.Kernel kernel) (kernel_stands m memory c one kernel within)

  row_stands : (space : SpaceNo) (vpn : Vpn) → is_some (row_of s.rows space vpn.0) ≡ true → stands s (name.Mapping space vpn) ≡ true
  unfolding stands
  row_stands space vpn some = some

  pub row_there : (space : SpaceNo) (vpn : Vpn) → is_some (row_of s.rows space vpn.0) ≡ true → IsSome (content_of c (name.Mapping space vpn))
  row_there space vpn some = some_content m memory c one (name.Mapping space vpn) (row_stands space vpn some)

  -- a thread that may be declared has the next number
  pub next_thread : (number : ThreadNo) (space : SpaceNo) (pc priority a0 a1 : ℕ) → broken_rule s (decls.Thread number space pc priority a0 a1) ≡ None → number.0 ≡ length s.threads
  unfolding broken_rule
  next_thread number space pc priority a0 a1 e =
      let rule = other_rule s.machine s (decls.Thread number space pc priority a0 a1) refl e in
      eqb-true number.0 (length s.threads) (not-false _ (breaks_none (not (number.0 == length s.threads)) 8 _ rule).0)

  -- where what is loaded is good once a row has come
  module _ (space : SpaceNo) (vpn : Vpn) (frame : Frame) (flags : Flags) (receiver : Option ThreadNo) (good : AreGood (declared s (decls.Map space vpn frame flags receiver)) (residents_of c)) where
    abbrev row : Row
    row = new_row space vpn frame flags receiver

    good_with : AreGood (record s { rows = s.rows ++ row ∷ [] }) (residents_of c)
    unfolding declared
    good_with = good

    -- a message row that is loaded would depend on the new row, which isn't
    none_waits : content_of c (name.Mapping space vpn) ≡ None → is_some receiver ≡ true → is_fit_row (seen c) row ≡ true → HasNoMessages c row
    none_waits absent some fit r other there content message same =
        let named : row_name other ≡ r.name = item_has_name c r.name (item.Mapping other) content in
        let its : content_of c (row_name other) ≡ Some (item.Mapping other) = subst (λ (n : Name). content_of c n ≡ Some (item.Mapping other)) (sym named) content in
        let at : row_of s.rows other.space other.vpn.0 ≡ Some other = (all_found (Some m) memory c one).rows other.space other.vpn ∙ ap row_of_item its in
        let passes : (is_signal_row_of other.frame row && is_fit_row s row) ≡ true = ap₂ (λ (a b : Bool). a && b) (is_signal other.frame row same some) (seen_fit row ∙ fit) in
        let depends = message_depends s row other at message passes in
        let parent = (good_with r there).parents (row_name row) (subst (λ (n : Name). Depends (record s { rows = s.rows ++ row ∷ [] }) n (row_name row)) named depends) in
        let stands_there : IsSome (content_of c (name.Mapping space vpn)) = subst (λ (n : Name). IsSome (content_of c n)) parent.2 (resident_content c one parent.0 parent.1) in
        false≢true (sym (ap is_some absent) ∙ stands_there)

    pub good_row_may : (caps : Caps) → caps ≡ m.caps → IsWellFormed s → broken_rule s (decls.Map space vpn frame flags receiver) ≡ None → MayBeDeclared caps c (item.Mapping row)
    good_row_may caps machine formed = row_may m memory c one caps machine formed space vpn frame flags receiver none_waits
