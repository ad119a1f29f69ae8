-- Which signal row is missing first, and whether a row is fit.
use Rattle.std.proofs.Common.{◌≡◌, ℕ, zero, suc, ◌<◌, Bool, true, false, List, [], ◌∷◌, ◌++◌, length, filter, find, get_or, take, Option, Some, None, IfSome, IfNone, refl, sym, ◌∙◌, ap, subst, inl, inr, arith}
use Rattle.std.specs.Prelude.{◌/◌, ◌&&◌, ◌||◌, if◌then◌else◌, is_none, is_some, not}
use Rattle.std.specs.Iterator.{Yields, YieldsFirst}
use Rattle.std.specs.Option.{option_map}
use Rattle.std.proofs.lemmas.Bool.{cases_Bool}
use Rattle.std.proofs.lemmas.Iterator.Consumers.{YieldsList-end, YieldsList-from_first, YieldsList-so_far, YieldsList-turn}
use Rattle.std.proofs.lemmas.List.{map-id}
use Rattle.board_ops.specs.flat_laws.proofs.Members.{find-map}
use Rattle.cache_ident.specs.declared.idents.Ident.{Ident}
use Rattle.cache_ident.specs.declared.names.Frame.{Frame}
use Rattle.cache_ident.specs.declared.names.Name.{Name}
use Rattle.cache_ident.specs.declared.names.Name.TheVariants as name
use Rattle.cache_ident.specs.declared.names.SpaceNo.{SpaceNo}
use Rattle.cache_ident.specs.declared.names.Vpn.{Vpn}
use Rattle.cache_ident.specs.Residents.{IsNameResident, IsResident}
use Rattle.phys_groups.specs.declared.rows.Row.{Row}
use Rattle.phys_groups.specs.Rows.{row_name}
use Rattle.phys_groups.specs.Translation.{implies, is_fit}
use Rattle.board_ops.specs.signal_pages.specs.Signals.{is_signal_row_of}
use Rattle.kernel_cache.specs.declared.KernelRec.{KernelRec}
use Rattle.board_ops.specs.flat_state.specs.Dependence.{owner}
use Rattle.board_ops.specs.flat_state.specs.Names.{is_fit_found}
use Rattle.board_ops.specs.flat_state.specs.Translation.{is_fit_row}
use Rattle.desc_tables.specs.row_store.specs.Kept.{signal_names}
use Rattle.desc_tables.specs.desc_stores.specs.declared.items.Item.TheVariants as item
use Rattle.desc_tables.specs.desc_stores.specs.declared.items.ItemRef.{ItemRef}
use Rattle.desc_tables.specs.desc_stores.specs.declared.items.ItemRef.TheVariants as ref
use Rattle.desc_tables.specs.desc_stores.specs.Contents.{content_of, residents_of, Contents}
use Rattle.desc_tables.specs.desc_stores.specs.Sound.{IsExactlyOne}
use Rattle.desc_tables.specs.shown_state.specs.Shown.{row_of_item}
use Rattle.desc_tables.specs.store_residents.proofs.ResidentLemmas.{one_each}
use Rattle.desc_tables.specs.desc_parents.specs.Idents.{ident_of}
use Rattle.desc_tables.specs.desc_parents.specs.Seen.{seen}
use Rattle.desc_tables.specs.desc_parents.proofs.IdentLemmas.{ident_found, ident_none}
use Rattle.desc_tables.specs.desc_parents.proofs.FitLemmas.{rights_found}
use Rattle.desc_tables.specs.desc_parents.proofs.RowLemmas.{fit_in, fit_names}
use Rattle.board_ops.specs.declared.refusals.Refused.TheVariants as why
use Rattle.board_checks.specs.Facts.{is_missing}
use Rattle.board_checks.specs.Refusals.{beyond_rights, is_absent, receivers_absent}

-- ---- what is found in a list

-- of what passes one test, the first that passes another
find-filter : {X : Type 0} (p q : X → Bool) (xs : List X) → find (λ x. p x && q x) xs ≡ find q (filter p xs)
find-filter p q [] = refl
find-filter p q (x ∷ xs) = elim (cases_Bool (p x)) [
  | inl passes ↦ elim (cases_Bool (q x)) [
    | inl found ↦ rw (passes, found) refl
    | inr past ↦ rw (passes, past) (find-filter p q xs)
  ]
  | inr skipped ↦ rw skipped (find-filter p q xs)
]

module _ {X : Type 0} (p : X → Bool) where
  -- where none passes before it, what passes is found
  find_at : (xs : List X) (k : ℕ) (x : X) → k < length xs → x ≡ get_or xs k x → find p (take k xs) ≡ None → p x ≡ true → find p xs ≡ Some x
  find_at [] k x within is before passes = absurd (omega (arith, within))
  find_at (y ∷ ys) zero x within is before passes =
      let here : p y ≡ true = ap p (sym is) ∙ passes in
      rw here (ap (λ (z : X). Some z) (sym is))
  find_at (y ∷ ys) (suc k) x within is before passes = elim (cases_Bool (p y)) [
    | inl found ↦ let some = rw found at before in absurd (cc)
    | inr past ↦ rw past (find_at ys k x (omega (arith, within)) is (rw past at before) passes)
  ]

  -- and one more that doesn't pass isn't
  pub find_none_more : (xs : List X) (x : X) → find p xs ≡ None → p x ≡ false → find p (xs ++ x ∷ []) ≡ None
  find_none_more [] x before fails = rw fails refl
  find_none_more (y ∷ ys) x before fails = elim (cases_Bool (p y)) [
    | inl found ↦ let some = rw found at before in absurd (cc)
    | inr past ↦ rw past (find_none_more ys x (rw past at before) fails)
  ]

module _ (all start : List Name) (are : start ≡ all) (gone left : List Name) (yielded : Yields (YieldsFirst (λ (left : List Name). left)) start gone left) (item : Option Name) (rest : List Name) (next : YieldsFirst (λ (left : List Name). left) left item rest) (p : Name → Bool) (before : find p gone ≡ None) where
  -- the first that passes is found
  pub found_here : (n : Name) → item ≡ Some n → p n ≡ true → find p all ≡ Some n
  found_here n is passes =
      let road = YieldsList-from_first (λ (n : Name). n) (λ (left : List Name). left) all are in
      let turn = YieldsList-turn road gone left yielded item rest n is next in
      let so_far = YieldsList-so_far road gone left yielded in
      find_at p all (length gone) n turn.0 turn.1 (ap (find p) (sym so_far ∙ map-id gone) ∙ before) passes

  -- or none does
  pub none_found : item ≡ None → find p all ≡ None
  none_found is =
      let road = YieldsList-from_first (λ (n : Name). n) (λ (left : List Name). left) all are in
      ap (find p) (sym (YieldsList-end road gone left yielded item rest is next).0 ∙ map-id gone) ∙ before

-- ---- what is missing

-- whether there is none
pub is_none_told : {X : Type 0} (o : Option X) (b : Bool) → is_some o ≡ not b → b ≡ is_none o
is_none_told None true is = refl
is_none_told None false is = absurd (cc)
is_none_told (Some x) true is = absurd (cc)
is_none_told (Some x) false is = refl

module _ (c : Contents) (one : IsExactlyOne c) where
  -- what the tables find is the identifier of the name
  pub ident_tested : (n : Name) (o : Option Ident) → IfSome o (λ ident. IsResident (residents_of c) ident n) → IfNone o (IsNameResident (residents_of c) n → ⊥) → ident_of (residents_of c) n ≡ o
  ident_tested n None found absent = ident_none (residents_of c) n absent
  ident_tested n (Some ident) found absent = subst (λ (m : Name). ident_of (residents_of c) m ≡ Some ident) found.3 (ident_found (residents_of c) (one_each c one) found.0 found.1 ∙ ap (λ (i : Ident). Some i) found.2)

  -- a name is missing where its row is fit, and nothing is found
  pub missing_tested : (n : Name) (row : Row) → row_of_item (content_of c n) ≡ Some row → (o : Option Ident) → ident_of (residents_of c) n ≡ o → (fit none : Bool) → fit ≡ is_fit_row (seen c) row → none ≡ is_none o → (fit && none) ≡ is_missing c n
  missing_tested n row is o found fit none fit_is none_is =
      ap (λ (b : Bool). b && none) (fit_is ∙ ap (is_fit_found (seen c)) (sym is))
      ∙ ap (λ (b : Bool). is_fit_found (seen c) (row_of_item (content_of c n)) && b) (none_is ∙ ap (λ (x : Option Ident). is_none x) (sym found))

  pub no_row_missing : (n : Name) → row_of_item (content_of c n) ≡ None → false ≡ is_missing c n
  no_row_missing n none = ap (λ (o : Option Row). is_fit_found (seen c) o && is_none (ident_of (residents_of c) n)) (sym none)

  -- the first missing name is that of the first fit signal row that is absent
  pub missing_row : (frame : Frame) → find (is_missing c) (signal_names c.rows frame) ≡ option_map row_name (find (is_absent c) (filter (λ (row : Row). is_signal_row_of frame row && is_fit_row (seen c) row) (seen c).rows))
  missing_row frame =
      let absent = λ (n : Name). is_none (ident_of (residents_of c) n) in
      find-filter (fit_in c) absent (signal_names c.rows frame)
      ∙ ap (find absent) (fit_names c one frame)
      ∙ find-map absent (is_absent c) row_name (λ (row : Row). refl) (filter (λ (row : Row). is_signal_row_of frame row && is_fit_row (seen c) row) (seen c).rows)

-- a row that isn't a message row waits for none
pub no_message : (c : Contents) (row : Row) → row.flags.m ≡ false → None ≡ receivers_absent c row
unfolding receivers_absent
no_message c row plain = rw plain refl

-- and a message row for those of its frame
pub message_tested : (c : Contents) (row : Row) → row.flags.m ≡ true → (o : Option Row) → find (is_absent c) (filter (λ (other : Row). is_signal_row_of row.frame other && is_fit_row (seen c) other) (seen c).rows) ≡ o → option_map (λ (other : Row). why.ReceiversAbsent other.space other.vpn) o ≡ receivers_absent c row
unfolding receivers_absent
message_tested c row message o found = rw message (ap (option_map (λ (other : Row). why.ReceiversAbsent other.space other.vpn)) (sym found))

-- the row of a name that was found so
module _ (o : Option Row) (n : Option Name) (named : n ≡ option_map row_name o) where
  pub row_of_name : (space : SpaceNo) (vpn : Vpn) → n ≡ Some (name.Mapping space vpn) → Some (why.ReceiversAbsent space vpn) ≡ option_map (λ (other : Row). why.ReceiversAbsent other.space other.vpn) o
  row_of_name space vpn is = by o (sym named ∙ is)
    where
      by : (o : Option Row) → option_map row_name o ≡ Some (name.Mapping space vpn) → Some (why.ReceiversAbsent space vpn) ≡ option_map (λ (other : Row). why.ReceiversAbsent other.space other.vpn) o
      by None same = absurd (cc)
      by (Some row) same =
          let first : row.space ≡ space = cc in
          let second : row.vpn ≡ vpn = cc in
          cc

  pub no_row_of_name : n ≡ None → None ≡ option_map (λ (other : Row). why.ReceiversAbsent other.space other.vpn) o
  no_row_of_name is = by o (sym named ∙ is)
    where
      by : (o : Option Row) → option_map row_name o ≡ None → None ≡ option_map (λ (other : Row). why.ReceiversAbsent other.space other.vpn) o
      by None same = refl
      by (Some row) same = absurd (cc)

-- ---- is it fit?

-- the rights of the kernel that owns a row's space are those of its record
pub rights_tested : (c : Contents) → IsExactlyOne c → (row : Row) (kernel : KernelRec) → Some kernel.no ≡ owner (seen c) (name.Space row.space) → content_of c (name.Kernel kernel.no) ≡ Some (item.Kernel kernel) → (if is_fit kernel.rights row then None else Some (why.Rights row.frame (row.frame.0 / 128))) ≡ beyond_rights c row
unfolding beyond_rights
rights_tested c one row kernel owned there =
    let found : Option ItemRef = Some (ref.Kernel (record { ref_ptr = (0, 0); now = kernel })) in
    let same = rights_found c one found found refl row.space kernel.no owned (sym there) (row.frame.0 / 128) in
    ap (λ (right : Bool × Bool). if (implies (row.flags.r || row.flags.x) right.0 && implies row.flags.w right.1) then None else Some (why.Rights row.frame (row.frame.0 / 128))) same
