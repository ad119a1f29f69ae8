-- The rows that are loaded, and what is read of them.
use Rattle.std.proofs.Common.{◌≡◌, ◌↔◌, ℕ, ◌<◌, Bool, true, false, not, List, filter, get_or, length, Contains, Option, Some, None, IfSome, IfNone, is_some, refl, sym, ◌∙◌, ap, subst, ◌⊎◌, inl, inr, arith}
use Rattle.std.specs.Prelude.{is_none}
use Rattle.std.proofs.lemmas.Bool.{cases_Bool, false≢true, true≢false}
use Rattle.std.proofs.lemmas.List.{map-id}
use Rattle.std.proofs.lemmas.List.Elements.{Contains-get_or}
use Rattle.std.proofs.lemmas.Option.{same_Some}
use Rattle.cache_ident.specs.declared.idents.Ident.{Ident}
use Rattle.cache_ident.specs.declared.names.Frame.{Frame}
use Rattle.cache_ident.specs.declared.names.Name.TheVariants as name
use Rattle.cache_ident.specs.declared.names.SpaceNo.{SpaceNo}
use Rattle.cache_ident.specs.declared.names.Vpn.{Vpn}
use Rattle.cache_ident.specs.Residents.{Resident, IsNameResident, IsResident}
use Rattle.phys_groups.specs.declared.rows.Row.{Row}
use Rattle.phys_groups.specs.Translation.{is_row_of, row_of}
use Rattle.row_store.specs.signal_pages.specs.Signals.{is_signal_row_of}
use Rattle.row_store.specs.slot_cache.specs.Rows.{row_name}
use Rattle.flat_state.specs.declared.events.Machine.{Machine}
use Rattle.flat_state.specs.State.{FlatState}
use Rattle.flat_state.specs.WellFormed.{IsWellFormed}
use Rattle.flat_state.proofs.Finding.{find-contains}
use Rattle.board_checks.specs.flat_laws.proofs.Members.{Contains-filter}
use Rattle.board_checks.specs.flat_laws.proofs.StepSame.{IsSameBut}
use Rattle.board_checks.specs.run_journal.specs.Legal.{AreGood}
use Rattle.board_checks.specs.desc_stores.specs.declared.items.Item.{Item}
use Rattle.board_checks.specs.desc_stores.specs.declared.items.Item.TheVariants as item
use Rattle.board_checks.specs.desc_stores.specs.Contents.{content_of, item_as, residents_of, Contents}
use Rattle.board_checks.specs.desc_stores.specs.Sound.{IsExactlyOne}
use Rattle.board_checks.specs.shown_state.specs.Shown.{row_of_item, shown}
use Rattle.board_checks.specs.shown_state.proofs.LookupLemmas.{found_row}
use Rattle.board_core.specs.store_residents.specs.Frames.{IsResidentOn}
use Rattle.board_core.specs.store_residents.proofs.ContentLemmas.{resident_item}
use Rattle.board_core.specs.store_residents.proofs.ResidentLemmas.{one_each}
use Rattle.board_checks.specs.desc_parents.specs.Idents.{ident_of}
use Rattle.board_checks.specs.desc_parents.specs.Seen.{seen}
use Rattle.board_checks.specs.desc_parents.proofs.IdentLemmas.{ident_back, ident_found, ident_none}
use Rattle.board_core.specs.cached_machine.proofs.GoodLaws.{good_before}
use Rattle.board_checks.proofs.IdentifierLemmas.{item_resident}
use Rattle.board_calls.specs.Leaving.{is_absent, is_message, passes, IsOf, IsRowAs}

-- a machine is the same as the one of which dependence is read, but for its memory
pub seen_same : (machine : Option Machine) (memory : List ℕ) (c : Contents) → IsSameBut (shown machine memory c) (seen c)
unfolding shown
seen_same machine memory c = record {
  kernels = refl;
  spaces = refl;
  threads = record { at = λ n. refl };
  mark = λ row. row;
  keeps = record { space = λ row. refl; vpn = λ row. refl; frame = λ row. refl; flags = λ row. refl; receiver = λ row. refl };
  rows = sym (map-id (seen c).rows);
}

-- so what is good in the one is so in the other
pub good_shown : (machine : Option Machine) (memory : List ℕ) (c : Contents) → AreGood (seen c) (residents_of c) → AreGood (shown machine memory c) (residents_of c)
good_shown machine memory c good = good_before (shown machine memory c) (seen c) (seen_same machine memory c) (residents_of c) good

-- a content that shows a row is that row
row_content : (o : Option Item) (row : Row) → row_of_item o ≡ Some row → o ≡ Some (item.Mapping row)
row_content None row is = absurd (cc)
row_content (Some (item.Kernel kernel)) row is = absurd (cc)
row_content (Some (item.Space space)) row is = absurd (cc)
row_content (Some (item.Thread thread)) row is = absurd (cc)
row_content (Some (item.Mapping found)) row is = ap (λ (x : Row). Some (item.Mapping x)) (same_Some found row is)

module _ (machine : Option Machine) (memory : List ℕ) (c : Contents) (one : IsExactlyOne c) where
  abbrev s : FlatState
  s = shown machine memory c

  -- the row of a page is what is loaded under its name
  pub row_as : (r : Resident) → Contains (residents_of c) r → (space : SpaceNo) (vpn : Vpn) (row : Row) → r.name ≡ name.Mapping space vpn → row_of s.rows space vpn.0 ≡ Some row → item_as c r.ident ≡ Some (item.Mapping row)
  row_as r there space vpn row named here =
      resident_item c one r there
      ∙ ap (content_of c) named
      ∙ row_content (content_of c (name.Mapping space vpn)) row (sym (found_row machine memory c one space vpn) ∙ here)

  -- and the other way round
  pub as_row : (r : Resident) → Contains (residents_of c) r → (row : Row) → item_as c r.ident ≡ Some (item.Mapping row) → r.name ≡ row_name row → row_of s.rows row.space row.vpn.0 ≡ Some row
  as_row r there row is named =
      found_row machine memory c one row.space row.vpn
      ∙ ap row_of_item (ap (content_of c) (sym named) ∙ sym (resident_item c one r there) ∙ is)

  -- so it is one of the rows
  pub row_there : (ident : Ident) (row : Row) → item_as c ident ≡ Some (item.Mapping row) → Contains s.rows row
  row_there ident row is =
      let r = item_resident c ident one (item.Mapping row) is in
      find-contains (is_row_of row.space row.vpn.0) s.rows row (as_row r.0 r.1 row (ap (item_as c) r.2 ∙ is) r.3)

-- whether a row is loaded
module _ (c : Contents) (one : IsExactlyOne c) (row : Row) where
  pub absent_is : is_absent (residents_of c) row ≡ true → IsNameResident (residents_of c) (row_name row) → ⊥
  absent_is absent r =
      let some : ident_of (residents_of c) (row_name row) ≡ Some r.0.ident = ap (ident_of (residents_of c)) (sym r.2) ∙ ident_found (residents_of c) (one_each c one) r.0 r.1 in
      false≢true (sym (ap (λ (o : Option Ident). is_none o) some) ∙ absent)

  pub present_is : is_absent (residents_of c) row ≡ false → IsNameResident (residents_of c) (row_name row)
  present_is present = by (ident_of (residents_of c) (row_name row)) refl
    where
      by : (o : Option Ident) → ident_of (residents_of c) (row_name row) ≡ o → IsNameResident (residents_of c) (row_name row)
      by None is = absurd (true≢false (sym (ap (λ (o : Option Ident). is_none o) is) ∙ present))
      by (Some ident) is = let r = ident_back (residents_of c) (row_name row) ident is in (r.0, r.1, r.3)

  -- and what was found of it
  pub absent_told : (o : Option Ident) → IfSome o (λ ident. IsResident (residents_of c) ident (row_name row)) → IfNone o (IsNameResident (residents_of c) (row_name row) → ⊥) → (b : Bool) → is_some o ≡ not b → b ≡ is_absent (residents_of c) row
  absent_told None found absent b is = told b is ∙ sym (ap (λ (o : Option Ident). is_none o) (ident_none (residents_of c) (row_name row) absent))
    where
      told : (b : Bool) → false ≡ not b → b ≡ true
      told true is = refl
      told false is = absurd (cc)
  absent_told (Some ident) found absent b is =
      told b is
      ∙ sym (ap (λ (o : Option Ident). is_none o) (ap (ident_of (residents_of c)) (sym found.3) ∙ ident_found (residents_of c) (one_each c one) found.0 found.1))
    where
      told : (b : Bool) → true ≡ not b → b ≡ false
      told true is = absurd (cc)
      told false is = refl

-- the rows of a frame that pass a test are those of its list of rows that do
module _ (c : Contents) (one : IsExactlyOne c) (frame : Frame) (message : Bool) where
  resident_row : (i : Ident) → IsResidentOn c frame message i → (row : Row) × (item_as c i ≡ Some (item.Mapping row)) × (row.frame ≡ frame) × (row.flags.m ≡ message)
  resident_row i on = (on.row, ap (item_as c) (sym on.own) ∙ resident_item c one on.resident on.there ∙ on.content, on.on, on.flag)

  row_resident : (i : Ident) (row : Row) → item_as c i ≡ Some (item.Mapping row) → row.frame ≡ frame → row.flags.m ≡ message → IsResidentOn c frame message i
  row_resident i row loaded on flag =
      let r = item_resident c i one (item.Mapping row) loaded in
      let content = sym (resident_item c one r.0 r.1) ∙ ap (item_as c) r.2 ∙ loaded in
      record { resident = r.0; there = r.1; own = r.2; row = row; content = content; on = on; flag = flag }

  -- of a list of such rows those that pass a test
  module _ (test : Row → Bool) (items : List Ident) (rows : (i : Ident) → Contains items i ↔ IsResidentOn c frame message i) where
    abbrev pub passing : Ident → Bool
    passing i = passes test (item_as c i)

    listed_row : (i : Ident) → IsOf passing items i → IsRowAs c frame test i
    listed_row i its =
        let r = resident_row i ((rows i).0 its.0) in
        record { row = r.0; loaded = r.1; on = r.2; passing = sym (ap (passes test) r.1) ∙ its.1 }

    row_listed : (i : Ident) (its : IsRowAs c frame test i) → its.row.flags.m ≡ message → IsOf passing items i
    row_listed i its flag = ((rows i).1 (row_resident i its.row its.loaded its.on flag), ap (passes test) its.loaded ∙ its.passing)

-- the message rows of a frame are those that are listed
pub messages_listed : (c : Contents) → IsExactlyOne c → (frame : Frame) (items : List Ident) → ((i : Ident) → Contains items i ↔ IsResidentOn c frame true i) → (i : Ident) → IsOf (λ j. true) items i ↔ IsRowAs c frame is_message i
messages_listed c one frame items rows i = (
  λ its. let r = resident_row c one frame true i ((rows i).0 its.0) in record { row = r.0; loaded = r.1; on = r.2; passing = r.3 },
  λ its. ((rows i).1 (row_resident c one frame true i its.row its.loaded its.on its.passing), refl),
)

-- and a row of a frame is among these or among the others
pub both_listed : (c : Contents) → IsExactlyOne c → (frame : Frame) (test : Row → Bool) (messages others : List Ident) → ((i : Ident) → Contains messages i ↔ IsResidentOn c frame true i) → ((i : Ident) → Contains others i ↔ IsResidentOn c frame false i)
    → (i : Ident) → IsRowAs c frame test i ↔ (IsOf (λ j. passes test (item_as c j)) messages i ⊎ IsOf (λ j. passes test (item_as c j)) others i)
both_listed c one frame test messages others first second i = (
  λ its. elim (cases_Bool its.row.flags.m) [
    | inl message ↦ inl (row_listed c one frame true test messages first i its message)
    | inr other ↦ inr (row_listed c one frame false test others second i its other)
  ],
  λ which. elim which [
    | inl its ↦ listed_row c one frame true test messages first i its
    | inr its ↦ listed_row c one frame false test others second i its
  ],
)

-- a row that there is is of a space that there is, and of a frame that a memory can have
pub row_known : (s : FlatState) → IsWellFormed s → (row : Row) → Contains s.rows row → (row.space.0 < length s.spaces) × (row.frame.0 < 2048)
row_known s formed row there =
    let is = formed.rows.each row there in
    let few = formed.memory.groups in
    let within = is.frame in
    (is.space, omega arith)

-- the row that stands for none in a search
abbrev pub no_row : Row
no_row = record { space = record { 0 = 0 }; vpn = record { 0 = 0 }; frame = record { 0 = 0 }; flags = record { r = false; w = false; x = false; m = false }; receiver = None; referenced = false; modified = false }

pub signal_row_at : (s : FlatState) → IsWellFormed s → (frame : Frame) (items : List Row) → items ≡ filter (is_signal_row_of frame) s.rows → (k : ℕ) (d : Row) → k < length items → ((get_or items k d).space.0 < length s.spaces) × ((get_or items k d).frame.0 < 2048)
signal_row_at s formed frame items are k d within =
    row_known s formed (get_or items k d) (Contains-filter (is_signal_row_of frame) s.rows (get_or items k d) (subst (λ (rows : List Row). Contains rows (get_or items k d)) are (Contains-get_or items k d within))).0
