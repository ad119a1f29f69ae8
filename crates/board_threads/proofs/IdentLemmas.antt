-- What is loaded with an identifier, and with which one a thread is loaded.
use Rattle.std.proofs.Common.{◌≡◌, true, Bor, Option, Some, None, IsSome, IfSome, IfNone, refl, sym, ap, ◌∙◌, subst}
use Rattle.std.specs.Prelude.{if◌then◌else◌}
use Rattle.std.specs.Option.{is_some, option_map, option_or}
use Rattle.cache_ident.specs.declared.idents.Ident.{Ident}
use Rattle.cache_ident.specs.declared.idents.Kind.{Kind}
use Rattle.cache_ident.specs.declared.idents.Kind.TheVariants as kind
use Rattle.cache_ident.specs.declared.idents.Standing.{Standing}
use Rattle.cache_ident.specs.declared.names.Name.{Name}
use Rattle.cache_ident.specs.declared.names.Name.TheVariants as name
use Rattle.cache_ident.specs.declared.names.SpaceNo.{SpaceNo}
use Rattle.cache_ident.specs.declared.names.ThreadNo.{ThreadNo}
use Rattle.cache_ident.specs.declared.names.Vpn.{Vpn}
use Rattle.cache_ident.specs.Names.{kind_of}
use Rattle.cache_ident.specs.Residents.{Resident, IsNameResident, IsResident}
use Rattle.phys_groups.specs.declared.rows.Row.{Row}
use Rattle.board_checks.specs.run_journal.specs.Legal.{is_kind}
use Rattle.slot_cache.specs.Rows.{row_name}
use Rattle.thread_cache.specs.Threads as thread_rec
use Rattle.thread_cache.specs.declared.ThreadRec.{ThreadRec}
use Rattle.board_checks.specs.kind_store.specs.Kept as stored
use Rattle.board_checks.specs.desc_stores.specs.declared.items.Item.{Item}
use Rattle.board_checks.specs.desc_stores.specs.declared.items.Item.TheVariants as item
use Rattle.board_checks.specs.desc_stores.specs.declared.items.ItemRef.{ItemRef}
use Rattle.board_checks.specs.desc_stores.specs.declared.items.ItemRef.TheVariants as ref
use Rattle.board_checks.specs.desc_stores.specs.Contents.{content_of, item_as, residents_of, Contents}
use Rattle.board_checks.specs.desc_stores.specs.Items.{name_of, shown}
use Rattle.board_checks.specs.desc_stores.specs.Sound.{IsExactlyOne}
use Rattle.board_core.specs.store_residents.proofs.ContentLemmas.{resident_content, resident_item}
use Rattle.board_core.specs.store_residents.proofs.ResidentLemmas.{live_iff, one_each, resident_kind}
use Rattle.board_checks.specs.board_ops.specs.declared.refusals.Refused.TheVariants as why
use Rattle.board_checks.specs.Identifiers.{gone_by, not_a, not_live, wrong_kind}
use Rattle.board_checks.proofs.IdentifierLemmas.{item_resident}
use Rattle.board_core.specs.cached_machine.specs.Cached.{is_loaded}
use Rattle.board_core.specs.cached_machine.proofs.LoadedLaws.{loads, not_loaded}

-- a name that is resident is loaded
pub loaded_if : (c : Contents) (n : Name) → IsNameResident (residents_of c) n → is_loaded c n ≡ true
loaded_if c n r = loads (residents_of c) n r.0 r.1 r.2

pub named_so : (c : Contents) (ident : Ident) (n : Name) → IsResident (residents_of c) ident n → IsNameResident (residents_of c) n
named_so c ident n r = (r.0, r.1, r.3)

-- what was looked up says whether the name is loaded
pub loaded_tested : (c : Contents) (n : Name) (o : Option Ident) → IfSome o (λ ident. IsResident (residents_of c) ident n) → IfNone o (IsNameResident (residents_of c) n → ⊥) → is_some o ≡ is_loaded c n
loaded_tested c n (Some ident) found absent = sym (loaded_if c n (named_so c ident n found))
loaded_tested c n None found absent = sym (not_loaded (residents_of c) n (λ r there named. absent (r, there, named)))

-- what shows a thread is one
pub shows_thread : (o : Option ItemRef) (t : ThreadRec) → option_map shown o ≡ Some (item.Thread t) → (x : Bor ThreadRec) × (o ≡ Some (ref.Thread x))
shows_thread None t is = absurd (cc)
shows_thread (Some (ref.Kernel x)) t is = absurd (cc)
shows_thread (Some (ref.Space x)) t is = absurd (cc)
shows_thread (Some (ref.Thread x)) t is = (x, refl)
shows_thread (Some (ref.Mapping x)) t is = absurd (cc)

-- and what shows a row
pub shows_row : (o : Option ItemRef) (row : Row) → option_map shown o ≡ Some (item.Mapping row) → (x : Bor Row) × (o ≡ Some (ref.Mapping x))
shows_row None row is = absurd (cc)
shows_row (Some (ref.Kernel x)) row is = absurd (cc)
shows_row (Some (ref.Space x)) row is = absurd (cc)
shows_row (Some (ref.Thread x)) row is = absurd (cc)
shows_row (Some (ref.Mapping x)) row is = (x, refl)

module _ (c : Contents) (one : IsExactlyOne c) where
  -- one identifier is that of one thread
  pub one_thread : (ident : Ident) (whom other : ThreadNo) → IsResident (residents_of c) ident (name.Thread whom) → IsResident (residents_of c) ident (name.Thread other) → whom ≡ other
  one_thread ident whom other r q =
      let same : r.0 ≡ q.0 = (one_each c one).idents r.0 q.0 r.1 q.1 (r.2 ∙ sym q.2) in
      let names : name.Thread whom ≡ name.Thread other = sym r.3 ∙ ap (λ (x : Resident). x.name) same ∙ q.3 in
      cc

  pub item_content : (ident : Ident) (it : Item) → item_as c ident ≡ Some it → content_of c (name_of it) ≡ Some it
  item_content ident it is =
      let r = item_resident c ident one it is in
      subst (λ (n : Name). content_of c n ≡ Some it) r.3 (sym (resident_item c one r.0 r.1) ∙ ap (item_as c) r.2 ∙ is)

  -- the record of a thread that is loaded
  thread_there : (o : Option ThreadRec) → IsSome (option_map item.Thread o) → (t : ThreadRec) × (option_map item.Thread o ≡ Some (item.Thread t))
  thread_there None there = absurd (cc)
  thread_there (Some t) there = (t, refl)

  pub loaded_record : (whom : ThreadNo) → IsNameResident (residents_of c) (name.Thread whom) → (t : ThreadRec) × (content_of c (name.Thread whom) ≡ Some (item.Thread t))
  loaded_record whom r =
      thread_there (stored.content_of thread_rec.name_of c.threads (name.Thread whom)) (subst (λ (n : Name). IsSome (content_of c n)) r.2 (resident_content c one r.0 r.1))

  -- a name that is loaded has the content that is loaded with its identifier
  pub content_named : (ident : Ident) (n : Name) → IsResident (residents_of c) ident n → (it : Item) → item_as c ident ≡ Some it → content_of c n ≡ Some it
  content_named ident n r it is = ap (content_of c) (sym r.3) ∙ sym (resident_item c one r.0 r.1) ∙ ap (item_as c) r.2 ∙ is

  -- and that of a thread has a thread
  pub record_named : (ident : Ident) (whom : ThreadNo) → IsResident (residents_of c) ident (name.Thread whom) → (t : ThreadRec) × (item_as c ident ≡ Some (item.Thread t))
  record_named ident whom r =
      let found = loaded_record whom (named_so c ident (name.Thread whom) r) in
      (found.0, ap (item_as c) (sym r.2) ∙ resident_item c one r.0 r.1 ∙ ap (content_of c) r.3 ∙ found.1)

  -- the same of a row
  row_there : (o : Option Row) → IsSome (option_map item.Mapping o) → (row : Row) × (option_map item.Mapping o ≡ Some (item.Mapping row))
  row_there None there = absurd (cc)
  row_there (Some row) there = (row, refl)

  pub row_named : (ident : Ident) (space : SpaceNo) (vpn : Vpn) → IsResident (residents_of c) ident (name.Mapping space vpn) → (row : Row) × (item_as c ident ≡ Some (item.Mapping row))
  row_named ident space vpn r =
      let found = row_there (stored.content_of row_name c.rows.kept (name.Mapping space vpn)) (subst (λ (n : Name). IsSome (content_of c n)) r.3 (resident_content c one r.0 r.1)) in
      (found.0, ap (item_as c) (sym r.2) ∙ resident_item c one r.0 r.1 ∙ ap (content_of c) r.3 ∙ found.1)

  -- its identifier is that of a thread, in a slot of the cache of threads
  pub thread_kind : (ident : Ident) (whom : ThreadNo) → IsResident (residents_of c) ident (name.Thread whom) → ident.kind ≡ kind.Thread
  thread_kind ident whom r = ap (λ (i : Ident). i.kind) (sym r.2) ∙ resident_kind c one.sound r.0 r.1 ∙ ap kind_of r.3

  -- and isn't refused as one of a thread
  pub thread_passes : (ident : Ident) (whom : ThreadNo) → IsResident (residents_of c) ident (name.Thread whom) → not_a kind.Thread c ident ≡ None
  unfolding not_live wrong_kind
  thread_passes ident whom r =
      let live = (live_iff c one.sound ident).1 (r.0, r.1, r.2) in
      ap (λ (s : Standing). option_or (gone_by ident s) (if is_kind ident.kind kind.Thread then None else Some (why.WrongKind ident))) live
      ∙ ap (λ (k : Kind). if is_kind k kind.Thread then None else Some (why.WrongKind ident)) (thread_kind ident whom r)
