-- Who owns what stands under a name, and whether anything does.
use Rattle.std.proofs.Common.{◌≡◌, Bool, Bor, [], Option, Some, None, sym, ◌∙◌, ap}
use Rattle.std.specs.Prelude.{if◌then◌else◌, is_some}
use Rattle.std.specs.Option.{option_and_then, option_map}
use Rattle.board_ops.specs.flat_laws.proofs.Members.{is_some-option_map}
use Rattle.cache_ident.specs.declared.idents.Ident.{Ident}
use Rattle.cache_ident.specs.declared.names.KernelNo.{KernelNo}
use Rattle.cache_ident.specs.declared.names.Name.{Name}
use Rattle.cache_ident.specs.declared.names.Name.TheVariants as name
use Rattle.phys_groups.specs.declared.rows.Row.{Row}
use Rattle.kernel_cache.specs.declared.KernelRec.{KernelRec}
use Rattle.space_cache.specs.declared.SpaceRec.{SpaceRec}
use Rattle.thread_cache.specs.declared.ThreadRec.{ThreadRec}
use Rattle.board_ops.specs.flat_state.specs.Dependence.{owner}
use Rattle.board_ops.specs.flat_state.specs.Names.{stands}
use Rattle.desc_tables.specs.desc_stores.specs.declared.items.Item.TheVariants as item
use Rattle.desc_tables.specs.desc_stores.specs.declared.items.ItemRef.{ItemRef}
use Rattle.desc_tables.specs.desc_stores.specs.Contents.{content_of, item_as, Contents}
use Rattle.desc_tables.specs.desc_stores.specs.declared.items.ItemRef.TheVariants as ref
use Rattle.desc_tables.specs.desc_stores.specs.Items.{name_of, shown}
use Rattle.desc_tables.specs.desc_stores.specs.Sound.{IsExactlyOne}
use Rattle.desc_tables.specs.shown_state.proofs.LookupLemmas.{name_stands}
use Rattle.desc_tables.specs.desc_groups.proofs.OwnerLemmas.{owner_as_item, owner_of_item}
use Rattle.desc_tables.specs.desc_parents.specs.Seen.{seen}
use Rattle.board_ops.specs.declared.refusals.Refused.TheVariants as why
use Rattle.board_checks.specs.Refusals.{not_declared, not_owned, not_owner}
use Rattle.board_checks.proofs.IdentifierLemmas.{kernel_is}

module _ (c : Contents) (one : IsExactlyOne c) where
  -- a name stands where something is found under it
  pub found_stands : (n : Name) (o : Option ItemRef) → option_map shown o ≡ content_of c n → is_some o ≡ stands (seen c) n
  found_stands n o found = sym (is_some-option_map shown o) ∙ ap is_some found ∙ sym (name_stands None [] c one n)

  -- the owner of what stands, by what it is
  module _ (r : ItemRef) (there : content_of c (name_of (shown r)) ≡ Some (shown r)) where
    owned_as_shown : (x : ItemRef) → r ≡ x → owner_of_item (seen c) (shown x) ≡ owner (seen c) (name_of (shown r))
    owned_as_shown x is = ap (λ (y : ItemRef). owner_of_item (seen c) (shown y)) (sym is) ∙ owner_as_item c one (shown r) there

    pub kernel_owned : (kernel : Bor KernelRec) → r ≡ ref.Kernel kernel → Some (record { 0 = 0 }) ≡ owner (seen c) (name_of (shown r))
    kernel_owned kernel is = owned_as_shown (ref.Kernel kernel) is

    pub space_owned : (space : Bor SpaceRec) → r ≡ ref.Space space → Some space.now.kernel ≡ owner (seen c) (name_of (shown r))
    space_owned space is = owned_as_shown (ref.Space space) is

    pub thread_owned : (thread : Bor ThreadRec) → r ≡ ref.Thread thread → owner (seen c) (name.Space thread.now.space) ≡ owner (seen c) (name_of (shown r))
    thread_owned thread is = owned_as_shown (ref.Thread thread) is

    pub row_owned : (row : Bor Row) → r ≡ ref.Mapping row → owner (seen c) (name.Space row.now.space) ≡ owner (seen c) (name_of (shown r))
    row_owned row is = owned_as_shown (ref.Mapping row) is

  -- so a name is refused where nothing is found
  pub declared_tested : (n : Name) (o : Option ItemRef) → option_map shown o ≡ content_of c n → (if is_some o then None else Some (why.NotDeclared n)) ≡ not_declared c n
  unfolding not_declared
  declared_tested n o found = ap (λ (b : Bool). if b then None else Some (why.NotDeclared n)) (found_stands n o found)

-- the owner is tested against the caller's kernel
pub owner_tested : (c : Contents) (caller : Ident) (kernel : KernelRec) → item_as c caller ≡ Some (item.Kernel kernel) → (n : Name) → option_and_then (not_owner kernel.no) (owner (seen c) n) ≡ not_owned c caller n
unfolding not_owned
owner_tested c caller kernel is n = ap (option_and_then (λ (given : KernelNo). option_and_then (not_owner given) (owner (seen c) n))) (sym (kernel_is c caller kernel is))
