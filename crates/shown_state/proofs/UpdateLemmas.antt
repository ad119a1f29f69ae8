-- What is loaded is the content of its name, and a change of it one of that content.
use Rattle.std.proofs.Common.{◌≡◌, Option, Some, None, IsSome, refl, sym, ap, subst}
use Rattle.std.specs.Option.{option_map}
use Rattle.std.proofs.lemmas.Option.{same_Some}
use Rattle.cache_ident.specs.declared.idents.Ident.{Ident}
use Rattle.cache_ident.specs.declared.idents.Kind.{Kind}
use Rattle.cache_ident.specs.declared.idents.Kind.TheVariants as kind
use Rattle.cache_ident.specs.declared.names.KernelNo.{KernelNo}
use Rattle.cache_ident.specs.declared.names.Name.{Name}
use Rattle.cache_ident.specs.declared.names.Name.TheVariants as name
use Rattle.cache_ident.specs.declared.names.SpaceNo.{SpaceNo}
use Rattle.cache_ident.specs.declared.names.ThreadNo.{ThreadNo}
use Rattle.phys_groups.specs.Rows.{row_name}
use Rattle.desc_stores.specs.slot_cache.specs.declared.loaded.Loaded.{Loaded}
use Rattle.desc_stores.specs.kernel_cache.specs.Kernels as kernel_rec
use Rattle.desc_stores.specs.space_cache.specs.Spaces as space_rec
use Rattle.desc_stores.specs.thread_cache.specs.Threads as thread_rec
use Rattle.desc_stores.specs.kind_store.specs.Kept as stored
use Rattle.desc_stores.specs.kind_store.specs.Rolls.{loaded_as}
use Rattle.desc_stores.specs.kind_store.proofs.CellLemmas.{found-there}
use Rattle.desc_stores.specs.kind_store.proofs.ContentLemmas.{content-loaded}
use Rattle.desc_stores.specs.declared.items.Item.{Item}
use Rattle.desc_stores.specs.declared.items.Item.TheVariants as item
use Rattle.desc_stores.specs.Items.{name_of, Agrees}
use Rattle.desc_stores.specs.Changes.{with_item, HasContent}
use Rattle.desc_stores.specs.Contents.{content_of, item_as, item_in, Contents}
use Rattle.desc_stores.specs.Sound.{IsExactlyOne}
use Rattle.desc_stores.proofs.CellLemmas.{loaded_back}
use Rattle.shown_state.specs.Edits.{IsChange}
use Rattle.shown_state.proofs.MoveLemmas.{names_changed}

module _ {T : Type 0} (called : T → Name) where
  -- what is loaded of a kind is the content of its name
  kept_content : (of : Kind) (kept : stored.Kept T) → stored.IsExactlyOne called of kept → (make : T → Item) (ident : Ident) (content : Item) → option_map (λ loaded. make loaded.value) (loaded_as kept.cells ident) ≡ Some content → (value : T) × (content ≡ make value) × (stored.content_of called kept (called value) ≡ Some value)
  kept_content of kept one make ident content is = by (loaded_as kept.cells ident) refl is
    where
      by : (o : Option (Loaded T)) → loaded_as kept.cells ident ≡ o → option_map (λ loaded. make loaded.value) o ≡ Some content → (value : T) × (content ≡ make value) × (stored.content_of called kept (called value) ≡ Some value)
      by None held is = absurd (cc)
      by (Some l) held is =
          let there = (loaded_back kept.cells ident l held).0 in
          (l.value, sym (same_Some (make l.value) content is), content-loaded called kept (called l.value) l (found-there called kept.cells ident.slot l there (λ other a at same. one.slots.one_name other ident.slot a l at there same)))

module _ (c : Contents) (one : IsExactlyOne c) where
  loaded_content_in : (of : Kind) (ident : Ident) (content : Item) → item_in c of ident ≡ Some content → content_of c (name_of content) ≡ Some content
  loaded_content_in kind.Kernel ident content is =
      let its = kept_content kernel_rec.name_of kind.Kernel c.kernels one.kernels item.Kernel ident content is in
      subst (λ (x : Item). content_of c (name_of x) ≡ Some x) (sym its.1) (ap (option_map item.Kernel) its.2)
  loaded_content_in kind.Space ident content is =
      let its = kept_content space_rec.name_of kind.Space c.spaces one.spaces item.Space ident content is in
      subst (λ (x : Item). content_of c (name_of x) ≡ Some x) (sym its.1) (ap (option_map item.Space) its.2)
  loaded_content_in kind.Thread ident content is =
      let its = kept_content thread_rec.name_of kind.Thread c.threads one.threads item.Thread ident content is in
      subst (λ (x : Item). content_of c (name_of x) ≡ Some x) (sym its.1) (ap (option_map item.Thread) its.2)
  loaded_content_in kind.Mapping ident content is =
      let its = kept_content row_name kind.Mapping c.rows.kept one.rows item.Mapping ident content is in
      subst (λ (x : Item). content_of c (name_of x) ≡ Some x) (sym its.1) (ap (option_map item.Mapping) its.2)

  -- what is loaded is the content of its name
  pub loaded_content : (ident : Ident) (content : Item) → item_as c ident ≡ Some content → content_of c (name_of content) ≡ Some content
  loaded_content ident content is = loaded_content_in ident.kind ident content is

-- contents of which one may stand in the place of the other have one name
pub agreed_name : (was content : Item) → Agrees was content → name_of was ≡ name_of content
agreed_name (item.Kernel was) (item.Kernel kernel) agrees = ap (λ (n : KernelNo). name.Kernel n) agrees
agreed_name (item.Space was) (item.Space space) agrees = ap (λ (n : SpaceNo). name.Space n) agrees
agreed_name (item.Thread was) (item.Thread thread) agrees = ap (λ (n : ThreadNo). name.Thread n) agrees
agreed_name (item.Mapping was) (item.Mapping row) agrees = agrees.0
agreed_name (item.Kernel was) (item.Space space) agrees = absurd agrees
agreed_name (item.Kernel was) (item.Thread thread) agrees = absurd agrees
agreed_name (item.Kernel was) (item.Mapping row) agrees = absurd agrees
agreed_name (item.Space was) (item.Kernel kernel) agrees = absurd agrees
agreed_name (item.Space was) (item.Thread thread) agrees = absurd agrees
agreed_name (item.Space was) (item.Mapping row) agrees = absurd agrees
agreed_name (item.Thread was) (item.Kernel kernel) agrees = absurd agrees
agreed_name (item.Thread was) (item.Space space) agrees = absurd agrees
agreed_name (item.Thread was) (item.Mapping row) agrees = absurd agrees
agreed_name (item.Mapping was) (item.Kernel kernel) agrees = absurd agrees
agreed_name (item.Mapping was) (item.Space space) agrees = absurd agrees
agreed_name (item.Mapping was) (item.Thread thread) agrees = absurd agrees

-- what came in the place of what is loaded changed it
pub loaded_change : (old new : Contents) (ident : Ident) (was content : Item) → IsExactlyOne old → item_as old ident ≡ Some was → Agrees was content → HasContent old new content → new ≡ with_item old ident content → IsChange old new content
loaded_change old new ident was content one held agrees has is = record {
  names = names_changed old new ident content is;
  was = subst (λ (n : Name). IsSome (content_of old n)) (agreed_name was content agrees) (subst (λ (o : Option Item). IsSome o) (sym (loaded_content old one ident was held)) refl);
  contents = has;
}
