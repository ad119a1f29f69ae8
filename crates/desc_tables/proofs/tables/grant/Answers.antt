use Rattle.std.proofs.Common.{◌≡◌, ◌∙◌, ap, sym, refl, subst, Option, Some, IsSome}
use Rattle.std.specs.Option.{option_map}
use Rattle.cache_ident.specs.declared.names.Name.{Name}
use Rattle.cache_ident.specs.declared.names.Name.TheVariants as name
use Rattle.desc_groups.specs.desc_stores.specs.declared.items.Item.{Item}
use Rattle.desc_groups.specs.desc_stores.specs.declared.items.Item.TheVariants as item
use Rattle.desc_groups.specs.desc_stores.specs.declared.items.ItemRef.{ItemRef}
use Rattle.desc_groups.specs.desc_stores.specs.Contents.{content_of}
use Rattle.desc_groups.specs.desc_stores.specs.Items.{shown}
use Rattle.desc_groups.specs.shown_state.proofs.ContentLemmas.{item_has_name}
use Rattle.desc_tables.proofs.tables.grant.Goals as goal

pub put_kernel-requires : goal.put_kernel-requires
put_kernel-requires c =
    let s = c.args.stores.now in
    let k = c.in-Some-Kernel.field-0-0.now in
    let there : content_of s (name.Kernel c.args.kernel) ≡ Some (item.Kernel k) = sym c.item.ensures ∙ ap (option_map shown) c.in-Some-Kernel.is ∙ ap (λ (r : ItemRef). Some (shown r)) c.in-Some-Kernel.field-0-is in
    let named = item_has_name s (name.Kernel c.args.kernel) (item.Kernel k) there in
    subst (λ (n : Name). IsSome (content_of s n)) (sym named) (subst (λ (o : Option Item). IsSome o) (sym there) refl)
