use Rattle.std.proofs.Common.{◌≡◌, ◌∙◌, ℕ, ◌-◌, ap, sym, refl, subst, Option, Some, IsSome}
use Rattle.std.specs.Option.{option_map}
use Rattle.cache_ident.specs.declared.names.Caps.{Caps}
use Rattle.cache_ident.specs.declared.names.Name.{Name}
use Rattle.cache_ident.specs.declared.names.Name.TheVariants as name
use Rattle.desc_parents.specs.desc_stores.specs.declared.items.Item.{Item}
use Rattle.desc_parents.specs.desc_stores.specs.declared.items.Item.TheVariants as item
use Rattle.desc_parents.specs.desc_stores.specs.declared.items.ItemRef.{ItemRef}
use Rattle.desc_parents.specs.desc_stores.specs.Contents.{content_of}
use Rattle.desc_parents.specs.desc_stores.specs.Items.{shown}
use Rattle.desc_parents.specs.shown_state.proofs.ContentLemmas.{item_has_name}
use Rattle.desc_groups.specs.Moves.{counted_down, with_amount, IsPutKernel}
use Rattle.desc_groups.proofs.counts.count_down.Goals as goal

pub put_kernel-requires : goal.put_kernel-requires
put_kernel-requires c =
    let s = c.args.stores.now in
    let k = c.in-Some-Kernel.field-0-0.now in
    let there : content_of s (name.Kernel c.args.kernel) ≡ Some (item.Kernel k) = sym c.item.ensures ∙ ap (option_map shown) c.in-Some-Kernel.is ∙ ap (λ (r : ItemRef). Some (shown r)) c.in-Some-Kernel.field-0-is in
    let named = item_has_name s (name.Kernel c.args.kernel) (item.Kernel k) there in
    subst (λ (n : Name). IsSome (content_of s n)) (sym named) (subst (λ (o : Option Item). IsSome o) (sym there) refl)

pub returns-in-Some-Kernel : goal.returns-in-Some-Kernel
returns-in-Some-Kernel c was is =
    let s = c.args.stores.now in
    let k = c.in-Some-Kernel.field-0-0.now in
    let there : content_of s (name.Kernel c.args.kernel) ≡ Some (item.Kernel k) = sym c.item.ensures ∙ ap (option_map shown) c.in-Some-Kernel.is ∙ ap (λ (r : ItemRef). Some (shown r)) c.in-Some-Kernel.field-0-is in
    let same : k ≡ was = cc (there, is) in
    let put : IsPutKernel s c.put_kernel.new.self (record k { locked = c.with-counted.result }) = record {
      contents = c.put_kernel.ensures.contents;
      residents = c.put_kernel.ensures.residents;
      owned = c.put_kernel.ensures.owned;
      slots = c.put_kernel.ensures.slots;
      room = c.put_kernel.ensures.room;
      only = c.put_kernel.ensures.only;
    } in
    let counts : record k { locked = c.with-counted.result } ≡ counted_down c.args.kind k = ap (λ (caps : Caps). record k { locked = caps }) (c.with-counted.ensures ∙ ap (λ (n : ℕ). with_amount k.locked c.args.kind (n - 1)) c.of.ensures) in
    subst (IsPutKernel s c.put_kernel.new.self) (counts ∙ ap (counted_down c.args.kind) same) put
