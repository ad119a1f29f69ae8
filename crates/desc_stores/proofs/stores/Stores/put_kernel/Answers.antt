use Rattle.std.proofs.Common.{◌∙◌, List, Option, Some, ap, subst, sym, refl}
use Rattle.std.specs.Option.{option_map}
use Rattle.cache_ident.specs.declared.idents.Ident.{Ident}
use Rattle.cache_ident.specs.declared.idents.Kind.TheVariants as kind
use Rattle.cache_ident.specs.declared.names.Name.{Name}
use Rattle.slot_cache.specs.declared.loaded.Loaded.{Loaded}
use Rattle.slot_cache.specs.Cells.{IsLoaded}
use Rattle.slot_cache.specs.Cells as cells
use Rattle.kernel_cache.specs.declared.KernelRec.{KernelRec}
use Rattle.kernel_cache.specs.Kernels as kernel_rec
use Rattle.kind_store.specs.Kept.{Kept}
use Rattle.desc_stores.specs.declared.items.Item.TheVariants as item
use Rattle.desc_stores.specs.Contents.{resident_of, Contents}
use Rattle.desc_stores.specs.Sound.{kernel_named}
use Rattle.std.specs.Prelude.{IsSome}
use Rattle.slot_cache.proofs.SlotLemmas.{one_at}
use Rattle.kind_store.specs.owner_shelf.specs.declared.shelved.Shelved.{Shelved}
use Rattle.kind_store.specs.Kept as stored
use Rattle.kind_store.specs.Rolls.{loaded_as}
use Rattle.desc_stores.proofs.SoundLemmas.{kernels-sound_changing}
use Rattle.desc_stores.proofs.KindLemmas.{kernels-changing, kernels_all, residents-same}
use Rattle.desc_stores.proofs.ChangeLemmas.{numbered-changing}
use Rattle.desc_stores.proofs.PutLemmas.{loaded_content, owned-exchanging, shelved_content, some_under}
use Rattle.desc_stores.proofs.stores.Stores.put_kernel.Goals as goal

pub invariant_of-self : goal.invariant_of-self
invariant_of-self c =
    let i = c.self.inside in
    let v : Contents = record { kernels = i.kernels; spaces = i.spaces; threads = i.threads; rows = i.rows; kernel_count = i.kernel_count; space_count = i.space_count; thread_count = i.thread_count; issued = i.roll.issued; spare = i.roll.spare } in
    let w = c.in-Some.ensures.found in
    let of_kind = ap (λ (j : Ident). j.kind) (sym w.2) ∙ (c.self.invariant.kernels.placed c.in-Some.ident.slot w.0 w.1).1 in
    let held : IsLoaded v.kernels.cells c.in-Some.ident = (w.0, w.1, w.2) in
    let name_is : cells.NameIs kernel_rec.name_of v.kernels.cells c.in-Some.ident.slot (kernel_rec.name_of c.args.kernel) = λ l there. ap (λ (x : Loaded KernelRec). kernel_rec.name_of x.value) (one_at v.kernels.cells c.in-Some.ident.slot l w.0 there w.1) ∙ w.3 ∙ c.name.ensures in
    let cells_are = ap (λ (k : Kept KernelRec). k.cells) c.change.ensures.after in
    kernels-sound_changing v c.self.invariant c.change.new.self v.spare c.in-Some.ident (cells.with_value c.args.kernel) (λ l. refl) held cells_are c.change.ensures.enrolled (numbered-changing kernel_rec.name_of kernel_named v.kernels c.change.new.self v.kernel_count c.in-Some.ident c.args.kernel held name_is c.self.invariant.kernel_names c.change.ensures.contents)

pub exchange-requires : goal.exchange-requires
exchange-requires c =
    let i = c.self.inside in
    let v : Contents = record { kernels = i.kernels; spaces = i.spaces; threads = i.threads; rows = i.rows; kernel_count = i.kernel_count; space_count = i.space_count; thread_count = i.thread_count; issued = i.roll.issued; spare = i.roll.spare } in
    let absent = subst (λ (n : Name). cells.HasNoName kernel_rec.name_of v.kernels.cells n) c.name.ensures c.in-None.ensures.absent in
    let shelved = shelved_content kernel_rec.name_of v.kernels (kernel_rec.name_of c.args.kernel) absent in
    let some = some_under (λ (k : KernelRec). item.Kernel k) (stored.content_of kernel_rec.name_of v.kernels (kernel_rec.name_of c.args.kernel)) (rw (← c.self.view_is) at c.requires) in
    subst (λ (o : Option KernelRec). IsSome o) shelved some

pub returns-in-Some-clause-was : goal.returns-in-Some-clause-was
returns-in-Some-clause-was c =
    let i = c.self.inside in
    let v : Contents = record { kernels = i.kernels; spaces = i.spaces; threads = i.threads; rows = i.rows; kernel_count = i.kernel_count; space_count = i.space_count; thread_count = i.thread_count; issued = i.roll.issued; spare = i.roll.spare } in
    let w = c.in-Some.ensures.found in
    let of_kind = ap (λ (j : Ident). j.kind) (sym w.2) ∙ (c.self.invariant.kernels.placed c.in-Some.ident.slot w.0 w.1).1 in
    let held : IsLoaded v.kernels.cells c.in-Some.ident = (w.0, w.1, w.2) in
    let name_is : cells.NameIs kernel_rec.name_of v.kernels.cells c.in-Some.ident.slot (kernel_rec.name_of c.args.kernel) = λ l there. ap (λ (x : Loaded KernelRec). kernel_rec.name_of x.value) (one_at v.kernels.cells c.in-Some.ident.slot l w.0 there w.1) ∙ w.3 ∙ c.name.ensures in
    let cells_are = ap (λ (k : Kept KernelRec). k.cells) c.change.ensures.after in
    let x = c.change.ensures.content in
    rw (← c.self.view_is) (ap (option_map (λ (k : KernelRec). item.Kernel k)) (loaded_content kernel_rec.name_of kind.Kernel v.kernels c.in-Some.ensures.one c.in-Some.ident.slot x.0 x.1 (kernel_rec.name_of c.args.kernel) (name_is x.0 x.1) ∙ ap (λ (k : KernelRec). Some k) x.3))

pub returns-in-Some-clause-residents : goal.returns-in-Some-clause-residents
returns-in-Some-clause-residents c =
    let i = c.self.inside in
    let v : Contents = record { kernels = i.kernels; spaces = i.spaces; threads = i.threads; rows = i.rows; kernel_count = i.kernel_count; space_count = i.space_count; thread_count = i.thread_count; issued = i.roll.issued; spare = i.roll.spare } in
    let w = c.in-Some.ensures.found in
    let of_kind = ap (λ (j : Ident). j.kind) (sym w.2) ∙ (c.self.invariant.kernels.placed c.in-Some.ident.slot w.0 w.1).1 in
    let held : IsLoaded v.kernels.cells c.in-Some.ident = (w.0, w.1, w.2) in
    let name_is : cells.NameIs kernel_rec.name_of v.kernels.cells c.in-Some.ident.slot (kernel_rec.name_of c.args.kernel) = λ l there. ap (λ (x : Loaded KernelRec). kernel_rec.name_of x.value) (one_at v.kernels.cells c.in-Some.ident.slot l w.0 there w.1) ∙ w.3 ∙ c.name.ensures in
    let cells_are = ap (λ (k : Kept KernelRec). k.cells) c.change.ensures.after in
    rw (← c.self.view_is) (kernels-changing v c.change.new.self v.kernel_count v.spare c.in-Some.ident of_kind c.args.kernel held name_is cells_are)

pub returns-in-None-clause-was : goal.returns-in-None-clause-was
returns-in-None-clause-was c =
    let i = c.self.inside in
    let v : Contents = record { kernels = i.kernels; spaces = i.spaces; threads = i.threads; rows = i.rows; kernel_count = i.kernel_count; space_count = i.space_count; thread_count = i.thread_count; issued = i.roll.issued; spare = i.roll.spare } in
    let absent = subst (λ (n : Name). cells.HasNoName kernel_rec.name_of v.kernels.cells n) c.name.ensures c.in-None.ensures.absent in
    let shelved = shelved_content kernel_rec.name_of v.kernels (kernel_rec.name_of c.args.kernel) absent in
    rw (← c.self.view_is) (ap (option_map (λ (k : KernelRec). item.Kernel k)) (shelved ∙ ap (option_map (λ (r : Shelved KernelRec). r.content)) c.exchange.ensures.moved.was))

pub returns-in-None-clause-residents : goal.returns-in-None-clause-residents
returns-in-None-clause-residents c =
    let i = c.self.inside in
    let v : Contents = record { kernels = i.kernels; spaces = i.spaces; threads = i.threads; rows = i.rows; kernel_count = i.kernel_count; space_count = i.space_count; thread_count = i.thread_count; issued = i.roll.issued; spare = i.roll.spare } in
    let new : Contents = record v { kernels = c.exchange.new.self } in
    rw (← c.self.view_is) (residents-same v new refl (kernels_all v c.exchange.new.self v.kernel_count v.issued v.spare (λ j. ap (λ (cells : List (Option (Loaded KernelRec))). option_map (resident_of kernel_rec.name_of) (loaded_as cells j)) c.exchange.ensures.moved.cells)))

pub returns-in-None-clause-owned : goal.returns-in-None-clause-owned
returns-in-None-clause-owned c =
    let i = c.self.inside in
    let v : Contents = record { kernels = i.kernels; spaces = i.spaces; threads = i.threads; rows = i.rows; kernel_count = i.kernel_count; space_count = i.space_count; thread_count = i.thread_count; issued = i.roll.issued; spare = i.roll.spare } in
    let moved = c.exchange.ensures.moved in
    rw (← c.self.view_is) (λ owner_of owned. record {
      kernels = owned-exchanging kernel_rec.name_of owner_of v.kernels.rows c.exchange.new.self.rows c.args.kernel c.exchange.result moved.owner moved.was moved.rows owned.kernels;
      spaces = owned.spaces;
      threads = owned.threads;
      rows = owned.rows;
    })
