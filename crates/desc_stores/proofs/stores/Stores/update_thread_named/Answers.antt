use Rattle.std.proofs.Common.{◌≡◌, ◌∙◌, ap, subst, sym}
use Rattle.std.specs.Option.{option_map}
use Rattle.cache_ident.specs.declared.names.Name.{Name}
use Rattle.cache_ident.specs.declared.names.Name.TheVariants as name
use Rattle.cache_ident.specs.declared.names.ThreadNo.{ThreadNo}
use Rattle.thread_cache.specs.declared.ThreadRec.{ThreadRec}
use Rattle.thread_cache.specs.Threads as thread_rec
use Rattle.kind_store.specs.Changes as moves
use Rattle.kind_store.specs.Kept as stored
use Rattle.desc_stores.specs.declared.items.Item.TheVariants as item
use Rattle.desc_stores.specs.Contents.{Contents}
use Rattle.desc_stores.proofs.KindLemmas.{threads_has}
use Rattle.desc_stores.proofs.NamedLemmas.{content_called, thread_of, threads-residents_named, threads-sound_named}
use Rattle.desc_stores.proofs.stores.Stores.update_thread_named.Goals as goal

pub update_named-requires-clause-named : goal.update_named-requires-clause-named
update_named-requires-clause-named g c =
    let i = c.self.inside in
    let v : Contents = record { kernels = i.kernels; spaces = i.spaces; threads = i.threads; rows = i.rows; kernel_count = i.kernel_count; space_count = i.space_count; thread_count = i.thread_count; issued = i.roll.issued; spare = i.roll.spare } in
    let agrees = rw (← c.self.view_is) at c.requires.agrees in
    λ value result left there gave.
    let same = agrees value left result (thread_of v c.args.name c.requires.thread ∙ ap (option_map item.Thread) there) gave in
    ap (λ (n : ThreadNo). name.Thread n) (sym same)

pub invariant_of-self : goal.invariant_of-self
invariant_of-self g c =
    let i = c.self.inside in
    let v : Contents = record { kernels = i.kernels; spaces = i.spaces; threads = i.threads; rows = i.rows; kernel_count = i.kernel_count; space_count = i.space_count; thread_count = i.thread_count; issued = i.roll.issued; spare = i.roll.spare } in
    let made = c.update_named.ensures.updated in
    threads-sound_named v c.args.name c.update_named.new.self made.left made.is c.self.invariant made.value made.was made.contents c.update_named.ensures.enrolled

pub returns-clause-updated : goal.returns-clause-updated
returns-clause-updated g c =
    let i = c.self.inside in
    let v : Contents = record { kernels = i.kernels; spaces = i.spaces; threads = i.threads; rows = i.rows; kernel_count = i.kernel_count; space_count = i.space_count; thread_count = i.thread_count; issued = i.roll.issued; spare = i.roll.spare } in
    let agrees = rw (← c.self.view_is) at c.requires.agrees in
    let made = c.update_named.ensures.updated in
    let found = thread_of v c.args.name c.requires.thread ∙ ap (option_map item.Thread) made.was in
    let same = agrees made.value made.left c.update_named.result found made.called_with in
    let named = ap (λ (n : ThreadNo). name.Thread n) (sym same) ∙ content_called thread_rec.name_of v.threads c.args.name made.value made.was in
    let has = subst (λ (n : Name). moves.HasContent thread_rec.name_of v.threads c.update_named.new.self n made.left) (sym named) made.contents in
    let is = subst (λ (n : Name). c.update_named.new.self ≡ moves.with_content thread_rec.name_of v.threads n made.left) (sym named) made.is in
    rw (← c.self.view_is) (record {
      value = made.value;
      was = found;
      left = made.left;
      called_with = made.called_with;
      contents = threads_has v c.update_named.new.self v.thread_count v.issued v.spare made.left has;
      is = ap (λ (k : stored.Kept ThreadRec). let x : Contents = record v { threads = k } in x) is;
    })

pub returns-clause-residents : goal.returns-clause-residents
returns-clause-residents g c =
    let i = c.self.inside in
    let v : Contents = record { kernels = i.kernels; spaces = i.spaces; threads = i.threads; rows = i.rows; kernel_count = i.kernel_count; space_count = i.space_count; thread_count = i.thread_count; issued = i.roll.issued; spare = i.roll.spare } in
    let agrees = rw (← c.self.view_is) at c.requires.agrees in
    let made = c.update_named.ensures.updated in
    let found = thread_of v c.args.name c.requires.thread ∙ ap (option_map item.Thread) made.was in
    let same = agrees made.value made.left c.update_named.result found made.called_with in
    let named = ap (λ (n : ThreadNo). name.Thread n) (sym same) ∙ content_called thread_rec.name_of v.threads c.args.name made.value made.was in
    rw (← c.self.view_is) (threads-residents_named v c.args.name c.update_named.new.self made.left made.is named)

pub returns-clause-owned : goal.returns-clause-owned
returns-clause-owned g c =
    let i = c.self.inside in
    let v : Contents = record { kernels = i.kernels; spaces = i.spaces; threads = i.threads; rows = i.rows; kernel_count = i.kernel_count; space_count = i.space_count; thread_count = i.thread_count; issued = i.roll.issued; spare = i.roll.spare } in
    rw (← c.self.view_is) (λ owner_of owned. record {
      kernels = owned.kernels;
      spaces = owned.spaces;
      threads = c.update_named.ensures.owned owner_of owned.threads;
      rows = owned.rows;
    })
