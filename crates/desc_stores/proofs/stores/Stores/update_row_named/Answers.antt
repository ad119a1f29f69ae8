use Rattle.std.proofs.Common.{◌≡◌, ◌∙◌, ap, subst, sym}
use Rattle.std.specs.Option.{option_map}
use Rattle.cache_ident.specs.declared.names.Name.{Name}
use Rattle.phys_groups.specs.declared.rows.Row.{Row}
use Rattle.slot_cache.specs.Rows.{row_name}
use Rattle.kind_store.specs.Changes as moves
use Rattle.kind_store.specs.Kept as stored
use Rattle.row_store.specs.Kept.{KeptRows}
use Rattle.desc_stores.specs.declared.items.Item.TheVariants as item
use Rattle.desc_stores.specs.Contents.{Contents}
use Rattle.desc_stores.proofs.KindLemmas.{rows_has, rows_same}
use Rattle.desc_stores.proofs.NamedLemmas.{content_called, row_of, rows-residents_named, rows-sound_named}
use Rattle.desc_stores.proofs.stores.Stores.update_row_named.Goals as goal

pub update_named-requires-clause-named : goal.update_named-requires-clause-named
update_named-requires-clause-named g c =
    let i = c.self.inside in
    let v : Contents = record { kernels = i.kernels; spaces = i.spaces; threads = i.threads; rows = i.rows; kernel_count = i.kernel_count; space_count = i.space_count; thread_count = i.thread_count; issued = i.roll.issued; spare = i.roll.spare } in
    let agrees = rw (← c.self.view_is) at c.requires.agrees in
    λ value result left there gave.
    let same = agrees value left result (row_of v c.args.name c.requires.row ∙ ap (option_map item.Mapping) there) gave in
    sym same.0

pub update_named-requires-clause-frame : goal.update_named-requires-clause-frame
update_named-requires-clause-frame g c =
    let i = c.self.inside in
    let v : Contents = record { kernels = i.kernels; spaces = i.spaces; threads = i.threads; rows = i.rows; kernel_count = i.kernel_count; space_count = i.space_count; thread_count = i.thread_count; issued = i.roll.issued; spare = i.roll.spare } in
    let agrees = rw (← c.self.view_is) at c.requires.agrees in
    λ value result left there gave.
    let same = agrees value left result (row_of v c.args.name c.requires.row ∙ ap (option_map item.Mapping) there) gave in
    sym same.1

pub update_named-requires-clause-flags : goal.update_named-requires-clause-flags
update_named-requires-clause-flags g c =
    let i = c.self.inside in
    let v : Contents = record { kernels = i.kernels; spaces = i.spaces; threads = i.threads; rows = i.rows; kernel_count = i.kernel_count; space_count = i.space_count; thread_count = i.thread_count; issued = i.roll.issued; spare = i.roll.spare } in
    let agrees = rw (← c.self.view_is) at c.requires.agrees in
    λ value result left there gave.
    let same = agrees value left result (row_of v c.args.name c.requires.row ∙ ap (option_map item.Mapping) there) gave in
    sym same.2

pub update_named-requires-clause-receiver : goal.update_named-requires-clause-receiver
update_named-requires-clause-receiver g c =
    let i = c.self.inside in
    let v : Contents = record { kernels = i.kernels; spaces = i.spaces; threads = i.threads; rows = i.rows; kernel_count = i.kernel_count; space_count = i.space_count; thread_count = i.thread_count; issued = i.roll.issued; spare = i.roll.spare } in
    let agrees = rw (← c.self.view_is) at c.requires.agrees in
    λ value result left there gave.
    let same = agrees value left result (row_of v c.args.name c.requires.row ∙ ap (option_map item.Mapping) there) gave in
    sym same.3

pub invariant_of-self : goal.invariant_of-self
invariant_of-self g c =
    let i = c.self.inside in
    let v : Contents = record { kernels = i.kernels; spaces = i.spaces; threads = i.threads; rows = i.rows; kernel_count = i.kernel_count; space_count = i.space_count; thread_count = i.thread_count; issued = i.roll.issued; spare = i.roll.spare } in
    let made = c.update_named.ensures.updated in
    rows-sound_named v c.args.name c.update_named.new.self made.left made.is c.self.invariant c.update_named.ensures.enrolled

pub returns-clause-updated : goal.returns-clause-updated
returns-clause-updated g c =
    let i = c.self.inside in
    let v : Contents = record { kernels = i.kernels; spaces = i.spaces; threads = i.threads; rows = i.rows; kernel_count = i.kernel_count; space_count = i.space_count; thread_count = i.thread_count; issued = i.roll.issued; spare = i.roll.spare } in
    let agrees = rw (← c.self.view_is) at c.requires.agrees in
    let made = c.update_named.ensures.updated in
    let found = row_of v c.args.name c.requires.row ∙ ap (option_map item.Mapping) made.was in
    let same = agrees made.value made.left c.update_named.result found made.called_with in
    let named = sym same.0 ∙ content_called row_name v.rows.kept c.args.name made.value made.was in
    let new = c.update_named.new.self in
    let has = subst (λ (n : Name). moves.HasContent row_name v.rows.kept new.kept n made.left) (sym named) made.contents in
    let is = subst (λ (n : Name). new.kept ≡ moves.with_content row_name v.rows.kept n made.left) (sym named) made.is in
    rw (← c.self.view_is) (record {
      value = made.value;
      was = found;
      left = made.left;
      called_with = made.called_with;
      contents = rows_has v new.kept new v.issued v.spare made.left has;
      is = ap (λ (x : KeptRows). let y : Contents = record v { rows = x } in y) (rows_same new i.rows c.update_named.ensures.names c.update_named.ensures.room ∙ ap (λ (k : stored.Kept Row). let x : KeptRows = record i.rows { kept = k } in x) is);
    })

pub returns-clause-residents : goal.returns-clause-residents
returns-clause-residents g c =
    let i = c.self.inside in
    let v : Contents = record { kernels = i.kernels; spaces = i.spaces; threads = i.threads; rows = i.rows; kernel_count = i.kernel_count; space_count = i.space_count; thread_count = i.thread_count; issued = i.roll.issued; spare = i.roll.spare } in
    let agrees = rw (← c.self.view_is) at c.requires.agrees in
    let made = c.update_named.ensures.updated in
    let found = row_of v c.args.name c.requires.row ∙ ap (option_map item.Mapping) made.was in
    let same = agrees made.value made.left c.update_named.result found made.called_with in
    let named = sym same.0 ∙ content_called row_name v.rows.kept c.args.name made.value made.was in
    rw (← c.self.view_is) (rows-residents_named v c.args.name c.update_named.new.self made.left made.is named)

pub returns-clause-owned : goal.returns-clause-owned
returns-clause-owned g c =
    let i = c.self.inside in
    let v : Contents = record { kernels = i.kernels; spaces = i.spaces; threads = i.threads; rows = i.rows; kernel_count = i.kernel_count; space_count = i.space_count; thread_count = i.thread_count; issued = i.roll.issued; spare = i.roll.spare } in
    rw (← c.self.view_is) (λ owner_of owned. record {
      kernels = owned.kernels;
      spaces = owned.spaces;
      threads = owned.threads;
      rows = c.update_named.ensures.owned owner_of owned.rows;
    })
