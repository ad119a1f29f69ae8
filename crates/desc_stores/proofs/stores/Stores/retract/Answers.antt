use Rattle.std.proofs.Common.{List, Option, ap, refl}
use Rattle.std.specs.Option.{option_map}
use Rattle.phys_groups.specs.declared.rows.Row.{Row}
use Rattle.slot_cache.specs.declared.loaded.Loaded.{Loaded}
use Rattle.slot_cache.specs.Rows.{row_name}
use Rattle.desc_stores.specs.Contents.{resident_of, Contents}
use Rattle.kind_store.specs.Rolls.{loaded_as}
use Rattle.desc_stores.proofs.KindLemmas.{residents-same, rows_all}
use Rattle.desc_stores.proofs.PutLemmas.{owned-without}
use Rattle.desc_stores.proofs.stores.Stores.retract.Goals as goal

pub returns-clause-residents : goal.returns-clause-residents
returns-clause-residents c =
    let i = c.self.inside in
    let v : Contents = record { kernels = i.kernels; spaces = i.spaces; threads = i.threads; rows = i.rows; kernel_count = i.kernel_count; space_count = i.space_count; thread_count = i.thread_count; issued = i.roll.issued; spare = i.roll.spare } in
    let new : Contents = record v { rows = c.retract.new.self } in
    rw (← c.self.view_is) (residents-same v new refl (rows_all v c.retract.new.self.kept c.retract.new.self v.issued v.spare (λ j. ap (λ (cells : List (Option (Loaded Row))). option_map (resident_of row_name) (loaded_as cells j)) c.retract.ensures.cells)))

pub returns-clause-owned : goal.returns-clause-owned
returns-clause-owned c =
    let i = c.self.inside in
    let v : Contents = record { kernels = i.kernels; spaces = i.spaces; threads = i.threads; rows = i.rows; kernel_count = i.kernel_count; space_count = i.space_count; thread_count = i.thread_count; issued = i.roll.issued; spare = i.roll.spare } in
    rw (← c.self.view_is) (λ owner_of owned. record {
      kernels = owned.kernels;
      spaces = owned.spaces;
      threads = owned.threads;
      rows = rw c.retract.ensures.rows (owned-without row_name owner_of v.rows.kept.rows c.args.name owned.rows);
    })
