use Rattle.std.proofs.Common.{◌≡◌, ◌≢◌, ℕ, List, None, Option, Some, All, inr}
use Rattle.std.specs.Option.{IfNone, IfSome}
use Rattle.std.specs.Prelude.{slice_get}
use Rattle.cache_ident.specs.declared.names.Name.{Name}
use Rattle.cache_ident.specs.contracts.names.NamePartialEq.TheImpl as names
use Rattle.sorted_list.specs.Sorted.{values_under}
use Rattle.slot_cache.specs.declared.seats.Seat.{Seat}
use Rattle.owner_shelf.proofs.NameLemmas.{found_name, no_name}
use Rattle.kind_store.specs.Seated.{LeadsTo}
use Rattle.kind_store.proofs.seats.key_of.Goals as goal

found_leads : {T : Type 0} (called : T → Name) (seats : List (Option (Seat T))) (entries : List (Name × ℕ)) (name : Name) (r : Option ℕ) → r ≡ slice_get (values_under (names.ghosts).eq entries name) 0 → IfSome r (LeadsTo called seats entries name)
found_leads called seats entries name None is = tt
found_leads called seats entries name (Some key) is = inr (found_name entries name key is)

none_leads : (entries : List (Name × ℕ)) (name : Name) (r : Option ℕ) → r ≡ slice_get (values_under (names.ghosts).eq entries name) 0 → IfNone r (All (λ entry. entry.0 ≢ name) entries)
none_leads entries name None is = no_name entries name is
none_leads entries name (Some key) is = tt

pub returns-in-None-clause-found : goal.returns-in-None-clause-found
returns-in-None-clause-found g c = found_leads g.T.Descriptor.called c.args.records.now.slots c.args.by_name.now.entries c.args.name c.find.result c.find.ensures.value

pub returns-in-None-clause-absent : goal.returns-in-None-clause-absent
returns-in-None-clause-absent g c = none_leads c.args.by_name.now.entries c.args.name c.find.result c.find.ensures.value
