use Rattle.std.proofs.Common.{◌≡◌, Some, ◌++◌, ◌∷◌, [], not, ap, subst, sym, ◌∙◌, arith}
use Rattle.std.proofs.lemmas.List.Elements.{All-filter}
use Rattle.cache_ident.specs.declared.idents.Ident.{Ident}
use Rattle.slot_cache.specs.Cells.{just_loaded, IsLowestFree}
use Rattle.slot_cache.proofs.SlotLemmas.{some_same}
use Rattle.owner_shelf.specs.declared.shelved.Shelved.{Shelved}
use Rattle.owner_shelf.specs.Rows.{is_named}
use Rattle.kind_store.specs.Rolls.{in_order}
use Rattle.kind_store.proofs.EnrolLemmas.{enrolled-loading}
use Rattle.kind_store.proofs.MoveLemmas.{load-keeps, load-moved}
use Rattle.kind_store.proofs.OrderLemmas.{in_order-loading}
use Rattle.kind_store.proofs.store.KindStore.load.Goals as goal

pub load-requires-clause-below : goal.load-requires-clause-below
load-requires-clause-below g c =
    let slot = ap (λ (j : Ident). j.slot) c.issue-ident.ensures.gives in
    (subst (IsLowestFree c.self.inside.seats.cells) (sym slot) c.in-Some.ensures.lowest).below

pub load-requires-clause-free : goal.load-requires-clause-free
load-requires-clause-free g c =
    let slot = ap (λ (j : Ident). j.slot) c.issue-ident.ensures.gives in
    (subst (IsLowestFree c.self.inside.seats.cells) (sym slot) c.in-Some.ensures.lowest).free

pub load-requires-clause-serial : goal.load-requires-clause-serial
load-requires-clause-serial g c =
    let enrolled = rw (← c.self.view_is) at c.requires.enrolled in
    let serial = ap (λ (j : Ident). j.serial) c.issue-ident.ensures.gives in
    λ k l there same. omega (arith, enrolled.older k l there, serial, same)

pub returns-clause-moved : goal.returns-clause-moved
returns-clause-moved g c =
    let i = c.self.inside in
    let ident = c.issue-ident.result in
    let slot = ap (λ (j : Ident). j.slot) c.issue-ident.ensures.gives in
    let lowest = subst (IsLowestFree i.seats.cells) (sym slot) c.in-Some.ensures.lowest in
    let taken = c.load.ensures.loaded in
    rw (← c.self.view_is, taken.cells, taken.shelf) (load-moved g.T.Descriptor.called g.T.Descriptor.KIND i.seats.cells i.seats.shelf c.self.invariant c.args.name ident taken.value lowest (sym taken.was))

pub returns-clause-contents : goal.returns-clause-contents
returns-clause-contents g c =
    let i = c.self.inside in
    let ident = c.issue-ident.result in
    let slot = ap (λ (j : Ident). j.slot) c.issue-ident.ensures.gives in
    let lowest = subst (IsLowestFree i.seats.cells) (sym slot) c.in-Some.ensures.lowest in
    let taken = c.load.ensures.loaded in
    rw (← c.self.view_is, taken.cells, taken.shelf) (load-keeps g.T.Descriptor.called g.T.Descriptor.KIND i.seats.cells i.seats.shelf c.self.invariant c.args.name ident taken.value lowest (sym taken.was))

pub returns-clause-owned : goal.returns-clause-owned
returns-clause-owned g c =
    let i = c.self.inside in
    let taken = c.load.ensures.loaded in
    rw (← c.self.view_is, taken.shelf) (λ owner_of owned. All-filter (λ row. not (is_named g.T.Descriptor.called c.args.name row)) (λ (row : Shelved g.row.T.Denot). owner_of (g.T.Descriptor.called row.content) ≡ Some row.owner) i.seats.shelf.rows owned)

pub returns-clause-last : goal.returns-clause-last
returns-clause-last g c =
    let i = c.self.inside in
    let ident = c.issue-ident.result in
    let slot = ap (λ (j : Ident). j.slot) c.issue-ident.ensures.gives in
    let lowest = subst (IsLowestFree i.seats.cells) (sym slot) c.in-Some.ensures.lowest in
    let issued = c.args.roll.now.issued in
    let taken = c.load.ensures.loaded in
    rw (← c.self.view_is, taken.cells, c.issue-ident.ensures.after) (λ value shelved.
    let same = some_same taken.value value (sym taken.was ∙ shelved) in
    in_order-loading i.seats.cells (just_loaded ident taken.value) lowest.below lowest.free issued c.issue-ident.ensures.fresh ∙ ap (λ (v : g.row.T.Denot). in_order issued i.seats.cells ++ just_loaded ident v ∷ []) same)

pub returns-clause-enrolled : goal.returns-clause-enrolled
returns-clause-enrolled g c =
    let i = c.self.inside in
    let ident = c.issue-ident.result in
    let slot = ap (λ (j : Ident). j.slot) c.issue-ident.ensures.gives in
    let lowest = subst (IsLowestFree i.seats.cells) (sym slot) c.in-Some.ensures.lowest in
    let enrolled = rw (← c.self.view_is) at c.requires.enrolled in
    let serial = ap (λ (j : Ident). j.serial) c.issue-ident.ensures.gives in
    let taken = c.load.ensures.loaded in
    rw (taken.cells, c.issue-ident.ensures.after) (enrolled-loading g.T.Descriptor.KIND c.args.roll.now.issued i.seats.cells enrolled (just_loaded ident taken.value) lowest.below lowest.free serial c.issue-ident.ensures.fresh)
