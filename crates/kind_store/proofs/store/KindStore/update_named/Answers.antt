use Rattle.kind_store.proofs.NamedLemmas.{named-owned, named-view}
use Rattle.kind_store.proofs.store.KindStore.update_named.Goals as goal

pub update-requires-clause-named : goal.update-requires-clause-named
update-requires-clause-named g c = rw (← c.self.view_is) at c.requires.named

pub returns-clause-updated : goal.returns-clause-updated
returns-clause-updated g c =
    let i = c.self.inside in
    let made = c.update.ensures.updated in
    rw (← c.self.view_is) (record {
      value = made.value;
      was = made.was;
      left = made.left;
      called_with = made.called_with;
      is = rw made.is (named-view g.T.Descriptor.called c.args.name made.left i.seats.cells i.seats.shelf);
      contents = made.contents;
    })

pub returns-clause-owned : goal.returns-clause-owned
returns-clause-owned g c =
    let i = c.self.inside in
    let made = c.update.ensures.updated in
    rw (← c.self.view_is, made.is) (λ owner_of owned. named-owned g.T.Descriptor.called c.args.name made.left made.named owner_of i.seats.shelf.rows owned)

pub returns-clause-enrolled : goal.returns-clause-enrolled
returns-clause-enrolled g c = rw (← c.self.view_is) c.update.ensures.enrolled
