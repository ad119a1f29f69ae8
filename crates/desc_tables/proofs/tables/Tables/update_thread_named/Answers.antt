-- What stands in the place of the content of the name is like it, so that all holds that held.
use Rattle.std.proofs.Common.{ap, sym, ◌∙◌}
use Rattle.desc_groups.specs.flat_state.specs.Dependence.{owner}
use Rattle.desc_groups.specs.desc_stores.specs.declared.items.Item.TheVariants as item
use Rattle.desc_groups.specs.desc_stores.specs.Changes.{room_of}
use Rattle.desc_groups.specs.desc_stores.specs.Contents.{content_of, Contents}
use Rattle.desc_groups.specs.desc_parents.specs.Seen.{seen}
use Rattle.desc_tables.specs.Tables.{Held}
use Rattle.desc_tables.proofs.ChangeLemmas.{called_named, like_agrees, shown_named, sound_named}
use Rattle.desc_tables.proofs.tables.Tables.update_thread_named.Goals as goal

pub update_thread_named-result-requires-clause-agrees : goal.update_thread_named-result-requires-clause-agrees
update_thread_named-result-requires-clause-agrees g c = λ was left result at gave.
    like_agrees (item.Thread was) (item.Thread left) (c.requires.like was left result (ap (λ (h : Held). content_of h.contents c.args.name) (sym c.self.view_is) ∙ at) gave)

pub invariant_of-self : goal.invariant_of-self
invariant_of-self g c =
    let stores = c.self.inside.stores in
    let sound = c.self.invariant.0 in
    let made = c.update_thread_named-result.ensures.updated in
    let like = c.requires.like made.value made.left c.update_thread_named-result.result (ap (λ (h : Held). content_of h.contents c.args.name) (sym c.self.view_is) ∙ made.was) made.called_with in (
      sound_named stores c.update_thread_named-result.new.self c.args.name (item.Thread made.value) (item.Thread made.left) made.was like made.contents made.is c.self.inside.pairs.caps c.self.inside.gone.items c.self.inside.left.items c.self.inside.pairs.pairs sound
          c.each_is_one.ensures c.update_thread_named-result.ensures.residents (c.update_thread_named-result.ensures.owned (owner (seen stores)) sound.whole.owned),
      c.self.invariant.1,
      c.self.invariant.2,
      c.self.invariant.3,
    )

pub returns-clause-updated : goal.returns-clause-updated
returns-clause-updated g c =
    let stores = c.self.inside.stores in
    let made = c.update_thread_named-result.ensures.updated in
    let like = c.requires.like made.value made.left c.update_thread_named-result.result (ap (λ (h : Held). content_of h.contents c.args.name) (sym c.self.view_is) ∙ made.was) made.called_with in
    rw (← c.self.view_is) (record {
      value = made.value;
      was = made.was;
      left = made.left;
      called_with = made.called_with;
      has_name = called_named stores c.update_thread_named-result.new.self c.args.name (item.Thread made.value) (item.Thread made.left) made.was like made.contents made.is;
      contents = made.contents;
      shows = shown_named stores c.update_thread_named-result.new.self c.args.name (item.Thread made.value) (item.Thread made.left) made.was like made.contents made.is c.self.invariant.0.whole.one;
      is = made.is;
    })

pub returns-clause-issued : goal.returns-clause-issued
returns-clause-issued g c = ap (λ (x : Contents). x.issued) c.update_thread_named-result.ensures.updated.is ∙ ap (λ (h : Held). h.contents.issued) c.self.view_is

pub returns-clause-room : goal.returns-clause-room
returns-clause-room g c = ap room_of c.update_thread_named-result.ensures.updated.is ∙ ap (λ (h : Held). room_of h.contents) c.self.view_is

pub returns-clause-spare : goal.returns-clause-spare
returns-clause-spare g c = ap (λ (x : Contents). x.spare) c.update_thread_named-result.ensures.updated.is ∙ ap (λ (h : Held). h.contents.spare) c.self.view_is
