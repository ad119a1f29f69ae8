use Rattle.std.proofs.Common.{ap, sym, ◌∙◌}
use Rattle.desc_groups.specs.desc_stores.specs.Contents.{item_as}
use Rattle.desc_groups.specs.shown_state.specs.Shown.{shown}
use Rattle.desc_groups.specs.shown_state.specs.Edits.{with_changed}
use Rattle.desc_tables.specs.Calls.{IsLike}
use Rattle.desc_tables.specs.Tables.{Held}
use Rattle.desc_tables.proofs.ChangeLemmas.{like_agrees, shown_changed, sound_changed}
use Rattle.desc_tables.proofs.tables.Tables.change.Goals as goal

pub change-was-requires-clause-agrees : goal.change-was-requires-clause-agrees
change-was-requires-clause-agrees c = λ was at. like_agrees was c.args.item (c.requires.like was (ap (λ (held : Held). item_as held.contents c.args.ident) (sym c.self.view_is) ∙ at))

pub invariant_of-self : goal.invariant_of-self
invariant_of-self c =
    let like : IsLike c.change-was.result c.args.item = c.requires.like c.change-was.result (ap (λ (held : Held). item_as held.contents c.args.ident) (sym c.self.view_is) ∙ c.change-was.ensures.was) in
    (sound_changed c.self.inside.stores c.change-was.new.self c.args.ident c.change-was.result c.args.item c.change-was.ensures.was like c.change-was.ensures.contents c.change-was.ensures.after c.self.inside.pairs.caps c.self.inside.gone.items c.self.inside.left.items c.self.inside.pairs.pairs c.self.invariant.0 c.each_is_one.ensures c.change-was.ensures.residents, c.self.invariant.1, c.self.invariant.2, c.self.invariant.3)

pub returns-clause-shows : goal.returns-clause-shows
returns-clause-shows c = λ machine memory.
    let like : IsLike c.change-was.result c.args.item = c.requires.like c.change-was.result (ap (λ (held : Held). item_as held.contents c.args.ident) (sym c.self.view_is) ∙ c.change-was.ensures.was) in
    shown_changed c.self.inside.stores c.change-was.new.self c.args.ident c.change-was.result c.args.item c.change-was.ensures.was like c.change-was.ensures.contents c.change-was.ensures.after c.self.invariant.0.whole.one machine memory
    ∙ ap (λ (held : Held). with_changed (shown machine memory held.contents) c.args.item) c.self.view_is
