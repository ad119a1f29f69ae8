-- The first entry that doesn't come before the key has it, or none has.
use Rattle.std.proofs.Common.{Bool, None, Some, sym, ◌∙◌, ap}
use Rattle.std.specs.Prelude.{if◌then◌else◌}
use Rattle.std.specs.Option.{option_copied}
use Rattle.sorted_list.proofs.SortedLemmas.{falls_below, first_is, value_if}
use Rattle.sorted_list.proofs.sorted.SortedList.find.Goals as goal
use Rattle.sorted_list.proofs.sorted.SortedList.find.Goals.{in_default-via-in-Some+else-eq, in_default-via-in_default}

pub first_from-requires : goal.first_from-requires
first_from-requires g c = falls_below g.K.Ord.cmp g.met.K.Ord.total g.V.Ord.cmp c.self.inside.list.items c.self.invariant.rising c.args.key.now

pub returns-in-Some-clause-value : goal.returns-in-Some-clause-value
returns-in-Some-clause-value g c =
    let same = g.K.PartialEq.eq in
    let entry = c.in-Some.entry.now in
    let first = first_is g.K.Ord.cmp g.met.K.Ord.total g.V.Ord.cmp c.self.inside.list.items c.self.invariant.rising c.args.key.now same g.met.K.Ord.matches_eq in
    rw (← c.self.view_is)
    (sym (first ∙ ap (value_if same c.args.key.now) (sym c.first_from.ensures ∙ ap option_copied c.in-Some.is) ∙ ap (λ (b : Bool). if b then Some entry.1 else None) (sym c.eq.ensures ∙ c.if-eq.true)))

pub returns-in_default-clause-value : goal.returns-in_default-clause-value
returns-in_default-clause-value g c =
    let same = g.K.PartialEq.eq in
    let first = first_is g.K.Ord.cmp g.met.K.Ord.total g.V.Ord.cmp c.self.inside.list.items c.self.invariant.rising c.args.key.now same g.met.K.Ord.matches_eq in
    rw (← c.self.view_is) (elim c.in_default.branch [
      | in_default-via-in-Some+else-eq w ↦
          let entry = w.in-Some.entry.now in
          sym (first ∙ ap (value_if same c.args.key.now) (sym c.first_from.ensures ∙ ap option_copied w.in-Some.is) ∙ ap (λ (b : Bool). if b then Some entry.1 else None) (sym w.eq.ensures ∙ w.if-eq.false))
      | in_default-via-in_default w ↦ sym (first ∙ ap (value_if same c.args.key.now) (sym c.first_from.ensures ∙ ap option_copied w.in_default.is))
    ])
