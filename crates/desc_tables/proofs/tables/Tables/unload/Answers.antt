-- What leaves is among what is resident, for which there is room, and leaves no kernel more locks than it had.
use Rattle.std.proofs.Common.{ap, subst, sym, ◌∙◌, arith}
use Rattle.depend_lists.specs.Pairs.{count_of}
use Rattle.desc_groups.specs.desc_stores.specs.Contents.{residents_of}
use Rattle.desc_groups.specs.Moves.{idents_of, AreNamed, HasPlaces}
use Rattle.desc_tables.specs.Tables.{Held}
use Rattle.desc_tables.proofs.Limits.{few_residents, left_sound}
use Rattle.desc_tables.proofs.tables.Tables.unload.Goals as goal

pub leave-requires-clause-room : goal.leave-requires-clause-room
leave-requires-clause-room c =
    let few = few_residents _ _ _ c.self.invariant.0.whole in
    let room = c.self.invariant.1 in
    omega arith

pub leave-requires-clause-for_names : goal.leave-requires-clause-for_names
leave-requires-clause-for_names c =
    let few = few_residents _ _ _ c.self.invariant.0.whole in
    let room = c.self.invariant.2 in
    omega arith

pub invariant_of-self : goal.invariant_of-self
invariant_of-self c =
    let room = c.self.invariant.1 in
    let for_names = c.self.invariant.2 in
    let capacity = c.leave.ensures.capacity in
    let names = c.leave.ensures.for_names in
    let caps = ap count_of c.leave.ensures.caps in
    (left_sound _ _ _ _ (idents_of c.leave.new.gone.items) c.self.invariant.0 c.leave.ensures.whole c.leave.ensures.caps c.leave.ensures.residents c.leave.ensures.kept, omega arith, omega arith, c.self.invariant.3 ∙ sym c.leave.ensures.caps)

pub leave-requires-clause-places : goal.leave-requires-clause-places
leave-requires-clause-places c = subst (λ (h : Held). HasPlaces h.contents c.args.ident c.args.at) (sym c.self.view_is) c.requires.places

pub returns-clause-named : goal.returns-clause-named
returns-clause-named c = subst (λ (h : Held). AreNamed (residents_of h.contents) (idents_of c.leave.new.gone.items) c.leave.new.names.items) c.self.view_is c.leave.ensures.named
