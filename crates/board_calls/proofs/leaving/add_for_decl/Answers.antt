use Rattle.std.proofs.Common.{◌≡◌, Option, None, OnOk, sym, ◌∙◌, ap, subst}
use Rattle.cache_ident.specs.declared.names.ThreadNo.{ThreadNo}
use Rattle.flat_state.specs.declared.events.Decl.{Decl}
use Rattle.flat_state.specs.declared.events.Decl.TheVariants as decls
use Rattle.flat_state.specs.Declaration.{broken_rule}
use Rattle.board_core.specs.cached_machine.specs.Cached.{state_of}
use Rattle.board_calls.specs.Leaving.{AddsThose, GoesForDecl}
use Rattle.board_calls.proofs.BadLaws.{map_placed, right_placed}
use Rattle.board_calls.proofs.leaving.add_for_decl.Goals as goal

pub add_messages_for-requires-clause-space : goal.add_messages_for-requires-clause-space
add_messages_for-requires-clause-space c =
    let s = state_of c.args.machine.now in
    let map = c.in-Map in
    (map_placed s c.known.ensures.formed map.space map.vpn map.frame map.flags map.receiver (subst (λ (d : Decl). broken_rule s d ≡ None) map.is c.requires)).0

pub add_messages_for-requires-clause-frame : goal.add_messages_for-requires-clause-frame
add_messages_for-requires-clause-frame c =
    let s = state_of c.args.machine.now in
    let map = c.in-Map in
    (map_placed s c.known.ensures.formed map.space map.vpn map.frame map.flags map.receiver (subst (λ (d : Decl). broken_rule s d ≡ None) map.is c.requires)).1

pub add_unfit-requires : goal.add_unfit-requires
add_unfit-requires c =
    let s = state_of c.args.machine.now in
    let right = c.in-Right in
    right_placed s c.known.ensures.formed right.kernel right.group right.read right.write (subst (λ (d : Decl). broken_rule s d ≡ None) right.is c.requires)

pub returns-in-Right : goal.returns-in-Right
returns-in-Right c =
    subst (λ (d : Decl). OnOk c.add_unfit.result (AddsThose (GoesForDecl c.args.machine.now d) c.args.idents.now.items c.add_unfit.new.idents.items)) (sym c.in-Right.is) c.add_unfit.ensures

pub returns-in-Some : goal.returns-in-Some
returns-in-Some c =
    let map = c.in-Map in
    let is = map.is ∙ ap (λ (o : Option ThreadNo). decls.Map map.space map.vpn map.frame map.flags o) c.in-Some.is in
    subst (λ (d : Decl). OnOk c.add_messages_for.result (AddsThose (GoesForDecl c.args.machine.now d) c.args.idents.now.items c.add_messages_for.new.idents.items)) (sym is) c.add_messages_for.ensures
