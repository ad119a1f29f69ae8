use Rattle.std.proofs.Common.{Bool, true, false, OnOk, sym, ◌∙◌, subst}
use Rattle.std.proofs.lemmas.Bool.{false≢true}
use Rattle.board_core.specs.cached_machine.specs.Cached.{state_of}
use Rattle.board_calls.specs.Leaving.{after_grant, goes_so, is_message, AddsThose, IsRowAs, IsRowGoing}
use Rattle.board_calls.proofs.BadLaws.{goes_as_message, message_goes}
use Rattle.board_calls.proofs.LoopLaws.{adds_as, adds_nothing}
use Rattle.board_calls.proofs.leaving.add_going.Goals as goal

pub returns-then-shrinks : goal.returns-then-shrinks
returns-then-shrinks c =
    subst (λ (lacks : Bool). OnOk c.add_unfit_of.result (AddsThose (IsRowAs c.args.machine.now.held.contents c.args.frame (goes_so (after_grant (state_of c.args.machine.now) c.args.grant.now) lacks)) c.args.idents.now.items c.add_unfit_of.new.idents.items)) c.lacks_rows-lacks.ensures c.add_unfit_of.ensures

pub returns-then-lacks : goal.returns-then-lacks
returns-then-lacks c =
    let keeps = sym c.requires.shrinks ∙ c.if-shrinks.false in
    adds_as (IsRowAs c.args.machine.now.held.contents c.args.frame is_message) (IsRowGoing c.args.machine.now c.args.grant.now c.args.frame) c.args.idents.now.items c.add_messages.new.idents.items
    (λ i. (
      message_goes c.args.machine.now c.known.ensures.one c.known.ensures.good c.known.ensures.formed c.args.grant.now c.args.frame c.lacks_rows-lacks.result c.lacks_rows-lacks.ensures c.if-lacks.true i,
      λ goes. (goes_as_message c.args.machine.now c.known.ensures.one c.known.ensures.good c.known.ensures.formed c.args.grant.now c.args.frame c.lacks_rows-lacks.result c.lacks_rows-lacks.ensures keeps i goes).1,
    ))
    c.in_ok-add_messages.ensures

pub returns : goal.returns
returns c =
    let keeps = sym c.requires.shrinks ∙ c.if-shrinks.false in
    adds_nothing (IsRowGoing c.args.machine.now c.args.grant.now c.args.frame) c.args.idents.now.items
    (λ i goes. false≢true (sym c.if-lacks.false ∙ (goes_as_message c.args.machine.now c.known.ensures.one c.known.ensures.good c.known.ensures.formed c.args.grant.now c.args.frame c.lacks_rows-lacks.result c.lacks_rows-lacks.ensures keeps i goes).0))
