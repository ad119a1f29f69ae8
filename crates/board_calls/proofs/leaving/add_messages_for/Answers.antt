use Rattle.std.proofs.lemmas.Result.{on_ok_weaker}
use Rattle.std.proofs.Common.{◌≡◌, true, sym, ◌∙◌, ap}
use Rattle.cache_ident.specs.declared.idents.Ident.{Ident}
use Rattle.phys_groups.specs.Translation.{covers}
use Rattle.flat_state.specs.Translation.{rights_of}
use Rattle.board_core.specs.cached_machine.specs.Cached.{state_of}
use Rattle.board_calls.specs.Leaving.{is_message, IsRowAs}
use Rattle.board_calls.proofs.LoopLaws.{adds_as}
use Rattle.board_calls.proofs.leaving.add_messages_for.Goals as goal

pub returns-then-covers : goal.returns-then-covers
returns-then-covers c =
    let m = c.args.machine.now in
    let covered = ap (λ rights. covers rights c.args.frame c.args.flags) (sym c.rights_of.ensures) ∙ sym c.covers.ensures ∙ c.if-covers.true in
    on_ok_weaker c.add_messages.result (λ adds.
    adds_as (IsRowAs m.held.contents c.args.frame is_message) (λ (i : Ident). (covers (rights_of (state_of m) c.args.space) c.args.frame c.args.flags ≡ true) × IsRowAs m.held.contents c.args.frame is_message i)
    c.args.idents.now.items c.add_messages.new.idents.items (λ i. (λ its. (covered, its), λ both. both.1)) adds) c.add_messages.ensures
