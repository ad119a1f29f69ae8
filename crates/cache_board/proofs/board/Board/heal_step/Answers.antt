use Rattle.std.proofs.Common.{◌≡◌, ◌∙◌, subst}
use Rattle.std.specs.Prelude.{IfErr, OnOk}
use Rattle.board_core.specs.board_ops.specs.declared.refusals.Refused.TheVariants.{NoMemory}
use Rattle.board_core.specs.Core.{Recorded}
use Rattle.board_heal.specs.Promise.{HasStepped, IsHealable}
use Rattle.cache_board.proofs.EventLaws.{heal_goes_on}
use Rattle.cache_board.proofs.board.Board.heal_step.Goals as goal

pub returns-clause-event : goal.returns-clause-event
returns-clause-event c =
    let same = c.deref_mut.ensures.value ∙ c.self.view_is in
    let on = heal_goes_on c.args.cpu c.args.self.now c.deref_mut.result.now c.heal_step-healed.new.core same c.holds.ensures.sound c.holds-2.ensures.sound c.heal_step-healed.result _ c.args.thread c.heal_step-healed.ensures.refused c.heal_step-healed.ensures.healed in
    record { grew = on.grew; was = c.holds.ensures.sound; sound = c.holds-2.ensures.sound }

pub returns-clause-promised : goal.returns-clause-promised
returns-clause-promised c =
    subst (λ (b : Recorded). IsHealable b c.args.thread → IfErr c.heal_step-healed.result (λ why. why ≡ NoMemory) × OnOk c.heal_step-healed.result (HasStepped c.args.thread b c.heal_step-healed.new.core))
    (c.deref_mut.ensures.value ∙ c.self.view_is) c.heal_step-healed.ensures.promised
