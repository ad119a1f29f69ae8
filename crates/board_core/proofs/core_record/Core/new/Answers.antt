-- The journal begins with the machine, and every frame has its bytes from there on.
use Rattle.std.proofs.Common.{◌*◌, List, [], ◌∷◌, ◌++◌, length, refl, ap, sym, ◌∙◌, arith}
use Rattle.flat_state.specs.declared.events.Decl.TheVariants as decls
use Rattle.run_journal.specs.declared.entries.Entry.{Entry}
use Rattle.run_journal.specs.declared.entries.Entry.TheVariants.{Declared}
use Rattle.board_core.proofs.NewLaws.{new_sound}
use Rattle.board_core.proofs.OpeningLaws.{none_resident}
use Rattle.board_core.proofs.core_record.Core.new.Goals as goal

pub invariant_of-result : goal.invariant_of-result
invariant_of-result c =
    let begun = c.in_ok-push.ensures.ok ∙ ap (λ (es : List Entry). es ++ Declared (decls.Machine c.args.machine) ∷ []) c.new-journal.ensures in
    let sound = new_sound c.args.machine c.in_ok-machine.machine c.requires c.in_ok-machine.ensures.nothing.0 c.in_ok-machine.ensures.nothing.2 c.known.ensures.sound c.in_ok-machine.ensures.state
    c.push.new.self c.args.limit (c.args.machine.groups * 128) c.len.result c.in_ok-stamps.stamps.items begun (omega arith) c.len.ensures (c.in_ok-stamps.ensures.items_if_clones_equal (λ y same. same)) in
    (sound, sym (ap length (none_resident _ sound refl)))
