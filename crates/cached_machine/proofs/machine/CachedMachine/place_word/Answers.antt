use Rattle.std.proofs.Common.{ℕ, ◌+◌, ◌*◌, List, refl, sym, subst, arith}
use Rattle.phys_groups.specs.Memory.{word_bytes, written}
use Rattle.flat_state.specs.declared.events.Decl.TheVariants as decls
use Rattle.flat_machine.proofs.DeclareSound.{word_rules}
use Rattle.board_laws.specs.shown_state.specs.Shown.{shown}
use Rattle.cached_machine.specs.Cached.{state_of, Cached, IsSoundMachine}
use Rattle.cached_machine.specs.Moved.{IsMade, MayBeMade}
use Rattle.cached_machine.specs.contracts.machine.CachedMachine.{the_view}
use Rattle.cached_machine.proofs.MadeLaws.{beside_held, held_itself, word_made, word_state}
use Rattle.cached_machine.proofs.machine.CachedMachine.place_word.Goals as goal

pub overflow_mul-frame : goal.overflow_mul-frame
overflow_mul-frame c =
    let a = c.args in
    let i = c.self.inside in
    let may = subst (MayBeMade (decls.Word a.frame a.offset a.value)) (sym c.self.view_is) c.requires in
    omega (arith, (word_rules (state_of (the_view i)) i.granted (record { formed = c.self.invariant.0.formed; sums = c.self.invariant.0.sums }) a.frame a.offset a.value may.fits).0)

pub overflow_add-frame : goal.overflow_add-frame
overflow_add-frame c =
    let a = c.args in
    let i = c.self.inside in
    let may = subst (MayBeMade (decls.Word a.frame a.offset a.value)) (sym c.self.view_is) c.requires in
    let rules = word_rules (state_of (the_view i)) i.granted (record { formed = c.self.invariant.0.formed; sums = c.self.invariant.0.sums }) a.frame a.offset a.value may.fits in
    omega (arith, rules.0, rules.1)

pub store_word-requires-clause-in_memory : goal.store_word-requires-clause-in_memory
unfolding shown
store_word-requires-clause-in_memory c =
    let a = c.args in
    let i = c.self.inside in
    let may = subst (MayBeMade (decls.Word a.frame a.offset a.value)) (sym c.self.view_is) c.requires in
    (word_rules (state_of (the_view i)) i.granted (record { formed = c.self.invariant.0.formed; sums = c.self.invariant.0.sums }) a.frame a.offset a.value may.fits).3

pub store_word-requires-clause-aligned : goal.store_word-requires-clause-aligned
store_word-requires-clause-aligned c =
    let a = c.args in
    let i = c.self.inside in
    let may = subst (MayBeMade (decls.Word a.frame a.offset a.value)) (sym c.self.view_is) c.requires in
    omega (arith, (word_rules (state_of (the_view i)) i.granted (record { formed = c.self.invariant.0.formed; sums = c.self.invariant.0.sums }) a.frame a.offset a.value may.fits).2)

pub invariant_of-self : goal.invariant_of-self
invariant_of-self c =
    let a = c.args in
    let i = c.self.inside in
    let may = subst (MayBeMade (decls.Word a.frame a.offset a.value)) (sym c.self.view_is) c.requires in
    let bytes = written i.memory (4096 * a.frame.0 + a.offset) (word_bytes a.value) in
    let after : Cached = record { machine = i.machine; memory = bytes; held = i.tables; sets = i.sets } in
    let sound = word_made (the_view i) after i.granted refl refl c.self.invariant.0 a.frame a.offset a.value may.fits (word_state i.machine i.memory i.tables i.sets a.frame a.offset a.value) c.self.invariant.0.sets in
    (subst (λ (memory : List ℕ). IsSoundMachine (record { machine = i.machine; memory = memory; held = i.tables; sets = i.sets }) i.granted) (sym c.store_word.ensures.after) sound, c.self.invariant.1)

pub returns : goal.returns
returns c =
    let a = c.args in
    let i = c.self.inside in
    let d = decls.Word a.frame a.offset a.value in
    let bytes = written i.memory (4096 * a.frame.0 + a.offset) (word_bytes a.value) in
    let after : Cached = record { machine = i.machine; memory = bytes; held = i.tables; sets = i.sets } in
    let made : IsMade d (the_view i) after = record { state = word_state i.machine i.memory i.tables i.sets a.frame a.offset a.value; beside = beside_held (the_view i) after refl (held_itself i.tables) refl } in
    subst (λ (m : Cached). IsMade d m (record { machine = i.machine; memory = c.store_word.new.self; held = i.tables; sets = i.sets })) c.self.view_is
    (subst (λ (memory : List ℕ). IsMade d (the_view i) (record { machine = i.machine; memory = memory; held = i.tables; sets = i.sets })) (sym c.store_word.ensures.after) made)
