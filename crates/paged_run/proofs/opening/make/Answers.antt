use Rattle.std.proofs.Common.{◌≡◌, None, refl, sym, subst, [], ◌∷◌, arith}
use Rattle.flat_rules.specs.flat_state.specs.declared.events.Decl.{Decl}
use Rattle.flat_rules.specs.flat_state.specs.declared.events.Decl.TheVariants as decls
use Rattle.flat_rules.specs.flat_state.specs.Declaration.{broken_rule, locks_granted}
use Rattle.flat_machine.proofs.DeclareSound.{word_rules}
use Rattle.paged_run.specs.Openings.{Makes}
use Rattle.paged_run.proofs.Opened.{frames_apart, machine_apart, makes_apart, makes_word}
use Rattle.paged_run.proofs.opening.make.Goals as goal

pub store_word-requires-clause-there : goal.store_word-requires-clause-there
store_word-requires-clause-there g c =
    let w = c.in-Word in
    let s = c.args.tables.now in
    let fits : broken_rule s (decls.Word w.frame w.offset w.value) ≡ None = subst (λ (d : Decl). broken_rule s d ≡ None) w.is c.requires.fits in
    let rules = word_rules s (locks_granted s.kernels) (record { formed = c.holds.ensures; sums = refl }) w.frame w.offset w.value fits in
    omega (arith, rules.3, c.requires.frames.size)

pub store_word-requires-clause-within : goal.store_word-requires-clause-within
store_word-requires-clause-within g c =
    let w = c.in-Word in
    let s = c.args.tables.now in
    let fits : broken_rule s (decls.Word w.frame w.offset w.value) ≡ None = subst (λ (d : Decl). broken_rule s d ≡ None) w.is c.requires.fits in
    (word_rules s (locks_granted s.kernels) (record { formed = c.holds.ensures; sums = refl }) w.frame w.offset w.value fits).1

pub store_word-requires-clause-aligned : goal.store_word-requires-clause-aligned
store_word-requires-clause-aligned g c =
    let w = c.in-Word in
    let s = c.args.tables.now in
    let fits : broken_rule s (decls.Word w.frame w.offset w.value) ≡ None = subst (λ (d : Decl). broken_rule s d ≡ None) w.is c.requires.fits in
    (word_rules s (locks_granted s.kernels) (record { formed = c.holds.ensures; sums = refl }) w.frame w.offset w.value fits).2

pub returns-in_ok-store_word-in-Word-clause-makes : goal.returns-in_ok-store_word-in-Word-clause-makes
returns-in_ok-store_word-in-Word-clause-makes g c =
    let store = g.K.Store in
    let w = c.in-Word in
    let s = c.args.tables.now in
    let fits : broken_rule s (decls.Word w.frame w.offset w.value) ≡ None = subst (λ (d : Decl). broken_rule s d ≡ None) w.is c.requires.fits in
    subst (λ (d : Decl). Makes (d ∷ []) s c.args.paged.now (store.bytes_held c.args.store.now) s c.store_word.new.self (store.bytes_held c.store_word.new.store)) (sym w.is)
    (makes_word s w.frame w.offset w.value c.args.paged.now c.store_word.new.self (store.frames c.args.store.now) (store.bytes_held c.args.store.now) (store.bytes_held c.store_word.new.store) c.holds.ensures c.requires.frames fits c.in_ok-store_word-in-Word.ensures.memory)

pub returns-in_ok-apply-in_default-clause-makes : goal.returns-in_ok-apply-in_default-clause-makes
returns-in_ok-apply-in_default-clause-makes g c =
    makes_apart c.args.tables.now c.apply.new.self c.args.decl.now c.requires.machine c.requires.fits c.in_default.not-Word c.in_ok-apply-in_default.ensures.ok c.args.paged.now (g.K.Store.bytes_held c.args.store.now)

pub returns-in_ok-apply-in_default-clause-machine : goal.returns-in_ok-apply-in_default-clause-machine
returns-in_ok-apply-in_default-clause-machine g c =
    machine_apart c.args.tables.now c.apply.new.self c.args.decl.now c.requires.machine c.requires.fits c.in_default.not-Word c.in_ok-apply-in_default.ensures.ok

pub returns-in_ok-apply-in_default-clause-frames : goal.returns-in_ok-apply-in_default-clause-frames
returns-in_ok-apply-in_default-clause-frames g c =
    frames_apart c.args.tables.now c.apply.new.self c.args.decl.now c.requires.machine c.requires.fits c.in_default.not-Word c.in_ok-apply-in_default.ensures.ok c.args.paged.now (g.K.Store.frames c.args.store.now) c.requires.frames
