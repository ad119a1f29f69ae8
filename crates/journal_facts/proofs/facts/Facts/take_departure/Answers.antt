use Rattle.std.proofs.Common.{sym, ◌∙◌}
use Rattle.std.proofs.lemmas.Bool.{false≢true}
use Rattle.cache_ident.specs.declared.idents.Cause.TheVariants.{Dependent, Displaced, Unloaded}
use Rattle.journal_facts.proofs.Standing.{if_answered}
use Rattle.journal_facts.proofs.Departing.{IsTakenBack, as_dependent, departs_displaced, departs_first, departs_unloaded, its_own, taken_back}
use Rattle.journal_facts.proofs.facts.Facts.take_departure.Goals as goal

pub returns-then-not-is_followed : goal.returns-then-not-is_followed
returns-then-not-is_followed c = λ k are sealed may. false≢true (sym c.if-not-is_followed.true ∙ c.is_followed.ensures.1 may.1)

pub returns-in_default : goal.returns-in_default
returns-in_default c = λ k are sealed may. c.in_default.ensures k are.stand.tables (as_dependent k c.args.ident c.args.cause may.0)

pub returns-in-Dependent : goal.returns-in-Dependent
returns-in-Dependent c =
    let held = c.in-Some.held in
    let ident = c.args.ident in
    if_answered c.leave_first.result _ (IsTakenBack c.args.self.now c.leave_first.new.self ident c.args.cause c.args.cpu c.args.next)
    (λ kept is k are sealed.
    let one = c.in-Some.ensures k are.stand.tables in
    let own = its_own c.args.self.now k ident held are one in
    taken_back c.args.self.now k ident held are one c.leave_first.new.self c.args.cause c.args.cpu c.args.next kept (c.is_followed.ensures.0 c.if-not-is_followed.false) Dependent c.in-Dependent.is
    (departs_first c.leave_first.new.self k held c.args.cpu kept (is k are sealed own).0 ((is k are sealed own).1 c.args.cpu)))
    c.leave_first.ensures

pub returns-in-Unloaded : goal.returns-in-Unloaded
returns-in-Unloaded c =
    let held = c.in-Some.held in
    let ident = c.args.ident in
    if_answered c.leave_last.result _ (IsTakenBack c.args.self.now c.leave_last.new.self ident c.args.cause c.args.cpu c.args.next)
    (λ kept is k are sealed.
    let one = c.in-Some.ensures k are.stand.tables in
    let own = its_own c.args.self.now k ident held are one in
    taken_back c.args.self.now k ident held are one c.leave_last.new.self c.args.cause c.args.cpu c.args.next kept (c.is_followed.ensures.0 c.if-not-is_followed.false) Unloaded c.in-Unloaded.is
    (departs_unloaded c.leave_last.new.self k held c.args.cpu kept (is k are sealed own)))
    c.leave_last.ensures

pub returns-in-Displaced : goal.returns-in-Displaced
returns-in-Displaced c =
    let held = c.in-Some.held in
    let ident = c.args.ident in
    if_answered c.leave_for_another.result _ (IsTakenBack c.args.self.now c.leave_for_another.new.self ident c.args.cause c.args.cpu c.args.next)
    (λ kept is k are sealed.
    let one = c.in-Some.ensures k are.stand.tables in
    let own = its_own c.args.self.now k ident held are one in
    taken_back c.args.self.now k ident held are one c.leave_for_another.new.self c.args.cause c.args.cpu c.args.next kept (c.is_followed.ensures.0 c.if-not-is_followed.false) Displaced c.in-Displaced.is
    (departs_displaced c.leave_for_another.new.self k held c.args.cpu kept (is k are sealed own)))
    c.leave_for_another.ensures
