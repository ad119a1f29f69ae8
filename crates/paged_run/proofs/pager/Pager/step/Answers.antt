use Rattle.std.proofs.Common.{◌+◌, ℕ, List, refl, sym, ap, ◌∙◌, inl, arith}
use Rattle.std.proofs.lemmas.Option.{slice_get_within}
use Rattle.cache_ident.specs.declared.names.ThreadNo.{ThreadNo}
use Rattle.paged_steps.specs.memory_laws.specs.Apart.{over}
use Rattle.page_store.specs.Kept.{Means}
use Rattle.paged_steps.specs.declared.looking.Next.{Next}
use Rattle.quantum.specs.page_views.specs.Views.{AreCopies}
use Rattle.paged_steps.proofs.Knowing.{knows_more}
use Rattle.paged_steps.specs.Nexts.{GoesSo}
use Rattle.paged_run.proofs.Settling.{none_of, some_of, spent_so, stuck_over, stuck_so, IsFree, NobodyRuns}
use Rattle.paged_run.proofs.pager.Pager.step.Goals as goal

pub returns-in_default-clause-over : goal.returns-in_default-clause-over
returns-in_default-clause-over g c =
    let p = c.args.self.now in
    let nobody = none_of c.in_ok-found.found (NobodyRuns p.tables c.grow.new.self p.paged (g.K.Store.bytes_held c.args.store.now)) c.in_default.is c.in_ok-found.ensures.nobody in
    record {
      tables = refl;
      entries = refl;
      steps = refl;
      how = λ m means knows. (c.in_ok-found.ensures.memory m means, c.stuck.ensures ∙ sym (stuck_so (over p.tables m) p.steps c.args.limit c.requires.calls (nobody m means (knows_more (over p.tables m) p.order c.grow.new.self c.in_ok-grow.ensures.known knows))));
      ended = λ e. stuck_over p.tables.threads (sym c.stuck.ensures ∙ e);
    }

pub returns-then-self-limit-clause-over : goal.returns-then-self-limit-clause-over
returns-then-self-limit-clause-over g c =
    let p = c.args.self.now in
    let n = c.in-Some.no.0 in
    let goes = some_of c.in_ok-found.found (c.in-Some.no, c.in-Some.next) (λ (f : ThreadNo × Next). GoesSo p.tables c.find.new.quantum f.0.0 f.1) c.in-Some.is c.in_ok-found.ensures.goes in
    let free = some_of c.in_ok-found.found (c.in-Some.no, c.in-Some.next) (λ (f : ThreadNo × Next). IsFree p.tables p.paged (g.K.Store.bytes_held c.args.store.now) f.0.0) c.in-Some.is c.in_ok-found.ensures.free in
    record {
      tables = refl;
      entries = refl;
      steps = refl;
      how = λ m means knows. (c.in_ok-found.ensures.memory m means, sym (spent_so (over p.tables m) p.steps c.args.limit n goes.thread c.requires.calls goes.there goes.ready (free goes.thread goes.there m means) c.if-self-limit.true));
      ended = λ e. cc;
    }

pub choose-requires : goal.choose-requires
choose-requires g c =
    let p = c.args.self.now in
    let goes = some_of c.in_ok-found.found (c.in-Some.no, c.in-Some.next) (λ (f : ThreadNo × Next). GoesSo p.tables c.find.new.quantum f.0.0 f.1) c.in-Some.is c.in_ok-found.ensures.goes in
    omega (arith, slice_get_within p.tables.threads c.in-Some.no.0 goes.thread goes.there, c.in_ok-grow.ensures.last, c.threads.ensures, c.find.ensures.last, c.advance.ensures.last)

pub returns-clause-grew : goal.returns-clause-grew
returns-clause-grew g c =
    let p = c.args.self.now in
    let held = g.K.Store.bytes_held c.args.store.now in
    let copies = some_of c.in_ok-found.found (c.in-Some.no, c.in-Some.next) (λ (f : ThreadNo × Next). (m : List ℕ) → Means p.paged held m → AreCopies m c.find.new.quantum.views) c.in-Some.is c.in_ok-found.ensures.copies in
    record {
      count = c.in_ok-steps.steps;
      steps = ap (λ (n : ℕ). p.steps + n) c.from.ensures;
      goes = λ m means.
          let did = c.in_ok-steps.ensures.goes m (c.in_ok-found.ensures.memory m means) (copies m means) in (
            did.0,
            did.1,
            did.2,
            λ knows. knows_more (over c.advance.new.tables did.0) c.advance.new.order c.choose.new.self (inl c.choose.ensures.known)
                (did.3 (c.in_ok-found.ensures.known m means (knows_more (over p.tables m) p.order c.grow.new.self c.in_ok-grow.ensures.known knows))),
          );
    }
