use Rattle.std.proofs.Common.{◌≡◌, ap, sym, subst, ◌∙◌}
use Rattle.cache_ident.specs.declared.names.Name.TheVariants as name
use Rattle.cache_ident.specs.Residents.{IsResident}
use Rattle.board_checks.specs.desc_stores.specs.Contents.{residents_of}
use Rattle.board_checks.specs.desc_tables.specs.Tables.{Held}
use Rattle.board_checks.specs.shown_state.specs.Shown.{flat_thread}
use Rattle.board_core.specs.cached_machine.specs.Cached.{Cached}
use Rattle.board_core.specs.Core.{contents_of}
use Rattle.board_threads.proofs.IdentLemmas.{thread_kind}
use Rattle.board_threads.proofs.checkouts.ticket_of.Goals as goal

pub thread_loaded-thread-requires : goal.thread_loaded-thread-requires
thread_loaded-thread-requires c =
    let held : c.tables.result.now ≡ c.args.core.now.machine.held = c.tables.ensures.tables ∙ ap (λ (m : Cached). m.held) c.machine.ensures in
    record { loaded = subst (λ (h : Held). IsResident (residents_of h.contents) c.in-Some.ident (name.Thread c.args.no)) held c.in-Some.ensures.found }

pub invariant_of-result : goal.invariant_of-result
invariant_of-result c =
    let b = c.args.core.now in
    let held : c.tables.result.now ≡ b.machine.held = c.tables.ensures.tables ∙ ap (λ (m : Cached). m.held) c.machine.ensures in
    record {
      kind = thread_kind (contents_of b) c.known.ensures.one c.in-Some.ident c.args.no (subst (λ (h : Held). IsResident (residents_of h.contents) c.in-Some.ident (name.Thread c.args.no)) held c.in-Some.ensures.found);
      processor = c.requires.processor;
      aligned = (c.known.ensures.formed.threads.each c.args.no.0 (flat_thread c.thread_loaded-thread.result.now) (sym c.thread_loaded-thread.ensures)).aligned;
    }
