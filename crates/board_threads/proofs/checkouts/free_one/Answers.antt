use Rattle.std.proofs.Common.{◌≡◌, Option, Some, IfSome, sym, ap, subst, ◌∙◌}
use Rattle.cache_ident.specs.declared.idents.Ident.{Ident}
use Rattle.cache_ident.specs.declared.names.Name.TheVariants as name
use Rattle.cache_ident.specs.Residents.{IsResident}
use Rattle.ready_queue.specs.declared.Candidate.{Candidate}
use Rattle.board_checks.specs.desc_stores.specs.declared.items.Item.TheVariants as item
use Rattle.board_checks.specs.desc_stores.specs.declared.items.ItemRef.{ItemRef}
use Rattle.board_checks.specs.desc_stores.specs.Contents.{content_of, residents_of}
use Rattle.board_checks.specs.desc_stores.specs.Items.{shown}
use Rattle.board_checks.specs.desc_tables.specs.Tables.{Held}
use Rattle.board_core.specs.thread_sets.specs.SetsOf.{takes_steps}
use Rattle.board_core.specs.cached_machine.specs.Cached.{Cached}
use Rattle.board_core.specs.Core.{contents_of}
use Rattle.board_threads.specs.Waiting.{IsFree}
use Rattle.board_threads.proofs.CandidateLemmas.{free_if_loaded, number_is}
use Rattle.board_threads.proofs.IdentLemmas.{named_so}
use Rattle.board_threads.proofs.checkouts.free_one.Goals as goal

pub returns-clause-free : goal.returns-clause-free
returns-clause-free c =
    let b = c.args.core.now in
    let t = c.in-Thread.thread.now in
    let held : c.tables.result.now ≡ b.machine.held = c.tables.ensures.tables ∙ ap (λ (m : Cached). m.held) c.machine.ensures in
    let there : content_of (contents_of b) (name.Thread c.args.no) ≡ Some (item.Thread t) =
    ap (λ (h : Held). content_of h.contents (name.Thread c.args.no)) (sym held) ∙ sym c.in_ok-found.ensures.content ∙ ap (λ (r : ItemRef). Some (shown r)) c.in-Thread.is in
    let named = subst (λ (o : Option Ident). IfSome o (λ ident. IsResident (residents_of c.tables.result.now.contents) ident (name.Thread c.args.no))) c.in_ok-ident.was c.in_ok-found.ensures.loaded in
    let loaded = named_so (contents_of b) c.in_ok-ident.ident (name.Thread c.args.no) (subst (λ (h : Held). IsResident (residents_of h.contents) c.in_ok-ident.ident (name.Thread c.args.no)) held named) in
    subst (IsFree takes_steps b) (sym c.candidate_of.ensures) (free_if_loaded b c.known.ensures.one c.known.ensures.found c.args.no t there loaded (sym c.is_free.ensures ∙ c.if-not-is_free.false))

pub returns-clause-named : goal.returns-clause-named
returns-clause-named c =
    let b = c.args.core.now in
    let t = c.in-Thread.thread.now in
    let held : c.tables.result.now ≡ b.machine.held = c.tables.ensures.tables ∙ ap (λ (m : Cached). m.held) c.machine.ensures in
    let there : content_of (contents_of b) (name.Thread c.args.no) ≡ Some (item.Thread t) =
    ap (λ (h : Held). content_of h.contents (name.Thread c.args.no)) (sym held) ∙ sym c.in_ok-found.ensures.content ∙ ap (λ (r : ItemRef). Some (shown r)) c.in-Thread.is in
    ap (λ (x : Candidate). x.no) c.candidate_of.ensures ∙ number_is b c.known.ensures.one c.known.ensures.found c.args.no t there
