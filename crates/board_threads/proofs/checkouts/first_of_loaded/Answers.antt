use Rattle.std.proofs.Common.{◌≡◌, ◌<◌, List, [], ◌∷◌, map, Bor, Some, sym, ap, subst, ◌∙◌, arith}
use Rattle.std.proofs.lemmas.List.{map-append}
use Rattle.slot_cache.specs.declared.loaded.Loaded.{Loaded}
use Rattle.slot_cache.specs.Cells.{HasExactlyLoaded}
use Rattle.thread_cache.specs.declared.ThreadRec.{ThreadRec}
use Rattle.ready_queue.specs.declared.Candidate.{Candidate}
use Rattle.board_checks.specs.desc_tables.specs.Tables.{Held}
use Rattle.board_core.specs.cached_machine.specs.Cached.{Cached}
use Rattle.board_core.specs.cached_machine.proofs.OutLaws.{all_gone}
use Rattle.board_threads.specs.Waiting.{IsEarlier, IsFirstAmong}
use Rattle.board_threads.proofs.CandidateLemmas.{first_of_all, first_or_this, first_stays}
use Rattle.board_threads.proofs.checkouts.first_of_loaded.Goals as goal

pub loop-loaded-init : goal.loop-loaded-init
loop-loaded-init c = λ candidate is. let never : is.there.0 < 0 = is.there.1 in absurd (omega arith)

pub loop-loaded-preserved-then-is_free : goal.loop-loaded-preserved-then-is_free
loop-loaded-preserved-then-is_free c =
    let now = λ (x : Bor (Loaded ThreadRec)). x.now in
    let loop = c.loop-loaded in
    let l = c.in-Some.loaded.now in
    let first = subst (λ (other : Candidate). IsEarlier loop.first other c.earlier-sooner.result) c.candidate_of.ensures c.earlier-sooner.ensures in
    subst (λ (list : List (Loaded ThreadRec)). IsFirstAmong list (Some c.earlier-sooner.result)) (sym (map-append now loop.yielded (c.in-Some.loaded ∷ [])))
    (first_or_this (map now loop.yielded) l loop.first c.earlier-sooner.result loop.invariant (sym c.is_free.ensures ∙ c.if-is_free.true) first)

pub loop-loaded-preserved : goal.loop-loaded-preserved
loop-loaded-preserved c =
    let now = λ (x : Bor (Loaded ThreadRec)). x.now in
    let loop = c.loop-loaded in
    subst (λ (list : List (Loaded ThreadRec)). IsFirstAmong list loop.first) (sym (map-append now loop.yielded (c.in-Some.loaded ∷ [])))
    (first_stays (map now loop.yielded) c.in-Some.loaded.now loop.first loop.invariant (sym c.is_free.ensures ∙ c.if-is_free.false))

pub returns : goal.returns
returns c =
    let b = c.args.core.now in
    let loop = c.loop-loaded in
    let list = c.loaded_threads-loaded-items.result in
    let held : c.tables.result.now ≡ b.machine.held = c.tables.ensures.tables ∙ ap (λ (m : Cached). m.held) c.machine.ensures in
    let exact = subst (λ (h : Held). HasExactlyLoaded h.contents.threads.cells list) held c.loaded_threads-loaded-items.ensures.exact in
    let all = all_gone list c.into_iter-loaded-iterator.result c.into_iter-loaded-iterator.ensures.into_iter_gives loop.yielded _ loop.yielded_by _ _ c.next.ensures.steps c.in-None.is in
    first_of_all b c.known.ensures.one c.known.ensures.found list exact loop.first (subst (λ (xs : List (Loaded ThreadRec)). IsFirstAmong xs loop.first) all loop.invariant)
