use Rattle.std.proofs.Common.{◌≡◌, ◌<◌, List, [], ◌∷◌, ◌++◌, length, map, Bor, sym, ap, subst, ◌∙◌, arith}
use Rattle.std.proofs.lemmas.List.{length_push, map-append}
use Rattle.cache_ident.specs.declared.idents.Kind.TheVariants as kind
use Rattle.slot_cache.specs.declared.loaded.Loaded.{Loaded}
use Rattle.slot_cache.specs.Cells.{HasExactlyLoaded}
use Rattle.thread_cache.specs.declared.ThreadRec.{ThreadRec}
use Rattle.board_checks.specs.desc_tables.specs.Tables.{Held}
use Rattle.board_core.specs.cached_machine.specs.Cached.{Cached}
use Rattle.board_core.specs.cached_machine.proofs.OutLaws.{all_gone, fewer_gone, few_loaded, few_slots}
use Rattle.board_threads.specs.Waiting.{candidate_of}
use Rattle.board_threads.proofs.CandidateLemmas.{free_among_all, none_more, one_more, AreThose}
use Rattle.board_threads.proofs.checkouts.candidates.Goals as goal

pub loop-loaded-init : goal.loop-loaded-init
loop-loaded-init c = rw c.new-waiting.ensures (record {
  few = omega arith;
  those = λ candidate. (λ there. let never : there.0 < 0 = there.1 in absurd (omega arith), λ is. let never : is.there.0 < 0 = is.there.1 in absurd (omega arith));
})

pub push-requires : goal.push-requires
push-requires c =
    let b = c.args.core.now in
    let loop = c.loop-loaded in
    let list = c.loaded_threads-loaded-items.result in
    let cells = c.tables.result.now.contents.threads.cells in
    let held : c.tables.result.now ≡ b.machine.held = c.tables.ensures.tables ∙ ap (λ (m : Cached). m.held) c.machine.ensures in
    let fewer = fewer_gone list c.into_iter-loaded-iterator.result c.into_iter-loaded-iterator.ensures.into_iter_gives loop.yielded _ loop.yielded_by _ _ c.next.ensures.steps c.in-Some.loaded c.in-Some.is in
    let long = ap length c.loaded_threads-loaded-items.ensures.loaded in
    let slots = ap (λ (h : Held). length h.contents.threads.cells) held ∙ c.known.ensures.slots kind.Thread in
    (omega arith, omega (arith, fewer, long, few_loaded cells, slots, few_slots b.machine c.known.ensures.formed, loop.invariant.few))

pub loop-loaded-preserved-then-is_free : goal.loop-loaded-preserved-then-is_free
loop-loaded-preserved-then-is_free c =
    let now = λ (x : Bor (Loaded ThreadRec)). x.now in
    let loop = c.loop-loaded in
    let l = c.in-Some.loaded.now in
    rw c.push.ensures.items (rw c.candidate_of.ensures (record {
      few = omega (arith, loop.invariant.few, length_push loop.waiting.items (candidate_of l.value), length_push loop.yielded c.in-Some.loaded);
      those = subst (λ (list : List (Loaded ThreadRec)). AreThose list (loop.waiting.items ++ candidate_of l.value ∷ [])) (sym (map-append now loop.yielded (c.in-Some.loaded ∷ [])))
          (one_more (map now loop.yielded) l loop.waiting.items loop.invariant.those (sym c.is_free.ensures ∙ c.if-is_free.true));
    }))

pub loop-loaded-preserved : goal.loop-loaded-preserved
loop-loaded-preserved c =
    let now = λ (x : Bor (Loaded ThreadRec)). x.now in
    let loop = c.loop-loaded in record {
      few = omega (arith, loop.invariant.few, length_push loop.yielded c.in-Some.loaded);
      those = subst (λ (list : List (Loaded ThreadRec)). AreThose list loop.waiting.items) (sym (map-append now loop.yielded (c.in-Some.loaded ∷ [])))
          (none_more (map now loop.yielded) c.in-Some.loaded.now loop.waiting.items loop.invariant.those (sym c.is_free.ensures ∙ c.if-is_free.false));
    }

pub returns : goal.returns
returns c =
    let b = c.args.core.now in
    let loop = c.loop-loaded in
    let list = c.loaded_threads-loaded-items.result in
    let held : c.tables.result.now ≡ b.machine.held = c.tables.ensures.tables ∙ ap (λ (m : Cached). m.held) c.machine.ensures in
    let exact = subst (λ (h : Held). HasExactlyLoaded h.contents.threads.cells list) held c.loaded_threads-loaded-items.ensures.exact in
    let all = all_gone list c.into_iter-loaded-iterator.result c.into_iter-loaded-iterator.ensures.into_iter_gives loop.yielded _ loop.yielded_by _ _ c.next.ensures.steps c.in-None.is in
    free_among_all b c.known.ensures.one c.known.ensures.found list exact loop.waiting.items (subst (λ (xs : List (Loaded ThreadRec)). AreThose xs loop.waiting.items) all loop.invariant.those)
