use Rattle.std.proofs.Common.{List, [], ◌∷◌, ◌++◌, length, map, Bor, sym, ap, subst, ◌∙◌, arith}
use Rattle.std.proofs.lemmas.List.{length_push, map-append}
use Rattle.cache_ident.specs.declared.idents.Kind.TheVariants as kind
use Rattle.thread_cache.specs.slot_cache.specs.declared.loaded.Loaded.{Loaded}
use Rattle.thread_cache.specs.declared.ThreadRec.{ThreadRec}
use Rattle.cached_machine.proofs.OutLaws.{all_gone, all_out, fewer_gone, few_loaded, none_more_out, one_more_out, out_stand, AreOut}
use Rattle.cached_machine.proofs.posts.threads_out.Goals as goal

pub push-requires : goal.push-requires
push-requires c =
    let loop = c.loop-loaded in
    let list = c.loaded_threads-loaded-items.result in
    let cells = c.args.tables.now.contents.threads.cells in
    let fewer = fewer_gone list c.into_iter-loaded-iterator.result c.into_iter-loaded-iterator.ensures.into_iter_gives loop.yielded _ loop.yielded_by _ _ c.next.ensures.steps c.in-Some.loaded c.in-Some.is in
    let long = ap length c.loaded_threads-loaded-items.ensures.loaded in
    let slots = c.are_sound.ensures.sound.1.whole.sized kind.Thread in
    (omega arith, omega (arith, fewer, long, few_loaded cells, slots, c.requires.few, loop.invariant.few))

pub loop-loaded-preserved-then-is_some : goal.loop-loaded-preserved-then-is_some
loop-loaded-preserved-then-is_some c =
    let now = λ (x : Bor (Loaded ThreadRec)). x.now in
    let loop = c.loop-loaded in
    let l = c.in-Some.loaded.now in
    rw c.push.ensures.items (record {
      few = omega (arith, loop.invariant.few, length_push loop.out.items l.value.no, length_push loop.yielded c.in-Some.loaded);
      those = subst (λ (list : List (Loaded ThreadRec)). AreOut list (loop.out.items ++ l.value.no ∷ [])) (sym (map-append now loop.yielded (c.in-Some.loaded ∷ [])))
          (one_more_out (map now loop.yielded) l loop.out.items loop.invariant.those);
    })

pub loop-loaded-preserved : goal.loop-loaded-preserved
loop-loaded-preserved c =
    let now = λ (x : Bor (Loaded ThreadRec)). x.now in
    let loop = c.loop-loaded in record {
      few = omega (arith, loop.invariant.few, length_push loop.yielded c.in-Some.loaded);
      those = subst (λ (list : List (Loaded ThreadRec)). AreOut list loop.out.items) (sym (map-append now loop.yielded (c.in-Some.loaded ∷ [])))
          (none_more_out (map now loop.yielded) c.in-Some.loaded.now loop.out.items loop.invariant.those (sym c.is_some.ensures ∙ c.if-is_some.false));
    }

pub returns-clause-all : goal.returns-clause-all
returns-clause-all c =
    let loop = c.loop-loaded in
    let list = c.loaded_threads-loaded-items.result in
    let all = all_gone list c.into_iter-loaded-iterator.result c.into_iter-loaded-iterator.ensures.into_iter_gives loop.yielded _ loop.yielded_by _ _ c.next.ensures.steps c.in-None.is in
    all_out c.args.tables.now.contents c.are_sound.ensures.sound.1.whole.one list c.loaded_threads-loaded-items.ensures.exact loop.out.items (subst (λ (xs : List (Loaded ThreadRec)). AreOut xs loop.out.items) all loop.invariant.those) c.requires.out

pub returns-clause-stand : goal.returns-clause-stand
returns-clause-stand c =
    let loop = c.loop-loaded in
    let list = c.loaded_threads-loaded-items.result in
    let all = all_gone list c.into_iter-loaded-iterator.result c.into_iter-loaded-iterator.ensures.into_iter_gives loop.yielded _ loop.yielded_by _ _ c.next.ensures.steps c.in-None.is in
    out_stand c.args.tables.now.contents c.are_sound.ensures.sound.1.whole.one list c.loaded_threads-loaded-items.ensures.exact loop.out.items (subst (λ (xs : List (Loaded ThreadRec)). AreOut xs loop.out.items) all loop.invariant.those)
