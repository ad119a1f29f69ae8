use Rattle.std.proofs.Common.{◌≡◌, ◌∙◌, ap, subst, length, arith}
use Rattle.std.proofs.lemmas.List.{get_or_default}
use Rattle.resident_pairs.specs.Among.{Among}
use Rattle.resident_pairs.proofs.Loading.{IsLoadedWith, with_none, not_yet, with_more, with_room, with_all, load_keeps}
use Rattle.resident_pairs.proofs.pairs.ResidentPairs.load.Goals as goal

pub loop-parent-init : goal.loop-parent-init
loop-parent-init c =
    let caps = ap (λ (a : Among). a.caps) c.self.view_is in
    record {
      caps = caps;
      scratch = c.self.invariant ∙ caps;
      loaded = rw (ap (λ (a : Among). a.pairs) c.self.view_is) (with_none c.args.self.now.pairs c.args.child c.requires.new c.args.parents.now);
    }

pub add-requires-clause-absent : goal.add-requires-clause-absent
add-requires-clause-absent c =
    let loop = c.loop-parent in
    not_yet c.args.self.now.pairs c.args.child c.requires.new c.args.parents.now loop.self-inside.depends.pairs loop.parent-index _ c.loop-parent-test.true (λ d. get_or_default c.args.parents.now loop.parent-index d _ c.loop-parent-test.true) loop.invariant.loaded c.requires.apart

pub add-requires-clause-within : goal.add-requires-clause-within
add-requires-clause-within c =
    let loop = c.loop-parent in
    rw loop.invariant.caps (with_room c.args.self.now.pairs c.args.child c.requires.new c.args.parents.now loop.self-inside.depends.pairs loop.parent-index _ c.loop-parent-test.true (λ d. get_or_default c.args.parents.now loop.parent-index d _ c.loop-parent-test.true) loop.invariant.loaded c.args.self.now.caps c.requires.room)

pub loop-parent-preserved : goal.loop-parent-preserved
loop-parent-preserved c =
    let loop = c.loop-parent in
    record {
      caps = c.add.ensures.caps ∙ loop.invariant.caps;
      scratch = loop.invariant.scratch;
      loaded = with_more c.args.self.now.pairs c.args.child c.requires.new c.args.parents.now loop.self-inside.depends.pairs loop.parent-index _ c.loop-parent-test.true (λ d. get_or_default c.args.parents.now loop.parent-index d _ c.loop-parent-test.true) loop.invariant.loaded c.add.new.self.pairs c.add.ensures.pairs;
    }

pub returns-clause-pairs : goal.returns-clause-pairs
returns-clause-pairs c =
    let loop = c.loop-parent in
    let whole : loop.parent-index ≡ length c.args.parents.now = omega (arith, c.loop-parent-test.false, loop.auto.parent-index-end) in
    with_all c.args.self.now.pairs c.args.child c.requires.new c.args.parents.now loop.self-inside.depends.pairs (subst (IsLoadedWith c.args.self.now.pairs loop.self-inside.depends.pairs c.args.child c.args.parents.now) whole loop.invariant.loaded)

pub returns-clause-few : goal.returns-clause-few
returns-clause-few c = omega (arith, c.loop-parent.invariant.loaded.has.short, c.loop-parent-test.false, c.loop-parent.auto.parent-index-end)

pub returns-clause-resident : goal.returns-clause-resident
returns-clause-resident c = λ s rs name are its of last.
    let loop = c.loop-parent in
    let whole : loop.parent-index ≡ length c.args.parents.now = omega (arith, c.loop-parent-test.false, loop.auto.parent-index-end) in
    let also = with_all c.args.self.now.pairs c.args.child c.requires.new c.args.parents.now loop.self-inside.depends.pairs (subst (IsLoadedWith c.args.self.now.pairs loop.self-inside.depends.pairs c.args.child c.args.parents.now) whole loop.invariant.loaded) in
    load_keeps s rs c.args.self.now.pairs loop.self-inside.depends.pairs c.args.child name c.args.parents.now also are its of last
