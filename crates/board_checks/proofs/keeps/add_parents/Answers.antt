use Rattle.std.proofs.Common.{sym, subst, arith}
use Rattle.std.proofs.lemmas.List.Elements.{Contains-get_or}
use Rattle.desc_tables.specs.desc_stores.specs.Contents.{residents_of}
use Rattle.desc_tables.specs.desc_parents.specs.Seen.{seen}
use Rattle.desc_tables.specs.resident_pairs.specs.Among.{AreParents}
use Rattle.board_checks.proofs.KeepLemmas.{also_kept, also_starts, also_there, one_parent_more, parent_above, parents_kept, room_for_one, starts_so}
use Rattle.board_checks.proofs.keeps.add_parents.Goals as goal

pub add-requires : goal.add-requires
add-requires c =
    let some = c.requires.above in
    record { room = room_for_one c.args.tables.now.contents c.are_sound.ensures.sound.1.whole.one c.requires.formed some.0 some.1 c.loop-parent.keep.items (c.loop-parent.invariant.kept some.0 some.2 some.3) }

pub loop-parent-preserved : goal.loop-parent-preserved
loop-parent-preserved c =
    let contents = c.args.tables.now.contents in
    let loop = c.loop-parent in
    let parents = c.as_slice-parents.result.now in
    let are = subst (AreParents (seen contents) (residents_of contents) c.args.name) (sym c.as_slice-parents.ensures.value) c.parents-found.ensures.parents in
    let starts = also_starts loop.keep.items c.add.new.keep.items _ c.add.ensures in
    record {
      kept = λ root kept above. also_kept loop.keep.items c.add.new.keep.items _ c.add.ensures contents root (loop.invariant.kept root kept above) (parent_above contents root c.args.name above parents are _ (Contains-get_or parents loop.parent-index _ c.loop-parent-test.true));
      starts = starts_so c.args.keep.now.items loop.keep.items c.add.new.keep.items loop.invariant.starts starts;
      all = one_parent_more parents loop.keep.items c.add.new.keep.items starts loop.parent-index _ c.loop-parent-test.true loop.invariant.all (also_there loop.keep.items c.add.new.keep.items _ c.add.ensures);
    }

pub returns-clause-has : goal.returns-clause-has
returns-clause-has c =
    let contents = c.args.tables.now.contents in
    let are = subst (AreParents (seen contents) (residents_of contents) c.args.name) (sym c.as_slice-parents.ensures.value) c.parents-found.ensures.parents in
    parents_kept contents c.args.name c.as_slice-parents.result.now c.loop-parent.keep.items are c.loop-parent.parent-index (omega (arith, c.loop-parent-test.false)) c.loop-parent.invariant.all
