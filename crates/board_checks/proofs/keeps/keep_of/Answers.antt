use Rattle.std.proofs.Common.{◌≡◌, List, Some, slice_get, refl, sym, subst, inl, arith}
use Rattle.std.proofs.lemmas.Option.{get_or_from_slice_get, slice_get_within}
use Rattle.board_ops.specs.flat_state.proofs.Places.{Contains-from_get}
use Rattle.cache_ident.specs.declared.idents.Ident.{Ident}
use Rattle.desc_tables.specs.store_residents.proofs.ContentLemmas.{shelved_iff}
use Rattle.board_checks.proofs.KeepLemmas.{all_kept, none_kept, one_further, parents_stay}
use Rattle.board_checks.proofs.keeps.keep_of.Goals as goal

pub add_parents-requires-clause-above : goal.add_parents-requires-clause-above
add_parents-requires-clause-above c =
    let absent = ((shelved_iff c.args.tables.now.contents c.are_sound.ensures.sound.1.whole.one c.args.name).0 c.requires.may.shelved).1 in
    (c.args.name, absent, none_kept c.args.tables.now.contents c.args.name c.new-keep.result.items c.new-keep.ensures, inl refl)

pub loop-at-init : goal.loop-at-init
loop-at-init c = record {
  kept = c.add_parents.ensures.kept c.args.name (none_kept c.args.tables.now.contents c.args.name c.new-keep.result.items c.new-keep.ensures) (inl refl);
  has = c.add_parents.ensures.has;
  closed = λ k d below. absurd (omega arith);
}

pub add_parents_as-requires-clause-kept : goal.add_parents_as-requires-clause-kept
add_parents_as-requires-clause-kept c =
    let absent = ((shelved_iff c.args.tables.now.contents c.are_sound.ensures.sound.1.whole.one c.args.name).0 c.requires.may.shelved).1 in
    (c.args.name, absent, c.loop-at.invariant.kept)

pub add_parents_as-requires-clause-its : goal.add_parents_as-requires-clause-its
add_parents_as-requires-clause-its c =
    let loop = c.loop-at in
    Contains-from_get loop.keep.items loop.at c.ident_at-ident.result (subst (λ (keep : List Ident). slice_get keep loop.at ≡ Some c.ident_at-ident.result) c.as_slice.ensures.value c.ident_at-ident.ensures)

pub loop-at-preserved : goal.loop-at-preserved
loop-at-preserved c =
    let loop = c.loop-at in
    let ident = c.ident_at-ident.result in
    let at : slice_get loop.keep.items loop.at ≡ Some ident = subst (λ (keep : List Ident). slice_get keep loop.at ≡ Some ident) c.as_slice.ensures.value c.ident_at-ident.ensures in
    let is = sym (get_or_from_slice_get loop.keep.items loop.at ident ident at) in
    let starts = c.add_parents_as.ensures.starts in
    record {
      kept = c.add_parents_as.ensures.kept c.args.name loop.invariant.kept;
      has = parents_stay c.args.tables.now.contents loop.keep.items c.add_parents_as.new.keep.items starts c.args.name loop.invariant.has;
      closed = one_further c.args.tables.now.contents loop.keep.items c.add_parents_as.new.keep.items starts loop.at ident (slice_get_within loop.keep.items loop.at ident at) is loop.invariant.closed c.add_parents_as.ensures.has;
    }

pub returns : goal.returns
returns c = record {
  may = all_kept c.args.tables.now.contents c.are_sound.ensures.sound.1.whole.one c.requires.formed c.args.name c.requires.may c.loop-at.keep.items c.loop-at.invariant.kept c.loop-at.invariant.has c.loop-at.at (omega (arith, c.loop-at-test.false, c.len.ensures.value)) c.loop-at.invariant.closed;
  only = c.loop-at.invariant.kept.above;
}
