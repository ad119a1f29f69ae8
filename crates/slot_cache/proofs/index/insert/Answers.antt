use Rattle.std.proofs.lemmas.List.Edits.{length-insert}
use Rattle.slot_cache.proofs.IndexLemmas.{absent_entry, inserted, rising_with}
use Rattle.slot_cache.proofs.index.insert.Goals as goal

pub insert-requires-clause-absent : goal.insert-requires-clause-absent
insert-requires-clause-absent g c = absent_entry g.K.Ord.cmp g.met.K.Ord.total g.V.Ord.cmp c.args.index.now.entries c.args.key c.args.value c.requires.absent

pub returns-clause-rising : goal.returns-clause-rising
returns-clause-rising g c =
    let e = c.insert.ensures.entries in
    let proper = rw e.2 at c.insert.ensures.proper.rising in
    rw e.2 (rising_with g.K.Ord.cmp g.met.K.Ord.total g.V.Ord.cmp c.args.index.now.entries c.args.key c.args.value e.0 e.1 c.requires.rising c.requires.absent proper)

pub returns-clause-inserted : goal.returns-clause-inserted
returns-clause-inserted g c =
    let e = c.insert.ensures.entries in
    rw e.2 (inserted c.args.index.now.entries e.0 (c.args.key, c.args.value) e.1)

pub returns-clause-len : goal.returns-clause-len
returns-clause-len g c =
    let e = c.insert.ensures.entries in
    rw e.2 (length-insert c.args.index.now.entries e.0 (c.args.key, c.args.value) e.1)
