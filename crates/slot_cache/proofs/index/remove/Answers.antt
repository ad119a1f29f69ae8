use Rattle.std.proofs.lemmas.List.Edits.{length-remove}
use Rattle.slot_cache.proofs.IndexLemmas.{once, removed, rising_without}
use Rattle.slot_cache.proofs.index.remove.Goals as goal

pub returns-clause-rising : goal.returns-clause-rising
returns-clause-rising g c =
    let e = c.remove.ensures.entries in
    rw e.3 (rising_without g.K.Ord.cmp g.met.K.Ord.total c.args.index.now.entries e.0 e.1 c.requires.rising)

pub returns-clause-removed : goal.returns-clause-removed
returns-clause-removed g c =
    let e = c.remove.ensures.entries in
    let xs = c.args.index.now.entries in
    rw e.3 (removed xs e.0 (c.args.key, c.args.value) e.1 e.2 (λ i j lt within here there. once g.K.Ord.cmp g.met.K.Ord.total xs (c.args.key, c.args.value) i j c.requires.rising lt within here there))

pub returns-clause-len : goal.returns-clause-len
returns-clause-len g c =
    let e = c.remove.ensures.entries in
    rw e.3 (length-remove c.args.index.now.entries e.0 e.1)
