use Rattle.cache_ident.specs.declared.names.Name.TheVariants as name
use Rattle.store_residents.specs.desc_stores.specs.Contents.{residents_of}
use Rattle.desc_parents.specs.Seen.{seen}
use Rattle.desc_parents.proofs.RowLemmas.{few_from_nothing, no_receiver}
use Rattle.desc_parents.proofs.found.add_those_of_row.Goals as goal
use Rattle.desc_parents.proofs.found.add_those_of_row.Goals.{in-Some, in_default}

-- a message row has no receiver, so there is at most its space
pub add_fit_signal_rows-requires-clause-room : goal.add_fit_signal_rows-requires-clause-room
add_fit_signal_rows-requires-clause-room c =
    let contents = c.args.stores.now in
    let row = c.args.row.now in
    let none = no_receiver (seen contents) row c.requires.rows c.requires.there c.if-row.true in
    elim c.match-row.branch [
      | in-Some w ↦ let is = w.in-Some.is in absurd (cc)
      | in_default w ↦ rw w.parents-is (few_from_nothing (residents_of contents) (name.Space row.space) c.args.parents.now.items c.add.new.parents.items c.requires.empty c.add.ensures)
    ]
