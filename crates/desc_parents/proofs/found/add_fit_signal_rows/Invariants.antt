use Rattle.std.proofs.Common.{filter}
use Rattle.store_residents.specs.desc_stores.specs.Contents.{residents_of}
use Rattle.desc_parents.specs.Idents.{HasAlsoIdentsOf}
use Rattle.desc_parents.proofs.RowLemmas.{fit_in}
use Rattle.desc_parents.proofs.found.add_fit_signal_rows.Given as goal

-- the identifiers of the fit ones of those before this one were added
abbrev pub invariant-loop-name : goal.invariant-loop-name
invariant-loop-name l = HasAlsoIdentsOf (residents_of l.stores) l.fn.parents.items l.parents.items (filter (fit_in l.stores) l.yielded)
