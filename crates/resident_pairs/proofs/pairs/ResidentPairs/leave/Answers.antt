use Rattle.std.proofs.Common.{ap, subst}
use Rattle.cache_ident.specs.declared.idents.Ident.{Ident}
use Rattle.cache_ident.specs.Residents.{without as without_resident}
use Rattle.depend_lists.specs.Pairs.{without}
use Rattle.journal_laws.specs.run_journal.specs.Groups.{ArePairsOf}
use Rattle.resident_pairs.specs.Among.{Among}
use Rattle.resident_pairs.proofs.Staying.{leave_keeps}
use Rattle.resident_pairs.proofs.pairs.ResidentPairs.leave.Goals as goal

pub returns-clause-resident : goal.returns-clause-resident
returns-clause-resident c = λ s rs r one there is last are.
    let pairs = c.args.self.now.pairs in
    rw (c.remove.ensures, ap (λ (a : Among). a.pairs) c.self.view_is) (subst (λ (i : Ident). ArePairsOf s (without_resident i rs) (without pairs i)) is (leave_keeps s rs pairs one r there last are))
