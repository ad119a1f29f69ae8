use Rattle.std.proofs.Common.{◌≡◌, Contains, Some, sym, ◌∙◌, ap, subst}
use Rattle.cache_ident.specs.declared.idents.Ident.{Ident}
use Rattle.cache_ident.specs.declared.names.Caps.{Caps}
use Rattle.cache_ident.specs.Residents.{Resident, without}
use Rattle.desc_parents.specs.resident_pairs.specs.Among.{Among}
use Rattle.desc_parents.specs.run_journal.specs.Groups.{ArePairsOf}
use Rattle.desc_parents.specs.desc_stores.specs.Contents.{resident_as, residents_of, Contents}
use Rattle.desc_parents.specs.store_residents.proofs.KindLemmas.{at_as, live_loaded}
use Rattle.desc_parents.specs.store_residents.proofs.ResidentLemmas.{loaded_resident, one_each}
use Rattle.desc_parents.specs.Seen.{seen}
use Rattle.desc_groups.specs.Whole.{AreWhole}
use Rattle.desc_groups.proofs.DepartLemmas.{whole_left}
use Rattle.desc_groups.proofs.ShowLemmas.{seen_kept}
use Rattle.desc_groups.proofs.departures.depart.Goals as goal

module _ (c : goal.After-leave) where
  abbrev old : Contents
  old = c.args.stores.now

  abbrev new : Contents
  new = c.take_out.new.stores

  found : (r : Resident) × (resident_as old c.args.ident ≡ Some r)
  found = live_loaded old c.requires.whole.one.sound c.args.ident c.requires.live

  there : Contains (residents_of old) found.0
  there = loaded_resident old c.requires.whole.one.sound c.args.ident found.0 found.1

  its : found.0.ident ≡ c.args.ident
  its = (at_as old c.args.ident found.0 found.1).1

  pairs : ArePairsOf (seen old) (without found.0.ident (residents_of old)) c.leave.new.self.pairs
  pairs = subst (λ (i : Ident). ArePairsOf (seen old) (without i (residents_of old)) c.leave.new.self.pairs) (sym its)
      (c.leave.ensures.resident (seen old) (residents_of old) found.0 (one_each old c.requires.whole.one) there its (c.requires.last found.0 found.1) c.requires.whole.pairs_are)

  residents : residents_of new ≡ without found.0.ident (residents_of old)
  residents = c.take_out.ensures.residents ∙ ap (λ (i : Ident). without i (residents_of old)) (sym its)

  whole : AreWhole c.args.pairs.now.caps new c.leave.new.self.pairs
  whole = whole_left c.args.pairs.now.caps old new c.args.pairs.now.pairs c.leave.new.self.pairs c.requires.whole found.0 there (c.requires.last found.0 found.1)
      c.take_out.ensures.one (seen_kept old new c.take_out.ensures.kept) c.take_out.ensures.slots residents c.take_out.ensures.owned c.take_out.ensures.counted pairs

pub returns-clause-whole : goal.returns-clause-whole
returns-clause-whole c = subst (λ (caps : Caps). AreWhole caps c.take_out.new.stores c.leave.new.self.pairs) (sym (ap (λ (all : Among). all.caps) c.leave.ensures.pairs)) (whole c)
