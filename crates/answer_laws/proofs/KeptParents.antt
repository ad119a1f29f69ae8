-- What a load keeps.
use Rattle.std.proofs.Common.{◌≡◌, ℕ, List, Contains, refl, sym, subst}
use Rattle.cache_ident.specs.declared.idents.Ident.{Ident}
use Rattle.cache_ident.specs.declared.names.Name.{Name}
use Rattle.cache_ident.specs.Residents.{Resident, IsNameResident}
use Rattle.board_loads.specs.flat_state.specs.Dependence.{directly, further, Depends, DependsFar}
use Rattle.board_threads.specs.run_journal.specs.Legal.{AreGood}
use Rattle.board_threads.specs.desc_tables.specs.May.{IsKeptFor}
use Rattle.board_threads.specs.desc_stores.specs.Contents.{residents_of, Contents}
use Rattle.board_loads.specs.desc_parents.specs.Seen.{seen}
use Rattle.board_threads.specs.board_core.specs.Core.{contents_of, IsSound, Recorded}
use Rattle.board_loads.specs.Loads.{IsLoadedAs}

module _ (c : Contents) (good : AreGood (seen c) (residents_of c)) (n : Name) (keep : List Ident) (kept : IsKeptFor c n keep) where
  -- what is reached is loaded, and whatever is loaded under it is kept
  reached : (parent : Name) → DependsFar (seen c) n parent → IsNameResident (residents_of c) parent × ((r : Resident) → Contains (residents_of c) r → r.name ≡ parent → Contains keep r.ident)
  reached parent (directly {parent = p} depends) = (
    kept.has p depends,
    λ r there its. kept.direct r there (subst (λ (m : Name). Depends (seen c) n m) (sym its) depends),
  )
  reached parent (further {between} {parent = p} far depends) =
      let before = reached between far in
      let q : Resident = before.0.0 in
      let up : Depends (seen c) q.name p = subst (λ (m : Name). Depends (seen c) m p) (sym before.0.2) depends in (
        (good q before.0.1).parents p up,
        λ r there its. kept.closed q r before.0.1 (before.1 q before.0.1 before.0.2) there (subst (λ (m : Name). Depends (seen c) q.name m) (sym its) up),
      )

module _ (cpu : ℕ) (n : Name) (ident : Ident) (old new : Recorded) (sound : IsSound old) (load : IsLoadedAs cpu n ident old new) where
  good_now : AreGood (seen (contents_of old)) (residents_of (contents_of old))
  good_now = sound.tables.1.whole.good

  pub all_loaded : (parent : Name) → DependsFar (seen (contents_of old)) n parent → IsNameResident (residents_of (contents_of old)) parent
  all_loaded parent far = (reached (contents_of old) good_now n load.keep load.may.kept parent far).0

  pub all_kept : (r : Resident) → Contains (residents_of (contents_of old)) r → DependsFar (seen (contents_of old)) n r.name → Contains (residents_of (contents_of new)) r
  all_kept r there far = load.stay r there ((reached (contents_of old) good_now n load.keep load.may.kept r.name far).1 r there refl)
