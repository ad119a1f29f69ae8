-- What a call of the tables leaves, and the entries that tell it.
use Rattle.std.specs.Prelude.{◌≡◌, ℕ, ◌<◌, Bool, List, [], ◌∷◌, ◌++◌, map, length, Contains, Option}
use Rattle.cache_ident.specs.declared.idents.Cause.TheVariants.{Displaced, Unloaded}
use Rattle.cache_ident.specs.declared.idents.Ident.{Ident}
use Rattle.cache_ident.specs.declared.names.Caps.{Caps}
use Rattle.cache_ident.specs.declared.names.Name.{Name}
use Rattle.cache_ident.specs.Names.{amount_of, kind_of}
use Rattle.cache_ident.specs.Residents.{Resident, with_loaded, with_lock}
use Rattle.cache_ident.specs.Rolls.{just_issued}
use Rattle.quantum.specs.flat_state.specs.declared.events.Decl.{Decl}
use Rattle.quantum.specs.flat_state.specs.declared.events.Decl.TheVariants as decls
use Rattle.quantum.specs.flat_state.specs.declared.events.Machine.{Machine}
use Rattle.quantum.specs.flat_state.specs.Declaration.{new_kernel, new_row, new_thread}
use Rattle.desc_tables.specs.run_journal.specs.declared.entries.Entry.{Entry}
use Rattle.desc_tables.specs.run_journal.specs.declared.entries.Entry.TheVariants.{WrittenBack}
use Rattle.desc_tables.specs.run_journal.specs.Groups.{IsGroup}
use Rattle.desc_tables.specs.run_journal.specs.Legal.{IsTaken}
use Rattle.desc_tables.specs.desc_stores.specs.declared.items.Item.{Item}
use Rattle.desc_tables.specs.desc_stores.specs.declared.items.Item.TheVariants as item
use Rattle.desc_tables.specs.desc_stores.specs.Contents.{residents_of, Contents, IsFullOf}
use Rattle.desc_tables.specs.shown_state.specs.Shown.{flat_kernel, flat_thread, shown}
use Rattle.desc_tables.specs.store_residents.specs.Victims.{IsOldest}
use Rattle.desc_tables.specs.group_laws.specs.Leaving.{without_all}
use Rattle.desc_tables.specs.desc_parents.specs.Seen.{seen}
use Rattle.desc_tables.specs.desc_groups.specs.declared.departures.Gone.{Gone}
use Rattle.desc_tables.specs.desc_groups.specs.Moves.{departed_all, gone_as, idents_of, KeepsButCounts}

-- the item is what the declaration declares, and a kernel has locked nothing
abbrev pub Declares : Decl → Item → Type 0
Declares (decls.Kernel number limits) (item.Kernel kernel) = (kernel.no ≡ number) × (flat_kernel kernel ≡ new_kernel limits) × (kernel.locked ≡ record { kernels = 0; spaces = 0; threads = 0; mappings = 0 })
Declares (decls.Space number kernel) (item.Space space) = (space.no ≡ number) × (space.kernel ≡ kernel)
Declares (decls.Thread number space pc priority a0 a1) (item.Thread thread) = flat_thread thread ≡ new_thread number space pc priority a0 a1
Declares (decls.Map space vpn frame flags receiver) (item.Mapping row) = row ≡ new_row space vpn frame flags receiver
Declares _ _ = ⊥

-- the contents show the same machine, whatever its memory
abbrev pub ShowsTheSame : Contents → Contents → Type 0
ShowsTheSame old new = (machine : Option Machine) (memory : List ℕ) → shown machine memory new ≡ shown machine memory old

-- the same is loaded, and no identifier was issued or left
pub record KeepsLoaded (old new : Contents) : Type 0 where
  pub residents : residents_of new ≡ residents_of old
  pub issued : new.issued ≡ old.issued

-- what left, an entry for each in the order in which it left
abbrev pub written_back : ℕ → List Gone → List Entry
written_back cpu gone = map (λ g. WrittenBack g.ident g.cause cpu) gone

-- A name was loaded with the identifier, into the lowest free slot. Where the cache was full a victim left before with all that
-- depends on it, from that place of the journal on, and else nothing did.
pub record IsLoad (caps : Caps) (old new : Contents) (name : Name) (keep : List Ident) (at : ℕ) (gone : List Gone) (ident : Ident) : Type 0 where
  pub displaced : IsFullOf old (kind_of name) → (r : Resident) × IsOldest (residents_of old) (kind_of name) keep r × IsGroup (seen old) (residents_of old) r (idents_of gone)
  pub nothing : (IsFullOf old (kind_of name) → ⊥) → gone ≡ []
  pub causes : gone ≡ gone_as Displaced (idents_of gone)
  pub own : ident ≡ record { kind = kind_of name; slot = ident.slot; serial = length old.issued }
  pub free : IsTaken (without_all (idents_of gone) (residents_of old)) (kind_of name) ident.slot → ⊥
  pub lowest : (slot : ℕ) → slot < ident.slot → IsTaken (without_all (idents_of gone) (residents_of old)) (kind_of name) slot
  pub within : ident.slot < amount_of caps (kind_of name)
  pub residents : residents_of new ≡ with_loaded ident name (without_all (idents_of gone) (residents_of old))
  pub issued : new.issued ≡ departed_all old.issued (idents_of gone) at ++ just_issued ident ∷ []
  pub shows : ShowsTheSame old new

-- what was loaded with the identifier left, with all that depends on it, from that place of the journal on
pub record IsUnload (old new : Contents) (ident : Ident) (at : ℕ) (gone : List Gone) : Type 0 where
  pub group : (r : Resident) → Contains (residents_of old) r → r.ident ≡ ident → IsGroup (seen old) (residents_of old) r (idents_of gone)
  pub causes : gone ≡ gone_as Unloaded (idents_of gone)
  pub residents : residents_of new ≡ without_all (idents_of gone) (residents_of old)
  pub issued : new.issued ≡ departed_all old.issued (idents_of gone) at
  pub shows : ShowsTheSame old new

-- what is loaded with the identifier was locked, or unlocked
pub record IsLock (old new : Contents) (ident : Ident) (on : Bool) : Type 0 where
  pub residents : residents_of new ≡ with_lock ident on (residents_of old)
  pub issued : new.issued ≡ old.issued
  pub contents : KeepsButCounts old new
