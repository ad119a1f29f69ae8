-- With which identifier a name is resident, if it is.
use Rattle.std.proofs.Common.{Option, Some, None}
use Rattle.std.specs.Prelude.{IfNone, IfSome}
use Rattle.cache_ident.specs.declared.idents.Ident.{Ident}
use Rattle.cache_ident.specs.declared.names.Name.{Name}
use Rattle.cache_ident.specs.Residents.{IsNameResident, IsResident}
use Rattle.desc_groups.specs.desc_stores.specs.declared.items.FoundItem.{FoundItem}
use Rattle.desc_groups.specs.desc_stores.specs.Contents.{residents_of, Contents, HasNoResident, IsResidentAs}
use Rattle.desc_groups.specs.desc_stores.specs.Sound.{AreSound}
use Rattle.desc_groups.specs.store_residents.proofs.ResidentLemmas.{absent_iff, named_iff}

module _ (c : Contents) (sound : AreSound c) (name : Name) where
  pub found_resident : (o : Option Ident) → IfSome o (IsResidentAs c name) → IfSome o (λ ident. IsResident (residents_of c) ident name)
  found_resident None found = found
  found_resident (Some ident) found = (named_iff c sound name ident).0 found

  pub absent_resident : (o : Option Ident) → IfNone o (HasNoResident c name) → IfNone o (IsNameResident (residents_of c) name → ⊥)
  absent_resident None absent = (absent_iff c sound name).0 absent
  absent_resident (Some ident) absent = absent

  -- the same of a content that was found
  pub found_loaded : (o : Option FoundItem) → IfSome o (λ found. IfSome found.ident (IsResidentAs c name)) → IfSome o (λ found. IfSome found.ident (λ ident. IsResident (residents_of c) ident name))
  found_loaded None loaded = loaded
  found_loaded (Some found) loaded = found_resident found.ident loaded

  pub found_absent : (o : Option FoundItem) → IfSome o (λ found. IfNone found.ident (HasNoResident c name)) → IfSome o (λ found. IfNone found.ident (IsNameResident (residents_of c) name → ⊥))
  found_absent None shelved = shelved
  found_absent (Some found) shelved = absent_resident found.ident shelved
