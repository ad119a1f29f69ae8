-- What depends on what, and who owns what, is shown by the contents alone.
use Rattle.std.proofs.Common.{◌≡◌, ℕ, List, [], Option, None, refl}
use Rattle.cache_ident.specs.declared.names.Name.{Name}
use Rattle.cache_ident.specs.declared.names.Name.TheVariants as name
use Rattle.flat_state.specs.declared.events.Machine.{Machine}
use Rattle.flat_state.specs.Dependence.{owner, parents}
use Rattle.flat_state.specs.Names.{class_of, is_fit_name}
use Rattle.desc_stores.specs.Contents.{Contents}
use Rattle.shown_state.specs.Shown.{shown}

module _ (machine : Option Machine) (memory : List ℕ) (c : Contents) where
  pub same_parents : (n : Name) → parents (shown machine memory c) n ≡ parents (shown None [] c) n
  unfolding shown parents
  same_parents (name.Kernel number) = refl
  same_parents (name.Space number) = refl
  same_parents (name.Thread number) = refl
  same_parents (name.Mapping space vpn) = refl

  pub same_owner : (n : Name) → owner (shown machine memory c) n ≡ owner (shown None [] c) n
  unfolding shown owner
  same_owner (name.Kernel number) = refl
  same_owner (name.Space number) = refl
  same_owner (name.Thread number) = refl
  same_owner (name.Mapping space vpn) = refl

  pub same_class : (n : Name) → class_of (shown machine memory c) n ≡ class_of (shown None [] c) n
  unfolding shown class_of
  same_class (name.Kernel number) = refl
  same_class (name.Space number) = refl
  same_class (name.Thread number) = refl
  same_class (name.Mapping space vpn) = refl

  pub same_fit : (n : Name) → is_fit_name (shown machine memory c) n ≡ is_fit_name (shown None [] c) n
  unfolding shown is_fit_name
  same_fit (name.Kernel number) = refl
  same_fit (name.Space number) = refl
  same_fit (name.Thread number) = refl
  same_fit (name.Mapping space vpn) = refl
