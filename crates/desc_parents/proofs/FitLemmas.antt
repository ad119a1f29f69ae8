-- What the contents say of rights.
use Rattle.std.proofs.Common.{◌≡◌, ℕ, false, [], replicate, Option, Some, None, sym, ◌∙◌, ap, inl, inr, arith}
use Rattle.std.specs.Option.{option_map}
use Rattle.std.proofs.lemmas.Bool.{cases_lt}
use Rattle.std.proofs.lemmas.List.{get_or-replicate}
use Rattle.std.proofs.Math.ListN.{get_or-eq_default}
use Rattle.cache_ident.specs.declared.names.KernelNo.{KernelNo}
use Rattle.cache_ident.specs.declared.names.Name.TheVariants as name
use Rattle.cache_ident.specs.declared.names.SpaceNo.{SpaceNo}
use Rattle.phys_groups.specs.Translation.{right_on}
use Rattle.group_laws.specs.flat_state.specs.Dependence.{owner}
use Rattle.group_laws.specs.flat_state.specs.Translation.{kernel_rights, rights_in, rights_of}
use Rattle.store_residents.specs.desc_stores.specs.declared.items.ItemRef.{ItemRef}
use Rattle.store_residents.specs.desc_stores.specs.Contents.{content_of, Contents}
use Rattle.store_residents.specs.desc_stores.specs.Items.{shown}
use Rattle.store_residents.specs.desc_stores.specs.Sound.{IsExactlyOne}
use Rattle.shown_state.specs.Shown.{kernel_of, space_of}
use Rattle.shown_state.proofs.LookupLemmas.{found_kernel, found_space}
use Rattle.desc_parents.specs.Seen.{seen}

module _ (c : Contents) (one : IsExactlyOne c) (found as_is : Option ItemRef) (same : found ≡ as_is) where
  -- a space's owner is the kernel that is found in it
  pub owner_found : (space : SpaceNo) → option_map shown found ≡ content_of c (name.Space space) → space_of (option_map shown as_is) ≡ owner (seen c) (name.Space space)
  unfolding owner
  owner_found space is = ap (λ o. space_of (option_map shown o)) (sym same) ∙ ap space_of is ∙ sym (found_space None [] c one space.0)

  -- the rights over a space are those that are found of the kernel that owns it
  pub rights_found : (space : SpaceNo) (kernel : KernelNo) → Some kernel ≡ owner (seen c) (name.Space space) → option_map shown found ≡ content_of c (name.Kernel kernel) → (group : ℕ) → right_on (rights_in (kernel_of (option_map shown as_is))) group ≡ right_on (rights_of (seen c) space) group
  unfolding owner
  rights_found space kernel owned is group =
      ap (λ o. right_on (rights_in (kernel_of (option_map shown o))) group) (sym same)
      ∙ ap (λ o. right_on (rights_in (kernel_of o)) group) is
      ∙ sym (ap (λ o. right_on (rights_in o) group) (found_kernel None [] c one kernel.0))
      ∙ ap (λ o. right_on (kernel_rights (seen c).kernels o) group) owned

-- no group has a right in a list of none
pub none_right : (group : ℕ) → right_on (replicate 16 (false, false)) group ≡ right_on [] group
none_right group = elim (cases_lt group 16) [
  | inl within ↦ get_or-replicate 16 group (false, false) (false, false) within
  | inr past ↦ get_or-eq_default (replicate 16 (false, false)) (false, false) (omega (arith, past))
]

-- over a space that isn't there nobody has rights
pub none_over : (c : Contents) (space : SpaceNo) → None ≡ owner (seen c) (name.Space space) → (group : ℕ) → right_on (replicate 16 (false, false)) group ≡ right_on (rights_of (seen c) space) group
unfolding owner
none_over c space none group = none_right group ∙ ap (λ o. right_on (kernel_rights (seen c).kernels o) group) none
