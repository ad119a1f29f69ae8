-- A load that is refused as loaded already names what is loaded.
use Rattle.std.proofs.Common.{◌≡◌, Bool, true, false, Some, None, subst}
use Rattle.std.specs.Prelude.{if◌then◌else◌}
use Rattle.std.proofs.lemmas.Option.{same_Some}
use Rattle.cache_ident.specs.declared.idents.Ident.{Ident}
use Rattle.cache_ident.specs.declared.idents.Kind.TheVariants as kind
use Rattle.cache_ident.specs.declared.names.KernelNo.{KernelNo}
use Rattle.cache_ident.specs.declared.names.Name.{Name}
use Rattle.cache_ident.specs.declared.names.Name.TheVariants as name
use Rattle.cache_ident.specs.declared.names.SpaceNo.{SpaceNo}
use Rattle.cache_ident.specs.declared.names.ThreadNo.{ThreadNo}
use Rattle.cache_ident.specs.Residents.{IsResident}
use Rattle.page_laws.specs.board_ops.specs.declared.refusals.Refused.{Refused}
use Rattle.page_laws.specs.board_ops.specs.declared.refusals.Refused.TheVariants as why
use Rattle.page_laws.specs.desc_stores.specs.Contents.{residents_of, Contents}
use Rattle.page_laws.specs.board_checks.specs.Refusals.{already_loaded, refusal_of_load_kernel, refusal_of_load_space, refusal_of_load_thread, wrong_space}
use Rattle.page_laws.specs.answer_laws.proofs.LoadAnswers.{told}
use Rattle.page_laws.specs.owner_laws.proofs.Tests.{first_passes, not_a_never, not_declared_never, not_owned_never, told_is_later}

-- a test that refuses for another reason
never_if : (t : Bool) (x : Refused) (ident : Ident) → (x ≡ why.AlreadyLoaded ident → ⊥) → (if t then None else Some x) ≡ Some (why.AlreadyLoaded ident) → ⊥
never_if true x ident apart is = absurd (cc)
never_if false x ident apart is = apart (same_Some x (why.AlreadyLoaded ident) is)

module _ (c : Contents) (ident : Ident) where
  abbrev w : Refused
  w = why.AlreadyLoaded ident

  -- the name is loaded with the identifier that was told
  loaded_so : (n : Name) → already_loaded c n ≡ Some w → IsResident (residents_of c) ident n
  loaded_so n is =
      let t = told c n w is in
      let same : t.0 ≡ ident = cc (t.1) in
      subst (λ (i : Ident). IsResident (residents_of c) i n) same t.2

  parent_never : (parent : Ident) (thread : ThreadNo) → wrong_space c parent thread ≡ Some w → ⊥
  unfolding wrong_space
  parent_never parent thread is = never_if _ _ ident (λ e. absurd (cc)) is

  pub kernel_told : (caller : Ident) (kernel : KernelNo) → refusal_of_load_kernel c caller kernel ≡ Some w → IsResident (residents_of c) ident (name.Kernel kernel)
  kernel_told caller kernel is =
      let later = told_is_later ident in
      let one = first_passes _ _ w (not_a_never c w later kind.Kernel caller) is in
      let two = first_passes _ _ w (not_declared_never c w later (name.Kernel kernel)) one.1 in
      let three = first_passes _ _ w (not_owned_never c w later caller (name.Kernel kernel)) two.1 in
      loaded_so (name.Kernel kernel) three.1

  pub space_told : (caller : Ident) (space : SpaceNo) → refusal_of_load_space c caller space ≡ Some w → IsResident (residents_of c) ident (name.Space space)
  space_told caller space is =
      let later = told_is_later ident in
      let one = first_passes _ _ w (not_a_never c w later kind.Kernel caller) is in
      let two = first_passes _ _ w (not_declared_never c w later (name.Space space)) one.1 in
      let three = first_passes _ _ w (not_owned_never c w later caller (name.Space space)) two.1 in
      loaded_so (name.Space space) three.1

  pub thread_told : (caller parent : Ident) (thread : ThreadNo) → refusal_of_load_thread c caller parent thread ≡ Some w → IsResident (residents_of c) ident (name.Thread thread)
  thread_told caller parent thread is =
      let later = told_is_later ident in
      let one = first_passes _ _ w (not_a_never c w later kind.Kernel caller) is in
      let two = first_passes _ _ w (not_a_never c w later kind.Space parent) one.1 in
      let three = first_passes _ _ w (not_declared_never c w later (name.Thread thread)) two.1 in
      let four = first_passes _ _ w (not_owned_never c w later caller (name.Thread thread)) three.1 in
      let five = first_passes _ _ w (parent_never parent thread) four.1 in
      loaded_so (name.Thread thread) five.1
