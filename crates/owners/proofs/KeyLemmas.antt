-- Keys that are tested as equal are one.
use Rattle.std.proofs.Common.{◌≡◌, ◌≢◌, Bool, true, false, refl, ap, sym, ◌∙◌, ◌⊎◌, inl, inr, arith}
use Rattle.std.proofs.lemmas.Bool.{true≢false}
use Rattle.std.proofs.lemmas.Bool.Decides.{nat_tests}
use Rattle.cache_ident.specs.declared.names.KernelNo.{KernelNo}
use Rattle.cache_ident.specs.declared.names.Name.{Name}
use Rattle.cache_ident.specs.declared.names.Name.TheVariants.{Kernel, Space, Thread, Mapping}
use Rattle.cache_ident.specs.declared.names.SpaceNo.{SpaceNo}
use Rattle.cache_ident.specs.declared.names.ThreadNo.{ThreadNo}
use Rattle.cache_ident.specs.declared.names.Vpn.{Vpn}
use Rattle.owners.specs.Keys.{is_kernel, is_name, is_page, is_thread}

-- a test that holds of one key alone, and of that one
pub record IsTestOf {K : Type 0} (eq : K → K → Bool) : Type 0 where
  pub same : (a b : K) → eq a b ≡ true → a ≡ b
  pub itself : (a : K) → eq a a ≡ true

module _ {K : Type 0} (eq : K → K → Bool) (test : IsTestOf eq) where
  pub apart : (a b : K) → b ≢ a → eq a b ≡ false
  apart a b other = by (eq a b) refl
    where
      by : (c : Bool) → eq a b ≡ c → eq a b ≡ false
      by true is = absurd (other (sym (test.same a b is)))
      by false is = is

  pub cases : (a b : K) → (b ≡ a) ⊎ (b ≢ a)
  cases a b = by (eq a b) refl
    where
      by : (c : Bool) → eq a b ≡ c → (b ≡ a) ⊎ (b ≢ a)
      by true is = inl (sym (test.same a b is))
      by false is = inr (λ one. true≢false (sym (test.itself a) ∙ (ap (eq a) (sym one) ∙ is)))

same_name : (a b : Name) → is_name a b ≡ true → a ≡ b
same_name (Kernel a) (Kernel b) equal = grind (arith, nat_tests)
same_name (Kernel a) (Space b) equal = absurd (cc)
same_name (Kernel a) (Thread b) equal = absurd (cc)
same_name (Kernel a) (Mapping b v) equal = absurd (cc)
same_name (Space a) (Kernel b) equal = absurd (cc)
same_name (Space a) (Space b) equal = grind (arith, nat_tests)
same_name (Space a) (Thread b) equal = absurd (cc)
same_name (Space a) (Mapping b v) equal = absurd (cc)
same_name (Thread a) (Kernel b) equal = absurd (cc)
same_name (Thread a) (Space b) equal = absurd (cc)
same_name (Thread a) (Thread b) equal = grind (arith, nat_tests)
same_name (Thread a) (Mapping b v) equal = absurd (cc)
same_name (Mapping a u) (Kernel b) equal = absurd (cc)
same_name (Mapping a u) (Space b) equal = absurd (cc)
same_name (Mapping a u) (Thread b) equal = absurd (cc)
same_name (Mapping a u) (Mapping b v) equal = grind (arith, nat_tests)

name_itself : (a : Name) → is_name a a ≡ true
name_itself (Kernel a) = grind (arith, nat_tests)
name_itself (Space a) = grind (arith, nat_tests)
name_itself (Thread a) = grind (arith, nat_tests)
name_itself (Mapping a v) = grind (arith, nat_tests)

same_thread : (a b : ThreadNo) → is_thread a b ≡ true → a ≡ b
same_thread a b equal = grind (arith, nat_tests)

thread_itself : (a : ThreadNo) → is_thread a a ≡ true
thread_itself a = grind (arith, nat_tests)

same_kernel : (a b : KernelNo) → is_kernel a b ≡ true → a ≡ b
same_kernel a b equal = grind (arith, nat_tests)

kernel_itself : (a : KernelNo) → is_kernel a a ≡ true
kernel_itself a = grind (arith, nat_tests)

same_page : (a b : SpaceNo × Vpn) → is_page a b ≡ true → a ≡ b
same_page a b equal = grind (arith, nat_tests)

page_itself : (a : SpaceNo × Vpn) → is_page a a ≡ true
page_itself a = grind (arith, nat_tests)

pub name_test : IsTestOf is_name
name_test = record { same = same_name; itself = name_itself }

pub thread_test : IsTestOf is_thread
thread_test = record { same = same_thread; itself = thread_itself }

pub kernel_test : IsTestOf is_kernel
kernel_test = record { same = same_kernel; itself = kernel_itself }

pub page_test : IsTestOf is_page
page_test = record { same = same_page; itself = page_itself }
