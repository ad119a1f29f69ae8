use Rattle.std.proofs.Common.{◌≡◌, ◌∙◌, ℕ, ◌-◌, ap, length, map, sym}
use Rattle.std.specs.declared.ops.Range.{Range}
use Rattle.std.proofs.lemmas.List.FromFn.{length-map-range_with_len}
use Rattle.cache_ident.specs.declared.names.Name.{Name}
use Rattle.desc_groups.specs.desc_stores.specs.Sound.{kernel_named, space_named, thread_named}
use Rattle.desc_tables.specs.declared.names.Left.{Left}
use Rattle.desc_tables.specs.Names.{names_in, numbers_of}
use Rattle.desc_tables.proofs.names.Names.left.Goals as goal

-- as many numbers are left as the range is long
as_long : (named : ℕ → Name) (numbers : Range ℕ) → numbers.end - numbers.start ≡ length (map named (numbers_of numbers))
as_long named numbers = sym (length-map-range_with_len named numbers.start (numbers.end - numbers.start))

pub returns-in-Kernels : goal.returns-in-Kernels
returns-in-Kernels c = c.len.ensures.value ∙ as_long kernel_named c.in-Kernels.numbers ∙ ap (λ (left : Left). length (names_in left)) (sym c.in-Kernels.is) ∙ ap length c.self.view_is

pub returns-in-Spaces : goal.returns-in-Spaces
returns-in-Spaces c = c.len-in-Spaces.ensures.value ∙ as_long space_named c.in-Spaces.numbers ∙ ap (λ (left : Left). length (names_in left)) (sym c.in-Spaces.is) ∙ ap length c.self.view_is

pub returns-in-Threads : goal.returns-in-Threads
returns-in-Threads c = c.len-in-Threads.ensures.value ∙ as_long thread_named c.in-Threads.numbers ∙ ap (λ (left : Left). length (names_in left)) (sym c.in-Threads.is) ∙ ap length c.self.view_is
