-- Which thread a content is.
use Rattle.std.specs.Prelude.{◌≡◌, ℕ, Some}
use Rattle.cache_ident.specs.declared.idents.Ident.{Ident}
use Rattle.desc_groups.specs.desc_stores.specs.declared.items.Item.{Item}
use Rattle.desc_groups.specs.desc_stores.specs.declared.items.Item.TheVariants as item
use Rattle.desc_groups.specs.desc_stores.specs.Contents.{item_as, Contents}

-- a thread of that number, of a space of that number
abbrev pub IsThreadOf : Item → ℕ → ℕ → Type 0
IsThreadOf (item.Thread thread) number space = (thread.no ≡ record { 0 = number }) × (thread.space ≡ record { 0 = space })
IsThreadOf _ number space = ⊥

-- such a thread is loaded with the identifier
abbrev pub IsThreadAs : Contents → Ident → ℕ → ℕ → Type 0
IsThreadAs c ident number space = (thread : Item) × (item_as c ident ≡ Some thread) × IsThreadOf thread number space
