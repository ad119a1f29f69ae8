-- What a caller of the tables knows of what is loaded.
use Rattle.std.proofs.Common.{◌≡◌, List, Option, Some, None, IsSome, IfSome, IfNone, is_some, true, false, refl, sym, ◌∙◌, ap, subst}
use Rattle.std.specs.Option.{option_map}
use Rattle.std.proofs.lemmas.Bool.{false≢true}
use Rattle.cache_ident.specs.declared.idents.Ident.{Ident}
use Rattle.cache_ident.specs.declared.names.Name.{Name}
use Rattle.cache_ident.specs.Residents.{Resident, IsNameResident, IsResident}
use Rattle.depend_lists.specs.declared.nodes.Node.{Node}
use Rattle.desc_groups.specs.desc_stores.specs.declared.items.Item.{Item}
use Rattle.desc_groups.specs.desc_stores.specs.declared.items.ItemRef.{ItemRef}
use Rattle.desc_groups.specs.desc_stores.specs.Items.{shown}
use Rattle.desc_groups.specs.desc_stores.specs.Contents.{content_of, item_as, residents_of, Contents, IsShelved}
use Rattle.desc_groups.specs.store_residents.proofs.ContentLemmas.{resident_item, shelved_iff}
use Rattle.desc_tables.specs.Tables.{AreSound, Held}

-- what is loaded under a name has its content
pub content_loaded : (held : Held) (sound : (pairs : List (Ident × Node)) × AreSound held pairs) (ident : Ident) (name : Name) → IsResident (residents_of held.contents) ident name → item_as held.contents ident ≡ content_of held.contents name
content_loaded held sound ident name is = ap (item_as held.contents) (sym is.2) ∙ resident_item held.contents sound.1.whole.one is.0 is.1 ∙ ap (content_of held.contents) is.3

-- what isn't loaded is on its shelf
pub is_shelved : (held : Held) (sound : (pairs : List (Ident × Node)) × AreSound held pairs) (name : Name) → IsSome (content_of held.contents name) → (IsNameResident (residents_of held.contents) name → ⊥) → IsShelved held.contents name
is_shelved held sound name some absent = (shelved_iff held.contents sound.1.whole.one name).1 (some, absent)

-- what is found under a name is loaded with the identifier
pub shown_loaded : (c : Contents) (ident : Ident) (found : Option ItemRef) (content : Option Item) → option_map shown found ≡ content → item_as c ident ≡ content → IfSome found (λ f. item_as c ident ≡ Some (shown f))
shown_loaded c ident None content is same = tt
shown_loaded c ident (Some f) content is same = same ∙ sym is

-- what is found under a name and isn't loaded is there
pub some_content : (found : Option ItemRef) (content : Option Item) → option_map shown found ≡ content → is_some found ≡ true → IsSome content
some_content None content is some = absurd (false≢true some)
some_content (Some f) content is some = subst (λ o. IsSome o) is refl

pub none_resident : (rs : List Resident) (name : Name) (found : Option Ident) → IfNone found (IsNameResident rs name → ⊥) → is_some found ≡ false → IsNameResident rs name → ⊥
none_resident rs name None absent none = absent
none_resident rs name (Some ident) absent none = absurd (false≢true (sym none))
