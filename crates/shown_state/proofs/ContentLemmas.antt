-- What a content shows, and that it has the name under which it stands.
use Rattle.std.proofs.Common.{◌≡◌, ◌≢◌, ℕ, ◌≤◌, Bool, true, false, Option, Some, None, IsSome, refl, sym, ◌∙◌, ap, subst, arith}
use Rattle.std.specs.Option.{option_map, option_or}
use Rattle.std.proofs.lemmas.Bool.{and_from, and_parts, eq-eqb, eqb-true, false≢true}
use Rattle.std.proofs.lemmas.Option.{same_Some}
use Rattle.cache_ident.specs.declared.names.Name.{Name}
use Rattle.cache_ident.specs.declared.names.Name.TheVariants as name
use Rattle.cache_ident.specs.declared.names.SpaceNo.{SpaceNo}
use Rattle.cache_ident.specs.declared.names.Vpn.{Vpn}
use Rattle.phys_groups.specs.declared.rows.Row.{Row}
use Rattle.phys_groups.specs.Rows.{row_name}
use Rattle.phys_groups.specs.Translation.{is_row_of}
use Rattle.desc_stores.specs.slot_cache.specs.declared.loaded.Loaded.{Loaded}
use Rattle.desc_stores.specs.slot_cache.specs.Cells.{loaded_in}
use Rattle.desc_stores.specs.kernel_cache.specs.declared.KernelRec.{KernelRec}
use Rattle.desc_stores.specs.kernel_cache.specs.Kernels as kernel_rec
use Rattle.desc_stores.specs.space_cache.specs.declared.SpaceRec.{SpaceRec}
use Rattle.desc_stores.specs.space_cache.specs.Spaces as space_rec
use Rattle.desc_stores.specs.thread_cache.specs.declared.ThreadRec.{ThreadRec}
use Rattle.desc_stores.specs.thread_cache.specs.Threads as thread_rec
use Rattle.flat_state.proofs.Finding.{find-passes}
use Rattle.desc_stores.specs.owner_shelf.specs.Rows.{content_under}
use Rattle.desc_stores.specs.owner_shelf.proofs.NameLemmas.{eq_same, same_by_eq}
use Rattle.desc_stores.specs.kind_store.specs.Kept as stored
use Rattle.desc_stores.specs.kind_store.specs.Changes.{is_name}
use Rattle.desc_stores.specs.kind_store.proofs.CellLemmas.{found}
use Rattle.desc_stores.specs.kind_store.proofs.ContentLemmas.{content_named}
use Rattle.desc_stores.specs.declared.items.Item.{Item}
use Rattle.desc_stores.specs.declared.items.Item.TheVariants as item
use Rattle.desc_stores.specs.Items.{name_of}
use Rattle.desc_stores.specs.Contents.{content_of, Contents}
use Rattle.desc_stores.specs.Sound.{kernel_named, space_named, thread_named, IsExactlyOne, IsNumbered}
use Rattle.shown_state.specs.Shown.{flat_kernel, flat_thread, kernel_of, row_of_item, space_of, thread_of}
use Rattle.shown_state.proofs.ListLemmas.{AreThere}

-- two tests that pass together
pub same_tests : (a b : Bool) → (a ≡ true → b ≡ true) → (b ≡ true → a ≡ true) → a ≡ b
same_tests true b there back = sym (there refl)
same_tests false true there back = back refl
same_tests false false there back = refl

pub not_some : {T : Type 0} (o : Option T) → (IsSome o → ⊥) → o ≡ None
not_some None never = refl
not_some (Some value) never = absurd (never refl)

module _ {T : Type 0} (called : T → Name) where
  -- the content of a name has that name
  pub content_has_name : (kept : stored.Kept T) (name : Name) (value : T) → stored.content_of called kept name ≡ Some value → called value ≡ name
  unfolding stored.content_of
  content_has_name kept name value is = by (found called kept.cells name) refl is
    where
      by : (o : Option (Loaded T)) → found called kept.cells name ≡ o → option_or (option_map (λ l. l.value) o) (content_under called kept.rows name) ≡ Some value → called value ≡ name
      by None none rest = content_named called kept.rows name value rest
      by (Some l) there rest = ap called (sym (same_Some l.value value rest)) ∙ same_by_eq (called l.value) name (find-passes (stored.is_called called name) (loaded_in kept.cells) l there)

  -- so a name that no content can have has none
  pub no_content : (kept : stored.Kept T) (name : Name) → ((value : T) → called value ≢ name) → stored.content_of called kept name ≡ None
  no_content kept name other = by (stored.content_of called kept name) refl
    where
      by : (o : Option T) → stored.content_of called kept name ≡ o → o ≡ None
      by None is = refl
      by (Some value) is = absurd (other value (content_has_name kept name value is))

-- a content of any kind has the name under which it stands
pub item_has_name : (c : Contents) (name : Name) (content : Item) → content_of c name ≡ Some content → name_of content ≡ name
item_has_name c (name.Kernel number) content is = by (stored.content_of kernel_rec.name_of c.kernels (name.Kernel number)) refl is
  where
    by : (o : Option KernelRec) → stored.content_of kernel_rec.name_of c.kernels (name.Kernel number) ≡ o → option_map item.Kernel o ≡ Some content → name_of content ≡ name.Kernel number
    by None there is = absurd (cc)
    by (Some value) there is = ap name_of (sym (same_Some (item.Kernel value) content is)) ∙ content_has_name kernel_rec.name_of c.kernels (name.Kernel number) value there
item_has_name c (name.Space number) content is = by (stored.content_of space_rec.name_of c.spaces (name.Space number)) refl is
  where
    by : (o : Option SpaceRec) → stored.content_of space_rec.name_of c.spaces (name.Space number) ≡ o → option_map item.Space o ≡ Some content → name_of content ≡ name.Space number
    by None there is = absurd (cc)
    by (Some value) there is = ap name_of (sym (same_Some (item.Space value) content is)) ∙ content_has_name space_rec.name_of c.spaces (name.Space number) value there
item_has_name c (name.Thread number) content is = by (stored.content_of thread_rec.name_of c.threads (name.Thread number)) refl is
  where
    by : (o : Option ThreadRec) → stored.content_of thread_rec.name_of c.threads (name.Thread number) ≡ o → option_map item.Thread o ≡ Some content → name_of content ≡ name.Thread number
    by None there is = absurd (cc)
    by (Some value) there is = ap name_of (sym (same_Some (item.Thread value) content is)) ∙ content_has_name thread_rec.name_of c.threads (name.Thread number) value there
item_has_name c (name.Mapping space vpn) content is = by (stored.content_of row_name c.rows.kept (name.Mapping space vpn)) refl is
  where
    by : (o : Option Row) → stored.content_of row_name c.rows.kept (name.Mapping space vpn) ≡ o → option_map item.Mapping o ≡ Some content → name_of content ≡ name.Mapping space vpn
    by None there is = absurd (cc)
    by (Some value) there is = ap name_of (sym (same_Some (item.Mapping value) content is)) ∙ content_has_name row_name c.rows.kept (name.Mapping space vpn) value there

-- what a content of each kind shows
pub shows_kernel : (o : Option KernelRec) → kernel_of (option_map item.Kernel o) ≡ option_map flat_kernel o
shows_kernel None = refl
shows_kernel (Some value) = refl

pub shows_space : (o : Option SpaceRec) → space_of (option_map item.Space o) ≡ option_map (λ (space : SpaceRec). space.kernel) o
shows_space None = refl
shows_space (Some value) = refl

pub shows_thread : (o : Option ThreadRec) → thread_of (option_map item.Thread o) ≡ option_map flat_thread o
shows_thread None = refl
shows_thread (Some value) = refl

pub shows_row : (o : Option Row) → row_of_item (option_map item.Mapping o) ≡ o
shows_row None = refl
shows_row (Some value) = refl

-- a row is that of a page exactly if it has the page's name
pub named_by_page : (space : SpaceNo) (vpn : Vpn) (row : Row) → is_row_of space vpn.0 row ≡ true → row_name row ≡ name.Mapping space vpn
named_by_page space vpn row passes =
    let parts = and_parts _ _ passes in
    let same_space : row.space ≡ space = ap (λ (k : ℕ). record { 0 = k }) (eqb-true row.space.0 space.0 parts.0) in
    let same_page : row.vpn ≡ vpn = ap (λ (k : ℕ). record { 0 = k }) (eqb-true row.vpn.0 vpn.0 parts.1) in
    ap (λ (s : SpaceNo). name.Mapping s row.vpn) same_space ∙ ap (name.Mapping space) same_page

abbrev pub space_in : Name → SpaceNo → SpaceNo
space_in (name.Mapping space vpn) other = space
space_in _ other = other

abbrev page_in : Name → Vpn → Vpn
page_in (name.Mapping space vpn) other = vpn
page_in _ other = other

pub page_by_name : (space : SpaceNo) (vpn : Vpn) (row : Row) → row_name row ≡ name.Mapping space vpn → is_row_of space vpn.0 row ≡ true
page_by_name space vpn row same =
    and_from _ _ (eq-eqb row.space.0 space.0 (ap (λ (n : Name). (space_in n space).0) same)) (eq-eqb row.vpn.0 vpn.0 (ap (λ (n : Name). (page_in n vpn).0) same))

pub page_test : (space : SpaceNo) (vpn : Vpn) (row : Row) → is_row_of space vpn.0 row ≡ is_name (row_name row) (name.Mapping space vpn)
page_test space vpn row = same_tests _ _ (λ passes. eq_same (row_name row) (name.Mapping space vpn) (named_by_page space vpn row passes)) (λ passes. page_by_name space vpn row (same_by_eq (row_name row) (name.Mapping space vpn) passes))

-- what a name shows of a row is what the rows have under it
pub row_there : (c : Contents) (name : Name) → row_of_item (content_of c name) ≡ stored.content_of row_name c.rows.kept name
row_there c (name.Kernel number) = by (stored.content_of kernel_rec.name_of c.kernels (name.Kernel number)) ∙ sym (no_content row_name c.rows.kept (name.Kernel number) (λ row same. cc))
  where
    by : (o : Option KernelRec) → row_of_item (option_map item.Kernel o) ≡ None
    by None = refl
    by (Some value) = refl
row_there c (name.Space number) = by (stored.content_of space_rec.name_of c.spaces (name.Space number)) ∙ sym (no_content row_name c.rows.kept (name.Space number) (λ row same. cc))
  where
    by : (o : Option SpaceRec) → row_of_item (option_map item.Space o) ≡ None
    by None = refl
    by (Some value) = refl
row_there c (name.Thread number) = by (stored.content_of thread_rec.name_of c.threads (name.Thread number)) ∙ sym (no_content row_name c.rows.kept (name.Thread number) (λ row same. cc))
  where
    by : (o : Option ThreadRec) → row_of_item (option_map item.Thread o) ≡ None
    by None = refl
    by (Some value) = refl
row_there c (name.Mapping space vpn) = shows_row (stored.content_of row_name c.rows.kept (name.Mapping space vpn))

-- a row that a name shows has that name
pub row_has_name : (c : Contents) (name : Name) (row : Row) → row_of_item (content_of c name) ≡ Some row → row_name row ≡ name
row_has_name c name row is = content_has_name row_name c.rows.kept name row (sym (row_there c name) ∙ is)

-- exactly the numbers below the count have a value
pub record AreCounted {Y : Type 0} (f : ℕ → Option Y) (count : ℕ) : Type 0 where
  pub there : AreThere f 0 count
  pub none : (n : ℕ) → count ≤ n → f n ≡ None

module _ {T Y : Type 0} (called : T → Name) (named : ℕ → Name) (one : (m n : ℕ) → named m ≡ named n → m ≡ n) (store : stored.Kept T) (count : ℕ) (numbered : IsNumbered called named store count) where
  mapped_some : (value : T → Y) (o : Option T) → IsSome o → IsSome (option_map value o)
  mapped_some value None some = absurd (false≢true some)
  mapped_some value (Some x) some = refl

  counted : (f : ℕ → Option Y) (value : T → Y) → ((n : ℕ) → f n ≡ option_map value (stored.content_of called store (named n))) → AreCounted f count
  counted f value is = record {
    there = λ n least below. subst (λ o. IsSome o) (sym (is n)) (mapped_some value (stored.content_of called store (named n)) (numbered.stands n (omega (arith, below))));
    none = λ n past. is n ∙ ap (option_map value) (not_some (stored.content_of called store (named n)) (λ some.
        let other = numbered.only (named n) some in
        absurd (omega (arith, past, other.1, one n other.0 other.2))));
  }

abbrev pub number_in : Name → ℕ
number_in (name.Kernel number) = number.0
number_in (name.Space number) = number.0
number_in (name.Thread number) = number.0
number_in (name.Mapping space vpn) = 0

pub one_kernel : (m n : ℕ) → kernel_named m ≡ kernel_named n → m ≡ n
one_kernel m n same = ap number_in same

pub one_space : (m n : ℕ) → space_named m ≡ space_named n → m ≡ n
one_space m n same = ap number_in same

pub one_thread : (m n : ℕ) → thread_named m ≡ thread_named n → m ≡ n
one_thread m n same = ap number_in same

module _ (c : Contents) (one : IsExactlyOne c) where
  -- exactly the names below the count of a kind show something of it
  pub kernels_counted : AreCounted (λ n. kernel_of (content_of c (kernel_named n))) c.kernel_count
  kernels_counted = counted kernel_rec.name_of kernel_named one_kernel c.kernels c.kernel_count one.sound.kernel_names (λ n. kernel_of (content_of c (kernel_named n))) flat_kernel (λ n. shows_kernel (stored.content_of kernel_rec.name_of c.kernels (kernel_named n)))

  pub spaces_counted : AreCounted (λ n. space_of (content_of c (space_named n))) c.space_count
  spaces_counted = counted space_rec.name_of space_named one_space c.spaces c.space_count one.sound.space_names (λ n. space_of (content_of c (space_named n))) (λ space. space.kernel) (λ n. shows_space (stored.content_of space_rec.name_of c.spaces (space_named n)))

  pub threads_counted : AreCounted (λ n. thread_of (content_of c (thread_named n))) c.thread_count
  threads_counted = counted thread_rec.name_of thread_named one_thread c.threads c.thread_count one.sound.thread_names (λ n. thread_of (content_of c (thread_named n))) flat_thread (λ n. shows_thread (stored.content_of thread_rec.name_of c.threads (thread_named n)))

  -- a row is shown under each name of a row
  pub row_named : (name : Name) → IsSome (row_of_item (content_of c name)) → IsSome (stored.content_of row_name c.rows.kept name)
  row_named name some = subst (λ o. IsSome o) (row_there c name) some
