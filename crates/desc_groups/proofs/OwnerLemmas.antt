-- Who owns what contents show, and to which class it belongs.
use Rattle.std.proofs.Common.{◌≡◌, ℕ, Bool, true, length, List, [], ◌++◌, map, Contains, Option, Some, None, is_some, IsSome, nat_lt, slice_get, refl, sym, ◌∙◌, ap, subst, arith}
use Rattle.std.specs.Prelude.{if◌then◌else◌, option_to_list}
use Rattle.std.proofs.lemmas.Option.{slice_get-get_or, slice_get_within}
use Rattle.std.proofs.lemmas.Bool.{lt-ltb}
use Rattle.std.specs.Option.{option_map}
use Rattle.cache_ident.specs.declared.classes.Class.{Class}
use Rattle.cache_ident.specs.declared.classes.Class.TheVariants as classes
use Rattle.cache_ident.specs.declared.names.KernelNo.{KernelNo}
use Rattle.cache_ident.specs.declared.names.Name.{Name}
use Rattle.cache_ident.specs.declared.names.Name.TheVariants as name
use Rattle.cache_ident.specs.declared.names.SpaceNo.{SpaceNo}
use Rattle.cache_ident.specs.declared.names.ThreadNo.{ThreadNo}
use Rattle.cache_ident.specs.declared.names.Vpn.{Vpn}
use Rattle.desc_parents.specs.flat_state.specs.declared.records.FlatKernel.{FlatKernel}
use Rattle.desc_parents.specs.flat_state.specs.declared.records.FlatThread.{FlatThread}
use Rattle.desc_parents.specs.flat_state.specs.State.{FlatState}
use Rattle.desc_parents.specs.flat_state.specs.Dependence.{owner, Depends, owner_of_row, owner_of_thread, parents, parents_of_found, signal_rows_of}
use Rattle.desc_parents.specs.flat_state.specs.Names.{class_of, class_of_row, stands}
use Rattle.desc_parents.specs.flat_laws.proofs.Members.{Contains-here}
use Rattle.desc_parents.specs.run_journal.specs.Groups.{HasParents}
use Rattle.desc_parents.specs.run_journal.specs.Legal.{limit_of, limits_in, AreGood}
use Rattle.phys_groups.specs.Translation.{row_of}
use Rattle.cache_ident.specs.declared.idents.Ident.{Ident}
use Rattle.cache_ident.specs.Residents.{Resident, IsNameResident}
use Rattle.desc_parents.specs.store_residents.proofs.ContentLemmas.{loaded_item}
use Rattle.phys_groups.specs.declared.rows.Row.{Row}
use Rattle.phys_groups.specs.Rows.{row_name}
use Rattle.desc_parents.specs.kernel_cache.specs.declared.KernelRec.{KernelRec}
use Rattle.desc_parents.specs.kernel_cache.specs.Kernels as kernel_rec
use Rattle.desc_parents.specs.space_cache.specs.declared.SpaceRec.{SpaceRec}
use Rattle.desc_parents.specs.thread_cache.specs.declared.ThreadRec.{ThreadRec}
use Rattle.cache_ident.specs.declared.idents.Kind.{Kind}
use Rattle.cache_ident.specs.Names.{amount_of}
use Rattle.desc_parents.specs.kind_store.specs.Kept as stored
use Rattle.desc_parents.specs.desc_stores.specs.declared.items.Item.{Item}
use Rattle.desc_parents.specs.desc_stores.specs.declared.items.Item.TheVariants as item
use Rattle.desc_parents.specs.desc_stores.specs.Contents.{content_of, item_as, resident_as, Contents}
use Rattle.desc_parents.specs.desc_stores.specs.Items.{name_of}
use Rattle.desc_parents.specs.desc_stores.specs.Sound.{IsExactlyOne}
use Rattle.desc_parents.specs.shown_state.specs.Shown.{kernel_of, row_of_item, space_of, thread_of}
use Rattle.desc_parents.specs.shown_state.proofs.ContentLemmas.{content_has_name, item_has_name}
use Rattle.desc_parents.specs.shown_state.proofs.LookupLemmas.{found_kernel, found_row, found_space, found_thread, name_stands}
use Rattle.desc_parents.specs.Seen.{seen}

-- the first kernel, if it is asked for
abbrev first_if : Bool → Option KernelNo
first_if b = if b then Some (record { 0 = 0 }) else None

-- the class of a content, and its owner
abbrev pub class_of_item : Item → Class
class_of_item (item.Kernel kernel) = classes.Kernel
class_of_item (item.Space space) = classes.Space
class_of_item (item.Thread thread) = classes.Thread
class_of_item (item.Mapping row) = class_of_row (Some row)

abbrev pub owner_of_item : FlatState → Item → Option KernelNo
owner_of_item s (item.Kernel kernel) = Some (record { 0 = 0 })
owner_of_item s (item.Space space) = Some space.kernel
owner_of_item s (item.Thread thread) = owner s (name.Space thread.space)
owner_of_item s (item.Mapping row) = owner s (name.Space row.space)

module _ (c : Contents) (one : IsExactlyOne c) where
  class_page : (row : Row) → content_of c (row_name row) ≡ Some (item.Mapping row) → class_of_row (Some row) ≡ class_of (seen c) (row_name row)
  unfolding class_of
  class_page row there = ap (λ (o : Option Item). class_of_row (row_of_item o)) (sym there) ∙ ap class_of_row (sym (found_row None [] c one row.space row.vpn))

  numbered_kernel : (number : KernelNo) → classes.Kernel ≡ class_of (seen c) (name.Kernel number)
  unfolding class_of
  numbered_kernel number = refl

  numbered_space : (number : SpaceNo) → classes.Space ≡ class_of (seen c) (name.Space number)
  unfolding class_of
  numbered_space number = refl

  numbered_thread : (number : ThreadNo) → classes.Thread ≡ class_of (seen c) (name.Thread number)
  unfolding class_of
  numbered_thread number = refl

  -- they are those of its name, where it stands
  pub class_as_item : (content : Item) → content_of c (name_of content) ≡ Some content → class_of_item content ≡ class_of (seen c) (name_of content)
  class_as_item (item.Kernel kernel) there = numbered_kernel kernel.no
  class_as_item (item.Space space) there = numbered_space space.no
  class_as_item (item.Thread thread) there = numbered_thread thread.no
  class_as_item (item.Mapping row) there = class_page row there

  owner_kernel : (kernel : KernelNo) → stands (seen c) (name.Kernel kernel) ≡ true → Some (record { 0 = 0 }) ≡ owner (seen c) (name.Kernel kernel)
  unfolding stands owner
  owner_kernel kernel there = by (slice_get (seen c).kernels kernel.0) refl there
    where
      by : (o : Option FlatKernel) → slice_get (seen c).kernels kernel.0 ≡ o → is_some o ≡ true → Some (record { 0 = 0 }) ≡ first_if (nat_lt kernel.0 (length (seen c).kernels))
      by None is some = absurd (cc)
      by (Some found) is some = sym (ap first_if (lt-ltb kernel.0 (length (seen c).kernels) (slice_get_within (seen c).kernels kernel.0 found is)))

  owner_space : (space : SpaceRec) → content_of c (name.Space space.no) ≡ Some (item.Space space) → Some space.kernel ≡ owner (seen c) (name.Space space.no)
  unfolding owner
  owner_space space there = ap space_of (sym there) ∙ sym (found_space None [] c one space.no.0)

  owner_thread : (thread : ThreadRec) → content_of c (name.Thread thread.no) ≡ Some (item.Thread thread) → owner (seen c) (name.Space thread.space) ≡ owner (seen c) (name.Thread thread.no)
  unfolding owner
  owner_thread thread there = ap (λ (o : Option Item). owner_of_thread (seen c) (thread_of o)) (sym there) ∙ ap (owner_of_thread (seen c)) (sym (found_thread None [] c one thread.no.0))

  owner_row : (row : Row) → content_of c (row_name row) ≡ Some (item.Mapping row) → owner (seen c) (name.Space row.space) ≡ owner (seen c) (row_name row)
  unfolding owner
  owner_row row there = ap (λ (o : Option Item). owner_of_row (seen c) (row_of_item o)) (sym there) ∙ ap (owner_of_row (seen c)) (sym (found_row None [] c one row.space row.vpn))

  pub owner_as_item : (content : Item) → content_of c (name_of content) ≡ Some content → owner_of_item (seen c) content ≡ owner (seen c) (name_of content)
  owner_as_item (item.Kernel kernel) there = owner_kernel kernel.no (name_stands None [] c one (name.Kernel kernel.no) ∙ ap is_some there)
  owner_as_item (item.Space space) there = owner_space space there
  owner_as_item (item.Thread thread) there = owner_thread thread there
  owner_as_item (item.Mapping row) there = owner_row row there

-- what a space, a thread and a row stand in is what they depend on
module _ (s : FlatState) where
  depends_on_kernel : (space : SpaceNo) (kernel : KernelNo) → slice_get s.spaces space.0 ≡ Some kernel → Depends s (name.Space space) (name.Kernel kernel)
  unfolding parents
  depends_on_kernel space kernel is = subst (λ (o : Option KernelNo). Contains (option_to_list (option_map name.Kernel o)) (name.Kernel kernel)) (sym is) (Contains-here (name.Kernel kernel) [])

  depends_on_space : (thread : ThreadNo) (found : FlatThread) → slice_get s.threads thread.0 ≡ Some found → Depends s (name.Thread thread) (name.Space found.space)
  unfolding parents
  depends_on_space thread found is = subst (λ (o : Option FlatThread). Contains (option_to_list (option_map (λ (t : FlatThread). name.Space t.space) o)) (name.Space found.space)) (sym is) (Contains-here (name.Space found.space) [])

  row_in_space : (space : SpaceNo) (vpn : Vpn) (found : Row) → row_of s.rows space vpn.0 ≡ Some found → Depends s (name.Mapping space vpn) (name.Space found.space)
  unfolding parents
  row_in_space space vpn found is = subst (λ (o : Option Row). Contains (parents_of_found s o) (name.Space found.space)) (sym is) (Contains-here (name.Space found.space) (option_to_list (option_map name.Thread found.receiver) ++ map row_name (signal_rows_of s found)))

-- what stands, with all that it depends on resident, has an owner
module _ (s : FlatState) (rs : List Resident) (good : AreGood s rs) where
  space_stands : (space : SpaceNo) → stands s (name.Space space) ≡ true → IsSome (slice_get s.spaces space.0)
  unfolding stands
  space_stands space there = there

  parent_stands : (space : SpaceNo) → IsNameResident rs (name.Space space) → IsSome (slice_get s.spaces space.0)
  parent_stands space parent = space_stands space (subst (λ (n : Name). stands s n ≡ true) parent.2 (good parent.0 parent.1).there)

  kernel_owned : (kernel : KernelNo) → stands s (name.Kernel kernel) ≡ true → IsSome (owner s (name.Kernel kernel))
  unfolding stands owner
  kernel_owned kernel there = by (slice_get s.kernels kernel.0) refl there
    where
      by : (o : Option FlatKernel) → slice_get s.kernels kernel.0 ≡ o → is_some o ≡ true → IsSome (first_if (nat_lt kernel.0 (length s.kernels)))
      by None is some = absurd (cc)
      by (Some found) is some = ap (λ (b : Bool). is_some (first_if b)) (lt-ltb kernel.0 (length s.kernels) (slice_get_within s.kernels kernel.0 found is))

  space_owned : (space : SpaceNo) → stands s (name.Space space) ≡ true → IsSome (owner s (name.Space space))
  unfolding stands owner
  space_owned space there = there

  thread_owned : (thread : ThreadNo) → stands s (name.Thread thread) ≡ true → HasParents s rs (name.Thread thread) → IsSome (owner s (name.Thread thread))
  unfolding stands owner
  thread_owned thread there has = by (slice_get s.threads thread.0) refl there
    where
      by : (o : Option FlatThread) → slice_get s.threads thread.0 ≡ o → is_some o ≡ true → IsSome (owner_of_thread s (slice_get s.threads thread.0))
      by None is some = absurd (cc)
      by (Some found) is some =
          subst (λ (o : Option FlatThread). IsSome (owner_of_thread s o)) (sym is) (parent_stands found.space (has (name.Space found.space) (depends_on_space s thread found is)))

  row_owned : (space : SpaceNo) (vpn : Vpn) → stands s (name.Mapping space vpn) ≡ true → HasParents s rs (name.Mapping space vpn) → IsSome (owner s (name.Mapping space vpn))
  unfolding stands owner
  row_owned space vpn there has = by (row_of s.rows space vpn.0) refl there
    where
      by : (o : Option Row) → row_of s.rows space vpn.0 ≡ o → is_some o ≡ true → IsSome (owner_of_row s (row_of s.rows space vpn.0))
      by None is some = absurd (cc)
      by (Some found) is some =
          subst (λ (o : Option Row). IsSome (owner_of_row s o)) (sym is) (parent_stands found.space (has (name.Space found.space) (row_in_space s space vpn found is)))

  pub resident_owned : (r : Resident) → Contains rs r → IsSome (owner s r.name)
  resident_owned r there = by r.name (good r there).there (good r there).parents
    where
      by : (n : Name) → stands s n ≡ true → HasParents s rs n → IsSome (owner s n)
      by (name.Kernel kernel) stands_there has = kernel_owned kernel stands_there
      by (name.Space space) stands_there has = space_owned space stands_there
      by (name.Thread thread) stands_there has = thread_owned thread stands_there has
      by (name.Mapping space vpn) stands_there has = row_owned space vpn stands_there has

-- and its owner stands
module _ (s : FlatState) (rs : List Resident) (good : AreGood s rs) where
  -- what a resident depends on stands, and has what it depends on resident
  there_stands : (n : Name) → IsNameResident rs n → stands s n ≡ true
  there_stands n parent = subst (λ (m : Name). stands s m ≡ true) parent.2 (good parent.0 parent.1).there

  there_has : (n : Name) → IsNameResident rs n → HasParents s rs n
  there_has n parent = subst (λ (m : Name). HasParents s rs m) parent.2 (good parent.0 parent.1).parents

  of_space : (space : SpaceNo) (kernel : KernelNo) → HasParents s rs (name.Space space) → slice_get s.spaces space.0 ≡ Some kernel → stands s (name.Kernel kernel) ≡ true
  of_space space kernel has is = there_stands (name.Kernel kernel) (has (name.Kernel kernel) (depends_on_kernel s space kernel is))

  of_kernel : (number kernel : KernelNo) → stands s (name.Kernel number) ≡ true → owner s (name.Kernel number) ≡ Some kernel → stands s (name.Kernel kernel) ≡ true
  unfolding stands owner
  of_kernel number kernel there is = by (slice_get s.kernels number.0) refl there
    where
      by : (o : Option FlatKernel) → slice_get s.kernels number.0 ≡ o → is_some o ≡ true → is_some (slice_get s.kernels kernel.0) ≡ true
      by None none some = absurd (cc)
      by (Some found) at some =
          let within = slice_get_within s.kernels number.0 found at in
          let test : first_if (nat_lt number.0 (length s.kernels)) ≡ first_if true = ap first_if (lt-ltb number.0 (length s.kernels) within) in
          let first : Some (record { 0 = 0 }) ≡ Some kernel = sym test ∙ is in
          let zero_is : 0 ≡ kernel.0 = ap number_of first in
          ap is_some (ap (slice_get s.kernels) (sym zero_is) ∙ slice_get-get_or s.kernels 0 found (omega (arith, within)))
        where
          number_of : Option KernelNo → ℕ
          number_of None = 0
          number_of (Some k) = k.0

  of_thread : (thread : ThreadNo) (kernel : KernelNo) → HasParents s rs (name.Thread thread) → owner s (name.Thread thread) ≡ Some kernel → stands s (name.Kernel kernel) ≡ true
  unfolding owner
  of_thread thread kernel has is = by (slice_get s.threads thread.0) refl is
    where
      by : (o : Option FlatThread) → slice_get s.threads thread.0 ≡ o → owner_of_thread s o ≡ Some kernel → stands s (name.Kernel kernel) ≡ true
      by None at none = absurd (cc)
      by (Some found) at own = of_space found.space kernel (there_has (name.Space found.space) (has (name.Space found.space) (depends_on_space s thread found at))) own

  of_row : (space : SpaceNo) (vpn : Vpn) (kernel : KernelNo) → HasParents s rs (name.Mapping space vpn) → owner s (name.Mapping space vpn) ≡ Some kernel → stands s (name.Kernel kernel) ≡ true
  unfolding owner
  of_row space vpn kernel has is = by (row_of s.rows space vpn.0) refl is
    where
      by : (o : Option Row) → row_of s.rows space vpn.0 ≡ o → owner_of_row s o ≡ Some kernel → stands s (name.Kernel kernel) ≡ true
      by None at none = absurd (cc)
      by (Some found) at own = of_space found.space kernel (there_has (name.Space found.space) (has (name.Space found.space) (row_in_space s space vpn found at))) own

  of_space_itself : (space : SpaceNo) (kernel : KernelNo) → HasParents s rs (name.Space space) → owner s (name.Space space) ≡ Some kernel → stands s (name.Kernel kernel) ≡ true
  unfolding owner
  of_space_itself space kernel has is = of_space space kernel has is

  pub owner_stands : (r : Resident) → Contains rs r → (kernel : KernelNo) → owner s r.name ≡ Some kernel → stands s (name.Kernel kernel) ≡ true
  owner_stands r there kernel is = by r.name (good r there).there (good r there).parents is
    where
      by : (n : Name) → stands s n ≡ true → HasParents s rs n → owner s n ≡ Some kernel → stands s (name.Kernel kernel) ≡ true
      by (name.Kernel number) stands_there has own = of_kernel number kernel stands_there own
      by (name.Space space) stands_there has own = of_space_itself space kernel has own
      by (name.Thread thread) stands_there has own = of_thread thread kernel has own
      by (name.Mapping space vpn) stands_there has own = of_row space vpn kernel has own

module _ (c : Contents) (one : IsExactlyOne c) where
  -- a kernel that stands has a record of its number
  pub kernel_there : (kernel : KernelNo) → stands (seen c) (name.Kernel kernel) ≡ true → (was : KernelRec) × (content_of c (name.Kernel kernel) ≡ Some (item.Kernel was)) × (was.no ≡ kernel)
  kernel_there kernel there = by (stored.content_of kernel_rec.name_of c.kernels (name.Kernel kernel)) refl (sym (name_stands None [] c one (name.Kernel kernel)) ∙ there)
    where
      by : (o : Option KernelRec) → stored.content_of kernel_rec.name_of c.kernels (name.Kernel kernel) ≡ o → is_some (option_map item.Kernel (stored.content_of kernel_rec.name_of c.kernels (name.Kernel kernel))) ≡ true → (was : KernelRec) × (content_of c (name.Kernel kernel) ≡ Some (item.Kernel was)) × (was.no ≡ kernel)
      by None none some = absurd (let never : is_some (option_map {U = Item} item.Kernel None) ≡ true = subst (λ (o : Option KernelRec). is_some (option_map item.Kernel o) ≡ true) none some in cc)
      by (Some was) at some =
          let named = content_has_name kernel_rec.name_of c.kernels (name.Kernel kernel) was at in
          (was, ap (option_map item.Kernel) at, cc)

  -- and its limits are those that are seen
  pub limit_is : (kernel : KernelNo) (was : KernelRec) → content_of c (name.Kernel kernel) ≡ Some (item.Kernel was) → (of : Kind) → limit_of (seen c) kernel of ≡ amount_of was.limits of
  limit_is kernel was there of = ap (λ (o : Option FlatKernel). amount_of (limits_in o) of) (found_kernel None [] c one kernel.0 ∙ ap kernel_of there)

-- what is found with an identifier is the content of what is loaded with it
pub found_loaded : (c : Contents) → IsExactlyOne c → (ident : Ident) (r : Resident) (content : Item) → resident_as c ident ≡ Some r → Some content ≡ item_as c ident → (name_of content ≡ r.name) × (content_of c (name_of content) ≡ Some content)
found_loaded c one ident r content loaded there =
    let found = loaded_item c one ident r loaded in
    let is : content_of c r.name ≡ Some content = found.2 ∙ sym found.1 ∙ sym there in
    let named = item_has_name c r.name content is in
    (named, ap (content_of c) named ∙ is)
