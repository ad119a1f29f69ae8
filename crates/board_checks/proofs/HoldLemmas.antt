-- What is so of what a lock, or its end, isn't refused for.
use Rattle.std.proofs.Common.{◌≡◌, ◌≢◌, ℕ, ◌<◌, ◌≤◌, Bool, true, false, List, Contains, Some, None, sym, ◌∙◌, ap, subst, arith}
use Rattle.std.specs.Prelude.{◌==◌, if◌then◌else◌}
use Rattle.std.specs.Option.{option_and_then}
use Rattle.std.proofs.lemmas.Bool.{eq-eqb, eqb-false, false≢true, ne_eqb}
use Rattle.std.proofs.lemmas.Option.{same_Some}
use Rattle.cache_ident.specs.declared.idents.Ident.{Ident}
use Rattle.cache_ident.specs.declared.idents.Kind.{Kind}
use Rattle.cache_ident.specs.declared.names.KernelNo.{KernelNo}
use Rattle.cache_ident.specs.declared.names.Name.{Name}
use Rattle.cache_ident.specs.declared.names.Name.TheVariants as name
use Rattle.cache_ident.specs.Names.{amount_of, first_name}
use Rattle.cache_ident.specs.Residents.{Resident, IsResident}
use Rattle.board_ops.specs.depend_lists.specs.declared.nodes.Node.{Node}
use Rattle.kernel_cache.specs.declared.KernelRec.{KernelRec}
use Rattle.board_ops.specs.flat_state.specs.Dependence.{owner}
use Rattle.board_ops.specs.flat_state.specs.Names.{stands}
use Rattle.desc_tables.specs.run_journal.specs.Legal.{limit_of, locked_by}
use Rattle.kind_store.specs.Changes.{is_name}
use Rattle.kind_store.specs.owner_shelf.proofs.NameLemmas.{eq_same}
use Rattle.desc_tables.specs.desc_stores.specs.declared.items.Item.TheVariants as item
use Rattle.desc_tables.specs.desc_stores.specs.Contents.{content_of, resident_as, residents_of, Contents, LockIs}
use Rattle.desc_tables.specs.shown_state.proofs.ContentLemmas.{item_has_name}
use Rattle.desc_tables.specs.store_residents.proofs.ResidentLemmas.{loaded_resident, resident_loaded}
use Rattle.desc_tables.specs.desc_parents.specs.Seen.{seen}
use Rattle.desc_tables.specs.desc_groups.specs.Moves.{MayBeLocked}
use Rattle.desc_tables.specs.desc_groups.proofs.OwnerLemmas.{kernel_there, limit_is, owner_stands}
use Rattle.desc_tables.specs.Tables.{AreSound, Held}
use Rattle.board_ops.specs.declared.refusals.Refused.TheVariants as why
use Rattle.board_checks.specs.Identifiers.{name_as}
use Rattle.board_checks.specs.Refusals.{at_limit, first_kernel, is_first_kernel, limit_reached, limit_reached_by, not_owned, not_owned_as}
use Rattle.board_checks.proofs.FirstLemmas.{passes_unless}

module _ (c : Contents) (ident : Ident) (n : Name) (is : name_as c ident ≡ Some n) where
  -- the tests of a name are those of what is loaded with the identifier
  pub owned_tested : (caller : Ident) → not_owned c caller n ≡ not_owned_as c caller ident
  owned_tested caller = ap (option_and_then (not_owned c caller)) (sym is)

  pub first_tested : is_first_kernel n ≡ first_kernel c ident
  unfolding first_kernel
  first_tested = ap (option_and_then is_first_kernel) (sym is)

-- a resident is loaded with its identifier
pub held_as : (c : Contents) (ident : Ident) (n : Name) (r : IsResident (residents_of c) ident n) → resident_as c ident ≡ Some r.0
held_as c ident n r = subst (λ (i : Ident). resident_as c i ≡ Some r.0) r.2 (resident_loaded c r.0 r.1)

-- what isn't refused as the first kernel is another one
pub another_if : (n : Name) → None ≡ is_first_kernel n → n ≢ first_name
another_if n passes same = false≢true (sym (passes_unless (is_name n first_name) why.FirstKernel passes) ∙ eq_same n first_name same)

abbrev number_of : Name → KernelNo → KernelNo
number_of (name.Kernel kernel) other = kernel
number_of _ other = other

module _ (held : Held) (pairs : List (Ident × Node)) (sound : AreSound held pairs) where
  -- the kernel has locked what its record counts, and may lock what it says
  module _ (kernel : KernelNo) (found : KernelRec) (is : content_of held.contents (name.Kernel kernel) ≡ Some (item.Kernel found)) (of : Kind) where
    counted : amount_of found.locked of ≡ locked_by (seen held.contents) (residents_of held.contents) kernel of
    counted =
        let named : found.no ≡ kernel = ap (λ (n : Name). number_of n kernel) (item_has_name held.contents (name.Kernel kernel) (item.Kernel found) is) in
        sound.whole.counted (name.Kernel kernel) found is of ∙ ap (λ (k : KernelNo). locked_by (seen held.contents) (residents_of held.contents) k of) named

    limited : limit_of (seen held.contents) kernel of ≡ amount_of found.limits of
    limited = limit_is held.contents sound.whole.one kernel found is of

    within : locked_by (seen held.contents) (residents_of held.contents) kernel of ≤ limit_of (seen held.contents) kernel of
    within = let count = counted in let limit = limited in let most = sound.limited (name.Kernel kernel) found is of in omega arith

    -- so it is refused where it has locked no fewer
    pub left_tested : (locked limit : ℕ) → locked ≡ amount_of found.locked of → limit ≡ amount_of found.limits of → locked < limit → None ≡ at_limit held.contents of kernel
    unfolding at_limit
    left_tested locked limit locked_is limit_is fewer =
        let count = counted in
        let most = limited in
        let test : (locked_by (seen held.contents) (residents_of held.contents) kernel of == limit_of (seen held.contents) kernel of) ≡ false = ne_eqb _ _ (λ same. omega arith) in
        ap (λ (b : Bool). if b then Some (why.LimitReached kernel of (limit_of (seen held.contents) kernel of)) else None) (sym test)

    pub full_tested : (locked limit : ℕ) → locked ≡ amount_of found.locked of → limit ≡ amount_of found.limits of → limit ≤ locked → Some (why.LimitReached kernel of limit) ≡ at_limit held.contents of kernel
    unfolding at_limit
    full_tested locked limit locked_is limit_is no_fewer =
        let count = counted in
        let most = limited in
        let low = within in
        let test : (locked_by (seen held.contents) (residents_of held.contents) kernel of == limit_of (seen held.contents) kernel of) ≡ true = eq-eqb _ _ (omega arith) in
        ap (λ (n : ℕ). Some (why.LimitReached kernel of n)) (limit_is ∙ sym most)
        ∙ ap (λ (b : Bool). if b then Some (why.LimitReached kernel of (limit_of (seen held.contents) kernel of)) else None) (sym test)

  -- what isn't refused for the limit leaves one to lock
  left_if : (kernel : KernelNo) → stands (seen held.contents) (name.Kernel kernel) ≡ true → (of : Kind) → None ≡ at_limit held.contents of kernel → locked_by (seen held.contents) (residents_of held.contents) kernel of < limit_of (seen held.contents) kernel of
  unfolding at_limit
  left_if kernel there of passes =
      let found = kernel_there held.contents sound.whole.one kernel there in
      let low = within kernel found.0 found.1 of in
      let apart = eqb-false (locked_by (seen held.contents) (residents_of held.contents) kernel of) (limit_of (seen held.contents) kernel of) (passes_unless _ (why.LimitReached kernel of (limit_of (seen held.contents) kernel of)) passes) in
      omega arith

  module _ (ident : Ident) (r : Resident) (is : resident_as held.contents ident ≡ Some r) where
    there : Contains (residents_of held.contents) r
    there = loaded_resident held.contents sound.whole.one.sound ident r is

    -- the kernel that owns what is loaded stands
    pub owner_there : (kernel : KernelNo) → owner (seen held.contents) r.name ≡ Some kernel → stands (seen held.contents) (name.Kernel kernel) ≡ true
    owner_there kernel owned = owner_stands (seen held.contents) (residents_of held.contents) sound.whole.good r there kernel owned

    -- a lock is refused for what is loaded with the identifier
    reached_by : limit_reached_by held.contents ident r ≡ limit_reached held.contents ident
    unfolding limit_reached
    reached_by = ap (option_and_then (limit_reached_by held.contents ident)) (sym is)

    pub locked_tested : (b : Bool) → LockIs held.contents ident b → b ≡ true → None ≡ limit_reached held.contents ident
    locked_tested b lock set =
        ap (λ (b : Bool). if b then None else option_and_then (at_limit held.contents ident.kind) (owner (seen held.contents) r.name)) (sym (lock r is ∙ set))
        ∙ reached_by

    pub unlocked_tested : (b : Bool) → LockIs held.contents ident b → b ≡ false → option_and_then (at_limit held.contents ident.kind) (owner (seen held.contents) r.name) ≡ limit_reached held.contents ident
    unlocked_tested b lock unset =
        ap (λ (b : Bool). if b then None else option_and_then (at_limit held.contents ident.kind) (owner (seen held.contents) r.name)) (sym (lock r is ∙ unset))
        ∙ reached_by

    -- and where it isn't, it may be locked
    pub may_if : None ≡ limit_reached held.contents ident → MayBeLocked held.contents ident
    may_if passes other kernel held_as unlocked owned =
        let same : other ≡ r = same_Some other r (sym held_as ∙ is) in
        let its : owner (seen held.contents) r.name ≡ Some kernel = ap (λ (x : Resident). owner (seen held.contents) x.name) (sym same) ∙ owned in
        let free : r.locked ≡ false = ap (λ (x : Resident). x.locked) (sym same) ∙ unlocked in
        let tested : None ≡ at_limit held.contents ident.kind kernel =
        passes ∙ sym reached_by
        ∙ ap (λ (b : Bool). if b then None else option_and_then (at_limit held.contents ident.kind) (owner (seen held.contents) r.name)) free
        ∙ ap (option_and_then (at_limit held.contents ident.kind)) its in
        left_if kernel (owner_there kernel its) ident.kind tested
