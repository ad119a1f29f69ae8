-- Identifiers of what is loaded pass the tests of a call, and stand for what they name.
use Rattle.std.proofs.Common.{◌≡◌, Bool, Option, Some, None, IsSome, refl, sym, ap, ◌∙◌, subst, true}
use Rattle.std.specs.Prelude.{if◌then◌else◌}
use Rattle.std.specs.Option.{option_and_then, option_map, option_or}
use Rattle.std.proofs.lemmas.Bool.{eq-eqb}
use Rattle.cache_ident.specs.declared.idents.Ident.{Ident}
use Rattle.cache_ident.specs.declared.idents.Kind.{Kind}
use Rattle.cache_ident.specs.declared.idents.Kind.TheVariants as kind
use Rattle.cache_ident.specs.declared.idents.Standing.{Standing}
use Rattle.cache_ident.specs.declared.names.KernelNo.{KernelNo}
use Rattle.cache_ident.specs.declared.names.Name.{Name}
use Rattle.cache_ident.specs.declared.names.Name.TheVariants as name
use Rattle.cache_ident.specs.declared.names.SpaceNo.{SpaceNo}
use Rattle.cache_ident.specs.declared.names.ThreadNo.{ThreadNo}
use Rattle.cache_ident.specs.Names.{kind_of}
use Rattle.cache_ident.specs.Residents.{Resident, IsResident}
use Rattle.board_loads.specs.flat_state.specs.Dependence.{owner}
use Rattle.board_loads.specs.flat_state.specs.Names.{stands}
use Rattle.board_threads.specs.run_journal.specs.Legal.{is_kind}
use Rattle.board_threads.specs.run_journal.proofs.KindLemmas.{is_kind-refl}
use Rattle.board_loads.specs.kernel_cache.specs.Kernels as kernel_rec
use Rattle.board_loads.specs.kernel_cache.specs.declared.KernelRec.{KernelRec}
use Rattle.board_loads.specs.space_cache.specs.Spaces as space_rec
use Rattle.board_loads.specs.space_cache.specs.declared.SpaceRec.{SpaceRec}
use Rattle.board_loads.specs.kind_store.specs.Kept as stored
use Rattle.board_threads.specs.desc_stores.specs.declared.items.Item.{Item}
use Rattle.board_threads.specs.desc_stores.specs.declared.items.Item.TheVariants as item
use Rattle.board_threads.specs.desc_stores.specs.Contents.{content_of, item_as, residents_of, Contents}
use Rattle.board_threads.specs.desc_stores.specs.Items.{name_of}
use Rattle.board_threads.specs.desc_stores.specs.Sound.{IsExactlyOne}
use Rattle.board_loads.specs.desc_parents.specs.Seen.{seen}
use Rattle.board_threads.specs.store_residents.proofs.ContentLemmas.{resident_content, resident_item}
use Rattle.board_threads.specs.store_residents.proofs.ResidentLemmas.{live_iff, one_each, resident_kind}
use Rattle.board_threads.specs.board_ops.specs.declared.refusals.Refused.{Refused}
use Rattle.board_threads.specs.board_ops.specs.declared.refusals.Refused.TheVariants as why
use Rattle.board_threads.specs.board_checks.specs.Identifiers.{gone_by, not_a, not_live, space_as, wrong_kind}
use Rattle.board_threads.specs.board_checks.specs.Refusals.{not_declared, not_owned, not_owned_as, not_owner, refusal_of_thread}
use Rattle.board_threads.specs.board_checks.proofs.IdentifierLemmas.{item_resident, name_is, space_is}
use Rattle.board_threads.specs.board_checks.proofs.OwnerLemmas.{owner_tested}
use Rattle.board_threads.proofs.IdentLemmas.{record_named}

-- the first of two that doesn't come leaves the other
pub skip : (a b d : Option Refused) → a ≡ None → b ≡ d → option_or a b ≡ d
skip a b d passes rest = ap (λ (o : Option Refused). option_or o b) passes ∙ rest

-- the first of two is this one
pub first : (a b d : Option Refused) → a ≡ d → option_or a b ≡ option_or d b
first a b d is = ap (λ (o : Option Refused). option_or o b) is

-- the second of two is that one
pub second : (a b d : Option Refused) → b ≡ d → option_or a b ≡ option_or a d
second a b d is = ap (λ (o : Option Refused). option_or a o) is

pub owns_itself : (kernel : KernelNo) → not_owner kernel kernel ≡ None
owns_itself kernel = ap (λ (b : Bool). if b then None else Some (why.NotOwner kernel kernel)) (eq-eqb kernel.0 kernel.0 refl)

module _ (c : Contents) (one : IsExactlyOne c) where
  -- what is loaded with an identifier has the name under which it is resident
  pub item_named : (ident : Ident) (n : Name) → IsResident (residents_of c) ident n → (it : Item) → item_as c ident ≡ Some it → name_of it ≡ n
  item_named ident n r it is =
      let q = item_resident c ident one it is in
      let same : q.0 ≡ r.0 = (one_each c one).idents q.0 r.0 q.1 r.1 (q.2 ∙ sym r.2) in
      sym q.3 ∙ ap (λ (x : Resident). x.name) same ∙ r.3

  -- its identifier is one of its kind
  pub passes : (of : Kind) (ident : Ident) (n : Name) → kind_of n ≡ of → IsResident (residents_of c) ident n → not_a of c ident ≡ None
  unfolding not_live wrong_kind
  passes of ident n its r =
      let live = (live_iff c one.sound ident).1 (r.0, r.1, r.2) in
      let own : ident.kind ≡ of = ap (λ (i : Ident). i.kind) (sym r.2) ∙ resident_kind c one.sound r.0 r.1 ∙ ap kind_of r.3 ∙ its in
      ap (λ (s : Standing). option_or (gone_by ident s) (if is_kind ident.kind of then None else Some (why.WrongKind ident))) live
      ∙ ap (λ (k : Kind). if is_kind k of then None else Some (why.WrongKind ident)) own
      ∙ ap (λ (b : Bool). if b then None else Some (why.WrongKind ident)) (is_kind-refl of)

  -- ---- a kernel and a space

  kernel_there : (o : Option KernelRec) → IsSome (option_map item.Kernel o) → (k : KernelRec) × (option_map item.Kernel o ≡ Some (item.Kernel k))
  kernel_there None there = absurd (cc)
  kernel_there (Some k) there = (k, refl)

  kernel_record : (ident : Ident) (kernel : KernelNo) → IsResident (residents_of c) ident (name.Kernel kernel) → (k : KernelRec) × (item_as c ident ≡ Some (item.Kernel k)) × (k.no ≡ kernel)
  kernel_record ident kernel r =
      let found = kernel_there (stored.content_of kernel_rec.name_of c.kernels (name.Kernel kernel)) (subst (λ (n : Name). IsSome (content_of c n)) r.3 (resident_content c one r.0 r.1)) in
      let is : item_as c ident ≡ Some (item.Kernel found.0) = ap (item_as c) (sym r.2) ∙ resident_item c one r.0 r.1 ∙ ap (content_of c) r.3 ∙ found.1 in
      let named : name.Kernel found.0.no ≡ name.Kernel kernel = item_named ident (name.Kernel kernel) r (item.Kernel found.0) is in
      (found.0, is, (cc))

  space_there : (o : Option SpaceRec) → IsSome (option_map item.Space o) → (k : SpaceRec) × (option_map item.Space o ≡ Some (item.Space k))
  space_there None there = absurd (cc)
  space_there (Some k) there = (k, refl)

  pub space_record : (ident : Ident) (space : SpaceNo) → IsResident (residents_of c) ident (name.Space space) → (k : SpaceRec) × (item_as c ident ≡ Some (item.Space k)) × (k.no ≡ space)
  space_record ident space r =
      let found = space_there (stored.content_of space_rec.name_of c.spaces (name.Space space)) (subst (λ (n : Name). IsSome (content_of c n)) r.3 (resident_content c one r.0 r.1)) in
      let is : item_as c ident ≡ Some (item.Space found.0) = ap (item_as c) (sym r.2) ∙ resident_item c one r.0 r.1 ∙ ap (content_of c) r.3 ∙ found.1 in
      let named : name.Space found.0.no ≡ name.Space space = item_named ident (name.Space space) r (item.Space found.0) is in
      (found.0, is, (cc))

  pub space_given : (parent : Ident) (space : SpaceNo) → IsResident (residents_of c) parent (name.Space space) → space_as c parent ≡ Some space
  space_given parent space r =
      let k = space_record parent space r in
      space_is c parent k.0 k.1 ∙ ap (λ (x : SpaceNo). Some x) k.2

  -- ---- owners, and what stands

  pub owned : (caller : Ident) (given kernel : KernelNo) (n : Name) → IsResident (residents_of c) caller (name.Kernel given) → owner (seen c) n ≡ Some kernel → not_owned c caller n ≡ not_owner given kernel
  owned caller given kernel n r its =
      let k = kernel_record caller given r in
      sym (owner_tested c caller k.0 k.1 n)
      ∙ ap (option_and_then (not_owner k.0.no)) its
      ∙ ap (λ (no : KernelNo). not_owner no kernel) k.2

  pub stands_so : (n : Name) → stands (seen c) n ≡ true → not_declared c n ≡ None
  unfolding not_declared
  stands_so n there = ap (λ (b : Bool). if b then None else Some (why.NotDeclared n)) there

  -- ---- a call for a thread

  -- it is refused where the caller isn't its owner
  pub thread_tested : (caller ident : Ident) (given kernel : KernelNo) (thread : ThreadNo) → IsResident (residents_of c) caller (name.Kernel given) → IsResident (residents_of c) ident (name.Thread thread) → owner (seen c) (name.Thread thread) ≡ Some kernel → refusal_of_thread c caller ident ≡ not_owner given kernel
  thread_tested caller ident given kernel thread r q of =
      let found = record_named c one ident thread q in
      let named : name_of (item.Thread found.0) ≡ name.Thread thread = item_named ident (name.Thread thread) q (item.Thread found.0) found.1 in
      let mine : not_owned_as c caller ident ≡ not_owner given kernel =
      ap (option_and_then (not_owned c caller)) (name_is c ident (item.Thread found.0) found.1) ∙ ap (not_owned c caller) named ∙ owned caller given kernel (name.Thread thread) r of in
      skip _ _ _ (passes kind.Kernel caller (name.Kernel given) refl r)
      (skip _ _ _ (passes kind.Thread ident (name.Thread thread) refl q) mine)
