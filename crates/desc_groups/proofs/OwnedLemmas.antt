-- The record of the kernel that owns what is loaded.
use Rattle.std.proofs.Common.{◌≡◌, List, Contains, Some, sym, ◌∙◌, ap}
use Rattle.cache_ident.specs.declared.idents.Ident.{Ident}
use Rattle.cache_ident.specs.declared.idents.Kind.{Kind}
use Rattle.cache_ident.specs.declared.idents.Standing.TheVariants.{Live}
use Rattle.cache_ident.specs.declared.names.Caps.{Caps}
use Rattle.cache_ident.specs.declared.names.KernelNo.{KernelNo}
use Rattle.cache_ident.specs.declared.names.Name.TheVariants as name
use Rattle.cache_ident.specs.Names.{amount_of}
use Rattle.cache_ident.specs.Residents.{Resident}
use Rattle.cache_ident.specs.Rolls.{standing_in}
use Rattle.depend_lists.specs.declared.nodes.Node.{Node}
use Rattle.desc_parents.specs.flat_state.specs.Dependence.{owner}
use Rattle.desc_parents.specs.run_journal.specs.Legal.{locked_by}
use Rattle.desc_parents.specs.kernel_cache.specs.declared.KernelRec.{KernelRec}
use Rattle.desc_parents.specs.desc_stores.specs.declared.items.Item.TheVariants as item
use Rattle.desc_parents.specs.desc_stores.specs.Contents.{content_of, resident_as, residents_of, Contents}
use Rattle.desc_parents.specs.store_residents.proofs.KindLemmas.{live_loaded}
use Rattle.desc_parents.specs.store_residents.proofs.ResidentLemmas.{loaded_resident}
use Rattle.desc_parents.specs.Seen.{seen}
use Rattle.desc_groups.specs.Whole.{AreWhole}
use Rattle.desc_groups.proofs.OwnerLemmas.{kernel_there, owner_stands}

-- what is loaded with an identifier, and the record of its owner, which has its counts
pub record HasOwner (c : Contents) (ident : Ident) (kernel : KernelNo) : Type 0 where
  pub resident : Resident
  pub loaded : resident_as c ident ≡ Some resident
  pub there : Contains (residents_of c) resident
  pub was : KernelRec
  pub no : was.no ≡ kernel
  pub content : content_of c (name.Kernel kernel) ≡ Some (item.Kernel was)
  pub its_content : content_of c (name.Kernel was.no) ≡ Some (item.Kernel was)
  pub owned : owner (seen c) resident.name ≡ Some was.no
  pub counts : (of : Kind) → amount_of was.locked of ≡ locked_by (seen c) (residents_of c) kernel of

pub owner_there : (c : Contents) (caps : Caps) (pairs : List (Ident × Node)) → AreWhole caps c pairs → (ident : Ident) (kernel : KernelNo) → standing_in c.issued ident ≡ Live → ((r : Resident) → resident_as c ident ≡ Some r → owner (seen c) r.name ≡ Some kernel) → HasOwner c ident kernel
owner_there c caps pairs whole ident kernel live owned =
    let l = live_loaded c whole.one.sound ident live in
    let there = loaded_resident c whole.one.sound ident l.0 l.1 in
    let stands = owner_stands (seen c) (residents_of c) whole.good l.0 there kernel (owned l.0 l.1) in
    let k = kernel_there c whole.one kernel stands in
    record {
      resident = l.0;
      loaded = l.1;
      there = there;
      was = k.0;
      no = k.2;
      content = k.1;
      its_content = ap (λ (n : KernelNo). content_of c (name.Kernel n)) k.2 ∙ k.1;
      owned = owned l.0 l.1 ∙ ap Some (sym k.2);
      counts = λ of. whole.counted (name.Kernel kernel) k.0 k.1 of ∙ ap (λ (n : KernelNo). locked_by (seen c) (residents_of c) n of) k.2;
    }
