use Rattle.std.proofs.Common.{◌∙◌, ◌<◌, false, ap, sym, subst, refl}
use Rattle.cache_ident.specs.declared.idents.Ident.{Ident}
use Rattle.cache_ident.specs.declared.names.Name.TheVariants as name
use Rattle.cache_ident.specs.Names.{amount_of}
use Rattle.desc_parents.specs.run_journal.specs.Legal.{locked_by}
use Rattle.desc_parents.specs.desc_stores.specs.Contents.{resident_as, residents_of}
use Rattle.desc_parents.specs.Seen.{seen}
use Rattle.desc_groups.specs.Moves.{counted_down}
use Rattle.desc_parents.specs.group_laws.proofs.LockCounts.{locked_already}
use Rattle.desc_parents.specs.store_residents.proofs.KindLemmas.{at_as}
use Rattle.desc_parents.specs.store_residents.proofs.ResidentLemmas.{resident_loaded}
use Rattle.desc_groups.proofs.OwnedLemmas.{owner_there, HasOwner}
use Rattle.desc_groups.proofs.LockLemmas.{relocked_issued, relocked_kept, relocked_residents, unlocked_step, unlocked_whole}
use Rattle.desc_groups.proofs.CountLemmas.{counted_some}
use Rattle.desc_groups.proofs.locks.unlock.Goals as goal

pub count_down-requires : goal.count_down-requires
count_down-requires c =
    let s = c.args.stores.now in
    let whole = c.requires.whole.2 in
    let kernel = c.owner_by-owner.result in
    let o : HasOwner s c.args.ident kernel = owner_there s c.requires.whole.0 c.requires.whole.1 whole c.args.ident kernel c.requires.live c.owner_by-owner.ensures in
    let locked = c.is_locked.ensures o.resident o.loaded ∙ c.if-is_locked.true in
    let m = c.unlock.new.self in
    let there = c.unlock.ensures.contents (name.Kernel o.was.no) ∙ o.its_content in
    let own = (at_as s c.args.ident o.resident o.loaded).1 in
    let step = unlocked_step s m m c.args.ident c.unlock.ensures.contents o.resident o.loaded o.was there o.owned c.requires.whole.0 c.requires.whole.1 whole c.unlock.ensures.residents locked o.was.no o.resident.ident.kind in
    let some = counted_some (seen s) s m whole.counted c.unlock.ensures.contents o.resident o.was (locked_by (seen s) (residents_of m) o.was.no o.resident.ident.kind) there o.owned locked step in
    (o.was, c.unlock.ensures.contents (name.Kernel kernel) ∙ o.content, subst (λ (i : Ident). 0 < amount_of o.was.locked i.kind) own some)

pub returns-then-is_locked-clause-whole : goal.returns-then-is_locked-clause-whole
returns-then-is_locked-clause-whole c =
    let s = c.args.stores.now in
    let whole = c.requires.whole.2 in
    let kernel = c.owner_by-owner.result in
    let o : HasOwner s c.args.ident kernel = owner_there s c.requires.whole.0 c.requires.whole.1 whole c.args.ident kernel c.requires.live c.owner_by-owner.ensures in
    let m = c.unlock.new.self in
    let n = c.count_down.new.stores in
    let there = c.unlock.ensures.contents (name.Kernel o.was.no) ∙ o.its_content in
    let puts = c.count_down.ensures o.was (c.unlock.ensures.contents (name.Kernel kernel) ∙ o.content) in
    let locked = c.is_locked.ensures o.resident o.loaded ∙ c.if-is_locked.true in
    unlocked_whole s m n c.args.ident c.unlock.ensures.contents o.resident o.loaded o.was there o.owned c.unlock.ensures.residents c.unlock.ensures.after locked puts c.each_is_one.ensures

pub returns-then-is_locked-clause-residents : goal.returns-then-is_locked-clause-residents
returns-then-is_locked-clause-residents c =
    let s = c.args.stores.now in
    let whole = c.requires.whole.2 in
    let kernel = c.owner_by-owner.result in
    let o : HasOwner s c.args.ident kernel = owner_there s c.requires.whole.0 c.requires.whole.1 whole c.args.ident kernel c.requires.live c.owner_by-owner.ensures in
    let m = c.unlock.new.self in
    let n = c.count_down.new.stores in
    let there = c.unlock.ensures.contents (name.Kernel o.was.no) ∙ o.its_content in
    let puts = c.count_down.ensures o.was (c.unlock.ensures.contents (name.Kernel kernel) ∙ o.content) in
    relocked_residents s m n c.args.ident false c.unlock.ensures.contents c.unlock.ensures.residents c.unlock.ensures.after o.was (counted_down c.args.ident.kind o.was) there refl puts

pub returns-then-is_locked-clause-issued : goal.returns-then-is_locked-clause-issued
returns-then-is_locked-clause-issued c =
    let s = c.args.stores.now in
    let whole = c.requires.whole.2 in
    let kernel = c.owner_by-owner.result in
    let o : HasOwner s c.args.ident kernel = owner_there s c.requires.whole.0 c.requires.whole.1 whole c.args.ident kernel c.requires.live c.owner_by-owner.ensures in
    let m = c.unlock.new.self in
    let n = c.count_down.new.stores in
    let there = c.unlock.ensures.contents (name.Kernel o.was.no) ∙ o.its_content in
    let puts = c.count_down.ensures o.was (c.unlock.ensures.contents (name.Kernel kernel) ∙ o.content) in
    relocked_issued s m n c.args.ident false c.unlock.ensures.contents c.unlock.ensures.residents c.unlock.ensures.after o.was (counted_down c.args.ident.kind o.was) there refl puts

pub returns-then-is_locked-clause-kept : goal.returns-then-is_locked-clause-kept
returns-then-is_locked-clause-kept c =
    let s = c.args.stores.now in
    let whole = c.requires.whole.2 in
    let kernel = c.owner_by-owner.result in
    let o : HasOwner s c.args.ident kernel = owner_there s c.requires.whole.0 c.requires.whole.1 whole c.args.ident kernel c.requires.live c.owner_by-owner.ensures in
    let m = c.unlock.new.self in
    let n = c.count_down.new.stores in
    let there = c.unlock.ensures.contents (name.Kernel o.was.no) ∙ o.its_content in
    let puts = c.count_down.ensures o.was (c.unlock.ensures.contents (name.Kernel kernel) ∙ o.content) in
    relocked_kept s m n c.args.ident false c.unlock.ensures.contents c.unlock.ensures.residents c.unlock.ensures.after o.was (counted_down c.args.ident.kind o.was) there refl puts

pub returns-else-is_locked-clause-residents : goal.returns-else-is_locked-clause-residents
returns-else-is_locked-clause-residents c =
    let s = c.args.stores.now in
    sym (locked_already c.args.ident false (residents_of s) (λ r there same. c.is_locked.ensures r (ap (resident_as s) (sym same) ∙ resident_loaded s r there) ∙ c.if-is_locked.false))
