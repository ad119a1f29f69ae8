use Rattle.std.proofs.Common.{◌∙◌, ◌<◌, true, ap, sym, refl, arith}
use Rattle.cache_ident.specs.declared.names.Name.TheVariants as name
use Rattle.cache_ident.specs.Names.{amount_of}
use Rattle.desc_parents.specs.run_journal.specs.Legal.{limit_of, locked_by}
use Rattle.desc_parents.specs.desc_stores.specs.Contents.{resident_as, residents_of}
use Rattle.desc_parents.specs.Seen.{seen}
use Rattle.desc_groups.specs.Moves.{counted_up}
use Rattle.desc_parents.specs.group_laws.proofs.LockCounts.{locked_already}
use Rattle.desc_parents.specs.store_residents.proofs.ResidentLemmas.{resident_loaded}
use Rattle.desc_groups.proofs.OwnedLemmas.{owner_there, HasOwner}
use Rattle.desc_groups.proofs.LockLemmas.{locked_whole, relocked_issued, relocked_kept, relocked_residents}
use Rattle.desc_groups.proofs.OwnerLemmas.{limit_is}
use Rattle.desc_groups.proofs.locks.lock.Goals as goal

pub count_up-requires : goal.count_up-requires
count_up-requires c =
    let s = c.args.stores.now in
    let whole = c.requires.whole.2 in
    let kernel = c.owner_by-owner.result in
    let o : HasOwner s c.args.ident kernel = owner_there s c.requires.whole.0 c.requires.whole.1 whole c.args.ident kernel c.requires.live c.owner_by-owner.ensures in
    let unlocked = c.is_locked.ensures o.resident o.loaded ∙ c.if-not-is_locked.true in
    let may : locked_by (seen s) (residents_of s) kernel c.args.ident.kind < limit_of (seen s) kernel c.args.ident.kind = c.requires.may o.resident kernel o.loaded unlocked (c.owner_by-owner.ensures o.resident o.loaded) in
    let below : amount_of o.was.locked c.args.ident.kind < amount_of o.was.limits c.args.ident.kind = omega (arith, may, o.counts c.args.ident.kind, limit_is s whole.one kernel o.was o.content c.args.ident.kind) in
    (o.was, c.lock.ensures.contents (name.Kernel kernel) ∙ o.content, below)

pub returns-then-not-is_locked-clause-whole : goal.returns-then-not-is_locked-clause-whole
returns-then-not-is_locked-clause-whole c =
    let s = c.args.stores.now in
    let whole = c.requires.whole.2 in
    let kernel = c.owner_by-owner.result in
    let o : HasOwner s c.args.ident kernel = owner_there s c.requires.whole.0 c.requires.whole.1 whole c.args.ident kernel c.requires.live c.owner_by-owner.ensures in
    let m = c.lock.new.self in
    let n = c.count_up.new.stores in
    let there = c.lock.ensures.contents (name.Kernel o.was.no) ∙ o.its_content in
    let puts = c.count_up.ensures o.was (c.lock.ensures.contents (name.Kernel kernel) ∙ o.content) in
    let unlocked = c.is_locked.ensures o.resident o.loaded ∙ c.if-not-is_locked.true in
    locked_whole s m n c.args.ident c.lock.ensures.contents o.resident o.loaded o.was there o.owned c.lock.ensures.residents c.lock.ensures.after unlocked puts c.each_is_one.ensures

pub returns-then-not-is_locked-clause-residents : goal.returns-then-not-is_locked-clause-residents
returns-then-not-is_locked-clause-residents c =
    let s = c.args.stores.now in
    let whole = c.requires.whole.2 in
    let kernel = c.owner_by-owner.result in
    let o : HasOwner s c.args.ident kernel = owner_there s c.requires.whole.0 c.requires.whole.1 whole c.args.ident kernel c.requires.live c.owner_by-owner.ensures in
    let m = c.lock.new.self in
    let n = c.count_up.new.stores in
    let there = c.lock.ensures.contents (name.Kernel o.was.no) ∙ o.its_content in
    let puts = c.count_up.ensures o.was (c.lock.ensures.contents (name.Kernel kernel) ∙ o.content) in
    relocked_residents s m n c.args.ident true c.lock.ensures.contents c.lock.ensures.residents c.lock.ensures.after o.was (counted_up c.args.ident.kind o.was) there refl puts

pub returns-then-not-is_locked-clause-issued : goal.returns-then-not-is_locked-clause-issued
returns-then-not-is_locked-clause-issued c =
    let s = c.args.stores.now in
    let whole = c.requires.whole.2 in
    let kernel = c.owner_by-owner.result in
    let o : HasOwner s c.args.ident kernel = owner_there s c.requires.whole.0 c.requires.whole.1 whole c.args.ident kernel c.requires.live c.owner_by-owner.ensures in
    let m = c.lock.new.self in
    let n = c.count_up.new.stores in
    let there = c.lock.ensures.contents (name.Kernel o.was.no) ∙ o.its_content in
    let puts = c.count_up.ensures o.was (c.lock.ensures.contents (name.Kernel kernel) ∙ o.content) in
    relocked_issued s m n c.args.ident true c.lock.ensures.contents c.lock.ensures.residents c.lock.ensures.after o.was (counted_up c.args.ident.kind o.was) there refl puts

pub returns-then-not-is_locked-clause-kept : goal.returns-then-not-is_locked-clause-kept
returns-then-not-is_locked-clause-kept c =
    let s = c.args.stores.now in
    let whole = c.requires.whole.2 in
    let kernel = c.owner_by-owner.result in
    let o : HasOwner s c.args.ident kernel = owner_there s c.requires.whole.0 c.requires.whole.1 whole c.args.ident kernel c.requires.live c.owner_by-owner.ensures in
    let m = c.lock.new.self in
    let n = c.count_up.new.stores in
    let there = c.lock.ensures.contents (name.Kernel o.was.no) ∙ o.its_content in
    let puts = c.count_up.ensures o.was (c.lock.ensures.contents (name.Kernel kernel) ∙ o.content) in
    relocked_kept s m n c.args.ident true c.lock.ensures.contents c.lock.ensures.residents c.lock.ensures.after o.was (counted_up c.args.ident.kind o.was) there refl puts

pub returns-else-not-is_locked-clause-residents : goal.returns-else-not-is_locked-clause-residents
returns-else-not-is_locked-clause-residents c =
    let s = c.args.stores.now in
    sym (locked_already c.args.ident true (residents_of s) (λ r there same. c.is_locked.ensures r (ap (resident_as s) (sym same) ∙ resident_loaded s r there) ∙ c.if-not-is_locked.false))
