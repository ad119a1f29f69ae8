use Rattle.std.proofs.Common.{◌≡◌, true, ◌∙◌, subst}
use Rattle.std.proofs.lemmas.Result.{err_from_is_err_and}
use Rattle.cache_ident.specs.declared.idents.Standing.TheVariants.{Live}
use Rattle.cache_ident.specs.Residents.{IsResident}
use Rattle.cache_ident.specs.Rolls.{standing_in}
use Rattle.board_checks.specs.desc_stores.specs.Contents.{residents_of}
use Rattle.board_checks.specs.desc_groups.specs.Moves.{MayBeLocked}
use Rattle.board_checks.specs.desc_tables.specs.Tables.{Held}
use Rattle.board_loads.proofs.HoldLaws.{locked_before, may_still}
use Rattle.board_core.proofs.RoomLaws.{same_sealed}
use Rattle.board_checks.proofs.WhyLaws.{lock_call_tells, passed_why}
use Rattle.board_core.proofs.SealLaws.{sealed_if_live}
use Rattle.board_loads.proofs.holds.lock.Goals as goal

pub returns-in_err-checked-clause-enough : goal.returns-in_err-checked-clause-enough
returns-in_err-checked-clause-enough c = λ spare.
    passed_why c.from_residual-in_err-checked.result c.in_err-checked.field-0.0 (err_from_is_err_and c.from_residual-in_err-checked.result c.from_residual-in_err-checked.ensures.1)
    _ c.in_err-checked.ensures.exact (lock_call_tells c.tables.result.now.contents c.args.caller c.args.ident)

pub lock-requires-clause-may : goal.lock-requires-clause-may
lock-requires-clause-may c =
    let named = subst (λ (h : Held). IsResident (residents_of h.contents) c.args.ident c.in_ok-checked.field-0) c.tables.ensures.tables c.in_ok-checked.ensures.named in
    let may = subst (λ (h : Held). MayBeLocked h.contents c.args.ident) c.tables.ensures.tables c.in_ok-checked.ensures.may in
    may_still c.args.core.now c.make_entries.new.self c.make_entries.ensures.only c.args.ident c.in_ok-checked.field-0 named may

pub lock-requires-clause-write : goal.lock-requires-clause-write
lock-requires-clause-write c =
    let sealed = sealed_if_live c.args.core.now c.tables.ensures.known c.args.ident (subst (λ (h : Held). standing_in h.contents.issued c.args.ident ≡ Live) c.tables.ensures.tables c.in_ok-checked.ensures.live) in
    record {
      sealed = same_sealed c.args.core.now c.make_entries.new.self c.make_entries.ensures.only ∙ sealed;
      processor = c.requires.processor;
      room = c.in_ok-make_entries.ensures.ok;
    }

pub returns-clause-locked : goal.returns-clause-locked
returns-clause-locked c =
    let named = subst (λ (h : Held). IsResident (residents_of h.contents) c.args.ident c.in_ok-checked.field-0) c.tables.ensures.tables c.in_ok-checked.ensures.named in
    locked_before c.args.core.now c.make_entries.new.self c.make_entries.ensures.only c.args.ident c.in_ok-checked.field-0 named c.args.cpu true c.lock.new.self
    c.lock.ensures.entries c.lock.ensures.lock c.lock.ensures.marks c.lock.ensures.sealed c.lock.ensures.checkouts
