use Rattle.std.proofs.Common.{◌≡◌, ◌∙◌, subst, arith}
use Rattle.std.proofs.lemmas.Result.{err_from_is_err_and}
use Rattle.cache_ident.specs.declared.idents.Standing.TheVariants.{Live}
use Rattle.cache_ident.specs.Residents.{IsResident}
use Rattle.cache_ident.specs.Rolls.{standing_in}
use Rattle.board_checks.specs.desc_stores.specs.Contents.{residents_of}
use Rattle.board_checks.specs.desc_tables.specs.Tables.{Held}
use Rattle.board_loads.proofs.HoldLaws.{another_ident, unloaded_before}
use Rattle.board_core.proofs.RoomLaws.{same_count, same_sealed}
use Rattle.board_checks.proofs.WhyLaws.{passed_why, unload_tells}
use Rattle.board_core.proofs.SealLaws.{sealed_if_live}
use Rattle.board_loads.proofs.holds.unload.Goals as goal

pub returns-in_err-checked-clause-enough : goal.returns-in_err-checked-clause-enough
returns-in_err-checked-clause-enough c = λ spare.
    passed_why c.from_residual-in_err-checked.result c.in_err-checked.field-0.0 (err_from_is_err_and c.from_residual-in_err-checked.result c.from_residual-in_err-checked.ensures.1)
    _ c.in_err-checked.ensures.exact (unload_tells c.tables.result.now.contents c.args.caller c.args.ident)

pub unload-requires-clause-not_first : goal.unload-requires-clause-not_first
unload-requires-clause-not_first c =
    let sealed = sealed_if_live c.args.core.now c.tables.ensures.known c.args.ident (subst (λ (h : Held). standing_in h.contents.issued c.args.ident ≡ Live) c.tables.ensures.tables c.in_ok-checked.ensures.live) in
    let named = subst (λ (h : Held). IsResident (residents_of h.contents) c.args.ident c.in_ok-checked.field-0) c.tables.ensures.tables c.in_ok-checked.ensures.named in
    another_ident c.args.core.now c.tables.ensures.known sealed c.args.ident c.in_ok-checked.field-0 named c.in_ok-checked.ensures.not_first

pub unload-requires-clause-write : goal.unload-requires-clause-write
unload-requires-clause-write c =
    let sealed = sealed_if_live c.args.core.now c.tables.ensures.known c.args.ident (subst (λ (h : Held). standing_in h.contents.issued c.args.ident ≡ Live) c.tables.ensures.tables c.in_ok-checked.ensures.live) in
    record {
      sealed = same_sealed c.args.core.now c.make_room.new.self c.make_room.ensures.only ∙ sealed;
      processor = c.requires.processor;
      room = (let room = c.in_ok-make_room.ensures.ok.1 in let same = same_count c.args.core.now c.make_room.new.self c.make_room.ensures.only in omega arith);
    }

pub returns-clause-unloaded : goal.returns-clause-unloaded
returns-clause-unloaded c =
    let named = subst (λ (h : Held). IsResident (residents_of h.contents) c.args.ident c.in_ok-checked.field-0) c.tables.ensures.tables c.in_ok-checked.ensures.named in
    unloaded_before c.args.core.now c.make_room.new.self c.make_room.ensures.only c.args.ident c.in_ok-checked.field-0 named c.args.cpu c.unload.new.self
    c.unload.ensures.entries c.unload.ensures.unload c.unload.ensures.marks c.unload.ensures.sealed c.unload.ensures.checkouts c.unload.ensures.issues
