use Rattle.std.proofs.Common.{◌≡◌, true, Option, Some, None, refl, sym, ◌∙◌, subst}
use Rattle.std.specs.Prelude.{is_none, not}
use Rattle.std.proofs.lemmas.Bool.{and_parts, not-true}
use Rattle.cache_ident.specs.declared.names.Name.{Name}
use Rattle.cache_ident.specs.declared.names.ThreadNo.{ThreadNo}
use Rattle.phys_groups.specs.Rows.{row_name}
use Rattle.board_checks.specs.Facts.{IsLoadable}
use Rattle.board_checks.specs.Keeps.{IsLoadableBeside}
use Rattle.board_checks.proofs.keeps.keep_of_row.Goals as goal

none_is : (o : Option ThreadNo) → is_none o ≡ true → o ≡ None
none_is None none = refl
none_is (Some thread) none = absurd (cc)

pub returns-then-is_plain : goal.returns-then-is_plain
returns-then-is_plain c =
    let row = c.args.row.now in
    let parts = and_parts (not row.flags.m) (is_none row.receiver) (sym c.is_plain.ensures ∙ c.if-is_plain.true) in
    subst (IsLoadableBeside c.args.tables.now.contents (row_name row)) (sym c.keep_space_and_kernel.ensures) (c.requires.plain (not-true row.flags.m parts.0) (none_is row.receiver parts.1))

pub keep_of-requires-clause-may : goal.keep_of-requires-clause-may
keep_of-requires-clause-may c = subst (IsLoadable c.args.tables.now.contents) (sym c.name.ensures) c.requires.may

pub returns : goal.returns
returns c = subst (λ (n : Name). IsLoadableBeside c.args.tables.now.contents n c.keep_of.result.items) c.name.ensures c.keep_of.ensures
