use Rattle.std.proofs.Common.{List, length, refl, sym, ◌∙◌, ap, subst, take, take_all, arith}
use Rattle.std.proofs.lemmas.List.{take_more}
use Rattle.std.proofs.lemmas.List.Elements.{Contains-get_or}
use Rattle.cache_ident.specs.declared.idents.Ident.{Ident}
use Rattle.cache_ident.specs.declared.idents.Kind.TheVariants as kind
use Rattle.board_calls.specs.Departures.{HaveLeft}
use Rattle.board_calls.proofs.TurnLaws.{none_left, one_more_left}
use Rattle.board_calls.proofs.completions.unload_each.Goals as goal

abbrev no_ident : Ident
no_ident = record { kind = kind.Kernel; slot = 0; serial = 0 }

pub loop-ident-init : goal.loop-ident-init
loop-ident-init c = record { left = none_left c.args.cpu c.args.core.now c.known.ensures.out; none = λ e. refl }

pub loop-ident-preserved : goal.loop-ident-preserved
loop-ident-preserved c =
    let loop = c.loop-ident in
    record {
      left =
          subst (λ (xs : List Ident). HaveLeft c.args.cpu xs c.args.core.now c.unload_loaded.new.core) (sym (take_more c.args.idents.now loop.ident-index no_ident c.loop-ident-test.true))
          (one_more_left c.args.cpu (take loop.ident-index c.args.idents.now) _ c.args.core.now loop.core c.unload_loaded.new.core loop.invariant.left c.unload_loaded.ensures.left);
      none = λ e. absurd (omega (arith, e));
    }

pub returns : goal.returns
returns c =
    let loop = c.loop-ident in
    record {
      left = subst (λ (xs : List Ident). HaveLeft c.args.cpu xs c.args.core.now loop.core) (take_all loop.ident-index c.args.idents.now c.loop-ident-test.false) loop.invariant.left;
      none = λ e. loop.invariant.none (let few = ap (λ (xs : List Ident). length xs) e in let end = loop.auto.ident-index-end in omega arith);
    }

pub unload_loaded-requires-clause-sealed : goal.unload_loaded-requires-clause-sealed
unload_loaded-requires-clause-sealed c = c.loop-ident.invariant.left.are.sealed ∙ c.requires.sealed

pub unload_loaded-requires-clause-row : goal.unload_loaded-requires-clause-row
unload_loaded-requires-clause-row c = c.requires.rows _ (Contains-get_or c.args.idents.now c.loop-ident.ident-index no_ident c.loop-ident-test.true)

pub unload_loaded-requires-clause-room : goal.unload_loaded-requires-clause-room
unload_loaded-requires-clause-room c =
    let are = c.loop-ident.invariant.left.are in
    let few = are.fewer in
    let spare = are.grows.spare in
    let room = c.requires.room in
    omega arith
