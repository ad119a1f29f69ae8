-- A declaration that breaks no rule is told by one entry.
use Rattle.std.proofs.Common.{◌≡◌, false, List, ◌∷◌, [], ◌++◌, length, ap, subst, sym, ◌∙◌, Option, None}
use Rattle.cache_ident.specs.declared.names.Frame.{Frame}
use Rattle.flat_state.specs.Declaration.{broken_rule}
use Rattle.run_journal.specs.declared.entries.Entry.{Entry}
use Rattle.run_journal.specs.declared.entries.Entry.TheVariants.{Declared}
use Rattle.cached_machine.specs.Cached.{state_of}
use Rattle.board_core.specs.Core.{Recorded}
use Rattle.board_core.specs.Stamps.{stamped_at, IsWithin}
use Rattle.board_core.proofs.OpeningLaws.{declared_sound, has_stamp, may_be_made}
use Rattle.board_core.proofs.core_record.Core.declare.Goals as goal

pub make_declaration-made-requires : goal.make_declaration-made-requires
make_declaration-made-requires c =
    let open_yet = subst (λ (b : Recorded). b.sealed ≡ false) (sym c.self.view_is) c.requires.open in
    let none = subst (λ (b : Recorded). broken_rule (state_of b.machine) c.args.decl.now ≡ None) (sym c.self.view_is) c.requires.fits in
    may_be_made _ c.self.invariant.0 open_yet c.args.decl.now none

pub put_stamp-requires : goal.put_stamp-requires
put_stamp-requires c =
    let open_yet = subst (λ (b : Recorded). b.sealed ≡ false) (sym c.self.view_is) c.requires.open in
    let none = subst (λ (b : Recorded). broken_rule (state_of b.machine) c.args.decl.now ≡ None) (sym c.self.view_is) c.requires.fits in
    subst (λ (f : Option Frame). IsWithin f c.self.inside.stamps.items) (sym c.frame_declared.ensures) (has_stamp _ c.self.invariant.0 open_yet c.args.decl.now none)

pub invariant_of-self-2 : goal.invariant_of-self-2
invariant_of-self-2 c =
    let open_yet = subst (λ (b : Recorded). b.sealed ≡ false) (sym c.self.view_is) c.requires.open in
    let none = subst (λ (b : Recorded). broken_rule (state_of b.machine) c.args.decl.now ≡ None) (sym c.self.view_is) c.requires.fits in
    let grown = c.note.ensures.entries ∙ ap (λ (es : List Entry). es ++ Declared c.args.decl.now ∷ []) c.reserve.ensures.entries in
    let news = c.put_stamp.ensures ∙ ap (λ (f : Option Frame). stamped_at f c.len.result c.self.inside.stamps.items) c.frame_declared.ensures in (
      declared_sound _ c.self.invariant.0 open_yet c.args.decl.now none c.make_declaration-made.new.self c.note.new.journal c.len.result c.len.ensures c.in_ok-made.ensures.ok grown c.known.ensures.sound _ news,
      c.self.invariant.1 ∙ sym (ap length c.in_ok-made.ensures.ok.beside.loaded.residents),
    )
