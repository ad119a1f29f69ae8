use Rattle.std.proofs.Common.{◌≡◌, true, Some, sym, ap, subst, ◌∙◌}
use Rattle.cache_ident.specs.declared.names.Name.TheVariants as name
use Rattle.cached_machine.specs.declared.posts.Post.TheVariants.{Out}
use Rattle.cached_machine.specs.Cached.{is_loaded, Cached}
use Rattle.cached_machine.specs.Posts.{but_at, last_of, mark_of, OnlyPosts}
use Rattle.cached_machine.proofs.LoadedLaws.{loaded_stands}
use Rattle.cached_machine.proofs.PostLaws.{out_lasts, out_marks, post_sound, still_out}
use Rattle.cached_machine.proofs.machine.CachedMachine.check_out.Goals as goal

pub send-requires : goal.send-requires
send-requires c =
    let i = c.self.inside in
    loaded_stands i.tables.contents c.known.ensures.one c.args.no (subst (λ (m : Cached). is_loaded m.held.contents (name.Thread c.args.no) ≡ true) (sym c.self.view_is) c.requires.loaded)

pub invariant_of-self : goal.invariant_of-self
invariant_of-self c =
    let i = c.self.inside in
    let post = Out c.args.cpu c.args.number in
    let loaded = subst (λ (m : Cached). is_loaded m.held.contents (name.Thread c.args.no) ≡ true) (sym c.self.view_is) c.requires.loaded in (
      post_sound post i.tables c.send.new.tables c.args.no c.send.ensures i.machine i.memory i.sets i.granted c.self.invariant.0,
      still_out c.args.cpu c.args.number i.tables c.send.new.tables c.args.no loaded c.send.ensures c.self.invariant.1,
    )

pub returns-clause-only : goal.returns-clause-only
returns-clause-only c = subst (λ (m : Cached). OnlyPosts m.held c.send.new.tables) c.self.view_is c.send.ensures.only

pub returns-clause-marks : goal.returns-clause-marks
returns-clause-marks c = λ other.
    out_marks c.args.cpu c.args.number c.self.inside.tables c.send.new.tables c.args.no c.send.ensures other
    ∙ ap (λ (m : Cached). but_at c.args.no (Some c.args.cpu) (mark_of m.held.contents) other) c.self.view_is

pub returns-clause-lasts : goal.returns-clause-lasts
returns-clause-lasts c = λ other.
    out_lasts c.args.cpu c.args.number c.self.inside.tables c.send.new.tables c.args.no c.send.ensures other
    ∙ ap (λ (m : Cached). but_at c.args.no c.args.number (last_of m.held.contents) other) c.self.view_is
