use Rattle.std.proofs.Common.{None, IsSome, sym, ap, subst, ◌∙◌}
use Rattle.cache_ident.specs.declared.names.Name.TheVariants as name
use Rattle.board_laws.specs.desc_stores.specs.Contents.{content_of}
use Rattle.cached_machine.specs.declared.posts.Post.TheVariants.{In}
use Rattle.cached_machine.specs.Cached.{Cached}
use Rattle.cached_machine.specs.Posts.{but_at, last_of, mark_of, OnlyPosts}
use Rattle.cached_machine.proofs.PostLaws.{fewer_out, in_lasts, in_marks, post_sound}
use Rattle.cached_machine.proofs.machine.CachedMachine.check_in.Goals as goal

pub send-requires : goal.send-requires
send-requires c = subst (λ (m : Cached). IsSome (content_of m.held.contents (name.Thread c.args.no))) (sym c.self.view_is) c.requires.there

pub invariant_of-self : goal.invariant_of-self
invariant_of-self c =
    let i = c.self.inside in (
      post_sound In i.tables c.send.new.tables c.args.no c.send.ensures i.machine i.memory i.sets i.granted c.self.invariant.0,
      fewer_out i.tables c.send.new.tables c.args.no c.send.ensures c.self.invariant.1,
    )

pub returns-clause-only : goal.returns-clause-only
returns-clause-only c = subst (λ (m : Cached). OnlyPosts m.held c.send.new.tables) c.self.view_is c.send.ensures.only

pub returns-clause-marks : goal.returns-clause-marks
returns-clause-marks c = λ other.
    in_marks c.self.inside.tables c.send.new.tables c.args.no c.send.ensures other
    ∙ ap (λ (m : Cached). but_at c.args.no None (mark_of m.held.contents) other) c.self.view_is

pub returns-clause-lasts : goal.returns-clause-lasts
returns-clause-lasts c = λ other.
    in_lasts c.self.inside.tables c.send.new.tables c.args.no c.send.ensures other
    ∙ ap (λ (m : Cached). last_of m.held.contents other) c.self.view_is
