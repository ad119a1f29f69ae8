use Rattle.std.proofs.Common.{◌≡◌, rules, subst}
use Rattle.thread_cache.specs.declared.ThreadRec.{ThreadRec}
use Rattle.board_laws.specs.desc_stores.specs.declared.items.Item.TheVariants as item
use Rattle.board_laws.specs.desc_stores.specs.Changes.{with_named, HasContent}
use Rattle.cached_machine.specs.Posts.{posted}
use Rattle.cached_machine.proofs.PostLaws.{posted_no, posted_shows, shows_the_same}
use Rattle.cached_machine.proofs.posts.send.Goals as goal

pub returns : goal.returns
returns c =
    let made = c.update_thread_named.ensures.updated in
    let ran = made.called_with in
    let left : made.left ≡ posted c.args.post made.value = search rules in
    let old = c.args.tables.now.contents in
    let new = c.update_thread_named.new.self.contents in
    let is = posted c.args.post made.value in
    let contents = subst (λ (t : ThreadRec). HasContent old new (item.Thread t)) left made.contents in
    record {
      value = made.value;
      there = made.was;
      contents = contents;
      only = record {
        rest = c.update_thread_named.ensures.rest;
        shows = shows_the_same old new c.args.no made.value is made.was (posted_no c.args.post made.value) (posted_shows c.args.post made.value) contents (subst (λ (t : ThreadRec). new ≡ with_named old (item.Thread t)) left made.is);
        loaded = record { residents = c.update_thread_named.ensures.residents; issued = c.update_thread_named.ensures.issued };
        spare = c.update_thread_named.ensures.spare;
        room = c.update_thread_named.ensures.room;
      };
    }
