use Rattle.std.proofs.Common.{◌≡◌, rules, Option, Some, ◌∙◌, ap, subst}
use Rattle.cache_ident.specs.declared.names.Name.{Name}
use Rattle.cache_ident.specs.declared.names.Name.TheVariants as name
use Rattle.thread_cache.specs.declared.ThreadRec.{ThreadRec}
use Rattle.board_laws.specs.desc_stores.specs.declared.items.Item.{Item}
use Rattle.board_laws.specs.desc_stores.specs.declared.items.Item.TheVariants as item
use Rattle.board_laws.specs.desc_stores.specs.Changes.{HasContent}
use Rattle.board_laws.specs.desc_stores.specs.Contents.{content_of, Contents}
use Rattle.board_laws.specs.shown_state.proofs.ChangeLemmas.{at_name}
use Rattle.thread_sets.specs.Sets.{noted}
use Rattle.cached_machine.specs.Stepping.{left_by, IfThread}
use Rattle.cached_machine.proofs.stepping.update.Goals as goal

pub returns : goal.returns
returns c =
    let ensures = c.update_thread_named.ensures in
    let updated = ensures.updated in
    let old = c.args.tables.now.contents in
    let new = c.update_thread_named.new.self.contents in
    let is_left : updated.left ≡ left_by c.args.change updated.value = search (rules, updated.called_with) in
    let here : content_of new (name.Thread c.args.no) ≡ Some (item.Thread updated.left) = subst (λ (n : Name). content_of new n ≡ Some (item.Thread updated.left)) updated.has_name (at_name old new (item.Thread updated.left) updated.contents) in
    let noted_left : c.note.new.sets ≡ noted c.args.sets.now updated.left = subst (λ (o : Option Item). IfThread o (λ thread. c.note.new.sets ≡ noted c.args.sets.now thread)) here c.note.ensures in
    record {
      value = updated.value;
      there = updated.was;
      contents = subst (λ (thread : ThreadRec). HasContent old new (item.Thread thread)) is_left updated.contents;
      only = record {
        rest = ensures.rest;
        names = record {
          kernels = ap (λ (c : Contents). c.kernel_count) updated.is;
          spaces = ap (λ (c : Contents). c.space_count) updated.is;
          threads = ap (λ (c : Contents). c.thread_count) updated.is;
          rows = ap (λ (c : Contents). c.rows.names) updated.is;
        };
        residents = ensures.residents;
        issued = ensures.issued;
        spare = ensures.spare;
        room = ensures.room;
      };
      sets = noted_left ∙ ap (noted c.args.sets.now) is_left;
    }
