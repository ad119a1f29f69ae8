use Rattle.std.proofs.Common.{◌≡◌, ◌-◌, None, subst, sym, arith}
use Rattle.cache_ident.specs.declared.names.Name.{Name}
use Rattle.kind_store.specs.Changes.{HasContent}
use Rattle.kind_store.specs.Kept.{content_of}
use Rattle.slot_cache.specs.Rows.{row_name}
use Rattle.row_store.proofs.SoundLemmas.{names_declaring, new_name, new_signal, sound-declaring}
use Rattle.row_store.proofs.store.RowStore.declare.Goals as goal

pub push-stamp-requires-clause-absent : goal.push-stamp-requires-clause-absent
push-stamp-requires-clause-absent c =
    let i = c.self.inside in
    let none : content_of row_name i.rows c.name-name.result ≡ None = rw c.name-name.ensures (rw (← c.self.view_is) at c.requires.absent) in
    new_name i.room i.rows i.order i.signals i.by_frame c.self.invariant c.name-name.result none

pub list-requires-clause-absent : goal.list-requires-clause-absent
list-requires-clause-absent c =
    let i = c.self.inside in
    let none : content_of row_name i.rows c.name-name.result ≡ None = rw c.name-name.ensures (rw (← c.self.view_is) at c.requires.absent) in
    new_signal i.room i.rows i.order i.signals i.by_frame c.self.invariant c.name-name.result none

pub invariant_of-self : goal.invariant_of-self
invariant_of-self c =
    let i = c.self.inside in
    let name = c.name-name.result in
    let named = c.name-name.ensures in
    let none : content_of row_name i.rows name ≡ None = rw named (rw (← c.self.view_is) at c.requires.absent) in
    let room = rw (← c.self.view_is) at c.requires.room in
    let d = c.declare.ensures in
    let has = subst (λ (n : Name). HasContent row_name i.rows c.declare.new.self n c.args.value) (sym named) d.contents in
    let p = c.push-stamp.ensures in
    let l = c.list.ensures in
    sound-declaring i.room i.rows i.order i.signals i.by_frame c.self.invariant c.push-stamp.result name c.args.value none c.declare.new.self has c.push-stamp.new.self p.entries (i.room - 1) c.list.new.signals p.proper l.listed (l.proper c.self.invariant.signals_proper) l.few l.room d.cells (omega (arith, room)) d.room p.room

pub returns-clause-names : goal.returns-clause-names
returns-clause-names c =
    let i = c.self.inside in
    rw (← c.self.view_is, ← c.name-name.ensures) (names_declaring i.order c.push-stamp.new.self c.push-stamp.result c.name-name.result c.push-stamp.ensures.entries)

pub returns-clause-owned : goal.returns-clause-owned
returns-clause-owned c = rw (← c.self.view_is) c.declare.ensures.owned
