use Rattle.std.proofs.Common.{◌≢◌, List, AllPairs, sym, ap, subst}
use Rattle.cache_ident.specs.declared.idents.Ident.{Ident}
use Rattle.cache_ident.specs.declared.names.Caps.{Caps}
use Rattle.cache_ident.specs.Residents.{with_loaded, Resident}
use Rattle.desc_parents.specs.flat_state.specs.Dependence.{owner}
use Rattle.desc_parents.specs.desc_stores.specs.Contents.{residents_of}
use Rattle.desc_parents.specs.resident_pairs.specs.Among.{AreFew, AreParents}
use Rattle.desc_parents.specs.resident_pairs.proofs.Room.{has_room, no_child}
use Rattle.desc_parents.specs.shown_state.proofs.AlikeLemmas.{shown_alike}
use Rattle.desc_parents.specs.shown_state.proofs.MoveLemmas.{alike_loading}
use Rattle.desc_parents.specs.store_residents.proofs.ResidentLemmas.{no_later}
use Rattle.desc_parents.specs.store_residents.proofs.SlotLaws.{are_few}
use Rattle.desc_parents.specs.store_residents.proofs.StayLemmas.{slots-kept, slots-loading}
use Rattle.desc_parents.specs.Seen.{seen}
use Rattle.desc_groups.specs.Whole.{AreWhole}
use Rattle.desc_groups.proofs.EnterLemmas.{live_loaded, node_loaded, nothing_behind, parents_loaded, rows_loaded, whole_loaded, HasCome}
use Rattle.desc_groups.proofs.entering.enter.Goals as goal

pub class_by-class-requires-clause-live : goal.class_by-class-requires-clause-live
class_by-class-requires-clause-live c =
    live_loaded _ c.args.stores.now _ c.requires.whole c.args.name c.requires.may c.load-ident.result c.load-ident.new.self
    (record { keeps = c.load-ident.ensures.contents; residents = c.load-ident.ensures.residents; moves = c.load-ident.ensures.after; one = c.each_is_one.ensures })

pub parents_by-parents-requires-clause-live : goal.parents_by-parents-requires-clause-live
parents_by-parents-requires-clause-live c =
    live_loaded _ c.args.stores.now _ c.requires.whole c.args.name c.requires.may c.load-ident.result c.load-ident.new.self
    (record { keeps = c.load-ident.ensures.contents; residents = c.load-ident.ensures.residents; moves = c.load-ident.ensures.after; one = c.each_is_one.ensures })

pub parents_by-parents-requires-clause-rows : goal.parents_by-parents-requires-clause-rows
parents_by-parents-requires-clause-rows c =
    rows_loaded _ c.args.stores.now _ c.requires.whole c.args.name c.requires.may c.load-ident.result c.load-ident.new.self
    (record { keeps = c.load-ident.ensures.contents; residents = c.load-ident.ensures.residents; moves = c.load-ident.ensures.after; one = c.each_is_one.ensures })

pub load-requires-clause-new : goal.load-requires-clause-new
load-requires-clause-new c =
    let whole = c.requires.whole in
    let ident = c.load-ident.result in
    no_child (seen c.args.stores.now) (residents_of c.args.stores.now) c.args.pairs.now.pairs ident whole.pairs_are
    (no_later c.args.stores.now whole.one.sound ident (ap (λ (i : Ident). i.serial) c.load-ident.ensures.ident))

pub load-requires-clause-apart : goal.load-requires-clause-apart
load-requires-clause-apart c = subst (λ (ps : List Ident). AllPairs ◌≢◌ ps) (sym c.deref.ensures.0) c.parents_by-parents.ensures.apart

pub load-requires-clause-few : goal.load-requires-clause-few
load-requires-clause-few c = c.deref.ensures.1

pub load-requires-clause-room : goal.load-requires-clause-room
load-requires-clause-room c =
    let old = c.args.stores.now in
    let new = c.load-ident.new.self in
    let whole = c.requires.whole in
    let caps = c.args.pairs.now.caps in
    let slots = slots-kept caps old new whole.sized (slots-loading old new c.args.name c.load-ident.result c.load-ident.ensures.after) in
    let few : AreFew caps (with_loaded c.load-ident.result c.args.name (residents_of old)) = subst (λ (rs : List Resident). AreFew caps rs) c.load-ident.ensures.residents (are_few new c.each_is_one.ensures.sound caps slots) in
    has_room caps (seen old) (residents_of old) c.args.pairs.now.pairs whole.pairs_are (record { ident = c.load-ident.result; class = c.class_by-class.result }) c.args.name few

pub returns-clause-whole : goal.returns-clause-whole
returns-clause-whole c =
    let old = c.args.stores.now in
    let new = c.load-ident.new.self in
    let whole = c.requires.whole in
    let may = c.requires.may in
    let ident = c.load-ident.result in
    let name = c.args.name in
    let before = c.args.pairs.now.pairs in
    let caps = c.args.pairs.now.caps in
    let here : HasCome old new name ident = record { keeps = c.load-ident.ensures.contents; residents = c.load-ident.ensures.residents; moves = c.load-ident.ensures.after; one = c.each_is_one.ensures } in
    let node = node_loaded caps old before whole name may ident new here c.class_by-class.result c.class_by-class.ensures in
    let parents = subst (λ (ps : List Ident). AreParents (seen old) (residents_of old) name ps) (sym c.deref.ensures.0) (parents_loaded caps old before whole name may ident new here c.parents_by-parents.result.items c.parents_by-parents.ensures.parents) in
    let pairs = c.load.ensures.resident (seen old) (residents_of old) name whole.pairs_are node parents (nothing_behind caps old before whole name may ident) in
    let owned = c.load-ident.ensures.owned (owner (seen old)) whole.owned in
    subst (λ (k : Caps). AreWhole k new c.load.new.self.pairs) (sym c.load.ensures.caps) (whole_loaded caps old before whole name may ident new here c.load.new.self.pairs owned pairs)

pub returns-clause-shows : goal.returns-clause-shows
returns-clause-shows c machine memory =
    shown_alike machine memory c.args.stores.now c.load-ident.new.self
    (alike_loading c.args.stores.now c.load-ident.new.self c.args.name c.load-ident.result c.load-ident.ensures.contents c.load-ident.ensures.after)
