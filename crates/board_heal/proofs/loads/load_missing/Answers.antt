use Rattle.std.proofs.Common.{◌≡◌, List, length, sym, ◌∙◌, ap, subst, inr, arith}
use Rattle.cache_ident.specs.declared.idents.Ident.{Ident}
use Rattle.cache_ident.specs.Residents.{IsNameResident}
use Rattle.board_core.specs.desc_stores.specs.Contents.{residents_of}
use Rattle.board_core.specs.desc_tables.specs.Tables.{Held}
use Rattle.board_core.specs.desc_parents.specs.Idents.{idents_of}
use Rattle.board_core.specs.board_laws.specs.Moves.{IsLoad}
use Rattle.board_core.specs.cached_machine.specs.Cached.{Cached}
use Rattle.board_core.specs.Core.{contents_of}
use Rattle.board_core.specs.Growth.{count_unkept}
use Rattle.board_core.specs.desc_tables.specs.May.{MayBeLoaded}
use Rattle.board_heal.proofs.NextLaws.{comes, count_is, fewer_others, may_load, none_found, stays, were}
use Rattle.board_heal.proofs.loads.load_missing.Goals as goal

-- it isn't loaded
absent : (c : goal.After-as_slice) → IsNameResident (residents_of (contents_of c.args.core.now)) c.args.name → ⊥
absent c =
    let held : c.tables.result.now ≡ c.args.core.now.machine.held = c.tables.ensures.tables ∙ ap (λ (m : Cached). m.held) c.machine_of.ensures.machine in
    subst (λ (h : Held). IsNameResident (residents_of h.contents) c.args.name → ⊥) held (none_found c.resident.result _ (sym c.is_some.ensures ∙ c.if-is_some.false) c.resident.ensures.absent)

-- what is kept is what of the chain is loaded
kept : (c : goal.After-as_slice) → c.as_slice.result.now ≡ idents_of (residents_of (contents_of c.args.core.now)) c.args.chain.now
kept c = c.as_slice.ensures.value ∙ c.loaded_among-keep.ensures ∙ ap (λ (m : Cached). idents_of (residents_of m.held.contents) c.args.chain.now) c.machine_of-2.ensures.machine

pub load-requires-clause-may : goal.load-requires-clause-may
load-requires-clause-may c =
    let b = c.args.core.now in
    subst (MayBeLoaded (contents_of b) c.args.name) (sym (kept c)) (may_load b c.machine_of.ensures.sound.0 c.machine_of.ensures.sound.1 c.args.chain.now c.args.name c.requires.next (absent c))

pub load-requires-clause-write : goal.load-requires-clause-write
load-requires-clause-write c =
    let b = c.args.core.now in
    let count = ap (count_unkept b) (kept c) ∙ count_is b c.machine_of.ensures.sound.0 c.machine_of.ensures.sound.1 c.args.chain.now c.args.name c.requires.next in
    record {
      sealed = c.requires.sealed;
      processor = c.requires.processor;
      room = let room = c.requires.next.room in omega (arith, count, room);
    }

pub returns : goal.returns
returns c =
    let b = c.args.core.now in
    let new = contents_of c.load.new.self in
    let chain = c.args.chain.now in
    let next = c.requires.next in
    let sound = c.machine_of.ensures.sound in
    let held : c.tables.result.now ≡ b.machine.held = c.tables.ensures.tables ∙ ap (λ (m : Cached). m.held) c.machine_of.ensures.machine in
    let never = subst (λ (h : Held). IsNameResident (residents_of h.contents) c.args.name → ⊥) held (none_found c.resident.result _ (sym c.is_some.ensures ∙ c.if-is_some.false) c.resident.ensures.absent) in
    let keep : c.as_slice.result.now ≡ idents_of (residents_of (contents_of b)) chain = c.as_slice.ensures.value ∙ c.loaded_among-keep.ensures ∙ ap (λ (m : Cached). idents_of (residents_of m.held.contents) chain) c.machine_of-2.ensures.machine in
    let gone = c.load.new.self.machine.held.gone in
    let at = length b.journal.entries in
    let is = subst (λ (k : List Ident). IsLoad b.machine.held.caps (contents_of b) new c.args.name k at gone c.load.result) keep c.load.ensures.load in
    inr (
      never,
      record {
        gone = gone;
        ident = c.load.result;
        load = record {
          pairs = sound.0;
          whole = sound.1.whole;
          may = may_load b sound.0 sound.1 chain c.args.name next never;
          load = is;
        };
        grows = c.load.ensures.entries;
        there = comes b sound.0 sound.1 chain c.args.name next new at gone c.load.result is;
        stay = stays b sound.0 sound.1 chain c.args.name next new at gone c.load.result is;
        only = were b sound.0 sound.1 chain c.args.name next new at gone c.load.result is;
        fewer = fewer_others b sound.0 sound.1 chain c.args.name next new at gone c.load.result is;
        issues = c.load.ensures.issues;
        marks = c.load.ensures.marks;
        sealed = c.load.ensures.sealed;
        checkouts = c.load.ensures.checkouts;
      },
    )
