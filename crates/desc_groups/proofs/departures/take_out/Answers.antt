use Rattle.std.proofs.Common.{◌≡◌, sym, ◌∙◌, subst}
use Rattle.cache_ident.specs.declared.idents.Ident.{Ident}
use Rattle.cache_ident.specs.declared.names.KernelNo.{KernelNo}
use Rattle.desc_parents.specs.flat_state.specs.Dependence.{owner}
use Rattle.desc_parents.specs.flat_state.specs.State.{FlatState}
use Rattle.desc_parents.specs.desc_stores.specs.Contents.{residents_of, Contents}
use Rattle.desc_parents.specs.desc_stores.specs.Sound.{AreOwned}
use Rattle.desc_parents.specs.Seen.{seen}
use Rattle.desc_groups.proofs.DepartLemmas.{owner_counts, owner_kept, taken_locked, taken_unlocked, IsDisplaced, IsTakenOut}
use Rattle.desc_groups.proofs.OwnedLemmas.{owner_there, HasOwner}
use Rattle.desc_groups.proofs.ShowLemmas.{AreCounted}
use Rattle.desc_groups.specs.Whole.{IsWhole}
use Rattle.desc_groups.proofs.departures.take_out.Goals as goal
use Rattle.desc_groups.proofs.departures.take_out.Goals.{then-locked, else-locked}

pub count_down-requires : goal.count_down-requires
count_down-requires c =
    let old = c.args.stores.now in
    let whole = c.requires.whole in
    let ident = c.args.ident in
    let own = c.owner_by-owner.result in
    let has : HasOwner old ident own = owner_there old whole.0 whole.1 whole.2 ident own c.requires.live c.owner_by-owner.ensures in
    let out : IsDisplaced old c.leave.new.self ident own c.args.at = record {
      contents = c.leave.ensures.contents;
      residents = c.leave.ensures.residents;
      issued = c.leave.ensures.issued;
      owned = c.leave.ensures.owned (owner (seen old)) c.owner_by-owner.ensures whole.2.owned;
      after = c.leave.ensures.after;
    } in
    let locked = c.is_locked-locked.ensures has.resident has.loaded ∙ c.if-locked.true in
    (has.was, owner_kept old whole ident own has c.leave.new.self c.args.at out, owner_counts old whole ident own has c.leave.new.self c.args.at out locked)

module _ (c : goal.After-each_is_one) where
  abbrev old : Contents
  old = c.args.stores.now

  abbrev mid : Contents
  mid = c.leave.new.self

  abbrev ident : Ident
  ident = c.args.ident

  abbrev own : KernelNo
  own = c.owner_by-owner.result

  abbrev whole : IsWhole old
  whole = c.requires.whole

  has : HasOwner old ident own
  has = owner_there old whole.0 whole.1 whole.2 ident own c.requires.live c.owner_by-owner.ensures

  lock : has.resident.locked ≡ c.is_locked-locked.result
  lock = c.is_locked-locked.ensures has.resident has.loaded

  out : IsDisplaced old mid ident own c.args.at
  out = record {
    contents = c.leave.ensures.contents;
    residents = c.leave.ensures.residents;
    issued = c.leave.ensures.issued;
    owned = c.leave.ensures.owned (owner (seen old)) c.owner_by-owner.ensures whole.2.owned;
    after = c.leave.ensures.after;
  }

  -- what has left once the stores displaced it, and its lock with it
  taken : IsTakenOut old c.if-locked.stores ident c.args.at
  taken = elim c.if-locked.branch [
    | then-locked w ↦
        let puts = w.count_down.ensures has.was (owner_kept old whole ident own has mid c.args.at out) in
        subst (λ (new : Contents). IsTakenOut old new ident c.args.at) (sym w.stores-is) (taken_locked old whole ident own has mid c.args.at out (lock ∙ w.if-locked.true) w.count_down.new.stores puts)
    | else-locked w ↦ subst (λ (new : Contents). IsTakenOut old new ident c.args.at) (sym w.stores-is) (taken_unlocked old whole ident own has mid c.args.at out (lock ∙ w.if-locked.false))
  ]

pub returns-clause-slots : goal.returns-clause-slots
returns-clause-slots c = (taken c).slots

pub returns-clause-owned : goal.returns-clause-owned
returns-clause-owned c = let is = taken c in subst (λ (s : FlatState). AreOwned (owner s) c.if-locked.stores) (sym is.same) is.owned

pub returns-clause-counted : goal.returns-clause-counted
returns-clause-counted c = let is = taken c in subst (λ (s : FlatState). AreCounted s (residents_of c.if-locked.stores) c.if-locked.stores) (sym is.same) is.counted

pub returns-clause-residents : goal.returns-clause-residents
returns-clause-residents c = (taken c).residents

pub returns-clause-issued : goal.returns-clause-issued
returns-clause-issued c = (taken c).issued

pub returns-clause-kept : goal.returns-clause-kept
returns-clause-kept c = (taken c).kept
