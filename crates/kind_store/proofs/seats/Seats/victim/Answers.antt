use Rattle.std.proofs.Common.{ℕ, get_or, sym, ◌∙◌, subst, arith}
use Rattle.std.proofs.lemmas.Option.{get_or_from_slice_get, slice_get-get_or, slice_get_within}
use Rattle.slot_cache.specs.Cells.{cell_at, MayNotGo}
use Rattle.slot_cache.specs.Seats.{cells_in}
use Rattle.slot_cache.proofs.SlotLemmas.{none_more, none_may_go, is_victim}
use Rattle.kind_store.proofs.SeatedLemmas.{placed}
use Rattle.kind_store.proofs.seats.Seats.victim.Goals as goal
use Rattle.kind_store.proofs.seats.Seats.victim.Goals.{in-Some+in_default-may_go, in_default}

-- the first that may go has the smallest serial
pub returns-in-Some-may_go-clause-victim : goal.returns-in-Some-may_go-clause-victim
returns-in-Some-may_go-clause-victim g c =
    let i = c.self.inside in
    let places = i.by_serial.entries in
    let n = c.loop-place.place in
    let place : ℕ × ℕ = (c.in-Some.field-0-0, c.in-Some.slot) in
    let read = sym c.get.ensures ∙ c.in-Some.is in
    let within = slice_get_within places n place read in
    let at = get_or_from_slice_get places n place place read in
    let go = rw (← c.self.view_is) at c.in-Some-may_go.ensures.some in
    let stands = placed g.T.Descriptor.called g.T.Descriptor.KIND i.slots i.by_serial i.records i.by_name c.self.invariant in
    rw (← c.self.view_is) (is_victim g.T.Descriptor.KIND (cells_in i.records.slots i.slots) places c.args.keep.now stands c.self.invariant.serials.lists n place c.in-Some-may_go.ident within (sym at) c.loop-place.invariant go)

pub loop-place-preserved : goal.loop-place-preserved
loop-place-preserved g c =
    let i = c.self.inside in
    let cells = cells_in i.records.slots i.slots in
    let places = i.by_serial.entries in
    let n = c.loop-place.place in
    elim c.match-get.branch [
      | in-Some+in_default-may_go w ↦
          let place : ℕ × ℕ = (w.in-Some.field-0-0, w.in-Some.slot) in
          let read = sym c.get.ensures ∙ w.in-Some.is in
          let within = slice_get_within places n place read in
          let at = get_or_from_slice_get places n place place read in
          let none = rw (← c.self.view_is) at w.in_default-may_go.ensures.none in
          none_more cells places c.args.keep.now n place within c.loop-place.invariant (subst (λ (p : ℕ × ℕ). MayNotGo (cell_at cells p.1) c.args.keep.now) (sym at) none)
      | in_default w ↦
          let d : ℕ × ℕ = (0, 0) in
          absurd (w.in_default.not-Some (get_or places n d) (c.get.ensures ∙ slice_get-get_or places n d (omega (arith, c.loop-place-test.true, c.len-place-end.ensures.len))))
    ]

pub returns-clause-none : goal.returns-clause-none
returns-clause-none g c =
    let i = c.self.inside in
    let stands = placed g.T.Descriptor.called g.T.Descriptor.KIND i.slots i.by_serial i.records i.by_name c.self.invariant in
    rw (← c.self.view_is) (none_may_go g.T.Descriptor.KIND (cells_in i.records.slots i.slots) i.by_serial.entries c.args.keep.now stands c.self.invariant.serials.lists c.loop-place.place (omega (arith, c.loop-place-test.false, c.len-place-end.ensures.len)) c.loop-place.invariant)
