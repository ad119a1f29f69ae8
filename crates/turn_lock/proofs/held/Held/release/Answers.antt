use Rattle.std.proofs.Common.{rules, arith, ℕ, ◌<◌, ◌≤◌, ◌∷◌, sym, ap, ◌∙◌, subst}
use Rattle.std.specs.Prelude.{Some}
use Rattle.atomic_table.specs.Table.{rest}
use Rattle.turn_lock.specs.Lists.{numbers}
use Rattle.turn_lock.proofs.Calls.{records_after, recorded}
use Rattle.turn_lock.proofs.Leaving.{passes_turn_on}
use Rattle.turn_lock.proofs.held.Held.release.Goals as goal

pub store-requires : goal.store-requires
store-requires g c = let slot = c.args.self.slot in let v = slot.seat.me.0 in
    let now = c.exchange.ensures.3 ∙ ap (λ z. (v, (0, Some c.args.self.value) ∷ rest z)) slot.taken_out.1 in (
      search rules,
      search rules,
      records_after g.V.History.entries g.V.History.maker _ _ v _ c.args.self.value c.len-length.result now c.len-length.ensures slot.taken_out.0 (omega (arith, slot.signs)) c.requires.signed,
    )

pub fetch_add-requires : goal.fetch_add-requires
fetch_add-requires g c = let slot = c.args.self.slot in let v = slot.seat.me.0 in
    let now = c.exchange.ensures.3 ∙ ap (λ z. (v, (0, Some c.args.self.value) ∷ rest z)) slot.taken_out.1 in
    let left = recorded g.V.History.entries g.V.History.maker v _ _ c.args.self.value now slot.taken_out.0 c.store.ensures.2 in (
      search rules,
      search rules,
      passes_turn_on g.V.History.entries g.V.History.maker _ _ _ left.0 (ap (λ m. m.0.stage) left.1),
    )

pub invariant_of-result : goal.invariant_of-result
invariant_of-result g c = let slot = c.args.self.slot in let v = slot.seat.me.0 in
    let now = c.exchange.ensures.3 ∙ ap (λ z. (v, (0, Some c.args.self.value) ∷ rest z)) slot.taken_out.1 in
    let left = recorded g.V.History.entries g.V.History.maker v _ _ c.args.self.value now slot.taken_out.0 c.store.ensures.2 in
    let gone = c.fetch_add.ensures.2 in
    let first = ap (λ m. m.0.first) gone ∙ ap (λ m. m.0.first) left.1 in let end = ap (λ m. m.0.end) gone ∙ ap (λ m. m.0.end) left.1 in record {
      at_rest = (ap (λ m. m.0.stage) gone, ap (λ m. m.1) gone ∙ ap (λ m. m.1) left.1);
      signs = (first ∙ slot.signs.0, subst (λ (z : ℕ). slot.number < z) (sym end) slot.signs.1, subst (λ (z : ℕ). z ≤ numbers) (sym end) slot.signs.2);
    }

pub returns-clause-range : goal.returns-clause-range
returns-clause-range g c = let slot = c.args.self.slot in let v = slot.seat.me.0 in
    let now = c.exchange.ensures.3 ∙ ap (λ z. (v, (0, Some c.args.self.value) ∷ rest z)) slot.taken_out.1 in
    let left = recorded g.V.History.entries g.V.History.maker v _ _ c.args.self.value now slot.taken_out.0 c.store.ensures.2 in
    let gone = c.fetch_add.ensures.2 in
    (ap (λ m. m.0.first) gone ∙ ap (λ m. m.0.first) left.1, ap (λ m. m.0.end) gone ∙ ap (λ m. m.0.end) left.1)

pub returns-clause-seen : goal.returns-clause-seen
returns-clause-seen g c = let slot = c.args.self.slot in let v = slot.seat.me.0 in
    let now = c.exchange.ensures.3 ∙ ap (λ z. (v, (0, Some c.args.self.value) ∷ rest z)) slot.taken_out.1 in
    let left = recorded g.V.History.entries g.V.History.maker v _ _ c.args.self.value now slot.taken_out.0 c.store.ensures.2 in
    ap (λ m. m.0.seen) c.fetch_add.ensures.2 ∙ ap (λ m. m.0.seen) left.1
