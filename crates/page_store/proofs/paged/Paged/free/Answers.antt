use Rattle.std.proofs.Common.{◌≡◌, ◌<◌, ℕ, length, ap, sym, ◌∙◌, subst, arith}
use Rattle.page_store.specs.Kept.{HasPage, IsFree, Kept, Means}
use Rattle.page_store.proofs.Changes.{fewer, freed, freed_means, freed_size}
use Rattle.page_store.proofs.paged.Paged.free.Goals as goal

pub behind-self-inside-requires : goal.behind-self-inside-requires
behind-self-inside-requires g c =
    let low : c.self.inside.oldest < length c.args.self.now.slots = subst (λ (k : Kept). c.self.inside.oldest < length k.slots) c.self.view_is c.self.invariant.0 in
    let size = freed_size c.args.self.now.slots c.write_at.new.self.slots c.give_up.new.self.slots c.self.inside.oldest low c.in_ok-write_at.ensures.slots c.give_up.ensures.slots in
    let there : length c.self-2.inside.slots.items ≡ length c.give_up.new.self.slots = ap (λ (k : Kept). length k.slots) c.self-2.view_is in
    omega (arith, low, size, there, c.len.ensures, c.self-2.inside.slots.ok.0)

pub returns-clause-memory : goal.returns-clause-memory
returns-clause-memory g c memory means =
    let low : c.self.inside.oldest < length c.args.self.now.slots = subst (λ (k : Kept). c.self.inside.oldest < length k.slots) c.self.view_is c.self.invariant.0 in
    let held = g.K.Store.bytes_held c.write_at.new.store in
    let m : Means c.write_at.new.self held memory = c.in_ok-write_at.ensures.memory memory means in
    let after = freed_means c.args.self.now.slots c.write_at.new.self.slots c.give_up.new.self.slots c.self.inside.oldest low c.in_ok-write_at.ensures.slots c.give_up.ensures.slots c.write_at.new.self.frames held memory m in
    let became : Means c.give_up.new.self held memory = subst (λ (n : ℕ). Means (record { frames = n; slots = c.give_up.new.self.slots }) held memory) (sym c.give_up.ensures.frames) after in
    subst (λ (k : Kept). Means k held memory) (sym c.self-2.view_is) became

pub returns-clause-free : goal.returns-clause-free
returns-clause-free g c =
    let low : c.self.inside.oldest < length c.args.self.now.slots = subst (λ (k : Kept). c.self.inside.oldest < length k.slots) c.self.view_is c.self.invariant.0 in
    subst (λ (k : Kept). IsFree k.slots c.self.inside.oldest) (sym c.self-2.view_is)
    (freed c.args.self.now.slots c.write_at.new.self.slots c.give_up.new.self.slots c.self.inside.oldest low c.in_ok-write_at.ensures.slots c.give_up.ensures.slots)

pub returns-clause-others : goal.returns-clause-others
returns-clause-others g c frame kept =
    let low : c.self.inside.oldest < length c.args.self.now.slots = subst (λ (k : Kept). c.self.inside.oldest < length k.slots) c.self.view_is c.self.invariant.0 in
    let has = subst (λ (k : Kept). HasPage k.slots kept.0 frame kept.1) c.self-2.view_is kept.2 in
    let before = fewer c.args.self.now.slots c.write_at.new.self.slots c.give_up.new.self.slots c.self.inside.oldest low c.in_ok-write_at.ensures.slots c.give_up.ensures.slots kept.0 frame kept.1 has in
    (kept.0, before.0, before.1)

pub returns-clause-most : goal.returns-clause-most
returns-clause-most g c =
    let low : c.self.inside.oldest < length c.args.self.now.slots = subst (λ (k : Kept). c.self.inside.oldest < length k.slots) c.self.view_is c.self.invariant.0 in
    let size = freed_size c.args.self.now.slots c.write_at.new.self.slots c.give_up.new.self.slots c.self.inside.oldest low c.in_ok-write_at.ensures.slots c.give_up.ensures.slots in
    ap (λ (k : Kept). length k.slots) c.self-2.view_is ∙ size
