use Rattle.std.proofs.Common.{◌≡◌, ◌<◌, ℕ, false, Result, Ok, Err, Option, Some, None, refl, sym, subst, inl, arith}
use Rattle.std.specs.Prelude.{is_some, IfOk}
use Rattle.cache_ident.specs.declared.names.Frame.{Frame}
use Rattle.page_store.specs.Kept.{HasPage, IsFor, IsFree, IsKept, Kept}
use Rattle.page_store.proofs.Changes.{noted_none}
use Rattle.page_store.proofs.paged.Paged.place_for.Goals as goal

-- a free slot is for a frame whose page isn't kept
for_if : {E : Type 0} (r : Result ℕ E) (k : Kept) (f : Frame) → f.0 < k.frames → (IsKept k f → ⊥) → IfOk r (IsFree k.slots) → IfOk r (λ place. IsFor k place f)
for_if (Ok place) k f within absent free = record { within = within; page = free.0; there = free.1; was = inl free.2; one = λ q pg has. absurd (absent (q, pg, has)) }
for_if (Err e) k f within absent free = tt

none_noted : {X : Type 0} (r : Option X) → ((x : X) → r ≡ Some x → ⊥) → is_some r ≡ false
none_noted None never = refl
none_noted (Some x) never = absurd (never x refl)

pub returns-clause-place : goal.returns-clause-place
returns-clause-place g c =
    let q = c.self.inside in
    let within : c.args.frame.0 < c.free.new.self.frames = omega (arith, c.requires.there, c.free.ensures.frames) in
    let absent : IsKept c.free.new.self c.args.frame → ⊥ = λ kept.
    let before = c.free.ensures.others c.args.frame kept in
    let has = subst (λ (x : Kept). HasPage x.slots before.0 c.args.frame before.1) (sym c.self.view_is) before.2 in
    noted_none q.slots.items q.places.items c.self.invariant.1 c.args.frame c.index.result.now c.index.ensures (none_noted c.index.result.now c.in_default.not-Some) before.0 before.1 has in
    for_if c.free.result c.free.new.self c.args.frame within absent c.free.ensures.free
