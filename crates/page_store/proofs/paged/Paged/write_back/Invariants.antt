use Rattle.std.proofs.Common.{◌≡◌, ◌<◌, ℕ, false, List, length}
use Rattle.cache_ident.specs.declared.names.Frame.{Frame}
use Rattle.page_store.specs.declared.page.Page.{Page}
use Rattle.page_store.specs.Kept.{HasPage, Means}
use Rattle.page_store.proofs.paged.Paged.write_back.Given as goal

-- the slots before are as the store has them, and nothing else changed
abbrev pub invariant-loop-place : goal.invariant-loop-place
invariant-loop-place g l =
    let store = g.K.Store in
    record {
      memory : (memory : List ℕ) → Means l.fn.self (store.bytes_held l.fn.store) memory → Means l.self (store.bytes_held l.store) memory;
      clean : (q : ℕ) (f : Frame) (page : Page) → q < l.place → HasPage l.self.slots q f page → page.changed ≡ false;
      most : length l.self.slots ≡ length l.fn.self.slots;
      frames : l.self.frames ≡ l.fn.self.frames;
      same : store.frames l.store ≡ store.frames l.fn.store;
      faultless : store.faults l.store ≡ store.faults l.fn.store;
    }
