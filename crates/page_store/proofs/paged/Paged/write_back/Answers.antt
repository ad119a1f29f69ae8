use Rattle.std.proofs.Common.{◌<◌, length, ap, ◌∙◌, arith}
use Rattle.std.proofs.lemmas.Option.{slice_get_within}
use Rattle.page_store.specs.Kept.{Kept}
use Rattle.page_store.proofs.Changes.{written_more}
use Rattle.page_store.proofs.Whole.{all_written}
use Rattle.page_store.proofs.paged.Paged.write_back.Goals as goal

pub loop-place-preserved : goal.loop-place-preserved
loop-place-preserved g c =
    let before = c.loop-place.invariant in
    let call = c.in_ok-write_at.ensures in
    let low : c.loop-place.place < length c.loop-place.self.slots = omega (arith, c.loop-place-test.true, c.len-place-end.ensures, c.self.inside.slots.ok.0, ap (λ (k : Kept). length k.slots) c.self.view_is, before.most) in
    record {
      memory = λ memory means. call.memory memory (before.memory memory means);
      clean = written_more c.loop-place.self.slots c.write_at.new.self.slots c.loop-place.place low call.slots before.clean;
      most = call.most ∙ before.most;
      frames = call.frames ∙ before.frames;
      same = call.store_frames ∙ before.same;
      faultless = call.faultless ∙ before.faultless;
    }

pub returns-clause-memory : goal.returns-clause-memory
returns-clause-memory g c memory means =
    let before = c.loop-place.invariant in
    all_written c.loop-place.self (g.K.Store.bytes_held c.loop-place.store) memory (before.memory memory means) (λ f q page has.
    before.clean q f page (omega (arith, slice_get_within c.loop-place.self.slots q page has.there, c.loop-place-test.false, c.len-place-end.ensures, c.self.inside.slots.ok.0, ap (λ (k : Kept). length k.slots) c.self.view_is, before.most)) has)
