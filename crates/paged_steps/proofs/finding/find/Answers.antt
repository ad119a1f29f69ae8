use Rattle.std.proofs.Common.{◌≡◌, ◌≤◌, ◌<◌, ◌*◌, ℕ, Bool, true, false, not, List, length, Contains, Some, slice_get, refl, sym, ap, ◌∙◌, subst, inl, inr, arith}
use Rattle.std.specs.Prelude.{count_by}
use Rattle.std.proofs.lemmas.Bool.{cases_eq}
use Rattle.std.proofs.lemmas.List.{length-set}
use Rattle.std.proofs.lemmas.Option.{slice_get_within}
use Rattle.rv32_exec.specs.declared.statuses.Status.TheVariants.{Ready}
use Rattle.flat_state.specs.declared.records.FlatThread.{FlatThread}
use Rattle.flat_state.proofs.Places.{get-set_other}
use Rattle.memory_laws.specs.Apart.{over}
use Rattle.quantum.specs.page_views.specs.Views.{View}
use Rattle.paged_steps.specs.declared.looking.Next.TheVariants.{Held}
use Rattle.paged_steps.specs.Knowing.{AreWatched}
use Rattle.paged_steps.specs.Nexts.{DoesSo}
use Rattle.paged_steps.proofs.Knowing.{held_is, held_over}
use Rattle.paged_steps.proofs.Orders.{fewer_left, none_run, ready_is}
use Rattle.paged_steps.proofs.Taking.{row_frame}
use Rattle.paged_steps.proofs.finding.find.Goals as goal
use Rattle.paged_steps.proofs.finding.find.Goals.{in-Held, in_default-matches}

pub loop-no-init : goal.loop-no-init
loop-no-init g c = record {
  known = λ m means knows. knows;
  memory = λ m means. means;
  watched = (let most = c.requires.watched in let size = c.requires.frames.size in omega (arith, most, size));
  many = refl;
  last = refl;
  room = refl;
  frames = c.requires.frames;
  faultless = refl;
}

pub look-requires-clause-ready : goal.look-requires-clause-ready
look-requires-clause-ready g c = λ t here.
    let found = c.in-Some.ensures.some in
    let there = found.there in
    let same : found.thread ≡ t = (cc) in
    subst (λ (x : FlatThread). x.status ≡ Ready) same (ready_is found.thread.status found.ready)

pub hold-requires-clause-frames : goal.hold-requires-clause-frames
hold-requires-clause-frames g c = λ v there.
    let found = c.in-Some.ensures.some in
    let did = c.in_ok-next.ensures in
    let within = subst (λ (vs : List View). Contains vs v) c.views.ensures.views there in
    let low = row_frame c.args.tables.now found.thread.space c.look.new.paged (g.K.Store.frames c.look.new.store) v c.holds.ensures did.frames ((did.ahead found.thread found.there).rows v within) in
    let size = did.frames.size in
    let most = c.loop-no.invariant.watched in
    omega (arith, low, size, most)

pub loop-no-preserved : goal.loop-no-preserved
loop-no-preserved g c =
    let before = c.loop-no.invariant in
    let did = c.in_ok-next.ensures in
    let held = c.loop-no.order.held.items in
    let n = c.in-Some.no.0 in
    let tables = c.args.tables.now in
    let q = c.look.new.quantum in
    let watched = c.hold.new.self.watched.items in
    let is : c.in_ok-next.next ≡ Held = elim c.match-matches.branch [
      | in-Held w ↦ w.in-Held.is
      | in_default-matches w ↦ absurd (let e = w.matches-is in let f = c.if-not-matches.false in cc)
    ] in
    let now_watched : AreWatched watched q.views = subst (AreWatched watched) c.views.ensures.views c.hold.ensures.watched in
    record {
      known = λ m means knows k t there here. elim (cases_eq k n) [
        | inl same ↦
            let at : slice_get tables.threads n ≡ Some t = ap (slice_get tables.threads) (sym same) ∙ here in
            record {
              by = q;
              held = held_over tables m t q (subst (DoesSo tables t q) is (did.does t at));
              copies = did.copies m (before.memory m means);
              watched = now_watched;
            }
        | inr apart ↦
            let known = before.known m means knows k t (sym (get-set_other held n k true apart) ∙ ap (λ (xs : List Bool). slice_get xs k) (sym c.hold.ensures.held) ∙ there) here in
            record { by = known.by; held = known.held; copies = known.copies; watched = λ v within. c.hold.ensures.more v.frame.0 (known.watched v within) }
      ];
      memory = λ m means. did.memory m (before.memory m means);
      watched = subst (λ (len : ℕ). length tables.memory ≤ 4096 * len) (sym c.hold.ensures.len) before.watched;
      many = ap length c.hold.ensures.held ∙ length-set held n true ∙ before.many;
      last = ap (λ v. length v.items) c.hold.ensures.last ∙ before.last;
      room = did.room ∙ before.room;
      frames = did.frames;
      faultless = did.faultless ∙ before.faultless;
    }

pub loop-no-smaller : goal.loop-no-smaller
loop-no-smaller g c =
    subst (λ (xs : List Bool). count_by not xs < count_by not c.loop-no.order.held.items) (sym c.hold.ensures.held) (fewer_left c.loop-no.order.held.items c.in-Some.no.0 c.in-Some.ensures.some.free)

pub returns-clause-nobody : goal.returns-clause-nobody
returns-clause-nobody g c = λ m means knows.
    let tables = c.args.tables.now in
    none_run (over tables m) tables.threads (λ n t here ready.
    held_is (over tables m) t c.loop-no.order.watched.items (c.loop-no.invariant.known m means knows n t (c.in_default.ensures.none n t (slice_get_within tables.threads n t here) here ready) here))
