use Rattle.std.proofs.Common.{◌≡◌, ◌-◌, ◌*◌, ◌/◌, ◌<◌, ◌≤◌, ℕ, true, false, None, length, refl, ap, sym, ◌∙◌, subst, inl, arith}
use Rattle.phys_groups.specs.Translation.{through}
use Rattle.quantum.specs.page_views.specs.Views.{can_fill, filled, View, AreCopies}
use Rattle.flat_state.specs.Translation.{reached}
use Rattle.flat_state.specs.declared.records.FlatThread.{FlatThread}
use Rattle.quantum.specs.flat_laws.proofs.Members.{contains_nothing}
use Rattle.quantum.specs.Ahead.{begun, standing, Ahead}
use Rattle.paged_steps.specs.declared.ahead.Stands.TheVariants.{Faults}
use Rattle.paged_steps.specs.Aheads.{IsAheadOf, StandsSo}
use Rattle.paged_steps.proofs.Aheads.{ahead_more, ahead_then, begun_ahead, copies_more, few_more, nonzero, ran_copies, ran_missed, ran_most, ran_within, reached_row, row_page, smaller, stands_default}
use Rattle.paged_steps.proofs.Asked.{asked_more, asked_then, has_room, no_view, IsAskedSo}
use Rattle.paged_steps.proofs.ahead.run_ahead.Goals as goal

pub loop-va-init : goal.loop-va-init
loop-va-init g c =
    let q = c.args.quantum.now in
    let u = c.thread_at-thread.result.now in
    let at = c.thread_at-thread.ensures.thread in
    let is : c.begin.new.self ≡ begun u.context q = c.begin.ensures in
    let aligned = (c.holds.ensures.threads.each c.args.no.0 u at).aligned in
    record {
      ahead = λ t here.
          let same : u ≡ t = (cc) in
          rw is (subst (λ (x : FlatThread). IsAheadOf c.args.tables.now x (begun u.context q)) same (begun_ahead c.args.tables.now u q aligned));
      asked = λ none. rw is (inl refl);
      free = rw is refl;
      within = rw is (omega arith);
      most = rw is refl;
      few = rw is (omega arith);
      memory = λ m means. means;
      copies = λ m means. rw is (λ v there. absurd (contains_nothing v there));
      frames = c.requires.frames;
      faultless = refl;
    }

pub returns-in_default : goal.returns-in_default
returns-in_default g c =
    let before = c.loop-va.invariant in
    let did = c.run.ensures in
    record {
      ahead = λ t here. ahead_then c.args.most c.loop-va.quantum c.run.new.self c.run.result did.run c.args.tables.now t did.copies (before.ahead t here);
      stands = λ t here. stands_default c.args.tables.now t c.args.most c.loop-va.quantum c.run.new.self c.run.result c.paused_at.result did.run before.free c.requires.some c.in_default.not-Miss did.store c.paused_at.ensures.signals c.paused_at.ensures.whole;
      within = ran_within c.args.most c.loop-va.quantum c.run.new.self c.run.result did.run before.within;
      memory = before.memory;
      copies = λ m means. ran_copies c.args.most c.loop-va.quantum c.run.new.self c.run.result did.run did.copies m (before.copies m means);
      room = ran_most c.args.most c.loop-va.quantum c.run.new.self c.run.result did.run ∙ before.most;
      frames = before.frames;
      faultless = before.faultless;
      fault = tt;
    }

pub returns-in-Err : goal.returns-in-Err
returns-in-Err g c =
    let before = c.loop-va.invariant in
    let did = c.run.ensures in
    let u = c.thread_at-thread.result.now in
    let at = c.thread_at-thread.ensures.thread in
    record {
      ahead = λ t here. ahead_then c.args.most c.loop-va.quantum c.run.new.self c.run.result did.run c.args.tables.now t did.copies (before.ahead t here);
      stands = λ t here.
          let same : u ≡ t = (cc) in
          subst (λ (x : FlatThread). StandsSo c.args.tables.now x c.run.new.self (Faults c.in-Err.kind c.in-Miss.access c.in-Miss.va)) same
          (ran_missed c.args.most c.loop-va.quantum c.run.new.self c.in-Miss.va c.in-Miss.access c.in-Miss.ensures.run, c.in-Err.ensures.reaches.0, c.in-Err.ensures.reaches.1);
      within = ran_within c.args.most c.loop-va.quantum c.run.new.self c.run.result did.run before.within;
      memory = before.memory;
      copies = λ m means. ran_copies c.args.most c.loop-va.quantum c.run.new.self c.run.result did.run did.copies m (before.copies m means);
      room = ran_most c.args.most c.loop-va.quantum c.run.new.self c.run.result did.run ∙ before.most;
      frames = before.frames;
      faultless = before.faultless;
      fault = tt;
    }

pub returns-then-not-can_fill : goal.returns-then-not-can_fill
returns-then-not-can_fill g c =
    let before = c.loop-va.invariant in
    let did = c.run.ensures in
    let u = c.thread_at-thread.result.now in
    let at = c.thread_at-thread.ensures.thread in
    let q = c.run.new.self in
    let row = c.in-Ok.row in
    let va = c.in-Miss.va in
    let access = c.in-Miss.access in
    let now = ahead_then c.args.most c.loop-va.quantum q c.run.result did.run c.args.tables.now u did.copies (before.ahead u at) in
    let missed = ran_missed c.args.most c.loop-va.quantum q va access c.in-Miss.ensures.run in
    let reaches : reached c.args.tables.now access u.space va ≡ through row = c.in-Ok.ensures.reaches in
    let of_page = (row_page c.args.tables.now.rows u.space (va / 4096) row (reached_row c.args.tables.now access u.space va row reaches).0).1 in
    let most : q.most ≡ c.args.quantum.now.most = ran_most c.args.most c.loop-va.quantum q c.run.result did.run ∙ before.most in
    let room : 2 ≤ q.most = omega (arith, c.requires.room, most) in
    let full : can_fill q.most q.views row.vpn ≡ false = sym c.can_fill.ensures ∙ c.if-not-can_fill.true in
    record {
      ahead = λ t here. ahead_then c.args.most c.loop-va.quantum q c.run.result did.run c.args.tables.now t did.copies (before.ahead t here);
      stands = λ t here. nonzero q.steps (λ none.
          no_view c.args.tables.now u q row access va missed of_page now.rows reaches
          (has_room c.args.tables.now u q row access va missed of_page (asked_then c.args.most c.loop-va.quantum q c.run.result did.run before.asked none) room full));
      within = ran_within c.args.most c.loop-va.quantum q c.run.result did.run before.within;
      memory = before.memory;
      copies = λ m means. ran_copies c.args.most c.loop-va.quantum q c.run.result did.run did.copies m (before.copies m means);
      room = most;
      frames = before.frames;
      faultless = before.faultless;
      fault = tt;
    }

pub fill-requires-clause-there : goal.fill-requires-clause-there
fill-requires-clause-there g c =
    let within = c.in-Ok.ensures.in_memory.within in
    let size = c.loop-va.invariant.frames.size in
    omega arith

pub loop-va-preserved : goal.loop-va-preserved
loop-va-preserved g c =
    let before = c.loop-va.invariant in
    let did = c.run.ensures in
    let more = c.in_ok-fill.ensures in
    let filled_so = more.filled in
    let u = c.thread_at-thread.result.now in
    let at = c.thread_at-thread.ensures.thread in
    let q = c.run.new.self in
    let row = c.in-Ok.row in
    let va = c.in-Miss.va in
    let access = c.in-Miss.access in
    let v : View = filled q.views row.vpn row.frame row.flags filled_so.ident filled_so.bytes None in
    let missed = ran_missed c.args.most c.loop-va.quantum q va access c.in-Miss.ensures.run in
    let reaches : reached c.args.tables.now access u.space va ≡ through row = c.in-Ok.ensures.reaches in
    let of_page = (row_page c.args.tables.now.rows u.space (va / 4096) row (reached_row c.args.tables.now access u.space va row reaches).0).1 in
    let room : can_fill q.most q.views row.vpn ≡ true = sym c.can_fill.ensures ∙ c.if-not-can_fill.false in
    let pages : c.fill.new.paged.frames ≡ c.loop-va.paged.frames = more.frames in
    record {
      ahead = λ t here.
          let same : u ≡ t = (cc) in
          let goes = subst (λ (x : FlatThread). reached c.args.tables.now access x.space va ≡ through row) same reaches in
          subst (IsAheadOf c.args.tables.now t) (sym filled_so.is)
          (ahead_more c.args.tables.now t q row access va goes filled_so.ident filled_so.bytes (ahead_then c.args.most c.loop-va.quantum q c.run.result did.run c.args.tables.now t did.copies (before.ahead t here)));
      asked = subst (λ (x : Ahead). x.steps ≡ 0 → IsAskedSo x) (sym filled_so.is) (λ none.
          asked_more c.args.tables.now u q row access va missed of_page (asked_then c.args.most c.loop-va.quantum q c.run.result did.run before.asked none) room v refl);
      free = ap (λ (x : Ahead). standing x.paused) filled_so.is ∙ ap (λ (x : Ahead). standing x.paused) c.in-Miss.ensures.run.took;
      within = subst (λ (x : Ahead). x.steps ≤ c.args.most) (sym filled_so.is) (ran_within c.args.most c.loop-va.quantum q c.run.result did.run before.within);
      most = ap (λ (x : Ahead). x.most) filled_so.is ∙ ran_most c.args.most c.loop-va.quantum q c.run.result did.run ∙ before.most;
      few = subst (λ (x : Ahead). length x.views ≤ x.most) (sym filled_so.is) (few_more q v room);
      memory = λ m means. more.memory m (before.memory m means);
      copies = λ m means. subst (λ (x : Ahead). AreCopies m x.views) (sym filled_so.is)
          (copies_more m q row filled_so.ident filled_so.bytes (ran_copies c.args.most c.loop-va.quantum q c.run.result did.run did.copies m (before.copies m means)) (filled_so.of m (before.memory m means)));
      frames = record { size = before.frames.size ∙ ap (λ (n : ℕ). 4096 * n) (sym pages); same = more.store_frames ∙ before.frames.same ∙ sym pages };
      faultless = more.faultless ∙ before.faultless;
    }

pub loop-va-smaller : goal.loop-va-smaller
loop-va-smaller g c =
    let did = c.run.ensures in
    let filled_so = c.in_ok-fill.ensures.filled in
    let q = c.run.new.self in
    let row = c.in-Ok.row in
    let v : View = filled q.views row.vpn row.frame row.flags filled_so.ident filled_so.bytes None in
    let room : can_fill q.most q.views row.vpn ≡ true = sym c.can_fill.ensures ∙ c.if-not-can_fill.false in
    subst (λ (x : Ahead). x.most - length x.views < c.loop-va.quantum.most - length c.loop-va.quantum.views) (sym filled_so.is)
    (smaller c.loop-va.quantum q v did.copies.views (ran_most c.args.most c.loop-va.quantum q c.run.result did.run) room)
