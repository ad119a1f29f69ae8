-- Where no test fails, the steps of a quantum may happen.
use Rattle.std.proofs.Common.{◌≡◌, ℕ, Bool, true, false, List, Contains, Option, Some, None, find, slice_get, refl, sym, ◌∙◌, ap, subst, arith}
use Rattle.std.specs.Prelude.{◌==◌, ◌&&◌, bytes_eq, is_some, not}
use Rattle.std.specs.Option.{option_and_then, option_eq}
use Rattle.std.proofs.lemmas.Bool.{and_parts, eqb-true}
use Rattle.std.proofs.lemmas.Option.{same_Some}
use Rattle.std.proofs.lemmas.Slice.Eq.{bytes_eq-Decides}
use Rattle.cache_ident.specs.declared.names.Name.TheVariants as name
use Rattle.cache_ident.specs.declared.names.SpaceNo.{SpaceNo}
use Rattle.cache_ident.specs.Residents.{IsIdentResident, IsResident}
use Rattle.phys_groups.specs.Memory.{page_at}
use Rattle.thread_cache.specs.rv32_exec.specs.declared.contexts.Context.{Context}
use Rattle.flat_rules.specs.flat_state.specs.declared.records.FlatThread.{FlatThread}
use Rattle.board_threads.specs.flat_laws.proofs.Members.{Contains-filter}
use Rattle.board_threads.specs.page_views.specs.Views.{View}
use Rattle.board_threads.specs.quantum.specs.Ahead.{Ahead}
use Rattle.board_threads.specs.quantum.specs.LocalRun.{touched_views, CouldRun, Shows}
use Rattle.thread_cache.specs.declared.ThreadRec.{ThreadRec}
use Rattle.board_threads.specs.desc_stores.specs.declared.items.Item.TheVariants as item
use Rattle.board_threads.specs.desc_stores.specs.Contents.{content_of, residents_of, Contents}
use Rattle.board_threads.specs.desc_stores.specs.Sound.{IsExactlyOne}
use Rattle.board_threads.specs.shown_state.specs.Shown.{flat_thread}
use Rattle.board_threads.specs.shown_state.proofs.ContentLemmas.{same_tests}
use Rattle.board_threads.specs.board_ops.specs.declared.refusals.Refused.{Refused}
use Rattle.board_threads.specs.board_ops.specs.declared.refusals.Refused.TheVariants as why
use Rattle.board_threads.specs.board_checks.specs.Identifiers.{not_live, thread_as}
use Rattle.board_threads.specs.cached_machine.specs.Cached.{state_of}
use Rattle.board_threads.specs.cached_machine.specs.Posts.{mark_of}
use Rattle.board_threads.specs.board_laws.proofs.Growing.{formed_told}
use Rattle.board_threads.specs.board_core.specs.Core.{contents_of, IsSound, Recorded}
use Rattle.board_threads.specs.board_core.specs.Growth.{AreInMemory, AreOfLoaded}
use Rattle.board_threads.specs.board_checks.proofs.FirstLemmas.{none_mapped, passes_if}
use Rattle.board_threads.specs.board_checks.proofs.WhyLaws.{by_each, by_either, by_map, is_live, live_tells, unless, IsNoWant}
use Rattle.board_threads.specs.board_core.proofs.SealLaws.{sealed_if_live}
use Rattle.board_threads.specs.declared.tickets.Ticket.{Ticket}
use Rattle.board_threads.specs.board_core.proofs.CheckLaws.{enough_left, over_tells}
use Rattle.board_commits.specs.Commits.{MayBeCommitted}
use Rattle.board_commits.specs.Refusals.{changed, is_changed, is_context, is_gone, is_in_place, moved, moved_from, not_loaded, refusal_of_commit}
use Rattle.board_threads.specs.board_core.specs.Refusals.{over}
use Rattle.board_commits.specs.Tickets.{AreOfTicket}
use Rattle.board_commits.proofs.FindLaws.{each_fails}
use Rattle.board_commits.proofs.ThreadLaws.{mark_is, resident_if, thread_there}
use Rattle.board_commits.proofs.TicketLaws.{in_memory_still, named_still, shows_still, space_is}

-- ---- tests that pass

none_there : (o : Option Refused) → is_some o ≡ false → None ≡ o
none_there None is = refl
none_there (Some x) is = absurd (cc)

on_is : (on : Option ℕ) (cpu : ℕ) → option_eq (λ a b. a == b) on (Some cpu) ≡ true → on ≡ Some cpu
on_is None cpu is = absurd (cc)
on_is (Some x) cpu is = ap (λ (n : ℕ). Some n) (eqb-true x cpu is)

context_is : (a b : Context) → is_context a b ≡ true → a ≡ b
context_is a b is =
    let parts = and_parts (bytes_eq a.regs b.regs) (a.pc == b.pc) is in
    let regs : a.regs ≡ b.regs = (bytes_eq-Decides a.regs b.regs).0 parts.0 in
    let pc : a.pc ≡ b.pc = eqb-true a.pc b.pc parts.1 in
    ap (λ (r : List ℕ). let x : Context = record { regs = r; pc = a.pc } in x) regs ∙ ap (λ (n : ℕ). let x : Context = record { regs = b.regs; pc = n } in x) pc

pub each_there : (c : Contents) (vs : List View) (v : View) → None ≡ not_loaded c vs → Contains vs v → None ≡ not_live c v.row
unfolding not_loaded
each_there c vs v passes there =
    none_there (not_live c v.row) (each_fails (is_gone c) vs v (none_mapped (λ (x : View). why.NotLoaded x.vpn) (find (is_gone c) vs) passes) there)

unchanged : (memory : List ℕ) (vs : List View) (v : View) → None ≡ changed memory vs → Contains vs v → v.touched ≡ true → page_at memory v.frame ≡ v.first
unfolding changed
unchanged memory vs v passes there touched =
    let fails = each_fails (is_changed memory) vs v (none_mapped (λ (x : View). why.Changed x.frame) (find (is_changed memory) vs) passes) there in
    sym ((bytes_eq-Decides v.first (page_at memory v.frame)).0 (by (bytes_eq v.first (page_at memory v.frame)) (ap (λ (b : Bool). b && not (bytes_eq v.first (page_at memory v.frame))) (sym touched) ∙ fails)))
  where
    by : (b : Bool) → not b ≡ false → b ≡ true
    by true is = refl
    by false is = absurd (cc)

-- a page is compared byte by byte
pub compared : (r : Bool) (xs ys : List ℕ) → (r ≡ true → xs ≡ ys) → (xs ≡ ys → r ≡ true) → r ≡ bytes_eq xs ys
compared r xs ys one way =
    let decides = bytes_eq-Decides xs ys in
    same_tests r (bytes_eq xs ys) (λ is. decides.1 (one is)) (λ is. way (decides.0 is))

-- ---- the steps

module _ (b : Recorded) (sound : IsSound b) (one : IsExactlyOne (contents_of b)) (ticket : Ticket) (a : Ahead) (are : AreOfTicket b.journal.entries ticket.thread a) (all_loaded : None ≡ not_loaded (contents_of b) a.views) where
  row_of_view : (v : View) → Contains a.views v → IsIdentResident (residents_of (contents_of b)) v.row
  row_of_view v there = resident_if (contents_of b) one v.row (each_there (contents_of b) a.views v all_loaded there)

  pub all_in_memory : AreInMemory b.machine.memory a.views
  all_in_memory v there =
      let r = row_of_view v there in
      let of = are.views v there in
      in_memory_still b sound of.space v of.copied r.0 r.1 r.2

  module _ (found : ThreadRec) (named : IsResident (residents_of (contents_of b)) ticket.thread (name.Thread found.no)) (content : content_of (contents_of b) (name.Thread found.no) ≡ Some (item.Thread found))
      (live : None ≡ not_live (contents_of b) ticket.thread)
      (in_place : None ≡ moved_from found.on_cpu ticket.cpu a.first found.context) (same : None ≡ changed b.machine.memory a.views) (enough : None ≡ over b a.steps) where
    there_now : slice_get (state_of b.machine).threads found.no.0 ≡ Some (flat_thread found)
    there_now = thread_there b one found content

    placed : (option_eq (λ x y. x == y) found.on_cpu (Some ticket.cpu) ≡ true) × (is_context found.context a.first ≡ true)
    placed = and_parts (option_eq (λ x y. x == y) found.on_cpu (Some ticket.cpu)) (is_context found.context a.first) (passes_if (is_in_place found.on_cpu ticket.cpu a.first found.context) (why.Moved found.on_cpu) in_place)

    could_run : (t : FlatThread) → slice_get (state_of b.machine).threads found.no.0 ≡ Some t → CouldRun (state_of b.machine) t a
    could_run t is = record {
      ready = (sound.marks found.no ticket.cpu (mark_is (contents_of b) found content ∙ on_is found.on_cpu ticket.cpu placed.0)).ready t is;
      context = ap (λ (x : FlatThread). x.context) (same_Some t (flat_thread found) (sym is ∙ there_now)) ∙ context_is found.context a.first placed.1;
      views = λ v touched.
          let both = Contains-filter (λ (x : View). x.touched) a.views v touched in
          let r = row_of_view v both.0 in
          let of = are.views v both.0 in
          subst (λ (s : SpaceNo). Shows (state_of b.machine) s v v.first) (sym (space_is b sound ticket.thread found.no named of.space of.of t is))
          (shows_still b sound of.space v of.copied r.0 r.1 r.2 v.first (unchanged b.machine.memory a.views v same both.0 both.1));
    }

    of_loaded : (t : FlatThread) → slice_get (state_of b.machine).threads found.no.0 ≡ Some t → AreOfLoaded b t (touched_views a.views)
    of_loaded t is v touched =
        let both = Contains-filter (λ (x : View). x.touched) a.views v touched in
        let r = row_of_view v both.0 in
        let of = are.views v both.0 in
        (r.0, r.1, named_still b sound of.space v of.copied r.0 r.1 r.2 ∙ ap (λ (s : SpaceNo). name.Mapping s v.vpn) (sym (space_is b sound ticket.thread found.no named of.space of.of t is)))

    pub may_happen : MayBeCommitted b ticket a found.no
    may_happen = record {
      named = named;
      thread = flat_thread found;
      there = there_now;
      formed = formed_told b.machine.machine b.machine.memory (contents_of b) b.sealed b.journal.entries sound.told;
      could = could_run;
      views = of_loaded;
      left = let left = enough_left b a.steps enough in let within = sound.limit in omega arith;
      sealed = sealed_if_live b sound ticket.thread (is_live (contents_of b) ticket.thread live);
    }

-- ---- no test wants memory

moved_tells : (c : Contents) (cpu : ℕ) (first : Context) (t : FlatThread) → IsNoWant (moved c cpu first t)
unfolding moved
moved_tells c cpu first t = unless (is_in_place (mark_of c t.no) cpu first t.context) (why.Moved (mark_of c t.no)) (λ is. cc)

rows_tell : (c : Contents) (vs : List View) → IsNoWant (not_loaded c vs)
unfolding not_loaded
rows_tell c vs = by_map (λ (v : View). why.NotLoaded v.vpn) (find (is_gone c) vs) (λ v is. cc)

pages_tell : (memory : List ℕ) (vs : List View) → IsNoWant (changed memory vs)
unfolding changed
pages_tell memory vs = by_map (λ (v : View). why.Changed v.frame) (find (is_changed memory) vs) (λ v is. cc)

pub commit_tells : (b : Recorded) (ticket : Ticket) (a : Ahead) → IsNoWant (refusal_of_commit b ticket a)
commit_tells b ticket a =
    by_either (not_live (contents_of b) ticket.thread) _ (live_tells (contents_of b) ticket.thread)
    (by_either (option_and_then (moved (contents_of b) ticket.cpu a.first) (thread_as (contents_of b) ticket.thread)) _ (by_each (moved (contents_of b) ticket.cpu a.first) (thread_as (contents_of b) ticket.thread) (moved_tells (contents_of b) ticket.cpu a.first))
    (by_either (not_loaded (contents_of b) a.views) _ (rows_tell (contents_of b) a.views)
    (by_either (changed b.machine.memory a.views) (over b a.steps) (pages_tell b.machine.memory a.views) (over_tells b a.steps))))
