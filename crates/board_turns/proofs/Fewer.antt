-- A commit that is refused for want of steps has more of them than are left.
use Rattle.std.proofs.Common.{◌≡◌, ◌⊎◌, ℕ, ◌-◌, ◌<◌, Bool, true, false, List, Option, Some, None, refl, subst, inl, inr}
use Rattle.std.specs.Prelude.{if◌then◌else◌, find, nat_lt}
use Rattle.std.specs.Option.{option_and_then, option_map, option_or}
use Rattle.std.proofs.lemmas.Bool.{ltb-true}
use Rattle.cache_ident.specs.declared.idents.Ident.{Ident}
use Rattle.cache_ident.specs.declared.idents.Standing.{Standing}
use Rattle.cache_ident.specs.declared.idents.Standing.TheVariants.{Live, Left, Never}
use Rattle.cache_ident.specs.Rolls.{standing_in}
use Rattle.rv32_exec.specs.declared.contexts.Context.{Context}
use Rattle.flat_state.specs.declared.records.FlatThread.{FlatThread}
use Rattle.page_views.specs.Views.{View}
use Rattle.cache_board.specs.board_ops.specs.declared.refusals.Refused.{Refused}
use Rattle.cache_board.specs.board_ops.specs.declared.refusals.Refused.TheVariants as why
use Rattle.cache_board.specs.desc_stores.specs.Contents.{Contents}
use Rattle.cache_board.specs.cached_machine.specs.Posts.{mark_of}
use Rattle.quantum.specs.Ahead.{Ahead}
use Rattle.cache_board.specs.board_core.specs.Core.{contents_of, Recorded}
use Rattle.cache_board.specs.board_core.specs.Refusals.{over}
use Rattle.cache_board.specs.board_checks.specs.Identifiers.{gone_by, not_live, thread_as}
use Rattle.cache_board.specs.board_threads.specs.declared.tickets.Ticket.{Ticket}
use Rattle.cache_board.specs.board_commits.specs.Refusals.{changed, is_changed, is_gone, is_in_place, moved, not_loaded, refusal_of_commit}

-- of two tests one gave it
either : (a b : Option Refused) (x : Refused) → option_or a b ≡ Some x → (a ≡ Some x) ⊎ (b ≡ Some x)
either None b x is = inr is
either (Some y) b x is = inl is

module _ (left : ℕ) where
  live_so : (c : Contents) (ident : Ident) → not_live c ident ≡ Some (why.Over left) → ⊥
  unfolding not_live
  live_so c ident is = by (standing_in c.issued ident) is
    where
      by : (s : Standing) → gone_by ident s ≡ Some (why.Over left) → ⊥
      by Live is = cc
      by (Left at) is = cc
      by Never is = cc

  moved_so : (c : Contents) (cpu : ℕ) (first : Context) (o : Option FlatThread) → option_and_then (moved c cpu first) o ≡ Some (why.Over left) → ⊥
  unfolding moved
  moved_so c cpu first None is = cc
  moved_so c cpu first (Some t) is = by (is_in_place (mark_of c t.no) cpu first t.context) is
    where
      by : (b : Bool) → (if b then None else Some (why.Moved (mark_of c t.no))) ≡ Some (why.Over left) → ⊥
      by true is = cc
      by false is = cc

  loaded_so : (c : Contents) (vs : List View) → not_loaded c vs ≡ Some (why.Over left) → ⊥
  unfolding not_loaded
  loaded_so c vs is = by (find (is_gone c) vs) is
    where
      by : (o : Option View) → option_map (λ (v : View). why.NotLoaded v.vpn) o ≡ Some (why.Over left) → ⊥
      by None is = cc
      by (Some v) is = cc

  changed_so : (memory : List ℕ) (vs : List View) → changed memory vs ≡ Some (why.Over left) → ⊥
  unfolding changed
  changed_so memory vs is = by (find (is_changed memory) vs) is
    where
      by : (o : Option View) → option_map (λ (v : View). why.Changed v.frame) o ≡ Some (why.Over left) → ⊥
      by None is = cc
      by (Some v) is = cc

  over_so : (b : Recorded) (steps : ℕ) → over b steps ≡ Some (why.Over left) → left < steps
  unfolding over
  over_so b steps is = by (nat_lt (b.limit - b.steps) steps) refl is
    where
      by : (t : Bool) → nat_lt (b.limit - b.steps) steps ≡ t → (if t then Some (why.Over (b.limit - b.steps)) else None) ≡ Some (why.Over left) → left < steps
      by true test is = let same : b.limit - b.steps ≡ left = cc in subst (λ (n : ℕ). n < steps) same (ltb-true (b.limit - b.steps) steps test)
      by false test is = absurd (cc)

  pub fewer_left : (b : Recorded) (ticket : Ticket) (a : Ahead) → refusal_of_commit b ticket a ≡ Some (why.Over left) → left < a.steps
  fewer_left b ticket a is =
      let c = contents_of b in
      let live : Option Refused = not_live c ticket.thread in
      let placed : Option Refused = option_and_then (moved c ticket.cpu a.first) (thread_as c ticket.thread) in
      let loaded : Option Refused = not_loaded c a.views in
      let same : Option Refused = changed b.machine.memory a.views in
      let few : Option Refused = over b a.steps in
      elim (either live (option_or placed (option_or loaded (option_or same few))) (why.Over left) is) [
        | inl dead ↦ absurd (live_so c ticket.thread dead)
        | inr one ↦ elim (either placed (option_or loaded (option_or same few)) (why.Over left) one) [
          | inl gone ↦ absurd (moved_so c ticket.cpu a.first (thread_as c ticket.thread) gone)
          | inr two ↦ elim (either loaded (option_or same few) (why.Over left) two) [
            | inl absent ↦ absurd (loaded_so c a.views absent)
            | inr three ↦ elim (either same few (why.Over left) three) [
              | inl other ↦ absurd (changed_so b.machine.memory a.views other)
              | inr short ↦ over_so b a.steps short
            ]
          ]
        ]
      ]
