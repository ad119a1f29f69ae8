-- The thread that is loaded with a ticket's identifier, and why a page of it isn't copied.
use Rattle.std.proofs.Common.{◌≡◌, ℕ, Bool, true, false, not, Bor, Option, Some, None, Result, Ok, Err, slice_get, refl, sym, ◌∙◌, ap}
use Rattle.std.specs.Prelude.{if◌then◌else◌, IfOk}
use Rattle.std.specs.Option.{is_some, option_and_then, option_map, option_or}
use Rattle.cache_ident.specs.declared.idents.Ident.{Ident}
use Rattle.cache_ident.specs.declared.idents.Kind.{Kind}
use Rattle.cache_ident.specs.declared.idents.Kind.TheVariants as kind
use Rattle.cache_ident.specs.declared.idents.Standing.{Standing}
use Rattle.cache_ident.specs.declared.idents.Standing.TheVariants.{Live, Left, Never}
use Rattle.cache_ident.specs.declared.names.Name.TheVariants as name
use Rattle.cache_ident.specs.declared.names.Vpn.{Vpn}
use Rattle.cache_ident.specs.Rolls.{standing_in}
use Rattle.cache_ident.specs.Residents.{IsIdentResident, IsNameResident, IsResident}
use Rattle.thread_cache.specs.rv32_exec.specs.declared.contexts.Context.{Context}
use Rattle.flat_rules.specs.flat_state.specs.declared.records.FlatThread.{FlatThread}
use Rattle.board_threads.specs.run_journal.specs.Legal.{is_kind}
use Rattle.thread_cache.specs.declared.ThreadRec.{ThreadRec}
use Rattle.board_threads.specs.desc_stores.specs.declared.items.ItemRef.{ItemRef}
use Rattle.board_threads.specs.desc_stores.specs.declared.items.Item.TheVariants as item
use Rattle.board_threads.specs.desc_stores.specs.Contents.{content_of, item_as, residents_of, Contents}
use Rattle.board_threads.specs.desc_stores.specs.Items.{shown}
use Rattle.board_threads.specs.desc_stores.specs.Sound.{IsExactlyOne}
use Rattle.board_threads.specs.shown_state.specs.Shown.{flat_thread, thread_of}
use Rattle.board_threads.specs.shown_state.proofs.LookupLemmas.{found_thread}
use Rattle.board_threads.specs.store_residents.proofs.ContentLemmas.{resident_item}
use Rattle.board_threads.specs.store_residents.proofs.ResidentLemmas.{live_iff}
use Rattle.board_threads.specs.board_ops.specs.declared.refusals.Refused.{Refused}
use Rattle.board_threads.specs.board_ops.specs.declared.refusals.Refused.TheVariants as why
use Rattle.board_threads.specs.board_checks.specs.Identifiers.{gone_by, not_a, not_live, thread_as, wrong_kind}
use Rattle.board_threads.specs.board_checks.proofs.FirstLemmas.{first_fails, first_passes}
use Rattle.board_threads.specs.board_checks.proofs.IdentifierLemmas.{item_live, item_resident, live_there, thread_is}
use Rattle.board_threads.specs.board_checks.proofs.WhyLaws.{is_live}
use Rattle.board_threads.specs.cached_machine.specs.Cached.{state_of}
use Rattle.board_threads.specs.cached_machine.specs.Posts.{mark_in, mark_of}
use Rattle.board_threads.specs.cached_machine.proofs.LoadedLaws.{loads, not_loaded}
use Rattle.board_threads.specs.board_core.specs.Core.{contents_of, Recorded}
use Rattle.board_commits.specs.Refusals.{absent, moved, moved_from}

-- ---- the first of some tests

module _ (a b c d e : Option Refused) where
  abbrev pub first_of : Option Refused
  first_of = option_or a (option_or b (option_or c (option_or d e)))

  module _ (one : None ≡ a) where
    pub at_second : (x : Refused) → Some x ≡ b → Some x ≡ first_of
    at_second x is = first_passes a (option_or b (option_or c (option_or d e))) (Some x) one (first_fails b (option_or c (option_or d e)) x is)

    module _ (two : None ≡ b) where
      pub at_third : (x : Refused) → Some x ≡ c → Some x ≡ first_of
      at_third x is = first_passes a (option_or b (option_or c (option_or d e))) (Some x) one (first_passes b (option_or c (option_or d e)) (Some x) two (first_fails c (option_or d e) x is))

      module _ (three : None ≡ c) where
        pub at_fourth : (x : Refused) → Some x ≡ d → Some x ≡ first_of
        at_fourth x is = first_passes a (option_or b (option_or c (option_or d e))) (Some x) one (first_passes b (option_or c (option_or d e)) (Some x) two (first_passes c (option_or d e) (Some x) three (first_fails d e x is)))

        pub at_fifth : None ≡ d → (o : Option Refused) → o ≡ e → o ≡ first_of
        at_fifth four o is = first_passes a (option_or b (option_or c (option_or d e))) o one (first_passes b (option_or c (option_or d e)) o two (first_passes c (option_or d e) o three (first_passes d e o four is)))

or_none : (a : Option Refused) → option_or a None ≡ a
or_none None = refl
or_none (Some x) = refl

-- ---- the identifier

-- one that is of a thread is refused only where it isn't live
right_kind : (ident : Ident) → ident.kind ≡ kind.Thread → wrong_kind kind.Thread ident ≡ None
unfolding wrong_kind
right_kind ident is = ap (λ (k : Kind). if is_kind k kind.Thread then None else Some (why.WrongKind ident)) is

pub thread_tested : (c : Contents) (ident : Ident) → ident.kind ≡ kind.Thread → not_a kind.Thread c ident ≡ not_live c ident
thread_tested c ident is = ap (option_or (not_live c ident)) (right_kind ident is) ∙ or_none (not_live c ident)

module _ (c : Contents) (one : IsExactlyOne c) (ident : Ident) where
  -- what is live is resident
  pub resident_if : None ≡ not_live c ident → IsIdentResident (residents_of c) ident
  resident_if passes = (live_iff c one.sound ident).0 (is_live c ident passes)

  -- what is loaded with it is under its name
  pub content_as : (found : ThreadRec) → item_as c ident ≡ Some (item.Thread found) → content_of c (name.Thread found.no) ≡ Some (item.Thread found)
  content_as found is =
      let r = item_resident c ident one (item.Thread found) is in
      ap (content_of c) (sym r.3) ∙ sym (resident_item c one r.0 r.1) ∙ ap (item_as c) r.2 ∙ is

  -- nothing is loaded with one that isn't live
  pub gone_if : (o : Option ItemRef) → option_map shown o ≡ item_as c ident → (gone : Bool) → is_some o ≡ not gone → gone ≡ is_some (not_live c ident)
  unfolding not_live
  gone_if (Some it) is true some = absurd (cc)
  gone_if (Some it) is false some = sym (ap (λ (s : Standing). is_some (gone_by ident s)) (item_live c ident one (shown it) (sym is)))
  gone_if None none false some = absurd (cc)
  gone_if None none true some = by (standing_in c.issued ident) refl
    where
      by : (s : Standing) → standing_in c.issued ident ≡ s → true ≡ is_some (gone_by ident s)
      by Live live = absurd (live_there c ident one live none)
      by (Left at) left = refl
      by Never never = refl

-- ---- what is known of the thread that is found

module _ (c : Contents) (one : IsExactlyOne c) (ident : Ident) where
  pub ok_named : (r : Result (Bor ThreadRec) Refused) → IfOk r (λ found. item_as c ident ≡ Some (item.Thread found.now)) → IfOk r (λ found. IsResident (residents_of c) ident (name.Thread found.now.no))
  ok_named (Ok found) is = item_resident c ident one (item.Thread found.now) is
  ok_named (Err w) is = tt

  pub ok_content : (r : Result (Bor ThreadRec) Refused) → IfOk r (λ found. item_as c ident ≡ Some (item.Thread found.now)) → IfOk r (λ found. content_of c (name.Thread found.now.no) ≡ Some (item.Thread found.now))
  ok_content (Ok found) is = content_as c one ident found.now is
  ok_content (Err w) is = tt

  pub ok_shown : (r : Result (Bor ThreadRec) Refused) → IfOk r (λ found. item_as c ident ≡ Some (item.Thread found.now)) → IfOk r (λ found. thread_as c ident ≡ Some (flat_thread found.now))
  ok_shown (Ok found) is = thread_is c ident found.now is
  ok_shown (Err w) is = tt

-- it is the machine's thread of its number
pub thread_there : (b : Recorded) → IsExactlyOne (contents_of b) → (found : ThreadRec) → content_of (contents_of b) (name.Thread found.no) ≡ Some (item.Thread found) → slice_get (state_of b.machine).threads found.no.0 ≡ Some (flat_thread found)
thread_there b one found is = found_thread (Some b.machine.machine) b.machine.memory (contents_of b) one found.no.0 ∙ ap thread_of is

-- and its processor is the one that it names
pub mark_is : (c : Contents) (found : ThreadRec) → content_of c (name.Thread found.no) ≡ Some (item.Thread found) → mark_of c found.no ≡ found.on_cpu
mark_is c found is = ap mark_in is

-- so it has moved where that is another one
pub moved_is : (c : Contents) (ident : Ident) (found : ThreadRec) (cpu : ℕ) (first : Context) → IsResident (residents_of c) ident (name.Thread found.no) → content_of c (name.Thread found.no) ≡ Some (item.Thread found) → thread_as c ident ≡ Some (flat_thread found)
    → moved_from found.on_cpu cpu first found.context ≡ option_and_then (moved c cpu first) (thread_as c ident)
unfolding moved
moved_is c ident found cpu first r is shows =
    ap (λ (on : Option ℕ). moved_from on cpu first found.context) (sym (mark_is c found is))
    ∙ ap (option_and_then (moved c cpu first)) (sym shows)

-- ---- why a page isn't copied

module _ (c : Contents) (vpn : Vpn) (t : FlatThread) where
  absent_if : (IsNameResident (residents_of c) (name.Mapping t.space vpn) → ⊥) → Some (why.NotLoaded vpn) ≡ absent c vpn t
  unfolding absent
  absent_if never =
      ap (λ (b : Bool). if b then None else Some (why.NotLoaded vpn)) (sym (not_loaded (residents_of c) (name.Mapping t.space vpn) (λ r there named. never (r, there, named))))

  there_if : IsNameResident (residents_of c) (name.Mapping t.space vpn) → None ≡ absent c vpn t
  unfolding absent
  there_if r = ap (λ (b : Bool). if b then None else Some (why.NotLoaded vpn)) (sym (loads (residents_of c) (name.Mapping t.space vpn) r.0 r.1 r.2))

  module _ (ident : Ident) (passes : None ≡ not_live c ident) (shows : thread_as c ident ≡ Some t) where
    pub page_refused : (IsNameResident (residents_of c) (name.Mapping t.space vpn) → ⊥) → Some (why.NotLoaded vpn) ≡ option_or (not_live c ident) (option_and_then (absent c vpn) (thread_as c ident))
    page_refused never = first_passes (not_live c ident) (option_and_then (absent c vpn) (thread_as c ident)) (Some (why.NotLoaded vpn)) passes
        (absent_if never ∙ ap (option_and_then (absent c vpn)) (sym shows))

    pub page_passes : IsNameResident (residents_of c) (name.Mapping t.space vpn) → None ≡ option_or (not_live c ident) (option_and_then (absent c vpn) (thread_as c ident))
    page_passes r = first_passes (not_live c ident) (option_and_then (absent c vpn) (thread_as c ident)) None passes
        (there_if r ∙ ap (option_and_then (absent c vpn)) (sym shows))
