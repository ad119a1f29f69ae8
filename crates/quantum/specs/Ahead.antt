-- A run ahead: what it has come to, what a step makes of it, and where it pauses.
use Rattle.std.specs.Prelude.{◌≡◌, ℕ, zero, suc, ◌+◌, ◌*◌, ◌/◌, ◌%◌, ◌<◌, ◌&&◌, Bool, true, false, if◌then◌else◌, nat_le, List, [], ◌∷◌, ◌++◌, drop, map, replicate, Option, Some, None}
use Rattle.std.specs.Option.{option_or}
use Rattle.cache_ident.specs.declared.idents.Ident.{Ident}
use Rattle.cache_ident.specs.declared.names.Frame.{Frame}
use Rattle.cache_ident.specs.declared.names.Vpn.{Vpn}
use Rattle.phys_groups.specs.declared.rows.Flags.{Flags}
use Rattle.signal_pages.specs.Signals.{is_signalling}
use Rattle.rv32_exec.specs.declared.contexts.Context.{Context}
use Rattle.rv32_exec.specs.declared.statuses.Access.TheVariants.{Fetch, Write}
use Rattle.rv32_exec.specs.declared.spaces.Width.TheVariants.{Word}
use Rattle.rv32_exec.specs.declared.actions.Action.{Action}
use Rattle.rv32_exec.specs.declared.actions.Action.TheVariants.{Store}
use Rattle.rv32_exec.specs.declared.steps.Stepped.{Stepped}
use Rattle.rv32_exec.specs.declared.steps.Stepped.TheVariants as steps
use Rattle.rv32_exec.specs.Pages.{Page, stored, touched_at}
use Rattle.rv32_exec.specs.Registers.{next_of}
use Rattle.rv32_exec.specs.Steps.{After, after_step}
use Rattle.flat_laws.specs.flat_state.specs.Signals.{next_action}
use Rattle.page_views.specs.Views.{all_dated, as_happened, copies_of, filled, nothing_kept, pages_of_views, view_through, AreKept, Dated, IsKeptSince, Table, View}
use Rattle.quantum.specs.declared.ahead.Went.{Went}
use Rattle.quantum.specs.declared.paused.Paused.{Paused}
use Rattle.quantum.specs.declared.paused.SignalStore.{SignalStore}
use Rattle.quantum.specs.declared.paused.Paused.TheVariants.{Limit, Call, Stopped, Miss, Signal}

-- what a contract sees of a run ahead: the context that it began with and the one now, how many views there may be, the views,
-- what is kept for each place behind them, how many steps it took, and the last answer
pub record Ahead : Type 0 where
  pub first : Context
  pub context : Context
  pub most : ℕ
  pub views : List View
  pub kept : List (Option Dated)
  pub steps : ℕ
  pub paused : Option Paused

-- nothing was begun yet, with room for so many views: all registers are 0, and so is pc, and nothing is kept
abbrev pub unbegun : ℕ → Ahead
unbegun most =
    record {
      first = record { regs = replicate 32 0; pc = 0 };
      context = record { regs = replicate 32 0; pc = 0 };
      most = most;
      views = [];
      kept = nothing_kept most;
      steps = 0;
      paused = None;
    }

-- a run ahead that begins with a context. What carried a place is kept
abbrev pub begun : Context → Ahead → Ahead
begun context a = record a { first = context; context = context; views = []; kept = all_dated a.views a.kept; steps = 0; paused = None }

-- with a view more. What was kept in its place is gone
abbrev pub more_with : View → Ahead → Ahead
more_with v a = record a { views = a.views ++ v ∷ []; kept = drop 1 a.kept }

-- with a view more, of bytes that were kept of its frame as of the place or a later one. What is kept now was kept before
pub record HasRefilled (vpn : Vpn) (frame : Frame) (flags : Flags) (row : Ident) (since : ℕ) (before after : Ahead) : Type 0 where
  pub d : Dated
  pub was : IsKeptSince before.kept frame since d
  pub is : after ≡ record (more_with (filled before.views vpn frame flags row d.bytes (Some d.place)) before) { kept = after.kept }
  pub kept : AreKept before.kept after.kept

-- Nothing changed but what is kept, and what is kept now was kept before. In which order it is, and how much of it, is left open: it
-- decides how many pages are copied anew, and not what they hold.
pub record HasReordered (before after : Ahead) : Type 0 where
  pub is : after ≡ record before { kept = after.kept }
  pub kept : AreKept before.kept after.kept

-- Once the steps happened at a place of a journal there are none, and no view: what was touched is kept as it is now, as of this
-- place.
abbrev pub happened : ℕ → Ahead → Ahead
happened place a = begun a.context (record a { views = map (as_happened place) a.views })

-- nothing of what was copied changed: not what the views were copied from, and not what is kept
pub record HasSameCopies (before after : Ahead) : Type 0 where
  pub views : copies_of after.views ≡ copies_of before.views
  pub kept : after.kept ≡ before.kept

-- the views, when their pages are these
abbrev pub views_with : List View → List Page → List View
views_with [] ps = []
views_with (v ∷ vs) [] = v ∷ vs
views_with (v ∷ vs) (p ∷ ps) = record v { present = p.bytes; touched = p.touched; written = p.written } ∷ views_with vs ps

-- a step that is a call or ends the thread pauses the run
abbrev pub pause_after : Stepped → Option Paused
pause_after steps.Next = None
pause_after steps.Call = Some Call
pause_after (steps.Stop reason) = Some (Stopped reason)
pause_after (steps.Miss va access) = None

-- the next step over the views
abbrev pub outcome : Ahead → After
outcome a = after_step a.context (pages_of_views a.views)

-- one step more
abbrev pub one_ahead : Ahead → Ahead
one_ahead a =
    record a {
      context = (outcome a).context;
      views = views_with a.views (outcome a).pages;
      steps = a.steps + 1;
      paused = pause_after (outcome a).answer;
    }

-- so many steps more
abbrev pub further : ℕ → Ahead → Ahead
further zero a = a
further (suc k) a = further k (one_ahead a)

-- a word that is stored at a signalling offset, through a view with the message flag, signals
abbrev pub signals_through : ℕ → Option View → Bool
signals_through va None = false
signals_through va (Some v) = v.flags.m && is_signalling (va % 4096)

abbrev pub signals_by : List View → Option Action → Bool
signals_by vs (Some (Store va Word value)) = signals_through va (view_through vs Write va)
signals_by vs _ = false

-- the next step is a store that signals
abbrev pub signals_next : Ahead → Bool
signals_next a = signals_by a.views (next_action a.context (pages_of_views a.views))

abbrev pub pause_if_missed : Stepped → Option Paused
pause_if_missed (steps.Miss va access) = Some (Miss va access)
pause_if_missed _ = None

-- what a store of a word would do, if it signals
abbrev pub store_if : Context → ℕ → ℕ → Bool → Option SignalStore
store_if c va value true = Some (record { vpn = record { 0 = va / 4096 }; offset = va % 4096; word = value; context = record c { pc = next_of c } })
store_if c va value false = None

abbrev pub store_by : Context → List View → Option Action → Option SignalStore
store_by c vs (Some (Store va Word value)) = store_if c va value (signals_through va (view_through vs Write va))
store_by c vs _ = None

abbrev pub is_signal : Option Paused → Bool
is_signal (Some Signal) = true
is_signal _ = false

-- what the store that signals would do before which the run pauses, if it pauses before one
abbrev pub signal_store : Ahead → Option SignalStore
signal_store a = if is_signal a.paused then store_by a.context a.views (next_action a.context (pages_of_views a.views)) else None

-- The store is the next step, as a step over the views' pages: its word comes to the offset in the page, in every view of the
-- frame; the fetch and the store leave their marks, and the context is the one behind it.
pub record IsStoreAhead (a : Ahead) (store : SignalStore) : Type 0 where
  pub signals : signals_next a ≡ true
  pub goes_on : (outcome a).answer ≡ steps.Next
  pub context : (outcome a).context ≡ store.context
  pub pages : (outcome a).pages ≡ (let va = 4096 * store.vpn.0 + store.offset in touched_at (touched_at (stored (pages_of_views a.views) va Word store.word) a.context.pc Fetch) va Write)

-- a step that can't be taken ahead
abbrev pub pause_before : Ahead → Option Paused
pause_before a = if signals_next a then Some Signal else pause_if_missed (outcome a).answer

-- a run that stands at a call, or at the thread's end, stays there
abbrev pub standing : Option Paused → Option Paused
standing (Some Call) = Some Call
standing (Some (Stopped reason)) = Some (Stopped reason)
standing _ = None

abbrev pub at_limit : ℕ → ℕ → Option Paused
at_limit limit steps = if nat_le limit steps then Some Limit else None

-- where a run with a limit pauses, if it does: at a call or the thread's end, at the limit, or before a step, in this order
abbrev pub pause_at : ℕ → Ahead → Option Paused
pause_at limit a = option_or (standing a.paused) (option_or (at_limit limit a.steps) (pause_before a))

-- It took steps up to the first pause, and answers that.
pub record IsRun (limit : ℕ) (before after : Ahead) (answer : Paused) : Type 0 where
  pub count : ℕ
  pub took : after ≡ record (further count before) { paused = Some answer }
  pub went_on : (k : ℕ) → k < count → pause_at limit (further k before) ≡ None
  pub stands : pause_at limit (further count before) ≡ Some answer

-- a run ahead over a table of views
abbrev pub ahead_over : Context → Context → Table → ℕ → Option Paused → Ahead
ahead_over first context table count paused =
    record { first = first; context = context; most = table.most; views = table.views; kept = table.kept; steps = count; paused = paused }

-- what a step behind so many comes to, if no other follows it. One that is missed isn't taken.
abbrev pub went_by : ℕ → Stepped → Option Went
went_by before steps.Next = None
went_by before steps.Call = Some (record { steps = before + 1; paused = Call })
went_by before (steps.Stop reason) = Some (record { steps = before + 1; paused = Stopped reason })
went_by before (steps.Miss va access) = Some (record { steps = before; paused = Miss va access })
