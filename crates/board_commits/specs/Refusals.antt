-- Why a page isn't copied, and why steps don't happen: of the tests, in their order, the first that fails.
use Rattle.std.specs.Prelude.{ℕ, ◌==◌, ◌&&◌, Bool, not, if◌then◌else◌, is_some, find, List, Option, Some, None, bytes_eq}
use Rattle.std.specs.Option.{option_and_then, option_eq, option_map, option_or}
use Rattle.cache_ident.specs.declared.names.Name.TheVariants as name
use Rattle.cache_ident.specs.declared.names.Vpn.{Vpn}
use Rattle.phys_groups.specs.Memory.{page_at}
use Rattle.thread_cache.specs.rv32_exec.specs.declared.contexts.Context.{Context}
use Rattle.flat_rules.specs.flat_state.specs.declared.records.FlatThread.{FlatThread}
use Rattle.board_threads.specs.page_views.specs.Views.{View}
use Rattle.board_threads.specs.quantum.specs.Ahead.{Ahead}
use Rattle.board_threads.specs.desc_stores.specs.Contents.{Contents}
use Rattle.board_threads.specs.board_ops.specs.declared.refusals.Refused.{Refused}
use Rattle.board_threads.specs.board_ops.specs.declared.refusals.Refused.TheVariants as why
use Rattle.board_threads.specs.board_checks.specs.Identifiers.{not_live, thread_as}
use Rattle.board_threads.specs.cached_machine.specs.Cached.{is_loaded}
use Rattle.board_threads.specs.cached_machine.specs.Posts.{mark_of}
use Rattle.board_threads.specs.board_core.specs.Core.{contents_of, Recorded}
use Rattle.board_threads.specs.declared.tickets.Ticket.{Ticket}
use Rattle.board_threads.specs.board_core.specs.Refusals.{over}

-- ---- the tests

-- the thread's row of the page isn't loaded
unfoldable pub absent : Contents → Vpn → FlatThread → Option Refused
absent c vpn t = if is_loaded c (name.Mapping t.space vpn) then None else Some (why.NotLoaded vpn)

-- the two have the same registers and the same pc
abbrev pub is_context : Context → Context → Bool
is_context a b = bytes_eq a.regs b.regs && (a.pc == b.pc)

-- the thread is on that processor, and has the context that the quantum began with
abbrev pub is_in_place : Option ℕ → ℕ → Context → Context → Bool
is_in_place on cpu first context = option_eq (λ a b. a == b) on (Some cpu) && is_context context first

abbrev pub moved_from : Option ℕ → ℕ → Context → Context → Option Refused
moved_from on cpu first context = if is_in_place on cpu first context then None else Some (why.Moved on)

-- or else it has moved
unfoldable pub moved : Contents → ℕ → Context → FlatThread → Option Refused
moved c cpu first t = moved_from (mark_of c t.no) cpu first t.context

-- the row of a view isn't loaded any more, or was loaded anew
abbrev pub is_gone : Contents → View → Bool
is_gone c v = is_some (not_live c v.row)

unfoldable pub not_loaded : Contents → List View → Option Refused
not_loaded c vs = option_map (λ v. why.NotLoaded v.vpn) (find (is_gone c) vs)

-- the frame of a touched view isn't any more what was copied of it
abbrev pub is_changed : List ℕ → View → Bool
is_changed memory v = v.touched && not (bytes_eq v.first (page_at memory v.frame))

unfoldable pub changed : List ℕ → List View → Option Refused
changed memory vs = option_map (λ v. why.Changed v.frame) (find (is_changed memory) vs)

-- ---- the calls

abbrev pub refusal_of_page : Contents → Ticket → Vpn → Option Refused
refusal_of_page c ticket vpn = option_or (not_live c ticket.thread) (option_and_then (absent c vpn) (thread_as c ticket.thread))

abbrev pub refusal_of_commit : Recorded → Ticket → Ahead → Option Refused
refusal_of_commit b ticket a =
    option_or (not_live (contents_of b) ticket.thread)
    (option_or (option_and_then (moved (contents_of b) ticket.cpu a.first) (thread_as (contents_of b) ticket.thread))
    (option_or (not_loaded (contents_of b) a.views)
    (option_or (changed b.machine.memory a.views)
    (over b a.steps))))
