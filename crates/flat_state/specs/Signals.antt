-- Which signals the next step of a thread sends, who holds it back, and what the receivers get.
use Rattle.std.specs.Prelude.{◌≡◌, ℕ, ◌+◌, ◌%◌, ◌<◌, ◌≤◌, Bool, false, not, ◌&&◌, if◌then◌else◌, is_some, List, [], ◌∷◌, ◌++◌, map, length, Option, Some, None, slice_get, slice_set}
use Rattle.std.specs.Option.{option_map, option_and_then}
use Rattle.cache_ident.specs.declared.names.Frame.{Frame}
use Rattle.cache_ident.specs.declared.names.ThreadNo.{ThreadNo}
use Rattle.cache_ident.specs.declared.names.Vpn.{Vpn}
use Rattle.phys_groups.specs.Translation.{Translated, through, no_row, no_flag, no_right}
use Rattle.signal_pages.specs.Signals.{is_signalling, address_of, receivers_in, times_in, room_in}
use Rattle.rv32_isa.specs.Table.{instruction_of}
use Rattle.rv32_exec.specs.declared.contexts.Context.{Context}
use Rattle.rv32_exec.specs.declared.statuses.Access.TheVariants.{Write}
use Rattle.rv32_exec.specs.declared.spaces.Width.TheVariants.{Word}
use Rattle.rv32_exec.specs.declared.actions.Action.{Action}
use Rattle.rv32_exec.specs.declared.actions.Action.TheVariants.{Store}
use Rattle.rv32_exec.specs.Actions.{action_of}
use Rattle.rv32_exec.specs.Pages.{Page, fetched}
use Rattle.flat_state.specs.declared.records.FlatThread.{FlatThread}
use Rattle.flat_state.specs.declared.records.Signal.{Signal}
use Rattle.flat_state.specs.State.{FlatState, is_ready, is_ended}
use Rattle.flat_state.specs.Translation.{is_fit_row, reached}
use Rattle.flat_state.specs.Pages.{pages_of}

-- what the instruction at pc asks for; nothing where the fetch doesn't translate, or the word is no instruction
unfoldable pub next_action : Context → List Page → Option Action
next_action c ps = option_and_then (λ word. option_map (λ instr. action_of instr c) (instruction_of word)) (fetched ps c.pc)

-- a word that is stored at a signalling offset, through a row with the message flag, signals
abbrev pub signal_through : ℕ → Translated → Option Signal
signal_through va (through row) =
    if row.flags.m && is_signalling (va % 4096) then Some (record { frame = row.frame; offset = va % 4096 }) else None
signal_through va no_row = None
signal_through va no_flag = None
signal_through va no_right = None

-- no other action signals
abbrev pub signal_of : FlatState → FlatThread → Option Action → Option Signal
signal_of s t (Some (Store va Word value)) = signal_through va (reached s Write t.space va)
signal_of s t _ = None

-- the signal that the next step of a thread sends
unfoldable pub next_signal : FlatState → FlatThread → Option Signal
next_signal s t = signal_of s t (next_action t.context (pages_of s t.space))

-- the receivers of a frame: its fit rows that have one, in declared order
abbrev pub receivers_of : FlatState → Frame → List (ThreadNo × Vpn)
receivers_of s frame = receivers_in frame s.rows (map (is_fit_row s) s.rows)

abbrev pub receivers_for : FlatState → Option Signal → List (ThreadNo × Vpn)
receivers_for s None = []
receivers_for s (Some signal) = receivers_of s signal.frame

abbrev pub queued_by : Option FlatThread → ℕ
queued_by None = 0
queued_by (Some t) = length t.queue.items

abbrev pub ended_by : Option FlatThread → Bool
ended_by None = false
ended_by (Some t) = is_ended t.status

-- how many addresses a thread's queue holds, and whether the thread has ended
abbrev pub queued : List FlatThread → ThreadNo → ℕ
queued threads thread = queued_by (slice_get threads thread.0)

abbrev pub has_ended : List FlatThread → ThreadNo → Bool
has_ended threads thread = ended_by (slice_get threads thread.0)

-- the first of some receivers whose queue has no room for what they all get
abbrev pub full_among : List FlatThread → List ThreadNo → Option ThreadNo
full_among threads to = room_in to (map (queued threads) to) (map (has_ended threads) to) to

-- the first receiver that has no room for what the thread's next step sends
abbrev pub full_receiver : FlatState → FlatThread → Option ThreadNo
full_receiver s t = full_among s.threads (map (λ receiver. receiver.0) (receivers_for s (next_signal s t)))

-- each receiver is a thread with room for what it gets, and sees the signal through a page
abbrev pub HasRoom : List FlatThread → List (ThreadNo × Vpn) → Type 0
HasRoom threads [] = Unit {0}
HasRoom threads ((thread, vpn) ∷ rest) =
    (thread.0 < length threads) × (vpn.0 < 1048576)
    × (has_ended threads thread ≡ false → queued threads thread + times_in (thread ∷ map (λ r. r.0) rest) thread ≤ 64) × HasRoom threads rest

-- a ready thread is held where a receiver has no room, and else it is runnable
abbrev pub is_held : FlatState → FlatThread → Bool
is_held s t = is_ready t.status && is_some (full_receiver s t)

abbrev pub is_runnable : FlatState → FlatThread → Bool
is_runnable s t = is_ready t.status && not (is_some (full_receiver s t))

-- a thread with an address more in its queue, unless it has ended
abbrev pub with_address : ℕ → FlatThread → FlatThread
with_address va t = if is_ended t.status then t else record t { queue = record { items = t.queue.items ++ va ∷ [] } }

abbrev pub sent_to : List FlatThread → ThreadNo → ℕ → Option FlatThread → List FlatThread
sent_to threads thread va None = threads
sent_to threads thread va (Some t) = slice_set threads thread.0 (with_address va t)

-- each receiver in turn gets the address of the message slot in its own page
abbrev pub sent : List FlatThread → ℕ → List (ThreadNo × Vpn) → List FlatThread
sent threads offset [] = threads
sent threads offset ((thread, vpn) ∷ rest) =
    sent (sent_to threads thread (address_of vpn offset) (slice_get threads thread.0)) offset rest

-- the threads after a signal, if there is one, went to its receivers
abbrev pub delivered : List FlatThread → Option Signal → List (ThreadNo × Vpn) → List FlatThread
delivered threads None receivers = threads
delivered threads (Some signal) receivers = sent threads signal.offset receivers
