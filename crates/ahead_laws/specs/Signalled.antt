-- What a store that signals makes of the machine.
use Rattle.std.specs.Prelude.{ℕ, ◌/◌, ◌%◌, true, false, map}
use Rattle.cache_ident.specs.declared.names.SpaceNo.{SpaceNo}
use Rattle.phys_groups.specs.declared.rows.Row.{Row}
use Rattle.phys_groups.specs.Rows.{marked}
use Rattle.phys_groups.specs.Translation.{place_in}
use Rattle.flat_machine.specs.rv32_exec.specs.declared.statuses.Status.TheVariants.{Ready}
use Rattle.flat_machine.specs.rv32_exec.specs.Pages.{put_bytes}
use Rattle.flat_machine.specs.rv32_exec.specs.Registers.{next_of}
use Rattle.flat_machine.specs.flat_state.specs.declared.records.FlatThread.{FlatThread}
use Rattle.flat_machine.specs.flat_state.specs.State.{FlatState, with_thread}
use Rattle.flat_machine.specs.flat_state.specs.Signals.{receivers_of, sent}

-- the word is in memory, and the rows of the fetch and of the store have their marks
abbrev pub stored_by : FlatState → SpaceNo → ℕ → ℕ → ℕ → Row → FlatState
stored_by s space pc va value row =
    record s {
      memory = put_bytes 4 s.memory (place_in row.frame va) value;
      rows = map (marked space (va / 4096) true) (map (marked space (pc / 4096) false) s.rows);
    }

-- the thread went on, and the receivers have the signal
abbrev pub signalled_by : FlatState → ℕ → FlatThread → ℕ → ℕ → Row → FlatState
signalled_by s n t va value row =
    let u = with_thread (stored_by s t.space t.context.pc va value row) n (record t { context = record t.context { pc = next_of t.context }; status = Ready }) in
    record u { threads = sent u.threads (va % 4096) (receivers_of s row.frame) }
