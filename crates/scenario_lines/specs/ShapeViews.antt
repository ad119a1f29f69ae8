-- The fields of a line as their bytes.
use Rattle.scenario_lines.specs.declared.shapes.ThreadFields.{ThreadFields as ThreadValue}
use Rattle.scenario_lines.specs.declared.shapes.RowFields.{RowFields as RowValue}
use Rattle.scenario_lines.specs.Shapes.{ThreadFields, RowFields}

abbrev pub thread_view : ThreadValue → ThreadFields
thread_view f = record { no = f.no.now; space = f.space.now; pc = f.pc.now; priority = f.priority.now; a0 = f.a0.now; a1 = f.a1.now }

abbrev pub row_view : RowValue → RowFields
row_view f = record { space = f.space.now; vpn = f.vpn.now; frame = f.frame.now; flags = f.flags.now; signal = f.signal.now }
