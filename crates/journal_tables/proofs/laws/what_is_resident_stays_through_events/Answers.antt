use Rattle.journal_tables.proofs.Staying.{of_declared, of_sealed, of_ran, of_ended, of_completed}
use Rattle.journal_tables.proofs.laws.what_is_resident_stays_through_events.Goals as goal

pub returns : goal.returns
returns c = record { declared = of_declared; sealed = of_sealed; ran = of_ran; ended = of_ended; completed = of_completed }
