-- Which beginning is due.
use Rattle.run_journal.specs.Told as told
use Rattle.journal_facts.specs.declared.order.Due.{Due}
use Rattle.journal_facts.specs.declared.order.Due.TheVariants.{Machine, FirstLoad, FirstLock, Anything}

-- what has to follow a departure is asked at the departure, and not kept
abbrev pub beginning_of : told.Due → Due
beginning_of told.Opening = Machine
beginning_of told.Anything = Anything
beginning_of told.FirstLoad = FirstLoad
beginning_of told.FirstLock = FirstLock
beginning_of (told.Departure cpu) = Anything
beginning_of (told.Load kind cpu) = Anything
