-- The receiver that a call gives for a row.
use Rattle.std.specs.Prelude.{Option, Some, None}
use Rattle.cache_ident.specs.declared.idents.Ident.{Ident}
use Rattle.cache_ident.specs.declared.names.Name.TheVariants.{Thread}
use Rattle.cache_ident.specs.declared.names.ThreadNo.{ThreadNo}
use Rattle.cache_ident.specs.Residents.{IsResident}
use Rattle.board_threads.specs.desc_stores.specs.Contents.{residents_of, Contents}

-- none is given, or an identifier with which this thread is loaded
abbrev pub IsGiven : Contents → Option Ident → Option ThreadNo → Type 0
IsGiven c None None = Unit {0}
IsGiven c (Some ident) (Some receiver) = IsResident (residents_of c) ident (Thread receiver)
IsGiven c _ _ = ⊥
