-- The texts of identifiers and causes.
use Rattle.std.specs.Prelude.{ℕ, List, ◌∷◌, ◌++◌, codes, decimal}
use Rattle.cache_ident.specs.declared.idents.Ident.{Ident}
use Rattle.cache_ident.specs.declared.idents.Kind.{Kind}
use Rattle.cache_ident.specs.declared.idents.Kind.TheVariants as kind
use Rattle.cache_ident.specs.declared.idents.Cause.{Cause}
use Rattle.cache_ident.specs.declared.idents.Cause.TheVariants as cause

-- the letter of a kind: `K`, `S`, `T` or `M`
abbrev pub letter_of : Kind → ℕ
letter_of kind.Kernel = 75
letter_of kind.Space = 83
letter_of kind.Thread = 84
letter_of kind.Mapping = 77

-- the kind's letter, the slot, a dot and the serial
abbrev pub ident_text : Ident → List ℕ
ident_text ident = letter_of ident.kind ∷ decimal ident.slot ++ codes "." ++ decimal ident.serial

-- the cause in lower case
abbrev pub cause_text : Cause → List ℕ
cause_text cause.Displaced = codes "displaced"
cause_text cause.Dependent = codes "dependent"
cause_text cause.Unloaded = codes "unloaded"
