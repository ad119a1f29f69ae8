-- The fields of an operation that stand at the front are read.
use Rattle.std.proofs.Common.{◌≡◌, ℕ, List, ◌∷◌, ◌++◌, Option, Some, None, refl}
use Rattle.std.specs.Prelude.{codes}
use Rattle.cache_ident.specs.declared.idents.Ident.{Ident}
use Rattle.cache_ident.specs.declared.idents.Kind.{Kind}
use Rattle.cache_ident.specs.declared.idents.Kind.TheVariants as kinds
use Rattle.cache_ident.specs.Idents.{ident_text}
use Rattle.text_fields.specs.Reading.{after}
use Rattle.journal_text.specs.Lines.{field}
use Rattle.journal_text.specs.Ranges.{IsSmall, IsIdentInRange}
use Rattle.journal_text.proofs.FieldLaws.{EndsNumber, after_again, field_again, field_ends, ident_again}
use Rattle.drive_text.specs.Lines.{ident_field, receiver_text}
use Rattle.drive_text.specs.Reading.{ident_field_at, asked_at, call_at, pair_at, cpu_at, receiver_at}
use Rattle.drive_text.specs.Ranges.{IsReceiverInRange}

-- a line feed and what follows it
abbrev pub ended : List ℕ → List ℕ
ended rest = 10 ∷ rest

pub ident_field_ends : (ident : Ident) (rest : List ℕ) → EndsNumber (ident_field ident ++ rest)
unfolding ident_field
ident_field_ends ident rest = refl

pub ident_field_again : (ident : Ident) (rest : List ℕ) → IsIdentInRange ident → EndsNumber rest → ident_field_at (ident_field ident ++ rest) ≡ Some (ident, rest)
unfolding ident_field_at ident_field
ident_field_again ident rest small ends = rw (after_again (codes " ") (ident_text ident ++ rest), ident_again ident rest small ends) refl

pub asked_again : (cpu : ℕ) (caller : Ident) (rest : List ℕ) → IsSmall cpu → IsIdentInRange caller → EndsNumber rest → asked_at (field cpu ++ (ident_field caller ++ rest)) ≡ Some (cpu, caller, rest)
unfolding asked_at
asked_again cpu caller rest small called ends = rw (field_again cpu (ident_field caller ++ rest) small (ident_field_ends caller rest), ident_field_again caller rest called ends) refl

pub call_again : (cpu : ℕ) (caller ident : Ident) (rest : List ℕ) → IsSmall cpu → IsIdentInRange caller → IsIdentInRange ident → call_at (field cpu ++ (ident_field caller ++ (ident_field ident ++ ended rest))) ≡ Some (cpu, caller, ident)
unfolding call_at
call_again cpu caller ident rest small called named =
    let tail = ident_field ident ++ ended rest in
    rw (asked_again cpu caller tail small called (ident_field_ends ident (ended rest)), ident_field_again ident (ended rest) named refl) refl

pub pair_again : (cpu n : ℕ) (rest : List ℕ) → IsSmall cpu → IsSmall n → pair_at (field cpu ++ (field n ++ ended rest)) ≡ Some (cpu, n)
unfolding pair_at
pair_again cpu n rest small low = rw (field_again cpu (field n ++ ended rest) small (field_ends n (ended rest)), field_again n (ended rest) low refl) refl

pub cpu_again : (cpu : ℕ) (rest : List ℕ) → IsSmall cpu → cpu_at (field cpu ++ ended rest) ≡ Some cpu
unfolding cpu_at
cpu_again cpu rest small = rw (field_again cpu (ended rest) small refl) refl

-- an identifier begins with a letter, and so isn't `-`
no_dash_of : (kind : Kind) (slot serial : ℕ) (rest : List ℕ) → after (codes " -") (ident_field (record { kind = kind; slot = slot; serial = serial }) ++ rest) ≡ None
unfolding after ident_field
no_dash_of kinds.Kernel slot serial rest = refl
no_dash_of kinds.Space slot serial rest = refl
no_dash_of kinds.Thread slot serial rest = refl
no_dash_of kinds.Mapping slot serial rest = refl

no_dash : (ident : Ident) (rest : List ℕ) → after (codes " -") (ident_field ident ++ rest) ≡ None
no_dash ident rest = no_dash_of ident.kind ident.slot ident.serial rest

pub receiver_ends : (receiver : Option Ident) (rest : List ℕ) → EndsNumber (receiver_text receiver ++ rest)
receiver_ends None rest = refl
receiver_ends (Some ident) rest = ident_field_ends ident rest

pub receiver_again : (receiver : Option Ident) (rest : List ℕ) → IsReceiverInRange receiver → receiver_at (receiver_text receiver ++ ended rest) ≡ Some receiver
unfolding receiver_at
receiver_again None rest small = rw (after_again (codes " -") (ended rest)) refl
receiver_again (Some ident) rest small = rw (no_dash ident (ended rest), ident_field_again ident (ended rest) small refl) refl
