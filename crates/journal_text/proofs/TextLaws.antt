-- What a text of lines is read as.
use Rattle.std.proofs.Common.{◌≡◌, ℕ, ◌<◌, true, false, eqb, List, [], ◌∷◌, ◌++◌, length, Some, None, ap, sym, ◌∙◌, append_assoc, arith}
use Rattle.std.specs.Prelude.{codes}
use Rattle.std.proofs.lemmas.List.{append-nil, append_cancel_left, length-append}
use Rattle.std.proofs.lemmas.Grind.{flat_map-append}
use Rattle.std.proofs.lemmas.Bool.{eqb-true}
use Rattle.std.proofs.lemmas.Option.{same_Some}
use Rattle.run_journal.specs.declared.entries.Entry.{Entry}
use Rattle.journal_text.specs.Lines.{entry_text, line, journal_text}
use Rattle.text_fields.specs.Reading.{after}
use Rattle.journal_text.specs.Reading.{entry_at}
use Rattle.journal_text.specs.Ranges.{IsInRange, AreInRange, BeginsWithNoLine}
use Rattle.journal_text.proofs.FieldLaws.{after_again}
use Rattle.journal_text.proofs.LineLaws.{entry_again}

-- a line isn't empty
pub shorter : (bytes rest : List ℕ) (e : Entry) → bytes ≡ line e ++ rest → length rest < length bytes
unfolding line
shorter bytes rest e is = omega (arith, ap length is, length-append (line e) rest, length-append (entry_text e) (codes "\n"))

pub none_stands : (bytes : List ℕ) → entry_at bytes ≡ None → BeginsWithNoLine bytes
none_stands bytes none e rest small is = let read : entry_at bytes ≡ Some e = ap entry_at is ∙ entry_again e rest small in cc

same_entry : (bytes rest : List ℕ) (e f : Entry) → entry_at bytes ≡ Some e → IsInRange f → bytes ≡ line f ++ rest → f ≡ e
same_entry bytes rest e f read small is = same_Some f e (sym (ap entry_at is ∙ entry_again f rest small) ∙ read)

pub other_stands : (bytes text : List ℕ) (e : Entry) → entry_at bytes ≡ Some e → text ≡ line e → after text bytes ≡ None → BeginsWithNoLine bytes
other_stands bytes text e read its none f rest small is =
    let same = same_entry bytes rest e f read small is in
    let whole : bytes ≡ text ++ rest = is ∙ ap (λ (x : Entry). line x ++ rest) same ∙ ap (λ (t : List ℕ). t ++ rest) (sym its) in
    let again : after text bytes ≡ Some rest = ap (after text) whole ∙ after_again text rest in
    cc

-- what is left of the entries of a text, where some were read
pub record AreLeft (es done : List Entry) (rest : List ℕ) : Type 0 where
  pub more : List Entry
  pub whole : es ≡ done ++ more
  pub small : AreInRange more
  pub text : rest ≡ journal_text more

pub none_left : (es done : List Entry) (rest : List ℕ) → AreLeft es done rest → eqb (length rest) 0 ≡ false → BeginsWithNoLine rest → ⊥
none_left es done rest are some none = by are.more are.small are.text
  where
    by : (more : List Entry) → AreInRange more → rest ≡ journal_text more → ⊥
    by [] small is = let empty : eqb (length rest) 0 ≡ true = ap (λ (t : List ℕ). eqb (length t) 0) is in cc
    by (e ∷ more) small is = none e (journal_text more) small.0 is

pub all_read : (es done : List Entry) (rest : List ℕ) → AreLeft es done rest → eqb (length rest) 0 ≡ true → done ≡ es
all_read es done rest are empty = by are.more are.whole are.text
  where
    by : (more : List Entry) → es ≡ done ++ more → rest ≡ journal_text more → done ≡ es
    by [] whole is = sym (whole ∙ append-nil done)
    by (e ∷ more) whole is = absurd (let longer = shorter rest (journal_text more) e is in let zero_length = eqb-true (length rest) 0 empty in omega arith)

pub one_read : (es done longer : List Entry) (bytes rest : List ℕ) (e : Entry) → bytes ≡ line e ++ rest → entry_at bytes ≡ Some e → longer ≡ done ++ e ∷ [] → AreLeft es done bytes → AreLeft es longer rest
one_read es done longer bytes rest e parts read grown are = by are.more are.whole are.small are.text
  where
    by : (more : List Entry) → es ≡ done ++ more → AreInRange more → bytes ≡ journal_text more → AreLeft es longer rest
    by [] whole small is = absurd (let some = shorter bytes rest e parts in let none = ap length is in omega arith)
    by (f ∷ more) whole small is =
        let same = same_entry bytes (journal_text more) e f read small.0 is in
        record {
          more = more;
          whole = whole ∙ ap (λ (x : Entry). done ++ x ∷ more) same ∙ sym (append_assoc done (e ∷ []) more) ∙ ap (λ (x : List Entry). x ++ more) (sym grown);
          small = small.1;
          text = append_cancel_left (line e) rest (journal_text more) (sym parts ∙ is ∙ ap (λ (x : Entry). line x ++ journal_text more) same);
        }

pub more_lines : (text bytes rest : List ℕ) (done longer : List Entry) (e : Entry) → text ≡ journal_text done ++ bytes → bytes ≡ line e ++ rest → longer ≡ done ++ e ∷ [] → text ≡ journal_text longer ++ rest
more_lines text bytes rest done longer e before parts grown =
    let grown_text : journal_text longer ≡ journal_text done ++ line e = ap journal_text grown ∙ flat_map-append line done (e ∷ []) ∙ ap (λ (t : List ℕ). journal_text done ++ t) (append-nil (line e)) in
    before ∙ ap (λ (t : List ℕ). journal_text done ++ t) parts ∙ sym (append_assoc (journal_text done) (line e) rest) ∙ ap (λ (t : List ℕ). t ++ rest) (sym grown_text)
