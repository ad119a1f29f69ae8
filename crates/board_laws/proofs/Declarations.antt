-- Declarations in the journal.
use Rattle.std.proofs.Common.{◌≡◌, ℕ, ◌+◌, ◌*◌, false, List, [], ◌∷◌, ◌++◌, length, replicate, Option, Some, None, refl, ap, sym, ◌∙◌, arith}
use Rattle.std.specs.Prelude.{filter_map, unwrap_or}
use Rattle.cache_ident.specs.declared.names.Frame.{Frame}
use Rattle.cache_ident.specs.declared.names.KernelNo.{KernelNo}
use Rattle.cache_ident.specs.declared.rolls.Issued.{Issued}
use Rattle.cache_ident.specs.Rolls.{standing_in}
use Rattle.phys_groups.specs.declared.rows.Row.{Row}
use Rattle.phys_groups.specs.Memory.{word_bytes, written}
use Rattle.quantum.specs.flat_state.specs.declared.events.Decl.{Decl}
use Rattle.quantum.specs.flat_state.specs.declared.events.Decl.TheVariants as decls
use Rattle.quantum.specs.flat_state.specs.declared.events.Event.TheVariants.{Declare}
use Rattle.quantum.specs.flat_state.specs.declared.events.Machine.{Machine}
use Rattle.quantum.specs.flat_state.specs.declared.records.FlatKernel.{FlatKernel}
use Rattle.quantum.specs.flat_state.specs.declared.records.FlatThread.{FlatThread}
use Rattle.quantum.specs.flat_state.specs.Declaration.{broken_rule, declared}
use Rattle.quantum.specs.flat_state.specs.Events.{applied, declared_unless}
use Rattle.quantum.specs.flat_state.specs.State.{nothing_declared, FlatState}
use Rattle.desc_tables.specs.run_journal.specs.declared.entries.Entry.{Entry}
use Rattle.desc_tables.specs.run_journal.specs.declared.entries.Entry.TheVariants.{Declared}
use Rattle.desc_tables.specs.desc_stores.specs.declared.items.Item.{Item}
use Rattle.desc_tables.specs.desc_stores.specs.declared.items.Item.TheVariants as item
use Rattle.desc_tables.specs.desc_stores.specs.Changes.{IsNothing}
use Rattle.desc_tables.specs.desc_stores.specs.Contents.{resident_as, residents_of, Contents}
use Rattle.desc_tables.specs.shown_state.specs.Edits.{with_new}
use Rattle.desc_tables.specs.shown_state.specs.Shown.{shown}
use Rattle.desc_tables.specs.shown_state.proofs.DeclareLemmas.{nothing_shown}
use Rattle.board_laws.specs.Moves.{Declares, KeepsLoaded}
use Rattle.board_laws.specs.Telling.{AreAsTold}
use Rattle.board_laws.proofs.Growing.{entry_told, same_told}

-- a declaration that breaks no rule is made
fits : (s : FlatState) (d : Decl) → broken_rule s d ≡ None → applied s (Declare d) ≡ declared s d
fits s d none = ap (λ (o : Option ℕ). unwrap_or (declared_unless o s d) s) none

-- what it declares comes behind the others of its kind
pub new_declared : (s : FlatState) (d : Decl) (it : Item) → Declares d it → with_new s it ≡ declared s d
unfolding declared
new_declared s (decls.Kernel number limits) (item.Kernel kernel) is = ap (λ (k : FlatKernel). record s { kernels = s.kernels ++ k ∷ [] }) is.1
new_declared s (decls.Space number kernel) (item.Space space) is = ap (λ (k : KernelNo). record s { spaces = s.spaces ++ k ∷ [] }) is.1
new_declared s (decls.Thread number space pc priority a0 a1) (item.Thread thread) is = ap (λ (t : FlatThread). record s { threads = s.threads ++ t ∷ [] }) is
new_declared s (decls.Map space vpn frame flags receiver) (item.Mapping row) is = ap (λ (r : Row). record s { rows = s.rows ++ r ∷ [] }) is
new_declared s d it is = absurd is

module _ (m : Machine) (memory after : List ℕ) (old new : Contents) (j : List Entry) (d : Decl) (as_told : AreAsTold m memory old false j) (none : broken_rule (shown (Some m) memory old) d ≡ None) (keeps : KeepsLoaded old new) where
  pub declared_told : declared (shown (Some m) memory old) d ≡ shown (Some m) after new → AreAsTold m after new false (j ++ Declared d ∷ [])
  declared_told is =
      entry_told m memory after old new false false j as_told (Declared d) (refl, none) (omega arith) tt
      (same_told (applied (shown (Some m) memory old) (Declare d)) (shown (Some m) after new) false false (length old.issued) (length new.issued) (residents_of old) (residents_of new)
      (fits (shown (Some m) memory old) d none ∙ is) refl (ap length (sym keeps.issued)) (sym keeps.residents))
      (λ x. ap (λ (issued : List Issued). standing_in issued x) (sym keeps.issued))

  pub descriptor_told : (it : Item) → Declares d it → shown (Some m) after new ≡ with_new (shown (Some m) memory old) it → AreAsTold m after new false (j ++ Declared d ∷ [])
  descriptor_told it its shows = declared_told (sym (new_declared (shown (Some m) memory old) d it its) ∙ sym shows)

word_shown : (m : Machine) (memory : List ℕ) (c : Contents) (frame : Frame) (offset value : ℕ) → declared (shown (Some m) memory c) (decls.Word frame offset value) ≡ shown (Some m) (written memory (4096 * frame.0 + offset) (word_bytes value)) c
unfolding shown declared
word_shown m memory c frame offset value = refl

pub word_told : (m : Machine) (memory : List ℕ) (c : Contents) (j : List Entry) (frame : Frame) (offset value : ℕ) → AreAsTold m memory c false j → broken_rule (shown (Some m) memory c) (decls.Word frame offset value) ≡ None
    → AreAsTold m (written memory (4096 * frame.0 + offset) (word_bytes value)) c false (j ++ Declared (decls.Word frame offset value) ∷ [])
word_told m memory c j frame offset value as_told none =
    declared_told m memory (written memory (4096 * frame.0 + offset) (word_bytes value)) c c j (decls.Word frame offset value) as_told none (record { residents = refl; issued = refl })
    (word_shown m memory c frame offset value)

-- ---- the machine

machine_shown : (m : Machine) → declared nothing_declared (decls.Machine m) ≡ record nothing_declared { machine = Some m; memory = replicate (524288 * m.groups) 0 }
unfolding declared
machine_shown m = refl

none_resident : (c : Contents) → c.issued ≡ [] → [] ≡ residents_of c
unfolding residents_of
none_resident c none = ap (λ (issued : List Issued). filter_map (λ (entry : Issued). resident_as c entry.ident) issued) (sym none)

pub machine_told : (m : Machine) (c : Contents) → broken_rule nothing_declared (decls.Machine m) ≡ None → IsNothing m.caps c → AreAsTold m (replicate (524288 * m.groups) 0) c false (Declared (decls.Machine m) ∷ [])
machine_told m c none nothing = record {
  legal = record { each = (record { comes = tt; place = (refl, none); processor = omega arith; happens = tt }, tt); whole = refl };
  state = fits nothing_declared (decls.Machine m) none ∙ machine_shown m ∙ sym (nothing_shown (Some m) (replicate (524288 * m.groups) 0) m.caps c nothing);
  residents = none_resident c nothing.issued;
  standings = λ x. ap (λ (issued : List Issued). standing_in issued x) (sym nothing.issued);
  loads = ap length (sym nothing.issued);
  seal = refl;
}
