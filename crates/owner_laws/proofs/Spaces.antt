-- A thread that a load passes is one of the space by which it was asked for.
use Rattle.std.proofs.Common.{◌≡◌, Bool, true, false, List, Option, Some, None, is_some, slice_get, refl, sym, ap, ◌∙◌, inl, inr}
use Rattle.std.specs.Prelude.{◌==◌, if◌then◌else◌}
use Rattle.std.specs.Option.{option_map}
use Rattle.std.proofs.lemmas.Bool.{eqb-true}
use Rattle.cache_ident.proofs.Numbers.{same_space}
use Rattle.cache_ident.specs.declared.idents.Ident.{Ident}
use Rattle.cache_ident.specs.declared.idents.Kind.TheVariants as kind
use Rattle.cache_ident.specs.declared.idents.Standing.{Standing}
use Rattle.cache_ident.specs.declared.idents.Standing.TheVariants.{Left, Live, Never}
use Rattle.cache_ident.specs.declared.names.Name.{Name}
use Rattle.cache_ident.specs.declared.names.Name.TheVariants as name
use Rattle.cache_ident.specs.declared.names.SpaceNo.{SpaceNo}
use Rattle.cache_ident.specs.declared.names.ThreadNo.{ThreadNo}
use Rattle.cache_ident.specs.Rolls.{standing_in}
use Rattle.legal_laws.specs.flat_state.specs.declared.records.FlatThread.{FlatThread}
use Rattle.legal_laws.specs.flat_state.specs.Events.{flat}
use Rattle.legal_laws.specs.flat_state.specs.Names.{stands}
use Rattle.legal_laws.specs.flat_state.specs.State.{FlatState}
use Rattle.legal_laws.specs.run_journal.specs.Entries.{erase}
use Rattle.legal_laws.specs.run_journal.proofs.LegalGrowth.{state_told}
use Rattle.answer_laws.specs.desc_stores.specs.Contents.{Contents}
use Rattle.answer_laws.specs.desc_stores.specs.Sound.{IsExactlyOne}
use Rattle.answer_laws.specs.desc_parents.specs.Seen.{seen}
use Rattle.answer_laws.specs.shown_state.specs.Shown.{shown}
use Rattle.answer_laws.specs.store_residents.proofs.ResidentLemmas.{live_iff}
use Rattle.answer_laws.specs.board_ops.specs.declared.refusals.Refused.TheVariants as why
use Rattle.answer_laws.specs.board_core.specs.Core.{contents_of, IsSound, Recorded}
use Rattle.answer_laws.specs.board_checks.specs.Identifiers.{gone_by, not_a, not_live, space_as, wrong_kind}
use Rattle.answer_laws.specs.board_checks.specs.Refusals.{not_declared, refusal_of_load_thread, wrong_parent, wrong_space}
use Rattle.answer_laws.proofs.Passing.{space_given}
use Rattle.owners.specs.Known.{ident_of, Known}
use Rattle.owners.specs.Owning.{AreOwnersOf, IsThreadOf}
use Rattle.owner_laws.specs.Passing.{Passes}
use Rattle.owner_laws.proofs.Naming.{names_it}
use Rattle.owner_laws.proofs.Tests.{both_pass, first_passes, holds, not_a_never, not_declared_never, not_owned_never, told_is_later}

-- ---- what the machine shows

-- the threads that the tables show are those of the machine that the journal makes
pub same_threads : (b : Recorded) → IsSound b → (flat (erase b.journal.entries)).threads ≡ (seen (contents_of b)).threads
unfolding shown
same_threads b sound = ap (λ (s : FlatState). s.threads) (sym (state_told b.journal.entries) ∙ sound.told.state)

pub same_rows : (b : Recorded) → IsSound b → (flat (erase b.journal.entries)).rows ≡ (seen (contents_of b)).rows
unfolding shown
same_rows b sound = ap (λ (s : FlatState). s.rows) (sym (state_told b.journal.entries) ∙ sound.told.state)

-- ---- identifiers that pass

pub live_of : (i : Ident) (s : Standing) → gone_by i s ≡ None → s ≡ Live
live_of i Live passes = refl
live_of i (Left at) passes = absurd (cc)
live_of i Never passes = absurd (cc)

live_if : (c : Contents) (i : Ident) → not_live c i ≡ None → standing_in c.issued i ≡ Live
unfolding not_live
live_if c i passes = live_of i (standing_in c.issued i) passes

-- what is noted for a space stands for it, where it isn't refused
pub stands_for : (b : Recorded) (o : Known) (parent : Ident) (space : SpaceNo) → IsSound b → AreOwnersOf b.journal.entries o → ident_of o (name.Space space) ≡ Some parent → not_a kind.Space (contents_of b) parent ≡ None → space_as (contents_of b) parent ≡ Some space
stands_for b o parent space sound are noted passes =
    let one : IsExactlyOne (contents_of b) = sound.tables.1.whole.one in
    let live = live_if (contents_of b) parent (both_pass (not_live (contents_of b) parent) (wrong_kind kind.Space parent) passes).0 in
    let is = (live_iff (contents_of b) one.sound parent).0 live in
    let its : is.0.name ≡ name.Space space = names_it b sound o parent (name.Space space) is.0.name are noted (is.0, is.1, is.2, refl) in
    space_given (contents_of b) one parent space (is.0, is.1, is.2, its)

-- ---- the thread

-- the tests of parent, of what stands and of the space pass
record HasPassed (c : Contents) (parent : Ident) (thread : ThreadNo) : Type 0 where
  live : not_a kind.Space c parent ≡ None
  declared : not_declared c (name.Thread thread) ≡ None
  its : wrong_space c parent thread ≡ None

space_never : (given declared : Option Name) (t : Bool) (i : Ident) → (if t then None else Some (why.WrongParent given declared)) ≡ Some (why.AlreadyLoaded i) → ⊥
space_never given declared true i told = absurd (cc)
space_never given declared false i told = absurd (cc)

wrong_space_never : (c : Contents) (parent : Ident) (thread : ThreadNo) (i : Ident) → wrong_space c parent thread ≡ Some (why.AlreadyLoaded i) → ⊥
unfolding wrong_space
wrong_space_never c parent thread i told = space_never _ _ _ i told

has_passed : (c : Contents) (caller parent : Ident) (thread : ThreadNo) → Passes (refusal_of_load_thread c caller parent thread) → HasPassed c parent thread
has_passed c caller parent thread passes = elim passes [
  | inl none ↦
      let kernel = both_pass _ _ none in
      let space = both_pass _ _ kernel.1 in
      let there = both_pass _ _ space.1 in
      let mine = both_pass _ _ there.1 in
      let of = both_pass _ _ mine.1 in
      record { live = space.0; declared = there.0; its = of.0 }
  | inr told ↦
      let w = why.AlreadyLoaded told.0 in
      let later = told_is_later told.0 in
      let kernel = first_passes _ _ w (not_a_never c w later kind.Kernel caller) told.1 in
      let space = first_passes _ _ w (not_a_never c w later kind.Space parent) kernel.1 in
      let there = first_passes _ _ w (not_declared_never c w later (name.Thread thread)) space.1 in
      let mine = first_passes _ _ w (not_owned_never c w later caller (name.Thread thread)) there.1 in
      let of = first_passes _ _ w (wrong_space_never c parent thread told.0) mine.1 in
      record { live = space.0; declared = there.0; its = of.0 }
]

equal_spaces : (a b : SpaceNo) → wrong_parent (Some (name.Space a)) (Some (name.Space b)) ≡ None → a ≡ b
equal_spaces a b passes = same_space a b (eqb-true a.0 b.0 (holds (a.0 == b.0) (why.WrongParent (Some (name.Space a)) (Some (name.Space b))) passes))

-- there is such a thread, and its space is the one that was given
module _ (c : Contents) (parent : Ident) (space : SpaceNo) (thread : ThreadNo) (given : space_as c parent ≡ Some space) where
  its_space : (o : Option FlatThread) → slice_get (seen c).threads thread.0 ≡ o → not_declared c (name.Thread thread) ≡ None → wrong_space c parent thread ≡ None → option_map (λ (t : FlatThread). t.space) o ≡ Some space
  unfolding not_declared wrong_space stands
  its_space None none declared its =
      let absent : is_some (slice_get (seen c).threads thread.0) ≡ false = ap (λ (o : Option FlatThread). is_some o) none in
      let here : is_some (slice_get (seen c).threads thread.0) ≡ true = holds (is_some (slice_get (seen c).threads thread.0)) (why.NotDeclared (name.Thread thread)) declared in
      absurd (cc)
  its_space (Some t) found declared its =
      let tested : wrong_parent (Some (name.Space space)) (Some (name.Space t.space)) ≡ wrong_parent (option_map name.Space (space_as c parent)) (option_map (λ (x : FlatThread). name.Space x.space) (slice_get (seen c).threads thread.0)) =
      ap (λ (o : Option SpaceNo). wrong_parent (option_map name.Space o) (Some (name.Space t.space))) (sym given)
      ∙ ap (λ (o : Option FlatThread). wrong_parent (option_map name.Space (space_as c parent)) (option_map (λ (x : FlatThread). name.Space x.space) o)) (sym found) in
      ap (λ (s : SpaceNo). Some s) (sym (equal_spaces space t.space (tested ∙ its)))

pub is_of_space : (b : Recorded) (o : Known) (caller parent : Ident) (space : SpaceNo) (thread : ThreadNo) → IsSound b → AreOwnersOf b.journal.entries o → ident_of o (name.Space space) ≡ Some parent → Passes (refusal_of_load_thread (contents_of b) caller parent thread) → IsThreadOf (flat (erase b.journal.entries)) space thread
is_of_space b o caller parent space thread sound are noted passes =
    let so = has_passed (contents_of b) caller parent thread passes in
    let given = stands_for b o parent space sound are noted so.live in
    ap (λ (ts : List FlatThread). option_map (λ (t : FlatThread). t.space) (slice_get ts thread.0)) (same_threads b sound)
    ∙ its_space (contents_of b) parent space thread given (slice_get (seen (contents_of b)).threads thread.0) refl so.declared so.its
