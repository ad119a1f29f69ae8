-- What is good in a state is good in one that differs in nothing of which dependence and fitness are read.
use Rattle.std.proofs.Common.{◌≡◌, ℕ, true, List, Contains, Some, slice_get, refl, sym, ◌∙◌, subst}
use Rattle.std.specs.Prelude.{Bool, false}
use Rattle.std.proofs.lemmas.Bool.{false≢true}
use Rattle.std.proofs.lemmas.List.{map-id}
use Rattle.cache_ident.specs.declared.names.KernelNo.{KernelNo}
use Rattle.cache_ident.specs.declared.names.Name.{Name}
use Rattle.cache_ident.specs.Residents.{IsNameResident, Resident}
use Rattle.flat_state.specs.declared.events.Decl.TheVariants as decls
use Rattle.flat_state.specs.declared.events.Machine.{Machine}
use Rattle.flat_state.specs.declared.records.FlatThread.{FlatThread}
use Rattle.flat_state.specs.Declaration.{declared}
use Rattle.flat_state.specs.Names.{stands}
use Rattle.flat_state.specs.State.{FlatState, with_thread}
use Rattle.board_laws.specs.flat_laws.proofs.StepSame.{set_same, same_fit_name, same_parents, same_stands, IsSameBut, SameSpaces}
use Rattle.board_laws.specs.run_journal.specs.Legal.{AreGood}
use Rattle.board_laws.specs.desc_stores.specs.Contents.{Contents}
use Rattle.board_laws.specs.shown_state.specs.Shown.{shown}
use Rattle.board_laws.specs.desc_parents.specs.Seen.{seen}
use Rattle.board_laws.specs.desc_tables.specs.Calls.{with_rights}

module _ (s u : FlatState) (same : IsSameBut s u) (rs : List Resident) where
  pub good_before : AreGood u rs → AreGood s rs
  good_before good r there = let its = good r there in record {
    there = sym (same_stands s u same r.name) ∙ its.there;
    fit = sym (same_fit_name s u same r.name) ∙ its.fit;
    parents = λ parent depends. its.parents parent (subst (λ (names : List Name). Contains names parent) (sym (same_parents s u same r.name)) depends);
  }

-- the same kernels, spaces and rows, and threads in the same spaces
same_but_threads : (s u : FlatState) → u.kernels ≡ s.kernels → u.spaces ≡ s.spaces → u.rows ≡ s.rows → SameSpaces s.threads u.threads → IsSameBut s u
same_but_threads s u kernels spaces rows threads = record {
  kernels = kernels;
  spaces = spaces;
  threads = threads;
  mark = λ row. row;
  keeps = record { space = λ row. refl; vpn = λ row. refl; frame = λ row. refl; flags = λ row. refl; receiver = λ row. refl };
  rows = rows ∙ sym (map-id s.rows);
}

-- what is good once a thread has its answer was good before
pub good_unanswered : (s : FlatState) (n : ℕ) (t u : FlatThread) (rs : List Resident) → slice_get s.threads n ≡ Some t → u.space ≡ t.space → AreGood (with_thread s n u) rs → AreGood s rs
good_unanswered s n t u rs here space good =
    good_before s (with_thread s n u) (same_but_threads s (with_thread s n u) refl refl refl (set_same s.threads n t u here space)) rs good

-- rights that leave what is loaded good leave it good in the machine of which dependence is read
pub good_seen : (m : Machine) (memory : List ℕ) (c : Contents) (rs : List Resident) (kernel : KernelNo) (group : ℕ) (right : Bool × Bool) → AreGood (declared (shown (Some m) memory c) (decls.Right kernel group right.0 right.1)) rs → AreGood (with_rights (seen c) kernel group right) rs
unfolding shown declared
good_seen m memory c rs kernel group right good =
    good_before (with_rights (seen c) kernel group right) (declared (shown (Some m) memory c) (decls.Right kernel group right.0 right.1))
    (same_but_threads (with_rights (seen c) kernel group right) (declared (shown (Some m) memory c) (decls.Right kernel group right.0 right.1)) refl refl refl (record { at = λ k. refl })) rs good

-- a name that doesn't stand where all that is loaded does isn't loaded
pub not_good : (s : FlatState) (rs : List Resident) (n : Name) → AreGood s rs → stands s n ≡ false → IsNameResident rs n → ⊥
not_good s rs n good gone resident =
    false≢true (sym gone ∙ subst (λ (m : Name). stands s m ≡ true) resident.2 (good resident.0 resident.1).there)
