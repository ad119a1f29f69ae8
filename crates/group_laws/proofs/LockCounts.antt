-- How many are locked, as one leaves, comes, or is locked.
use Rattle.std.proofs.Common.{◌≡◌, ◌+◌, Bool, true, false, cond, List, [], ◌∷◌, Contains, refl, ap, ap₂, sym, arith}
use Rattle.std.specs.Prelude.{◌&&◌}
use Rattle.cache_ident.specs.declared.idents.Ident.{Ident}
use Rattle.cache_ident.specs.declared.idents.Kind.{Kind}
use Rattle.cache_ident.specs.declared.names.KernelNo.{KernelNo}
use Rattle.cache_ident.specs.declared.names.Name.{Name}
use Rattle.cache_ident.specs.Rolls.{is_same}
use Rattle.cache_ident.proofs.RollLemmas.{same_ident}
use Rattle.cache_ident.specs.Residents.{Resident, with_loaded, without, with_lock}
use Rattle.journal_laws.specs.flat_state.specs.State.{FlatState}
use Rattle.journal_laws.specs.flat_state.specs.Dependence.{owner}
use Rattle.journal_laws.specs.flat_laws.proofs.Members.{Contains-here, Contains-behind}
use Rattle.journal_laws.specs.run_journal.specs.Legal.{is_kernel, is_kind, locked_by}
use Rattle.journal_laws.specs.Leaving.{AreApart, HaveOneEach}
use Rattle.group_laws.specs.Leaving.{lock_of}
use Rattle.group_laws.proofs.Counting.{count-loaded, count-without, count-locked, count-same}

module _ (s : FlatState) (rs : List Resident) (kernel : KernelNo) (kind : Kind) where
  -- it is locked, of the kind, and the kernel owns it
  abbrev counts : Resident → Bool
  counts r = r.locked && (is_kind r.ident.kind kind && is_kernel kernel (owner s r.name))

  -- what isn't locked doesn't count
  unlocked_none : (r : Resident) → r.locked ≡ false → lock_of s r kernel kind ≡ 0
  unlocked_none r is = ap (λ (b : Bool). cond (b && (is_kind r.ident.kind kind && is_kernel kernel (owner s r.name))) 1 0) is

  pub locks_left : (r : Resident) → AreApart rs → Contains rs r → locked_by s rs kernel kind ≡ locked_by s (without r.ident rs) kernel kind + lock_of s r kernel kind
  locks_left r apart there = sym (count-without counts r rs apart there)

  pub locks_loaded : (ident : Ident) (name : Name) → locked_by s (with_loaded ident name rs) kernel kind ≡ locked_by s rs kernel kind
  locks_loaded ident name = let all = count-loaded counts ident name rs in omega arith

  pub locks_locked : (r : Resident) → AreApart rs → Contains rs r → r.locked ≡ false → locked_by s (with_lock r.ident true rs) kernel kind ≡ locked_by s rs kernel kind + lock_of s (record r { locked = true }) kernel kind
  locks_locked r apart there is =
      let all = count-locked counts true r rs apart there in
      let none = unlocked_none r is in
      omega arith

  pub locks_unlocked : (r : Resident) → AreApart rs → Contains rs r → r.locked ≡ true → locked_by s rs kernel kind ≡ locked_by s (with_lock r.ident false rs) kernel kind + lock_of s r kernel kind
  locks_unlocked r apart there is =
      let all = count-locked counts false r rs apart there in
      omega arith

pub locks_same : (s t : FlatState) (rs : List Resident) (kernel : KernelNo) (kind : Kind) → ((r : Resident) → Contains rs r → owner s r.name ≡ owner t r.name) → locked_by s rs kernel kind ≡ locked_by t rs kernel kind
locks_same s t rs kernel kind same =
    count-same (counts s rs kernel kind) (counts t rs kernel kind) rs
    (λ r there. ap (λ o. r.locked && (is_kind r.ident.kind kind && is_kernel kernel o)) (same r there))

-- to make each resident of a list what it is already leaves the list
pub locked_already : (ident : Ident) (on : Bool) (rs : List Resident) → ((r : Resident) → Contains rs r → r.ident ≡ ident → r.locked ≡ on) → with_lock ident on rs ≡ rs
locked_already ident on [] is = refl
locked_already ident on (r ∷ rs) is =
    ap₂ (λ (x : Resident) (xs : List Resident). x ∷ xs) (first (is_same r.ident ident) refl) (locked_already ident on rs (λ x there. is x (Contains-behind r rs x there)))
  where
    first : (b : Bool) → is_same r.ident ident ≡ b → cond b (record r { locked = on }) r ≡ r
    first true same = ap (λ (l : Bool). record r { locked = l }) (sym (is r (Contains-here r rs) (same_ident r.ident ident same)))
    first false same = refl

pub lock_is_there : (rs : List Resident) (r : Resident) → HaveOneEach rs → Contains rs r → with_lock r.ident r.locked rs ≡ rs
lock_is_there rs r one there = locked_already r.ident r.locked rs (λ x x_there same. ap (λ (q : Resident). q.locked) (one.idents x r x_there there same))
