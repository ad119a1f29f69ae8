-- How many are locked, once one comes, leaves or is locked.
use Rattle.std.proofs.Common.{◌≡◌, ◌≢◌, ℕ, ◌+◌, ◌-◌, Bool, true, false, cond, List, [], Contains, Option, Some, None, refl, ap, sym, ◌∙◌, subst, inl, inr, arith}
use Rattle.std.specs.Prelude.{◌&&◌}
use Rattle.std.proofs.lemmas.Bool.{cases_Bool, eqb-true}
use Rattle.std.proofs.lemmas.Bool.Decides.{nat_tests}
use Rattle.cache_ident.specs.declared.idents.Ident.{Ident}
use Rattle.cache_ident.specs.declared.idents.Kind.{Kind}
use Rattle.cache_ident.specs.declared.names.KernelNo.{KernelNo}
use Rattle.cache_ident.specs.declared.names.Name.{Name}
use Rattle.cache_ident.specs.Residents.{Resident, with_loaded, without, with_lock}
use Rattle.residents.specs.flat_state.specs.State.{FlatState}
use Rattle.residents.specs.flat_state.specs.Dependence.{owner}
use Rattle.residents.specs.run_journal.specs.Legal.{is_kind, is_kernel, locked_by}
use Rattle.residents.specs.run_journal.proofs.KindLemmas.{is_kind-refl, kind_is}
use Rattle.journal_tables.specs.declared.locks.Locks.{Locks}
use Rattle.journal_tables.specs.Locks.{lock_count, Recounts, RecountsFor, RecountsIf}
use Rattle.journal_rules.specs.journal_laws.specs.Leaving.{AreApart}
use Rattle.group_laws.proofs.Counting.{one, count-loaded, count-without, count-locked, count-same}
use Rattle.journal_tables.proofs.KindLemmas.{owned_or}

-- the locks are those of what is resident
abbrev pub AreLocksOf : Locks → FlatState → List Resident → Type 0
AreLocksOf locks s rs = (kernel : KernelNo) (kind : Kind) → lock_count locks kernel kind ≡ locked_by s rs kernel kind

-- what counts for a kernel and a kind
abbrev pub counts : FlatState → KernelNo → Kind → Resident → Bool
counts s kernel kind r = r.locked && (is_kind r.ident.kind kind && is_kernel kernel (owner s r.name))

-- .. if it is locked
abbrev pub belongs : FlatState → KernelNo → Kind → Resident → Bool
belongs s kernel kind r = is_kind r.ident.kind kind && is_kernel kernel (owner s r.name)

unlocked_none : (s : FlatState) (kernel : KernelNo) (kind : Kind) (r : Resident) → r.locked ≡ false → counts s kernel kind r ≡ false
unlocked_none s kernel kind r off = ap (λ (b : Bool). b && belongs s kernel kind r) off

locked_belongs : (s : FlatState) (kernel : KernelNo) (kind : Kind) (r : Resident) → r.locked ≡ true → counts s kernel kind r ≡ belongs s kernel kind r
locked_belongs s kernel kind r on = ap (λ (b : Bool). b && belongs s kernel kind r) on

-- what is owned belongs to its owner under its kind, and to nothing else
kernel_itself : (kernel : KernelNo) → is_kernel kernel (Some kernel) ≡ true
kernel_itself kernel = grind (arith, nat_tests)

pub belongs_here : (s : FlatState) (r : Resident) (kernel : KernelNo) → owner s r.name ≡ Some kernel → belongs s kernel r.ident.kind r ≡ true
belongs_here s r kernel owned = ap (λ (b : Bool). b && is_kernel kernel (owner s r.name)) (is_kind-refl r.ident.kind) ∙ ap (is_kernel kernel) owned ∙ kernel_itself kernel

and_both : (a b : Bool) → (a && b) ≡ true → (a ≡ true) × (b ≡ true)
and_both true true e = (refl, refl)
and_both true false e = absurd (cc)
and_both false true e = absurd (cc)
and_both false false e = absurd (cc)

pub belongs_other : (s : FlatState) (r : Resident) (kernel : KernelNo) (q : KernelNo × Kind) → owner s r.name ≡ Some kernel → q ≢ (kernel, r.ident.kind) → belongs s q.0 q.1 r ≡ false
belongs_other s r kernel q owned other = elim (cases_Bool (belongs s q.0 q.1 r)) [
  | inl is ↦
      let both = and_both (is_kind r.ident.kind q.1) (is_kernel q.0 (owner s r.name)) is in
      let kind : r.ident.kind ≡ q.1 = kind_is r.ident.kind q.1 both.0 in
      let number : kernel.0 ≡ q.0.0 = eqb-true kernel.0 q.0.0 (sym (ap (is_kernel q.0) owned) ∙ both.1) in
      let first : q.0 ≡ kernel = ap (λ (n : ℕ). record { 0 = n }) (sym number) in
      absurd (other (ap (λ (k : KernelNo). (k, q.1)) first ∙ ap (λ (k : Kind). (kernel, k)) (sym kind)))
  | inr off ↦ off
]

pub belongs_nowhere : (s : FlatState) (r : Resident) (kernel : KernelNo) (kind : Kind) → owner s r.name ≡ None → belongs s kernel kind r ≡ false
belongs_nowhere s r kernel kind owned = by (is_kind r.ident.kind kind) ∙ ap (λ (b : Bool). b) refl
  where
    by : (b : Bool) → (b && is_kernel kernel (owner s r.name)) ≡ false
    by true = ap (is_kernel kernel) owned
    by false = refl

pub locks_none : (locks : Locks) (s : FlatState) → ((kernel : KernelNo) (kind : Kind) → lock_count locks kernel kind ≡ 0) → AreLocksOf locks s []
locks_none locks s none = none

pub locks_loaded : (locks : Locks) (s : FlatState) (rs : List Resident) (ident : Ident) (name : Name) → AreLocksOf locks s rs → AreLocksOf locks s (with_loaded ident name rs)
locks_loaded locks s rs ident name are kernel kind =
    let more = count-loaded (counts s kernel kind) ident name rs in
    are kernel kind ∙ (let same : locked_by s rs kernel kind ≡ locked_by s (with_loaded ident name rs) kernel kind = omega arith in same)

-- one more of an owner's is locked
pub locks_locked : (old new : Locks) (s : FlatState) (rs : List Resident) (g : Resident) (kernel : KernelNo) → AreApart rs → Contains rs g → g.locked ≡ false → owner s g.name ≡ Some kernel
    → Recounts old new kernel g.ident.kind (lock_count old kernel g.ident.kind + 1) → AreLocksOf old s rs → AreLocksOf new s (with_lock g.ident true rs)
locks_locked old new s rs g kernel apart there off owned recounts are k d =
    let all = count-locked (counts s k d) true g rs apart there in
    let before : one (counts s k d) g ≡ 0 = ap (λ (b : Bool). cond b 1 0) (unlocked_none s k d g off) in
    elim (owned_or (k, d) (kernel, g.ident.kind)) [
      | inl same ↦
          let hit : belongs s k d g ≡ true = ap (λ (q : KernelNo × Kind). belongs s q.0 q.1 g) same ∙ belongs_here s g kernel owned in
          let after : one (counts s k d) (record g { locked = true }) ≡ 1 = ap (λ (b : Bool). cond b 1 0) hit in
          let was = are k d in
          let is : lock_count new k d ≡ lock_count old k d + 1 = ap (λ (q : KernelNo × Kind). lock_count new q.0 q.1) same ∙ recounts.here ∙ ap (λ (q : KernelNo × Kind). lock_count old q.0 q.1 + 1) (sym same) in
          omega arith
      | inr other ↦
          let after : one (counts s k d) (record g { locked = true }) ≡ 0 = ap (λ (b : Bool). cond b 1 0) (belongs_other s g kernel (k, d) owned other) in
          let was = are k d in
          let is : lock_count new k d ≡ lock_count old k d = recounts.other (k, d) other in
          omega arith
    ]

minus_none : (n : ℕ) → n ≡ n - 0
minus_none n = omega arith

-- so many fewer are counted as one that is locked did
fewer : (old new : Locks) (s : FlatState) (g : Resident) (o : Option KernelNo) (k : KernelNo) (d : Kind) → owner s g.name ≡ o → RecountsFor old new o g.ident.kind → lock_count new k d ≡ lock_count old k d - cond (belongs s k d g) 1 0
fewer old new s g None k d owned same =
    ap (λ (l : Locks). lock_count l k d) same ∙ minus_none (lock_count old k d) ∙ ap (λ (b : Bool). lock_count old k d - cond b 1 0) (sym (belongs_nowhere s g k d owned))
fewer old new s g (Some kernel) k d owned recounts = elim (owned_or (k, d) (kernel, g.ident.kind)) [
  | inl same ↦
      ap (λ (q : KernelNo × Kind). lock_count new q.0 q.1) same ∙ recounts.here ∙ ap (λ (q : KernelNo × Kind). lock_count old q.0 q.1 - 1) (sym same)
      ∙ ap (λ (b : Bool). lock_count old k d - cond b 1 0) (sym (ap (λ (q : KernelNo × Kind). belongs s q.0 q.1 g) same ∙ belongs_here s g kernel owned))
  | inr other ↦ recounts.other (k, d) other ∙ minus_none (lock_count old k d) ∙ ap (λ (b : Bool). lock_count old k d - cond b 1 0) (sym (belongs_other s g kernel (k, d) owned other))
]

pub locks_unlocked : (old new : Locks) (s : FlatState) (rs : List Resident) (g : Resident) → AreApart rs → Contains rs g → g.locked ≡ true
    → RecountsFor old new (owner s g.name) g.ident.kind → AreLocksOf old s rs → AreLocksOf new s (with_lock g.ident false rs)
locks_unlocked old new s rs g apart there on recounts are k d =
    let all = count-locked (counts s k d) false g rs apart there in
    let before : one (counts s k d) g ≡ cond (belongs s k d g) 1 0 = ap (λ (b : Bool). cond b 1 0) (locked_belongs s k d g on) in
    let after : one (counts s k d) (record g { locked = false }) ≡ 0 = refl in
    let was = are k d in
    let is = fewer old new s g (owner s g.name) k d refl recounts in
    omega arith

locks_left_locked : (old new : Locks) (s : FlatState) (rs : List Resident) (g : Resident) → AreApart rs → Contains rs g → g.locked ≡ true
    → RecountsFor old new (owner s g.name) g.ident.kind → AreLocksOf old s rs → AreLocksOf new s (without g.ident rs)
locks_left_locked old new s rs g apart there on recounts are k d =
    let all = count-without (counts s k d) g rs apart there in
    let before : one (counts s k d) g ≡ cond (belongs s k d g) 1 0 = ap (λ (b : Bool). cond b 1 0) (locked_belongs s k d g on) in
    let was = are k d in
    let is = fewer old new s g (owner s g.name) k d refl recounts in
    omega arith

locks_left : (locks : Locks) (s : FlatState) (rs : List Resident) (g : Resident) → AreApart rs → Contains rs g → g.locked ≡ false → AreLocksOf locks s rs → AreLocksOf locks s (without g.ident rs)
locks_left locks s rs g apart there off are k d =
    let all = count-without (counts s k d) g rs apart there in
    let before : one (counts s k d) g ≡ 0 = ap (λ (b : Bool). cond b 1 0) (unlocked_none s k d g off) in
    let was = are k d in
    omega arith

pub locks_gone : (old new : Locks) (s : FlatState) (rs : List Resident) (g : Resident) → AreApart rs → Contains rs g → RecountsIf g.locked old new (owner s g.name) g.ident.kind → AreLocksOf old s rs → AreLocksOf new s (without g.ident rs)
locks_gone old new s rs g apart there recounts are = by g.locked refl recounts
  where
    by : (b : Bool) → g.locked ≡ b → RecountsIf b old new (owner s g.name) g.ident.kind → AreLocksOf new s (without g.ident rs)
    by true on fewer = locks_left_locked old new s rs g apart there on fewer are
    by false off same = subst (λ (l : Locks). AreLocksOf l s (without g.ident rs)) (sym same) (locks_left old s rs g apart there off are)

-- where what is resident has the same owners, as many are locked
pub locks_same : (locks : Locks) (s u : FlatState) (rs : List Resident) → ((r : Resident) → Contains rs r → owner u r.name ≡ owner s r.name) → AreLocksOf locks s rs → AreLocksOf locks u rs
locks_same locks s u rs same are k d = are k d ∙ sym (count-same (counts u k d) (counts s k d) rs (λ r there. ap (λ (o : Option KernelNo). r.locked && (is_kind r.ident.kind d && is_kernel k o)) (same r there)))
