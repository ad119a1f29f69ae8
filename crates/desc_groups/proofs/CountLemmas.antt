-- A kernel's counts of locks, as a lock of one of its descriptors comes or ends.
use Rattle.std.proofs.Common.{◌≡◌, ◌≢◌, ℕ, ◌+◌, ◌-◌, ◌<◌, Bool, true, false, List, Some, refl, sym, ◌∙◌, ap, arith}
use Rattle.std.specs.Prelude.{if◌then◌else◌, ◌&&◌, ◌==◌}
use Rattle.std.proofs.lemmas.Bool.{eq-eqb, eqb-true}
use Rattle.cache_ident.specs.declared.idents.Kind.{Kind}
use Rattle.cache_ident.specs.declared.idents.Kind.TheVariants as kind
use Rattle.cache_ident.specs.declared.names.Caps.{Caps}
use Rattle.cache_ident.specs.declared.names.KernelNo.{KernelNo}
use Rattle.cache_ident.specs.declared.names.Name.TheVariants as name
use Rattle.cache_ident.specs.Names.{amount_of}
use Rattle.cache_ident.specs.Residents.{Resident}
use Rattle.desc_parents.specs.flat_state.specs.State.{FlatState}
use Rattle.desc_parents.specs.flat_state.specs.Dependence.{owner}
use Rattle.desc_parents.specs.run_journal.specs.Legal.{is_kernel, is_kind, locked_by}
use Rattle.desc_parents.specs.run_journal.proofs.KindLemmas.{is_kind-refl, kind_is}
use Rattle.desc_parents.specs.kernel_cache.specs.declared.KernelRec.{KernelRec}
use Rattle.desc_parents.specs.group_laws.specs.Leaving.{lock_of}
use Rattle.desc_parents.specs.desc_stores.specs.declared.items.Item.TheVariants as item
use Rattle.desc_parents.specs.desc_stores.specs.Changes.{KeepsContents}
use Rattle.desc_parents.specs.desc_stores.specs.Contents.{content_of, residents_of, Contents}
use Rattle.desc_groups.specs.Moves.{counted_down, counted_up, with_amount, IsPutKernel}
use Rattle.desc_groups.proofs.ShowLemmas.{counted_put, AreCounted}

-- one kind has the other amount, and each other kind the one that it had
amount_with : (caps : Caps) (of other : Kind) (n : ℕ) → amount_of (with_amount caps of n) other ≡ (if is_kind of other then n else amount_of caps other)
amount_with caps kind.Kernel kind.Kernel n = refl
amount_with caps kind.Kernel kind.Space n = refl
amount_with caps kind.Kernel kind.Thread n = refl
amount_with caps kind.Kernel kind.Mapping n = refl
amount_with caps kind.Space kind.Kernel n = refl
amount_with caps kind.Space kind.Space n = refl
amount_with caps kind.Space kind.Thread n = refl
amount_with caps kind.Space kind.Mapping n = refl
amount_with caps kind.Thread kind.Kernel n = refl
amount_with caps kind.Thread kind.Space n = refl
amount_with caps kind.Thread kind.Thread n = refl
amount_with caps kind.Thread kind.Mapping n = refl
amount_with caps kind.Mapping kind.Kernel n = refl
amount_with caps kind.Mapping kind.Space n = refl
amount_with caps kind.Mapping kind.Thread n = refl
amount_with caps kind.Mapping kind.Mapping n = refl

never_both : (a b : Bool) → (a && (b && false)) ≡ false
never_both true true = refl
never_both true false = refl
never_both false b = refl

always_one : (b : Bool) → (true && (b && true)) ≡ b
always_one true = refl
always_one false = refl

not_same : (k other : KernelNo) → other ≢ k → (k.0 == other.0) ≡ false
not_same k other apart = by (k.0 == other.0) refl
  where
    by : (b : Bool) → (k.0 == other.0) ≡ b → b ≡ false
    by true passes = absurd (apart (ap (λ (n : ℕ). let x : KernelNo = record { 0 = n } in x) (sym (eqb-true k.0 other.0 passes))))
    by false passes = refl

module _ (s : FlatState) (r : Resident) where
  -- what isn't locked counts for no kernel
  pub lock_none : r.locked ≡ false → (kernel : KernelNo) (of : Kind) → lock_of s r kernel of ≡ 0
  lock_none is kernel of = ap (λ (b : Bool). if b && (is_kind r.ident.kind of && is_kernel kernel (owner s r.name)) then 1 else 0) is

  module _ (kernel : KernelNo) (owned : owner s r.name ≡ Some kernel) where
    -- what is locked counts for its owner, by its kind
    pub lock_own : r.locked ≡ true → (of : Kind) → lock_of s r kernel of ≡ (if is_kind r.ident.kind of then 1 else 0)
    lock_own is of =
        let mine : is_kernel kernel (owner s r.name) ≡ true = ap (is_kernel kernel) owned ∙ eq-eqb kernel.0 kernel.0 refl in
        ap (λ (b : Bool). if b && (is_kind r.ident.kind of && is_kernel kernel (owner s r.name)) then 1 else 0) is
        ∙ ap (λ (b : Bool). if true && (is_kind r.ident.kind of && b) then 1 else 0) mine
        ∙ ap (λ (b : Bool). if b then 1 else 0) (always_one (is_kind r.ident.kind of))

    -- and for no other kernel
    pub lock_other : (other : KernelNo) → other ≢ kernel → (of : Kind) → lock_of s r other of ≡ 0
    lock_other other apart of =
        let theirs : is_kernel other (owner s r.name) ≡ false = ap (is_kernel other) owned ∙ not_same kernel other apart in
        ap (λ (b : Bool). if r.locked && (is_kind r.ident.kind of && b) then 1 else 0) theirs
        ∙ ap (λ (b : Bool). if b then 1 else 0) (never_both r.locked (is_kind r.ident.kind of))

-- what is owned that is locked counts with its owner, so the count isn't 0
pub counted_some : (s : FlatState) (c mid : Contents) → AreCounted s (residents_of c) c → KeepsContents c mid → (r : Resident) (was : KernelRec) (after : ℕ) → content_of mid (name.Kernel was.no) ≡ Some (item.Kernel was) → owner s r.name ≡ Some was.no → r.locked ≡ true → locked_by s (residents_of c) was.no r.ident.kind ≡ after + lock_of s r was.no r.ident.kind → 0 < amount_of was.locked r.ident.kind
counted_some s c mid counted keeps r was after there owned locked step =
    let had = counted (name.Kernel was.no) was (sym (keeps (name.Kernel was.no)) ∙ there) r.ident.kind in
    let one : lock_of s r was.no r.ident.kind ≡ 1 = lock_own s r was.no owned locked r.ident.kind ∙ ap (λ (b : Bool). if b then 1 else 0) (is_kind-refl r.ident.kind) in
    omega (arith, had, one, step)

module _ (s : FlatState) (old mid new : Contents) (counted : AreCounted s (residents_of old) old) (keeps : KeepsContents old mid) (r : Resident) (locked : r.locked ≡ true) (was : KernelRec) (there : content_of mid (name.Kernel was.no) ≡ Some (item.Kernel was)) (owned : owner s r.name ≡ Some was.no) where
  had : (of : Kind) → amount_of was.locked of ≡ locked_by s (residents_of old) was.no of
  had of = counted (name.Kernel was.no) was (sym (keeps (name.Kernel was.no)) ∙ there) of

  -- one that is locked no more
  pub counted_less : ((k : KernelNo) (of : Kind) → locked_by s (residents_of old) k of ≡ locked_by s (residents_of mid) k of + lock_of s r k of) → IsPutKernel mid new (counted_down r.ident.kind was) → AreCounted s (residents_of new) new
  counted_less step puts = counted_put s old mid new (counted_down r.ident.kind was) counted keeps puts.contents own others
    where
      own : (of : Kind) → amount_of (counted_down r.ident.kind was).locked of ≡ locked_by s (residents_of new) was.no of
      own of = amount_with was.locked r.ident.kind of (amount_of was.locked r.ident.kind - 1) ∙ by (is_kind r.ident.kind of) refl ∙ ap (λ (rs : List Resident). locked_by s rs was.no of) (sym puts.residents)
        where
          by : (b : Bool) → is_kind r.ident.kind of ≡ b → (if b then amount_of was.locked r.ident.kind - 1 else amount_of was.locked of) ≡ locked_by s (residents_of mid) was.no of
          by true is =
              let one : lock_of s r was.no of ≡ 1 = lock_own s r was.no owned locked of ∙ ap (λ (b : Bool). if b then 1 else 0) is in
              let same : amount_of was.locked r.ident.kind ≡ amount_of was.locked of = ap (amount_of was.locked) (kind_is r.ident.kind of is) in
              omega (arith, had of, one, same, step was.no of)
          by false is =
              let none : lock_of s r was.no of ≡ 0 = lock_own s r was.no owned locked of ∙ ap (λ (b : Bool). if b then 1 else 0) is in
              omega (arith, had of, none, step was.no of)

      others : (k : KernelNo) → k ≢ was.no → (of : Kind) → locked_by s (residents_of new) k of ≡ locked_by s (residents_of old) k of
      others k apart of =
          let none = lock_other s r was.no owned k apart of in
          let rest : locked_by s (residents_of mid) k of ≡ locked_by s (residents_of old) k of = omega (arith, none, step k of) in
          ap (λ (rs : List Resident). locked_by s rs k of) puts.residents ∙ rest

  -- one that is locked now
  pub counted_more : ((k : KernelNo) (of : Kind) → locked_by s (residents_of mid) k of ≡ locked_by s (residents_of old) k of + lock_of s r k of) → IsPutKernel mid new (counted_up r.ident.kind was) → AreCounted s (residents_of new) new
  counted_more step puts = counted_put s old mid new (counted_up r.ident.kind was) counted keeps puts.contents own others
    where
      own : (of : Kind) → amount_of (counted_up r.ident.kind was).locked of ≡ locked_by s (residents_of new) was.no of
      own of = amount_with was.locked r.ident.kind of (amount_of was.locked r.ident.kind + 1) ∙ by (is_kind r.ident.kind of) refl ∙ ap (λ (rs : List Resident). locked_by s rs was.no of) (sym puts.residents)
        where
          by : (b : Bool) → is_kind r.ident.kind of ≡ b → (if b then amount_of was.locked r.ident.kind + 1 else amount_of was.locked of) ≡ locked_by s (residents_of mid) was.no of
          by true is =
              let one : lock_of s r was.no of ≡ 1 = lock_own s r was.no owned locked of ∙ ap (λ (b : Bool). if b then 1 else 0) is in
              let same : amount_of was.locked r.ident.kind ≡ amount_of was.locked of = ap (amount_of was.locked) (kind_is r.ident.kind of is) in
              omega (arith, had of, one, same, step was.no of)
          by false is =
              let none : lock_of s r was.no of ≡ 0 = lock_own s r was.no owned locked of ∙ ap (λ (b : Bool). if b then 1 else 0) is in
              omega (arith, had of, none, step was.no of)

      others : (k : KernelNo) → k ≢ was.no → (of : Kind) → locked_by s (residents_of new) k of ≡ locked_by s (residents_of old) k of
      others k apart of =
          let none = lock_other s r was.no owned k apart of in
          let rest : locked_by s (residents_of mid) k of ≡ locked_by s (residents_of old) k of = omega (arith, none, step k of) in
          ap (λ (rs : List Resident). locked_by s rs k of) puts.residents ∙ rest
