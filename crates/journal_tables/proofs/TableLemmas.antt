-- What the tables are of, once one comes, leaves or is locked.
use Rattle.std.proofs.Common.{◌≡◌, ◌≢◌, ◌↔◌, ◌⊎◌, ℕ, ◌+◌, ◌<◌, ◌≤◌, Bool, true, false, List, Contains, Some, None, refl, ap, sym, ◌∙◌, subst, inl, inr, arith}
use Rattle.std.proofs.lemmas.Bool.{cases_lt, false≢true}
use Rattle.std.proofs.lemmas.Option.{none-some, same_Some}
use Rattle.cache_ident.specs.declared.idents.Cause.{Cause}
use Rattle.cache_ident.specs.declared.idents.Cause.TheVariants as causes
use Rattle.cache_ident.specs.declared.idents.Ident.{Ident}
use Rattle.cache_ident.specs.declared.idents.Kind.{Kind}
use Rattle.cache_ident.specs.declared.names.KernelNo.{KernelNo}
use Rattle.cache_ident.specs.declared.names.Name.{Name}
use Rattle.cache_ident.specs.Names.{kind_of}
use Rattle.cache_ident.specs.Residents.{IsNameResident, Resident, with_loaded, without, with_lock}
use Rattle.residents.specs.flat_state.specs.State.{FlatState}
use Rattle.residents.specs.flat_state.specs.Dependence.{parents, Depends, owner}
use Rattle.residents.specs.run_journal.specs.declared.entries.Entry.TheVariants.{Loaded, WrittenBack, Locked, Unlocked}
use Rattle.residents.specs.run_journal.specs.Told.{Told, told_after}
use Rattle.residents.specs.run_journal.specs.Legal.{IsTaken, MayLoad, MayLeave, MayLock, MayUnlock, StaysGood, cap_of, first_ident, limit_of, locked_by}
use Rattle.residents.specs.declared.dependents.Dependents.{Dependents}
use Rattle.residents.specs.declared.relying.Reliance.{Reliance}
use Rattle.residents.specs.declared.relying.RelyingRows.{RelyingRows}
use Rattle.residents.specs.declared.list.Held.{Held}
use Rattle.residents.specs.declared.slots.Slots.{Slots}
use Rattle.residents.specs.Relying.{IsRelying}
use Rattle.residents.specs.Pairs.{IsPair}
use Rattle.residents.specs.Slots.{IsCount, IsLowest, IsTakenIn}
use Rattle.residents.specs.Tables.{AreThose, HasNoSerial, IsHeldAs, resident_of}
use Rattle.journal_rules.specs.Relied.{reliances_of, AreRelyingOn}
use Rattle.journal_tables.specs.declared.kind_slots.KindSlots.{KindSlots}
use Rattle.journal_tables.specs.declared.locks.Locks.{Locks}
use Rattle.journal_tables.specs.declared.tables.Tables.{Tables}
use Rattle.journal_tables.specs.KindSlots.{slots_of}
use Rattle.journal_tables.specs.Locks.{Recounts, RecountsIf, lock_count}
use Rattle.journal_tables.specs.Tables.{AreOf, ArePairsBy, AreSlotsOf, MayLeaveAs}
use Rattle.journal_tables.proofs.KindLemmas.{kind_or}
use Rattle.journal_tables.proofs.WholeLemmas.{whole_loaded, whole_left, whole_locked, whole_unlocked}
use Rattle.journal_tables.proofs.SlotLemmas.{slots_loaded, slots_loaded_other, slots_left, slots_left_other, slots_locked}
use Rattle.journal_tables.proofs.PairLemmas.{pairs_loaded, pairs_left, pairs_locked}
use Rattle.journal_tables.proofs.LockLemmas.{AreLocksOf, locks_loaded, locks_gone, locks_locked, locks_unlocked}

-- ---- slots

-- a slot that is lowest is so of what is resident
pub lowest_told : (slots : Slots) (rs : List Resident) (kind : Kind) (slot : ℕ) → AreSlotsOf slots rs kind → IsLowest slots slot → (IsTaken rs kind slot → ⊥) × ((lower : ℕ) → lower < slot → IsTaken rs kind lower)
lowest_told slots rs kind slot are is = (λ taken. is.free ((are.taken slot).1 taken), λ lower low. (are.taken lower).0 (is.below lower low))

pub told_lowest : (slots : Slots) (rs : List Resident) (kind : Kind) (slot : ℕ) → AreSlotsOf slots rs kind → (IsTaken rs kind slot → ⊥) → ((lower : ℕ) → lower < slot → IsTaken rs kind lower) → IsLowest slots slot
told_lowest slots rs kind slot are free below = record { free = λ taken. free ((are.taken slot).0 taken); below = λ lower low. (are.taken lower).1 (below lower low) }

-- there is one lowest slot
pub one_lowest : (slots : Slots) (a b : ℕ) → IsLowest slots a → IsLowest slots b → a ≡ b
one_lowest slots a b first second = elim (cases_lt a b) [
  | inl below ↦ absurd (first.free (second.below a below))
  | inr above ↦ elim (cases_lt b a) [
    | inl below ↦ absurd (second.free (first.below b below))
    | inr other ↦ omega arith
  ]
]

-- the slots of one kind are taken or freed, and those of the others stay
module _ (old new : KindSlots) (kind : Kind) (others : (other : Kind) → other ≢ kind → slots_of new other ≡ slots_of old other) where
  by_kind : (before after : List Resident) → AreSlotsOf (slots_of new kind) after kind → ((slots : Slots) (other : Kind) → other ≢ kind → AreSlotsOf slots before other → AreSlotsOf slots after other)
      → ((other : Kind) → AreSlotsOf (slots_of old other) before other) → (other : Kind) → AreSlotsOf (slots_of new other) after other
  by_kind before after here stay are other = elim (kind_or other kind) [
    | inl same ↦ subst (λ (d : Kind). AreSlotsOf (slots_of new d) after d) (sym same) here
    | inr apart ↦ subst (λ (slots : Slots). AreSlotsOf slots after other) (sym (others other apart)) (stay (slots_of old other) other apart (are other))
  ]

-- ---- one comes

-- how a load changes the tables
pub record Loads (old new : Tables) (s : FlatState) (rs : List Resident) (ident : Ident) (name : Name) : Type 0 where
  pub those : AreThose new.residents (with_loaded ident name rs)
  pub taken : (slot : ℕ) → IsTakenIn (slots_of new.slots ident.kind) slot ↔ (IsTakenIn (slots_of old.slots ident.kind) slot ⊎ (slot ≡ ident.slot))
  pub count : (n : ℕ) → IsCount (slots_of old.slots ident.kind) n → IsCount (slots_of new.slots ident.kind) (n + 1)
  pub others : (other : Kind) → other ≢ ident.kind → slots_of new.slots other ≡ slots_of old.slots other
  pub adds : (parent other : Name) → IsPair new.dependents parent other ↔ (IsPair old.dependents parent other ⊎ ((other ≡ name) × Contains (parents s name) parent))
  pub relies : (reliance : Reliance) (other : Name) → IsRelying new.relying reliance other ↔ (IsRelying old.relying reliance other ⊎ ((other ≡ name) × Contains (reliances_of s name) reliance))
  pub locks : new.locks ≡ old.locks

pub of_loaded : (old new : Tables) (k : Told) (ident : Ident) (name : Name) (cpu : ℕ) → AreOf old k → MayLoad k ident name → Loads old new k.state k.residents ident name → AreOf new (told_after k (Loaded ident name cpu))
of_loaded old new k ident name cpu are may loads = record {
  whole = whole_loaded k ident name are.whole may;
  those = loads.those;
  slots = by_kind old.slots new.slots ident.kind loads.others k.residents (with_loaded ident name k.residents)
      (slots_loaded ident name k.residents (slots_of old.slots ident.kind) (slots_of new.slots ident.kind) loads.taken loads.count (are.slots ident.kind))
      (λ slots other apart was. slots_loaded_other ident name k.residents slots other apart was)
      are.slots;
  pairs = pairs_loaded (IsPair old.dependents) (IsPair new.dependents) (parents k.state) k.residents ident name loads.adds are.pairs;
  relying = pairs_loaded (IsRelying old.relying) (IsRelying new.relying) (reliances_of k.state) k.residents ident name loads.relies are.relying;
  locks = subst (λ (l : Locks). AreLocksOf l k.state (with_loaded ident name k.residents)) (sym loads.locks) (locks_loaded old.locks k.state k.residents ident name are.locks);
}

-- what may be loaded has a serial of its own
pub fresh_serial : (tables : Tables) (k : Told) (ident : Ident) (name : Name) → AreOf tables k → MayLoad k ident name → HasNoSerial k.residents ident.serial
fresh_serial tables k ident name are may r there same = let low = are.whole.issued r there in let its = may.serial in omega arith

-- ---- one leaves

pub record Leaves (old new : Tables) (s : FlatState) (rs : List Resident) (held : Held) : Type 0 where
  pub those : AreThose new.residents (without held.ident rs)
  pub taken : (slot : ℕ) → IsTakenIn (slots_of new.slots held.ident.kind) slot ↔ (IsTakenIn (slots_of old.slots held.ident.kind) slot × (slot ≢ held.ident.slot))
  pub count : IsTakenIn (slots_of old.slots held.ident.kind) held.ident.slot → (n : ℕ) → IsCount (slots_of old.slots held.ident.kind) (n + 1) → IsCount (slots_of new.slots held.ident.kind) n
  pub others : (other : Kind) → other ≢ held.ident.kind → slots_of new.slots other ≡ slots_of old.slots other
  pub removes : (parent other : Name) → IsPair new.dependents parent other ↔ (IsPair old.dependents parent other × (((other ≡ held.name) × Contains (parents s held.name) parent) → ⊥))
  pub relies : (reliance : Reliance) (other : Name) → IsRelying new.relying reliance other ↔ (IsRelying old.relying reliance other × (((other ≡ held.name) × Contains (reliances_of s held.name) reliance) → ⊥))
  pub locks : RecountsIf held.locked old.locks new.locks (owner s held.name) held.ident.kind

pub of_left : (old new : Tables) (k : Told) (held : Held) (cause : Cause) (cpu : ℕ) → AreOf old k → MayLeaveAs k held.ident held → Leaves old new k.state k.residents held → AreOf new (told_after k (WrittenBack held.ident cause cpu))
of_left old new k held cause cpu are may leaves = by cause
  where
    there : Contains k.residents (resident_of held)
    there = subst (Contains k.residents) may.its may.may.there

    now : AreOf new (told_after k (WrittenBack held.ident causes.Dependent cpu))
    now = record {
      whole = whole_left k held.ident are.whole may.may;
      those = leaves.those;
      slots = by_kind old.slots new.slots held.ident.kind leaves.others k.residents (without held.ident k.residents)
          (slots_left (resident_of held) k.residents are.whole.apart there are.whole.one.idents are.whole.slots (slots_of old.slots held.ident.kind) (slots_of new.slots held.ident.kind) leaves.taken leaves.count (are.slots held.ident.kind))
          (λ slots other apart was. slots_left_other (resident_of held) k.residents are.whole.apart there are.whole.one.idents are.whole.slots slots other apart was)
          are.slots;
      pairs = pairs_left (IsPair old.dependents) (IsPair new.dependents) (parents k.state) k.residents (resident_of held) there are.whole.one.idents are.whole.one.names leaves.removes are.pairs;
      relying = pairs_left (IsRelying old.relying) (IsRelying new.relying) (reliances_of k.state) k.residents (resident_of held) there are.whole.one.idents are.whole.one.names leaves.relies are.relying;
      locks = locks_gone old.locks new.locks k.state k.residents (resident_of held) are.whole.apart there leaves.locks are.locks;
    }

    by : (c : Cause) → AreOf new (told_after k (WrittenBack held.ident c cpu))
    by causes.Dependent = now
    by causes.Displaced = record { whole = now.whole; those = now.those; slots = now.slots; pairs = now.pairs; relying = now.relying; locks = now.locks }
    by causes.Unloaded = record { whole = now.whole; those = now.those; slots = now.slots; pairs = now.pairs; relying = now.relying; locks = now.locks }

-- ---- one is locked

-- it is the one that has the identifier
pub its_held : (tables : Tables) (k : Told) (ident : Ident) (held : Held) → AreOf tables k → IsHeldAs k.residents ident held → (r : Resident) → Contains k.residents r → r.ident ≡ ident → r ≡ resident_of held
its_held tables k ident held are is r there its = are.whole.one.idents r (resident_of held) there is.0 (its ∙ sym is.1)

module _ (old new : Tables) (k : Told) (ident : Ident) (held : Held) (cpu : ℕ) (are : AreOf old k) (is : IsHeldAs k.residents ident held) (slots : new.slots ≡ old.slots) (dependents : new.dependents ≡ old.dependents) (relying : new.relying ≡ old.relying) where
  slots_then : (on : Bool) (kind : Kind) → AreSlotsOf (slots_of new.slots kind) (with_lock held.ident on k.residents) kind
  slots_then on kind = subst (λ (s : KindSlots). AreSlotsOf (slots_of s kind) (with_lock held.ident on k.residents) kind) (sym slots) (slots_locked on (resident_of held) k.residents (slots_of old.slots kind) kind are.whole.apart is.0 (are.slots kind))

  pairs_then : (on : Bool) → ArePairsBy new.dependents k.state (with_lock held.ident on k.residents)
  pairs_then on = subst (λ (d : Dependents). ArePairsBy d k.state (with_lock held.ident on k.residents)) (sym dependents) (pairs_locked (IsPair old.dependents) (parents k.state) k.residents held.ident on are.pairs)

  relying_then : (on : Bool) → AreRelyingOn new.relying k.state (with_lock held.ident on k.residents)
  relying_then on = subst (λ (rows : RelyingRows). AreRelyingOn rows k.state (with_lock held.ident on k.residents)) (sym relying) (pairs_locked (IsRelying old.relying) (reliances_of k.state) k.residents held.ident on are.relying)

  pub of_locked : (kernel : KernelNo) → MayLock k ident → held.locked ≡ false → owner k.state held.name ≡ Some kernel → AreThose new.residents (with_lock held.ident true k.residents)
      → Recounts old.locks new.locks kernel ident.kind (lock_count old.locks kernel ident.kind + 1) → AreOf new (told_after k (Locked ident cpu))
  of_locked kernel may off owned those recounts =
      subst (λ (i : Ident). MayLock k i → Recounts old.locks new.locks kernel i.kind (lock_count old.locks kernel i.kind + 1) → AreOf new (told_after k (Locked i cpu))) is.1
      (λ may_its recounts_its. record {
        whole = whole_locked k held.ident are.whole may_its;
        those = those;
        slots = slots_then true;
        pairs = pairs_then true;
        relying = relying_then true;
        locks = locks_locked old.locks new.locks k.state k.residents (resident_of held) kernel are.whole.apart is.0 off owned recounts_its are.locks;
      })
      may recounts

  pub of_unlocked : MayUnlock k ident → held.locked ≡ true → AreThose new.residents (with_lock held.ident false k.residents) → RecountsIf held.locked old.locks new.locks (owner k.state held.name) held.ident.kind → AreOf new (told_after k (Unlocked ident cpu))
  of_unlocked may on those recounts =
      subst (λ (i : Ident). MayUnlock k i → AreOf new (told_after k (Unlocked i cpu))) is.1
      (λ may_its. record {
        whole = whole_unlocked k held.ident are.whole may_its;
        those = those;
        slots = slots_then false;
        pairs = pairs_then false;
        relying = relying_then false;
        locks = locks_unlocked old.locks new.locks k.state k.residents (resident_of held) are.whole.apart is.0 on (subst (λ (b : Bool). RecountsIf b old.locks new.locks (owner k.state held.name) held.ident.kind) on recounts) are.locks;
      })
      may

-- ---- what may be locked

module _ (tables : Tables) (k : Told) (ident : Ident) (held : Held) (are : AreOf tables k) (is : IsHeldAs k.residents ident held) where
  pub not_ownerless : None ≡ owner k.state held.name → MayLock k ident → ⊥
  not_ownerless none may = none-some may.kernel (none ∙ ap (λ (r : Resident). owner k.state r.name) (sym (its_held tables k ident held are is may.resident may.there may.its)) ∙ may.owned)

  pub not_locked : held.locked ≡ true → MayLock k ident → ⊥
  not_locked on may = false≢true (sym may.unlocked ∙ ap (λ (r : Resident). r.locked) (its_held tables k ident held are is may.resident may.there may.its) ∙ on)

  pub not_full : (kernel : KernelNo) → Some kernel ≡ owner k.state held.name → limit_of k.state kernel ident.kind ≤ lock_count tables.locks kernel ident.kind → MayLock k ident → ⊥
  not_full kernel owned full may =
      let same : kernel ≡ may.kernel = same_Some kernel may.kernel (owned ∙ ap (λ (r : Resident). owner k.state r.name) (sym (its_held tables k ident held are is may.resident may.there may.its)) ∙ may.owned) in
      let room : locked_by k.state k.residents kernel ident.kind < limit_of k.state kernel ident.kind = subst (λ (n : KernelNo). locked_by k.state k.residents n ident.kind < limit_of k.state n ident.kind) (sym same) may.room in
      let many = are.locks kernel ident.kind in
      omega arith

  pub may_lock : (kernel : KernelNo) → Some kernel ≡ owner k.state held.name → held.locked ≡ false → lock_count tables.locks kernel ident.kind < limit_of k.state kernel ident.kind → MayLock k ident
  may_lock kernel owned off room = record {
    resident = resident_of held;
    there = is.0;
    its = is.1;
    unlocked = off;
    kernel = kernel;
    owned = sym owned;
    room = (let many = are.locks kernel ident.kind in omega arith);
  }

  pub not_unlocked : held.locked ≡ false → MayUnlock k ident → ⊥
  not_unlocked off may = false≢true (sym off ∙ ap (λ (r : Resident). r.locked) (sym (its_held tables k ident held are is may.resident may.there may.its)) ∙ may.locked)

  -- ---- what may leave

  pub not_last : (child : Name) → IsPair tables.dependents held.name child → MayLeave k ident causes.Dependent → ⊥
  not_last child pair may =
      let its = (are.pairs held.name child).0 pair in
      let depends = subst (λ (n : Name). Depends k.state n held.name) (sym its.0.2) its.1 in
      may.last its.0.0 its.0.1 (subst (λ (n : Name). Depends k.state its.0.0.name n) (ap (λ (r : Resident). r.name) (sym (its_held tables k ident held are is may.resident may.there may.its))) depends)

  pub may_leave : ident ≢ first_ident → ((child : Name) → IsPair tables.dependents held.name child → ⊥) → MayLeaveAs k ident held
  may_leave other none = record {
    may = record {
      resident = resident_of held;
      there = is.0;
      its = is.1;
      not_first = other;
      last = λ child there depends. none child.name ((are.pairs held.name child.name).1 ((child, there, refl), depends));
      by_cause = tt;
    };
    its = refl;
  }

-- ---- what may be loaded

pub good_of : (k : Told) (ident : Ident) (name : Name) (s : FlatState) → k.state ≡ s → MayLoad k ident name → StaysGood s k.residents (record { ident = ident; name = name; locked = false })
good_of k ident name s state may = subst (λ (t : FlatState). StaysGood t k.residents (record { ident = ident; name = name; locked = false })) state (record { there = may.there; fit = may.fit; parents = may.parents })

pub may_load_of : (tables : Tables) (k : Told) (ident : Ident) (name : Name) (s : FlatState) → AreOf tables k → k.state ≡ s → StaysGood s k.residents (record { ident = ident; name = name; locked = false }) → (IsNameResident k.residents name → ⊥)
    → ident.kind ≡ kind_of name → ident.serial ≡ k.loads → IsLowest (slots_of tables.slots ident.kind) ident.slot → ident.slot < cap_of s ident.kind → MayLoad k ident name
may_load_of tables k ident name s are state good absent kind serial lowest within =
    let told = lowest_told (slots_of tables.slots ident.kind) k.residents ident.kind ident.slot (are.slots ident.kind) lowest in
    let so = subst (λ (t : FlatState). StaysGood t k.residents (record { ident = ident; name = name; locked = false })) (sym state) good in
    record {
      there = so.there;
      absent = absent;
      parents = so.parents;
      fit = so.fit;
      kind = kind;
      serial = serial;
      free = told.0;
      lowest = told.1;
      within = subst (λ (t : FlatState). ident.slot < cap_of t ident.kind) (sym state) within;
    }

pub lowest_of : (tables : Tables) (k : Told) (ident : Ident) (name : Name) (s : FlatState) → AreOf tables k → k.state ≡ s → MayLoad k ident name → IsLowest (slots_of tables.slots ident.kind) ident.slot × (ident.slot < cap_of s ident.kind)
lowest_of tables k ident name s are state may = (
  told_lowest (slots_of tables.slots ident.kind) k.residents ident.kind ident.slot (are.slots ident.kind) may.free may.lowest,
  subst (λ (t : FlatState). ident.slot < cap_of t ident.kind) state may.within,
)
