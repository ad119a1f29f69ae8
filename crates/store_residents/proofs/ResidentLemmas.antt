-- What is resident is what is loaded.
use Rattle.std.proofs.Common.{◌≡◌, ◌↔◌, ℕ, Bool, Contains, Some, sym, ◌∙◌, ap, subst, arith, ◌≢◌, length}
use Rattle.cache_ident.specs.declared.idents.Ident.{Ident}
use Rattle.cache_ident.specs.declared.idents.Kind.{Kind}
use Rattle.cache_ident.specs.declared.idents.Standing.TheVariants.{Live}
use Rattle.cache_ident.specs.declared.names.Name.{Name}
use Rattle.cache_ident.specs.declared.rolls.Issued.{Issued}
use Rattle.cache_ident.specs.Names.{kind_of}
use Rattle.cache_ident.specs.Residents.{Resident, IsIdentResident, IsNameResident, IsResident}
use Rattle.cache_ident.specs.Rolls.{standing_in}
use Rattle.cache_ident.proofs.RollLemmas.{live_within}
use Rattle.resident_pairs.specs.flat_laws.proofs.Members.{Contains-filter_map, Contains-from_filter_map}
use Rattle.desc_stores.specs.slot_cache.proofs.SlotLemmas.{some_same}
use Rattle.resident_pairs.specs.journal_laws.specs.Leaving.{HaveOneEach}
use Rattle.desc_stores.specs.Contents.{resident_as, residents_of, Contents, HasNoResident, IsResidentAs, LockIs}
use Rattle.desc_stores.specs.Sound.{AreSound, IsExactlyOne}
use Rattle.desc_stores.proofs.KindLemmas.{own_ident}
use Rattle.store_residents.specs.Slots.{resident_at}
use Rattle.store_residents.proofs.KindLemmas.{as_at, at_as, live_loaded, loaded_live, one_named, seat}
use Rattle.store_residents.proofs.RollLemmas.{live_entry, rising, IsRising}

-- what is resident is loaded with its identifier
pub resident_loaded : (c : Contents) (r : Resident) → Contains (residents_of c) r → resident_as c r.ident ≡ Some r
unfolding residents_of
resident_loaded c r there =
    let entry = Contains-from_filter_map (λ (entry : Issued). resident_as c entry.ident) c.issued r there in
    subst (λ i. resident_as c i ≡ Some r) (sym (own_ident c entry.0.ident r entry.2)) entry.2

-- so it stands in its slot
pub resident_seat : (c : Contents) (r : Resident) → Contains (residents_of c) r → resident_at c r.ident.kind r.ident.slot ≡ Some r
resident_seat c r there = (at_as c r.ident r (resident_loaded c r there)).0

module _ (c : Contents) (sound : AreSound c) where
  pub loaded_resident : (i : Ident) (r : Resident) → resident_as c i ≡ Some r → Contains (residents_of c) r
  unfolding residents_of
  loaded_resident i r held =
      let entry = live_entry c.issued i (loaded_live c sound i r held) in
      Contains-filter_map (λ (entry : Issued). resident_as c entry.ident) c.issued entry.0 r entry.1 (subst (λ j. resident_as c j ≡ Some r) (sym entry.2) held)

  -- what stands in a slot is resident
  pub seat_resident : (k : Kind) (slot : ℕ) (r : Resident) → resident_at c k slot ≡ Some r → Contains (residents_of c) r
  seat_resident k slot r there = loaded_resident r.ident r (as_at c sound k slot r there)

  pub resident_iff : (r : Resident) → Contains (residents_of c) r ↔ (resident_as c r.ident ≡ Some r)
  resident_iff r = (resident_loaded c r, loaded_resident r.ident r)

  pub named_iff : (name : Name) (ident : Ident) → IsResidentAs c name ident ↔ IsResident (residents_of c) ident name
  named_iff name ident = (
    λ held. (held.0, loaded_resident ident held.0 held.1, own_ident c ident held.0 held.1, held.2),
    λ is. (is.0, subst (λ i. resident_as c i ≡ Some is.0) is.2 (resident_loaded c is.0 is.1), is.3),
  )

  pub absent_iff : (name : Name) → HasNoResident c name ↔ (IsNameResident (residents_of c) name → ⊥)
  absent_iff name = (
    λ none is. none is.0.ident is.0 (resident_loaded c is.0 is.1) is.2,
    λ none ident r held named. none (r, loaded_resident ident r held, named),
  )

  pub live_iff : (ident : Ident) → (standing_in c.issued ident ≡ Live) ↔ IsIdentResident (residents_of c) ident
  live_iff ident = (
    λ live. let r = live_loaded c sound ident live in (r.0, loaded_resident ident r.0 r.1, own_ident c ident r.0 r.1),
    λ is. loaded_live c sound ident is.0 (subst (λ i. resident_as c i ≡ Some is.0) is.2 (resident_loaded c is.0 is.1)),
  )

  pub lock_iff : (ident : Ident) (locked : Bool) → LockIs c ident locked ↔ ((r : Resident) → Contains (residents_of c) r → r.ident ≡ ident → r.locked ≡ locked)
  lock_iff ident locked = (
    λ lock r there own. lock r (subst (λ i. resident_as c i ≡ Some r) own (resident_loaded c r there)),
    λ lock r held. lock r (loaded_resident ident r held) (own_ident c ident r held),
  )

  pub resident_kind : (r : Resident) → Contains (residents_of c) r → r.ident.kind ≡ kind_of r.name
  resident_kind r there = sym (seat c sound r.ident.kind r.ident.slot r (resident_seat c r there)).name_is

  pub serials_rise : IsRising (residents_of c)
  unfolding residents_of
  serials_rise = rising (resident_as c) (own_ident c) c.issued sound.numbered

  -- a serial that is still to come is that of no resident
  pub no_later : (ident : Ident) → ident.serial ≡ length c.issued → (r : Resident) → Contains (residents_of c) r → r.ident ≢ ident
  no_later ident next r there same =
      let lower = live_within c.issued r.ident sound.numbered (loaded_live c sound r.ident r (resident_loaded c r there)) in
      omega (arith, lower, next, ap (λ (i : Ident). i.serial) same)

  -- one resident stands in a slot of a kind
  pub one_in_slot : (a b : Resident) → Contains (residents_of c) a → Contains (residents_of c) b → a.ident.kind ≡ b.ident.kind → a.ident.slot ≡ b.ident.slot → a ≡ b
  one_in_slot a b first second of_kind slot =
      let at_b = subst (λ s. resident_at c b.ident.kind s ≡ Some a) slot (subst (λ k. resident_at c k a.ident.slot ≡ Some a) of_kind (resident_seat c a first)) in
      some_same a b (sym at_b ∙ resident_seat c b second)

pub one_each : (c : Contents) → IsExactlyOne c → HaveOneEach (residents_of c)
one_each c one = record {
  idents = λ a b first second same. some_same a b (sym (resident_loaded c a first) ∙ ap (resident_as c) same ∙ resident_loaded c b second);
  names = λ a b first second same.
      let of_kind : a.ident.kind ≡ b.ident.kind = resident_kind c one.sound a first ∙ ap kind_of same ∙ sym (resident_kind c one.sound b second) in
      let a_there = subst (λ k. resident_at c k a.ident.slot ≡ Some a) of_kind (resident_seat c a first) in
      let slot = one_named c one b.ident.kind a.ident.slot b.ident.slot a b a_there (resident_seat c b second) same in
      one_in_slot c one.sound a b first second of_kind slot;
}
