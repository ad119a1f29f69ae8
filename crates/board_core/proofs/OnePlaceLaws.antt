-- Each descriptor is in one place.
use Rattle.std.proofs.Common.{◌≡◌, ◌⊎◌, Bool, true, false, List, ◌∷◌, [], cond, Option, Some, None, IsSome, is_some, refl, sym, ◌∙◌, ap, subst, inl, inr}
use Rattle.std.specs.Option.{option_map}
use Rattle.std.proofs.lemmas.List.Elements.{All-head, All-tail}
use Rattle.cache_ident.specs.declared.names.KernelNo.{KernelNo}
use Rattle.cache_ident.specs.declared.names.Name.{Name}
use Rattle.cache_ident.specs.declared.names.Name.TheVariants as name
use Rattle.cached_machine.specs.owner_shelf.specs.declared.shelved.Shelved.{Shelved}
use Rattle.cached_machine.specs.owner_shelf.specs.Rows.{content_under, is_named, row_under}
use Rattle.cached_machine.specs.owner_shelf.proofs.RowLaws.{found_named}
use Rattle.cached_machine.specs.kernel_cache.specs.Kernels as kernel_rec
use Rattle.cached_machine.specs.kind_store.specs.Kept as stored
use Rattle.thread_cache.specs.slot_cache.specs.Rows.{row_name}
use Rattle.thread_cache.specs.slot_cache.proofs.SlotLemmas.{some_same}
use Rattle.cached_machine.specs.space_cache.specs.Spaces as space_rec
use Rattle.thread_cache.specs.Threads as thread_rec
use Rattle.flat_state.specs.Dependence.{owner}
use Rattle.flat_state.specs.Names.{stands}
use Rattle.flat_state.specs.State.{FlatState}
use Rattle.cached_machine.specs.board_laws.proofs.Growing.{state_is_flat}
use Rattle.cached_machine.specs.desc_stores.specs.Contents.{content_of, residents_of, shelf_owner, Contents, IsShelved}
use Rattle.cached_machine.specs.desc_stores.specs.Sound.{AreOwned, IsExactlyOne}
use Rattle.cached_machine.specs.desc_parents.specs.Seen.{seen}
use Rattle.cached_machine.specs.shown_state.proofs.LookupLemmas.{name_stands}
use Rattle.cached_machine.specs.shown_state.proofs.OwnerLemmas.{owner_found}
use Rattle.cached_machine.specs.store_residents.proofs.ContentLemmas.{resident_content, shelved_iff}
use Rattle.cached_machine.specs.store_residents.proofs.ResidentLemmas.{one_each}
use Rattle.cached_machine.specs.Cached.{is_loaded, state_of}
use Rattle.cached_machine.proofs.LoadedLaws.{loaded_by, loads}
use Rattle.board_core.specs.Core.{contents_of, IsSound, Recorded}
use Rattle.board_core.specs.Places.{flat_of, IsInOnePlace, IsInItsCache, IsWithItsOwner}

-- ---- the shelf of a kind

module _ {T : Type 0} (called : T → Name) (owner_of : Name → Option KernelNo) where
  abbrev Own : Shelved T → Type 0
  Own row = owner_of (called row.content) ≡ Some row.owner

  -- the row of a name stands under its content's owner, as each does
  row_owned : (rows : List (Shelved T)) (n : Name) (row : Shelved T) → stored.AreOwned called owner_of rows → row_under called rows n ≡ Some row → Own row
  row_owned [] n row owned there = absurd (cc)
  row_owned (r ∷ rest) n row owned there = by (is_named called n r) (row_owned rest n row (All-tail Own r rest owned)) there
    where
      by : (b : Bool) → (row_under called rest n ≡ Some row → Own row) → cond b (Some r) (row_under called rest n) ≡ Some row → Own row
      by true later there = subst Own (some_same r row there) (All-head Own r rest owned)
      by false later there = later there

  with_owner : (rows : List (Shelved T)) (n : Name) → stored.AreOwned called owner_of rows → IsSome (content_under called rows n)
      → (k : KernelNo) × (owner_of n ≡ Some k) × (option_map (λ (row : Shelved T). row.owner) (row_under called rows n) ≡ Some k)
  with_owner rows n owned shelved = by (row_under called rows n) refl shelved
    where
      by : (o : Option (Shelved T)) → row_under called rows n ≡ o → IsSome (option_map (λ (row : Shelved T). row.content) o)
          → (k : KernelNo) × (owner_of n ≡ Some k) × (option_map (λ (row : Shelved T). row.owner) (row_under called rows n) ≡ Some k)
      by None is some = absurd (cc)
      by (Some row) is some = (
        row.owner,
        subst (λ (m : Name). owner_of m ≡ Some row.owner) (found_named called rows n row is) (row_owned rows n row owned is),
        ap (option_map (λ (r : Shelved T). r.owner)) is,
      )

has_row : {R : Type 0} (o : Option (Shelved R)) (k : KernelNo) → option_map (λ (row : Shelved R). row.owner) o ≡ Some k → IsSome (option_map (λ (row : Shelved R). row.content) o)
has_row None k is = absurd (cc)
has_row (Some row) k is = refl

-- ---- the shelves

owner_on_shelf : (owner_of : Name → Option KernelNo) (c : Contents) → AreOwned owner_of c → (n : Name) → IsShelved c n → (k : KernelNo) × (owner_of n ≡ Some k) × (shelf_owner c n ≡ Some k)
owner_on_shelf owner_of c owned (name.Kernel number) shelved = with_owner kernel_rec.name_of owner_of c.kernels.rows (name.Kernel number) owned.kernels shelved
owner_on_shelf owner_of c owned (name.Space number) shelved = with_owner space_rec.name_of owner_of c.spaces.rows (name.Space number) owned.spaces shelved
owner_on_shelf owner_of c owned (name.Thread number) shelved = with_owner thread_rec.name_of owner_of c.threads.rows (name.Thread number) owned.threads shelved
owner_on_shelf owner_of c owned (name.Mapping space vpn) shelved = with_owner row_name owner_of c.rows.kept.rows (name.Mapping space vpn) owned.rows shelved

shelved_with : (c : Contents) (n : Name) (k : KernelNo) → shelf_owner c n ≡ Some k → IsShelved c n
shelved_with c (name.Kernel number) k is = has_row (row_under kernel_rec.name_of c.kernels.rows (name.Kernel number)) k is
shelved_with c (name.Space number) k is = has_row (row_under space_rec.name_of c.spaces.rows (name.Space number)) k is
shelved_with c (name.Thread number) k is = has_row (row_under thread_rec.name_of c.threads.rows (name.Thread number)) k is
shelved_with c (name.Mapping space vpn) k is = has_row (row_under row_name c.rows.kept.rows (name.Mapping space vpn)) k is

-- ---- a sound board

module _ (b : Recorded) (sound : IsSound b) where
  one : IsExactlyOne (contents_of b)
  one = sound.tables.1.whole.one

  shown_is_flat : state_of b.machine ≡ flat_of b
  shown_is_flat = state_is_flat b.machine.machine b.machine.memory (contents_of b) b.sealed b.journal.entries sound.told

  -- what stands has a content
  stands_is : (n : Name) → stands (flat_of b) n ≡ is_some (content_of (contents_of b) n)
  stands_is n = ap (λ (s : FlatState). stands s n) (sym shown_is_flat) ∙ name_stands (Some b.machine.machine) b.machine.memory (contents_of b) one n

  owner_is : (n : Name) → owner (seen (contents_of b)) n ≡ owner (flat_of b) n
  owner_is n = owner_found None [] (contents_of b) one n ∙ sym (owner_found (Some b.machine.machine) b.machine.memory (contents_of b) one n) ∙ ap (λ (s : FlatState). owner s n) shown_is_flat

  with_its_owner : (n : Name) → IsShelved (contents_of b) n → IsWithItsOwner b n
  with_its_owner n shelved =
      let on = owner_on_shelf (owner (seen (contents_of b))) (contents_of b) sound.tables.1.whole.owned n shelved in
      record { kernel = on.0; owns = sym (owner_is n) ∙ on.1; shelved = on.2 }

  somewhere : (n : Name) → stands (flat_of b) n ≡ true → IsInItsCache b n ⊎ IsWithItsOwner b n
  somewhere n there = by (is_loaded (contents_of b) n) refl
    where
      by : (loaded : Bool) → is_loaded (contents_of b) n ≡ loaded → IsInItsCache b n ⊎ IsWithItsOwner b n
      by true is = inl (loaded_by (residents_of (contents_of b)) n is)
      by false is = inr (with_its_owner n ((shelved_iff (contents_of b) one n).1 (
        sym (stands_is n) ∙ there,
        λ r. let on : is_loaded (contents_of b) n ≡ true = loads (residents_of (contents_of b)) n r.0 r.1 r.2 in cc,
      )))

  pub in_one_place : IsInOnePlace b
  in_one_place = record {
    somewhere = somewhere;
    never_both = λ n kernel loaded on. ((shelved_iff (contents_of b) one n).0 (shelved_with (contents_of b) n kernel on)).1 loaded;
    once = (one_each (contents_of b) one).names;
    loaded_stands = λ n r. stands_is n ∙ subst (λ (m : Name). IsSome (content_of (contents_of b) m)) r.2 (resident_content (contents_of b) one r.0 r.1);
    shelved_stands = λ n kernel on. stands_is n ∙ ((shelved_iff (contents_of b) one n).0 (shelved_with (contents_of b) n kernel on)).0;
  }
