-- What holds of tables in which nothing stands.
use Rattle.std.proofs.Common.{◌≡◌, ℕ, ◌≤◌, false, true, List, [], ◌∷◌, length, Some, None, Option, is_some, Contains, refl, ap, sym, ◌∙◌, subst, arith}
use Rattle.cache_ident.specs.declared.names.Caps.{Caps}
use Rattle.cache_ident.specs.declared.names.KernelNo.{KernelNo}
use Rattle.cache_ident.specs.declared.names.Name.{Name}
use Rattle.cache_ident.specs.declared.names.Name.TheVariants as name
use Rattle.cache_ident.specs.declared.rolls.Issued.{Issued}
use Rattle.cache_ident.specs.Residents.{Resident}
use Rattle.depend_lists.specs.Pairs.{count_of}
use Rattle.desc_groups.specs.resident_pairs.specs.Among.{Among}
use Rattle.row_store.specs.owner_shelf.specs.declared.shelved.Shelved.{Shelved}
use Rattle.slot_cache.specs.Rows.{row_name}
use Rattle.kernel_cache.specs.Kernels as kernel_rec
use Rattle.desc_groups.specs.space_cache.specs.Spaces as space_rec
use Rattle.thread_cache.specs.Threads as thread_rec
use Rattle.desc_groups.specs.flat_state.specs.State.{nothing_declared, FlatState}
use Rattle.desc_groups.specs.flat_state.specs.Dependence.{owner}
use Rattle.desc_groups.specs.flat_state.specs.Names.{stands}
use Rattle.desc_groups.specs.flat_laws.proofs.Members.{contains_nothing}
use Rattle.row_store.specs.kind_store.specs.Kept as stored
use Rattle.desc_groups.specs.desc_stores.specs.declared.items.Item.{Item}
use Rattle.desc_groups.specs.desc_stores.specs.Changes.{IsNothing}
use Rattle.desc_groups.specs.desc_stores.specs.Contents.{content_of, residents_of, Contents}
use Rattle.desc_groups.specs.desc_stores.specs.Sound.{IsExactlyOne}
use Rattle.desc_groups.specs.shown_state.proofs.DeclareLemmas.{nothing_shown}
use Rattle.desc_groups.specs.shown_state.proofs.LookupLemmas.{name_stands}
use Rattle.desc_groups.specs.store_residents.proofs.StayLemmas.{slots-nothing}
use Rattle.desc_groups.specs.desc_parents.specs.Seen.{seen, HasPlainRows}
use Rattle.desc_groups.specs.declared.departures.Gone.{Gone}
use Rattle.desc_tables.specs.Tables.{ArePlaced, AreSound}

none_stands : (n : Name) → stands nothing_declared n ≡ false
unfolding stands
none_stands (name.Kernel kernel) = refl
none_stands (name.Space space) = refl
none_stands (name.Thread thread) = refl
none_stands (name.Mapping space vpn) = refl

plain_rows : HasPlainRows nothing_declared
plain_rows = record {
  agreed = λ row there. absurd (contains_nothing row there);
  framed = λ row there. absurd (contains_nothing row there);
  few = λ frame. omega arith;
}

placed : ArePlaced nothing_declared
placed = record {
  spaces = λ kernel there. absurd (contains_nothing kernel there);
  rows = λ row there. absurd (contains_nothing row there);
}

nothing_owned : {T : Type 0} (called : T → Name) (owner_of : Name → Option KernelNo) (rows : List (Shelved T)) → rows ≡ [] → stored.AreOwned called owner_of rows
nothing_owned called owner_of [] is = λ k d below. absurd (omega arith)
nothing_owned called owner_of (row ∷ rows) is = absurd (cc)

pub none_resident : (c : Contents) → c.issued ≡ [] → residents_of c ≡ []
unfolding residents_of
none_resident c is = ap (λ (issued : List Issued). residents_of (record c { issued = issued })) is

module _ (caps : Caps) (c : Contents) (nothing : IsNothing caps c) (one : IsExactlyOne c) where
  sees_nothing : seen c ≡ nothing_declared
  sees_nothing = nothing_shown None [] caps c nothing

  none_there : (n : Name) (content : Item) → content_of c n ≡ Some content → ⊥
  none_there n content there =
      let stood : is_some (content_of c n) ≡ false = sym (name_stands None [] c one n) ∙ ap (λ (s : FlatState). stands s n) sees_nothing ∙ none_stands n in
      let some : is_some (content_of c n) ≡ true = ap is_some there in
      cc

  empty : residents_of c ≡ []
  empty = none_resident c nothing.issued

  sound_nothing : (gone : List Gone) (left : List Name) → AreSound (record { caps = caps; contents = c; gone = gone; left = left }) []
  sound_nothing gone left = record {
    whole = record {
      one = one;
      sized = slots-nothing caps c nothing;
      rows = subst HasPlainRows (sym sees_nothing) plain_rows;
      pairs_are = record {
        sound = λ pair there. absurd (contains_nothing pair there);
        complete = λ parent child parent_there child_there depends. absurd (contains_nothing parent (subst (λ (rs : List Resident). Contains rs parent) empty parent_there));
      };
      good = λ r there. absurd (contains_nothing r (subst (λ (rs : List Resident). Contains rs r) empty there));
      owned = record {
        kernels = nothing_owned kernel_rec.name_of (owner (seen c)) c.kernels.rows (ap (λ k. k.rows) nothing.kernels);
        spaces = nothing_owned space_rec.name_of (owner (seen c)) c.spaces.rows (ap (λ k. k.rows) nothing.spaces);
        threads = nothing_owned thread_rec.name_of (owner (seen c)) c.threads.rows (ap (λ k. k.rows) nothing.threads);
        rows = nothing_owned row_name (owner (seen c)) c.rows.kept.rows (ap (λ k. k.kept.rows) nothing.rows);
      };
      counted = λ n kernel there. absurd (none_there n _ there);
    };
    room = λ some. absurd (let none : length (seen c).kernels ≡ 0 = ap (λ (s : FlatState). length s.kernels) sees_nothing in omega arith);
    limited = λ n kernel there. absurd (none_there n _ there);
    placed = subst ArePlaced (sym sees_nothing) placed;
  }

  -- with no pairs, and room for all that can leave
  pub sound_new : (among : Among) (gone : List Gone) (left : List Name) (room for_names : ℕ) → among ≡ record { caps = caps; pairs = []; order = [] } → count_of caps ≤ room → count_of caps ≤ for_names
      → AreSound (record { caps = among.caps; contents = c; gone = gone; left = left }) among.pairs × (count_of among.caps ≤ room) × (count_of among.caps ≤ for_names)
  sound_new among gone left room for_names is roomy named =
      subst (λ (a : Among). AreSound (record { caps = a.caps; contents = c; gone = gone; left = left }) a.pairs × (count_of a.caps ≤ room) × (count_of a.caps ≤ for_names)) (sym is) (sound_nothing gone left, roomy, named)
