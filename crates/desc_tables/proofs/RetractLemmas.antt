-- What holds of the tables once a row that isn't loaded went.
use Rattle.std.proofs.Common.{◌≡◌, ◌≢◌, Bool, true, false, not, cond, ◌&&◌, List, [], map, filter, Option, Some, None, IsSome, Contains, refl, ap, sym, ◌∙◌, subst, arith}
use Rattle.std.specs.Prelude.{if◌then◌else◌}
use Rattle.std.specs.Option.{option_map}
use Rattle.std.proofs.lemmas.Bool.{and_parts}
use Rattle.cache_ident.specs.declared.idents.Ident.{Ident}
use Rattle.cache_ident.specs.declared.idents.Kind.TheVariants as kind
use Rattle.cache_ident.specs.declared.names.Caps.{Caps}
use Rattle.cache_ident.specs.declared.names.Name.{Name}
use Rattle.cache_ident.specs.declared.names.Name.TheVariants as name
use Rattle.cache_ident.specs.declared.names.SpaceNo.{SpaceNo}
use Rattle.cache_ident.specs.declared.names.Vpn.{Vpn}
use Rattle.cache_ident.specs.Names.{kind_of}
use Rattle.cache_ident.specs.Residents.{Resident, IsNameResident}
use Rattle.depend_lists.specs.declared.nodes.Node.{Node}
use Rattle.phys_groups.specs.declared.rows.Row.{Row}
use Rattle.phys_groups.specs.Rows.{row_name, HasOneRowAPage}
use Rattle.phys_groups.specs.Translation.{is_row_of, row_of, without}
use Rattle.row_store.specs.signal_pages.specs.Signals.{is_signal_row_of}
use Rattle.kernel_cache.specs.declared.KernelRec.{KernelRec}
use Rattle.desc_groups.specs.flat_state.specs.State.{FlatState}
use Rattle.desc_groups.specs.flat_state.specs.Translation.{is_fit_row}
use Rattle.desc_groups.specs.flat_state.specs.Dependence.{owner, signal_rows_of}
use Rattle.desc_groups.specs.flat_state.proofs.Places.{count_by-filter}
use Rattle.desc_groups.specs.flat_laws.proofs.Members.{Contains-filter}
use Rattle.desc_groups.specs.run_journal.specs.Legal.{AreGood}
use Rattle.row_store.specs.owner_shelf.specs.Rows.{content_under}
use Rattle.row_store.specs.owner_shelf.proofs.NameLemmas.{eq_same}
use Rattle.row_store.specs.kind_store.specs.Changes.{is_name}
use Rattle.desc_groups.specs.desc_stores.specs.declared.items.Item.{Item}
use Rattle.desc_groups.specs.desc_stores.specs.declared.items.Item.TheVariants as item
use Rattle.desc_groups.specs.desc_stores.specs.Changes.{HasNoContent}
use Rattle.desc_groups.specs.desc_stores.specs.Contents.{content_of, names_of, resident_of, residents_of, Contents, IsShelved}
use Rattle.desc_groups.specs.desc_stores.specs.Sound.{AreOwned, IsExactlyOne}
use Rattle.desc_groups.specs.desc_stores.proofs.PutLemmas.{shelved_content}
use Rattle.desc_groups.specs.shown_state.specs.Edits.{without_row}
use Rattle.desc_groups.specs.shown_state.proofs.ContentLemmas.{named_by_page}
use Rattle.desc_groups.specs.shown_state.proofs.DeclareLemmas.{retraction_shown}
use Rattle.desc_groups.specs.shown_state.proofs.LookupLemmas.{one_row_a_page}
use Rattle.desc_groups.specs.shown_state.proofs.OwnerLemmas.{owners_retracted, stays_owned}
use Rattle.desc_groups.specs.store_residents.proofs.ContentLemmas.{shelved_iff}
use Rattle.desc_groups.specs.store_residents.proofs.ResidentLemmas.{seat_resident}
use Rattle.desc_groups.specs.store_residents.proofs.StayLemmas.{slots-retracting}
use Rattle.desc_groups.specs.desc_parents.specs.Seen.{seen, HasPlainRows}
use Rattle.desc_groups.specs.declared.departures.Gone.{Gone}
use Rattle.desc_tables.specs.Tables.{ArePlaced, AreSound}
use Rattle.desc_tables.proofs.LikeLemmas.{fit_there, like_for, KeepsLoaded}
use Rattle.desc_tables.proofs.ListLemmas.{filter-kept, find-kept}
use Rattle.desc_tables.proofs.RightsLemmas.{depends_on}
use Rattle.desc_tables.proofs.SoundLemmas.{sound_like, IsLikeFor, RoomIn}

-- the state without the row of a page, which no resident is
module _ (s : FlatState) (rs : List Resident) (single : HasOneRowAPage s.rows) (space : SpaceNo) (vpn : Vpn) (absent : IsNameResident rs (name.Mapping space vpn) → ⊥) where
  abbrev stays : Row → Bool
  stays row = not (is_row_of space vpn.0 row)

  abbrev left : FlatState
  left = record s { rows = without space vpn.0 s.rows }

  -- a resident's row stays
  other_stays : (row : Row) → IsNameResident rs (row_name row) → stays row ≡ true
  other_stays row resident = by (is_row_of space vpn.0 row) refl
    where
      by : (b : Bool) → is_row_of space vpn.0 row ≡ b → not b ≡ true
      by true is = absurd (absent (subst (λ (n : Name). IsNameResident rs n) (named_by_page space vpn row is) resident))
      by false is = refl

  same_signals : AreGood s rs → (r : Resident) → Contains rs r → (p : SpaceNo) (v : Vpn) → r.name ≡ name.Mapping p v → (x : Row) → row_of s.rows p v.0 ≡ Some x → signal_rows_of left x ≡ signal_rows_of s x
  same_signals good r there p v is x at = by x.flags.m refl
    where
      by : (m : Bool) → x.flags.m ≡ m → (if m then filter (λ other. is_signal_row_of x.frame other && is_fit_row s other) (filter stays s.rows) else []) ≡ (if m then filter (λ other. is_signal_row_of x.frame other && is_fit_row s other) s.rows else [])
      by true message =
          filter-kept (λ other. is_signal_row_of x.frame other && is_fit_row s other) stays s.rows
          (λ q q_there passes.
          let parts = and_parts (is_signal_row_of x.frame q) (is_fit_row s q) passes in
          other_stays q ((good r there).parents (row_name q) (depends_on s rs single r there p v is x at message q q_there parts.0 s.kernels parts.1)))
      by false message = refl

  keeps_left : AreGood s rs → KeepsLoaded s left rs
  keeps_left good = record {
    kernels = λ k some. some;
    spaces = λ k kernel at. at;
    threads = λ k t at. (t, at, refl);
    rows = λ r p v x there is at. record {
      row = x;
      there = find-kept (is_row_of p v.0) stays s.rows (λ y passes. other_stays y (r, there, is ∙ sym (named_by_page p v y passes))) ∙ at;
      space = refl;
      message = refl;
      receiver = refl;
      signals = ap (map row_name) (same_signals good r there p v is x at);
      fit = fit_there s rs good r p v x there is at;
    };
  }

  plain_left : HasPlainRows s → HasPlainRows left
  plain_left plain = record {
    agreed = λ row there. plain.agreed row (Contains-filter stays s.rows row there).0;
    framed = λ row there. plain.framed row (Contains-filter stays s.rows row there).0;
    few = λ frame. let fewer = count_by-filter (is_signal_row_of frame) stays s.rows in let few = plain.few frame in omega arith;
  }

  placed_left : ArePlaced s → ArePlaced left
  placed_left placed = record { spaces = placed.spaces; rows = λ row there. placed.rows row (Contains-filter stays s.rows row there).0 }

-- the content of a row on the shelf
pub shelved_row : (c : Contents) → IsExactlyOne c → (n : Name) (row : Row) → kind_of n ≡ kind.Mapping → IsShelved c n → content_under row_name c.rows.kept.rows n ≡ Some row → content_of c n ≡ Some (item.Mapping row)
shelved_row c one (name.Kernel number) row of shelved at = absurd (cc)
shelved_row c one (name.Space number) row of shelved at = absurd (cc)
shelved_row c one (name.Thread number) row of shelved at = absurd (cc)
shelved_row c one (name.Mapping space vpn) row of shelved at =
    let none = ((shelved_iff c one (name.Mapping space vpn)).0 shelved).1 in
    ap (option_map item.Mapping)
    (shelved_content row_name c.rows.kept (name.Mapping space vpn) (λ slot l there named. none (resident_of row_name l, seat_resident c one.sound kind.Mapping slot (resident_of row_name l) (ap (option_map (resident_of row_name)) there), named)) ∙ at)

module _ (old new : Contents) (space : SpaceNo) (vpn : Vpn) (shelved : IsShelved old (name.Mapping space vpn)) (has : HasNoContent old new (name.Mapping space vpn)) (names : names_of new kind.Mapping ≡ filter (λ other. not (is_name other (name.Mapping space vpn))) (names_of old kind.Mapping)) (only : new ≡ record old { rows = new.rows }) where
  kernel_kept : (n : Name) (kernel : KernelRec) → content_of new n ≡ Some (item.Kernel kernel) → content_of old n ≡ Some (item.Kernel kernel)
  kernel_kept n kernel at = by (is_name (name.Mapping space vpn) n) (sym (has n) ∙ at)
    where
      by : (b : Bool) → cond b None (content_of old n) ≡ Some (item.Kernel kernel) → content_of old n ≡ Some (item.Kernel kernel)
      by true same = absurd (cc)
      by false same = same

  gone_from_new : (n : Name) → IsSome (content_of new n) → n ≢ name.Mapping space vpn
  gone_from_new n some is =
      let none : content_of new n ≡ None = has n ∙ ap (λ (b : Bool). cond b None (content_of old n)) (eq_same (name.Mapping space vpn) n (sym is)) in
      absurd (let clash : IsSome {T = Item} None = subst (λ (o : Option Item). IsSome o) none some in cc)

  module _ (caps : Caps) (gone : List Gone) (left : List Name) (pairs : List (Ident × Node)) (sound : AreSound (record { caps = caps; contents = old; gone = gone; left = left }) pairs) (one : IsExactlyOne new) (residents : residents_of new ≡ residents_of old) (cells : new.rows.kept.cells ≡ old.rows.kept.cells) (owned : AreOwned (owner (seen old)) new) where
    abbrev after : FlatState
    after = without_row (seen old) space vpn

    shows : seen new ≡ after
    shows = retraction_shown None [] old new space vpn (record { contents = has; names = names; only = only })

    absent : IsNameResident (residents_of old) (name.Mapping space vpn) → ⊥
    absent = ((shelved_iff old sound.whole.one (name.Mapping space vpn)).0 shelved).1

    single : HasOneRowAPage (seen old).rows
    single = one_row_a_page None [] old sound.whole.one

    sound_without : AreSound (record { caps = caps; contents = new; gone = gone; left = left }) pairs
    sound_without =
        let keeps = keeps_left (seen old) (residents_of old) single space vpn absent sound.whole.good in
        sound_like caps old new gone left pairs sound one (slots-retracting old new only cells) residents
        (subst HasPlainRows (sym shows) (plain_left (seen old) (residents_of old) single space vpn absent sound.whole.rows))
        (subst (λ (s : FlatState). IsLikeFor (seen old) s (residents_of old)) (sym shows) (like_for (seen old) after (residents_of old) sound.whole.good keeps))
        (stays_owned new (owner (seen old)) (owner (seen new)) (λ n kernel some at. subst (λ (s : FlatState). owner s n ≡ Some kernel) (sym shows) (owners_retracted (seen old) space vpn n kernel (gone_from_new n some) at)) owned)
        (λ n kernel at. sound.whole.counted n kernel (kernel_kept n kernel at))
        (subst (RoomIn caps) (sym shows) sound.room)
        (λ n kernel at. sound.limited n kernel (kernel_kept n kernel at))
        (subst ArePlaced (sym shows) (placed_left (seen old) (residents_of old) single space vpn absent sound.placed))

pub sound_retracted : (caps : Caps) (old new : Contents) (gone : List Gone) (left : List Name) (pairs : List (Ident × Node)) → AreSound (record { caps = caps; contents = old; gone = gone; left = left }) pairs → IsExactlyOne new → (n : Name) → kind_of n ≡ kind.Mapping → IsShelved old n → HasNoContent old new n → names_of new kind.Mapping ≡ filter (λ other. not (is_name other n)) (names_of old kind.Mapping) → new ≡ record old { rows = new.rows }
    → residents_of new ≡ residents_of old → new.rows.kept.cells ≡ old.rows.kept.cells → AreOwned (owner (seen old)) new → AreSound (record { caps = caps; contents = new; gone = gone; left = left }) pairs
sound_retracted caps old new gone left pairs sound one (name.Kernel number) of shelved has names only residents cells owned = absurd (cc)
sound_retracted caps old new gone left pairs sound one (name.Space number) of shelved has names only residents cells owned = absurd (cc)
sound_retracted caps old new gone left pairs sound one (name.Thread number) of shelved has names only residents cells owned = absurd (cc)
sound_retracted caps old new gone left pairs sound one (name.Mapping space vpn) of shelved has names only residents cells owned = sound_without old new space vpn shelved has names only caps gone left pairs sound one residents cells owned
