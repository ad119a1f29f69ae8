-- The lists beside the rows stay true when a row comes, changes or goes.
use Rattle.std.proofs.Common.{◌≡◌, ◌≢◌, ◌↔◌, ◌⊎◌, ℕ, ◌+◌, ◌<◌, ◌≤◌, Bool, true, not, List, [], ◌∷◌, ◌++◌, length, map, filter, replicate, All, Contains, get_or, Some, None, is_some, sym, ◌∙◌, ap, subst, inl, inr, refl, arith, lit<}
use Rattle.std.specs.Option.{IsSome}
use Rattle.std.specs.declared.cmp.Ordering.TheVariants.{Less}
use Rattle.std.proofs.lemmas.Bool.{false≢true}
use Rattle.std.proofs.lemmas.Cmp.{nat_cmp_total, tied_itself}
use Rattle.std.proofs.lemmas.List.Elements.{Contains-append_cases, Contains-append_left, Contains-append_right, Contains-get_or}
use Rattle.std.proofs.lemmas.List.{map-append, nil_from_length}
use Rattle.std.proofs.lemmas.List.Kept.{AllPairs-filter}
use Rattle.cache_ident.specs.contracts.names.FrameOrd.TheImpl as frames
use Rattle.cache_ident.specs.contracts.names.FrameOrd.TheImpl.Laws as frame_laws
use Rattle.cache_ident.specs.contracts.names.FramePartialEq.TheImpl as frame_eq
use Rattle.cache_ident.specs.contracts.names.NameOrd.TheImpl.Laws as name_laws
use Rattle.cache_ident.specs.contracts.names.NamePartialEq.TheImpl as names
use Rattle.cache_ident.specs.declared.idents.Ident.{Ident}
use Rattle.cache_ident.specs.declared.names.Frame.{Frame}
use Rattle.cache_ident.specs.declared.names.Name.{Name}
use Rattle.phys_groups.specs.declared.rows.Row.{Row}
use Rattle.signal_pages.specs.Signals.{is_signal_row_of}
use Rattle.sorted_list.specs.Sorted.{values_under, IsRising, Sorted}
use Rattle.sorted_list.specs.Sorted.{IsProper as IsProperList}
use Rattle.sorted_list.proofs.ListLemmas.{Contains-cons_cases, Contains-filter, Contains-first, Contains-from_filter, Contains-from_map, Contains-map}
use Rattle.sorted_list.proofs.RisingLemmas.{by_parts_total}
use Rattle.sorted_list.proofs.UnderLemmas.{entry_of_value, value_of_entry}
use Rattle.slot_cache.specs.Rows.{row_name}
use Rattle.kind_store.specs.owner_shelf.proofs.NameLemmas.{eq_apart, eq_same}
use Rattle.kind_store.specs.Kept.{content_of, Kept}
use Rattle.kind_store.specs.Changes.{HasContent, HasNoContent}
use Rattle.kind_store.proofs.ContentLemmas.{cases_name}
use Rattle.declared_names.specs.Order.{entries_without, is_of, names_in, AreInOrder, InOrder}
use Rattle.declared_names.proofs.OrderLemmas.{less_first}
use Rattle.row_store.specs.declared.frames.RowsOf.{RowsOf}
use Rattle.row_store.specs.Frames.{IsIndexed}
use Rattle.row_store.specs.Kept.{is_signal, is_signal_of, signal_names, AreNamed, KeptRows}
use Rattle.row_store.specs.Layout.{IsSignalIndex, IsSound}
use Rattle.row_store.specs.Signals.{stamped_cmp, IsListed, IsUnlisted}
use Rattle.row_store.proofs.ContentLemmas.{content_else, content_here, no_some, nothing_here, some_there, something_else, AreAlike}
use Rattle.row_store.proofs.FrameLemmas.{frame_itself, indexed-new, same_frame}
use Rattle.row_store.proofs.ListLemmas.{filter_map_second, once_second, one_second, same_items, values_rise}

abbrev pub name_of : ℕ × Name → Name
name_of entry = entry.1

only_one : {X : Type 0} (x y : X) → Contains (x ∷ []) y → y ≡ x
only_one x y there = elim (Contains-cons_cases [] x y there) [
  | inl is ↦ is
  | inr none ↦ absurd (omega (arith, none.1))
]

some_there_is : {X : Type 0} (xs : List X) → 0 < length xs → (x : X) × Contains xs x
some_there_is [] some = absurd (omega arith)
some_there_is (x ∷ xs) some = (x, Contains-first xs x)

-- nothing is sound
module _ (cap : ℕ) (kept : Kept Row) (order : InOrder) (signals : Sorted Frame (ℕ × Name)) (by_frame : Sorted RowsOf Ident) where
  no_content : (name : Name) → kept ≡ record { cells = replicate cap None; rows = []; room = 0 } → content_of row_name kept name ≡ content_of row_name (record { cells = replicate cap None; rows = []; room = 0 }) name
  no_content name is = ap (λ (k : Kept Row). content_of row_name k name) is

  pub sound-new : kept ≡ record { cells = replicate cap None; rows = []; room = 0 } → ((name : Name) → content_of row_name kept name ≡ None) → order ≡ record { room = 0; entries = [] } → signals ≡ record { room = 0; entries = [] } → by_frame.entries ≡ [] → by_frame.room ≡ cap → IsSound 0 kept order signals by_frame
  sound-new is none order_is signals_is entries room =
      let no_entry = ap (λ (o : InOrder). length o.entries) order_is in
      let no_signal = ap (λ (s : Sorted Frame (ℕ × Name)). length s.entries) signals_is in
      let signals_room = ap (λ (s : Sorted Frame (ℕ × Name)). s.room) signals_is in
      record {
        in_order = rw order_is (record { rising = λ i j d lt within. absurd (omega (arith, within)); once = λ i j d lt within. absurd (omega (arith, within)) });
        named = λ name. (λ there. absurd (let x = Contains-from_map name_of order.entries name there in omega (arith, x.1.1, no_entry)), λ some. absurd (no_some (content_of row_name kept name) (none name) some));
        signals_listed = λ entry. (λ there. absurd (omega (arith, there.1, no_signal)), λ both. absurd (omega (arith, both.0.1, no_entry)));
        signals_proper = rw signals_is (record { rising = λ i j d lt within. absurd (omega (arith, within)); few = omega arith; small = lit< tt });
        frames_listed = rw is (indexed-new cap by_frame entries room);
        rows_room = omega arith;
        order_room = omega arith;
        signals_room = omega (arith, no_signal, signals_room);
      }

module _ (room : ℕ) (kept : Kept Row) (order : InOrder) (signals : Sorted Frame (ℕ × Name)) (by_frame : Sorted RowsOf Ident) (sound : IsSound room kept order signals by_frame) where
  -- what a reader learns
  pub named_seen : (sees : KeptRows) → record { kept = kept; names = names_in order; room = room } ≡ sees → AreNamed sees
  named_seen sees is = subst AreNamed is (record { once = once_second order.entries sound.in_order.once; named = sound.named })

  -- a declared name has a content
  has_content : (entry : ℕ × Name) → Contains order.entries entry → IsSome (content_of row_name kept entry.1)
  has_content entry there = (sound.named entry.1).0 (Contains-map name_of order.entries entry there)

  undeclared : (name : Name) → content_of row_name kept name ≡ None → (entry : ℕ × Name) → entry.1 ≡ name → Contains order.entries entry → ⊥
  undeclared name none entry same there = no_some (content_of row_name kept entry.1) (ap (content_of row_name kept) same ∙ none) (has_content entry there)

  -- a name without content can be declared, and isn't listed
  pub new_name : (name : Name) → content_of row_name kept name ≡ None → All (λ entry. entry.1 ≢ name) order.entries
  new_name name none k d within same = undeclared name none (get_or order.entries k d) same (Contains-get_or order.entries k d within)

  pub new_signal : (name : Name) → content_of row_name kept name ≡ None → All (λ entry. entry.1.1 ≢ name) signals.entries
  new_signal name none k d within same =
      let entry = get_or signals.entries k d in
      undeclared name none entry.1 same ((sound.signals_listed entry).0 (Contains-get_or signals.entries k d within)).0

  -- with more room
  pub sound-roomier : (more : ℕ) (new_kept : Kept Row) (new_order : InOrder) (new_signals : Sorted Frame (ℕ × Name)) → AreAlike kept new_kept → new_kept.cells ≡ kept.cells → new_order.entries ≡ order.entries → new_signals.entries ≡ signals.entries → IsProperList (frames.ghosts).cmp stamped_cmp new_signals → more ≤ new_kept.room → more ≤ new_order.room → more + length signals.entries ≤ new_signals.room → IsSound more new_kept new_order new_signals by_frame
  sound-roomier more new_kept new_order new_signals alike cells entries signal_entries proper rows_room order_room signals_room = record {
    in_order = rw entries sound.in_order;
    named = λ name. rw entries ((λ there. alike.known name ∙ (sound.named name).0 there, λ some. (sound.named name).1 (sym (alike.known name) ∙ some)));
    signals_listed = λ entry. rw (entries, signal_entries) ((λ there. let was = (sound.signals_listed entry).0 there in (was.0, alike.signals entry.1.1 entry.0 ∙ was.1), λ both. (sound.signals_listed entry).1 (both.0, sym (alike.signals entry.1.1 entry.0) ∙ both.1)));
    signals_proper = proper;
    frames_listed = rw cells sound.frames_listed;
    rows_room = rows_room;
    order_room = order_room;
    signals_room = rw signal_entries signals_room;
  }

  -- with other cells, where names and signals are alike
  pub sound-alike : (new_kept : Kept Row) (new_by_frame : Sorted RowsOf Ident) → AreAlike kept new_kept → new_kept.room ≡ kept.room → IsIndexed new_kept.cells new_by_frame → IsSound room new_kept order signals new_by_frame
  sound-alike new_kept new_by_frame alike same_room indexed = record {
    in_order = sound.in_order;
    named = λ name. (λ there. alike.known name ∙ (sound.named name).0 there, λ some. (sound.named name).1 (sym (alike.known name) ∙ some));
    signals_listed = λ entry. (λ there. let was = (sound.signals_listed entry).0 there in (was.0, alike.signals entry.1.1 entry.0 ∙ was.1), λ both. (sound.signals_listed entry).1 (both.0, sym (alike.signals entry.1.1 entry.0) ∙ both.1));
    signals_proper = sound.signals_proper;
    frames_listed = indexed;
    rows_room = omega (arith, sound.rows_room, same_room);
    order_room = sound.order_room;
    signals_room = sound.signals_room;
  }

  -- a row comes
  module _ (stamp : ℕ) (name : Name) (value : Row) (none : content_of row_name kept name ≡ None) (new_kept : Kept Row) (has : HasContent row_name kept new_kept name value) (new_order : InOrder) (pushed : new_order.entries ≡ order.entries ++ (stamp, name) ∷ []) where
    abbrev last : ℕ × Name
    last = (stamp, name)

    either : (entry : ℕ × Name) → Contains new_order.entries entry → Contains order.entries entry ⊎ (entry ≡ last)
    either entry there = elim (Contains-append_cases order.entries (last ∷ []) entry (subst (λ l. Contains l entry) pushed there)) [
      | inl old ↦ inl old
      | inr new ↦ inr (only_one last entry new)
    ]

    old_there : (entry : ℕ × Name) → Contains order.entries entry → Contains new_order.entries entry
    old_there entry old = subst (λ l. Contains l entry) (sym pushed) (Contains-append_left order.entries (last ∷ []) entry old)

    last_there : (entry : ℕ × Name) → entry ≡ last → Contains new_order.entries entry
    last_there entry is = subst (Contains new_order.entries) (sym is) (subst (λ l. Contains l last) (sym pushed) (Contains-append_right order.entries (last ∷ []) last (Contains-first [] last)))

    named_declaring : (other : Name) → Contains (names_in new_order) other ↔ IsSome (content_of row_name new_kept other)
    named_declaring other = elim (cases_name name other) [
      | inl same ↦ (
        λ there. subst (λ n. IsSome (content_of row_name new_kept n)) same (some_there (content_of row_name new_kept name) value (content_here kept new_kept name value has)),
        λ some. subst (Contains (names_in new_order)) same (Contains-map name_of new_order.entries last (last_there last refl)),
      )
      | inr apart ↦
          let alike = content_else kept new_kept name value has other apart in (
            λ there.
                let entry = Contains-from_map name_of new_order.entries other there in
                elim (either entry.0 entry.1) [
                  | inl old ↦ ap is_some alike ∙ subst (λ n. IsSome (content_of row_name kept n)) entry.2 (has_content entry.0 old)
                  | inr is ↦ absurd (apart (sym (ap name_of is) ∙ entry.2))
                ],
            λ some.
                let entry = Contains-from_map name_of order.entries other ((sound.named other).1 (sym (ap is_some alike) ∙ some)) in
                subst (Contains (names_in new_order)) entry.2 (Contains-map name_of new_order.entries entry.0 (old_there entry.0 entry.1)),
          )
    ]

    signals_declaring : (new_signals : List (Frame × (ℕ × Name))) → IsListed signals.entries new_signals value last → IsSignalIndex new_kept new_order.entries new_signals
    signals_declaring new_signals listed entry = elim (cases_name name entry.1.1) [
      | inl same ↦
          let here : is_signal_of new_kept entry.0 entry.1.1 ≡ is_signal_row_of entry.0 value = ap (λ n. is_signal_of new_kept entry.0 n) (sym same) ∙ ap (is_signal entry.0) (content_here kept new_kept name value has) in (
            λ there. elim ((listed entry).0 there) [
              | inl own ↦ (last_there entry.1 own.1, here ∙ own.0)
              | inr old ↦ absurd (undeclared name none entry.1 (sym same) ((sound.signals_listed entry).0 old).0)
            ],
            λ both. elim (either entry.1 both.0) [
              | inl old ↦ absurd (undeclared name none entry.1 (sym same) old)
              | inr is ↦ (listed entry).1 (inl (sym here ∙ both.1, is))
            ],
          )
      | inr apart ↦
          let alike = ap (is_signal entry.0) (content_else kept new_kept name value has entry.1.1 apart) in (
            λ there. elim ((listed entry).0 there) [
              | inl own ↦ absurd (apart (sym (ap name_of own.1)))
              | inr old ↦ let was = (sound.signals_listed entry).0 old in (old_there entry.1 was.0, alike ∙ was.1)
            ],
            λ both. elim (either entry.1 both.0) [
              | inl old ↦ (listed entry).1 (inr ((sound.signals_listed entry).1 (old, sym alike ∙ both.1)))
              | inr is ↦ absurd (apart (sym (ap name_of is)))
            ],
          )
    ]

    pub sound-declaring : (left : ℕ) (new_signals : Sorted Frame (ℕ × Name)) → AreInOrder new_order.entries → IsListed signals.entries new_signals.entries value (stamp, name) → IsProperList (frames.ghosts).cmp stamped_cmp new_signals → length new_signals.entries ≤ length signals.entries + 1 → new_signals.room ≡ signals.room → new_kept.cells ≡ kept.cells → left + 1 ≡ room → new_kept.room + 1 ≡ kept.room → new_order.room + 1 ≡ order.room → IsSound left new_kept new_order new_signals by_frame
    sound-declaring left new_signals in_order listed proper few signals_room cells left_is kept_room order_room = record {
      in_order = in_order;
      named = named_declaring;
      signals_listed = signals_declaring new_signals.entries listed;
      signals_proper = proper;
      frames_listed = rw cells sound.frames_listed;
      rows_room = omega (arith, sound.rows_room, left_is, kept_room);
      order_room = omega (arith, sound.order_room, left_is, order_room);
      signals_room = omega (arith, sound.signals_room, left_is, few, signals_room);
    }

  -- a row goes
  module _ (name : Name) (row : Row) (was : content_of row_name kept name ≡ Some row) where
    pub declared_name : Contains (names_in order) name
    declared_name = (sound.named name).1 (some_there (content_of row_name kept name) row was)

    pub listed_signal : (stamp : ℕ) → Contains order.entries (stamp, name) → is_signal_row_of row.frame row ≡ true → Contains signals.entries (row.frame, (stamp, name))
    listed_signal stamp there signal = (sound.signals_listed (row.frame, (stamp, name))).1 (there, ap (is_signal row.frame) was ∙ signal)

    module _ (new_kept : Kept Row) (gone : HasNoContent row_name kept new_kept name) (stamp : ℕ) (stamped : Contains order.entries (stamp, name)) (new_order : InOrder) (removed : new_order.entries ≡ entries_without order.entries name) where
      abbrev stays : ℕ × Name → Bool
      stays entry = not (is_of name entry)

      left_old : (entry : ℕ × Name) → Contains new_order.entries entry → Contains order.entries entry × (name ≢ entry.1)
      left_old entry there =
          let kept_by = Contains-from_filter stays order.entries entry (subst (λ l. Contains l entry) removed there) in
          (kept_by.0, λ same. false≢true (sym (ap not (eq_same entry.1 name (sym same))) ∙ kept_by.1))

      old_left : (entry : ℕ × Name) → Contains order.entries entry → name ≢ entry.1 → Contains new_order.entries entry
      old_left entry there apart = subst (λ l. Contains l entry) (sym removed) (Contains-filter stays order.entries entry there (ap not (eq_apart entry.1 name (λ same. apart (sym same)))))

      named_retracting : (other : Name) → Contains (names_in new_order) other ↔ IsSome (content_of row_name new_kept other)
      named_retracting other = (
        λ there.
            let entry = Contains-from_map name_of new_order.entries other there in
            let old = left_old entry.0 entry.1 in
            let apart : name ≢ other = λ same. old.1 (same ∙ sym entry.2) in
            ap is_some (something_else kept new_kept name gone other apart) ∙ subst (λ n. IsSome (content_of row_name kept n)) entry.2 (has_content entry.0 old.0),
        λ some. elim (cases_name name other) [
          | inl same ↦ absurd (no_some (content_of row_name new_kept other) (ap (content_of row_name new_kept) (sym same) ∙ nothing_here kept new_kept name gone) some)
          | inr apart ↦
              let entry = Contains-from_map name_of order.entries other ((sound.named other).1 (sym (ap is_some (something_else kept new_kept name gone other apart)) ∙ some)) in
              subst (Contains (names_in new_order)) entry.2 (Contains-map name_of new_order.entries entry.0 (old_left entry.0 entry.1 (λ same. apart (same ∙ entry.2))))
        ],
      )

      signals_retracting : (new_signals : List (Frame × (ℕ × Name))) → IsUnlisted signals.entries new_signals row (stamp, name) → IsSignalIndex new_kept new_order.entries new_signals
      signals_retracting new_signals unlisted entry = elim (cases_name name entry.1.1) [
        | inl same ↦ (
          λ there.
              let left = (unlisted entry).0 there in
              let old = (sound.signals_listed entry).0 left.0 in
              let own : entry.1 ≡ (stamp, name) = one_second order.entries sound.in_order.once entry.1 (stamp, name) old.0 stamped (sym same) in
              let signal : is_signal_row_of entry.0 row ≡ true = sym (ap (is_signal entry.0) (ap (content_of row_name kept) (sym same) ∙ was)) ∙ old.1 in
              absurd (left.1 (signal, own)),
          λ both. absurd ((left_old entry.1 both.0).1 same),
        )
        | inr apart ↦
            let alike = ap (is_signal entry.0) (something_else kept new_kept name gone entry.1.1 apart) in (
              λ there. let old = (sound.signals_listed entry).0 ((unlisted entry).0 there).0 in (old_left entry.1 old.0 apart, alike ∙ old.1),
              λ both. (unlisted entry).1 ((sound.signals_listed entry).1 ((left_old entry.1 both.0).0, sym alike ∙ both.1), λ own. apart (sym (ap name_of own.1))),
            )
      ]

      pub sound-retracting : (more : ℕ) (new_signals : Sorted Frame (ℕ × Name)) → AreInOrder new_order.entries → IsUnlisted signals.entries new_signals.entries row (stamp, name) → IsProperList (frames.ghosts).cmp stamped_cmp new_signals → new_kept.cells ≡ kept.cells → more ≤ new_kept.room → more ≤ new_order.room → more + length new_signals.entries ≤ new_signals.room → IsSound more new_kept new_order new_signals by_frame
      sound-retracting more new_signals in_order unlisted proper cells rows_room order_room signals_room = record {
        in_order = in_order;
        named = named_retracting;
        signals_listed = signals_retracting new_signals.entries unlisted;
        signals_proper = proper;
        frames_listed = rw cells sound.frames_listed;
        rows_room = rows_room;
        order_room = order_room;
        signals_room = signals_room;
      }

      pub names_retracting : names_in new_order ≡ filter (λ other. not ((names.ghosts).eq other name)) (names_in order)
      names_retracting = ap (map name_of) removed ∙ filter_map_second (λ other. not ((names.ghosts).eq other name)) order.entries

  -- under a frame stand its signal rows, in declared order
  pub listed_of : (frame : Frame) → map name_of (values_under (frame_eq.ghosts).eq signals.entries frame) ≡ filter (is_signal_of kept frame) (names_in order)
  listed_of frame =
      let same = (frame_eq.ghosts).eq in
      let total = by_parts_total nat_cmp_total name_laws.total-law in
      let passes = λ (entry : ℕ × Name). is_signal_of kept frame entry.1 in
      let rises : IsRising stamped_cmp order.entries = λ i j d lt within. less_first (get_or order.entries i d).0 (get_or order.entries j d).0 _ (sound.in_order.rising i j d lt within) in
      let one = same_items stamped_cmp total (values_under same signals.entries frame) (filter passes order.entries) (values_rise same same_frame signals.entries frame (frames.ghosts).cmp stamped_cmp (tied_itself frame_laws.total-law frame) sound.signals_proper.rising) (AllPairs-filter (λ a b. stamped_cmp a b ≡ Less) passes order.entries rises) (λ entry.
      let listed = sound.signals_listed (frame, entry) in (
        λ there. let both = listed.0 (entry_of_value same same_frame signals.entries frame entry there) in Contains-filter passes order.entries entry both.0 both.1,
        λ there. let both = Contains-from_filter passes order.entries entry there in value_of_entry same same_frame signals.entries frame (frame_itself frame) entry (listed.1 both),
      )) in
      ap (map name_of) one ∙ filter_map_second (is_signal_of kept frame) order.entries

  pub signals_seen : (frame : Frame) (sees : KeptRows) → record { kept = kept; names = names_in order; room = room } ≡ sees → map name_of (values_under (frame_eq.ghosts).eq signals.entries frame) ≡ signal_names sees frame
  signals_seen frame sees is = listed_of frame ∙ ap (λ (all : KeptRows). signal_names all frame) is

  -- what is listed is a signal row of its frame, and where nothing is no frame has one
  pub some_signal : (sees : KeptRows) → record { kept = kept; names = names_in order; room = room } ≡ sees → 0 < length signals.entries → (frame : Frame) × (name : Name) × Contains (signal_names sees frame) name
  some_signal sees is some =
      let there = some_there_is signals.entries some in
      let entry = there.0 in
      let listed = (sound.signals_listed entry).0 there.1 in
      (entry.0, entry.1.1, subst (λ (all : KeptRows). Contains (signal_names all entry.0) entry.1.1) is (Contains-filter (is_signal_of kept entry.0) (names_in order) entry.1.1 (Contains-map name_of order.entries entry.1 listed.0) listed.1))

  pub no_signal : (sees : KeptRows) → record { kept = kept; names = names_in order; room = room } ≡ sees → length signals.entries ≡ 0 → (frame : Frame) → signal_names sees frame ≡ []
  no_signal sees is none frame = sym (signals_seen frame sees is) ∙ ap (λ entries. map name_of (values_under (frame_eq.ghosts).eq entries frame)) (nil_from_length signals.entries none)

-- a name that comes last in the order comes last of the names
pub names_declaring : (order new_order : InOrder) (stamp : ℕ) (name : Name) → new_order.entries ≡ order.entries ++ (stamp, name) ∷ [] → names_in new_order ≡ names_in order ++ name ∷ []
names_declaring order new_order stamp name pushed = ap (map name_of) pushed ∙ map-append name_of order.entries ((stamp, name) ∷ [])
