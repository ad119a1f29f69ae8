-- What a name leaves that comes or goes.
use Rattle.std.proofs.Common.{◌≡◌, ◌≢◌, ℕ, zero, suc, ◌+◌, ◌<◌, ◌≤◌, ◌^◌, true, false, not, List, [], ◌∷◌, ◌++◌, length, get_or, map, All, AllPairs, Contains, None, sym, ◌∙◌, ap, inl, inr, refl, arith, lit<}
use Rattle.std.specs.declared.cmp.Ordering.{Ordering}
use Rattle.std.specs.declared.cmp.Ordering.TheVariants.{Less, Equal}
use Rattle.std.specs.List.{remove}
use Rattle.std.specs.Ordering.{nat_cmp, ordering_then}
use Rattle.std.specs.Prelude.{slice_get}
use Rattle.std.proofs.lemmas.Bool.Decides.{nat_tests}
use Rattle.std.proofs.lemmas.Cmp.{nat_cmp_total, tied_itself}
use Rattle.std.proofs.lemmas.List.Edits.{length-insert, length-remove}
use Rattle.std.proofs.lemmas.List.Elements.{All-contains, Contains-get_or}
use Rattle.std.proofs.lemmas.List.Kept.{AllPairs-filter}
use Rattle.std.proofs.lemmas.List.Quantifiers.{all_pairs_push}
use Rattle.cache_ident.specs.declared.names.Name.{Name}
use Rattle.cache_ident.specs.contracts.names.NamePartialEq.TheImpl as names
use Rattle.cache_ident.specs.contracts.names.NameOrd.TheImpl as order
use Rattle.cache_ident.specs.contracts.names.NameOrd.TheImpl.Laws as laws
use Rattle.sorted_list.specs.Sorted.{by_parts, values_under, IsAdded, IsRising, IsTakenOut, Sorted}
use Rattle.sorted_list.specs.Sorted.{IsProper as IsProperList}
use Rattle.sorted_list.proofs.ListLemmas.{Contains-from_map}
use Rattle.sorted_list.proofs.RisingLemmas.{by_parts_total, filter_all}
use Rattle.sorted_list.proofs.UnderLemmas.{after_added, after_taken}
use Rattle.growing_list.specs.Index.{IsIndex}
use Rattle.growing_list.proofs.EndLemmas.{added_last}
use Rattle.owner_shelf.proofs.NameLemmas.{entry_absent, eq_apart, eq_same, names_added, names_taken, no_name}
use Rattle.declared_names.specs.Order.{entries_without, is_of, AreInOrder}
use Rattle.declared_names.specs.Layout.{IsSound}

-- entries by stamp, then by name
abbrev pub stamp_cmp : ℕ × Name → ℕ × Name → Ordering
stamp_cmp = by_parts nat_cmp (order.ghosts).cmp

-- and by name, then by stamp
abbrev pub name_cmp : Name × ℕ → Name × ℕ → Ordering
name_cmp = by_parts (order.ghosts).cmp nat_cmp

pub less_first : (a b : ℕ) (next : Ordering) → a < b → ordering_then (nat_cmp a b) next ≡ Less
less_first a b next lt =
    let first : nat_cmp a b ≡ Less = grind (arith, nat_tests) in
    rw first refl

not_equal : (o : Ordering) → o ≡ Less → o ≡ Equal → ⊥
not_equal o less equal = cc

swapped : {X Y : Type 0} (x a : X) (y b : Y) → ◌≡◌ {A = X × Y} (x, y) (a, b) → ◌≡◌ {A = Y × X} (y, x) (b, a)
swapped {X} {Y} x a y b same = ap (λ (p : X × Y). (p.1, p.0)) same

-- without the one entry of a name, the others are left
pub remove_is_without : (xs : List (ℕ × Name)) (at : ℕ) (e : ℕ × Name) → AllPairs (λ a b. a.1 ≢ b.1) xs → at < length xs → get_or xs at e ≡ e → remove xs at ≡ entries_without xs e.1
remove_is_without [] at e once within here = absurd (omega (arith, within))
remove_is_without (x ∷ xs) zero e once within here =
    let passes : is_of e.1 x ≡ true = eq_same x.1 e.1 (ap (λ (p : ℕ × Name). p.1) here) in
    let others : All (λ y. not (is_of e.1 y) ≡ true) xs = λ k d in_rest. ap not (eq_apart (get_or xs k d).1 e.1 (λ same. once 0 (suc k) d (omega arith) (omega (arith, in_rest)) (ap (λ (p : ℕ × Name). p.1) here ∙ sym same))) in
    rw passes (sym (filter_all (λ y. not (is_of e.1 y)) xs others))
remove_is_without (x ∷ xs) (suc at) e once within here =
    let later : get_or xs at e ≡ e = here in
    let fails : is_of e.1 x ≡ false = eq_apart x.1 e.1 (λ same. once 0 (suc at) e (omega arith) (omega (arith, within)) (same ∙ sym (ap (λ (p : ℕ × Name). p.1) later))) in
    let rest = remove_is_without xs at e (λ i j d lt in_rest. once (suc i) (suc j) d (omega (arith, lt)) (omega (arith, in_rest))) (omega (arith, within)) later in
    rw fails (ap (λ ys. x ∷ ys) rest)

-- nothing is sound
pub sound-new : (by_stamp : Sorted ℕ Name) (stamps : Sorted Name ℕ) → by_stamp ≡ record { room = 0; entries = [] } → stamps ≡ record { room = 0; entries = [] } → IsSound 0 0 by_stamp stamps
sound-new by_stamp stamps first second = rw (first, second) (record {
  in_order = record { rising = λ i j d lt within. absurd (omega (arith, within)); once = λ i j d lt within. absurd (omega (arith, within)) };
  below = λ k d within. absurd (omega (arith, within));
  names = record { rising = λ i j d lt within. absurd (omega (arith, within)); few = omega arith; small = lit< tt };
  listed = λ name stamp. (λ there. absurd (omega (arith, there.1)), λ there. absurd (omega (arith, there.1)));
  len = refl;
  by_stamp_room = omega arith;
  stamps_room = omega arith;
  stamps_left = lit< tt;
})

module _ (room next : ℕ) (by_stamp : Sorted ℕ Name) (stamps : Sorted Name ℕ) (sound : IsSound room next by_stamp stamps) where
  -- with more room
  pub sound_roomier : (more : ℕ) (new_by_stamp : Sorted ℕ Name) (new_stamps : Sorted Name ℕ) → new_by_stamp.entries ≡ by_stamp.entries → new_stamps.entries ≡ stamps.entries → IsIndex (order.ghosts).cmp new_stamps → more + length by_stamp.entries ≤ new_by_stamp.room → more + length by_stamp.entries ≤ new_stamps.room → next + more < 2 ^ 64 → IsSound more next new_by_stamp new_stamps
  sound_roomier more new_by_stamp new_stamps first second index by_stamp_room stamps_room left = record {
    in_order = rw first sound.in_order;
    below = rw first sound.below;
    names = index;
    listed = rw (first, second) sound.listed;
    len = rw (first, second) sound.len;
    by_stamp_room = rw first by_stamp_room;
    stamps_room = rw first stamps_room;
    stamps_left = left;
  }

  -- both lists rise
  stamps_rise : IsRising stamp_cmp by_stamp.entries
  stamps_rise i j d lt within = less_first (get_or by_stamp.entries i d).0 (get_or by_stamp.entries j d).0 _ (sound.in_order.rising i j d lt within)

  names_rise : IsRising name_cmp stamps.entries
  names_rise i j d lt within = ap (λ o. ordering_then o (nat_cmp (get_or stamps.entries i d).1 (get_or stamps.entries j d).1)) (sound.names.rising i j d lt within)

  -- the next stamp is above all
  pub stamps_below : (name : Name) → All (λ entry. stamp_cmp entry (next, name) ≡ Less) by_stamp.entries
  stamps_below name k d within = less_first (get_or by_stamp.entries k d).0 next _ (sound.below k d within)

  pub stamp_absent : (name : Name) → All (λ entry. stamp_cmp entry (next, name) ≡ Equal → ⊥) by_stamp.entries
  stamp_absent name k d within equal = not_equal _ (stamps_below name k d within) equal

  -- a name that has no stamp has none in the other list
  pub no_stamp : (name : Name) → All (λ entry. entry.1 ≢ name) by_stamp.entries → All (λ entry. entry.0 ≢ name) stamps.entries
  no_stamp name absent k d within same =
      let entry = get_or stamps.entries k d in
      All-contains (λ (e : ℕ × Name). e.1 ≢ name) by_stamp.entries (entry.1, entry.0) absent ((sound.listed entry.0 entry.1).0 (Contains-get_or stamps.entries k d within)) same

  pub unlisted : (name : Name) → All (λ entry. entry.1 ≢ name) by_stamp.entries → All (λ entry. name_cmp entry (name, next) ≡ Equal → ⊥) stamps.entries
  unlisted name absent = entry_absent nat_cmp stamps.entries name next (no_stamp name absent)

  -- and one that is declared has one
  pub has_stamp : (name : Name) → Contains (map (λ (e : ℕ × Name). e.1) by_stamp.entries) name → None ≡ slice_get (values_under (names.ghosts).eq stamps.entries name) 0 → ⊥
  has_stamp name declared none =
      let entry = Contains-from_map (λ (e : ℕ × Name). e.1) by_stamp.entries name declared in
      let there = (sound.listed entry.0.1 entry.0.0).1 entry.1 in
      All-contains (λ (e : Name × ℕ). e.0 ≢ name) stamps.entries (entry.0.1, entry.0.0) (no_name stamps.entries name none) there entry.2

  module _ (name : Name) (new_by_stamp : Sorted ℕ Name) (new_stamps : Sorted Name ℕ) where
    -- a new name comes last
    module _ (absent : All (λ entry. entry.1 ≢ name) by_stamp.entries) (added : IsAdded by_stamp.entries new_by_stamp.entries (next, name)) (proper : IsProperList nat_cmp (order.ghosts).cmp new_by_stamp) where
      pub pushed : new_by_stamp.entries ≡ by_stamp.entries ++ (next, name) ∷ []
      pushed = added_last stamp_cmp (by_parts_total nat_cmp_total laws.total-law) by_stamp.entries new_by_stamp.entries (next, name) (stamps_below name) added proper.rising

      pub order_pushed : AreInOrder new_by_stamp.entries
      order_pushed = rw pushed (record {
        rising = all_pairs_push (λ a b. a.0 < b.0) by_stamp.entries (next, name) sound.in_order.rising sound.below;
        once = all_pairs_push (λ a b. a.1 ≢ b.1) by_stamp.entries (next, name) sound.in_order.once absent;
      })

      below_pushed : All (λ entry. entry.0 < next + 1) new_by_stamp.entries
      below_pushed k d within =
          let entry = get_or new_by_stamp.entries k d in
          elim ((after_added by_stamp.entries new_by_stamp.entries (next, name) added entry).0 (Contains-get_or new_by_stamp.entries k d within)) [
            | inl is ↦ omega (arith, ap (λ (e : ℕ × Name). e.0) is)
            | inr old ↦ omega (arith, All-contains (λ (e : ℕ × Name). e.0 < next) by_stamp.entries entry sound.below old)
          ]

      pub sound_pushed : (left : ℕ) → left + 1 ≡ room → new_by_stamp.room ≡ by_stamp.room → IsAdded stamps.entries new_stamps.entries (name, next) → new_stamps.room ≡ stamps.room → IsProperList (order.ghosts).cmp nat_cmp new_stamps → IsSound left (next + 1) new_by_stamp new_stamps
      sound_pushed left one_less by_stamp_room listed_too stamps_room stamps_proper =
          let longer = ap length added.2 ∙ length-insert by_stamp.entries added.0 (next, name) added.1 in
          let longer_too = ap length listed_too.2 ∙ length-insert stamps.entries listed_too.0 (name, next) listed_too.1 in
          record {
            in_order = order_pushed;
            below = below_pushed;
            names = names_added nat_cmp stamps new_stamps name next sound.names stamps_proper (no_stamp name absent) listed_too;
            listed = λ other stamp.
                let first = after_added by_stamp.entries new_by_stamp.entries (next, name) added (stamp, other) in
                let second = after_added stamps.entries new_stamps.entries (name, next) listed_too (other, stamp) in
                let was = sound.listed other stamp in (
                  λ there. elim (second.0 there) [
                    | inl is ↦ first.1 (inl (swapped other name stamp next is))
                    | inr old ↦ first.1 (inr (was.0 old))
                  ],
                  λ there. elim (first.0 there) [
                    | inl is ↦ second.1 (inl (swapped stamp next other name is))
                    | inr old ↦ second.1 (inr (was.1 old))
                  ],
                );
            len = omega (arith, longer, longer_too, sound.len);
            by_stamp_room = omega (arith, longer, one_less, by_stamp_room, sound.by_stamp_room);
            stamps_room = omega (arith, longer, one_less, stamps_room, sound.stamps_room);
            stamps_left = omega (arith, one_less, sound.stamps_left);
          }

    -- a name goes
    module _ (stamp : ℕ) (taken : IsTakenOut by_stamp.entries new_by_stamp.entries (stamp, name)) where
      pub left_without : new_by_stamp.entries ≡ entries_without by_stamp.entries name
      left_without = taken.3 ∙ remove_is_without by_stamp.entries taken.0 (stamp, name) sound.in_order.once taken.1 taken.2

      pub order_taken : AreInOrder new_by_stamp.entries
      order_taken = rw left_without (record {
        rising = AllPairs-filter (λ a b. a.0 < b.0) (λ e. not (is_of name e)) by_stamp.entries sound.in_order.rising;
        once = AllPairs-filter (λ a b. a.1 ≢ b.1) (λ e. not (is_of name e)) by_stamp.entries sound.in_order.once;
      })

      pub sound_taken : (more : ℕ) → more ≤ room + 1 → next + more < 2 ^ 64 → new_by_stamp.room ≡ by_stamp.room → IsTakenOut stamps.entries new_stamps.entries (name, stamp) → new_stamps.room ≡ stamps.room → IsProperList (order.ghosts).cmp nat_cmp new_stamps → IsSound more next new_by_stamp new_stamps
      sound_taken more few left by_stamp_room taken_too stamps_room new_proper =
          let shorter = ap length taken.3 in
          let by_one = length-remove by_stamp.entries taken.0 taken.1 in
          let shorter_too = ap length taken_too.3 in
          let by_one_too = length-remove stamps.entries taken_too.0 taken_too.1 in
          record {
            in_order = order_taken;
            below = λ k d within. All-contains (λ (e : ℕ × Name). e.0 < next) by_stamp.entries (get_or new_by_stamp.entries k d) sound.below (((after_taken by_stamp.entries new_by_stamp.entries (stamp, name) stamp_cmp (tied_itself (by_parts_total nat_cmp_total laws.total-law) (stamp, name)) stamps_rise taken (get_or new_by_stamp.entries k d)).0 (Contains-get_or new_by_stamp.entries k d within)).0);
            names = names_taken nat_cmp stamps new_stamps name stamp sound.names new_proper taken_too;
            listed = λ other number.
                let first = after_taken by_stamp.entries new_by_stamp.entries (stamp, name) stamp_cmp (tied_itself (by_parts_total nat_cmp_total laws.total-law) (stamp, name)) stamps_rise taken (number, other) in
                let second = after_taken stamps.entries new_stamps.entries (name, stamp) name_cmp (tied_itself (by_parts_total laws.total-law nat_cmp_total) (name, stamp)) names_rise taken_too (other, number) in
                let was = sound.listed other number in (
                  λ there. let old = second.0 there in first.1 (was.0 old.0, λ same. old.1 (swapped number stamp other name same)),
                  λ there. let old = first.0 there in second.1 (was.1 old.0, λ same. old.1 (swapped other name number stamp same)),
                );
            len = omega (arith, shorter, by_one, shorter_too, by_one_too, sound.len);
            by_stamp_room = omega (arith, shorter, by_one, few, by_stamp_room, sound.by_stamp_room);
            stamps_room = omega (arith, shorter, by_one, few, stamps_room, sound.stamps_room);
            stamps_left = left;
          }
