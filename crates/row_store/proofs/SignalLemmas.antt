-- Which entry of the list of signal rows is a row's.
use Rattle.std.proofs.Common.{◌≡◌, ◌≢◌, ℕ, Bool, true, false, ◌&&◌, ◌==◌, List, is_some, All, Contains, sym, ◌∙◌, ap, subst, inl, inr, refl, arith}
use Rattle.std.specs.declared.cmp.Ordering.{Ordering}
use Rattle.std.specs.declared.cmp.Ordering.TheVariants.{Equal}
use Rattle.std.proofs.lemmas.Bool.{false≢true}
use Rattle.std.proofs.lemmas.Bool.Decides.{nat_tests}
use Rattle.std.proofs.lemmas.Cmp.{nat_cmp_total, tied_itself}
use Rattle.cache_ident.specs.declared.names.Frame.{Frame}
use Rattle.cache_ident.specs.declared.names.Name.{Name}
use Rattle.cache_ident.specs.contracts.names.FrameOrd.TheImpl as frames
use Rattle.cache_ident.specs.contracts.names.FrameOrd.TheImpl.Laws as frame_laws
use Rattle.cache_ident.specs.contracts.names.NameOrd.TheImpl.Laws as name_laws
use Rattle.phys_groups.specs.declared.rows.Row.{Row}
use Rattle.signal_pages.specs.Signals.{is_signal_row_of}
use Rattle.sorted_list.specs.Sorted.{by_parts, IsAdded, IsRising, IsTakenOut}
use Rattle.sorted_list.proofs.RisingLemmas.{by_parts_total}
use Rattle.sorted_list.proofs.UnderLemmas.{after_added, after_taken, both_tie, same_pair}
use Rattle.slot_cache.proofs.NameLemmas.{same_name}
use Rattle.row_store.specs.Signals.{stamped_cmp, IsEntryOf, IsListed, IsUnlisted}

-- entries by frame, then by stamp and name
abbrev pub signal_cmp : Frame × (ℕ × Name) → Frame × (ℕ × Name) → Ordering
signal_cmp = by_parts (frames.ghosts).cmp stamped_cmp

and_parts : (a b : Bool) → (a && b) ≡ true → (a ≡ true) × (b ≡ true)
and_parts true b both = (refl, both)
and_parts false b both = absurd (false≢true both)

same_number : (a b : ℕ) → (a == b) ≡ true → a ≡ b
same_number a b same = grind (arith, nat_tests)

number_itself : (a : ℕ) → (a == a) ≡ true
number_itself a = grind (arith, nat_tests)

-- a signal row of a frame has that frame, and a receiver
pub signal_frame : (frame : Frame) (row : Row) → is_signal_row_of frame row ≡ true → row.frame ≡ frame
signal_frame frame row is = ap (λ n. let it : Frame = record { 0 = n } in it) (same_number row.frame.0 frame.0 (and_parts (row.frame.0 == frame.0) (is_some row.receiver) is).0)

pub signal_receiver : (frame : Frame) (row : Row) → is_signal_row_of frame row ≡ true → is_some row.receiver ≡ true
signal_receiver frame row is = (and_parts (row.frame.0 == frame.0) (is_some row.receiver) is).1

pub signal_itself : (row : Row) → is_some row.receiver ≡ true → is_signal_row_of row.frame row ≡ true
signal_itself row has = rw (number_itself row.frame.0) has

-- rows with one frame and one receiver are signal rows of the same frames
pub signal_same : (frame : Frame) (a b : Row) → a.frame ≡ b.frame → a.receiver ≡ b.receiver → is_signal_row_of frame a ≡ is_signal_row_of frame b
signal_same frame a b frames receivers = ap (λ (f : Frame). (f.0 == frame.0) && is_some a.receiver) frames ∙ ap (λ r. (b.frame.0 == frame.0) && is_some r) receivers

module _ (row : Row) (stamped : ℕ × Name) where
  own_entry : is_some row.receiver ≡ true → (entry : Frame × (ℕ × Name)) → IsEntryOf row stamped entry → entry ≡ (row.frame, stamped)
  own_entry has entry own = same_pair entry (row.frame, stamped) (sym (signal_frame entry.0 row own.0)) own.1

  is_own : is_some row.receiver ≡ true → (entry : Frame × (ℕ × Name)) → entry ≡ (row.frame, stamped) → IsEntryOf row stamped entry
  is_own has entry is = subst (IsEntryOf row stamped) (sym is) (signal_itself row has, refl)

  no_own : is_some row.receiver ≡ false → (entry : Frame × (ℕ × Name)) → IsEntryOf row stamped entry → ⊥
  no_own none entry own = false≢true (sym none ∙ signal_receiver entry.0 row own.0)

  module _ (old new : List (Frame × (ℕ × Name))) where
    pub listed : is_some row.receiver ≡ true → IsAdded old new (row.frame, stamped) → IsListed old new row stamped
    listed has added entry =
        let after = after_added old new (row.frame, stamped) added entry in (
          λ there. elim (after.0 there) [
            | inl is ↦ inl (is_own has entry is)
            | inr was ↦ inr was
          ],
          λ either. elim either [
            | inl own ↦ after.1 (inl (own_entry has entry own))
            | inr was ↦ after.1 (inr was)
          ],
        )

    pub not_listed : is_some row.receiver ≡ false → new ≡ old → IsListed old new row stamped
    not_listed none same entry = (
      λ there. inr (subst (λ l. Contains l entry) same there),
      λ either. elim either [
        | inl own ↦ absurd (no_own none entry own)
        | inr was ↦ subst (λ l. Contains l entry) (sym same) was
      ],
    )

    pub unlisted : is_some row.receiver ≡ true → IsRising signal_cmp old → IsTakenOut old new (row.frame, stamped) → IsUnlisted old new row stamped
    unlisted has rising taken entry =
        let total = by_parts_total frame_laws.total-law (by_parts_total nat_cmp_total name_laws.total-law) in
        let after = after_taken old new (row.frame, stamped) signal_cmp (tied_itself total (row.frame, stamped)) rising taken entry in (
          λ there. let was = after.0 there in (was.0, λ own. was.1 (own_entry has entry own)),
          λ was. after.1 (was.0, λ is. was.1 (is_own has entry is)),
        )

    pub not_unlisted : is_some row.receiver ≡ false → new ≡ old → IsUnlisted old new row stamped
    not_unlisted none same entry = (λ there. (subst (λ l. Contains l entry) same there, no_own none entry), λ was. subst (λ l. Contains l entry) (sym same) was.0)

-- an entry of a name that isn't listed isn't there
pub entry_absent : (entries : List (Frame × (ℕ × Name))) (frame : Frame) (stamped : ℕ × Name) → All (λ entry. entry.1.1 ≢ stamped.1) entries → All (λ entry. signal_cmp entry (frame, stamped) ≢ Equal) entries
entry_absent entries frame stamped absent k d within ties = absent k d within (same_name _ _ (both_tie _ _ (both_tie _ _ ties).1).1)
