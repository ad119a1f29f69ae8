-- Stamps, as a journal grows.
use Rattle.std.proofs.Common.{◌≡◌, ℕ, ◌+◌, ◌<◌, ◌≤◌, List, [], ◌∷◌, ◌++◌, length, take, get_or, Option, Some, None, slice_get, refl, ap, sym, ◌∙◌, subst, inl, inr, arith}
use Rattle.std.specs.Prelude.{unwrap_or, slice_set}
use Rattle.std.proofs.lemmas.List.{append-nil, append_assoc, length-append, length-set, take-append-le}
use Rattle.std.proofs.lemmas.Option.{slice_get-get_or, slice_get_within, unwrap_or-slice_get}
use Rattle.std.proofs.Math.Seq.{take-length}
use Rattle.std.proofs.lemmas.Bool.{cases_eq, cases_lt}
use Rattle.cache_ident.specs.declared.names.Frame.{Frame}
use Rattle.phys_groups.specs.Memory.{page_at, HasFrame}
use Rattle.flat_state.proofs.Places.{get-set_other, get-set_same}
use Rattle.flat_state.specs.declared.events.Event.{Event}
use Rattle.flat_state.specs.Events.{after_events, flat}
use Rattle.run_journal.specs.declared.entries.Entry.{Entry}
use Rattle.run_journal.specs.Entries.{erase, events_of}
use Rattle.run_journal.proofs.LegalGrowth.{flat-append}
use Rattle.board_core.specs.Stamps.{stamped_at, AreStamped, AreStamps, HaveStamps, IsSince, IsWithin}

-- ---- one entry more

module _ (j : List Entry) (e : Entry) (memory stamps after news : List ℕ) (is : (flat (erase (j ++ e ∷ []))).memory ≡ after) where
  longer : length (j ++ e ∷ []) ≡ length j + 1
  longer = length-append j (e ∷ [])

  at_end : (n : ℕ) → length j < n → n ≤ length (j ++ e ∷ []) → (frame : Frame) → page_at (flat (erase (take n (j ++ e ∷ [])))).memory frame ≡ page_at after frame
  at_end n low high frame =
      let size = longer in
      let whole : n ≡ length (j ++ e ∷ []) = omega arith in
      let all : take n (j ++ e ∷ []) ≡ j ++ e ∷ [] = ap (λ (k : ℕ). take k (j ++ e ∷ [])) whole ∙ take-length (j ++ e ∷ []) in
      ap (λ (es : List Entry). page_at (flat (erase es)).memory frame) all ∙ ap (λ (m : List ℕ). page_at m frame) is

  before : (n : ℕ) → n ≤ length j → (frame : Frame) → page_at (flat (erase (take n (j ++ e ∷ [])))).memory frame ≡ page_at (flat (erase (take n j))).memory frame
  before n low frame = ap (λ (es : List Entry). page_at (flat (erase es)).memory frame) (take-append-le n j (e ∷ []) low)

  since_kept : (frame : Frame) (stamp : ℕ) → IsSince j memory frame stamp → page_at after frame ≡ page_at memory frame → IsSince (j ++ e ∷ []) after frame stamp
  since_kept frame stamp since same =
      let size = longer in
      let low = since.within in
      record {
        within = omega arith;
        same = λ n from to. elim (cases_lt (length j) n) [
          | inr few ↦ before n few frame ∙ since.same n from few ∙ sym same
          | inl more ↦ at_end n more to frame
        ];
      }

  since_now : (frame : Frame) (at : ℕ) → at ≡ length (j ++ e ∷ []) → IsSince (j ++ e ∷ []) after frame at
  since_now frame at end =
      let size = longer in
      record {
        within = omega arith;
        same = λ n from to. at_end n (omega arith) to frame;
      }

  pub stamps_grow : (at : ℕ) → at ≡ length (j ++ e ∷ []) → AreStamps j memory stamps → AreStamped at memory stamps after news → AreStamps (j ++ e ∷ []) after news
  stamps_grow at end are stamped frame there =
      let size = stamped.size in
      let was = are frame (omega arith) in
      elim (stamped.each frame (omega arith)) [
        | inl now ↦ record { stamp = at; there = now; since = since_now frame at end }
        | inr kept ↦ record { stamp = was.stamp; there = kept.0 ∙ was.there; since = since_kept frame was.stamp was.since kept.1 }
      ]

-- ---- entries without events

abbrev pub AreQuiet : List Entry → Type 0
AreQuiet [] = Unit {0}
AreQuiet (e ∷ es) = (events_of e ≡ []) × AreQuiet es

stays_as_it_was : (at : ℕ) (memory stamps : List ℕ) → AreStamped at memory stamps memory stamps
stays_as_it_was at memory stamps = record { size = refl; places = refl; each = λ frame there. inr (refl, refl) }

quiet_state : (j : List Entry) (e : Entry) → events_of e ≡ [] → (flat (erase (j ++ e ∷ []))).memory ≡ (flat (erase j)).memory
quiet_state j e quiet =
    ap (λ s. s.memory) (flat-append j (e ∷ []))
    ∙ ap (λ (es : List Event). (after_events (flat (erase j)) es).memory) (append-nil (events_of e) ∙ quiet)

pub stamps_stay : (es j : List Entry) (memory stamps : List ℕ) → AreQuiet es → (flat (erase j)).memory ≡ memory → AreStamps j memory stamps → AreStamps (j ++ es) memory stamps
stamps_stay [] j memory stamps quiet is are = subst (λ (k : List Entry). AreStamps k memory stamps) (sym (append-nil j)) are
stamps_stay (e ∷ es) j memory stamps quiet is are =
    let then = quiet_state j e quiet.0 ∙ is in
    let one = stamps_grow j e memory stamps memory stamps then (length (j ++ e ∷ [])) refl are (stays_as_it_was (length (j ++ e ∷ [])) memory stamps) in
    subst (λ (k : List Entry). AreStamps k memory stamps) (append_assoc j (e ∷ []) es) (stamps_stay es (j ++ e ∷ []) memory stamps quiet.1 then one)

-- ---- what is read of them

pub since_read : (j : List Entry) (memory stamps : List ℕ) (frame : Frame) (stamp : ℕ) → AreStamps j memory stamps → HasFrame memory frame → stamp ≡ get_or stamps frame.0 stamp → IsSince j memory frame stamp
since_read j memory stamps frame stamp are there is =
    let has = are frame there in
    let read : get_or stamps frame.0 stamp ≡ has.stamp = sym (unwrap_or-slice_get stamps frame.0 stamp) ∙ ap (λ (o : Option ℕ). unwrap_or o stamp) has.there in
    subst (λ (n : ℕ). IsSince j memory frame n) (sym (is ∙ read)) has.since

-- where a frame is changed, there is a stamp for it
pub have_places : (j : List Entry) (memory stamps : List ℕ) → AreStamps j memory stamps → HaveStamps memory stamps
have_places j memory stamps are frame there = let has = are frame there in slice_get_within stamps frame.0 has.stamp has.there

-- a frame that changed alone
pub one_stamped : (at : ℕ) (memory stamps after : List ℕ) (changed : Option Frame) → length after ≡ length memory → IsWithin changed stamps
    → ((frame : Frame) → HasFrame memory frame → (changed ≡ Some frame → ⊥) → page_at after frame ≡ page_at memory frame) → AreStamped at memory stamps after (stamped_at changed at stamps)
one_stamped at memory stamps after None size within same = record { size = size; places = refl; each = λ frame there. inr (refl, same frame there (λ is. cc)) }
one_stamped at memory stamps after (Some other) size within same = record {
  size = size;
  places = length-set stamps other.0 at;
  each = λ frame there. elim (cases_eq frame.0 other.0) [
    | inl here ↦ inl (ap (λ (k : ℕ). slice_get (slice_set stamps other.0 at) k) here ∙ get-set_same stamps other.0 at (get_or stamps other.0 at) (slice_get-get_or stamps other.0 at within))
    | inr apart ↦ inr (get-set_other stamps other.0 frame.0 at apart, same frame there (λ is. let e : frame ≡ other = cc in apart (ap (λ (f : Frame). f.0) e)))
  ];
}
