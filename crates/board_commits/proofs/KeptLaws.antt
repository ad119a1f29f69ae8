-- What carries a place of the journal: what it says of a frame now, and that it stays.
use Rattle.std.proofs.Common.{◌≡◌, ℕ, zero, suc, ◌<◌, ◌≤◌, ◌&&◌, not, Bool, true, false, List, [], ◌∷◌, ◌++◌, length, map, drop, replicate, Contains, Option, Some, None, refl, ap, ap₂, sym, ◌∙◌, subst, inl, inr, ◌⊎◌, arith}
use Rattle.std.specs.Prelude.{if◌then◌else◌, nat_le, bytes_eq}
use Rattle.std.specs.Bool.{OnTrue}
use Rattle.std.specs.Option.{option_map}
use Rattle.std.proofs.lemmas.Bool.{leb-true}
use Rattle.std.proofs.lemmas.List.{length-append, map-append, take-append-le}
use Rattle.std.proofs.lemmas.List.Elements.{Contains-append_left, Contains-append_right, Contains-append_cases}
use Rattle.std.proofs.lemmas.Slice.Eq.{bytes_eq-Decides}
use Rattle.cache_ident.specs.declared.idents.Ident.{Ident}
use Rattle.cache_ident.specs.declared.names.Frame.{Frame}
use Rattle.cache_ident.specs.declared.names.Vpn.{Vpn}
use Rattle.phys_groups.specs.declared.rows.Flags.{Flags}
use Rattle.phys_groups.specs.Memory.{page_at}
use Rattle.thread_cache.specs.rv32_exec.specs.declared.contexts.Context.{Context}
use Rattle.board_threads.specs.flat_laws.proofs.Members.{Contains-behind, Contains-from_map, Contains-cases, Contains-map, contains_nothing}
use Rattle.flat_rules.specs.flat_state.specs.Events.{flat}
use Rattle.board_threads.specs.page_views.specs.Views.{all_dated, as_happened, dated, filled, slots_for, AreKept, Dated, View}
use Rattle.board_threads.specs.run_journal.specs.declared.entries.Entry.{Entry}
use Rattle.board_threads.specs.run_journal.specs.Entries.{erase}
use Rattle.board_threads.specs.quantum.specs.Ahead.{begun, happened, more_with, unbegun, Ahead, HasRefilled, HasReordered}
use Rattle.board_threads.specs.board_core.specs.Core.{IsSound, Recorded}
use Rattle.board_threads.specs.board_core.specs.Stamps.{IsSince}
use Rattle.board_threads.specs.quantum.specs.LocalRun.{touched_views}
use Rattle.board_threads.specs.quantum.proofs.OneStep.{contains_filter}
use Rattle.board_threads.specs.board_core.specs.Growth.{entries_of_run}
use Rattle.board_threads.specs.declared.tickets.Ticket.{Ticket}
use Rattle.board_commits.specs.Commits.{HasPage, IsCommitted}
use Rattle.board_commits.specs.Refusals.{is_changed}
use Rattle.board_commits.specs.Tickets.{AreAsOf, AreAllAsOf, IsAsOf, IsDated}

-- ---- what a frame has now

module _ (j : List Entry) (memory : List ℕ) (frame : Frame) (stamp : ℕ) (since : IsSince j memory frame stamp) where
  -- its bytes now are those as of any place from its stamp on
  pub dated_now : (place : ℕ) → stamp ≤ place → place ≤ length j → IsDated j (record { frame = frame; bytes = page_at memory frame; place = place })
  dated_now place low high = record { within = high; bytes = since.same place low high }

  -- and bytes that carry such a place are its bytes now
  pub still_has : (bytes : List ℕ) (place : ℕ) → stamp ≤ place → IsDated j (record { frame = frame; bytes = bytes; place = place }) → bytes ≡ page_at memory frame
  still_has bytes place low is = sym is.bytes ∙ since.same place low is.within

-- ---- a page that a quantum keeps

behind_first : (kept : List (Option Dated)) (o : Option Dated) → Contains (drop 1 kept) o → Contains kept o
behind_first [] o there = there
behind_first (k ∷ kept) o there = Contains-behind k kept o there

-- what is kept since the frame's stamp is what the frame has
module _ (b : Recorded) (vpn : Vpn) (frame : Frame) (flags : Flags) (row : Ident) (old new : Ahead) (stamp : ℕ) (since : IsSince b.journal.entries b.machine.memory frame stamp) where
  pub has_kept : AreAllAsOf b.journal.entries old → HasRefilled vpn frame flags row stamp old new → HasPage b vpn frame flags row old new
  has_kept kept has =
      let d = has.d in
      let its = kept (Some d) (Contains-append_right (map dated old.views) old.kept (Some d) has.was.there) in
      let of_frame : IsDated b.journal.entries (record { frame = frame; bytes = d.bytes; place = d.place }) = subst (λ (f : Frame). IsDated b.journal.entries (record { frame = f; bytes = d.bytes; place = d.place })) has.was.of its in
      let same = still_has b.journal.entries b.machine.memory frame stamp since d.bytes d.place has.was.late of_frame in
      record {
        place = d.place;
        dated = dated_now b.journal.entries b.machine.memory frame stamp since d.place has.was.late its.within;
        views = has.is ∙ ap (λ (bytes : List ℕ). record (more_with (filled old.views vpn frame flags row bytes (Some d.place)) old) { kept = new.kept }) same;
        kept = has.kept;
      }

  -- so is what was copied, of a quantum that kept nothing of it
  pub has_copied : (between : Ahead) → HasReordered old between → (bytes : List ℕ) (place : ℕ) → bytes ≡ page_at b.machine.memory frame → place ≡ length b.journal.entries
      → new ≡ more_with (filled between.views vpn frame flags row bytes (Some place)) between → HasPage b vpn frame flags row old new
  has_copied between same bytes place page end fill =
      let low = since.within in
      let kept : new.kept ≡ drop 1 between.kept = ap (λ (a : Ahead). a.kept) fill in
      record {
        place = place;
        dated = dated_now b.journal.entries b.machine.memory frame stamp since place (omega arith) (omega arith);
        views = fill ∙ ap₂ (λ (a : Ahead) (bytes : List ℕ). record (more_with (filled a.views vpn frame flags row bytes (Some place)) a) { kept = drop 1 between.kept }) same.is page
            ∙ ap (λ (ks : List (Option Dated)). record (more_with (filled old.views vpn frame flags row (page_at b.machine.memory frame) (Some place)) old) { kept = ks }) (sym kept);
        kept = λ o there. same.kept o (behind_first between.kept o (subst (λ (ks : List (Option Dated)). Contains ks o) kept there));
      }

-- ---- with a view more

from_more : (vs : List View) (v : View) (kept now : List (Option Dated)) (o : Option Dated) → AreKept kept now → Contains (all_dated (vs ++ v ∷ []) now) o → Contains (all_dated vs kept) o ⊎ (dated v ≡ o)
from_more vs v kept now o were there = elim (Contains-append_cases (map dated (vs ++ v ∷ [])) now o there) [
  | inl viewed ↦ elim (Contains-append_cases (map dated vs) (dated v ∷ []) o (subst (λ (os : List (Option Dated)). Contains os o) (map-append dated vs (v ∷ [])) viewed)) [
    | inl before ↦ inl (Contains-append_left (map dated vs) kept o before)
    | inr now ↦ elim (Contains-cases (dated v) [] o now) [
      | inl is ↦ inr is
      | inr none ↦ absurd (contains_nothing o none)
    ]
  ]
  | inr behind ↦ inl (Contains-append_right (map dated vs) kept o (were o behind))
]

pub kept_more : (j : List Entry) (a : Ahead) (v : View) (now : List (Option Dated)) → IsAsOf j (dated v) → AreKept a.kept now → AreAllAsOf j a → AreAllAsOf j (record (more_with v a) { kept = now })
kept_more j a v now its were kept o there = elim (from_more a.views v a.kept now o were there) [
  | inl before ↦ kept o before
  | inr last ↦ subst (IsAsOf j) last its
]

-- each view's are among them
pub as_of_views : (j : List Entry) (a : Ahead) → AreAllAsOf j a → AreAsOf j a.views
as_of_views j a kept v there = kept (dated v) (Contains-append_left (map dated a.views) a.kept (dated v) (Contains-map dated a.views v there))

-- ---- as the journal grows, and from one quantum to the next

dated_stays : (j es : List Entry) (o : Option Dated) → IsAsOf j o → IsAsOf (j ++ es) o
dated_stays j es None is = tt
dated_stays j es (Some d) is =
    let within = is.within in
    let size = length-append j es in
    record {
      within = omega arith;
      bytes = ap (λ (front : List Entry). page_at (flat (erase front)).memory d.frame) (take-append-le d.place j es within) ∙ is.bytes;
    }

pub kept_stays : (j es : List Entry) (a : Ahead) → AreAllAsOf j a → AreAllAsOf (j ++ es) a
kept_stays j es a kept o there = dated_stays j es o (kept o there)

pub kept_begun : (j : List Entry) (context : Context) (a : Ahead) → AreAllAsOf j a → AreAllAsOf j (begun context a)
kept_begun j context a kept o there = kept o there

-- once its steps happened
module _ (ticket : Ticket) (a : Ahead) (old new : Recorded) (sound : IsSound new) (done : IsCommitted ticket a old new) (some : 0 < a.steps) (kept : AreAllAsOf old.journal.entries a) where
  abbrev end : ℕ
  end = length new.journal.entries

  later : (o : Option Dated) → Contains (all_dated a.views a.kept) o → IsAsOf new.journal.entries o
  later o there = subst (λ (j : List Entry). IsAsOf j o) (sym done.entries.entries) (dated_stays old.journal.entries (entries_of_run done.whom a.steps ticket.cpu) o (kept o there))

  -- a touched view's frame holds what the view does
  now_holds : (v : View) → Contains (touched_views a.views) v → IsDated new.journal.entries (record { frame = v.frame; bytes = v.present; place = end })
  now_holds v there =
      let held = done.held some v there in
      let stamp = sound.stamps v.frame held.0 in
      let low = stamp.since.within in
      let now = dated_now new.journal.entries new.machine.memory v.frame stamp.stamp stamp.since end low (omega arith) in
      record { within = now.within; bytes = now.bytes ∙ held.1 }

  of_view : (v : View) → Contains a.views v → (b : Bool) → v.touched ≡ b → IsAsOf new.journal.entries (dated (if b then record v { first = v.present; taken = Some end } else v))
  of_view v there true touched = now_holds v (contains_filter (λ (w : View). w.touched) a.views v there touched)
  of_view v there false untouched = later (dated v) (Contains-append_left (map dated a.views) a.kept (dated v) (Contains-map dated a.views v there))

  pub kept_happened : AreAllAsOf new.journal.entries (happened end a)
  kept_happened o there = elim (Contains-append_cases (map dated (map (as_happened end) a.views)) a.kept o there) [
    | inl viewed ↦
        let w = Contains-from_map dated (map (as_happened end) a.views) o viewed in
        let v = Contains-from_map (as_happened end) a.views w.0 w.1 in
        subst (IsAsOf new.journal.entries) (ap dated v.2 ∙ w.2) (of_view v.0 v.1 v.0.touched refl)
    | inr behind ↦ later o (Contains-append_right (map dated a.views) a.kept o behind)
  ]

none_kept : (j : List Entry) (n : ℕ) (o : Option Dated) → Contains (replicate n None) o → IsAsOf j o
none_kept j zero o there = absurd (contains_nothing o there)
none_kept j (suc n) o there = elim (Contains-cases None (replicate n None) o there) [
  | inl is ↦ subst (IsAsOf j) is tt
  | inr behind ↦ none_kept j n o behind
]

pub kept_unbegun : (j : List Entry) (most : ℕ) → AreAllAsOf j (unbegun most)
kept_unbegun j most o there = none_kept j (slots_for most) o there

-- ---- a comparison

pub on_order : (P : Type 0) (low high : ℕ) → (low ≤ high → P) → OnTrue (nat_le low high) P
on_order P low high holds = by (nat_le low high) refl
  where
    by : (b : Bool) → nat_le low high ≡ b → OnTrue b P
    by true is = holds (leb-true low high is)
    by false is = tt

-- the bytes that a view was copied from are its frame's, where they carry a place from its stamp on
pub same_first : (j : List Entry) (memory : List ℕ) (v : View) (stamp place : ℕ) → IsSince j memory v.frame stamp → v.taken ≡ Some place → stamp ≤ place → IsAsOf j (dated v) → v.first ≡ page_at memory v.frame
same_first j memory v stamp place since taken low is =
    still_has j memory v.frame stamp since v.first place low
    (subst (λ (o : Option ℕ). IsAsOf j (option_map (λ n. record { frame = v.frame; bytes = v.first; place = n }) o)) taken is)

pub unchanged_if : (v : View) (memory : List ℕ) → v.touched ≡ true → v.first ≡ page_at memory v.frame → false ≡ is_changed memory v
unchanged_if v memory touched same =
    ap (λ (b : Bool). true && not b) (sym ((bytes_eq-Decides v.first (page_at memory v.frame)).1 same))
    ∙ ap (λ (b : Bool). b && not (bytes_eq v.first (page_at memory v.frame))) (sym touched)

pub untouched_if : (v : View) (memory : List ℕ) → v.touched ≡ false → false ≡ is_changed memory v
untouched_if v memory untouched = ap (λ (b : Bool). b && not (bytes_eq v.first (page_at memory v.frame))) (sym untouched)
