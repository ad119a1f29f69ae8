-- Views that are taken over, one after another.
use Rattle.std.proofs.Common.{◌≡◌, ℕ, ◌+◌, ◌<◌, Bool, true, false, List, [], ◌∷◌, ◌++◌, length, map, take, drop, get_or, cond, Contains, Some, refl, ap, sym, ◌∙◌, subst, inl, inr, arith, take-append-drop}
use Rattle.std.specs.Prelude.{if◌then◌else◌}
use Rattle.std.proofs.lemmas.Bool.{cases_eq}
use Rattle.std.proofs.lemmas.List.{append-nil}
use Rattle.std.proofs.lemmas.List.Elements.{Contains-append_left, Contains-push_cases, filter-append, filter_more}
use Rattle.cache_ident.specs.declared.names.Frame.{Frame}
use Rattle.cache_ident.specs.declared.names.SpaceNo.{SpaceNo}
use Rattle.cache_ident.specs.declared.names.Vpn.{Vpn}
use Rattle.phys_groups.specs.Memory.{page_at, with_page, HasFrame}
use Rattle.phys_groups.specs.Rows.{marked}
use Rattle.phys_groups.proofs.Pages.{length-with_page, page_at-with_page, page_at-with_page_other, with_page-page_at}
use Rattle.flat_state.specs.State.{FlatState}
use Rattle.board_ops.specs.page_views.specs.Views.{View}
use Rattle.cached_machine.specs.shown_state.specs.Shown.{shown}
use Rattle.cached_machine.specs.Cached.{state_of, Cached}
use Rattle.board_ops.specs.page_views.specs.declared.part.Part.{Part}
use Rattle.board_ops.specs.page_views.specs.Parts.{AreAlikeBut}
use Rattle.cached_machine.specs.quantum.specs.LocalRun.{touched_views}
use Rattle.board_core.specs.Growth.{with_all_views, with_view, AreInMemory, HoldAlike, IsAsCopiedOrNow, IsPutIn}
use Rattle.board_core.specs.Stamps.{stamped_at, AreStamped, HaveStamps}
use Rattle.board_core.proofs.OpeningLaws.{memory_shown}
use Rattle.board_core.proofs.StampLaws.{one_stamped}

-- a machine with other memory shows it
pub shown_with : (m : Cached) (memory : List ℕ) → state_of (record m { memory = memory }) ≡ record (state_of m) { memory = memory }
unfolding shown
shown_with m memory = refl

pub marks_of_view : (old mid : Cached) (space : SpaceNo) (v : View) (vpn : Vpn) (written : Bool) → vpn ≡ v.vpn → written ≡ v.written → state_of mid ≡ record (state_of old) { rows = map (marked space vpn.0 written) (state_of old).rows }
    → state_of mid ≡ record (state_of old) { rows = map (marked space v.vpn.0 v.written) (state_of old).rows }
marks_of_view old mid space v vpn written of_page as_written state =
    state
    ∙ ap (λ (n : Vpn). record (state_of old) { rows = map (marked space n.0 written) (state_of old).rows }) of_page
    ∙ ap (λ (b : Bool). record (state_of old) { rows = map (marked space v.vpn.0 b) (state_of old).rows }) as_written

module _ (old mid : Cached) (space : SpaceNo) (v : View) (touched : v.touched ≡ true) (state : state_of mid ≡ record (state_of old) { rows = map (marked space v.vpn.0 v.written) (state_of old).rows }) where
  -- a mark leaves memory
  pub memory_marked : mid.memory ≡ old.memory
  memory_marked = sym (memory_shown mid.machine mid.memory mid.held.contents) ∙ ap (λ (s : FlatState). s.memory) state ∙ memory_shown old.machine old.memory old.held.contents

  with_view_is : with_view space (state_of old) v ≡ record (state_of old) { memory = with_page (state_of old).memory v.frame v.present; rows = map (marked space v.vpn.0 v.written) (state_of old).rows }
  with_view_is = ap (λ (b : Bool). if b then record (state_of old) { memory = with_page (state_of old).memory v.frame v.present; rows = map (marked space v.vpn.0 v.written) (state_of old).rows } else state_of old) touched

  pub copied_state : (new : Cached) → new ≡ record mid { memory = with_page mid.memory v.frame v.present } → state_of new ≡ with_view space (state_of old) v
  copied_state new is =
      ap state_of is ∙ shown_with mid (with_page mid.memory v.frame v.present)
      ∙ ap (λ (s : FlatState). record s { memory = with_page mid.memory v.frame v.present }) state
      ∙ ap (λ (m : List ℕ). record (state_of old) { memory = with_page m v.frame v.present; rows = map (marked space v.vpn.0 v.written) (state_of old).rows }) (memory_marked ∙ sym (memory_shown old.machine old.memory old.held.contents))
      ∙ sym with_view_is

  pub kept_state : HasFrame old.memory v.frame → v.present ≡ page_at mid.memory v.frame → state_of mid ≡ with_view space (state_of old) v
  kept_state there equal =
      let was = memory_shown old.machine old.memory old.held.contents in
      let same : with_page (state_of old).memory v.frame v.present ≡ (state_of old).memory =
      ap (λ (p : List ℕ). with_page (state_of old).memory v.frame p) (equal ∙ ap (λ (m : List ℕ). page_at m v.frame) (memory_marked ∙ sym was))
      ∙ with_page-page_at (state_of old).memory v.frame (subst (λ (m : List ℕ). HasFrame m v.frame) (sym was) there) in
      state ∙ ap (λ (m : List ℕ). record (state_of old) { memory = m; rows = map (marked space v.vpn.0 v.written) (state_of old).rows }) (sym same) ∙ sym with_view_is

-- ---- stamps

pub copied_stamps : (at : ℕ) (before memory after stamps news : List ℕ) (frame : Frame) (page : List ℕ) → memory ≡ before → HasFrame before frame → length page ≡ 4096 → frame.0 < length stamps
    → after ≡ with_page memory frame page → news ≡ stamped_at (Some frame) at stamps → AreStamped at before stamps after news
copied_stamps at before memory after stamps news frame page same there whole low is are =
    let written : after ≡ with_page before frame page = is ∙ ap (λ (m : List ℕ). with_page m frame page) same in
    subst (λ (xs : List ℕ). AreStamped at before stamps after xs) (sym are)
    (one_stamped at before stamps after (Some frame) (ap length written ∙ length-with_page before frame page there whole) low
    (λ other other_there apart. ap (λ (m : List ℕ). page_at m other) written ∙ page_at-with_page_other before frame page other there whole (λ equal. apart (ap (λ (n : ℕ). Some (record { 0 = n })) (sym equal)))))

pub kept_stamps : (at : ℕ) (before after stamps : List ℕ) → after ≡ before → AreStamped at before stamps after stamps
kept_stamps at before after stamps same = record { size = ap length same; places = refl; each = λ frame there. inr (refl, ap (λ (m : List ℕ). page_at m frame) same) }

-- .. and again
pub stamped_again : (at : ℕ) (a s b t d u : List ℕ) → AreStamped at a s b t → AreStamped at b t d u → AreStamped at a s d u
stamped_again at a s b t d u first second = record {
  size = second.size ∙ first.size;
  places = second.places ∙ first.places;
  each = λ frame there.
      let size = first.size in
      elim (second.each frame (omega arith)) [
        | inl now ↦ inl now
        | inr kept ↦ elim (first.each frame there) [
          | inl now ↦ inl (kept.0 ∙ now)
          | inr before ↦ inr (kept.0 ∙ before.0, kept.1 ∙ before.1)
        ]
      ];
}

pub have_places_then : (at : ℕ) (a s b t : List ℕ) → AreStamped at a s b t → HaveStamps a s → HaveStamps b t
have_places_then at a s b t stamped have frame there =
    let size = stamped.size in
    let places = stamped.places in
    let low = have frame (omega arith) in
    omega arith

-- ---- what the frames hold meanwhile

-- where a view is put in, the frame of each holds what was copied of it still, or what the view holds now
pub held_later : (vs : List View) (w : View) (memory after : List ℕ) → HoldAlike vs → Contains vs w → AreInMemory memory vs → IsPutIn w memory after
    → ((v : View) → Contains vs v → IsAsCopiedOrNow memory v) → (v : View) → Contains vs v → IsAsCopiedOrNow after v
held_later vs w memory after alike of within put held v there =
    elim (cases_eq v.frame.0 w.frame.0) [
      | inl same ↦
          let frames : v.frame ≡ w.frame = ap (λ (n : ℕ). let f : Frame = record { 0 = n } in f) same in
          inr (ap (λ (f : Frame). page_at after f) frames ∙ put.its ∙ alike w v of there (sym frames))
      | inr apart ↦
          let kept = put.others v.frame (within v there) (λ same. apart (ap (λ (f : Frame). f.0) same)) in
          elim (held v there) [
            | inl first ↦ inl (kept ∙ first)
            | inr now ↦ inr (kept ∙ now)
          ]
    ]

-- .. and the frame of each that was put in before holds what the view does still
pub done_later : (vs : List View) (w : View) (memory after : List ℕ) → HoldAlike vs → Contains vs w → AreInMemory memory vs → IsPutIn w memory after → (v : View) → Contains vs v → page_at memory v.frame ≡ v.present → page_at after v.frame ≡ v.present
done_later vs w memory after alike of within put v there held =
    elim (cases_eq v.frame.0 w.frame.0) [
      | inl same ↦
          let frames : v.frame ≡ w.frame = ap (λ (n : ℕ). let f : Frame = record { 0 = n } in f) same in
          ap (λ (f : Frame). page_at after f) frames ∙ put.its ∙ alike w v of there (sym frames)
      | inr apart ↦ put.others v.frame (within v there) (λ same. apart (ap (λ (f : Frame). f.0) same)) ∙ held
    ]

touched_within : (n : ℕ) (views : List View) (v : View) → Contains (touched_views (take n views)) v → Contains (touched_views views) v
touched_within n views v there =
    subst (λ (vs : List View). Contains (touched_views vs) v) (take-append-drop n views)
    (subst (λ (vs : List View). Contains vs v) (sym (filter-append (λ (w : View). w.touched) (take n views) (drop n views))) (Contains-append_left (touched_views (take n views)) (touched_views (drop n views)) v there))

-- the first so many touched views and one more
touched_more : (views : List View) (i : ℕ) (v : View) → i < length views → v ≡ get_or views i v → touched_views (take (i + 1) views) ≡ touched_views (take i views) ++ cond v.touched (v ∷ []) []
touched_more views i v within is =
    filter_more (λ (w : View). w.touched) views i v within ∙ ap (λ (w : View). touched_views (take i views) ++ cond w.touched (w ∷ []) []) (sym is)

pub done_more : (views : List View) (i : ℕ) (v : View) (memory after : List ℕ) → i < length views → v ≡ get_or views i v → v.touched ≡ true → HoldAlike (touched_views views) → Contains (touched_views views) v → AreInMemory memory (touched_views views) → IsPutIn v memory after
    → ((u : View) → Contains (touched_views (take i views)) u → page_at memory u.frame ≡ u.present) → (u : View) → Contains (touched_views (take (i + 1) views)) u → page_at after u.frame ≡ u.present
done_more views i v memory after within is touched alike of in_memory put before u there =
    let more = touched_more views i v within is ∙ ap (λ (b : Bool). touched_views (take i views) ++ cond b (v ∷ []) []) touched in
    elim (Contains-push_cases (touched_views (take i views)) v u (subst (λ (vs : List View). Contains vs u) more there)) [
      | inl earlier ↦ done_later (touched_views views) v memory after alike of in_memory put u (touched_within i views u earlier) (before u earlier)
      | inr last ↦ subst (λ (w : View). page_at after w.frame ≡ w.present) last put.its
    ]

pub done_skipped : (views : List View) (i : ℕ) (v : View) → i < length views → v ≡ get_or views i v → v.touched ≡ false → touched_views (take (i + 1) views) ≡ touched_views (take i views)
done_skipped views i v within is untouched =
    touched_more views i v within is ∙ ap (λ (b : Bool). touched_views (take i views) ++ cond b (v ∷ []) []) untouched ∙ append-nil (touched_views (take i views))

-- what the frame holds differs from what the view does at most where this differs from what was copied
pub alike_now : (v : View) (memory : List ℕ) (part : Part) → AreAlikeBut part v.first v.present → IsAsCopiedOrNow memory v → AreAlikeBut part (page_at memory v.frame) v.present
alike_now v memory part alike found = elim found [
  | inl first ↦ subst (λ (bytes : List ℕ). AreAlikeBut part bytes v.present) (sym first) alike
  | inr now ↦ subst (λ (bytes : List ℕ). AreAlikeBut part bytes v.present) (sym now) (record { before = refl; behind = refl })
]

-- what is copied into its frame is put in, and so is what stands there already
pub put_copied : (v : View) (before memory after : List ℕ) (page : List ℕ) → memory ≡ before → HasFrame before v.frame → length page ≡ 4096 → page ≡ v.present → after ≡ with_page memory v.frame page → IsPutIn v before after
put_copied v before memory after page same there whole of is =
    let written : after ≡ with_page before v.frame page = is ∙ ap (λ (m : List ℕ). with_page m v.frame page) same in
    record {
      its = ap (λ (m : List ℕ). page_at m v.frame) written ∙ page_at-with_page before v.frame page there whole ∙ of;
      others = λ frame frame_there apart. ap (λ (m : List ℕ). page_at m frame) written ∙ page_at-with_page_other before v.frame page frame there whole (λ equal. apart (ap (λ (n : ℕ). let f : Frame = record { 0 = n } in f) equal));
    }

pub put_already : (v : View) (before after : List ℕ) → after ≡ before → v.present ≡ v.first → IsAsCopiedOrNow before v → IsPutIn v before after
put_already v before after same as_copied found =
    record {
      its = ap (λ (m : List ℕ). page_at m v.frame) same ∙ elim found [ inl first ↦ first ∙ sym as_copied | inr now ↦ now ];
      others = λ frame there apart. ap (λ (m : List ℕ). page_at m frame) same;
    }

-- ---- one view more

pub all_views-push : (space : SpaceNo) (vs : List View) (s : FlatState) (v : View) → with_all_views space s (vs ++ v ∷ []) ≡ with_view space (with_all_views space s vs) v
all_views-push space [] s v = refl
all_views-push space (w ∷ vs) s v = all_views-push space vs (with_view space s w) v

pub untouched_view : (space : SpaceNo) (s : FlatState) (v : View) → v.touched ≡ false → with_view space s v ≡ s
untouched_view space s v untouched = ap (λ (b : Bool). if b then record s { memory = with_page s.memory v.frame v.present; rows = map (marked space v.vpn.0 v.written) s.rows } else s) untouched
