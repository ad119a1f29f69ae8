-- What becomes of pages whose row is to be loaded, and of pages of which nothing is.
use Rattle.std.proofs.Common.{◌≡◌, ◌≢◌, ◌⊎◌, ℕ, true, false, List, Option, Some, None, refl, sym, ap, ◌∙◌, subst, inl, inr}
use Rattle.std.specs.Prelude.{◌/◌, Result, Ok, Err, IfErr, IfOk}
use Rattle.std.specs.Option.{option_map}
use Rattle.std.proofs.lemmas.Option.{same_Some}
use Rattle.cache_ident.specs.declared.idents.Ident.{Ident}
use Rattle.cache_ident.specs.declared.names.Name.{Name}
use Rattle.cache_ident.specs.declared.names.Name.TheVariants as name
use Rattle.cache_ident.specs.declared.names.SpaceNo.{SpaceNo}
use Rattle.cache_ident.specs.declared.names.ThreadNo.{ThreadNo}
use Rattle.cache_ident.specs.declared.names.Vpn.{Vpn}
use Rattle.cache_ident.specs.Residents.{Resident, IsNameResident, IsResident}
use Rattle.phys_groups.specs.declared.rows.Row.{Row}
use Rattle.phys_groups.specs.Translation.{row_of}
use Rattle.board_calls.specs.flat_state.specs.State.{FlatState}
use Rattle.board_calls.specs.flat_state.specs.Translation.{is_fit_row}
use Rattle.board_calls.specs.desc_stores.specs.Contents.{residents_of}
use Rattle.board_calls.specs.board_ops.specs.declared.refusals.Refused.{Refused}
use Rattle.board_calls.specs.board_ops.specs.declared.refusals.Refused.TheVariants as why
use Rattle.board_calls.specs.cached_machine.specs.Cached.{state_of}
use Rattle.board_calls.specs.board_core.specs.Answers.{IsRefused}
use Rattle.board_calls.specs.board_core.specs.Core.{contents_of, IsSound, Recorded}
use Rattle.board_calls.specs.board_core.specs.Growth.{IsRoomMade}
use Rattle.board_calls.specs.board_core.proofs.RoomLaws.{same_residents}
use Rattle.board_calls.specs.board_checks.specs.Identifiers.{space_as}
use Rattle.board_calls.specs.board_checks.specs.Refusals.{refusal_of_load_mapping}
use Rattle.board_calls.specs.board_loads.specs.Loads.{IsLoadedAs}
use Rattle.board_calls.specs.board_loads.proofs.GoneLaws.{new_cases}
use Rattle.owner_laws.specs.answer_laws.specs.Given.{IsGiven}
use Rattle.owner_laws.specs.owners.specs.Known.{ident_of, Known}
use Rattle.reach_laws.specs.Filling.{HasUnfitRow, IsElse, IsFillable, IsNothingToLoad, IsUnfillable}
use Rattle.reach_laws.specs.Reaching.{IsGot, IsLoadAnswer, IsOwned, IsPlainLoaded, IsReached}
use Rattle.reach_laws.proofs.Keeping.{was_absent}
use Rattle.reach_laws.proofs.Loading.{free_row, loaded_row, none_told, receiver_told, unfit_row}
use Rattle.reach_laws.proofs.Telling.{loaded_fit, space_noted, told_absent, told_loaded, told_message, told_unfit}

-- ---- what isn't loaded

pub absent_still : (old new : Recorded) → IsRoomMade old new → (m : Name) → (IsNameResident (residents_of (contents_of old)) m → ⊥) → IsNameResident (residents_of (contents_of new)) m → ⊥
absent_still old new room m absent r = absent (subst (λ (rs : List Resident). IsNameResident rs m) (same_residents old new room) r)

-- a load brings its own name alone
pub absent_kept : (cpu : ℕ) (n : Name) (ident : Ident) (old new : Recorded) → IsSound old → IsLoadedAs cpu n ident old new → (m : Name) → m ≢ n → (IsNameResident (residents_of (contents_of old)) m → ⊥) → IsNameResident (residents_of (contents_of new)) m → ⊥
absent_kept cpu n ident old new sound load m apart absent r =
    elim (new_cases old.machine.held.caps (contents_of old) sound.tables.0 sound.tables.1.whole (contents_of new) n load.keep _ new.machine.held.gone ident load.load r.0 r.1) [
      | inl before ↦ absent (r.0, before, r.2)
      | inr its ↦ apart (sym r.2 ∙ its)
    ]

pub absent_after : (refusal : Option Refused) (n : Name) (old new : Recorded) → IsSound old → (m : Name) → m ≢ n → (IsNameResident (residents_of (contents_of old)) m → ⊥) → (answer : Result Ident Refused) → IsLoadAnswer refusal n old new answer → IsNameResident (residents_of (contents_of new)) m → ⊥
absent_after refusal n old new sound m apart absent (Ok ident) a = absent_kept 0 n ident old new sound a.made m apart absent
absent_after refusal n old new sound m apart absent (Err why) a = absent_still old new a.refused.only m absent

-- ---- what stays to be loaded, and what doesn't

fillable_where : (b c : Recorded) (space : SpaceNo) (vpn : Vpn) → IsFillable b space vpn → state_of c.machine ≡ state_of b.machine → (IsNameResident (residents_of (contents_of c)) (name.Mapping space vpn) → ⊥) → IsFillable c space vpn
fillable_where b c space vpn is same absent = record {
  row = is.row;
  here = ap (λ (s : FlatState). row_of s.rows space vpn.0) same ∙ is.here;
  fit = ap (λ (s : FlatState). is_fit_row s is.row) same ∙ is.fit;
  plain = is.plain;
  absent = absent;
}

pub fillable_still : (old new : Recorded) → IsRoomMade old new → (space : SpaceNo) (vpn : Vpn) → IsFillable old space vpn → IsFillable new space vpn
fillable_still old new room space vpn is = fillable_where old new space vpn is room.only.state (absent_still old new room (name.Mapping space vpn) is.absent)

pub fillable_after : (refusal : Option Refused) (n : Name) (old new : Recorded) → IsSound old → (space : SpaceNo) (vpn : Vpn) → IsFillable old space vpn → name.Mapping space vpn ≢ n → (answer : Result Ident Refused) → IsLoadAnswer refusal n old new answer → IsFillable new space vpn
fillable_after refusal n old new sound space vpn is apart (Ok ident) a = fillable_where old new space vpn is a.made.state (absent_kept 0 n ident old new sound a.made (name.Mapping space vpn) apart is.absent)
fillable_after refusal n old new sound space vpn is apart (Err why) a = fillable_still old new a.refused.only space vpn is

-- of a page of which nothing is to be loaded, nothing is, where the same is shown and a plain row is still loaded
pub unfillable_where : (b c : Recorded) (space : SpaceNo) (vpn : Vpn) → state_of c.machine ≡ state_of b.machine → (IsPlainLoaded b space vpn → IsPlainLoaded c space vpn) → IsUnfillable b space vpn → IsUnfillable c space vpn
unfillable_where b c space vpn same keeps is = elim is [
  | inl none ↦ inl (ap (λ (s : FlatState). row_of s.rows space vpn.0) same ∙ none)
  | inr some ↦ elim some [
    | inl unfit ↦ inr (inl (subst (λ (s : FlatState). HasUnfitRow s space vpn) (sym same) unfit))
    | inr loaded ↦ inr (inr (keeps loaded))
  ]
]

pub nothing_loads : (cpu : ℕ) (b c : Recorded) (o : Known) → IsOwned b o → (space : SpaceNo) (vpn : Vpn) (ident : Ident) → IsUnfillable b space vpn → IsLoadedAs cpu (name.Mapping space vpn) ident b c → ⊥
nothing_loads cpu b c o owned space vpn ident is load =
    let fit = loaded_fit b o owned cpu space vpn ident c load in
    elim is [
      | inl none ↦ let clash : None ≡ Some fit.0 = sym none ∙ fit.1 in absurd (cc)
      | inr some ↦ elim some [
        | inl unfit ↦
            let same : unfit.row ≡ fit.0 = same_Some unfit.row fit.0 (sym unfit.here ∙ fit.1) in
            let clash : false ≡ true = sym unfit.unfit ∙ ap (is_fit_row (state_of b.machine)) same ∙ fit.2 in
            absurd (cc)
        | inr loaded ↦ was_absent cpu (name.Mapping space vpn) ident b c owned.sound load (loaded.live.0, loaded.live.1, loaded.live.3)
      ]
    ]

-- ---- what is asked for by what is noted

module _ (b : Recorded) (o : Known) (owned : IsOwned b o) (caller parent : Ident) (space : SpaceNo) (noted : ident_of o (name.Space space) ≡ Some parent) (vpn : Vpn) (receiver : Option Ident) where
  -- a row that is to be loaded is refused for no reason that there is nothing to load
  pub something_loads : IsFillable b space vpn → (w : Refused) → refusal_of_load_mapping (contents_of b) caller parent vpn receiver ≡ Some w → IsNothingToLoad w → ⊥
  something_loads is (why.AlreadyLoaded ident) tells _ =
      let live = told_loaded b o owned caller parent space noted vpn receiver ident tells in
      is.absent (live.0, live.1, live.3)
  something_loads is (why.NotDeclared n) tells _ = let clash : None ≡ Some is.row = sym (told_absent b o owned caller parent space noted vpn receiver n tells) ∙ is.here in absurd (cc)
  something_loads is (why.Rights frame group) tells _ =
      let unfit = told_unfit b o owned caller parent space noted vpn receiver frame group tells in
      let same : unfit.0 ≡ is.row = same_Some unfit.0 is.row (sym unfit.1 ∙ is.here) in
      let clash : false ≡ true = sym unfit.2 ∙ ap (is_fit_row (state_of b.machine)) same ∙ is.fit in
      absurd (cc)
  something_loads is _ tells nothing = absurd nothing

  something_else : IsFillable b space vpn → (w : Refused) → refusal_of_load_mapping (contents_of b) caller parent vpn receiver ≡ Some w → IsElse w
  something_else is (why.AlreadyLoaded ident) tells = something_loads is (why.AlreadyLoaded ident) tells tt
  something_else is (why.NotDeclared n) tells = something_loads is (why.NotDeclared n) tells tt
  something_else is (why.Rights frame group) tells = something_loads is (why.Rights frame group) tells tt
  something_else is (why.ReceiversAbsent other page) tells =
      let message = told_message b o owned caller parent space noted vpn receiver other page tells in
      let same : message.0 ≡ is.row = same_Some message.0 is.row (sym message.1 ∙ is.here) in
      let clash : true ≡ false = sym message.2 ∙ ap (λ (x : Row). x.flags.m) same ∙ is.plain in
      absurd (cc)
  something_else is _ tells = tt

  -- so it is loaded, or is to be loaded still
  module _ (c : Recorded) (r : Result Ident Refused) (refused : IfErr r (IsRefused (refusal_of_load_mapping (contents_of b) caller parent vpn receiver) b c))
      (made : IfOk r (λ ident. (other : SpaceNo) × (space_as (contents_of b) parent ≡ Some other) × IsLoadedAs 0 (name.Mapping other vpn) ident b c)) where
    pub noted_loads : (ident : Ident) → r ≡ Ok ident → IsResident (residents_of (contents_of c)) ident (name.Mapping space vpn)
    noted_loads ident is =
        let m = subst (λ (x : Result Ident Refused). IfOk x (λ i. (other : SpaceNo) × (space_as (contents_of b) parent ≡ Some other) × IsLoadedAs 0 (name.Mapping other vpn) i b c)) is made in
        subst (λ (x : SpaceNo). IsResident (residents_of (contents_of c)) ident (name.Mapping x vpn)) (space_noted b o owned space parent noted m.0 m.1) m.2.there

    pub noted_waits : IsFillable b space vpn → (w : Refused) → r ≡ Err w → IsFillable c space vpn × IsElse w
    noted_waits fillable w is =
        let so = subst (λ (x : Result Ident Refused). IfErr x (IsRefused (refusal_of_load_mapping (contents_of b) caller parent vpn receiver) b c)) is refused in (
          fillable_still b c so.only space vpn fillable,
          elim so.why [
            | inl wants ↦ subst IsElse (sym wants) tt
            | inr tells ↦ something_else fillable w tells
          ],
        )

-- ---- what is asked for by what is reached

module _ (b c : Recorded) (o : Known) (owned : IsOwned b o) (space : SpaceNo) (reached : IsReached b o space) (vpn : Vpn) (receiver : Option Ident) (named : Option ThreadNo) (given : IsGiven (contents_of b) receiver named) where
  abbrev asked : Option Refused
  asked = refusal_of_load_mapping (contents_of b) reached.caller reached.parent vpn receiver

  answered : (w : Refused) → IsLoadAnswer asked (name.Mapping space vpn) b c (Err w) → (w ≡ why.NoMemory) ⊎ (asked ≡ Some w)
  answered w a = a.refused.why

  -- the row of the page, if there is one, has the receiver that was given
  abbrev pub IsRight : Type 0
  IsRight = (row : Row) → row_of (state_of b.machine).rows space vpn.0 ≡ Some row → named ≡ row.receiver

  -- .. or it has another, which is told
  pub record IsAnother : Type 0 where
    pub row : Row
    pub here : row_of (state_of b.machine).rows space vpn.0 ≡ Some row
    pub told : asked ≡ Some (why.WrongParent (option_map name.Thread named) (option_map name.Thread row.receiver))

  pub right_or_told : IsRight ⊎ IsAnother
  right_or_told = by (row_of (state_of b.machine).rows space vpn.0) refl
    where
      by : (x : Option Row) → row_of (state_of b.machine).rows space vpn.0 ≡ x → IsRight ⊎ IsAnother
      by None none = inl (λ row here. absurd (let clash : None ≡ Some row = sym none ∙ here in cc))
      by (Some row) here = elim (receiver_told b c o owned space reached vpn receiver named given row here) [
        | inl right ↦ inl (λ other there. right ∙ ap (λ (x : Row). x.receiver) (same_Some row other (sym here ∙ there)))
        | inr tells ↦ inr (record { row = row; here = here; told = tells })
      ]

  pub another_told : (other : IsAnother) (r : Result Ident Refused) → IsLoadAnswer asked (name.Mapping space vpn) b c r
      → (w : Refused) × (r ≡ Err w) × ((w ≡ why.NoMemory) ⊎ (w ≡ why.WrongParent (option_map name.Thread named) (option_map name.Thread other.row.receiver)))
  another_told other (Ok ident) a = absurd (let clash : None ≡ Some (why.WrongParent (option_map name.Thread named) (option_map name.Thread other.row.receiver)) = sym a.done ∙ other.told in cc)
  another_told other (Err w) a = (
    w,
    refl,
    elim (answered w a) [
      | inl wants ↦ inl wants
      | inr tells ↦ inr (same_Some w (why.WrongParent (option_map name.Thread named) (option_map name.Thread other.row.receiver)) (sym tells ∙ other.told))
    ],
  )

  -- a receiver that isn't the row's is told so
  pub another_asked : (row : Row) → row_of (state_of b.machine).rows space vpn.0 ≡ Some row → (named ≡ row.receiver → ⊥) → (r : Result Ident Refused) → IsLoadAnswer asked (name.Mapping space vpn) b c r
      → (w : Refused) × (r ≡ Err w) × ((w ≡ why.NoMemory) ⊎ (w ≡ why.WrongParent (option_map name.Thread named) (option_map name.Thread row.receiver)))
  another_asked row here apart r a = elim (receiver_told b c o owned space reached vpn receiver named given row here) [
    | inl right ↦ absurd (apart right)
    | inr tells ↦ another_told (record { row = row; here = here; told = tells }) r a
  ]

  module _ (right : IsRight) where
    -- what is to be loaded is loaded, or memory is wanted
    pub row_filled : IsFillable b space vpn → (r : Result Ident Refused) → IsLoadAnswer asked (name.Mapping space vpn) b c r → IsGot c (name.Mapping space vpn) r
    row_filled is (Ok ident) a = a.made.there
    row_filled is (Err w) a = elim (answered w a) [
      | inl wants ↦ wants
      | inr tells ↦ absurd (let clash : None ≡ Some w = sym (free_row b c o owned space reached vpn receiver named given is.row is.here (right is.row is.here) is.fit is.plain is.absent) ∙ tells in cc)
    ]

    -- and where nothing is, that is told, or memory is wanted
    nothing_asked : IsUnfillable b space vpn → (w : Refused) × (asked ≡ Some w) × IsNothingToLoad w
    nothing_asked is = elim is [
      | inl none ↦ (why.NotDeclared (name.Mapping space vpn), none_told b c o owned space reached vpn receiver named given none, tt)
      | inr some ↦ elim some [
        | inl unfit ↦ (why.Rights unfit.row.frame (unfit.row.frame.0 / 128), unfit_row b c o owned space reached vpn receiver named given unfit.row unfit.here (right unfit.row unfit.here) unfit.unfit, tt)
        | inr loaded ↦ (why.AlreadyLoaded loaded.ident, loaded_row b c o owned space reached vpn receiver named given loaded.row loaded.here (right loaded.row loaded.here) loaded.ident loaded.live, tt)
      ]
    ]

    pub nothing_told : IsUnfillable b space vpn → (r : Result Ident Refused) → IsLoadAnswer asked (name.Mapping space vpn) b c r → (w : Refused) × (r ≡ Err w) × ((w ≡ why.NoMemory) ⊎ IsNothingToLoad w)
    nothing_told is (Ok ident) a = absurd (nothing_loads 0 b c o owned space vpn ident is a.made)
    nothing_told is (Err w) a =
        let told = nothing_asked is in (
          w,
          refl,
          elim (answered w a) [
            | inl wants ↦ inl wants
            | inr tells ↦ inr (subst IsNothingToLoad (same_Some told.0 w (sym told.1 ∙ tells)) told.2)
          ],
        )
