-- What comes of pages whose row is to be loaded, and of pages of which nothing is.
use Rattle.std.proofs.Common.{◌≡◌, Bool, true, false, Option, Some, None, refl, sym, ap, ◌∙◌, subst, inl, inr}
use Rattle.std.specs.Prelude.{◌/◌, ◌&&◌, ◌||◌, is_some, not, IfErr, IfOk, Ok, Err, Result}
use Rattle.std.specs.Option.{option_and_then, option_map}
use Rattle.std.proofs.lemmas.Option.{same_Some}
use Rattle.cache_ident.specs.declared.idents.Ident.{Ident}
use Rattle.cache_ident.specs.declared.idents.Kind.TheVariants as kind
use Rattle.cache_ident.specs.declared.names.Name.{Name}
use Rattle.cache_ident.specs.declared.names.Name.TheVariants as name
use Rattle.cache_ident.specs.declared.names.SpaceNo.{SpaceNo}
use Rattle.cache_ident.specs.declared.names.ThreadNo.{ThreadNo}
use Rattle.cache_ident.specs.declared.names.Vpn.{Vpn}
use Rattle.cache_ident.specs.Residents.{IsNameResident}
use Rattle.phys_groups.specs.declared.rows.Row.{Row}
use Rattle.phys_groups.specs.Translation.{allows_fetch, row_of}
use Rattle.reach_laws.specs.flat_state.specs.declared.records.FlatThread.{FlatThread}
use Rattle.reach_laws.specs.flat_state.specs.NextSteps.{fetch_row}
use Rattle.reach_laws.specs.flat_state.specs.State.{FlatState}
use Rattle.reach_laws.specs.flat_state.specs.Translation.{is_fit_row, rights_of}
use Rattle.reach_laws.specs.flat_laws.proofs.ShortChains.{goes_through, own_row, IsThrough}
use Rattle.reach_laws.specs.desc_stores.specs.Contents.{residents_of, Contents}
use Rattle.reach_laws.specs.desc_parents.specs.Idents as idents
use Rattle.reach_laws.specs.desc_parents.specs.Seen.{seen}
use Rattle.reach_laws.specs.shown_state.specs.Shown.{shown}
use Rattle.reach_laws.specs.board_ops.specs.declared.refusals.Refused.{Refused}
use Rattle.reach_laws.specs.board_ops.specs.declared.refusals.Refused.TheVariants as why
use Rattle.reach_laws.specs.cached_machine.specs.Cached.{state_of}
use Rattle.reach_laws.specs.board_core.specs.Answers.{IsRefused}
use Rattle.reach_laws.specs.board_core.specs.Core.{contents_of, IsSound, Recorded}
use Rattle.reach_laws.specs.board_core.specs.Growth.{IsRoomMade}
use Rattle.reach_laws.specs.board_checks.specs.Identifiers.{receiver_as, space_as}
use Rattle.reach_laws.specs.board_checks.specs.Refusals.{already_loaded, beyond_rights, refusal_in_space, refusal_of_load_mapping, refusal_of_row, wrong_receiver}
use Rattle.reach_laws.specs.board_loads.specs.Loads.{IsLoadedAs}
use Rattle.reach_laws.specs.owners.specs.Known.{ident_of, Known}
use Rattle.page_laws.specs.Keeping.{BringsNoRow, KeepsRows}
use Rattle.reach_laws.specs.Filling.{IsFillable, IsUnfillable}
use Rattle.reach_laws.specs.Reaching.{IsLoadAnswer, IsOwned, IsPlainLoaded, IsReached}
use Rattle.reach_laws.specs.owner_laws.proofs.Receivers.{map_never}
use Rattle.reach_laws.specs.owner_laws.proofs.Spaces.{stands_for}
use Rattle.reach_laws.specs.owner_laws.proofs.Tests.{first_passes, holds, if_never, not_a_never, not_a_receiver_never, not_declared_never, not_owned_never, IsLater}
use Rattle.reach_laws.proofs.Filling.{nothing_loads, unfillable_where}
use Rattle.reach_laws.proofs.Keeping.{reached_after, reached_still, row_far, row_further}
use Rattle.reach_laws.proofs.Showing.{formed}
use Rattle.reach_laws.proofs.Telling.{loaded_fit, space_noted, told_message}

-- ---- pages stay as they are

pub fillable_kept : (b c : Recorded) (space : SpaceNo) (vpn : Vpn) → state_of c.machine ≡ state_of b.machine → BringsNoRow b c → IsFillable b space vpn → IsFillable c space vpn
fillable_kept b c space vpn same none is = record {
  row = is.row;
  here = ap (λ (s : FlatState). row_of s.rows space vpn.0) same ∙ is.here;
  fit = ap (λ (s : FlatState). is_fit_row s is.row) same ∙ is.fit;
  plain = is.plain;
  absent = none space vpn is.absent;
}

pub unfillable_kept : (b c : Recorded) (space : SpaceNo) (vpn : Vpn) → state_of c.machine ≡ state_of b.machine → KeepsRows space b c → IsUnfillable b space vpn → IsUnfillable c space vpn
unfillable_kept b c space vpn same keeps is = unfillable_where b c space vpn same (keeps.plain vpn) is

-- ---- signal rows are wanted only where all else passes

module _ (c : Contents) (other : SpaceNo) (page : Vpn) where
  abbrev w : Refused
  w = why.ReceiversAbsent other page

  late : IsLater w
  late = record {
    not_unknown = λ i is. absurd (cc);
    not_stale = λ i at is. absurd (cc);
    not_kind = λ i is. absurd (cc);
    not_declared = λ n is. absurd (cc);
    not_owner = λ given its is. absurd (cc);
  }

  receiver_never : (receiver : Option Ident) (row : Row) → wrong_receiver c receiver row ≡ Some w → ⊥
  unfolding wrong_receiver
  receiver_never receiver row tells = if_never _ (why.WrongParent (receiver_as c receiver) (option_map name.Thread row.receiver)) w (λ is. absurd (cc)) tells

  loaded_never : (n : Name) → already_loaded c n ≡ Some w → ⊥
  unfolding already_loaded
  loaded_never n tells = map_never why.AlreadyLoaded (idents.ident_of (residents_of c) n) w (λ i is. absurd (cc)) tells

  rights_never : (row : Row) → beyond_rights c row ≡ Some w → ⊥
  unfolding beyond_rights
  rights_never row tells = if_never (is_fit_row (seen c) row) (why.Rights row.frame (row.frame.0 / 128)) w (λ is. absurd (cc)) tells

  fit_so : (row : Row) → beyond_rights c row ≡ None → is_fit_row (seen c) row ≡ true
  unfolding beyond_rights
  fit_so row passes = holds (is_fit_row (seen c) row) (why.Rights row.frame (row.frame.0 / 128)) passes

  of_row : (caller : Ident) (receiver : Option Ident) (n : Name) (row : Row) → refusal_of_row c caller receiver n row ≡ Some w → is_fit_row (seen c) row ≡ true
  of_row caller receiver n row tells =
      let mine = first_passes _ _ w (not_owned_never c w late caller n) tells in
      let given = first_passes _ _ w (receiver_never receiver row) mine.1 in
      let fresh = first_passes _ _ w (loaded_never n) given.1 in
      fit_so row (first_passes _ _ w (rights_never row) fresh.1).0

module _ (b : Recorded) (o : Known) (owned : IsOwned b o) (caller parent : Ident) (space : SpaceNo) (noted : ident_of o (name.Space space) ≡ Some parent) (vpn : Vpn) (receiver : Option Ident) where
  -- the row is fit
  missing_fit : (other : SpaceNo) (page : Vpn) → refusal_of_load_mapping (contents_of b) caller parent vpn receiver ≡ Some (why.ReceiversAbsent other page) → (row : Row) → row_of (state_of b.machine).rows space vpn.0 ≡ Some row → is_fit_row (state_of b.machine) row ≡ true
  unfolding shown
  missing_fit other page tells row here =
      let c = contents_of b in
      let w = why.ReceiversAbsent other page in
      let is_late = late c other page in
      let kernel = first_passes _ _ w (not_a_never c w is_late kind.Kernel caller) tells in
      let live = first_passes _ _ w (not_a_never c w is_late kind.Space parent) kernel.1 in
      let thread = first_passes _ _ w (not_a_receiver_never c w is_late receiver) live.1 in
      let inside : refusal_in_space c caller receiver vpn space ≡ Some w = ap (option_and_then (refusal_in_space c caller receiver vpn)) (sym (stands_for b o parent space owned.sound owned.are noted live.0)) ∙ thread.1 in
      let there = first_passes _ _ w (not_declared_never c w is_late (name.Mapping space vpn)) inside in
      of_row c other page caller receiver (name.Mapping space vpn) row (ap (option_and_then (refusal_of_row c caller receiver (name.Mapping space vpn))) (sym here) ∙ there.1)

  -- so none are wanted of a page of which nothing is to be loaded
  none_missing : IsUnfillable b space vpn → (other : SpaceNo) (page : Vpn) → refusal_of_load_mapping (contents_of b) caller parent vpn receiver ≡ Some (why.ReceiversAbsent other page) → ⊥
  none_missing is other page tells =
      let message = told_message b o owned caller parent space noted vpn receiver other page tells in
      elim is [
        | inl none ↦ let clash : None ≡ Some message.0 = sym none ∙ message.1 in absurd (cc)
        | inr some ↦ elim some [
          | inl unfit ↦ let clash : false ≡ true = sym unfit.unfit ∙ missing_fit other page tells unfit.row unfit.here in absurd (cc)
          | inr loaded ↦
              let same : loaded.row ≡ message.0 = same_Some loaded.row message.0 (sym loaded.here ∙ message.1) in
              let clash : false ≡ true = sym loaded.plain ∙ ap (λ (x : Row). x.flags.m) same ∙ message.2 in
              absurd (cc)
        ]
      ]

  pub nothing_noted : IsUnfillable b space vpn → (c : Recorded) (r : Result Ident Refused) → IfErr r (IsRefused (refusal_of_load_mapping (contents_of b) caller parent vpn receiver) b c)
      → IfOk r (λ ident. (other : SpaceNo) × (space_as (contents_of b) parent ≡ Some other) × IsLoadedAs 0 (name.Mapping other vpn) ident b c)
      → (w : Refused) × (r ≡ Err w) × IsRoomMade b c × ((other : SpaceNo) (page : Vpn) → w ≡ why.ReceiversAbsent other page → ⊥)
  nothing_noted is c (Ok ident) refused made =
      absurd (nothing_loads 0 b c o owned space vpn ident is (subst (λ (x : SpaceNo). IsLoadedAs 0 (name.Mapping x vpn) ident b c) (space_noted b o owned space parent noted made.0 made.1) made.2))
  nothing_noted is c (Err w) refused made = (
    w,
    refl,
    refused.only,
    λ other page tells. elim refused.why [
      | inl wants ↦ let clash : why.NoMemory ≡ why.ReceiversAbsent other page = sym wants ∙ tells in absurd (cc)
      | inr told ↦ none_missing is other page (told ∙ ap (λ (x : Refused). Some x) tells)
    ],
  )

-- ---- what is reached

pub reached_after_row : (b c : Recorded) (o : Known) → IsOwned b o → (space : SpaceNo) → IsReached b o space → (vpn : Vpn) (refusal : Option Refused) (r : Result Ident Refused) → IsLoadAnswer refusal (name.Mapping space vpn) b c r → IsReached c o space
reached_after_row b c o owned space reached vpn refusal (Err w) a = reached_still b c a.refused.only o space reached
reached_after_row b c o owned space reached vpn refusal (Ok ident) a =
    let fit = loaded_fit b o owned 0 space vpn ident c a.made in
    reached_after refusal (name.Mapping space vpn) b c owned.sound (Ok ident) a o space reached (row_far b space vpn fit.0 fit.1) (row_further b space vpn fit.0 fit.1 reached.kernel reached.its)

-- ---- fetches

fetched : (s : FlatState) (t : FlatThread) (row : Row) → fetch_row s t ≡ Some row → IsThrough s.rows allows_fetch t.space row
fetched s t row goes = goes_through (rights_of s t.space) s.rows allows_fetch t.space t.context.pc row goes

pub fetched_space : (s : FlatState) (t : FlatThread) (row : Row) → fetch_row s t ≡ Some row → row.space ≡ t.space
fetched_space s t row goes = (fetched s t row goes).in_space

-- a row with flag x has neither flag m nor a receiver
neither : (m w x receives : Bool) → ((not m || (w && (not x && not receives))) && (not receives || not x)) ≡ true → x ≡ true → (m ≡ false) × (receives ≡ false)
neither m w false receives agrees is = absurd (cc)
neither false w true false agrees is = (refl, refl)
neither false w true true agrees is = absurd (cc)
neither true false true receives agrees is = absurd (cc)
neither true true true receives agrees is = absurd (cc)

none_of : (o : Option ThreadNo) → is_some o ≡ false → o ≡ None
none_of None is = refl
none_of (Some receiver) is = absurd (cc)

-- so a row that is fetched through, where it is loaded, is a plain one
pub fetched_plain : (b : Recorded) → IsSound b → (t : FlatThread) (row : Row) → fetch_row (state_of b.machine) t ≡ Some row → (space : SpaceNo) → t.space ≡ space → IsNameResident (residents_of (contents_of b)) (name.Mapping space row.vpn) → IsPlainLoaded b space row.vpn
fetched_plain b sound t row goes space its live =
    let s : FlatState = state_of b.machine in
    let is = fetched s t row goes in
    let good = formed b sound in
    let so = neither row.flags.m row.flags.w row.flags.x (is_some row.receiver) (good.rows.each row is.there).flags is.allowed in
    record {
      row = row;
      here = subst (λ (n : SpaceNo). row_of s.rows n row.vpn.0 ≡ Some row) (is.in_space ∙ its) (own_row s good row is.there);
      alone = none_of row.receiver so.1;
      plain = so.0;
      ident = live.0.ident;
      live = (live.0, live.1, refl, live.2);
    }
