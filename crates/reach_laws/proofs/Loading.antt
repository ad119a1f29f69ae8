-- What loads are answered that are asked for by what is reached.
use Rattle.std.proofs.Common.{◌≡◌, ℕ, Bool, true, false, List, Option, Some, None, slice_get, refl, sym, ap, ◌∙◌, subst, inl, inr, ◌⊎◌}
use Rattle.std.specs.Prelude.{◌/◌, ◌==◌, if◌then◌else◌, Ok, Err, Result, IsSome}
use Rattle.std.specs.Option.{option_map, option_or}
use Rattle.std.proofs.lemmas.Bool.{eq-eqb, eqb-true}
use Rattle.std.proofs.lemmas.Option.{same_Some}
use Rattle.cache_ident.proofs.Numbers.{same_space, same_thread}
use Rattle.cache_ident.specs.declared.idents.Ident.{Ident}
use Rattle.cache_ident.specs.declared.names.KernelNo.{KernelNo}
use Rattle.cache_ident.specs.declared.names.Name.{Name}
use Rattle.cache_ident.specs.declared.names.Name.TheVariants as name
use Rattle.cache_ident.specs.declared.names.SpaceNo.{SpaceNo}
use Rattle.cache_ident.specs.declared.names.ThreadNo.{ThreadNo}
use Rattle.cache_ident.specs.declared.names.Vpn.{Vpn}
use Rattle.cache_ident.specs.Residents.{Resident, IsNameResident, IsResident}
use Rattle.phys_groups.specs.declared.rows.Row.{Row}
use Rattle.phys_groups.specs.Translation.{row_of}
use Rattle.board_calls.specs.flat_state.specs.declared.records.FlatKernel.{FlatKernel}
use Rattle.board_calls.specs.flat_state.specs.Names.{is_fit_found, is_fit_name}
use Rattle.board_calls.specs.flat_state.specs.State.{FlatState}
use Rattle.board_calls.specs.flat_state.specs.Translation.{is_fit_row}
use Rattle.board_calls.specs.run_journal.specs.Legal.{first_ident}
use Rattle.board_calls.specs.desc_stores.specs.Contents.{residents_of}
use Rattle.board_calls.specs.desc_stores.specs.Sound.{IsExactlyOne}
use Rattle.board_calls.specs.desc_parents.specs.Seen.{seen}
use Rattle.board_calls.specs.shown_state.specs.Shown.{shown}
use Rattle.board_calls.specs.board_ops.specs.declared.refusals.Refused.{Refused}
use Rattle.board_calls.specs.board_ops.specs.declared.refusals.Refused.TheVariants as why
use Rattle.board_calls.specs.cached_machine.specs.Cached.{state_of}
use Rattle.board_calls.specs.board_core.specs.Answers.{IsRefused}
use Rattle.board_calls.specs.board_core.specs.Core.{contents_of, Recorded}
use Rattle.board_calls.specs.board_core.proofs.RoomLaws.{same_residents}
use Rattle.board_calls.specs.board_checks.specs.Refusals.{already_loaded, beyond_rights, not_owner, receivers_absent, refusal_of_load_kernel, refusal_of_load_mapping, refusal_of_load_space, refusal_of_load_thread, wrong_parent}
use Rattle.board_calls.specs.board_checks.proofs.LoadLemmas.{absent_tested}
use Rattle.owner_laws.specs.answer_laws.specs.Given.{IsGiven}
use Rattle.owner_laws.specs.answer_laws.proofs.LoadAnswers.{absent, kernel_right, no_row_answers, plain_passes, row_answers, row_right, space_right, thread_answers, thread_right, told, unfit_told, fit_passes}
use Rattle.owner_laws.specs.answer_laws.proofs.Passing.{owns_itself, skip}
use Rattle.owner_laws.specs.owners.specs.Known.{home_of, Known}
use Rattle.owner_laws.specs.owners.specs.Owning.{IsThreadOf}
use Rattle.reach_laws.specs.Reaching.{loaded_as, IsGot, IsLoadAnswer, IsOwned, IsReached}
use Rattle.reach_laws.specs.Searching.{space_told, IsNearer}
use Rattle.reach_laws.proofs.Keeping.{live_after, reached_after, row_far, row_further, space_far, thread_far, thread_further}
use Rattle.reach_laws.proofs.Owning.{first_live, spaces_known}
use Rattle.reach_laws.proofs.Showing.{shows, thread_there}

same_kernel : (a b : KernelNo) → a.0 ≡ b.0 → a ≡ b
same_kernel a b e = ap (λ (n : ℕ). let x : KernelNo = record { 0 = n } in x) e

or_none : (o : Option Refused) → option_or o None ≡ o
or_none None = refl
or_none (Some w) = refl

some_there : {X : Type 0} (o : Option X) → IsSome o → (x : X) × (o ≡ Some x)
some_there None there = absurd (cc)
some_there (Some x) there = (x, refl)

-- ---- what is refused only where it is loaded

module _ (b c : Recorded) (n : Name) where
  refused_got : (w : Refused) → IsRefused (already_loaded (contents_of b) n) b c w → IsGot c n (loaded_as (Err w))
  refused_got w is = elim is.why [
    | inl wants ↦ subst (λ (x : Refused). IsGot c n (loaded_as (Err x))) (sym wants) refl
    | inr tells ↦
        let t = told (contents_of b) n w tells in
        let live : IsResident (residents_of (contents_of c)) t.0 n = subst (λ (rs : List Resident). IsResident rs t.0 n) (sym (same_residents b c is.only)) t.2 in
        subst (λ (x : Refused). IsGot c n (loaded_as (Err x))) (sym t.1) live
  ]

  pub got : (refusal : Option Refused) → refusal ≡ already_loaded (contents_of b) n → (r : Result Ident Refused) → IsLoadAnswer refusal n b c r → IsGot c n (loaded_as r)
  got refusal is (Ok ident) a = a.made.there
  got refusal is (Err w) a = refused_got w (subst (λ (o : Option Refused). IsRefused o b c w) is a.refused)

-- ---- kernels and spaces

module _ (b c : Recorded) (o : Known) (owned : IsOwned b o) where
  one_now : IsExactlyOne (contents_of b)
  one_now = owned.sound.tables.1.whole.one

  pub kernel_got : (kernel : KernelNo) (k : FlatKernel) → slice_get (state_of b.machine).kernels kernel.0 ≡ Some k → (r : Result Ident Refused)
      → IsLoadAnswer (refusal_of_load_kernel (contents_of b) first_ident kernel) (name.Kernel kernel) b c r → IsGot c (name.Kernel kernel) (loaded_as r)
  unfolding shown
  kernel_got kernel k here r a =
      got b c (name.Kernel kernel) (refusal_of_load_kernel (contents_of b) first_ident kernel)
      (kernel_right (contents_of b) one_now first_ident kernel k (first_live b o owned) here) r a

  pub space_got : (space : SpaceNo) (kernel : KernelNo) (caller : Ident) → slice_get (state_of b.machine).spaces space.0 ≡ Some kernel → IsResident (residents_of (contents_of b)) caller (name.Kernel kernel) → (r : Result Ident Refused)
      → IsLoadAnswer (refusal_of_load_space (contents_of b) caller space) (name.Space space) b c r
      → IsGot c (name.Space space) (loaded_as r) × IsResident (residents_of (contents_of c)) caller (name.Kernel kernel)
  unfolding shown
  space_got space kernel caller its live r a = (
    got b c (name.Space space) (refusal_of_load_space (contents_of b) caller space) (space_right (contents_of b) one_now caller kernel space live its) r a,
    live_after (refusal_of_load_space (contents_of b) caller space) (name.Space space) b c owned.sound r a caller (name.Kernel kernel) live (space_far b space kernel its),
  )

  -- ---- threads

  module _ (space : SpaceNo) (reached : IsReached b o space) (thread : ThreadNo) (r : Result Ident Refused)
      (a : IsLoadAnswer (refusal_of_load_thread (contents_of b) reached.caller reached.parent thread) (name.Thread thread) b c r) where
    abbrev asked : Option Refused
    asked = refusal_of_load_thread (contents_of b) reached.caller reached.parent thread

    -- of the space that is reached
    pub thread_got : IsThreadOf (state_of b.machine) space thread → IsGot c (name.Thread thread) (loaded_as r) × IsReached c o space
    unfolding shown
    thread_got is =
        let t = thread_there (state_of b.machine) space thread is in
        let parent : IsResident (residents_of (contents_of b)) reached.parent (name.Space t.0.space) = subst (λ (x : SpaceNo). IsResident (residents_of (contents_of b)) reached.parent (name.Space x)) (sym t.2) reached.parent_live in
        let its : slice_get (state_of b.machine).spaces t.0.space.0 ≡ Some reached.kernel = ap (λ (x : SpaceNo). slice_get (state_of b.machine).spaces x.0) t.2 ∙ reached.its in (
          got b c (name.Thread thread) asked (thread_right (contents_of b) one_now reached.caller reached.parent reached.kernel thread t.0 reached.caller_live parent t.1 its) r a,
          reached_after asked (name.Thread thread) b c owned.sound r a o space reached (thread_far b space thread is) (thread_further b space thread is reached.kernel reached.its),
        )

    -- ---- a thread of any space, which owners look for

    module _ (its : SpaceNo) (is : IsThreadOf (state_of b.machine) its thread) (k : KernelNo) (of : slice_get (state_of b.machine).spaces its.0 ≡ Some k) where
      tested : asked ≡ option_or (not_owner reached.kernel k) (option_or (wrong_parent (Some (name.Space space)) (Some (name.Space its))) (already_loaded (contents_of b) (name.Thread thread)))
      unfolding shown
      tested =
          let t = thread_there (state_of b.machine) its thread is in
          let of_its : slice_get (state_of b.machine).spaces t.0.space.0 ≡ Some k = ap (λ (x : SpaceNo). slice_get (state_of b.machine).spaces x.0) t.2 ∙ of in
          thread_answers (contents_of b) one_now reached.caller reached.parent reached.kernel k space thread t.0 reached.caller_live reached.parent_live t.1 of_its
          ∙ ap (λ (x : SpaceNo). option_or (not_owner reached.kernel k) (option_or (wrong_parent (Some (name.Space space)) (Some (name.Space x))) (already_loaded (contents_of b) (name.Thread thread)))) t.2

      -- it is refused for another kernel, or another space of this one, or it is of the space
      abbrev IsOfAnother : Type 0
      IsOfAnother = ((reached.kernel ≡ k → ⊥) × (asked ≡ Some (why.NotOwner reached.kernel k))) ⊎ ((reached.kernel ≡ k) × (asked ≡ Some (why.WrongParent (Some (name.Space space)) (Some (name.Space its)))))

      which : IsOfAnother ⊎ (space ≡ its)
      which = by (reached.kernel.0 == k.0) refl (space.0 == its.0) refl
        where
          by : (x : Bool) → (reached.kernel.0 == k.0) ≡ x → (y : Bool) → (space.0 == its.0) ≡ y → IsOfAnother ⊎ (space ≡ its)
          by false other y _ = inl (inl (
            λ same. absurd (let equal : (reached.kernel.0 == k.0) ≡ true = eq-eqb reached.kernel.0 k.0 (ap (λ (n : KernelNo). n.0) same) in cc),
            tested ∙ ap (λ (x : Bool). option_or (if x then None else Some (why.NotOwner reached.kernel k)) (option_or (wrong_parent (Some (name.Space space)) (Some (name.Space its))) (already_loaded (contents_of b) (name.Thread thread)))) other,
          ))
          by true same true here = inr (same_space space its (eqb-true space.0 its.0 here))
          by true same false there = inl (inr (
            same_kernel reached.kernel k (eqb-true reached.kernel.0 k.0 same),
            tested
                ∙ ap (λ (x : Bool). option_or (if x then None else Some (why.NotOwner reached.kernel k)) (option_or (wrong_parent (Some (name.Space space)) (Some (name.Space its))) (already_loaded (contents_of b) (name.Thread thread)))) same
                ∙ ap (λ (x : Bool). option_or (if x then None else Some (why.WrongParent (Some (name.Space space)) (Some (name.Space its)))) (already_loaded (contents_of b) (name.Thread thread))) there,
          ))

      -- no load is done, nor told as done, of a thread of another space
      another_never : IsOfAnother → (r : Result Ident Refused) → IsLoadAnswer asked (name.Thread thread) b c r → (ident : Ident) → loaded_as r ≡ Ok ident → ⊥
      another_never (inl kernel) (Ok i) a ident got = let none = a.done in let some = kernel.1 in cc
      another_never (inr other) (Ok i) a ident got = let none = a.done in let some = other.1 in cc
      another_never other (Err w) a ident got = elim a.refused.why [
        | inl wants ↦ let is : Err why.NoMemory ≡ Ok ident = sym (ap (λ (x : Refused). loaded_as (Err x)) wants) ∙ got in absurd (cc)
        | inr tells ↦ elim other [
          | inl kernel ↦ let is : Err (why.NotOwner reached.kernel k) ≡ Ok ident = ap (λ (x : Refused). loaded_as (Err x)) (same_Some (why.NotOwner reached.kernel k) w (sym kernel.1 ∙ tells)) ∙ got in absurd (cc)
          | inr space_too ↦ let is : Err (why.WrongParent (Some (name.Space space)) (Some (name.Space its))) ≡ Ok ident = ap (λ (x : Refused). loaded_as (Err x)) (same_Some (why.WrongParent (Some (name.Space space)) (Some (name.Space its))) w (sym space_too.1 ∙ tells)) ∙ got in absurd (cc)
        ]
      ]

      -- so whoever gets it asked by its space
      pub space_is : (ident : Ident) → loaded_as r ≡ Ok ident → its ≡ space
      space_is ident got = elim which [
        | inl other ↦ absurd (another_never other r a ident got)
        | inr same ↦ sym same
      ]

      -- .. and whoever doesn't is told of a space that is nearer, or wants memory
      abbrev IsTold : Refused → Type 0
      IsTold w = (w ≡ why.NoMemory) ⊎ ((next : SpaceNo) × (space_told o w ≡ Some next) × IsNearer o its space next)

      kernels_known : (n : SpaceNo) (kernel : KernelNo) → slice_get (state_of b.machine).spaces n.0 ≡ Some kernel → slice_get o.spaces n.0 ≡ Some kernel
      kernels_known n kernel there = ap (λ (ks : List KernelNo). slice_get ks n.0) (spaces_known b o owned) ∙ there

      by_kernel : (reached.kernel ≡ k → ⊥) → IsTold (why.NotOwner reached.kernel k)
      by_kernel apart =
          let home = some_there (home_of o k) (owned.are.housed its.0 k (ap (λ (s : FlatState). slice_get s.spaces its.0) (shows b owned.sound) ∙ of)) in
          let owns : slice_get o.spaces home.0.0 ≡ Some k = ap (λ (ks : List KernelNo). slice_get ks home.0.0) owned.are.spaces ∙ owned.are.homes k home.0 home.1 in
          inr (
            home.0,
            home.1,
            record {
              kernel = owns ∙ sym (kernels_known its k of);
              space = λ same. absurd (apart (same_Some reached.kernel k (sym (kernels_known space reached.kernel reached.its) ∙ same ∙ kernels_known its k of)));
            },
          )

      by_space : IsTold (why.WrongParent (Some (name.Space space)) (Some (name.Space its)))
      by_space = inr (its, refl, record { kernel = refl; space = λ same. refl })

      told_so : IsOfAnother → (r : Result Ident Refused) → IsLoadAnswer asked (name.Thread thread) b c r → (w : Refused) → loaded_as r ≡ Err w → IsTold w
      told_so other (Ok ident) a w is = absurd (cc)
      told_so other (Err v) a w is = elim a.refused.why [
        | inl wants ↦ let same : Err why.NoMemory ≡ Err w = ap (λ (x : Refused). loaded_as (Err x)) (sym wants) ∙ is in inl (cc)
        | inr tells ↦ elim other [
          | inl kernel ↦
              let same : Err (why.NotOwner reached.kernel k) ≡ Err w = ap (λ (x : Refused). loaded_as (Err x)) (same_Some (why.NotOwner reached.kernel k) v (sym kernel.1 ∙ tells)) ∙ is in
              let one : why.NotOwner reached.kernel k ≡ w = cc in
              subst IsTold one (by_kernel kernel.0)
          | inr space_too ↦
              let same : Err (why.WrongParent (Some (name.Space space)) (Some (name.Space its))) ≡ Err w = ap (λ (x : Refused). loaded_as (Err x)) (same_Some (why.WrongParent (Some (name.Space space)) (Some (name.Space its))) v (sym space_too.1 ∙ tells)) ∙ is in
              let one : why.WrongParent (Some (name.Space space)) (Some (name.Space its)) ≡ w = cc in
              subst IsTold one by_space
        ]
      ]

      pub space_is_told : (w : Refused) → loaded_as r ≡ Err w → IsTold w
      space_is_told w refused = elim which [
        | inl other ↦ told_so other r a w refused
        | inr same ↦
            let mine : IsThreadOf (state_of b.machine) space thread = subst (λ (x : SpaceNo). IsThreadOf (state_of b.machine) x thread) (sym same) is in
            inl (subst (IsGot c (name.Thread thread)) refused (thread_got mine).0)
      ]

  -- ---- rows

  module _ (space : SpaceNo) (reached : IsReached b o space) (vpn : Vpn) (receiver : Option Ident) (named : Option ThreadNo) (given : IsGiven (contents_of b) receiver named) where
    abbrev for_row : Option Refused
    for_row = refusal_of_load_mapping (contents_of b) reached.caller reached.parent vpn receiver

    -- there is none
    pub none_told : row_of (state_of b.machine).rows space vpn.0 ≡ None → for_row ≡ Some (why.NotDeclared (name.Mapping space vpn))
    unfolding shown
    none_told none = no_row_answers (contents_of b) one_now reached.caller reached.parent receiver reached.kernel space named vpn reached.caller_live reached.parent_live given none

    module _ (row : Row) (here : row_of (state_of b.machine).rows space vpn.0 ≡ Some row) where
      pub row_tested : for_row
          ≡ option_or (wrong_parent (option_map name.Thread named) (option_map name.Thread row.receiver)) (option_or (already_loaded (contents_of b) (name.Mapping space vpn)) (option_or (beyond_rights (contents_of b) row) (receivers_absent (contents_of b) row)))
      unfolding shown
      row_tested =
          row_answers (contents_of b) one_now reached.caller reached.parent receiver reached.kernel reached.kernel space named vpn row reached.caller_live reached.parent_live given reached.its here
          ∙ skip _ _ _ (owns_itself reached.kernel) refl

      -- its receiver was given, or it is told
      pub receiver_told : (named ≡ row.receiver) ⊎ (for_row ≡ Some (why.WrongParent (option_map name.Thread named) (option_map name.Thread row.receiver)))
      receiver_told = by named row.receiver (λ tells. row_tested ∙ ap (λ (x : Option Refused). option_or x (option_or (already_loaded (contents_of b) (name.Mapping space vpn)) (option_or (beyond_rights (contents_of b) row) (receivers_absent (contents_of b) row)))) tells)
        where
          Told : Option ThreadNo → Option ThreadNo → Type 0
          Told x y = (wrong_parent (option_map name.Thread x) (option_map name.Thread y) ≡ Some (why.WrongParent (option_map name.Thread x) (option_map name.Thread y))) → for_row ≡ Some (why.WrongParent (option_map name.Thread x) (option_map name.Thread y))

          by_number : (x y : ThreadNo) (t : Bool) → (x.0 == y.0) ≡ t → Told (Some x) (Some y) → (Some x ≡ Some y) ⊎ (for_row ≡ Some (why.WrongParent (Some (name.Thread x)) (Some (name.Thread y))))
          by_number x y true same tells = inl (ap (λ (z : ThreadNo). Some z) (same_thread x y (eqb-true x.0 y.0 same)))
          by_number x y false other tells = inr (tells (ap (λ (t : Bool). if t then None else Some (why.WrongParent (Some (name.Thread x)) (Some (name.Thread y)))) other))

          by : (x y : Option ThreadNo) → Told x y → (x ≡ y) ⊎ (for_row ≡ Some (why.WrongParent (option_map name.Thread x) (option_map name.Thread y)))
          by None None tells = inl refl
          by None (Some y) tells = inr (tells refl)
          by (Some x) None tells = inr (tells refl)
          by (Some x) (Some y) tells = by_number x y (x.0 == y.0) refl tells

      module _ (right : named ≡ row.receiver) where
        row_asked : for_row ≡ option_or (already_loaded (contents_of b) (name.Mapping space vpn)) (option_or (beyond_rights (contents_of b) row) (receivers_absent (contents_of b) row))
        unfolding shown
        row_asked = row_right (contents_of b) one_now reached.caller reached.parent receiver reached.kernel space vpn row reached.caller_live reached.parent_live (subst (IsGiven (contents_of b) receiver) right given) reached.its here

        -- a row that isn't fit is told so
        pub unfit_row : is_fit_row (state_of b.machine) row ≡ false → for_row ≡ Some (why.Rights row.frame (row.frame.0 / 128))
        unfolding shown is_fit_name
        unfit_row unfit =
            let never : IsNameResident (residents_of (contents_of b)) (name.Mapping space vpn) → ⊥ = λ r.
            let fit : is_fit_name (seen (contents_of b)) (name.Mapping space vpn) ≡ true = subst (λ (n : Name). is_fit_name (seen (contents_of b)) n ≡ true) r.2 (owned.sound.tables.1.whole.good r.0 r.1).fit in
            let clash : false ≡ true = sym unfit ∙ sym (ap (is_fit_found (seen (contents_of b))) here) ∙ fit in
            cc in
            row_asked
            ∙ skip _ _ _ (absent (contents_of b) (name.Mapping space vpn) never)
            (ap (λ (x : Option Refused). option_or x (receivers_absent (contents_of b) row)) (unfit_told (contents_of b) row unfit))

        -- a loaded one too
        pub loaded_row : (ident : Ident) → IsResident (residents_of (contents_of b)) ident (name.Mapping space vpn) → for_row ≡ Some (why.AlreadyLoaded ident)
        loaded_row ident live =
            row_asked
            ∙ ap (λ (x : Option Refused). option_or x (option_or (beyond_rights (contents_of b) row) (receivers_absent (contents_of b) row))) (sym (absent_tested (contents_of b) one_now (name.Mapping space vpn) (Some ident) live tt))

        -- one that is fit, no message row and not loaded isn't refused
        pub free_row : is_fit_row (state_of b.machine) row ≡ true → row.flags.m ≡ false → (IsNameResident (residents_of (contents_of b)) (name.Mapping space vpn) → ⊥) → for_row ≡ None
        unfolding shown
        free_row fit plain never = row_asked ∙ skip _ _ _ (absent (contents_of b) (name.Mapping space vpn) never) (skip _ _ _ (fit_passes (contents_of b) row fit) (plain_passes (contents_of b) row plain))

        -- one that is fit, and no message row, is loaded, or memory is wanted
        pub row_got : is_fit_row (state_of b.machine) row ≡ true → row.flags.m ≡ false → (r : Result Ident Refused) → IsLoadAnswer for_row (name.Mapping space vpn) b c r → IsGot c (name.Mapping space vpn) (loaded_as r)
        unfolding shown
        row_got fit plain r a =
            let only : option_or (beyond_rights (contents_of b) row) (receivers_absent (contents_of b) row) ≡ None = skip _ _ _ (fit_passes (contents_of b) row fit) (plain_passes (contents_of b) row plain) in
            got b c (name.Mapping space vpn) for_row (row_asked ∙ ap (option_or (already_loaded (contents_of b) (name.Mapping space vpn))) only ∙ or_none (already_loaded (contents_of b) (name.Mapping space vpn))) r a

      -- whatever is answered, the space is reached still
      pub row_keeps : (r : Result Ident Refused) → IsLoadAnswer for_row (name.Mapping space vpn) b c r → IsReached c o space
      row_keeps r a = reached_after for_row (name.Mapping space vpn) b c owned.sound r a o space reached (row_far b space vpn row here) (row_further b space vpn row here reached.kernel reached.its)
