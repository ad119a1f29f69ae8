-- What stays good depends on the same, and has the same owner, frame and class.
use Rattle.std.proofs.Common.{◌≡◌, ◌↔◌, ℕ, ◌<◌, Bool, true, false, List, [], ◌∷◌, map, filter, length, Option, Some, None, is_some, slice_get, Contains, refl, ap, ap₂, sym, ◌∙◌, subst, inl, inr, arith}
use Rattle.std.specs.Prelude.{if◌then◌else◌, ◌==◌, ◌&&◌, option_to_list, nat_lt}
use Rattle.std.specs.Option.{option_map}
use Rattle.std.proofs.lemmas.Bool.{and_parts, and_from}
use Rattle.std.proofs.lemmas.Bool.Decides.{nat_tests}
use Rattle.std.proofs.lemmas.Option.{slice_get_within}
use Rattle.std.proofs.lemmas.List.Elements.{Contains-append_cases, Contains-append_left, Contains-append_right}
use Rattle.cache_ident.specs.declared.names.KernelNo.{KernelNo}
use Rattle.cache_ident.specs.declared.names.Name.{Name}
use Rattle.cache_ident.specs.declared.names.Name.TheVariants.{Kernel, Space, Thread, Mapping}
use Rattle.cache_ident.specs.declared.names.SpaceNo.{SpaceNo}
use Rattle.cache_ident.specs.declared.names.ThreadNo.{ThreadNo}
use Rattle.cache_ident.specs.Residents.{Resident}
use Rattle.phys_groups.specs.declared.rows.Row.{Row}
use Rattle.phys_groups.specs.Rows.{row_name}
use Rattle.phys_groups.specs.Translation.{is_row_of, row_of}
use Rattle.run_journal.specs.signal_pages.specs.Signals.{is_signal_row_of}
use Rattle.run_journal.specs.flat_state.specs.declared.events.Event.{Event}
use Rattle.run_journal.specs.flat_state.specs.declared.records.FlatThread.{FlatThread}
use Rattle.run_journal.specs.flat_state.specs.State.{FlatState}
use Rattle.run_journal.specs.flat_state.specs.Translation.{is_fit_row}
use Rattle.run_journal.specs.flat_state.specs.Dependence.{signal_rows_of, parents_of_row, parents_of_found, parents, Depends, owner_of_thread, owner_of_row, owner}
use Rattle.run_journal.specs.flat_state.specs.Names.{stands, is_fit_found, is_fit_name, class_by, class_of_row, class_of}
use Rattle.run_journal.specs.flat_state.specs.WellFormed.{IsWellFormed}
use Rattle.run_journal.specs.flat_state.specs.Events.{applied}
use Rattle.run_journal.specs.flat_state.proofs.Finding.{find-contains}
use Rattle.run_journal.specs.flat_state.proofs.FormedEvents.{applied_formed}
use Rattle.run_journal.specs.flat_laws.specs.Rows.{IsButForBits}
use Rattle.run_journal.specs.flat_laws.proofs.EventKeeps.{Keeps, event_keeps}
use Rattle.run_journal.specs.flat_laws.proofs.Members.{contains_nothing, Contains-here, Contains-behind, Contains-cases, Contains-filter, Contains-map, Contains-from_map}
use Rattle.run_journal.specs.flat_laws.proofs.ShortChains.{own_row}
use Rattle.run_journal.specs.flat_laws.proofs.ParentLaws.{there_is}
use Rattle.run_journal.proofs.Others.{Contains-from_filter}
use Rattle.run_journal.specs.Legal.{AreGood}
use Rattle.journal_laws.specs.Touching.{frame_of}

abbrev kernel_zero : KernelNo
kernel_zero = record { 0 = 0 }

test_below : (m n : ℕ) → m < n → nat_lt m n ≡ true
test_below m n lt = grind (arith, nat_tests)

is_below : {X : Type 0} (xs : List X) (n : ℕ) → is_some (slice_get xs n) ≡ true → nat_lt n (length xs) ≡ true
is_below {X = X} xs n some = by (slice_get xs n) refl some
  where
    by : (o : Option X) → slice_get xs n ≡ o → is_some o ≡ true → nat_lt n (length xs) ≡ true
    by None here some = absurd (cc)
    by (Some x) here some = test_below n (length xs) (slice_get_within xs n x here)

-- of one name, and alike in all that counts here
record AreAlike (x y : Row) : Type 0 where
  space : x.space ≡ y.space
  name : row_name x ≡ row_name y
  frame : x.frame ≡ y.frame
  message : x.flags.m ≡ y.flags.m
  receiver : x.receiver ≡ y.receiver

alike_bits : (x y : Row) → IsButForBits x y → AreAlike x y
alike_bits x y same = record {
  space = sym (ap (λ (r : Row). r.space) same);
  name = sym (ap row_name same);
  frame = sym (ap (λ (r : Row). r.frame) same);
  message = sym (ap (λ (r : Row). r.flags.m) same);
  receiver = sym (ap (λ (r : Row). r.receiver) same);
}

turned : (x y : Row) → AreAlike x y → AreAlike y x
turned x y alike = record { space = sym alike.space; name = sym alike.name; frame = sym alike.frame; message = sym alike.message; receiver = sym alike.receiver }

module _
    (a b : FlatState)
    (formed : IsWellFormed a)
    (alike : (space : SpaceNo) (vpn : ℕ) (x y : Row) → row_of a.rows space vpn ≡ Some x → row_of b.rows space vpn ≡ Some y → AreAlike x y)
    (rs : List Resident)
    (good : AreGood b rs)
  where
    -- a signal row that is resident is one of the other state too
    signal_there : (x y q : Row) → AreAlike x y → Contains (signal_rows_of a x) q → (o : Resident) → Contains rs o → o.name ≡ row_name q → (p : Row) × Contains (signal_rows_of b y) p × (row_name p ≡ row_name q)
    unfolding stands is_fit_name
    signal_there x y q same signal o o_there named =
        let its = good o o_there in
        by x.flags.m refl signal (row_of b.rows q.space q.vpn.0) refl (subst (λ (n : Name). stands b n ≡ true) named its.there) (subst (λ (n : Name). is_fit_name b n ≡ true) named its.fit)
      where
        by : (m : Bool) → x.flags.m ≡ m → Contains (if m then filter (λ other. is_signal_row_of x.frame other && is_fit_row a other) a.rows else []) q
            → (found : Option Row) → row_of b.rows q.space q.vpn.0 ≡ found → is_some found ≡ true → is_fit_found b found ≡ true
            → (p : Row) × Contains (signal_rows_of b y) p × (row_name p ≡ row_name q)
        by false is there found here some fit = absurd (contains_nothing q there)
        by true is there None here some fit = absurd (cc)
        by true is there (Some p) here some fit =
            let kept = Contains-filter (λ other. is_signal_row_of x.frame other && is_fit_row a other) a.rows q there in
            let parts = and_parts (is_signal_row_of x.frame q) (is_fit_row a q) kept.1 in
            let pair = alike q.space q.vpn.0 q p (own_row a formed q kept.0) here in
            let signals : is_signal_row_of y.frame p ≡ true =
            sym (ap₂ (λ f g. f.0 == g.0 && is_some p.receiver) pair.frame same.frame)
            ∙ sym (ap (λ r. (q.frame.0 == x.frame.0) && is_some r) pair.receiver) ∙ parts.0 in
            let whole = Contains-from_filter (λ other. is_signal_row_of y.frame other && is_fit_row b other) b.rows p (find-contains (is_row_of q.space q.vpn.0) b.rows p here) (and_from (is_signal_row_of y.frame p) (is_fit_row b p) signals fit) in
            (p, subst (λ (m : Bool). Contains (if m then filter (λ other. is_signal_row_of y.frame other && is_fit_row b other) b.rows else []) p) (sym is ∙ same.message) whole, sym pair.name)

    -- what a row depends on in the one state it depends on in the other
    row_depends : (x y : Row) → AreAlike x y → (parent : Name) → ((o : Resident) × Contains rs o × (o.name ≡ parent)) → Contains (parents_of_row a x) parent → Contains (parents_of_row b y) parent
    row_depends x y same parent resident there = elim (Contains-cases (Space x.space) _ parent there) [
      | inl first ↦ subst (λ (n : Name). Contains (parents_of_row b y) n) (ap Space (sym same.space) ∙ first) (Contains-here (Space y.space) _)
      | inr behind ↦ elim (Contains-append_cases (option_to_list (option_map Thread x.receiver)) (map row_name (signal_rows_of a x)) parent behind) [
        | inl receiver ↦
            Contains-behind (Space y.space) _ parent (Contains-append_left (option_to_list (option_map Thread y.receiver)) (map row_name (signal_rows_of b y)) parent (subst (λ (o : Option ThreadNo). Contains (option_to_list (option_map Thread o)) parent) same.receiver receiver))
        | inr signal ↦
            let from = Contains-from_map row_name (signal_rows_of a x) parent signal in
            let stays = signal_there x y from.0 same from.1 resident.0 resident.1 (resident.2 ∙ sym from.2) in
            Contains-behind (Space y.space) _ parent (Contains-append_right (option_to_list (option_map Thread y.receiver)) (map row_name (signal_rows_of b y)) parent
            (subst (λ (n : Name). Contains (map row_name (signal_rows_of b y)) n) (stays.2 ∙ from.2) (Contains-map row_name (signal_rows_of b y) stays.0 stays.1)))
      ]
    ]

module _ (s : FlatState) (e : Event) (formed : IsWellFormed s) where
  abbrev u : FlatState
  u = applied s e

  keeps : Keeps s u
  keeps = event_keeps s e

  forth : (space : SpaceNo) (vpn : ℕ) (x y : Row) → row_of s.rows space vpn ≡ Some x → row_of u.rows space vpn ≡ Some y → AreAlike x y
  forth space vpn x y here there = alike_bits x y (keeps.rows space vpn x y here there)

  back : (space : SpaceNo) (vpn : ℕ) (y x : Row) → row_of u.rows space vpn ≡ Some y → row_of s.rows space vpn ≡ Some x → AreAlike y x
  back space vpn y x there here = turned x y (forth space vpn x y here there)

  -- what stands in both states depends on the same, where all of that is good in both
  name_depends : (rs : List Resident) → AreGood s rs → AreGood u rs → (r : Resident) → Contains rs r → (parent : Name) → Depends u r.name parent ↔ Depends s r.name parent
  unfolding parents stands
  name_depends rs good_s good_u r r_there parent = by r.name refl
    where
      by_row : (space : SpaceNo) (vpn : ℕ) (o p : Option Row) → row_of s.rows space vpn ≡ o → row_of u.rows space vpn ≡ p → is_some o ≡ true → is_some p ≡ true
          → (Contains (parents_of_found s o) parent → (x : Resident) × Contains rs x × (x.name ≡ parent)) → (Contains (parents_of_found u p) parent → (x : Resident) × Contains rs x × (x.name ≡ parent))
          → Contains (parents_of_found u p) parent ↔ Contains (parents_of_found s o) parent
      by_row space vpn None p here there some_s some_u known_s known_u = absurd (cc)
      by_row space vpn (Some x) None here there some_s some_u known_s known_u = absurd (cc)
      by_row space vpn (Some x) (Some y) here there some_s some_u known_s known_u = (
        λ depends. row_depends u s (applied_formed s e formed) back rs good_s y x (back space vpn y x there here) parent (known_u depends) depends,
        λ depends. row_depends s u formed forth rs good_u x y (forth space vpn x y here there) parent (known_s depends) depends,
      )

      by_space : (o : Option KernelNo) (space : SpaceNo) → slice_get s.spaces space.0 ≡ o → is_some o ≡ true → parents u (Space space) ≡ parents s (Space space)
      by_space None space here some = absurd (cc)
      by_space (Some kernel) space here some = ap (λ o. option_to_list (option_map Kernel o)) (keeps.spaces space.0 kernel here ∙ sym here)

      by_thread : (o : Option FlatThread) (thread : ThreadNo) → slice_get s.threads thread.0 ≡ o → is_some o ≡ true → parents u (Thread thread) ≡ parents s (Thread thread)
      by_thread None thread here some = absurd (cc)
      by_thread (Some t) thread here some =
          let now = keeps.threads.kept thread.0 t here in
          ap (λ o. option_to_list (option_map (λ (t : FlatThread). Space t.space) o)) now.1 ∙ ap (λ (n : SpaceNo). Space n ∷ []) now.2 ∙ sym (ap (λ o. option_to_list (option_map (λ (t : FlatThread). Space t.space) o)) here)

      same : (x y : List Name) → x ≡ y → Contains x parent ↔ Contains y parent
      same x y is = (λ there. subst (λ (ps : List Name). Contains ps parent) is there, λ there. subst (λ (ps : List Name). Contains ps parent) (sym is) there)

      by : (name : Name) → r.name ≡ name → Depends u name parent ↔ Depends s name parent
      by (Kernel kernel) is = (λ there. there, λ there. there)
      by (Space space) is = same _ _ (by_space (slice_get s.spaces space.0) space refl (subst (λ (n : Name). stands s n ≡ true) is (good_s r r_there).there))
      by (Thread thread) is = same _ _ (by_thread (slice_get s.threads thread.0) thread refl (subst (λ (n : Name). stands s n ≡ true) is (good_s r r_there).there))
      by (Mapping space vpn) is =
          by_row space vpn.0 (row_of s.rows space vpn.0) (row_of u.rows space vpn.0) refl refl
          (subst (λ (n : Name). stands s n ≡ true) is (good_s r r_there).there) (subst (λ (n : Name). stands u n ≡ true) is (good_u r r_there).there)
          (λ depends. (good_s r r_there).parents parent (subst (λ (n : Name). Depends s n parent) (sym is) depends))
          (λ depends. (good_u r r_there).parents parent (subst (λ (n : Name). Depends u n parent) (sym is) depends))

  space_kept : (space : SpaceNo) → space.0 < length s.spaces → slice_get u.spaces space.0 ≡ slice_get s.spaces space.0
  space_kept space lt = by (slice_get s.spaces space.0) refl (there_is s.spaces space.0 lt)
    where
      by : (o : Option KernelNo) → slice_get s.spaces space.0 ≡ o → is_some o ≡ true → slice_get u.spaces space.0 ≡ slice_get s.spaces space.0
      by None here some = absurd (cc)
      by (Some kernel) here some = keeps.spaces space.0 kernel here ∙ sym here

  -- and has the same owner, frame and class
  name_owner : (name : Name) → stands s name ≡ true → stands u name ≡ true → owner u name ≡ owner s name
  unfolding owner stands
  name_owner (Kernel kernel) there now = ap (λ (b : Bool). if b then Some kernel_zero else None) (is_below u.kernels kernel.0 now ∙ sym (is_below s.kernels kernel.0 there))
  name_owner (Space space) there now = by (slice_get s.spaces space.0) refl there
    where
      by : (o : Option KernelNo) → slice_get s.spaces space.0 ≡ o → is_some o ≡ true → slice_get u.spaces space.0 ≡ slice_get s.spaces space.0
      by None here some = absurd (cc)
      by (Some kernel) here some = keeps.spaces space.0 kernel here ∙ sym here
  name_owner (Thread thread) there now = by (slice_get s.threads thread.0) refl there
    where
      by : (o : Option FlatThread) → slice_get s.threads thread.0 ≡ o → is_some o ≡ true → owner_of_thread u (slice_get u.threads thread.0) ≡ owner_of_thread s (slice_get s.threads thread.0)
      by None here some = absurd (cc)
      by (Some t) here some =
          let kept = keeps.threads.kept thread.0 t here in
          ap (owner_of_thread u) kept.1 ∙ ap (λ (n : SpaceNo). slice_get u.spaces n.0) kept.2 ∙ space_kept t.space (formed.threads.each thread.0 t here).space ∙ sym (ap (owner_of_thread s) here)
  name_owner (Mapping space vpn) there now = by (row_of s.rows space vpn.0) (row_of u.rows space vpn.0) refl refl there now
    where
      by : (o p : Option Row) → row_of s.rows space vpn.0 ≡ o → row_of u.rows space vpn.0 ≡ p → is_some o ≡ true → is_some p ≡ true → owner_of_row u p ≡ owner_of_row s o
      by None p here there some_s some_u = absurd (cc)
      by (Some x) None here there some_s some_u = absurd (cc)
      by (Some x) (Some y) here there some_s some_u =
          sym (ap (λ (n : SpaceNo). slice_get u.spaces n.0) (forth space vpn.0 x y here there).space)
          ∙ space_kept x.space (formed.rows.each x (find-contains (is_row_of space vpn.0) s.rows x here)).space

  name_frame : (name : Name) → stands s name ≡ true → stands u name ≡ true → frame_of u name ≡ frame_of s name
  unfolding stands
  name_frame (Kernel kernel) there now = refl
  name_frame (Space space) there now = refl
  name_frame (Thread thread) there now = refl
  name_frame (Mapping space vpn) there now = by (row_of s.rows space vpn.0) (row_of u.rows space vpn.0) refl refl there now
    where
      by : (o p : Option Row) → row_of s.rows space vpn.0 ≡ o → row_of u.rows space vpn.0 ≡ p → is_some o ≡ true → is_some p ≡ true → option_map (λ (row : Row). row.frame) p ≡ option_map (λ (row : Row). row.frame) o
      by None p here there some_s some_u = absurd (cc)
      by (Some x) None here there some_s some_u = absurd (cc)
      by (Some x) (Some y) here there some_s some_u = ap Some (sym (forth space vpn.0 x y here there).frame)

  name_class : (name : Name) → stands s name ≡ true → stands u name ≡ true → class_of u name ≡ class_of s name
  unfolding class_of stands
  name_class (Kernel kernel) there now = refl
  name_class (Space space) there now = refl
  name_class (Thread thread) there now = refl
  name_class (Mapping space vpn) there now = by (row_of s.rows space vpn.0) (row_of u.rows space vpn.0) refl refl there now
    where
      by : (o p : Option Row) → row_of s.rows space vpn.0 ≡ o → row_of u.rows space vpn.0 ≡ p → is_some o ≡ true → is_some p ≡ true → class_of_row p ≡ class_of_row o
      by None p here there some_s some_u = absurd (cc)
      by (Some x) None here there some_s some_u = absurd (cc)
      by (Some x) (Some y) here there some_s some_u =
          let same = forth space vpn.0 x y here there in
          sym (ap₂ (λ (m : Bool) (o : Option ThreadNo). class_by m (is_some o)) same.message same.receiver)

pub depends_on_same : (s : FlatState) (e : Event) → IsWellFormed s → (rs : List Resident) → AreGood s rs → AreGood (applied s e) rs → (r : Resident) → Contains rs r → (parent : Name) → Depends (applied s e) r.name parent ↔ Depends s r.name parent
depends_on_same s e formed = name_depends s e formed

pub owner_stays : (s : FlatState) (e : Event) → IsWellFormed s → (name : Name) → stands s name ≡ true → stands (applied s e) name ≡ true → owner (applied s e) name ≡ owner s name
owner_stays s e formed = name_owner s e formed

pub frame_stays : (s : FlatState) (e : Event) → IsWellFormed s → (name : Name) → stands s name ≡ true → stands (applied s e) name ≡ true → frame_of (applied s e) name ≡ frame_of s name
frame_stays s e formed = name_frame s e formed

pub class_stays : (s : FlatState) (e : Event) → IsWellFormed s → (name : Name) → stands s name ≡ true → stands (applied s e) name ≡ true → class_of (applied s e) name ≡ class_of s name
class_stays s e formed = name_class s e formed
