-- What the contents say of rows.
use Rattle.std.proofs.Common.{◌≡◌, ◌≢◌, ◌+◌, ◌<◌, ◌≤◌, Bool, true, false, cond, if◌then◌else◌, not, ◌&&◌, ◌||◌, List, [], ◌∷◌, ◌++◌, length, map, filter, All, AllPairs, Contains, Option, Some, None, IsSome, is_some, option_to_list, refl, sym, ◌∙◌, ap, subst, inl, inr, arith}
use Rattle.std.specs.Iterator.{Yields, YieldsFirst}
use Rattle.std.specs.Option.{option_map}
use Rattle.std.proofs.lemmas.Bool.{cases_Bool, false≢true}
use Rattle.std.proofs.lemmas.Iterator.Consumers.{YieldsList-end, YieldsList-from_first, YieldsList-turn}
use Rattle.std.proofs.lemmas.List.{append-nil, append_assoc, length-append, length-map, map-id}
use Rattle.std.proofs.lemmas.List.Elements.{All-cons, filter-append, filter_map-append}
use Rattle.std.proofs.lemmas.List.Kept.{AllPairs-cons, AllPairs-filter}
use Rattle.std.proofs.lemmas.List.Sums.{count_by-le-length, length-filter}
use Rattle.sorted_list.proofs.ListLemmas.{Contains-from_map}
use Rattle.cache_ident.specs.declared.idents.Ident.{Ident}
use Rattle.cache_ident.specs.declared.names.Frame.{Frame}
use Rattle.cache_ident.specs.declared.names.Name.{Name}
use Rattle.cache_ident.specs.declared.names.Name.TheVariants as name
use Rattle.cache_ident.specs.declared.names.ThreadNo.{ThreadNo}
use Rattle.cache_ident.specs.Residents.{Resident}
use Rattle.phys_groups.specs.declared.rows.Row.{Row}
use Rattle.phys_groups.specs.Rows.{row_name}
use Rattle.group_laws.specs.signal_pages.specs.Signals.{is_signal_row_of}
use Rattle.group_laws.specs.flat_laws.proofs.Members.{length-filter_map, Contains-filter_map}
use Rattle.group_laws.specs.flat_state.specs.Declaration.{agree}
use Rattle.group_laws.specs.flat_state.specs.State.{FlatState}
use Rattle.group_laws.specs.flat_state.specs.Dependence.{parents_of_row, signal_rows_of}
use Rattle.group_laws.specs.flat_state.specs.Names.{is_fit_found}
use Rattle.group_laws.specs.flat_state.specs.Translation.{is_fit_row}
use Rattle.shown_state.specs.row_store.specs.Kept.{is_signal, is_signal_of, signal_names}
use Rattle.store_residents.specs.desc_stores.specs.Contents.{content_of, Contents}
use Rattle.store_residents.specs.desc_stores.specs.Sound.{IsExactlyOne}
use Rattle.shown_state.specs.Shown.{row_of_item, shown}
use Rattle.shown_state.proofs.ContentLemmas.{row_has_name, row_named, row_there}
use Rattle.shown_state.proofs.ListLemmas.{map-filter-filter_map}
use Rattle.shown_state.proofs.LookupLemmas.{signals_named}
use Rattle.desc_parents.specs.Idents.{fit_signal_names, ident_of, idents_of, HasAlsoIdentsOf}
use Rattle.desc_parents.specs.Seen.{seen, HasPlainRows}
use Rattle.desc_parents.proofs.IdentLemmas.{all_of}

-- what passes both tests
filter-filter : {X : Type 0} (p q : X → Bool) (xs : List X) → filter q (filter p xs) ≡ filter (λ x. p x && q x) xs
filter-filter p q [] = refl
filter-filter p q (x ∷ xs) = elim (cases_Bool (p x)) [
  | inl passes ↦ rw passes (ap (λ ys. cond (q x) (x ∷ ys) ys) (filter-filter p q xs))
  | inr fails ↦ rw fails (filter-filter p q xs)
]

-- whether a name is that of a fit row
abbrev pub fit_in : Contents → Name → Bool
fit_in c n = is_fit_found (seen c) (row_of_item (content_of c n))

module _ (c : Contents) (one : IsExactlyOne c) where
  -- the row of a name is one of the rows
  pub row_shown : (n : Name) (row : Row) → row_of_item (content_of c n) ≡ Some row → Contains (seen c).rows row
  unfolding shown
  row_shown n row is =
      let there = (one.row_names.named n).1 (row_named c one n (subst (λ o. IsSome o) (sym is) refl)) in
      Contains-filter_map (λ n. row_of_item (content_of c n)) c.rows.names n row there is

  named_signal : (frame : Frame) (n : Name) (o : Option Row) → row_of_item (content_of c n) ≡ o → is_signal_of c.rows.kept frame n ≡ is_signal frame o
  named_signal frame n o is = ap (is_signal frame) (sym (row_there c n) ∙ is)

  names_of_fit : (frame : Frame) (fit : Row → Bool) (fit_name : Name → Bool) → ((n : Name) (row : Row) → row_of_item (content_of c n) ≡ Some row → fit row ≡ fit_name n) → map row_name (filter (λ row. is_signal_row_of frame row && fit row) (seen c).rows) ≡ filter (λ n. is_signal_of c.rows.kept frame n && fit_name n) c.rows.names
  unfolding shown
  names_of_fit frame fit fit_name same =
      map-filter-filter_map (λ n. row_of_item (content_of c n)) row_name (λ n. is_signal_of c.rows.kept frame n && fit_name n) (λ row. is_signal_row_of frame row && fit row) c.rows.names
      (λ n is. ap (λ b. b && fit_name n) (named_signal frame n None is))
      (λ n row is. (row_has_name c n row is, ap (λ b. b && fit row) (sym (named_signal frame n (Some row) is)) ∙ ap (λ b. is_signal_of c.rows.kept frame n && b) (same n row is)))

  -- the fit ones of the names of a frame's signal rows are the names of the fit ones
  pub fit_names : (frame : Frame) → filter (fit_in c) (signal_names c.rows frame) ≡ fit_signal_names (seen c) frame
  fit_names frame =
      filter-filter (is_signal_of c.rows.kept frame) (fit_in c) c.rows.names
      ∙ sym (names_of_fit frame (is_fit_row (seen c)) (fit_in c) (λ n row is. ap (is_fit_found (seen c)) (sym is)))

  -- a frame has no more names of signal rows than signal rows
  pub few_names : (frame : Frame) → HasPlainRows (seen c) → length (signal_names c.rows frame) ≤ 4
  few_names frame plain = omega (arith, ap length (signals_named None [] c one frame), length-map (filter (is_signal_row_of frame) (seen c).rows) row_name, length-filter (is_signal_row_of frame) (seen c).rows, plain.few frame)

  -- the names that a row depends on differ
  fit_apart : (frame : Frame) → AllPairs (λ a b. a ≢ b) (fit_signal_names (seen c) frame)
  fit_apart frame = subst (AllPairs (λ (a : Name) (b : Name). a ≢ b)) (fit_names frame) (AllPairs-filter (λ (a : Name) (b : Name). a ≢ b) (fit_in c) (signal_names c.rows frame) (AllPairs-filter (λ (a : Name) (b : Name). a ≢ b) (is_signal_of c.rows.kept frame) c.rows.names one.row_names.once))

-- ---- the names of a frame's signal rows, one after another

module _ (all start : List Name) (are : start ≡ all) (gone left : List Name) (yielded : Yields (YieldsFirst (λ (left : List Name). left)) start gone left) (item : Option Name) (rest : List Name) (next : YieldsFirst (λ (left : List Name). left) left item rest) where
  -- as long as one comes not all are gone
  pub fewer_gone : (n : Name) → item ≡ Some n → length gone < length all
  fewer_gone n is = (YieldsList-turn (YieldsList-from_first (λ n. n) (λ left. left) all are) gone left yielded item rest n is next).0

  -- and in the end all are
  pub all_gone : item ≡ None → gone ≡ all
  all_gone none = sym (map-id gone) ∙ (YieldsList-end (YieldsList-from_first (λ n. n) (λ left. left) all are) gone left yielded item rest none next).0

module _ (rs : List Resident) (p : Name → Bool) (first : List Ident) (gone : List Name) (n : Name) where
  -- one came that passes, or one that doesn't
  pub one_more : (has now : List Ident) → HasAlsoIdentsOf rs first has (filter p gone) → p n ≡ true → HasAlsoIdentsOf rs has now (n ∷ []) → HasAlsoIdentsOf rs first now (filter p (gone ++ n ∷ []))
  one_more has now before passes also =
      let more : filter p (gone ++ n ∷ []) ≡ filter p gone ++ n ∷ [] = filter-append p gone (n ∷ []) ∙ ap (λ b. filter p gone ++ cond b (n ∷ []) []) passes in
      also ∙ ap (λ ids. ids ++ idents_of rs (n ∷ [])) before ∙ append_assoc first (idents_of rs (filter p gone)) (idents_of rs (n ∷ [])) ∙ ap (λ ids. first ++ ids) (sym (filter_map-append (ident_of rs) (filter p gone) (n ∷ [])) ∙ ap (idents_of rs) (sym more))

  pub none_more : (has : List Ident) → HasAlsoIdentsOf rs first has (filter p gone) → p n ≡ false → HasAlsoIdentsOf rs first has (filter p (gone ++ n ∷ []))
  none_more has before fails =
      let same : filter p (gone ++ n ∷ []) ≡ filter p gone ++ [] = filter-append p gone (n ∷ []) ∙ ap (λ b. filter p gone ++ cond b (n ∷ []) []) fails in
      before ∙ ap (λ names. first ++ idents_of rs names) (sym (append-nil (filter p gone)) ∙ sym same)

  -- there are no more identifiers than names
  pub few_idents : (has : List Ident) → HasAlsoIdentsOf rs first has (filter p gone) → length has ≤ length first + length gone
  few_idents has before = omega (arith, ap length before, length-append first (idents_of rs (filter p gone)), length-filter_map (ident_of rs) (filter p gone), length-filter p gone, count_by-le-length p gone)

-- where there was nothing there are those of the names
pub from_nothing : (rs : List Resident) (names : List Name) (first now : List Ident) → first ≡ [] → HasAlsoIdentsOf rs first now names → now ≡ idents_of rs names
from_nothing rs names first now none also = also ∙ ap (λ ids. ids ++ idents_of rs names) none

-- and of one name there is one at most
pub few_from_nothing : (rs : List Resident) (n : Name) (first now : List Ident) → first ≡ [] → HasAlsoIdentsOf rs first now (n ∷ []) → length now ≤ 1
few_from_nothing rs n first now none also = omega (arith, ap length (from_nothing rs (n ∷ []) first now none also), length-filter_map (ident_of rs) (n ∷ []))

-- ---- what a row depends on

module _ (rs : List Resident) (s : FlatState) (row : Row) where
  -- the identifiers of its space, of its receiver and of its signal rows
  pub idents_in_parts : idents_of rs (parents_of_row s row) ≡ idents_of rs (name.Space row.space ∷ []) ++ (idents_of rs (option_to_list (option_map name.Thread row.receiver)) ++ idents_of rs (map row_name (signal_rows_of s row)))
  idents_in_parts =
      filter_map-append (ident_of rs) (name.Space row.space ∷ []) (option_to_list (option_map name.Thread row.receiver) ++ map row_name (signal_rows_of s row))
      ∙ ap (λ ids. idents_of rs (name.Space row.space ∷ []) ++ ids) (filter_map-append (ident_of rs) (option_to_list (option_map name.Thread row.receiver)) (map row_name (signal_rows_of s row)))

never : (w x : Bool) → (w && (not x && false)) && (false || not x) ≡ true → ⊥
never true true holds = false≢true holds
never true false holds = false≢true holds
never false x holds = false≢true holds

-- a message row has no receiver
pub no_receiver : (s : FlatState) (row : Row) → HasPlainRows s → Contains s.rows row → row.flags.m ≡ true → row.receiver ≡ None
no_receiver s row plain there message = by row.receiver row.flags.m message (plain.agreed row there)
  where
    by : (o : Option ThreadNo) (m : Bool) → m ≡ true → agree (record row.flags { m = m }) (is_some o) ≡ true → o ≡ None
    by None m is holds = refl
    by (Some thread) true is holds = absurd (never row.flags.w row.flags.x holds)
    by (Some thread) false is holds = absurd (false≢true is)

-- the names that a row depends on differ
pub parents_apart : (c : Contents) → IsExactlyOne c → (row : Row) → AllPairs (λ a b. a ≢ b) (parents_of_row (seen c) row)
parents_apart c one row = by row.receiver row.flags.m
  where
    rows : Bool → List Row
    rows m = if m then filter (λ other. is_signal_row_of row.frame other && is_fit_row (seen c) other) (seen c).rows else []

    apart : (m : Bool) → AllPairs (λ a b. a ≢ b) (map row_name (rows m))
    apart true = fit_apart c one row.frame
    apart false = λ i j d lt within. absurd (omega (arith, within))

    of_space : (names : List Row) → All (λ b. name.Space row.space ≢ b) (map row_name names)
    of_space names = all_of (λ b. name.Space row.space ≢ b) (map row_name names) (λ n there same. let from = Contains-from_map row_name names n there in absurd (cc))

    of_thread : (thread : ThreadNo) (names : List Row) → All (λ b. name.Thread thread ≢ b) (map row_name names)
    of_thread thread names = all_of (λ b. name.Thread thread ≢ b) (map row_name names) (λ n there same. let from = Contains-from_map row_name names n there in absurd (cc))

    by : (o : Option ThreadNo) (m : Bool) → AllPairs (λ a b. a ≢ b) (name.Space row.space ∷ (option_to_list (option_map name.Thread o) ++ map row_name (rows m)))
    by None m = AllPairs-cons (λ (a : Name) (b : Name). a ≢ b) (name.Space row.space) (map row_name (rows m)) (of_space (rows m)) (apart m)
    by (Some thread) m =
        let behind = AllPairs-cons (λ (a : Name) (b : Name). a ≢ b) (name.Thread thread) (map row_name (rows m)) (of_thread thread (rows m)) (apart m) in
        AllPairs-cons (λ (a : Name) (b : Name). a ≢ b) (name.Space row.space) (name.Thread thread ∷ map row_name (rows m)) (All-cons (λ (b : Name). name.Space row.space ≢ b) (name.Thread thread) (map row_name (rows m)) (λ same. absurd (cc)) (of_space (rows m))) behind
