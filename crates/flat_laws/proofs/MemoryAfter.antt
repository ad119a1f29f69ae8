-- What memory and the rows are, when changed pages are written back to them.
use Rattle.std.proofs.Common.{◌≡◌, ℕ, zero, suc, ◌+◌, ◌-◌, ◌*◌, ◌/◌, ◌%◌, ◌<◌, ◌≤◌, min, Bool, true, false, cond, inl, inr, List, [], ◌∷◌, length, get_or, set, map, Option, Some, refl, ap, ap₂, sym, ◌∙◌, subst, length-set, get_or-set_same, get_or-set_other}
use Rattle.std.specs.Prelude.{if◌then◌else◌, ◌==◌}
use Rattle.std.specs.List.{find}
use Rattle.std.proofs.lemmas.List.{set_past}
use Rattle.std.proofs.lemmas.Bool.{cases_lt, cases_eq}
use Rattle.cache_ident.specs.declared.names.SpaceNo.{SpaceNo}
use Rattle.phys_groups.specs.declared.rows.Row.{Row}
use Rattle.phys_groups.specs.Memory.{page_at, with_page}
use Rattle.flat_state.specs.rv32_exec.specs.declared.statuses.Access.{Access}
use Rattle.flat_state.specs.rv32_exec.specs.declared.statuses.Access.TheVariants.{Fetch, Read, Write}
use Rattle.flat_state.specs.rv32_exec.specs.Pages.{Page, put_bytes, put_in_frame, mark, mark_page}
use Rattle.flat_state.specs.rv32_exec.specs.Changes.{Change, Marked, Put, changed}
use Rattle.flat_state.specs.rv32_exec.proofs.StepChanges.{changed_by}
use Rattle.flat_state.proofs.StepKeeps.{changed_by_keeps}
use Rattle.flat_state.specs.Pages.{page_of, with_pages, is_in, with_marks, with_marks_of}
use Rattle.flat_laws.specs.Rights.{StayOrAgree}
use Rattle.flat_laws.proofs.PageBytes.{length-page_at, page_byte, length-with_page, with_page_here, with_page_elsewhere}

-- a page that stands in the frame of its row, and is as long as the page that is in memory
record IsPageOf (memory : List ℕ) (row : Row) (p : Page) : Type 0 where
  frame : p.frame ≡ row.frame.0
  size : length p.bytes ≡ length (page_at memory row.frame)

-- it can be written over its frame in any memory of that size
whole_page : (memory now : List ℕ) (row : Row) (p : Page) → IsPageOf memory row p → length now ≡ length memory → length p.bytes ≡ length (page_at now (record { 0 = p.frame }))
whole_page memory now row p page size =
    page.size ∙ length-page_at memory row.frame
    ∙ ap₂ (λ n f. min 4096 (n - 4096 * f)) (sym size) (sym page.frame)
    ∙ sym (length-page_at now (record { 0 = p.frame }))

abbrev changed_page : List Change → List (Bool × Bool) → List ℕ → Row → Page
changed_page cs rights memory row = changed_by cs (page_of rights memory row)

changed_is_page : (cs : List Change) (rights : List (Bool × Bool)) (memory : List ℕ) (row : Row) → IsPageOf memory row (changed_page cs rights memory row)
changed_is_page cs rights memory row =
    let kept = changed_by_keeps cs (page_of rights memory row) in
    record { frame = kept.frame; size = kept.size }

module _ (cs : List Change) (rights : List (Bool × Bool)) (memory : List ℕ) where
  -- memory keeps its size
  pub length-with_pages : (rows : List Row) (now : List ℕ) → length now ≡ length memory → length (with_pages now (map (changed_page cs rights memory) rows)) ≡ length memory
  length-with_pages [] now size = size
  length-with_pages (row ∷ rows) now size =
      let p : Page = changed_page cs rights memory row in
      let whole = whole_page memory now row p (changed_is_page cs rights memory row) size in
      length-with_pages rows (with_page now (record { 0 = p.frame }) p.bytes) (length-with_page now (record { 0 = p.frame }) p.bytes whole ∙ size)

  -- a byte stays where each page of its frame keeps it
  pub byte_stays : (place : ℕ) → ((row : Row) → place / 4096 ≡ row.frame.0 → (changed_page cs rights memory row).bytes ≡ page_at memory row.frame) → (rows : List Row) (now : List ℕ) → length now ≡ length memory → get_or now place 0 ≡ get_or memory place 0 → get_or (with_pages now (map (changed_page cs rights memory) rows)) place 0 ≡ get_or memory place 0
  byte_stays place kept [] now size same = same
  byte_stays place kept (row ∷ rows) now size same =
      let p : Page = changed_page cs rights memory row in
      let page = changed_is_page cs rights memory row in
      let whole = whole_page memory now row p page size in
      byte_stays place kept rows (with_page now (record { 0 = p.frame }) p.bytes) (length-with_page now (record { 0 = p.frame }) p.bytes whole ∙ size)
      (elim (cases_eq (place / 4096) p.frame) [
        | inl here ↦
            with_page_here now (record { 0 = p.frame }) p.bytes whole place here
            ∙ ap (λ bytes. get_or bytes (place % 4096) 0) (kept row (here ∙ page.frame))
            ∙ page_byte memory row.frame place (here ∙ page.frame)
        | inr other ↦ with_page_elsewhere now (record { 0 = p.frame }) p.bytes whole place other ∙ same
      ])

-- equal bytes stay or agree alike
as_before : (old_here old_there here there now_here now_there : ℕ) → now_here ≡ here → now_there ≡ there → StayOrAgree old_here old_there here there → StayOrAgree old_here old_there now_here now_there
as_before old_here old_there here there now_here now_there e f (inl (stays_here, stays_there)) = inl (e ∙ stays_here, f ∙ stays_there)
as_before old_here old_there here there now_here now_there e f (inr agree) = inr (e ∙ (agree ∙ sym f))

module _ (old_here old_there : List ℕ) (one_size : length old_here ≡ length old_there) where
  -- two lists of bytes that came from the old ones: at each place both stayed, or both have one byte
  record CameFrom (here there : List ℕ) : Type 0 where
    size_here : length here ≡ length old_here
    size_there : length there ≡ length old_there
    bytes : (j : ℕ) → StayOrAgree (get_or old_here j 0) (get_or old_there j 0) (get_or here j 0) (get_or there j 0)

  set_both : (here there : List ℕ) (at b : ℕ) → CameFrom here there → CameFrom (set here at b) (set there at b)
  set_both here there at b from =
      record {
        size_here = length-set here at b ∙ from.size_here;
        size_there = length-set there at b ∙ from.size_there;
        bytes = λ j. elim (cases_eq j at) [
          | inl same ↦ elim (cases_lt at (length here)) [
            | inl within ↦
                inr (subst (λ k. get_or (set here at b) k 0 ≡ get_or (set there at b) k 0) (sym same)
                (get_or-set_same here at b 0 within ∙ sym (get_or-set_same there at b 0 (subst (λ n. at < n) (from.size_here ∙ (one_size ∙ sym from.size_there)) within))))
            | inr past ↦
                as_before _ _ _ _ _ _
                (ap (λ bytes. get_or bytes j 0) (set_past here at b past))
                (ap (λ bytes. get_or bytes j 0) (set_past there at b (subst (λ n. n ≤ at) (from.size_here ∙ (one_size ∙ sym from.size_there)) past)))
                (from.bytes j)
          ]
          | inr other ↦ as_before _ _ _ _ _ _ (get_or-set_other here at j b 0 other) (get_or-set_other there at j b 0 other) (from.bytes j)
        ];
      }

  put_both : (count : ℕ) (here there : List ℕ) (at value : ℕ) → CameFrom here there → CameFrom (put_bytes count here at value) (put_bytes count there at value)
  put_both zero here there at value from = from
  put_both (suc count) here there at value from =
      put_both count (set here at (value % 256)) (set there at (value % 256)) (at + 1) (value / 256) (set_both here there at (value % 256) from)

  -- two pages that are one but for such bytes
  record OnePage (p q : Page) : Type 0 where
    number : p.number ≡ q.number
    frame : p.frame ≡ q.frame
    touched : p.touched ≡ q.touched
    written : p.written ≡ q.written
    from : CameFrom p.bytes q.bytes

  mark_both : (access : Access) (p q : Page) → OnePage p q → OnePage (mark access p) (mark access q)
  mark_both Fetch p q one = record { number = one.number; frame = one.frame; touched = refl; written = one.written; from = one.from }
  mark_both Read p q one = record { number = one.number; frame = one.frame; touched = refl; written = one.written; from = one.from }
  mark_both Write p q one = record { number = one.number; frame = one.frame; touched = refl; written = refl; from = one.from }

  change_both : (c : Change) (p q : Page) → OnePage p q → OnePage (changed c p) (changed c q)
  change_both (Marked number access) p q one =
      subst (λ n. OnePage (mark_page number access p) (if n == number then mark access q else q)) one.number (by_test (p.number == number))
    where
      by_test : (b : Bool) → OnePage (if b then mark access p else p) (if b then mark access q else q)
      by_test true = mark_both access p q one
      by_test false = one
  change_both (Put frame count at value) p q one =
      subst (λ f. OnePage (put_in_frame frame count at value p) (if f == frame then record q { bytes = put_bytes count q.bytes at value } else q)) one.frame (by_test (p.frame == frame))
    where
      by_test : (b : Bool) → OnePage (if b then record p { bytes = put_bytes count p.bytes at value } else p) (if b then record q { bytes = put_bytes count q.bytes at value } else q)
      by_test true = record { number = one.number; frame = one.frame; touched = one.touched; written = one.written; from = put_both count p.bytes q.bytes at value one.from }
      by_test false = one

  changes_both : (cs : List Change) (p q : Page) → OnePage p q → OnePage (changed_by cs p) (changed_by cs q)
  changes_both [] p q one = one
  changes_both (c ∷ cs) p q one = changes_both cs (changed c p) (changed c q) (change_both c p q one)

module _ (cs : List Change) (rights : List (Bool × Bool)) (m v : List ℕ) (one_size : length m ≡ length v) where
  page_sizes : (row : Row) → length (page_at m row.frame) ≡ length (page_at v row.frame)
  page_sizes row = length-page_at m row.frame ∙ ap (λ n. min 4096 (n - 4096 * row.frame.0)) one_size ∙ sym (length-page_at v row.frame)

  changed_both : (row : Row) → OnePage (page_at m row.frame) (page_at v row.frame) (page_sizes row) (changed_page cs rights m row) (changed_page cs rights v row)
  changed_both row =
      changes_both _ _ (page_sizes row) cs (page_of rights m row) (page_of rights v row)
      (record {
        number = refl;
        frame = refl;
        touched = refl;
        written = refl;
        from = record { size_here = refl; size_there = refl; bytes = λ j. inl (refl, refl) };
      })

  -- at each place both memories keep what they had, or both have one byte
  pub bytes_alike : (place : ℕ) (rows : List Row) (here there : List ℕ) → length here ≡ length m → length there ≡ length v → StayOrAgree (get_or m place 0) (get_or v place 0) (get_or here place 0) (get_or there place 0) → StayOrAgree (get_or m place 0) (get_or v place 0) (get_or (with_pages here (map (changed_page cs rights m) rows)) place 0) (get_or (with_pages there (map (changed_page cs rights v) rows)) place 0)
  bytes_alike place [] here there size_here size_there alike = alike
  bytes_alike place (row ∷ rows) here there size_here size_there alike =
      let p : Page = changed_page cs rights m row in
      let q : Page = changed_page cs rights v row in
      let page_here = changed_is_page cs rights m row in
      let page_there = changed_is_page cs rights v row in
      let whole_here = whole_page m here row p page_here size_here in
      let whole_there = whole_page v there row q page_there size_there in
      bytes_alike place rows (with_page here (record { 0 = p.frame }) p.bytes) (with_page there (record { 0 = q.frame }) q.bytes)
      (length-with_page here (record { 0 = p.frame }) p.bytes whole_here ∙ size_here)
      (length-with_page there (record { 0 = q.frame }) q.bytes whole_there ∙ size_there)
      (elim (cases_eq (place / 4096) row.frame.0) [
        | inl inside ↦
            as_before _ _ _ _ _ _
            (with_page_here here (record { 0 = p.frame }) p.bytes whole_here place (inside ∙ sym page_here.frame))
            (with_page_here there (record { 0 = q.frame }) q.bytes whole_there place (inside ∙ sym page_there.frame))
            (subst (λ b. StayOrAgree b (get_or v place 0) (get_or p.bytes (place % 4096) 0) (get_or q.bytes (place % 4096) 0)) (page_byte m row.frame place inside)
            (subst (λ b. StayOrAgree (get_or (page_at m row.frame) (place % 4096) 0) b (get_or p.bytes (place % 4096) 0) (get_or q.bytes (place % 4096) 0)) (page_byte v row.frame place inside)
            ((changed_both row).from.bytes (place % 4096))))
        | inr other ↦
            as_before _ _ _ _ _ _
            (with_page_elsewhere here (record { 0 = p.frame }) p.bytes whole_here place (λ e. other (e ∙ page_here.frame)))
            (with_page_elsewhere there (record { 0 = q.frame }) q.bytes whole_there place (λ e. other (e ∙ page_there.frame)))
            alike
      ])

  marks_of_both : (row : Row) (p q : Page) → p.touched ≡ q.touched → p.written ≡ q.written → (x y : Option Page) → with_marks_of x row ≡ with_marks_of y row → (b : Bool) → with_marks_of (cond b (Some p) x) row ≡ with_marks_of (cond b (Some q) y) row
  marks_of_both row p q touched written x y later true = ap₂ (λ t w. record row { referenced = t; modified = w }) touched written
  marks_of_both row p q touched written x y later false = later

  marks_found : (row : Row) (number : ℕ) (rows : List Row) → with_marks_of (find (λ p. p.number == number) (map (changed_page cs rights m) rows)) row ≡ with_marks_of (find (λ p. p.number == number) (map (changed_page cs rights v) rows)) row
  marks_found row number [] = refl
  marks_found row number (r ∷ rows) =
      let p : Page = changed_page cs rights m r in
      let q : Page = changed_page cs rights v r in
      let one = changed_both r in
      marks_of_both row p q one.touched one.written _ _ (marks_found row number rows) (p.number == number)
      ∙ ap (λ n. with_marks_of (cond (n == number) (Some q) (find (λ p. p.number == number) (map (changed_page cs rights v) rows))) row) one.number

  -- and each row gets the same marks
  pub marks_alike : (space : SpaceNo) (rows all : List Row) → map (with_marks space (map (changed_page cs rights m) rows)) all ≡ map (with_marks space (map (changed_page cs rights v) rows)) all
  marks_alike space rows all = λ i. map (λ row. by_test row (is_in space row) i) all
    where
      by_test : (row : Row) (b : Bool) → (if b then with_marks_of (find (λ p. p.number == row.vpn.0) (map (changed_page cs rights m) rows)) row else row) ≡ (if b then with_marks_of (find (λ p. p.number == row.vpn.0) (map (changed_page cs rights v) rows)) row else row)
      by_test row true = marks_found row row.vpn.0 rows
      by_test row false = refl
