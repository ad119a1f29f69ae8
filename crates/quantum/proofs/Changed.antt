-- What changes make of memory and of the rows, and what the views show of them.
use Rattle.std.proofs.Common.{◌≡◌, ℕ, ◌+◌, ◌*◌, ◌/◌, ◌≤◌, Bool, true, false, List, [], ◌∷◌, map, length, Option, Some, None, Contains, refl, ap, ap₂, sym, ◌∙◌, subst}
use Rattle.std.specs.Prelude.{if◌then◌else◌, ◌==◌, ◌||◌, ◌&&◌, not}
use Rattle.std.specs.List.{find}
use Rattle.std.specs.Option.{option_map}
use Rattle.std.proofs.lemmas.Bool.{eqb-true, eq-eqb, and_parts, or_right}
use Rattle.std.proofs.lemmas.Option.{same_Some}
use Rattle.std.proofs.Math.Bool.{or-false, or_assoc}
use Rattle.cache_ident.specs.declared.names.SpaceNo.{SpaceNo}
use Rattle.cache_ident.specs.declared.names.Vpn.{Vpn}
use Rattle.cache_ident.specs.declared.names.Frame.{Frame}
use Rattle.phys_groups.specs.declared.rows.Row.{Row}
use Rattle.phys_groups.specs.declared.rows.Flags.{Flags}
use Rattle.phys_groups.specs.Memory.{page_at}
use Rattle.phys_groups.specs.Rows.{marked}
use Rattle.phys_groups.specs.Translation.{Translated, through, no_flag, no_right, judged, covers, is_fit, is_row_of, row_of}
use Rattle.rv32_exec.specs.declared.statuses.Access.{Access}
use Rattle.rv32_exec.specs.Pages.{Page, put_bytes, translation, is_write}
use Rattle.rv32_exec.specs.Changes.{Change, Marked, Put}
use Rattle.flat_laws.specs.flat_state.specs.State.{FlatState}
use Rattle.flat_laws.specs.flat_state.specs.Translation.{is_fit_row, reached, rights_of, row_through, wants}
use Rattle.flat_laws.specs.flat_state.specs.Pages.{is_in, page_of as page_of_row, pages_of}
use Rattle.flat_laws.specs.flat_state.proofs.Finding.{find-contains, find-passes}
use Rattle.flat_laws.specs.flat_state.proofs.Storing.{length-put_bytes, page_at-put_bytes, page_at-put_bytes_other}
use Rattle.flat_laws.specs.flat_state.proofs.Translating.{translation-pages}
use Rattle.flat_laws.proofs.Members.{find-map}
use Rattle.page_views.specs.Views.{View, page_of, pages_of_views, is_of_page, where_flagged, view_through}
use Rattle.page_views.proofs.Tables.{translation_is}
use Rattle.quantum.specs.LocalRun.{Shows}
use Rattle.quantum.specs.Made.{put_on, has_mark, has_store_mark, AreOf, changed_memory, changed_rows, changed_state}
use Rattle.quantum.proofs.StepsIn.{ShowsAt}

-- ---- memory

put_page : (count : ℕ) (m : List ℕ) (frame at value : ℕ) (f : Frame) → at + count ≤ 4096 → (b : Bool) → (f.0 == frame) ≡ b
    → page_at (put_bytes count m (4096 * frame + at) value) f ≡ (if b then put_bytes count (page_at m f) at value else page_at m f)
put_page count m frame at value f within true e =
    let same : f.0 ≡ frame = eqb-true f.0 frame e in
    ap (λ (g : ℕ). page_at (put_bytes count m (4096 * g + at) value) f) (sym same) ∙ page_at-put_bytes count m f at value within
put_page count m frame at value f within false e =
    page_at-put_bytes_other count m (record { 0 = frame }) f at value within (λ same. true_false (sym (eq-eqb f.0 frame same) ∙ e))
  where
    true_false : true ≡ false → ⊥
    true_false e = cc

-- a frame has what was put there
pub page_changed : (vs : List View) (cs : List Change) (m : List ℕ) (f : Frame) → AreOf vs cs → page_at (changed_memory cs m) f ≡ put_on cs f.0 (page_at m f)
page_changed vs [] m f of = refl
page_changed vs (Marked n access ∷ cs) m f of = page_changed vs cs m f of.1
page_changed vs (Put frame count at value ∷ cs) m f of =
    page_changed vs cs (put_bytes count m (4096 * frame + at) value) f of.2
    ∙ ap (put_on cs f.0) (put_page count m frame at value f of.0 (f.0 == frame) refl)

pub length-changed : (cs : List Change) (m : List ℕ) → length (changed_memory cs m) ≡ length m
length-changed [] m = refl
length-changed (Marked n access ∷ cs) m = length-changed cs m
length-changed (Put frame count at value ∷ cs) m = length-changed cs (put_bytes count m (4096 * frame + at) value) ∙ length-put_bytes count m (4096 * frame + at) value

-- ---- rows

abbrev pub after_marks : SpaceNo → List Change → Row → Row
after_marks space cs row = if is_in space row then record row { referenced = row.referenced || has_mark row.vpn.0 cs; modified = row.modified || has_store_mark row.vpn.0 cs } else row

one_mark : (space : SpaceNo) (n : ℕ) (access : Access) (cs : List Change) (row : Row) (b d : Bool) → is_in space row ≡ b → (row.vpn.0 == n) ≡ d
    → after_marks space cs (marked space n (is_write access) row) ≡ after_marks space (Marked n access ∷ cs) row
one_mark space n access cs row true true inside own =
    rw (inside, own, inside) (ap₂ (λ (t w : Bool). record row { referenced = t; modified = w }) (sym (or_right row.referenced true refl)) (or_assoc row.modified (is_write access) (has_store_mark row.vpn.0 cs)))
one_mark space n access cs row true false inside own = rw (inside, own, inside) refl
one_mark space n access cs row false d inside own = rw (inside, inside) refl

marks_map : (space : SpaceNo) (n : ℕ) (access : Access) (cs : List Change) (rows : List Row) → map (after_marks space cs) (map (marked space n (is_write access)) rows) ≡ map (after_marks space (Marked n access ∷ cs)) rows
marks_map space n access cs [] = refl
marks_map space n access cs (row ∷ rows) = ap₂ (λ (r : Row) (rs : List Row). r ∷ rs) (one_mark space n access cs row (is_in space row) (row.vpn.0 == n) refl refl) (marks_map space n access cs rows)

no_mark : (space : SpaceNo) (row : Row) (b : Bool) → row ≡ (if b then record row { referenced = row.referenced || false; modified = row.modified || false } else row)
no_mark space row true = ap₂ (λ (t w : Bool). record row { referenced = t; modified = w }) (sym (or-false row.referenced)) (sym (or-false row.modified))
no_mark space row false = refl

no_marks : (space : SpaceNo) (rows : List Row) → rows ≡ map (after_marks space []) rows
no_marks space [] = refl
no_marks space (row ∷ rows) = ap₂ (λ (r : Row) (rs : List Row). r ∷ rs) (no_mark space row (is_in space row)) (no_marks space rows)

pub rows_changed : (space : SpaceNo) (cs : List Change) (rows : List Row) → changed_rows space cs rows ≡ map (after_marks space cs) rows
rows_changed space [] rows = no_marks space rows
rows_changed space (Marked n access ∷ cs) rows = rows_changed space cs (map (marked space n (is_write access)) rows) ∙ marks_map space n access cs rows
rows_changed space (Put frame count at value ∷ cs) rows = rows_changed space cs rows ∙ puts_map rows
  where
    puts_map : (rows : List Row) → map (after_marks space cs) rows ≡ map (after_marks space (Put frame count at value ∷ cs)) rows
    puts_map [] = refl
    puts_map (row ∷ rows) = ap (λ (rs : List Row). after_marks space cs row ∷ rs) (puts_map rows)

-- what the marks keep of a row
pub record KeepsAll (row after : Row) : Type 0 where
  pub space : after.space ≡ row.space
  pub vpn : after.vpn ≡ row.vpn
  pub frame : after.frame ≡ row.frame
  pub flags : after.flags ≡ row.flags

pub marks_keep : (space : SpaceNo) (cs : List Change) (row : Row) → KeepsAll row (after_marks space cs row)
marks_keep space cs row = by (is_in space row)
  where
    by : (b : Bool) → KeepsAll row (if b then record row { referenced = row.referenced || has_mark row.vpn.0 cs; modified = row.modified || has_store_mark row.vpn.0 cs } else row)
    by true = record { space = refl; vpn = refl; frame = refl; flags = refl }
    by false = record { space = refl; vpn = refl; frame = refl; flags = refl }

row_changed : (space : SpaceNo) (cs : List Change) (rows : List Row) (n : ℕ) (row : Row) → row_of rows space n ≡ Some row → row_of (changed_rows space cs rows) space n ≡ Some (after_marks space cs row)
row_changed space cs rows n row its =
    ap (λ (rs : List Row). row_of rs space n) (rows_changed space cs rows)
    ∙ (find-map (is_row_of space n) (is_row_of space n) (after_marks space cs) (λ r. ap₂ (λ (a : SpaceNo) (b : Vpn). (a.0 == space.0) && (b.0 == n)) (marks_keep space cs r).space (marks_keep space cs r).vpn) rows
    ∙ ap (option_map (after_marks space cs)) its)

-- ---- views

fit_kept : (s : FlatState) (row after : Row) → KeepsAll row after → is_fit_row s after ≡ is_fit_row s row
fit_kept s row after keeps =
    ap (λ (space : SpaceNo). covers (rights_of s space) after.frame after.flags) keeps.space
    ∙ ap₂ (λ (frame : Frame) (flags : Flags). covers (rights_of s row.space) frame flags) keeps.frame keeps.flags

-- what a view showed before the changes, it shows after them, with what was put there
pub shows_after : (s : FlatState) (space : SpaceNo) (vs : List View) (cs : List Change) (v : View) → AreOf vs cs → Shows s space v v.first → v.present ≡ put_on cs v.frame.0 v.first → Shows (changed_state s space cs) space v v.present
shows_after s space vs cs v of shows present =
    let keeps = marks_keep space cs shows.row in
    record {
      row = after_marks space cs shows.row;
      its = row_changed space cs s.rows v.vpn.0 shows.row shows.its;
      fit = fit_kept s shows.row (after_marks space cs shows.row) keeps ∙ shows.fit;
      frame = keeps.frame ∙ shows.frame;
      flags = keeps.flags ∙ shows.flags;
      holds = page_changed vs cs s.memory v.frame of ∙ (ap (put_on cs v.frame.0) shows.holds ∙ sym present);
    }

-- the row that an access through a view reaches
pub record Reaches (s : FlatState) (space : SpaceNo) (access : Access) (va : ℕ) (v : View) (bytes : List ℕ) : Type 0 where
  pub row : Row
  pub reached : reached s access space va ≡ through row
  pub space_is : row.space.0 ≡ space.0
  pub vpn : row.vpn.0 ≡ v.vpn.0
  pub frame : row.frame ≡ v.frame
  pub flags : row.flags ≡ v.flags
  pub holds : page_at s.memory row.frame ≡ bytes

abbrev page_no : ℕ → Vpn
page_no va = record { 0 = va / 4096 }

-- a view that an access goes through is that of the page, and has the flag
pub through_parts : (vs : List View) (access : Access) (va : ℕ) (v : View) → view_through vs access va ≡ Some v → Contains vs v × (v.vpn.0 ≡ va / 4096) × (wants access v.flags ≡ true)
through_parts vs access va v e = by (find (is_of_page (page_no va)) vs) refl e
  where
    with_flag : (w : View) (b : Bool) → wants access w.flags ≡ b → find (is_of_page (page_no va)) vs ≡ Some w → (if b then Some w else None) ≡ Some v → Contains vs v × (v.vpn.0 ≡ va / 4096) × (wants access v.flags ≡ true)
    with_flag w false flag found e = absurd (cc)
    with_flag w true flag found e =
        let same : w ≡ v = same_Some w v e in
        subst (λ (u : View). Contains vs u × (u.vpn.0 ≡ va / 4096) × (wants access u.flags ≡ true)) same
        (find-contains (is_of_page (page_no va)) vs w found, eqb-true w.vpn.0 (va / 4096) (find-passes (is_of_page (page_no va)) vs w found), flag)

    by : (o : Option View) → find (is_of_page (page_no va)) vs ≡ o → where_flagged access o ≡ Some v → Contains vs v × (v.vpn.0 ≡ va / 4096) × (wants access v.flags ≡ true)
    by None found e = absurd (cc)
    by (Some w) found e = with_flag w (wants access w.flags) refl found e

pub reaches : (s : FlatState) (space : SpaceNo) (access : Access) (va : ℕ) (v : View) (bytes : List ℕ) → Shows s space v bytes → v.vpn.0 ≡ va / 4096 → wants access v.flags ≡ true → Reaches s space access va v bytes
reaches s space access va v bytes shows page flag =
    let row = shows.row in
    let own = find-passes (is_row_of space v.vpn.0) s.rows row shows.its in
    let parts = and_parts (row.space.0 == space.0) (row.vpn.0 == v.vpn.0) own in
    let at : row.space.0 ≡ space.0 = eqb-true row.space.0 space.0 parts.0 in
    let fits : is_fit (rights_of s space) row ≡ true = ap (λ (n : ℕ). is_fit (rights_of s (record { 0 = n })) row) (sym at) ∙ shows.fit in
    let wanted : wants access row.flags ≡ true = ap (wants access) shows.flags ∙ flag in
    let found : row_of s.rows space (va / 4096) ≡ Some row = ap (row_of s.rows space) (sym page) ∙ shows.its in
    record {
      row = row;
      reached = ap (judged (rights_of s space) (wants access)) found ∙ ap₂ (λ (b d : Bool). if not b then no_flag else (if not d then no_right else through row)) wanted fits;
      space_is = at;
      vpn = eqb-true row.vpn.0 v.vpn.0 parts.1;
      frame = shows.frame;
      flags = shows.flags;
      holds = ap (page_at s.memory) shows.frame ∙ shows.holds;
    }

-- so the views show what the state's pages show
pub shows_at : (s : FlatState) (space : SpaceNo) (vs : List View) (access : Access) (va : ℕ) → ((v : View) → view_through vs access va ≡ Some v → Shows s space v v.present) → ShowsAt (pages_of_views vs) (pages_of s space) access va
shows_at s space vs access va shows = λ p e. by (view_through vs access va) refl p (sym (translation_is vs access va) ∙ e)
  where
    by : (o : Option View) → view_through vs access va ≡ o → (p : Page) → option_map page_of o ≡ Some p → (q : Page) × (translation (pages_of s space) va access ≡ Some q) × (q.frame ≡ p.frame) × (q.bytes ≡ p.bytes)
    by None found p e = absurd (cc)
    by (Some v) found p e =
        let parts = through_parts vs access va v found in
        let r = reaches s space access va v v.present (shows v found) parts.1 parts.2 in
        let same : page_of v ≡ p = same_Some (page_of v) p e in (
          page_of_row (rights_of s space) s.memory r.row,
          translation-pages (rights_of s space) s.memory s.rows space va access ∙ ap (λ (t : Translated). option_map (page_of_row (rights_of s space) s.memory) (row_through t)) r.reached,
          ap (λ (f : Frame). f.0) r.frame ∙ ap (λ (q : Page). q.frame) same,
          r.holds ∙ ap (λ (q : Page). q.bytes) same,
        )
