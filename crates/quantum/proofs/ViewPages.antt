-- Views, by their pages: what changes of the pages are in the views.
use Rattle.std.proofs.Common.{◌≡◌, ℕ, Bool, true, false, List, [], ◌∷◌, map, Option, refl, ap, ap₂, sym, ◌∙◌}
use Rattle.std.specs.Prelude.{if◌then◌else◌, ◌==◌, ◌||◌, ◌&&◌}
use Rattle.std.proofs.lemmas.Bool.{or_right}
use Rattle.std.proofs.Math.Bool.{or-false, or_assoc}
use Rattle.rv32_exec.specs.declared.statuses.Access.{Access}
use Rattle.rv32_exec.specs.declared.statuses.Access.TheVariants.{Fetch, Read, Write}
use Rattle.rv32_exec.specs.Pages.{Page, put_bytes, mark, is_write}
use Rattle.rv32_exec.specs.Changes.{Change, Marked, Put, changed, all_changed}
use Rattle.page_views.specs.Views.{copied, copies_of, page_of, pages_of_views, rest_of, Copied, Dated, Table, View}
use Rattle.quantum.specs.Ahead.{views_with}
use Rattle.quantum.specs.Made.{put_on, has_mark, has_store_mark}

-- a view that is copied from where the other is, with the page of that
view_from : (v w : View) → copied w ≡ copied v → record v { present = (page_of w).bytes; touched = (page_of w).touched; written = (page_of w).written } ≡ w
view_from v w same = ap (λ (c : Copied). record { vpn = c.vpn; frame = c.frame; flags = c.flags; row = c.row; first = c.first; present = w.present; touched = w.touched; written = w.written; taken = c.taken }) (sym same)

head_same : (c d : Copied) (cs ds : List Copied) → c ∷ cs ≡ d ∷ ds → c ≡ d
head_same c d cs ds e = cc

tail_same : (c d : Copied) (cs ds : List Copied) → c ∷ cs ≡ d ∷ ds → cs ≡ ds
tail_same c d cs ds e = cc

-- views are what their pages and their copies say
pub views_from : (vs ws : List View) → copies_of ws ≡ copies_of vs → views_with vs (pages_of_views ws) ≡ ws
views_from [] [] same = refl
views_from [] (w ∷ ws) same = cc
views_from (v ∷ vs) [] same = cc
views_from (v ∷ vs) (w ∷ ws) same =
    ap₂ (λ (u : View) (us : List View). u ∷ us) (view_from v w (head_same _ _ _ _ same)) (views_from vs ws (tail_same _ _ _ _ same))

pub same_views : (vs ws : List View) → copies_of ws ≡ copies_of vs → pages_of_views ws ≡ pages_of_views vs → ws ≡ vs
same_views vs ws copies pages = sym (views_from vs ws copies) ∙ (ap (views_with vs) pages ∙ views_from vs vs refl)

-- .. and so is a table of them
pub table_from : (t u : Table) → rest_of u ≡ rest_of t → record t { views = views_with t.views (pages_of_views u.views) } ≡ u
table_from t u same =
    ap₂ (λ (rest : ℕ × List Copied × List (Option Dated)) (vs : List View). let x : Table = record { most = rest.0; views = vs; kept = rest.2 } in x) (sym same)
    (views_from t.views u.views (ap (λ (rest : ℕ × List Copied × List (Option Dated)). rest.1) same))

pub same_table : (t u : Table) → rest_of u ≡ rest_of t → pages_of_views u.views ≡ pages_of_views t.views → u ≡ t
same_table t u copies pages =
    ap₂ (λ (rest : ℕ × List Copied × List (Option Dated)) (vs : List View). let x : Table = record { most = rest.0; views = vs; kept = rest.2 } in x) copies
    (same_views t.views u.views (ap (λ (rest : ℕ × List Copied × List (Option Dated)). rest.1) copies) pages)

-- a page, and a view, after changes
abbrev pub page_after : List Change → Page → Page
page_after cs p = record p { bytes = put_on cs p.frame p.bytes; touched = p.touched || has_mark p.number cs; written = p.written || has_store_mark p.number cs }

abbrev pub after_changes : List Change → View → View
after_changes cs v = record v { present = put_on cs v.frame.0 v.present; touched = v.touched || has_mark v.vpn.0 cs; written = v.written || has_store_mark v.vpn.0 cs }

abbrev changed_once : Change → Page → Page
changed_once (Marked n access) p = record p { touched = p.touched || (p.number == n); written = p.written || ((p.number == n) && is_write access) }
changed_once (Put frame count at value) p = record p { bytes = if p.frame == frame then put_bytes count p.bytes at value else p.bytes }

marked_page : (p : Page) (access : Access) (b : Bool) → (if b then mark access p else p) ≡ record p { touched = p.touched || b; written = p.written || (b && is_write access) }
marked_page p access false = ap₂ (λ (t w : Bool). record p { touched = t; written = w }) (sym (or-false p.touched)) (sym (or-false p.written))
marked_page p Fetch true = ap₂ (λ (t w : Bool). record p { touched = t; written = w }) (sym (or_right p.touched true refl)) (sym (or-false p.written))
marked_page p Read true = ap₂ (λ (t w : Bool). record p { touched = t; written = w }) (sym (or_right p.touched true refl)) (sym (or-false p.written))
marked_page p Write true = ap₂ (λ (t w : Bool). record p { touched = t; written = w }) (sym (or_right p.touched true refl)) (sym (or_right p.written true refl))

put_page : (p : Page) (count at value : ℕ) (b : Bool) → (if b then record p { bytes = put_bytes count p.bytes at value } else p) ≡ record p { bytes = if b then put_bytes count p.bytes at value else p.bytes }
put_page p count at value true = refl
put_page p count at value false = refl

changed_page : (c : Change) (p : Page) → changed c p ≡ changed_once c p
changed_page (Marked n access) p = marked_page p access (p.number == n)
changed_page (Put frame count at value) p = put_page p count at value (p.frame == frame)

one_change : (c : Change) (cs : List Change) (p : Page) → page_after cs (changed_once c p) ≡ page_after (c ∷ cs) p
one_change (Marked n access) cs p =
    ap₂ (λ (t w : Bool). record p { bytes = put_on cs p.frame p.bytes; touched = t; written = w })
    (or_assoc p.touched (p.number == n) (has_mark p.number cs)) (or_assoc p.written ((p.number == n) && is_write access) (has_store_mark p.number cs))
one_change (Put frame count at value) cs p = refl

changes_map : (c : Change) (cs : List Change) (ps : List Page) → map (page_after cs) (map (changed c) ps) ≡ map (page_after (c ∷ cs)) ps
changes_map c cs [] = refl
changes_map c cs (p ∷ ps) = ap₂ (λ (q : Page) (qs : List Page). q ∷ qs) (ap (page_after cs) (changed_page c p) ∙ one_change c cs p) (changes_map c cs ps)

none_map : (ps : List Page) → ps ≡ map (page_after []) ps
none_map [] = refl
none_map (p ∷ ps) = ap₂ (λ (q : Page) (qs : List Page). q ∷ qs) (ap₂ (λ (t w : Bool). record p { touched = t; written = w }) (sym (or-false p.touched)) (sym (or-false p.written))) (none_map ps)

-- pages after some changes are each the page after them
pub pages_after : (cs : List Change) (ps : List Page) → all_changed cs ps ≡ map (page_after cs) ps
pages_after [] ps = none_map ps
pages_after (c ∷ cs) ps = pages_after cs (map (changed c) ps) ∙ changes_map c cs ps

pages_of_changed : (cs : List Change) (vs : List View) → map (page_after cs) (pages_of_views vs) ≡ pages_of_views (map (after_changes cs) vs)
pages_of_changed cs [] = refl
pages_of_changed cs (v ∷ vs) = ap (λ (ps : List Page). page_of (after_changes cs v) ∷ ps) (pages_of_changed cs vs)

copies_stay : (cs : List Change) (vs : List View) → copies_of (map (after_changes cs) vs) ≡ copies_of vs
copies_stay cs [] = refl
copies_stay cs (v ∷ vs) = ap (λ (ws : List Copied). copied v ∷ ws) (copies_stay cs vs)

pub views_changed : (cs : List Change) (vs : List View) → views_with vs (all_changed cs (pages_of_views vs)) ≡ map (after_changes cs) vs
views_changed cs vs = ap (views_with vs) (pages_after cs (pages_of_views vs) ∙ pages_of_changed cs vs) ∙ views_from vs (map (after_changes cs) vs) (copies_stay cs vs)
