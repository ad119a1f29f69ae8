-- A step over the pages of two memories that agree wherever the rights let read: it makes the same of both.
use Rattle.std.proofs.Common.{◌≡◌, ℕ, ◌+◌, ◌-◌, ◌*◌, ◌/◌, ◌%◌, ◌<◌, min, Bool, true, false, ◌&&◌, ◌||◌, List, [], ◌∷◌, map, Option, Some, None, refl, ap, sym, ◌∙◌, subst, arith, ext_get_or}
use Rattle.std.specs.Prelude.{if◌then◌else◌, ◌==◌}
use Rattle.std.specs.List.{find}
use Rattle.std.specs.Option.{option_map}
use Rattle.std.proofs.lemmas.Option.{same_Some}
use Rattle.cache_ident.specs.declared.names.Frame.{Frame}
use Rattle.phys_groups.specs.declared.rows.Row.{Row}
use Rattle.phys_groups.specs.Memory.{page_at}
use Rattle.phys_groups.specs.Translation.{right_on, implies, is_fit}
use Rattle.flat_state.specs.rv32_exec.specs.declared.contexts.Context.{Context}
use Rattle.flat_state.specs.rv32_exec.specs.declared.statuses.Access.{Access}
use Rattle.flat_state.specs.rv32_exec.specs.declared.statuses.Access.TheVariants.{Fetch, Read, Write}
use Rattle.flat_state.specs.rv32_exec.specs.declared.spaces.Width.{Width}
use Rattle.flat_state.specs.rv32_exec.specs.declared.spaces.Width.TheVariants.{Word}
use Rattle.flat_state.specs.rv32_exec.specs.Pages.{Page, where_allowed, translation, number_at, read_through, fetched, loaded}
use Rattle.flat_state.specs.rv32_exec.specs.Changes.{Change, Marked, Put, all_changed}
use Rattle.flat_state.specs.rv32_exec.specs.Steps.{After, after_step}
use Rattle.flat_state.specs.rv32_exec.proofs.StepChanges.{IsPut, AreMade, steps_alike}
use Rattle.flat_state.specs.Pages.{page_of}
use Rattle.flat_laws.specs.Rights.{AgreeWhereReadable}
use Rattle.phys_groups.proofs.PageBytes.{get_or-page_at}
use Rattle.flat_laws.proofs.PageBytes.{length-page_at}
use Rattle.flat_laws.proofs.Members.{find-map}
use Rattle.flat_laws.proofs.Changes.{AreAllowed}

-- a flag of a row that is fit has the right that it asks for
fetch_right : (x r on rest : Bool) → (x && (implies (r || x) on && rest)) ≡ true → on ≡ true
fetch_right true true true rest e = refl
fetch_right true true false rest e = e
fetch_right true false true rest e = refl
fetch_right true false false rest e = e
fetch_right false r on rest e = cc

load_right : (x r on rest : Bool) → (r && (implies (r || x) on && rest)) ≡ true → on ≡ true
load_right x true true rest e = refl
load_right x true false rest e = e
load_right x false on rest e = cc

store_right : (w first on : Bool) → (w && (first && implies w on)) ≡ true → on ≡ true
store_right true true true e = refl
store_right true true false e = e
store_right true false on e = cc
store_right false first on e = cc

-- whether an access may go through a row
abbrev allows_row : List (Bool × Bool) → Access → Row → Bool
allows_row rights Fetch row = row.flags.x && is_fit rights row
allows_row rights Read row = row.flags.r && is_fit rights row
allows_row rights Write row = row.flags.w && is_fit rights row

abbrev row_allowed : List (Bool × Bool) → Access → Option Row → Option Row
row_allowed rights access None = None
row_allowed rights access (Some row) = if allows_row rights access row then Some row else None

-- the row that an access goes through
abbrev row_for : List (Bool × Bool) → List Row → ℕ → Access → Option Row
row_for rights rows va access = row_allowed rights access (find (λ r. r.vpn.0 == va / 4096) rows)

abbrev pub pages : List (Bool × Bool) → List Row → List ℕ → List Page
pages rights rows memory = map (page_of rights memory) rows

page_allowed : (rights : List (Bool × Bool)) (memory : List ℕ) (access : Access) (found : Option Row) → where_allowed access (option_map (page_of rights memory) found) ≡ option_map (page_of rights memory) (row_allowed rights access found)
page_allowed rights memory access None = refl
page_allowed rights memory access (Some row) = by_access access
  where
    by_test : (b : Bool) → (if b then Some (page_of rights memory row) else None) ≡ option_map (page_of rights memory) (if b then Some row else None)
    by_test true = refl
    by_test false = refl

    by_access : (access : Access) → where_allowed access (Some (page_of rights memory row)) ≡ option_map (page_of rights memory) (if allows_row rights access row then Some row else None)
    by_access Fetch = by_test (row.flags.x && is_fit rights row)
    by_access Read = by_test (row.flags.r && is_fit rights row)
    by_access Write = by_test (row.flags.w && is_fit rights row)

translation_is : (rights : List (Bool × Bool)) (rows : List Row) (memory : List ℕ) (va : ℕ) (access : Access) → translation (pages rights rows memory) va access ≡ option_map (page_of rights memory) (row_for rights rows va access)
unfolding translation
translation_is rights rows memory va access =
    ap (where_allowed access) (find-map (λ p. p.number == va / 4096) (λ r. r.vpn.0 == va / 4096) (page_of rights memory) (λ r. refl) rows) ∙ page_allowed rights memory access (find (λ r. r.vpn.0 == va / 4096) rows)

-- what a store puts goes to a frame whose group has its write bit
put_allowed : (rights : List (Bool × Bool)) (rows : List Row) (memory : List ℕ) (frame count at : ℕ) → IsPut (pages rights rows memory) frame count at → (right_on rights (frame / 128)).1 ≡ true
put_allowed rights rows memory frame count at put =
    by_row (find (λ r. r.vpn.0 == put.va / 4096) rows) (sym (translation_is rights rows memory put.va Write) ∙ put.there)
  where
    by_row : (found : Option Row) → option_map (page_of rights memory) (row_allowed rights Write found) ≡ Some put.page → (right_on rights (frame / 128)).1 ≡ true
    by_row None e = absurd (cc)
    by_row (Some row) e =
        by_test (row.flags.w && is_fit rights row) (store_right row.flags.w (implies (row.flags.r || row.flags.x) (right_on rights (row.frame.0 / 128)).0) (right_on rights (row.frame.0 / 128)).1) e
      where
        by_test : (b : Bool) → (b ≡ true → (right_on rights (row.frame.0 / 128)).1 ≡ true) → option_map (page_of rights memory) (if b then Some row else None) ≡ Some put.page → (right_on rights (frame / 128)).1 ≡ true
        by_test true on e = subst (λ f. (right_on rights (f / 128)).1 ≡ true) (ap (λ (p : Page). p.frame) (same_Some _ _ e) ∙ sym put.frame_is) (on refl)
        by_test false on e = absurd (cc)

all_allowed : (rights : List (Bool × Bool)) (rows : List Row) (memory : List ℕ) (cs : List Change) → AreMade (pages rights rows memory) cs → AreAllowed rights cs
all_allowed rights rows memory [] made = tt
all_allowed rights rows memory (Marked number access ∷ cs) made = all_allowed rights rows memory cs made.1
all_allowed rights rows memory (Put frame count at value ∷ cs) made = (put_allowed rights rows memory frame count at made.0, all_allowed rights rows memory cs made.1)

-- What a step makes of two lists of pages: one context, one answer, and the same changes, which the rights allow.
pub record Alike (rights : List (Bool × Bool)) (ps qs : List Page) (a b : After) : Type 0 where
  pub context : a.context ≡ b.context
  pub answer : a.answer ≡ b.answer
  pub changes : List Change
  pub here : a.pages ≡ all_changed changes ps
  pub there : b.pages ≡ all_changed changes qs
  pub allowed : AreAllowed rights changes

module _ (rights : List (Bool × Bool)) (rows : List Row) (m v : List ℕ) (agree : AgreeWhereReadable rights m v) where
  -- the pages of a group that may be read are the same
  page_agrees : (frame : Frame) → (right_on rights (frame.0 / 128)).0 ≡ true → page_at m frame ≡ page_at v frame
  page_agrees frame on =
      ext_get_or 0 (page_at m frame) (page_at v frame)
      (length-page_at m frame ∙ ap (λ n. min 4096 (n - 4096 * frame.0)) agree.size ∙ sym (length-page_at v frame))
      (λ j below.
      let within : j < 4096 = omega (arith, length-page_at m frame) in
      let group : frame.0 / 128 ≡ (4096 * frame.0 + j) / 524288 = omega arith in
      get_or-page_at m frame j 0 within
      ∙ agree.bytes (4096 * frame.0 + j) (subst (λ g. (right_on rights g).0 ≡ true) group on)
      ∙ sym (get_or-page_at v frame j 0 within))

  row_agrees : (width : Width) (at : ℕ) (row : Row) (b : Bool) → (b ≡ true → (right_on rights (row.frame.0 / 128)).0 ≡ true) → option_map (λ p. number_at width p.bytes at) (option_map (page_of rights m) (if b then Some row else None)) ≡ option_map (λ p. number_at width p.bytes at) (option_map (page_of rights v) (if b then Some row else None))
  row_agrees width at row true on = ap (λ bytes. Some (number_at width bytes at)) (page_agrees row.frame (on refl))
  row_agrees width at row false on = refl

  fetch_agrees : (width : Width) (at : ℕ) (found : Option Row) → option_map (λ p. number_at width p.bytes at) (option_map (page_of rights m) (row_allowed rights Fetch found)) ≡ option_map (λ p. number_at width p.bytes at) (option_map (page_of rights v) (row_allowed rights Fetch found))
  fetch_agrees width at None = refl
  fetch_agrees width at (Some row) = row_agrees width at row (row.flags.x && is_fit rights row) (fetch_right row.flags.x row.flags.r (right_on rights (row.frame.0 / 128)).0 (implies row.flags.w (right_on rights (row.frame.0 / 128)).1))

  load_agrees : (width : Width) (at : ℕ) (found : Option Row) → option_map (λ p. number_at width p.bytes at) (option_map (page_of rights m) (row_allowed rights Read found)) ≡ option_map (λ p. number_at width p.bytes at) (option_map (page_of rights v) (row_allowed rights Read found))
  load_agrees width at None = refl
  load_agrees width at (Some row) = row_agrees width at row (row.flags.r && is_fit rights row) (load_right row.flags.x row.flags.r (right_on rights (row.frame.0 / 128)).0 (implies row.flags.w (right_on rights (row.frame.0 / 128)).1))

  read_is : (access : Access) (memory : List ℕ) (va : ℕ) (width : Width) → read_through access (pages rights rows memory) va width ≡ option_map (λ p. number_at width p.bytes (va % 4096)) (option_map (page_of rights memory) (row_for rights rows va access))
  unfolding read_through
  read_is access memory va width = ap (option_map (λ p. number_at width p.bytes (va % 4096))) (translation_is rights rows memory va access)

  -- so a fetch and a load get the same number
  pub fetched_agrees : (va : ℕ) → fetched (pages rights rows m) va ≡ fetched (pages rights rows v) va
  fetched_agrees va = read_is Fetch m va Word ∙ fetch_agrees Word (va % 4096) (find (λ r. r.vpn.0 == va / 4096) rows) ∙ sym (read_is Fetch v va Word)

  loaded_agrees : (va : ℕ) (width : Width) → loaded (pages rights rows m) va width ≡ loaded (pages rights rows v) va width
  loaded_agrees va width = read_is Read m va width ∙ load_agrees width (va % 4096) (find (λ r. r.vpn.0 == va / 4096) rows) ∙ sym (read_is Read v va width)

  stores_agree : (va : ℕ) → option_map (λ p. p.frame) (translation (pages rights rows m) va Write) ≡ option_map (λ p. p.frame) (translation (pages rights rows v) va Write)
  stores_agree va = ap (option_map (λ p. p.frame)) (translation_is rights rows m va Write) ∙ by_row (row_for rights rows va Write) ∙ sym (ap (option_map (λ p. p.frame)) (translation_is rights rows v va Write))
    where
      by_row : (found : Option Row) → option_map (λ p. p.frame) (option_map (page_of rights m) found) ≡ option_map (λ p. p.frame) (option_map (page_of rights v) found)
      by_row None = refl
      by_row (Some row) = refl

  -- the step makes the same of both
  pub pages_alike : (c : Context) → Alike rights (pages rights rows m) (pages rights rows v) (after_step c (pages rights rows m)) (after_step c (pages rights rows v))
  pages_alike c =
      let step = steps_alike c (pages rights rows m) (pages rights rows v) (record { fetches = fetched_agrees; loads = loaded_agrees; stores = stores_agree }) in
      record { context = step.context; answer = step.answer; changes = step.changes; here = step.here; there = step.there; allowed = all_allowed rights rows m step.changes step.each }
