-- A store and a mark leave what translates as it was.
use Rattle.std.proofs.Common.{◌≡◌, ℕ, ◌/◌, ◌%◌, Bool, true, false, cond, eqb, List, [], ◌∷◌, Option, Some, None, refl, ap, sym, ◌∙◌}
use Rattle.std.specs.Prelude.{map, is_some, if◌then◌else◌, ◌==◌}
use Rattle.std.specs.List.{find}
use Rattle.std.specs.Option.{option_map}
use Rattle.rv32_exec.specs.declared.statuses.Access.{Access}
use Rattle.rv32_exec.specs.declared.statuses.Access.TheVariants.{Fetch, Read, Write}
use Rattle.rv32_exec.specs.declared.spaces.Width.{Width}
use Rattle.rv32_exec.specs.Pages.{Page, size_of, allows, where_allowed, translation, translates, read_through, put_bytes, put_in_frame, stored_through, stored, mark, mark_page, touched_at}

-- a change of a page that keeps its number and its flags
pub record KeepsPage (f : Page → Page) : Type 0 where
  pub number_stays : (p : Page) → (f p).number ≡ p.number
  pub flags_stay : (access : Access) (p : Page) → allows access (f p) ≡ allows access p

find-map : (f : Page → Page) → KeepsPage f → (number : ℕ) (ps : List Page) → find (λ p. p.number == number) (map f ps) ≡ option_map f (find (λ p. p.number == number) ps)
find-map f k number [] = refl
find-map f k number (p ∷ ps) =
    ap (λ n. cond (eqb n number) (Some (f p)) (find (λ q. q.number == number) (map f ps))) (k.number_stays p)
    ∙ (ap (cond (p.number == number) (Some (f p))) (find-map f k number ps) ∙ by_test (p.number == number) p (find (λ q. q.number == number) ps))
  where
    by_test : (b : Bool) (p : Page) (r : Option Page) → cond b (Some (f p)) (option_map f r) ≡ option_map f (cond b (Some p) r)
    by_test true p r = refl
    by_test false p r = refl

where_allowed-map : (f : Page → Page) → KeepsPage f → (access : Access) (r : Option Page) → is_some (where_allowed access (option_map f r)) ≡ is_some (where_allowed access r)
where_allowed-map f k access None = refl
where_allowed-map f k access (Some p) =
    ap (λ b. is_some (if b then Some (f p) else None)) (k.flags_stay access p) ∙ by_test (allows access p)
  where
    by_test : (b : Bool) → is_some (if b then Some (f p) else None) ≡ is_some (if b then Some p else None)
    by_test true = refl
    by_test false = refl

pub translates-map : (f : Page → Page) → KeepsPage f → (ps : List Page) (va : ℕ) (access : Access) → translates (map f ps) va access ≡ translates ps va access
unfolding translates translation
translates-map f k ps va access =
    ap (λ r. is_some (where_allowed access r)) (find-map f k (va / 4096) ps) ∙ where_allowed-map f k access (find (λ p. p.number == va / 4096) ps)

put_keeps : (frame count at value : ℕ) → KeepsPage (put_in_frame frame count at value)
put_keeps frame count at value = record {
  number_stays = λ p. elim (p.frame == frame) as (λ b. (if b then record p { bytes = put_bytes count p.bytes at value } else p).number ≡ p.number) [ true ↦ refl | false ↦ refl ];
  flags_stay = λ access p. flags access p (p.frame == frame);
}
  where
    flags : (access : Access) (p : Page) (b : Bool) → allows access (if b then record p { bytes = put_bytes count p.bytes at value } else p) ≡ allows access p
    flags Fetch p true = refl
    flags Fetch p false = refl
    flags Read p true = refl
    flags Read p false = refl
    flags Write p true = refl
    flags Write p false = refl

mark_keeps : (number : ℕ) (marked : Access) → KeepsPage (mark_page number marked)
mark_keeps number marked = record {
  number_stays = λ p. numbers p (p.number == number) marked;
  flags_stay = λ access p. flags access p (p.number == number) marked;
}
  where
    numbers : (p : Page) (b : Bool) (m : Access) → (if b then mark m p else p).number ≡ p.number
    numbers p true Fetch = refl
    numbers p true Read = refl
    numbers p true Write = refl
    numbers p false m = refl

    flags : (access : Access) (p : Page) (b : Bool) (m : Access) → allows access (if b then mark m p else p) ≡ allows access p
    flags access p false m = refl
    flags Fetch p true Fetch = refl
    flags Fetch p true Read = refl
    flags Fetch p true Write = refl
    flags Read p true Fetch = refl
    flags Read p true Read = refl
    flags Read p true Write = refl
    flags Write p true Fetch = refl
    flags Write p true Read = refl
    flags Write p true Write = refl

pub translates-touched_at : (ps : List Page) (at : ℕ) (marked : Access) (va : ℕ) (access : Access) → translates (touched_at ps at marked) va access ≡ translates ps va access
unfolding touched_at
translates-touched_at ps at marked va access = translates-map (mark_page (at / 4096) marked) (mark_keeps (at / 4096) marked) ps va access

pub translates-stored : (ps : List Page) (at : ℕ) (width : Width) (value va : ℕ) (access : Access) → translates (stored ps at width value) va access ≡ translates ps va access
unfolding stored
translates-stored ps at width value va access = by_page (translation ps at Write)
  where
    by_page : (r : Option Page) → translates (stored_through r ps at width value) va access ≡ translates ps va access
    by_page None = refl
    by_page (Some p) = translates-map (put_in_frame p.frame (size_of width) (at % 4096) value) (put_keeps p.frame (size_of width) (at % 4096) value) ps va access

pub is_some-option_map : {A B : Type 0} (f : A → B) (r : Option A) → is_some (option_map f r) ≡ is_some r
is_some-option_map f None = refl
is_some-option_map f (Some p) = refl

-- what was read has a translation
pub translates-read : (access : Access) (ps : List Page) (va : ℕ) (width : Width) (n : ℕ) → Some n ≡ read_through access ps va width → translates ps va access ≡ true
unfolding translates read_through
translates-read access ps va width n e = sym (ap is_some e ∙ is_some-option_map _ (translation ps va access))

-- a store where nothing translates changes nothing
pub stored_where_none : (ps : List Page) (va : ℕ) (width : Width) (value : ℕ) → translates ps va Write ≡ false → stored ps va width value ≡ ps
unfolding translates stored
stored_where_none ps va width value e = by_page (translation ps va Write) e
  where
    by_page : (r : Option Page) → is_some r ≡ false → stored_through r ps va width value ≡ ps
    by_page None e = refl
    by_page (Some p) e = cc

pub ruleset translations = (translates-touched_at, translates-stored, translates-read, stored_where_none)
