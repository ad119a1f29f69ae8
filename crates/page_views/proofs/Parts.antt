-- Pages that are the same but for a part.
use Rattle.std.proofs.Common.{◌≡◌, ℕ, zero, suc, ◌+◌, ◌-◌, ◌≤◌, ◌/◌, ◌%◌, Bool, true, false, List, ◌++◌, take, drop, length, set, refl, ap, ap₂, sym, ◌∙◌, arith, drop-drop, take-append-drop}
use Rattle.std.specs.Prelude.{nat_le}
use Rattle.std.specs.Bool.{OnTrue}
use Rattle.std.proofs.lemmas.Bool.{leb-true}
use Rattle.std.proofs.lemmas.List.{drop_all, drop-set-lt, take-set-le, take-take}
use Rattle.rv32_exec.specs.Pages.{put_bytes}
use Rattle.page_views.specs.declared.part.Part.{Part}
use Rattle.page_views.specs.Parts.{AreAlikeBut, ReachesOver}

-- where there is no part, they are the same
pub same_all : (p : Part) (one other : List ℕ) → p.to ≤ p.from → AreAlikeBut p one other → one ≡ other
same_all p one other none alike =
    sym (take-append-drop p.to one)
    ∙ ap₂ (λ (xs ys : List ℕ). xs ++ ys) (sym (take-take p.to p.from one none) ∙ ap (take p.to) alike.before ∙ take-take p.to p.from other none) alike.behind
    ∙ take-append-drop p.to other

pub none_differs : (p : Part) → OnTrue (nat_le p.to p.from) ((one other : List ℕ) → AreAlikeBut p one other → one ≡ other)
none_differs p = by (nat_le p.to p.from) refl
  where
    by : (b : Bool) → nat_le p.to p.from ≡ b → OnTrue b ((one other : List ℕ) → AreAlikeBut p one other → one ≡ other)
    by true is = λ one other. same_all p one other (leb-true p.to p.from is)
    by false is = tt

-- the whole page is a part in which any two are the same
pub alike_in_all : (one other : List ℕ) → length one ≡ 4096 → length other ≡ 4096 → AreAlikeBut (record { from = 0; to = 4096 }) one other
alike_in_all one other size other_size =
    record {
      before = refl;
      behind = drop_all 4096 one (omega (arith, size)) ∙ sym (drop_all 4096 other (omega (arith, other_size)));
    }

-- in a wider part too
pub alike_wider : (old new : Part) (one other : List ℕ) → ReachesOver old new → AreAlikeBut old one other → AreAlikeBut new one other
alike_wider old new one other over alike =
    let from = over.from in
    let to : old.to + (new.to - old.to) ≡ new.to = let le = over.to in omega arith in
    let before : (xs : List ℕ) → take new.from (take old.from xs) ≡ take new.from xs = λ xs. take-take new.from old.from xs from in
    let behind : (xs : List ℕ) → drop (new.to - old.to) (drop old.to xs) ≡ drop new.to xs = λ xs. drop-drop (new.to - old.to) old.to xs ∙ ap (λ (n : ℕ). drop n xs) to in
    record {
      before = sym (before one) ∙ ap (take new.from) alike.before ∙ before other;
      behind = sym (behind one) ∙ ap (drop (new.to - old.to)) alike.behind ∙ behind other;
    }

-- a number that is put changes nothing before it and behind it
take_put : (count : ℕ) (bytes : List ℕ) (at value n : ℕ) → n ≤ at → take n (put_bytes count bytes at value) ≡ take n bytes
take_put zero bytes at value n before = refl
take_put (suc count) bytes at value n before = take_put count (set bytes at (value % 256)) (at + 1) (value / 256) n (omega (arith, before)) ∙ take-set-le n bytes at (value % 256) before

drop_put : (count : ℕ) (bytes : List ℕ) (at value n : ℕ) → at + count ≤ n → drop n (put_bytes count bytes at value) ≡ drop n bytes
drop_put zero bytes at value n behind = refl
drop_put (suc count) bytes at value n behind = drop_put count (set bytes at (value % 256)) (at + 1) (value / 256) n (omega (arith, behind)) ∙ drop-set-lt n bytes at (value % 256) (omega (arith, behind))

pub alike_put : (old new : Part) (one other after : List ℕ) (count at value : ℕ) → ReachesOver old new → new.from ≤ at → at + count ≤ new.to → after ≡ put_bytes count other at value → AreAlikeBut old one other → AreAlikeBut new one after
alike_put old new one other after count at value over from to put alike =
    let wider = alike_wider old new one other over alike in
    record {
      before = wider.before ∙ sym (ap (take new.from) put ∙ take_put count other at value new.from from);
      behind = wider.behind ∙ sym (ap (drop new.to) put ∙ drop_put count other at value new.to to);
    }

-- the part of one page over that of the other
pub copied_over : (p : Part) (into bytes part : List ℕ) → p.from ≤ p.to → AreAlikeBut p into bytes → part ≡ take (p.to - p.from) (drop p.from bytes) → take p.from into ++ (part ++ drop (p.to - p.from) (drop p.from into)) ≡ bytes
copied_over p into bytes part order alike is =
    let to : p.from + (p.to - p.from) ≡ p.to = omega (arith, order) in
    let behind : (xs : List ℕ) → drop (p.to - p.from) (drop p.from xs) ≡ drop p.to xs = λ xs. drop-drop (p.to - p.from) p.from xs ∙ ap (λ (n : ℕ). drop n xs) to in
    let rest : part ++ drop (p.to - p.from) (drop p.from into) ≡ drop p.from bytes =
    ap₂ (λ (xs ys : List ℕ). xs ++ ys) is (behind into ∙ alike.behind ∙ sym (behind bytes)) ∙ take-append-drop (p.to - p.from) (drop p.from bytes) in
    ap₂ (λ (xs ys : List ℕ). xs ++ ys) alike.before rest ∙ take-append-drop p.from bytes
