-- Where identifiers stand once some have left, or one was issued.
use Rattle.std.proofs.Common.{◌≡◌, ℕ, ◌+◌, Bool, true, false, cond, List, [], ◌∷◌, ◌++◌, length, Contains, Option, Some, None, refl, ap, sym, ◌∙◌, subst, inl, inr, arith}
use Rattle.std.proofs.lemmas.Bool.{cases_Bool}
use Rattle.std.proofs.lemmas.List.{length-map, length-append}
use Rattle.cache_ident.specs.declared.idents.Cause.{Cause}
use Rattle.cache_ident.specs.declared.idents.Ident.{Ident}
use Rattle.cache_ident.specs.declared.idents.Standing.{Standing}
use Rattle.cache_ident.specs.declared.idents.Standing.TheVariants.{Live, Left, Never}
use Rattle.cache_ident.specs.declared.rolls.Issued.{Issued}
use Rattle.cache_ident.specs.Rolls.{departed, departed_if, is_same, just_issued, standing_in, standing_since, IsNumberedFrom}
use Rattle.cache_ident.proofs.RollLemmas.{never_above, numbered-departed, same_ident, standing_in-departed_other}
use Rattle.quantum.specs.flat_laws.proofs.Members.{Contains-behind, Contains-here}
use Rattle.desc_tables.specs.run_journal.specs.declared.entries.Entry.TheVariants.{WrittenBack}
use Rattle.desc_tables.specs.run_journal.specs.Standing.{standing_after, standing_from}
use Rattle.desc_tables.specs.run_journal.proofs.Others.{other_ident}
use Rattle.desc_tables.specs.desc_groups.specs.declared.departures.Gone.{Gone}
use Rattle.desc_tables.specs.desc_groups.specs.Moves.{departed_all, idents_of}
use Rattle.board_laws.specs.Moves.{written_back}

-- the identifier was issued
abbrev pub WasIssued : List Issued → Ident → Type 0
WasIssued issued ident = standing_in issued ident ≡ Never → ⊥

-- ---- one that leaves

has_left : (issued : List Issued) (ident : Ident) (at : ℕ) → WasIssued issued ident → standing_in (departed issued ident at) ident ≡ Left at
has_left [] ident at was = absurd (was refl)
has_left (e ∷ rest) ident at was = by (is_same e.ident ident) was (λ behind. has_left rest ident at behind)
  where
    by : (b : Bool) → (cond b (standing_since e.left) (standing_in rest ident) ≡ Never → ⊥) → (WasIssued rest ident → standing_in (departed rest ident at) ident ≡ Left at)
        → cond b (standing_since (cond b (Some at) e.left)) (standing_in (departed rest ident at) ident) ≡ Left at
    by true was behind = refl
    by false was behind = behind was

-- it stands where the entry says
back_stands : (issued : List Issued) (ident : Ident) (cause : Cause) (cpu at : ℕ) (x : Ident) → WasIssued issued ident → standing_after at x (standing_in issued x) (WrittenBack ident cause cpu) ≡ standing_in (departed issued ident at) x
back_stands issued ident cause cpu at x was = elim (cases_Bool (is_same ident x)) [
  | inl same ↦
      ap (λ (b : Bool). cond b (Left at) (standing_in issued x)) same
      ∙ subst (λ (y : Ident). Left at ≡ standing_in (departed issued ident at) y) (same_ident ident x same) (sym (has_left issued ident at was))
  | inr other ↦
      ap (λ (b : Bool). cond b (Left at) (standing_in issued x)) other
      ∙ sym (standing_in-departed_other issued ident at x (λ e. other_ident ident x other (sym e)))
]

-- what was issued was issued still
still_issued : (issued : List Issued) (ident : Ident) (at : ℕ) (x : Ident) → WasIssued issued x → WasIssued (departed issued ident at) x
still_issued issued ident at x was = elim (cases_Bool (is_same ident x)) [
  | inl same ↦ (λ never.
      let left : standing_in (departed issued x at) x ≡ Left at = has_left issued x at was in
      let left_so : standing_in (departed issued ident at) x ≡ Left at = subst (λ (y : Ident). standing_in (departed issued y at) x ≡ Left at) (sym (same_ident ident x same)) left in
      absurd (cc))
  | inr other ↦ (λ never. was (sym (standing_in-departed_other issued ident at x (λ e. other_ident ident x other (sym e))) ∙ never))
]

-- ---- all of a group

pub all_stand : (gone : List Gone) (cpu : ℕ) (issued : List Issued) (at : ℕ) (x : Ident) → ((ident : Ident) → Contains (idents_of gone) ident → WasIssued issued ident) → standing_from at x (standing_in issued x) (written_back cpu gone) ≡ standing_in (departed_all issued (idents_of gone) at) x
all_stand [] cpu issued at x were = refl
all_stand (g ∷ gone) cpu issued at x were =
    ap (λ (standing : Standing). standing_from (at + 1) x standing (written_back cpu gone)) (back_stands issued g.ident g.cause cpu at x (were g.ident (Contains-here g.ident (idents_of gone))))
    ∙ all_stand gone cpu (departed issued g.ident at) (at + 1) x (λ ident there. still_issued issued g.ident at ident (were ident (Contains-behind g.ident (idents_of gone) ident there)))

pub numbered_all : (issued : List Issued) (idents : List Ident) (at : ℕ) → IsNumberedFrom 0 issued → IsNumberedFrom 0 (departed_all issued idents at)
numbered_all issued [] at numbered = numbered
numbered_all issued (ident ∷ idents) at numbered = numbered_all (departed issued ident at) idents (at + 1) (numbered-departed 0 issued ident at numbered)

pub length_all : (issued : List Issued) (idents : List Ident) (at : ℕ) → length (departed_all issued idents at) ≡ length issued
length_all issued [] at = refl
length_all issued (ident ∷ idents) at = length_all (departed issued ident at) idents (at + 1) ∙ length-map issued (departed_if ident at)

-- ---- one that was issued

-- an entry of the roll that isn't the identifier's, where it stands nowhere
not_its : (left : Option ℕ) (b : Bool) (rest : Standing) → cond b (standing_since left) rest ≡ Never → (b ≡ false) × (rest ≡ Never)
not_its None true rest never = absurd (cc)
not_its (Some at) true rest never = absurd (cc)
not_its left false rest never = (refl, never)

pub new_stands : (issued : List Issued) (ident x : Ident) → standing_in issued ident ≡ Never → standing_in (issued ++ just_issued ident ∷ []) x ≡ cond (is_same ident x) Live (standing_in issued x)
new_stands [] ident x never = refl
new_stands (e ∷ rest) ident x never =
    let its = not_its e.left (is_same e.ident ident) (standing_in rest ident) never in
    by (is_same e.ident x) refl its.0 (new_stands rest ident x its.1)
  where
    by : (b : Bool) → is_same e.ident x ≡ b → is_same e.ident ident ≡ false → standing_in (rest ++ just_issued ident ∷ []) x ≡ cond (is_same ident x) Live (standing_in rest x)
        → cond b (standing_since e.left) (standing_in (rest ++ just_issued ident ∷ []) x) ≡ cond (is_same ident x) Live (cond b (standing_since e.left) (standing_in rest x))
    by false is other behind = behind
    by true is other behind = elim (cases_Bool (is_same ident x)) [
      | inl same ↦ absurd (other_ident e.ident ident other (same_ident e.ident x is ∙ sym (same_ident ident x same)))
      | inr differs ↦ sym (ap (λ (b : Bool). cond b Live (standing_since e.left)) differs)
    ]

-- the next serial is that of no entry
pub next_is_new : (issued : List Issued) (ident : Ident) → IsNumberedFrom 0 issued → ident.serial ≡ length issued → standing_in issued ident ≡ Never
next_is_new issued ident numbered next = never_above 0 issued ident numbered (omega arith)

pub length_issued : (issued : List Issued) (ident : Ident) → length (issued ++ just_issued ident ∷ []) ≡ length issued + 1
length_issued issued ident = length-append issued (just_issued ident ∷ [])
