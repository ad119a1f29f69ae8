-- What the facts stand for behind an entry.
use Rattle.std.proofs.Common.{◌≡◌, ◌↔◌, ℕ, ◌+◌, ◌<◌, ◌^◌, Bool, true, false, List, [], ◌++◌, Option, Some, None, IsTrue, refl, ap, sym, ◌∙◌, subst, inl, inr, arith}
use Rattle.std.specs.Bool.{MatchBool}
use Rattle.std.specs.Prelude.{SomeIff, Result, Ok, Err, IfOk, MatchResult, is_ok, not}
use Rattle.std.specs.declared.alloc.AllocError.{AllocError}
use Rattle.std.proofs.lemmas.Bool.{cases_lt, false≢true}
use Rattle.std.proofs.lemmas.Option.{none-some}
use Rattle.cache_ident.specs.declared.idents.Ident.{Ident}
use Rattle.cache_ident.specs.Residents.{Resident}
use Rattle.flat_state.specs.declared.events.Decl.{Decl}
use Rattle.flat_state.specs.declared.events.Event.{Event}
use Rattle.flat_state.specs.State.{FlatState, nothing_declared}
use Rattle.flat_state.specs.Events.{after_events}
use Rattle.run_journal.specs.declared.entries.Entry.{Entry}
use Rattle.run_journal.specs.declared.entries.Entry.TheVariants.{Declared, Sealed, Loaded, WrittenBack, Locked, Unlocked, Ran, Ended, Completed}
use Rattle.run_journal.specs.Told.{Told}
use Rattle.run_journal.specs.Legal.{IsInPlace}
use Rattle.run_journal.proofs.Growth.{after_events-append}
use Rattle.journal_groups.specs.journal_tables.specs.Tables.{AreOf}
use Rattle.journal_groups.specs.declared.group.Group.{Group}
use Rattle.journal_groups.specs.Leaving.{IsLeaving}
use Rattle.journal_facts.specs.declared.facts.Facts.{Facts}
use Rattle.journal_facts.specs.Facts.{IsNumberOf, StandFor}

-- both cases, and what follows in each
pub match_map : (b : Bool) (P Q R S : Type 0) → MatchBool b P Q → (P → R) → (Q → S) → MatchBool b R S
match_map true P Q R S is so otherwise = so is
match_map false P Q R S is so otherwise = otherwise is

-- what follows of the answer, if there is one
pub if_answered : (r : Result Bool AllocError) (P Q : Bool → Type 0) → ((b : Bool) → P b → Q b) → IfOk r P → IfOk r Q
if_answered (Ok b) P Q follows is = follows b is
if_answered (Err e) P Q follows is = tt

-- one load more
pub number_more : (o : Option ℕ) (n loads : ℕ) → n ≡ loads → SomeIff o (n + 1 < 2 ^ 64) (n + 1) → IsNumberOf o (loads + 1)
number_more None n loads its not_below = elim (cases_lt (n + 1) (2 ^ 64)) [
  | inl below ↦ absurd (not_below below)
  | inr above ↦ omega arith
]
number_more (Some next) n loads its is = is.1 ∙ ap (λ (m : ℕ). m + 1) its

-- behind the seal nothing is asked of what was before it
pub late : {A : Type 0} (sealed : Bool) → sealed ≡ true → sealed ≡ false → A
late sealed on off = absurd (false≢true (sym off ∙ on))

-- some more events, in the machine and in what is told
pub stand_more : (old new : Facts) (k after : Told) (more : List Event) → StandFor old k → after.state ≡ after_events k.state more → after_events old.flat more ≡ new.flat → AreOf new.tables after
    → IsNumberOf new.loads after.loads → new.sealed ≡ after.sealed → (after.sealed ≡ false → after.residents ≡ []) → StandFor new after
stand_more old new k after more stand told made tables loads seal early = record {
  state = told ∙ ap (λ (s : FlatState). after_events s more) stand.state ∙ made;
  events = stand.events ++ more;
  made = told ∙ ap (λ (s : FlatState). after_events s more) stand.made ∙ sym (after_events-append nothing_declared stand.events more);
  tables = tables;
  loads = loads;
  seal = seal;
  early = early;
}

-- behind the seal, what is resident changes and the machine stays
pub stand_on : (old new : Facts) (k after : Told) → StandFor old k → k.sealed ≡ true → after.state ≡ k.state → old.flat ≡ new.flat → AreOf new.tables after → IsNumberOf new.loads after.loads → new.sealed ≡ old.sealed → after.sealed ≡ k.sealed → StandFor new after
stand_on old new k after stand sealed state flat tables loads seal told_seal =
    stand_more old new k after [] stand state flat tables loads (seal ∙ stand.seal ∙ sym told_seal) (λ off. late k.sealed sealed (sym told_seal ∙ off))

-- nothing has left of a group
pub none_left : (group : Group) (k : Told) → k.before ≡ k.residents → k.left ≡ [] → IsLeaving group k.state k.residents k.residents [] → IsLeaving group k.state k.before k.residents k.left
none_left group k before left none =
    subst (λ (rs : List Resident). IsLeaving group k.state rs k.residents k.left) (sym before)
    (subst (λ (is : List Ident). IsLeaving group k.state k.residents k.residents is) (sym left) none)

-- what is answered exactly where it is so, and then more is so
pub decided : (b : Bool) (P Q : Type 0) → (IsTrue b ↔ P) → Q → MatchBool b (P × Q) (P → ⊥)
decided true P Q is q = (is.0 refl, q)
decided false P Q is q = λ p. false≢true (is.1 p)

-- a declaration is admitted exactly where it breaks no rule
pub admitted : (r : Result (Unit {0}) ℕ) (rule : Option ℕ) → MatchResult r (λ x. rule ≡ None) (λ number. rule ≡ Some number) → IsTrue (is_ok r) ↔ (rule ≡ None)
admitted (Ok x) rule is = (λ e. is, λ none. refl)
admitted (Err number) rule is = (λ e. absurd (false≢true e), λ none. absurd (none-some number (sym none ∙ is)))

-- all but declarations and the seal stand behind the seal
pub behind_seal : (k : Told) (e : Entry) → ((d : Decl) → e ≡ Declared d → ⊥) → (e ≡ Sealed → ⊥) → (k.sealed ≡ true) ↔ IsInPlace k e
behind_seal k (Declared d) other_one other = absurd (other_one d refl)
behind_seal k Sealed other_one other = absurd (other refl)
behind_seal k (Loaded ident name cpu) other_one other = (λ on. on, λ on. on)
behind_seal k (WrittenBack ident cause cpu) other_one other = (λ on. on, λ on. on)
behind_seal k (Locked ident cpu) other_one other = (λ on. on, λ on. on)
behind_seal k (Unlocked ident cpu) other_one other = (λ on. on, λ on. on)
behind_seal k (Ran thread steps cpu) other_one other = (λ on. on, λ on. on)
behind_seal k (Ended thread cpu) other_one other = (λ on. on, λ on. on)
behind_seal k (Completed thread cpu) other_one other = (λ on. on, λ on. on)

-- what isn't true is false
pub turned : (b : Bool) → (not b ≡ true) ↔ (b ≡ false)
turned true = (λ e. absurd (false≢true e), λ e. absurd (false≢true (sym e)))
turned false = (λ e. refl, λ e. refl)
