-- Journals that grow.
use Rattle.std.proofs.Common.{◌≡◌, ℕ, zero, suc, ◌+◌, ◌<◌, cond, subst, List, [], ◌∷◌, ◌++◌, replicate, refl, sym, ap, ◌∙◌, append_assoc, arith}
use Rattle.std.specs.Prelude.{count_by, IsSome}
use Rattle.std.proofs.lemmas.List.{append-nil}
use Rattle.std.proofs.lemmas.List.Sums.{sum_by-append}
use Rattle.cache_ident.specs.declared.names.ThreadNo.{ThreadNo}
use Rattle.flat_rules.specs.flat_state.specs.declared.events.Event.{Event}
use Rattle.flat_rules.specs.flat_state.specs.declared.events.Event.TheVariants.{Step}
use Rattle.flat_rules.specs.flat_state.specs.State.{FlatState}
use Rattle.flat_rules.specs.flat_state.specs.Events.{after_event, applied, after_events}
use Rattle.flat_rules.specs.flat_state.proofs.Places.{count_by-cons}
use Rattle.run_journal.specs.declared.entries.Entry.{Entry}
use Rattle.run_journal.specs.Entries.{events_of, erase, is_step, steps_in}
use Rattle.paged_run.specs.Runs.{AreOwn, EventsFit, Extends, IsOwn}

pub after_events-append : (s : FlatState) (es fs : List Event) → after_events s (es ++ fs) ≡ after_events (after_events s es) fs
after_events-append s [] fs = refl
after_events-append s (e ∷ es) fs = after_events-append (applied s e) es fs

erase-append : (j k : List Entry) → erase (j ++ k) ≡ erase j ++ erase k
erase-append [] k = refl
erase-append (e ∷ j) k = ap (λ es. events_of e ++ es) (erase-append j k) ∙ sym (append_assoc (events_of e) (erase j) (erase k))

-- events that fit after events that fit do
fit-append : (s : FlatState) (es fs : List Event) → EventsFit s es → EventsFit (after_events s es) fs → EventsFit s (es ++ fs)
fit-append s [] fs first second = second
fit-append s (e ∷ es) fs first second = (first.0, fit-append (applied s e) es fs first.1 second)

own-append : (j k : List Entry) → AreOwn j → AreOwn k → AreOwn (j ++ k)
own-append [] k first second = second
own-append (e ∷ j) k first second = (first.0, own-append j k first.1 second)

-- nothing happens
pub extends_none : (s : FlatState) (j : List Entry) → Extends s j s j 0
extends_none s j = record { rest = []; grown = sym (append-nil j); own = tt; fits = tt; state = refl; count = refl }

-- an entry that was written down behind what it tells of
pub written_down : (s t : FlatState) (j k : List Entry) (e : Entry) (n : ℕ) → IsOwn e → EventsFit s (events_of e) → t ≡ after_events s (events_of e) → k ≡ j ++ e ∷ [] → n ≡ count_by is_step (events_of e) → Extends s j t k n
written_down s t j k e n own fits happened written counts =
    let all : erase (e ∷ []) ≡ events_of e = append-nil (events_of e) in
    record {
      rest = e ∷ [];
      grown = written;
      own = (own, tt);
      fits = subst (EventsFit s) (sym all) fits;
      state = happened ∙ ap (after_events s) (sym all);
      count = counts ∙ ap (count_by is_step) (sym all);
    }

pub steps_in-append : (j k : List Entry) → steps_in (j ++ k) ≡ steps_in j + steps_in k
steps_in-append j k = ap (count_by is_step) (erase-append j k) ∙ sum_by-append (λ e. cond (is_step e) 1 0) (erase j) (erase k)

pub after_erased-append : (s : FlatState) (j k : List Entry) → after_events s (erase (j ++ k)) ≡ after_events (after_events s (erase j)) (erase k)
after_erased-append s j k = ap (after_events s) (erase-append j k) ∙ after_events-append s (erase j) (erase k)

pub extends_then : (s t u : FlatState) (j k l : List Entry) (m n : ℕ) → Extends s j t k m → Extends t k u l n → Extends s j u l (m + n)
extends_then s t u j k l m n first second = record {
  rest = first.rest ++ second.rest;
  grown = second.grown ∙ ap (λ (x : List Entry). x ++ second.rest) first.grown ∙ append_assoc j first.rest second.rest;
  own = own-append first.rest second.rest first.own second.own;
  fits = subst (EventsFit s) (sym (erase-append first.rest second.rest))
      (fit-append s (erase first.rest) (erase second.rest) first.fits (subst (λ (x : FlatState). EventsFit x (erase second.rest)) first.state second.fits));
  state = second.state ∙ ap (λ (x : FlatState). after_events x (erase second.rest)) first.state ∙ sym (after_erased-append s first.rest second.rest);
  count = omega (arith, first.count, second.count, steps_in-append first.rest second.rest);
}

-- so many steps of a thread that each fit
pub steps_fit : (s : FlatState) (t : ThreadNo) (n : ℕ) → ((k : ℕ) → k < n → IsSome (after_event (after_events s (replicate k (Step t))) (Step t))) → EventsFit s (replicate n (Step t))
steps_fit s t zero each = tt
steps_fit s t (suc n) each = (each 0 (omega arith), steps_fit (applied s (Step t)) t n (λ k below. each (suc k) (omega arith)))

pub count_steps : (t : ThreadNo) (n : ℕ) → count_by is_step (replicate n (Step t)) ≡ n
count_steps t zero = refl
count_steps t (suc n) =
    let later = count_steps t n in
    let whole : count_by is_step (Step t ∷ replicate n (Step t)) ≡ 1 + count_by is_step (replicate n (Step t)) = count_by-cons is_step (Step t) (replicate n (Step t)) in
    omega arith
