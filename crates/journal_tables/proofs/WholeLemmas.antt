-- What is resident stays whole.
use Rattle.std.proofs.Common.{◌≢◌, ℕ, ◌+◌, Bool, true, false, List, [], ◌∷◌, Contains, get_or, lit<, refl, ap, sym, ◌∙◌, arith}
use Rattle.std.proofs.lemmas.List.Elements.{All-contains_itself}
use Rattle.std.proofs.lemmas.List.Kept.{AllPairs-cons, AllPairs-filter}
use Rattle.std.proofs.lemmas.List.Quantifiers.{all_pairs_push}
use Rattle.cache_ident.specs.declared.idents.Cause.TheVariants as causes
use Rattle.cache_ident.specs.declared.idents.Ident.{Ident}
use Rattle.cache_ident.specs.declared.names.Name.{Name}
use Rattle.cache_ident.specs.declared.names.ThreadNo.{ThreadNo}
use Rattle.cache_ident.specs.Residents.{Resident, with_loaded, without, locked_if, with_lock}
use Rattle.residents.specs.flat_laws.proofs.Members.{contains_nothing, Contains-from_map}
use Rattle.residents.specs.flat_state.specs.State.{FlatState}
use Rattle.residents.specs.run_journal.specs.declared.entries.Entry.{Entry}
use Rattle.residents.specs.run_journal.specs.declared.entries.Entry.TheVariants.{Loaded, WrittenBack, Locked, Unlocked, Ran, Ended, Completed}
use Rattle.residents.specs.run_journal.specs.Told.{Told, Anything, told_of, told_after}
use Rattle.residents.specs.run_journal.specs.Legal.{MayHappen, MayLoad, MayLeave, MayLock, MayUnlock, MayRun, MayEnd, MayComplete, IsInPlace, IsByProcessor, Comes}
use Rattle.residents.specs.run_journal.proofs.Others.{locked_keeps}
use Rattle.residents.specs.run_journal.proofs.Whole.{IsWhole, whole_after}
use Rattle.journal_rules.specs.journal_laws.specs.Leaving.{AreApart}
use Rattle.journal_tables.specs.Whole.{AreWhole}
use Rattle.group_laws.proofs.Counting.{apart_behind, apart_first}

-- ---- no identifier stands twice

apart_loaded : (ident : Ident) (name : Name) (rs : List Resident) → AreApart rs → ((r : Resident) → Contains rs r → r.ident ≢ ident) → AreApart (with_loaded ident name rs)
apart_loaded ident name rs apart fresh =
    all_pairs_push (λ a b. a.ident ≢ b.ident) rs (record { ident = ident; name = name; locked = false }) apart (λ k d low. fresh (get_or rs k d) (All-contains_itself rs k d low))

apart_locked : (ident : Ident) (on : Bool) (rs : List Resident) → AreApart rs → AreApart (with_lock ident on rs)
apart_locked ident on [] apart = apart
apart_locked ident on (r ∷ rs) apart =
    AllPairs-cons (λ a b. a.ident ≢ b.ident) (locked_if ident on r) (with_lock ident on rs)
    (λ k d low same.
    let was = Contains-from_map (locked_if ident on) rs (get_or (with_lock ident on rs) k d) (All-contains_itself (with_lock ident on rs) k d low) in
    apart_first r rs apart was.0 was.1 (sym (locked_keeps ident on was.0).0 ∙ ap (λ (x : Resident). x.ident) was.2 ∙ sym same ∙ (locked_keeps ident on r).0))
    (apart_locked ident on rs (apart_behind r rs apart))

-- ---- what the rules say of what is resident, where nothing has to come

-- the same is told, and no group is leaving
abbrev quiet : Told → Told
quiet k = told_of k.state true k.loads k.residents Anything

abbrev pub IsWholeTold : Told → Type 0
IsWholeTold k = AreWhole k.state k.loads k.residents

was_whole : (k : Told) → IsWholeTold k → IsWhole (quiet k)
was_whole k whole = record {
  numbered = record { issued = whole.issued; kinds = whole.kinds; one = whole.one.idents };
  apart = record { names = whole.one.names; slots = whole.slots };
  good = whole.good;
  unsealed = λ e. absurd (cc);
}

is_whole : (k : Told) → IsWhole k → AreApart k.residents → IsWholeTold k
is_whole k is apart = record {
  apart = apart;
  issued = is.numbered.issued;
  kinds = is.numbered.kinds;
  one = record { idents = is.numbered.one; names = is.apart.names };
  slots = is.apart.slots;
  good = is.good;
}

-- it stays whole by what may happen
stays : (k : Told) (e : Entry) → IsWholeTold k → Comes Anything e → IsInPlace (quiet k) e → IsByProcessor e → MayHappen (quiet k) e → AreApart (told_after (quiet k) e).residents → IsWholeTold (told_after (quiet k) e)
stays k e whole comes place by may apart =
    is_whole (told_after (quiet k) e) (whole_after (quiet k) e (record { comes = comes; place = place; processor = by; happens = may }) (was_whole k whole)) apart

pub whole_loaded : (k : Told) (ident : Ident) (name : Name) → IsWholeTold k → MayLoad k ident name → AreWhole k.state (k.loads + 1) (with_loaded ident name k.residents)
whole_loaded k ident name whole may =
    stays k (Loaded ident name 0) whole tt refl (lit< tt)
    (record { there = may.there; absent = may.absent; parents = may.parents; fit = may.fit; kind = may.kind; serial = may.serial; free = may.free; lowest = may.lowest; within = may.within })
    (apart_loaded ident name k.residents whole.apart (λ r there same. let low = whole.issued r there in let its = ap (λ (i : Ident). i.serial) same ∙ may.serial in omega arith))

pub whole_left : (k : Told) (ident : Ident) → IsWholeTold k → MayLeave k ident causes.Dependent → AreWhole k.state k.loads (without ident k.residents)
whole_left k ident whole may =
    stays k (WrittenBack ident causes.Dependent 0) whole tt refl (lit< tt)
    (record { resident = may.resident; there = may.there; its = may.its; not_first = may.not_first; last = may.last; by_cause = tt })
    (AllPairs-filter (λ a b. a.ident ≢ b.ident) _ k.residents whole.apart)

pub whole_locked : (k : Told) (ident : Ident) → IsWholeTold k → MayLock k ident → AreWhole k.state k.loads (with_lock ident true k.residents)
whole_locked k ident whole may =
    stays k (Locked ident 0) whole tt refl (lit< tt)
    (record { resident = may.resident; there = may.there; its = may.its; unlocked = may.unlocked; kernel = may.kernel; owned = may.owned; room = may.room })
    (apart_locked ident true k.residents whole.apart)

pub whole_unlocked : (k : Told) (ident : Ident) → IsWholeTold k → MayUnlock k ident → AreWhole k.state k.loads (with_lock ident false k.residents)
whole_unlocked k ident whole may =
    stays k (Unlocked ident 0) whole tt refl (lit< tt)
    (record { resident = may.resident; there = may.there; its = may.its; locked = may.locked; not_first = may.not_first })
    (apart_locked ident false k.residents whole.apart)

pub whole_ran : (k : Told) (thread : ThreadNo) (steps : ℕ) → IsWholeTold k → MayRun k thread steps → AreWhole (told_after k (Ran thread steps 0)).state k.loads k.residents
whole_ran k thread steps whole may =
    stays k (Ran thread steps 0) whole tt refl (lit< tt) (record { some = may.some; resident = may.resident; each = may.each }) whole.apart

pub whole_ended : (k : Told) (thread : ThreadNo) → IsWholeTold k → MayEnd k thread → AreWhole (told_after k (Ended thread 0)).state k.loads k.residents
whole_ended k thread whole may =
    stays k (Ended thread 0) whole tt refl (lit< tt) (record { resident = may.resident; step = may.step }) whole.apart

pub whole_completed : (k : Told) (thread : ThreadNo) → IsWholeTold k → MayComplete k thread → AreWhole (told_after k (Completed thread 0)).state k.loads k.residents
whole_completed k thread whole may =
    stays k (Completed thread 0) whole tt refl (lit< tt) (record { resident = may.resident; fits = may.fits; good = may.good }) whole.apart

-- nothing is whole in every state
pub whole_nothing : (s : FlatState) (loads : ℕ) → AreWhole s loads []
whole_nothing s loads = record {
  apart = λ i j d lower within. absurd (omega arith);
  issued = λ r there. absurd (contains_nothing r there);
  kinds = λ r there. absurd (contains_nothing r there);
  one = record { idents = λ a b there other same. absurd (contains_nothing a there); names = λ a b there other same. absurd (contains_nothing a there) };
  slots = λ a b there other kind slot. absurd (contains_nothing a there);
  good = λ r there. absurd (contains_nothing r there);
}
