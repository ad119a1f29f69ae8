-- What a pass that has seen a board's past knows of the board.
use Rattle.std.proofs.Common.{◌≡◌, ◌<◌, ◌≤◌, ◌||◌, ℕ, Bool, true, false, List, [], ◌∷◌, ◌++◌, map, Contains, append_assoc, append-nil, refl, ap, sym, ◌∙◌, subst, arith}
use Rattle.std.specs.List.{list_any}
use Rattle.std.proofs.lemmas.List.{map-append}
use Rattle.std.proofs.lemmas.List.Elements.{Contains-append_left}
use Rattle.std.proofs.lemmas.List.Folds.{list_any-append}
use mathlib.Core.List.{IsPrefix}
use Rattle.cache_ident.specs.declared.idents.Ident.{Ident}
use Rattle.flat_state.specs.Events.{flat}
use Rattle.run_journal.specs.flat_laws.proofs.Members.{Contains-from_map, Contains-here}
use Rattle.run_journal.specs.declared.entries.Entry.{Entry}
use Rattle.run_journal.specs.Entries.{erase}
use Rattle.run_journal.specs.Legal.{AreLegal}
use Rattle.run_journal.specs.Told.{is_seal, nothing_told, residents, told, told_after, Anything, Opening, Told}
use Rattle.run_journal.proofs.Growth.{residents_told_from, sealed_from}
use Rattle.run_journal.proofs.LegalGrowth.{state_told}
use Rattle.turn_lock.specs.Lists.{numbers, AllMadeBelow, IsContinuedBy}
use Rattle.turn_lock.proofs.Lists.{all_append}
use Rattle.board_core.specs.quantum.specs.Ahead.{Ahead}
use Rattle.board_core.specs.desc_stores.specs.Contents.{residents_of}
use Rattle.board_core.specs.cached_machine.specs.Cached.{state_of}
use Rattle.board_core.specs.Core.{contents_of, IsSound, Recorded}
use Rattle.board_core.specs.Going.{IsOneEvent}
use Rattle.board_commits.specs.Tickets.{AreAllAsOf, AreOfTicket}
use Rattle.board_commits.proofs.KeptLaws.{kept_stays}
use Rattle.board_commits.proofs.TicketLaws.{views_stay}
use Rattle.cache_board.specs.Events.{author_of, past_of}
use Rattle.cache_board.specs.Pasts.{entries_of, has_seal}
use Rattle.cache_board.proofs.EventLaws.{past_continued}

-- ---- makers

below_eight : (k : Told) (limit : ℕ) (es : List Entry) → AreLegal k es → AllMadeBelow author_of 8 (map (λ (e : Entry). (e, limit)) es)
below_eight k limit [] legal = tt
below_eight k limit (e ∷ es) legal = (legal.0.processor, below_eight (told_after k e) limit es legal.1)

below_more : (n m : ℕ) → n ≤ m → (seen : List (Entry × ℕ)) → AllMadeBelow author_of n seen → AllMadeBelow author_of m seen
below_more n m within [] made = tt
below_more n m within (e ∷ seen) made = ((let first : author_of e < n = made.0 in omega (arith, first, within)), below_more n m within seen made.1)

pub made_by_eight : (b : Recorded) → IsSound b → AllMadeBelow author_of 8 (past_of b)
made_by_eight b sound = below_eight nothing_told b.limit b.journal.entries sound.told.legal.each

pub made_by_numbers : (b : Recorded) → IsSound b → AllMadeBelow author_of numbers (past_of b)
made_by_numbers b sound = below_more 8 numbers (omega arith) (past_of b) (made_by_eight b sound)

-- ---- what continues a past

pub nothing_added : (cpu : ℕ) (b : Recorded) → IsContinuedBy author_of cpu (past_of b) (past_of b)
nothing_added cpu b = ([], append-nil (past_of b), tt)

pub event_added : (cpu : ℕ) (old new : Recorded) → IsOneEvent cpu old new → IsContinuedBy author_of cpu (past_of old) (past_of new)
event_added cpu old new event = past_continued cpu (past_of old) old new (nothing_added cpu old) event

pub added_twice : (cpu : ℕ) (found between now : List (Entry × ℕ)) → IsContinuedBy author_of cpu found between → IsContinuedBy author_of cpu between now → IsContinuedBy author_of cpu found now
added_twice cpu found between now first second = (
  first.0 ++ second.0,
  sym (append_assoc found first.0 second.0) ∙ ap (λ (known : List (Entry × ℕ)). known ++ second.0) first.1 ∙ second.1,
  all_append (λ (e : Entry × ℕ). author_of e ≡ cpu) first.0 second.0 first.2 second.2,
)

pub found_begins : (cpu : ℕ) (found now : List (Entry × ℕ)) → IsContinuedBy author_of cpu found now → IsPrefix found now
found_begins cpu found now more = (more.0, more.1)

-- ---- pasts and journals

pub begins_itself : (seen : List (Entry × ℕ)) → IsPrefix seen seen
begins_itself seen = ([], append-nil seen)

pub begins_further : (one other more : List (Entry × ℕ)) → IsPrefix one other → IsPrefix other more → IsPrefix one more
begins_further one other more first second = (first.0 ++ second.0, sym (append_assoc one first.0 second.0) ∙ (ap (λ (known : List (Entry × ℕ)). known ++ second.0) first.1 ∙ second.1))

entries_with : (limit : ℕ) (j : List Entry) → entries_of (map (λ (e : Entry). (e, limit)) j) ≡ j
entries_with limit [] = refl
entries_with limit (e ∷ j) = ap (λ (es : List Entry). e ∷ es) (entries_with limit j)

pub past_entries : (b : Recorded) → entries_of (past_of b) ≡ b.journal.entries
past_entries b = entries_with b.limit b.journal.entries

pub entries_begin : (one other : List (Entry × ℕ)) → IsPrefix one other → IsPrefix (entries_of one) (entries_of other)
entries_begin one other begins = (entries_of begins.0, sym (map-append (λ (e : Entry × ℕ). e.0) one begins.0) ∙ ap entries_of begins.1)

-- ---- limit and seal

pub limit_seen : (seen : List (Entry × ℕ)) (b : Recorded) (e : Entry) (limit : ℕ) → IsPrefix seen (past_of b) → Contains seen (e, limit) → b.limit ≡ limit
limit_seen seen b e limit begins there =
    let in_past : Contains (past_of b) (e, limit) = subst (λ (past : List (Entry × ℕ)). Contains past (e, limit)) begins.1 (Contains-append_left seen begins.0 (e, limit) there) in
    let from = Contains-from_map (λ (x : Entry). (x, b.limit)) b.journal.entries (e, limit) in_past in
    ap (λ (x : Entry × ℕ). x.1) from.2

any_more : (x y : Bool) → x ≡ true → (x || y) ≡ true
any_more true y is = refl
any_more false y is = absurd (cc)

seal_begins : (one other : List (Entry × ℕ)) → IsPrefix one other → has_seal one ≡ true → has_seal other ≡ true
seal_begins one other begins sealed =
    let es = entries_begin one other begins in
    sym (ap (list_any is_seal) es.1) ∙ list_any-append is_seal (entries_of one) es.0 ∙ any_more (has_seal one) (list_any is_seal es.0) sealed

pub seal_in_past : (b : Recorded) → IsSound b → has_seal (past_of b) ≡ b.sealed
seal_in_past b sound = ap (list_any is_seal) (past_entries b) ∙ sym (sealed_from nothing_told b.journal.entries) ∙ sound.told.seal

pub seal_seen : (seen : List (Entry × ℕ)) (b : Recorded) → IsSound b → IsPrefix seen (past_of b) → has_seal seen ≡ true → b.sealed ≡ true
seal_seen seen b sound begins sealed = sym (seal_in_past b sound) ∙ seal_begins seen (past_of b) begins sealed

pub seal_stays : (old new : Recorded) → IsSound old → IsSound new → IsPrefix (past_of old) (past_of new) → old.sealed ≡ true → new.sealed ≡ true
seal_stays old new was sound begins sealed = seal_seen (past_of old) new sound begins (seal_in_past old was ∙ sealed)

-- a journal that is whole isn't empty
limit_by : (limit : ℕ) (new : Recorded) (j : List Entry) → (told j).due ≡ Anything → IsPrefix (map (λ (e : Entry). (e, limit)) j) (past_of new) → new.limit ≡ limit
limit_by limit new [] whole begins = let clash : Opening ≡ Anything = whole in absurd (cc)
limit_by limit new (e ∷ j) whole begins = limit_seen (map (λ (x : Entry). (x, limit)) (e ∷ j)) new e limit begins (Contains-here (e, limit) (map (λ (x : Entry). (x, limit)) j))

pub limit_stays : (old new : Recorded) → IsSound old → IsPrefix (past_of old) (past_of new) → new.limit ≡ old.limit
limit_stays old new was begins = limit_by old.limit new old.journal.entries was.told.legal.whole begins

-- ---- quanta

pub views_then : (one other : List (Entry × ℕ)) (thread : Ident) (a : Ahead) → IsPrefix one other → AreOfTicket (entries_of one) thread a → AreOfTicket (entries_of other) thread a
views_then one other thread a begins are =
    let more = entries_begin one other begins in
    subst (λ (j : List Entry). AreOfTicket j thread a) more.1 (views_stay (entries_of one) more.0 thread a are)

pub kept_then : (one other : List (Entry × ℕ)) (a : Ahead) → IsPrefix one other → AreAllAsOf (entries_of one) a → AreAllAsOf (entries_of other) a
kept_then one other a begins kept =
    let more = entries_begin one other begins in
    subst (λ (j : List Entry). AreAllAsOf j a) more.1 (kept_stays (entries_of one) more.0 a kept)

pub views_on : (seen : List (Entry × ℕ)) (b : Recorded) (thread : Ident) (a : Ahead) → IsPrefix seen (past_of b) → AreOfTicket (entries_of seen) thread a → AreOfTicket b.journal.entries thread a
views_on seen b thread a begins are = subst (λ (j : List Entry). AreOfTicket j thread a) (past_entries b) (views_then seen (past_of b) thread a begins are)

pub kept_on : (seen : List (Entry × ℕ)) (b : Recorded) (a : Ahead) → IsPrefix seen (past_of b) → AreAllAsOf (entries_of seen) a → AreAllAsOf b.journal.entries a
kept_on seen b a begins kept = subst (λ (j : List Entry). AreAllAsOf j a) (past_entries b) (kept_then seen (past_of b) a begins kept)

-- ---- what the board shows

pub shows_flat : (b : Recorded) → IsSound b → state_of b.machine ≡ flat (erase b.journal.entries)
shows_flat b sound = sym sound.told.state ∙ state_told b.journal.entries

pub shows_residents : (b : Recorded) → IsSound b → residents_of (contents_of b) ≡ residents b.journal.entries
shows_residents b sound = sym sound.told.residents ∙ residents_told_from nothing_told b.journal.entries
