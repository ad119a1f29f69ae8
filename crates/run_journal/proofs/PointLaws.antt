-- A journal that keeps the rules at each place is legal, and begins as it is to begin.
use Rattle.std.proofs.Common.{◌≡◌, ℕ, zero, suc, ◌+◌, ◌<◌, ◌≤◌, Bool, true, false, cond, eqb, List, [], ◌∷◌, ◌++◌, length, take, Option, Some, None, slice_get, refl, ap, sym, ◌∙◌, subst, inl, inr, ◌⊎◌, append_assoc, arith}
use Rattle.std.proofs.lemmas.Bool.{cases_lt}
use Rattle.std.proofs.lemmas.List.{append-nil, length-append, take_at}
use Rattle.std.proofs.lemmas.Option.{same_Some, slice_get_past}
use Rattle.cache_ident.specs.declared.idents.Cause.{Cause}
use Rattle.cache_ident.specs.declared.idents.Cause.TheVariants as causes
use Rattle.cache_ident.specs.declared.idents.Ident.{Ident}
use Rattle.flat_state.specs.declared.events.Decl.{Decl}
use Rattle.flat_state.specs.declared.events.Decl.TheVariants as decls
use Rattle.run_journal.specs.declared.entries.Entry.{Entry}
use Rattle.run_journal.specs.declared.entries.Entry.TheVariants.{Declared, Sealed, Loaded, WrittenBack, Locked, Unlocked, Ran, Ended, Completed}
use Rattle.run_journal.specs.Told.{Due, Opening, Anything, FirstLoad, FirstLock, Departure, Load, Told, nothing_told, told_after, told_from, told}
use Rattle.run_journal.specs.Legal.{Comes, MayHappen, MayCome, AreLegal, IsLegal}
use Rattle.run_journal.specs.Points.{Rule, Beginning, Order, Loads, Departures, Locks, Steps, Faults, Calls, Processors, Place, place_in, opening, IsInOrder, IsDepartureBy, IsLoadBy, IsFollowed, LoadKeeps, DepartureKeeps, LockKeeps, StepsKeep, FaultKeeps, CallKeeps, Keeps, KeepsAll}
use Rattle.run_journal.proofs.Growth.{told_from-append}

-- ---- what is due is what follows

-- what is due by the entry before is kept by the entry, or by the end
abbrev pub IsDue : Due → Option Entry → Type 0
IsDue due None = due ≡ Anything
IsDue due (Some e) = Comes due e

-- what the rule on departures charges
abbrev FollowsDue : Due → Option Entry → Type 0
FollowsDue (Departure cpu) next = IsDepartureBy cpu next
FollowsDue (Load kind cpu) next = IsLoadBy kind cpu next
FollowsDue Opening next = Unit {0}
FollowsDue Anything next = Unit {0}
FollowsDue FirstLoad next = Unit {0}
FollowsDue FirstLock next = Unit {0}

due_follows : (due : Due) (next : Option Entry) → IsDue due next → FollowsDue due next
due_follows Opening next is = tt
due_follows Anything next is = tt
due_follows FirstLoad next is = tt
due_follows FirstLock next is = tt
due_follows (Departure cpu) None is = cc
due_follows (Departure cpu) (Some (Declared d)) is = is
due_follows (Departure cpu) (Some Sealed) is = is
due_follows (Departure cpu) (Some (Loaded ident name by)) is = is
due_follows (Departure cpu) (Some (WrittenBack ident cause by)) is = is
due_follows (Departure cpu) (Some (Locked ident by)) is = is
due_follows (Departure cpu) (Some (Unlocked ident by)) is = is
due_follows (Departure cpu) (Some (Ran thread steps by)) is = is
due_follows (Departure cpu) (Some (Ended thread by)) is = is
due_follows (Departure cpu) (Some (Completed thread by)) is = is
due_follows (Load kind cpu) None is = cc
due_follows (Load kind cpu) (Some (Declared d)) is = is
due_follows (Load kind cpu) (Some Sealed) is = is
due_follows (Load kind cpu) (Some (Loaded ident name by)) is = is
due_follows (Load kind cpu) (Some (WrittenBack ident cause by)) is = is
due_follows (Load kind cpu) (Some (Locked ident by)) is = is
due_follows (Load kind cpu) (Some (Unlocked ident by)) is = is
due_follows (Load kind cpu) (Some (Ran thread steps by)) is = is
due_follows (Load kind cpu) (Some (Ended thread by)) is = is
due_follows (Load kind cpu) (Some (Completed thread by)) is = is

due_in_order : (due : Due) (next : Option Entry) → IsDue due next → IsInOrder due next
due_in_order Anything next is = tt
due_in_order (Departure cpu) next is = tt
due_in_order (Load kind cpu) next is = tt
due_in_order Opening None is = cc
due_in_order Opening (Some (Declared (decls.Machine machine))) is = tt
due_in_order Opening (Some (Declared (decls.Kernel n limits))) is = is
due_in_order Opening (Some (Declared (decls.Right kernel group read write))) is = is
due_in_order Opening (Some (Declared (decls.Space n kernel))) is = is
due_in_order Opening (Some (Declared (decls.Thread n space pc priority a0 a1))) is = is
due_in_order Opening (Some (Declared (decls.Map space vpn frame flags receiver))) is = is
due_in_order Opening (Some (Declared (decls.Word frame offset value))) is = is
due_in_order Opening (Some Sealed) is = is
due_in_order Opening (Some (Loaded ident name by)) is = is
due_in_order Opening (Some (WrittenBack ident cause by)) is = is
due_in_order Opening (Some (Locked ident by)) is = is
due_in_order Opening (Some (Unlocked ident by)) is = is
due_in_order Opening (Some (Ran thread steps by)) is = is
due_in_order Opening (Some (Ended thread by)) is = is
due_in_order Opening (Some (Completed thread by)) is = is
due_in_order FirstLoad None is = cc
due_in_order FirstLoad (Some e) is = ap Some is
due_in_order FirstLock None is = cc
due_in_order FirstLock (Some e) is = ap Some is

is_due : (due : Due) (next : Option Entry) → FollowsDue due next → IsInOrder due next → IsDue due next
is_due Anything None follows order = refl
is_due Anything (Some e) follows order = tt
is_due Opening None follows order = absurd order
is_due Opening (Some (Declared (decls.Machine machine))) follows order = tt
is_due Opening (Some (Declared (decls.Kernel n limits))) follows order = order
is_due Opening (Some (Declared (decls.Right kernel group read write))) follows order = order
is_due Opening (Some (Declared (decls.Space n kernel))) follows order = order
is_due Opening (Some (Declared (decls.Thread n space pc priority a0 a1))) follows order = order
is_due Opening (Some (Declared (decls.Map space vpn frame flags receiver))) follows order = order
is_due Opening (Some (Declared (decls.Word frame offset value))) follows order = order
is_due Opening (Some Sealed) follows order = order
is_due Opening (Some (Loaded ident name by)) follows order = order
is_due Opening (Some (WrittenBack ident cause by)) follows order = order
is_due Opening (Some (Locked ident by)) follows order = order
is_due Opening (Some (Unlocked ident by)) follows order = order
is_due Opening (Some (Ran thread steps by)) follows order = order
is_due Opening (Some (Ended thread by)) follows order = order
is_due Opening (Some (Completed thread by)) follows order = order
is_due FirstLoad None follows order = absurd (cc)
is_due FirstLoad (Some e) follows order = cc
is_due FirstLock None follows order = absurd (cc)
is_due FirstLock (Some e) follows order = cc
is_due (Departure cpu) None follows order = absurd follows
is_due (Departure cpu) (Some (Declared d)) follows order = follows
is_due (Departure cpu) (Some Sealed) follows order = follows
is_due (Departure cpu) (Some (Loaded ident name by)) follows order = follows
is_due (Departure cpu) (Some (WrittenBack ident cause by)) follows order = follows
is_due (Departure cpu) (Some (Locked ident by)) follows order = follows
is_due (Departure cpu) (Some (Unlocked ident by)) follows order = follows
is_due (Departure cpu) (Some (Ran thread steps by)) follows order = follows
is_due (Departure cpu) (Some (Ended thread by)) follows order = follows
is_due (Departure cpu) (Some (Completed thread by)) follows order = follows
is_due (Load kind cpu) None follows order = absurd follows
is_due (Load kind cpu) (Some (Declared d)) follows order = follows
is_due (Load kind cpu) (Some Sealed) follows order = follows
is_due (Load kind cpu) (Some (Loaded ident name by)) follows order = follows
is_due (Load kind cpu) (Some (WrittenBack ident cause by)) follows order = follows
is_due (Load kind cpu) (Some (Locked ident by)) follows order = follows
is_due (Load kind cpu) (Some (Unlocked ident by)) follows order = follows
is_due (Load kind cpu) (Some (Ran thread steps by)) follows order = follows
is_due (Load kind cpu) (Some (Ended thread by)) follows order = follows
is_due (Load kind cpu) (Some (Completed thread by)) follows order = follows

first_follows : (b : Bool) (next : Option Entry) → FollowsDue (cond b FirstLock Anything) next
first_follows true next = tt
first_follows false next = tt

back_follows : (k : Told) (ident : Ident) (cause : Cause) (cpu : ℕ) (next : Option Entry) → IsFollowed cause ident cpu next → FollowsDue (told_after k (WrittenBack ident cause cpu)).due next
back_follows k ident causes.Dependent cpu next is = is
back_follows k ident causes.Displaced cpu next is = is
back_follows k ident causes.Unloaded cpu next is = tt

follows_back : (k : Told) (ident : Ident) (cause : Cause) (cpu : ℕ) (next : Option Entry) → FollowsDue (told_after k (WrittenBack ident cause cpu)).due next → IsFollowed cause ident cpu next
follows_back k ident causes.Dependent cpu next is = is
follows_back k ident causes.Displaced cpu next is = is
follows_back k ident causes.Unloaded cpu next is = tt

-- a departure that is followed leaves nothing due that doesn't follow
after_follows : (k : Told) (e : Entry) (next : Option Entry) → DepartureKeeps k next e → FollowsDue (told_after k e).due next
after_follows k (Declared d) next keeps = tt
after_follows k Sealed next keeps = tt
after_follows k (Loaded ident name cpu) next keeps = first_follows (eqb k.loads 0) next
after_follows k (WrittenBack ident cause cpu) next keeps = back_follows k ident cause cpu next keeps.1
after_follows k (Locked ident cpu) next keeps = tt
after_follows k (Unlocked ident cpu) next keeps = tt
after_follows k (Ran thread steps cpu) next keeps = tt
after_follows k (Ended thread cpu) next keeps = tt
after_follows k (Completed thread cpu) next keeps = tt

-- ---- one place

abbrev at_place : ℕ → Told → Entry → Option Entry → Place
at_place at k e next = record { at = at; told = k; here = Some e; next = next }

abbrev at_end : ℕ → Told → Place
at_end at k = record { at = at; told = k; here = None; next = None }

-- what an entry keeps is what lets it come
happens : (ds : List Decl) (at : ℕ) (k : Told) (e : Entry) (next : Option Entry) → ((rule : Rule) → Keeps rule ds (at_place at k e next)) → MayHappen k e
happens ds at k (Declared d) next keeps = tt
happens ds at k Sealed next keeps = tt
happens ds at k (Loaded ident name cpu) next keeps = keeps Loads
happens ds at k (WrittenBack ident cause cpu) next keeps = (keeps Departures).0
happens ds at k (Locked ident cpu) next keeps = keeps Locks
happens ds at k (Unlocked ident cpu) next keeps = keeps Locks
happens ds at k (Ran thread steps cpu) next keeps = keeps Steps
happens ds at k (Ended thread cpu) next keeps = keeps Faults
happens ds at k (Completed thread cpu) next keeps = keeps Calls

-- and the other way round
record WouldKeep (k : Told) (e : Entry) (next : Option Entry) : Type 0 where
  loads : LoadKeeps k e
  departures : DepartureKeeps k next e
  locks : LockKeeps k e
  steps : StepsKeep k e
  faults : FaultKeeps k e
  calls : CallKeeps k e

would_keep : (k : Told) (e : Entry) (next : Option Entry) → MayHappen k e → FollowsDue (told_after k e).due next → WouldKeep k e next
would_keep k (Declared d) next may follows = record { loads = tt; departures = tt; locks = tt; steps = tt; faults = tt; calls = tt }
would_keep k Sealed next may follows = record { loads = tt; departures = tt; locks = tt; steps = tt; faults = tt; calls = tt }
would_keep k (Loaded ident name cpu) next may follows = record { loads = may; departures = tt; locks = tt; steps = tt; faults = tt; calls = tt }
would_keep k (WrittenBack ident cause cpu) next may follows = record { loads = tt; departures = (may, follows_back k ident cause cpu next follows); locks = tt; steps = tt; faults = tt; calls = tt }
would_keep k (Locked ident cpu) next may follows = record { loads = tt; departures = tt; locks = may; steps = tt; faults = tt; calls = tt }
would_keep k (Unlocked ident cpu) next may follows = record { loads = tt; departures = tt; locks = may; steps = tt; faults = tt; calls = tt }
would_keep k (Ran thread steps cpu) next may follows = record { loads = tt; departures = tt; locks = tt; steps = may; faults = tt; calls = tt }
would_keep k (Ended thread cpu) next may follows = record { loads = tt; departures = tt; locks = tt; steps = tt; faults = may; calls = tt }
would_keep k (Completed thread cpu) next may follows = record { loads = tt; departures = tt; locks = tt; steps = tt; faults = tt; calls = may }

-- ---- place after place

abbrev AreKept : List Decl → ℕ → Told → List Entry → Type 0
AreKept ds at k [] = (rule : Rule) → Keeps rule ds (at_end at k)
AreKept ds at k (e ∷ es) = ((rule : Rule) → Keeps rule ds (at_place at k e (slice_get es 0))) × AreKept ds (at + 1) (told_after k e) es

-- what the entries behind keep of the order
order_first : (ds : List Decl) (at : ℕ) (k : Told) (es : List Entry) → AreKept ds at k es → IsInOrder k.due (slice_get es 0)
order_first ds at k [] kept = (kept Order).0
order_first ds at k (e ∷ es) kept = (kept.0 Order).0

kept_legal : (ds : List Decl) (at : ℕ) (k : Told) (es : List Entry) → IsDue k.due (slice_get es 0) → AreKept ds at k es → AreLegal k es × ((told_from k es).due ≡ Anything)
kept_legal ds at k [] due kept = (tt, due)
kept_legal ds at k (e ∷ es) due kept =
    let next = slice_get es 0 in
    let due_next = is_due (told_after k e).due next (after_follows k e next (kept.0 Departures)) (order_first ds (at + 1) (told_after k e) es kept.1) in
    let rest = kept_legal ds (at + 1) (told_after k e) es due_next kept.1 in
    ((record { comes = due; place = (kept.0 Order).1; processor = kept.0 Processors; happens = happens ds at k e next kept.0 }, rest.0), rest.1)

-- the entries stand as they are to begin
abbrev BeginsAt : List Decl → ℕ → List Entry → Type 0
BeginsAt ds at es = (n : ℕ) → at + n < length (opening ds) → slice_get es n ≡ slice_get (opening ds) (at + n)

begins_later : (ds : List Decl) (at : ℕ) (e : Entry) (es : List Entry) → BeginsAt ds at (e ∷ es) → BeginsAt ds (at + 1) es
begins_later ds at e es begins n lt =
    let moved : at + 1 + n ≡ at + suc n = omega arith in
    begins (suc n) (omega arith) ∙ ap (λ (m : ℕ). slice_get (opening ds) m) (sym moved)

begins_here : (ds : List Decl) (at : ℕ) (es : List Entry) → BeginsAt ds at es → at < length (opening ds) → slice_get es 0 ≡ slice_get (opening ds) at
begins_here ds at es begins lt =
    let here : at + 0 ≡ at = omega arith in
    begins 0 (omega arith) ∙ ap (λ (m : ℕ). slice_get (opening ds) m) here

keeps_end : (ds : List Decl) (at : ℕ) (k : Told) → k.due ≡ Anything → BeginsAt ds at [] → (rule : Rule) → Keeps rule ds (at_end at k)
keeps_end ds at k due begins Beginning = begins_here ds at [] begins
keeps_end ds at k due begins Order = (due_in_order k.due None due, tt)
keeps_end ds at k due begins Loads = tt
keeps_end ds at k due begins Departures = tt
keeps_end ds at k due begins Locks = tt
keeps_end ds at k due begins Steps = tt
keeps_end ds at k due begins Faults = tt
keeps_end ds at k due begins Calls = tt
keeps_end ds at k due begins Processors = tt

keeps_here : (ds : List Decl) (at : ℕ) (k : Told) (e : Entry) (es : List Entry) → MayCome k e → IsDue (told_after k e).due (slice_get es 0) → BeginsAt ds at (e ∷ es) → (rule : Rule) → Keeps rule ds (at_place at k e (slice_get es 0))
keeps_here ds at k e es may due begins Beginning = begins_here ds at (e ∷ es) begins
keeps_here ds at k e es may due begins Order = (due_in_order k.due (Some e) may.comes, may.place)
keeps_here ds at k e es may due begins Loads = (would_keep k e (slice_get es 0) may.happens (due_follows (told_after k e).due (slice_get es 0) due)).loads
keeps_here ds at k e es may due begins Departures = (would_keep k e (slice_get es 0) may.happens (due_follows (told_after k e).due (slice_get es 0) due)).departures
keeps_here ds at k e es may due begins Locks = (would_keep k e (slice_get es 0) may.happens (due_follows (told_after k e).due (slice_get es 0) due)).locks
keeps_here ds at k e es may due begins Steps = (would_keep k e (slice_get es 0) may.happens (due_follows (told_after k e).due (slice_get es 0) due)).steps
keeps_here ds at k e es may due begins Faults = (would_keep k e (slice_get es 0) may.happens (due_follows (told_after k e).due (slice_get es 0) due)).faults
keeps_here ds at k e es may due begins Calls = (would_keep k e (slice_get es 0) may.happens (due_follows (told_after k e).due (slice_get es 0) due)).calls
keeps_here ds at k e es may due begins Processors = may.processor

due_next : (k : Told) (es : List Entry) → AreLegal k es → (told_from k es).due ≡ Anything → IsDue k.due (slice_get es 0)
due_next k [] legal due = due
due_next k (e ∷ es) legal due = legal.0.comes

legal_kept : (ds : List Decl) (at : ℕ) (k : Told) (es : List Entry) → AreLegal k es → (told_from k es).due ≡ Anything → BeginsAt ds at es → AreKept ds at k es
legal_kept ds at k [] legal due begins = keeps_end ds at k due begins
legal_kept ds at k (e ∷ es) legal due begins =
    (keeps_here ds at k e es legal.0 (due_next (told_after k e) es legal.1 due) begins, legal_kept ds (at + 1) (told_after k e) es legal.1 due (begins_later ds at e es begins))

-- ---- the places of a journal

get_here : (p : List Entry) (e : Entry) (es : List Entry) → slice_get (p ++ e ∷ es) (length p) ≡ Some e
get_here [] e es = refl
get_here (x ∷ p) e es = get_here p e es

get_next : (p : List Entry) (e : Entry) (es : List Entry) → slice_get (p ++ e ∷ es) (suc (length p)) ≡ slice_get es 0
get_next [] e es = refl
get_next (x ∷ p) e es = get_next p e es

place_here : (p : List Entry) (e : Entry) (es : List Entry) → place_in (p ++ e ∷ es) (length p) ≡ at_place (length p) (told p) e (slice_get es 0)
place_here p e es =
    let next : length p + 1 ≡ suc (length p) = omega arith in
    ap (λ (front : List Entry). record { at = length p; told = told front; here = slice_get (p ++ e ∷ es) (length p); next = slice_get (p ++ e ∷ es) (length p + 1) }) (take_at p (e ∷ es) (length p) refl)
    ∙ ap (λ (here : Option Entry). record { at = length p; told = told p; here = here; next = slice_get (p ++ e ∷ es) (length p + 1) }) (get_here p e es)
    ∙ ap (λ (next : Option Entry). record { at = length p; told = told p; here = Some e; next = next }) (ap (λ (n : ℕ). slice_get (p ++ e ∷ es) n) next ∙ get_next p e es)

place_end : (p : List Entry) → place_in p (length p) ≡ at_end (length p) (told p)
place_end p =
    let whole : take (length p) p ≡ p = ap (λ (x : List Entry). take (length p) x) (sym (append-nil p)) ∙ take_at p [] (length p) refl in
    ap (λ (front : List Entry). record { at = length p; told = told front; here = slice_get p (length p); next = slice_get p (length p + 1) }) whole
    ∙ ap (λ (here : Option Entry). record { at = length p; told = told p; here = here; next = slice_get p (length p + 1) }) (slice_get_past p (length p) (omega arith))
    ∙ ap (λ (next : Option Entry). record { at = length p; told = told p; here = None; next = next }) (slice_get_past p (length p + 1) (omega arith))

told_push : (p : List Entry) (e : Entry) → told (p ++ e ∷ []) ≡ told_after (told p) e
told_push p e = told_from-append nothing_told p (e ∷ [])

length_push : (p : List Entry) (e : Entry) → length (p ++ e ∷ []) ≡ length p + 1
length_push p e = length-append p (e ∷ [])

all_kept : (ds : List Decl) (p es : List Entry) → KeepsAll ds (p ++ es) → AreKept ds (length p) (told p) es
all_kept ds p [] keeps = λ rule.
    let whole : p ++ [] ≡ p = append-nil p in
    subst (λ (x : Place). Keeps rule ds x) (place_end p) (subst (λ (j : List Entry). Keeps rule ds (place_in j (length p))) whole (keeps (length p) rule (omega (arith, length-append p []))))
all_kept ds p (e ∷ es) keeps =
    let moved : p ++ e ∷ es ≡ (p ++ e ∷ []) ++ es = sym (append_assoc p (e ∷ []) es) in
    let rest = all_kept ds (p ++ e ∷ []) es (subst (KeepsAll ds) moved keeps) in (
      λ rule. subst (λ (x : Place). Keeps rule ds x) (place_here p e es) (keeps (length p) rule (omega (arith, length-append p (e ∷ es)))),
      subst (λ (k : Told). AreKept ds (length p + 1) k es) (told_push p e) (subst (λ (n : ℕ). AreKept ds n (told (p ++ e ∷ [])) es) (length_push p e) rest),
    )

kept_all : (ds : List Decl) (p es : List Entry) → AreKept ds (length p) (told p) es → (n : ℕ) (rule : Rule) → n ≤ length es → Keeps rule ds (place_in (p ++ es) (length p + n))
kept_all ds p [] kept n rule within =
    let last : length p + n ≡ length p = omega arith in
    subst (λ (m : ℕ). Keeps rule ds (place_in (p ++ []) m)) (sym last)
    (subst (λ (j : List Entry). Keeps rule ds (place_in j (length p))) (sym (append-nil p)) (subst (λ (x : Place). Keeps rule ds x) (sym (place_end p)) (kept rule)))
kept_all ds p (e ∷ es) kept zero rule within =
    let here : length p + 0 ≡ length p = omega arith in
    subst (λ (m : ℕ). Keeps rule ds (place_in (p ++ e ∷ es) m)) (sym here) (subst (λ (x : Place). Keeps rule ds x) (sym (place_here p e es)) (kept.0 rule))
kept_all ds p (e ∷ es) kept (suc n) rule within =
    let moved : (p ++ e ∷ []) ++ es ≡ p ++ e ∷ es = append_assoc p (e ∷ []) es in
    let behind = subst (λ (m : ℕ). AreKept ds m (told (p ++ e ∷ [])) es) (sym (length_push p e)) (subst (λ (k : Told). AreKept ds (length p + 1) k es) (sym (told_push p e)) kept.1) in
    let rest = kept_all ds (p ++ e ∷ []) es behind n rule (omega arith) in
    let place : length (p ++ e ∷ []) + n ≡ length p + suc n = omega (arith, length_push p e) in
    subst (λ (m : ℕ). Keeps rule ds (place_in (p ++ e ∷ es) m)) place (subst (λ (j : List Entry). Keeps rule ds (place_in j (length (p ++ e ∷ []) + n))) moved rest)

-- ---- the two readings

get_front : (xs ys : List Entry) (n : ℕ) → n < length xs → slice_get (xs ++ ys) n ≡ slice_get xs n
get_front [] ys n lt = absurd (omega arith)
get_front (x ∷ xs) ys zero lt = refl
get_front (x ∷ xs) ys (suc n) lt = get_front xs ys n (omega arith)

-- a list whose front agrees with another place by place begins with that
front_is : (xs ys : List Entry) → ((n : ℕ) → n < length xs → slice_get ys n ≡ slice_get xs n) → (rest : List Entry) × (ys ≡ xs ++ rest)
front_is [] ys agree = (ys, refl)
front_is (x ∷ xs) [] agree = absurd (let e : None ≡ Some x = agree 0 (omega arith) in cc)
front_is (x ∷ xs) (y ∷ ys) agree =
    let rest = front_is xs ys (λ n lt. agree (suc n) (omega arith)) in
    let same : y ≡ x = same_Some y x (agree 0 (omega arith)) in
    (rest.0, ap (λ (e : Entry). e ∷ ys) same ∙ ap (λ (es : List Entry). x ∷ es) rest.1)

pub keeps_legal : (ds : List Decl) (j : List Entry) → KeepsAll ds j → IsLegal j
keeps_legal ds j keeps =
    let kept = all_kept ds [] j keeps in
    let due = is_due Opening (slice_get j 0) tt (order_first ds 0 nothing_told j kept) in
    let legal = kept_legal ds 0 nothing_told j due kept in
    record { each = legal.0; whole = legal.1 }

pub keeps_begins : (ds : List Decl) (j : List Entry) → KeepsAll ds j → (rest : List Entry) × (j ≡ opening ds ++ rest)
keeps_begins ds j keeps = front_is (opening ds) j (λ n lt. by n lt (cases_lt (length j) n))
  where
    some_within : (xs : List Entry) (n : ℕ) → n < length xs → slice_get xs n ≡ None → ⊥
    some_within [] n lt none = omega arith
    some_within (x ∷ xs) zero lt none = cc
    some_within (x ∷ xs) (suc n) lt none = some_within xs n (omega arith) none

    by : (n : ℕ) → n < length (opening ds) → (length j < n) ⊎ (n ≤ length j) → slice_get j n ≡ slice_get (opening ds) n
    by n lt (inr within) = keeps n Beginning within lt
    by n lt (inl past) =
        let end = keeps (length j) Beginning (omega arith) (omega arith) in
        let none : slice_get (opening ds) (length j) ≡ None = sym end ∙ slice_get_past j (length j) (omega arith) in
        absurd (some_within (opening ds) (length j) (omega arith) none)

pub legal_keeps : (ds : List Decl) (j rest : List Entry) → IsLegal j → j ≡ opening ds ++ rest → KeepsAll ds j
legal_keeps ds j rest legal begins at rule within =
    let begins_at : BeginsAt ds 0 j = λ n lt. ap (λ (es : List Entry). slice_get es n) begins ∙ get_front (opening ds) rest n (omega arith) ∙ ap (λ (m : ℕ). slice_get (opening ds) m) (omega arith) in
    let kept = kept_all ds [] j (legal_kept ds 0 nothing_told j legal.each legal.whole begins_at) at rule within in
    subst (λ (m : ℕ). Keeps rule ds (place_in j m)) (omega arith) kept
