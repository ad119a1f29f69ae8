-- What the declarations with which a journal begins tell is so of the machine that it makes.
use Rattle.std.proofs.Common.{◌≡◌, ℕ, zero, suc, true, false, not, List, [], ◌∷◌, ◌++◌, length, Option, Some, None, slice_get, refl, ap, sym, ◌∙◌, subst, inl, inr, append_assoc, arith}
use Rattle.std.specs.Prelude.{◌==◌, nat_le, nat_lt, ◌||◌, unwrap_or}
use Rattle.std.specs.List.{cons_option, filter_map}
use Rattle.std.specs.Option.{option_map}
use Rattle.std.proofs.lemmas.Bool.{eqb-true, not-false}
use Rattle.std.proofs.lemmas.List.{append-nil}
use Rattle.std.proofs.lemmas.Option.{same_Some}
use Rattle.cache_ident.specs.declared.names.KernelNo.{KernelNo}
use Rattle.cache_ident.specs.declared.names.SpaceNo.{SpaceNo}
use Rattle.cache_ident.specs.declared.names.ThreadNo.{ThreadNo}
use Rattle.cache_ident.specs.declared.names.Vpn.{Vpn}
use Rattle.flat_state.specs.declared.events.Decl.{Decl}
use Rattle.flat_state.specs.declared.events.Decl.TheVariants as decls
use Rattle.flat_state.specs.declared.events.Event.{Event}
use Rattle.flat_state.specs.declared.events.Event.TheVariants.{Declare}
use Rattle.flat_state.specs.declared.records.FlatThread.{FlatThread}
use Rattle.flat_state.specs.State.{FlatState}
use Rattle.flat_state.specs.Declaration.{agree, broken_rule, declared, has_frame, has_no_flag, has_receiver, is_receiver_in, new_thread, thread_is_in}
use Rattle.flat_state.specs.Events.{after_events, applied, declared_unless}
use Rattle.flat_state.proofs.FormedParts.{breaks_none, other_rule}
use Rattle.run_journal.specs.flat_laws.proofs.EventKeeps.{event_keeps}
use Rattle.run_journal.specs.flat_laws.proofs.Members.{Contains-cases, contains_nothing}
use Rattle.run_journal.specs.declared.entries.Entry.{Entry}
use Rattle.run_journal.specs.declared.entries.Entry.TheVariants.{Declared, Sealed}
use Rattle.run_journal.specs.Entries.{erase}
use Rattle.run_journal.specs.Legal.{AreLegal}
use Rattle.run_journal.specs.Points.{opening}
use Rattle.run_journal.specs.Told.{Told, told_after}
use Rattle.owners.specs.Owning.{IsThreadOf}
use Rattle.owners.specs.Telling.{home_in, kernel_in, receiver_in, space_in, IsToldBy}
use Rattle.owners.proofs.Behind.{spaces_stay}

-- ---- what events keep

pub thread_keeps : (s : FlatState) (es : List Event) (space : SpaceNo) (thread : ThreadNo) → IsThreadOf s space thread → IsThreadOf (after_events s es) space thread
thread_keeps s [] space thread is = is
thread_keeps s (e ∷ es) space thread is = thread_keeps (applied s e) es space thread (by (slice_get s.threads thread.0) refl is)
  where
    by : (o : Option FlatThread) → slice_get s.threads thread.0 ≡ o → option_map (λ (t : FlatThread). t.space) o ≡ Some space → IsThreadOf (applied s e) space thread
    by None here its = absurd (cc)
    by (Some t) here its =
        let kept = (event_keeps s e).threads.kept thread.0 t here in
        ap (option_map (λ (u : FlatThread). u.space)) kept.1 ∙ (ap Some kept.2 ∙ its)

pub kernel_keeps : (s : FlatState) (es : List Event) (n : ℕ) (kernel : KernelNo) → slice_get s.spaces n ≡ Some kernel → slice_get (after_events s es).spaces n ≡ Some kernel
kernel_keeps s [] n kernel is = is
kernel_keeps s (e ∷ es) n kernel is = kernel_keeps (applied s e) es n kernel ((event_keeps s e).spaces n kernel is)

-- ---- one declaration

applied_declared : (s : FlatState) (d : Decl) → broken_rule s d ≡ None → applied s (Declare d) ≡ declared s d
applied_declared s d fits = ap (λ (rule : Option ℕ). unwrap_or (declared_unless rule s d) s) fits

at_end : {X : Type 0} (xs : List X) (x : X) (n : ℕ) → n ≡ length xs → slice_get (xs ++ x ∷ []) n ≡ Some x
at_end [] x zero is = refl
at_end [] x (suc n) is = absurd (omega arith)
at_end (y ∷ xs) x zero is = absurd (omega arith)
at_end (y ∷ xs) x (suc n) is = at_end xs x n (omega arith)

next_number : (n most : ℕ) → not (n == most) ≡ false → n ≡ most
next_number n most is = eqb-true n most (not-false (n == most) is)

declared_thread : (s : FlatState) (d : Decl) (thread : ThreadNo) (space : SpaceNo) → broken_rule s d ≡ None → space_in d ≡ Some (thread, space) → IsThreadOf (declared s d) space thread
unfolding broken_rule declared
declared_thread s (decls.Thread n sp pc priority a0 a1) thread space fits tells =
    let rule = other_rule s.machine s (decls.Thread n sp pc priority a0 a1) refl fits in
    let next = breaks_none (not (n.0 == length s.threads)) 8 _ rule in
    let one : (n, sp) ≡ (thread, space) = same_Some (n, sp) (thread, space) tells in
    let there = at_end s.threads (new_thread n sp pc priority a0 a1) n.0 (next_number n.0 (length s.threads) next.0) in
    subst (λ (p : ThreadNo × SpaceNo). IsThreadOf (declared s (decls.Thread n sp pc priority a0 a1)) p.1 p.0) one (ap (option_map (λ (t : FlatThread). t.space)) there)
declared_thread s (decls.Machine machine) thread space fits tells = absurd (cc)
declared_thread s (decls.Kernel n limits) thread space fits tells = absurd (cc)
declared_thread s (decls.Right kernel group read write) thread space fits tells = absurd (cc)
declared_thread s (decls.Space n kernel) thread space fits tells = absurd (cc)
declared_thread s (decls.Map sp vpn frame flags receiver) thread space fits tells = absurd (cc)
declared_thread s (decls.Word frame offset value) thread space fits tells = absurd (cc)

declared_home : (s : FlatState) (d : Decl) (kernel : KernelNo) (space : SpaceNo) → broken_rule s d ≡ None → home_in d ≡ Some (kernel, space) → slice_get (declared s d).spaces space.0 ≡ Some kernel
unfolding broken_rule declared
declared_home s (decls.Space n ke) kernel space fits tells =
    let rule = other_rule s.machine s (decls.Space n ke) refl fits in
    let next = breaks_none (not (n.0 == length s.spaces)) 8 _ rule in
    let one : (ke, n) ≡ (kernel, space) = same_Some (ke, n) (kernel, space) tells in
    let there = at_end s.spaces ke n.0 (next_number n.0 (length s.spaces) next.0) in
    subst (λ (p : KernelNo × SpaceNo). slice_get (s.spaces ++ ke ∷ []) p.1.0 ≡ Some p.0) one there
declared_home s (decls.Machine machine) kernel space fits tells = absurd (cc)
declared_home s (decls.Kernel n limits) kernel space fits tells = absurd (cc)
declared_home s (decls.Right ke group read write) kernel space fits tells = absurd (cc)
declared_home s (decls.Thread n sp pc priority a0 a1) kernel space fits tells = absurd (cc)
declared_home s (decls.Map sp vpn frame flags receiver) kernel space fits tells = absurd (cc)
declared_home s (decls.Word frame offset value) kernel space fits tells = absurd (cc)

in_space : (threads : List FlatThread) (space : SpaceNo) (thread : ThreadNo) → thread_is_in space (slice_get threads thread.0) ≡ true → option_map (λ (t : FlatThread). t.space) (slice_get threads thread.0) ≡ Some space
in_space threads space thread is = by (slice_get threads thread.0) is
  where
    by : (o : Option FlatThread) → thread_is_in space o ≡ true → option_map (λ (t : FlatThread). t.space) o ≡ Some space
    by None is = absurd (cc)
    by (Some t) is = ap (λ (n : ℕ). Some (record { 0 = n })) (eqb-true t.space.0 space.0 is)

-- a receiver that is declared is a thread of its row's space
declared_receiver : (s : FlatState) (d : Decl) (page : SpaceNo × Vpn) (thread : ThreadNo) → broken_rule s d ≡ None → receiver_in d ≡ Some (page, thread) → IsThreadOf (declared s d) page.0 thread
unfolding broken_rule declared
declared_receiver s (decls.Map space vpn frame flags (Some receiver)) page thread fits tells =
    let rule = other_rule s.machine s (decls.Map space vpn frame flags (Some receiver)) refl fits in
    let flagged = breaks_none (has_no_flag flags) 4 _ rule in
    let few = breaks_none (nat_le 262144 (length s.rows)) 9 _ flagged.1 in
    let there = breaks_none (nat_le (length s.spaces) space.0 || not (has_receiver s.threads (Some receiver))) 12 _ few.1 in
    let placed = breaks_none (not (has_frame s frame) || nat_lt 1048575 vpn.0) 13 _ there.1 in
    let agreed = breaks_none (not (agree flags true)) 16 _ placed.1 in
    let fresh = breaks_none _ 17 _ agreed.1 in
    let received = breaks_none (not (is_receiver_in space s.threads (Some receiver))) 18 _ fresh.1 in
    let one : ((space, vpn), receiver) ≡ (page, thread) = same_Some ((space, vpn), receiver) (page, thread) tells in
    subst (λ (p : (SpaceNo × Vpn) × ThreadNo). IsThreadOf s p.0.0 p.1) one (in_space s.threads space receiver (not-false _ received.0))
declared_receiver s (decls.Map space vpn frame flags None) page thread fits tells = absurd (cc)
declared_receiver s (decls.Machine machine) page thread fits tells = absurd (cc)
declared_receiver s (decls.Kernel n limits) page thread fits tells = absurd (cc)
declared_receiver s (decls.Right kernel group read write) page thread fits tells = absurd (cc)
declared_receiver s (decls.Space n kernel) page thread fits tells = absurd (cc)
declared_receiver s (decls.Thread n sp pc priority a0 a1) page thread fits tells = absurd (cc)
declared_receiver s (decls.Word frame offset value) page thread fits tells = absurd (cc)

declared_spaces : (s : FlatState) (d : Decl) (more : List KernelNo) → (declared s d).spaces ++ more ≡ s.spaces ++ cons_option (kernel_in d) more
unfolding declared
declared_spaces s (decls.Space n kernel) more = append_assoc s.spaces (kernel ∷ []) more
declared_spaces s (decls.Machine machine) more = refl
declared_spaces s (decls.Kernel n limits) more = refl
declared_spaces s (decls.Right kernel group read write) more = refl
declared_spaces s (decls.Thread n space pc priority a0 a1) more = refl
declared_spaces s (decls.Map space vpn frame flags receiver) more = refl
declared_spaces s (decls.Word frame offset value) more = refl

-- ---- the opening

pub opening_spaces : (k : Told) (ds : List Decl) (rest : List Entry) → AreLegal k (opening ds ++ rest) → (after_events k.state (erase (opening ds ++ rest))).spaces ≡ k.state.spaces ++ filter_map kernel_in ds
opening_spaces k [] rest legal = spaces_stay (told_after k Sealed) rest legal.1 refl ∙ sym (append-nil k.state.spaces)
opening_spaces k (d ∷ ds) rest legal =
    opening_spaces (told_after k (Declared d)) ds rest legal.1
    ∙ (ap (λ (s : FlatState). s.spaces ++ filter_map kernel_in ds) (applied_declared k.state d legal.0.place.1)
    ∙ declared_spaces k.state d (filter_map kernel_in ds))

-- What is told by a declaration that fits, and is kept by events, is so behind the opening.
module _ {X : Type 0} (f : Decl → Option X) (P : FlatState → X → Type 0)
    (keeps : (s : FlatState) (es : List Event) (x : X) → P s x → P (after_events s es) x)
    (so : (s : FlatState) (d : Decl) (x : X) → broken_rule s d ≡ None → f d ≡ Some x → P (declared s d) x) where
  opening_tells : (k : Told) (ds : List Decl) (rest : List Entry) (x : X) → AreLegal k (opening ds ++ rest) → IsToldBy f ds x → P (after_events k.state (erase (opening ds ++ rest))) x
  opening_tells k [] rest x legal told = absurd (contains_nothing told.0 told.1)
  opening_tells k (d ∷ ds) rest x legal told = elim (Contains-cases d ds told.0 told.1) [
    | inl same ↦
        let fits = legal.0.place.1 in
        keeps (applied k.state (Declare d)) (erase (opening ds ++ rest)) x
        (subst (λ (s : FlatState). P s x) (sym (applied_declared k.state d fits)) (so k.state d x fits (ap f same ∙ told.2)))
    | inr later ↦ opening_tells (told_after k (Declared d)) ds rest x legal.1 (told.0, later, told.2)
  ]

pub opening_threads : (k : Told) (ds : List Decl) (rest : List Entry) (p : ThreadNo × SpaceNo) → AreLegal k (opening ds ++ rest) → IsToldBy space_in ds p → IsThreadOf (after_events k.state (erase (opening ds ++ rest))) p.1 p.0
opening_threads = opening_tells space_in (λ s p. IsThreadOf s p.1 p.0) (λ s es p is. thread_keeps s es p.1 p.0 is) (λ s d p fits tells. declared_thread s d p.0 p.1 fits tells)

pub opening_receivers : (k : Told) (ds : List Decl) (rest : List Entry) (p : (SpaceNo × Vpn) × ThreadNo) → AreLegal k (opening ds ++ rest) → IsToldBy receiver_in ds p → IsThreadOf (after_events k.state (erase (opening ds ++ rest))) p.0.0 p.1
opening_receivers = opening_tells receiver_in (λ s p. IsThreadOf s p.0.0 p.1) (λ s es p is. thread_keeps s es p.0.0 p.1 is) (λ s d p fits tells. declared_receiver s d p.0 p.1 fits tells)

pub opening_homes : (k : Told) (ds : List Decl) (rest : List Entry) (p : KernelNo × SpaceNo) → AreLegal k (opening ds ++ rest) → IsToldBy home_in ds p → slice_get (after_events k.state (erase (opening ds ++ rest))).spaces p.1.0 ≡ Some p.0
opening_homes = opening_tells home_in (λ s p. slice_get s.spaces p.1.0 ≡ Some p.0) (λ s es p is. kernel_keeps s es p.1.0 p.0 is) (λ s d p fits tells. declared_home s d p.0 p.1 fits tells)
