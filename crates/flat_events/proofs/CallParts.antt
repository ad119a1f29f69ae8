-- What a declaration leaves of a thread that makes it, and which rules it may break.
use Rattle.std.proofs.Common.{◌≡◌, ℕ, ◌<◌, Bool, true, false, length, Option, Some, None, slice_get, refl, subst, arith}
use Rattle.std.specs.Prelude.{◌&&◌, nat_lt, if◌then◌else◌}
use Rattle.std.proofs.lemmas.Bool.{and_parts, ltb-true}
use Rattle.std.proofs.lemmas.List.{length_push}
use Rattle.std.proofs.lemmas.Option.{same_Some}
use Rattle.flat_state.specs.declared.events.Decl.{Decl}
use Rattle.flat_state.specs.declared.events.Decl.TheVariants as decls
use Rattle.flat_state.specs.declared.events.Machine.{Machine}
use Rattle.flat_state.specs.declared.records.FlatThread.{FlatThread}
use Rattle.flat_state.specs.State.{FlatState}
use Rattle.flat_state.specs.Declaration.{breaks, broken_rule, declared, has_no_flag, new_thread, rule_by_machine, rule_of_first, rule_of_other}
use Rattle.flat_state.proofs.Places.{get-append}
use Rattle.flat_events.specs.Readings.{IsRule}

-- a declaration leaves each thread in its place
pub thread_stays : (s : FlatState) (d : Decl) (n : ℕ) (t : FlatThread) → slice_get s.threads n ≡ Some t → slice_get (declared s d).threads n ≡ Some t
unfolding declared
thread_stays s (decls.Machine machine) n t here = here
thread_stays s (decls.Kernel number limits) n t here = here
thread_stays s (decls.Right kernel group read write) n t here = here
thread_stays s (decls.Space number kernel) n t here = here
thread_stays s (decls.Thread number space pc priority a0 a1) n t here = get-append s.threads _ n t here
thread_stays s (decls.Map space vpn frame flags receiver) n t here = here
thread_stays s (decls.Word frame offset value) n t here = here

-- so as many are there
pub still_there : (s : FlatState) (d : Decl) (n : ℕ) → n < length s.threads → n < length (declared s d).threads
unfolding declared
still_there s (decls.Machine machine) n within = within
still_there s (decls.Kernel number limits) n within = within
still_there s (decls.Right kernel group read write) n within = within
still_there s (decls.Space number kernel) n within = within
still_there s (decls.Thread number space pc priority a0 a1) n within = let many = length_push s.threads (new_thread number space pc priority a0 a1) in omega (arith, many, within)
still_there s (decls.Map space vpn frame flags receiver) n within = within
still_there s (decls.Word frame offset value) n within = within

-- the rule that is broken, if one is, has the number of a rule
abbrev IsOfRules : Option ℕ → Type 0
IsOfRules broken = (rule : ℕ) → broken ≡ Some rule → IsRule rule

no_rule : IsOfRules None
no_rule rule e = absurd (cc)

one_rule : (number : ℕ) → (nat_lt 0 number && nat_lt number 20) ≡ true → IsOfRules (Some number)
one_rule number e rule is =
    let parts = and_parts (nat_lt 0 number) (nat_lt number 20) e in
    subst IsRule (same_Some number rule is) (ltb-true 0 number parts.0, ltb-true number 20 parts.1)

or_later : (test : Bool) (number : ℕ) (later : Option ℕ) → (nat_lt 0 number && nat_lt number 20) ≡ true → IsOfRules later → IsOfRules (breaks test number later)
or_later true number later e rest = one_rule number e
or_later false number later e rest = rest

of_other : (s : FlatState) (d : Decl) → IsOfRules (rule_of_other s d)
of_other s (decls.Machine machine) = one_rule 5 refl
of_other s (decls.Kernel number limits) = or_later _ 8 _ refl (or_later _ 9 _ refl (or_later _ 10 _ refl (or_later _ 11 _ refl no_rule)))
of_other s (decls.Right kernel group read write) = or_later _ 12 _ refl (or_later _ 13 _ refl no_rule)
of_other s (decls.Space number kernel) = or_later _ 8 _ refl (or_later _ 9 _ refl (or_later _ 12 _ refl no_rule))
of_other s (decls.Thread number space pc priority a0 a1) = or_later _ 8 _ refl (or_later _ 9 _ refl (or_later _ 12 _ refl (or_later _ 14 _ refl no_rule)))
of_other s (decls.Map space vpn frame flags receiver) =
    or_later _ 4 _ refl (or_later _ 9 _ refl (or_later _ 12 _ refl (or_later _ 13 _ refl (or_later _ 16 _ refl (or_later _ 17 _ refl (or_later _ 18 _ refl (or_later _ 19 _ refl no_rule)))))))
of_other s (decls.Word frame offset value) = or_later _ 13 _ refl (or_later _ 15 _ refl no_rule)

of_first : (d : Decl) → IsOfRules (rule_of_first d)
of_first (decls.Machine machine) = or_later _ 6 _ refl (or_later _ 7 _ refl no_rule)
of_first (decls.Kernel number limits) = one_rule 5 refl
of_first (decls.Right kernel group read write) = one_rule 5 refl
of_first (decls.Space number kernel) = one_rule 5 refl
of_first (decls.Thread number space pc priority a0 a1) = one_rule 5 refl
of_first (decls.Map space vpn frame flags receiver) = by (has_no_flag flags)
  where
    by : (none : Bool) → IsOfRules (Some (if none then 4 else 5))
    by true = one_rule 4 refl
    by false = one_rule 5 refl
of_first (decls.Word frame offset value) = one_rule 5 refl

by_machine : (machine : Option Machine) (s : FlatState) (d : Decl) → IsOfRules (rule_by_machine machine s d)
by_machine None s d = of_first d
by_machine (Some m) s d = of_other s d

-- a declaration breaks none but the rules
pub rule_broken : (s : FlatState) (d : Decl) (rule : ℕ) → broken_rule s d ≡ Some rule → IsRule rule
unfolding broken_rule
rule_broken s d rule e = by_machine s.machine s d rule e
