-- Which tests a call passed that is refused for a later one.
use Rattle.std.proofs.Common.{◌≡◌, ℕ, Bool, true, false, Option, Some, None, refl}
use Rattle.std.specs.Prelude.{◌==◌, if◌then◌else◌}
use Rattle.std.specs.Option.{option_and_then, option_or}
use Rattle.std.proofs.lemmas.Option.{same_Some}
use Rattle.cache_ident.specs.declared.idents.Ident.{Ident}
use Rattle.cache_ident.specs.declared.idents.Kind.{Kind}
use Rattle.cache_ident.specs.declared.idents.Kind.TheVariants as kind
use Rattle.cache_ident.specs.declared.idents.Standing.{Standing}
use Rattle.cache_ident.specs.declared.idents.Standing.TheVariants.{Left, Live, Never}
use Rattle.cache_ident.specs.declared.names.KernelNo.{KernelNo}
use Rattle.cache_ident.specs.declared.names.Name.{Name}
use Rattle.cache_ident.specs.Rolls.{standing_in}
use Rattle.legal_laws.specs.flat_state.specs.Dependence.{owner}
use Rattle.legal_laws.specs.flat_state.specs.Names.{stands}
use Rattle.legal_laws.specs.run_journal.specs.Legal.{is_kind}
use Rattle.answer_laws.specs.desc_stores.specs.Contents.{Contents}
use Rattle.answer_laws.specs.desc_parents.specs.Seen.{seen}
use Rattle.answer_laws.specs.board_ops.specs.declared.refusals.Refused.{Refused}
use Rattle.answer_laws.specs.board_ops.specs.declared.refusals.Refused.TheVariants as why
use Rattle.answer_laws.specs.board_checks.specs.Identifiers.{gone_by, kernel_as, not_a, not_a_receiver, not_live, wrong_kind}
use Rattle.answer_laws.specs.board_checks.specs.Refusals.{not_declared, not_owned, not_owner}

-- a test that passes holds
pub holds : (t : Bool) (x : Refused) → (if t then None else Some x) ≡ None → t ≡ true
holds true x passes = refl
holds false x passes = absurd (cc)

-- the reason is none that a test of identifiers, of what stands, or of owners gives
pub record IsLater (w : Refused) : Type 0 where
  pub not_unknown : (i : Ident) → why.Unknown i ≡ w → ⊥
  pub not_stale : (i : Ident) (at : ℕ) → why.Stale i at ≡ w → ⊥
  pub not_kind : (i : Ident) → why.WrongKind i ≡ w → ⊥
  pub not_declared : (n : Name) → why.NotDeclared n ≡ w → ⊥
  pub not_owner : (given its : KernelNo) → why.NotOwner given its ≡ w → ⊥

pub told_is_later : (ident : Ident) → IsLater (why.AlreadyLoaded ident)
told_is_later ident = record {
  not_unknown = λ i is. absurd (cc);
  not_stale = λ i at is. absurd (cc);
  not_kind = λ i is. absurd (cc);
  not_declared = λ n is. absurd (cc);
  not_owner = λ given its is. absurd (cc);
}

pub parent_is_later : (given declared : Option Name) → IsLater (why.WrongParent given declared)
parent_is_later given declared = record {
  not_unknown = λ i is. absurd (cc);
  not_stale = λ i at is. absurd (cc);
  not_kind = λ i is. absurd (cc);
  not_declared = λ n is. absurd (cc);
  not_owner = λ a b is. absurd (cc);
}

-- both of two tests pass
pub both_pass : (a b : Option Refused) → option_or a b ≡ None → (a ≡ None) × (b ≡ None)
both_pass None b passes = (refl, passes)
both_pass (Some x) b passes = absurd (cc)

-- the first of two passes, which doesn't refuse for that reason, and the second does
pub first_passes : (a b : Option Refused) (w : Refused) → (a ≡ Some w → ⊥) → option_or a b ≡ Some w → (a ≡ None) × (b ≡ Some w)
first_passes None b w never told = (refl, told)
first_passes (Some x) b w never told = absurd (never told)

pub if_never : (t : Bool) (x w : Refused) → (x ≡ w → ⊥) → (if t then None else Some x) ≡ Some w → ⊥
if_never true x w apart told = absurd (cc)
if_never false x w apart told = apart (same_Some x w told)

pub or_never : (a b : Option Refused) (w : Refused) → (a ≡ Some w → ⊥) → (b ≡ Some w → ⊥) → option_or a b ≡ Some w → ⊥
or_never None b w first second told = second told
or_never (Some x) b w first second told = first told

pub and_then_never : {A : Type 0} (f : A → Option Refused) (o : Option A) (w : Refused) → ((a : A) → f a ≡ Some w → ⊥) → option_and_then f o ≡ Some w → ⊥
and_then_never f None w never told = absurd (cc)
and_then_never f (Some a) w never told = never a told

gone_never : (i : Ident) (s : Standing) (w : Refused) → IsLater w → gone_by i s ≡ Some w → ⊥
gone_never i Live w later told = absurd (cc)
gone_never i (Left at) w later told = later.not_stale i at (same_Some (why.Stale i at) w told)
gone_never i Never w later told = later.not_unknown i (same_Some (why.Unknown i) w told)

module _ (c : Contents) (w : Refused) (later : IsLater w) where
  not_live_never : (i : Ident) → not_live c i ≡ Some w → ⊥
  unfolding not_live
  not_live_never i told = gone_never i (standing_in c.issued i) w later told

  wrong_kind_never : (k : Kind) (i : Ident) → wrong_kind k i ≡ Some w → ⊥
  unfolding wrong_kind
  wrong_kind_never k i told = if_never (is_kind i.kind k) (why.WrongKind i) w (later.not_kind i) told

  pub not_a_never : (k : Kind) (i : Ident) → not_a k c i ≡ Some w → ⊥
  not_a_never k i told = or_never (not_live c i) (wrong_kind k i) w (not_live_never i) (wrong_kind_never k i) told

  pub not_a_receiver_never : (r : Option Ident) → not_a_receiver c r ≡ Some w → ⊥
  not_a_receiver_never None told = absurd (cc)
  not_a_receiver_never (Some i) told = not_a_never kind.Thread i told

  pub not_declared_never : (n : Name) → not_declared c n ≡ Some w → ⊥
  unfolding not_declared
  not_declared_never n told = if_never (stands (seen c) n) (why.NotDeclared n) w (later.not_declared n) told

  pub not_owned_never : (caller : Ident) (n : Name) → not_owned c caller n ≡ Some w → ⊥
  unfolding not_owned
  not_owned_never caller n told =
      and_then_never (λ (given : KernelNo). option_and_then (not_owner given) (owner (seen c) n)) (kernel_as c caller) w
      (λ given one. and_then_never (not_owner given) (owner (seen c) n) w (λ its two. if_never (given.0 == its.0) (why.NotOwner given its) w (later.not_owner given its) two) one) told
