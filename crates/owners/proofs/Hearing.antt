-- What owners know of one declaration more.
use Rattle.std.proofs.Common.{◌≡◌, ◌≢◌, ℕ, Bool, true, false, List, [], ◌∷◌, ◌++◌, Option, Some, None, is_some, refl, ap, sym, ◌∙◌, subst, ◌⊎◌, inl, inr, ◌<◌, ◌+◌, get_or, length, take}
use Rattle.std.specs.Prelude.{IsSome, OnOk, Result, Ok, Err}
use Rattle.std.specs.Map.{lookup}
use Rattle.std.specs.Option.{option_flatten, option_map}
use Rattle.std.specs.List.{cons_option, filter_map}
use Rattle.std.proofs.lemmas.List.{append-nil, take_more}
use Rattle.std.proofs.lemmas.List.Elements.{filter_map-append, Contains-append_left, Contains-push, Contains-push_cases}
use Rattle.std.proofs.lemmas.Option.{same_Some}
use Rattle.cache_ident.specs.declared.idents.Ident.{Ident}
use Rattle.cache_ident.specs.declared.names.KernelNo.{KernelNo}
use Rattle.cache_ident.specs.declared.names.Name.{Name}
use Rattle.cache_ident.specs.declared.names.SpaceNo.{SpaceNo}
use Rattle.cache_ident.specs.declared.names.ThreadNo.{ThreadNo}
use Rattle.cache_ident.specs.declared.names.Vpn.{Vpn}
use Rattle.run_journal.specs.flat_laws.proofs.Members.{contains_nothing}
use Rattle.flat_state.specs.declared.events.Decl.{Decl}
use Rattle.owners.specs.Keys.{is_kernel, is_name, is_page, is_thread}
use Rattle.owners.specs.Known.{home_of, ident_of, knows, receiver_of, space_of, IsMet, IsReceiverLearnt, IsSpaceLearnt, Known}
use Rattle.owners.specs.Telling.{home_in, kernel_in, name_in, receiver_in, space_in, AreNewOwners, IsAsToldBy, IsToldBy}
use Rattle.owners.proofs.KeyLemmas.{apart, cases, kernel_test, name_test, page_test, thread_test, IsTestOf}

-- ---- what one declaration more tells

module _ {X : Type 0} (f : Decl → Option X) (ds : List Decl) (d : Decl) where
  told_before : (x : X) → IsToldBy f ds x → IsToldBy f (ds ++ d ∷ []) x
  told_before x told = (told.0, Contains-append_left ds (d ∷ []) told.0 told.1, told.2)

  told_last : (x : X) → f d ≡ Some x → IsToldBy f (ds ++ d ∷ []) x
  told_last x is = (d, Contains-push ds d, is)

  told_cases : (x : X) → IsToldBy f (ds ++ d ∷ []) x → IsToldBy f ds x ⊎ (f d ≡ Some x)
  told_cases x told = elim (Contains-push_cases ds d told.0 told.1) [
    | inl before ↦ inl (told.0, before, told.2)
    | inr last ↦ inr (ap f last ∙ told.2)
  ]

is_some_of : {X : Type 0} (o : Option X) (x : X) → o ≡ Some x → IsSome o
is_some_of o x is = ap is_some is

module _ {K V : Type 0} (f : Decl → Option (K × V)) (ds : List Decl) (d : Decl) where
  -- a declaration that tells nothing of it
  as_told_still : (known : K → Option V) → f d ≡ None → IsAsToldBy f ds known → IsAsToldBy f (ds ++ d ∷ []) known
  as_told_still known nothing was = record {
    told = λ key value is. told_before f ds d (key, value) (was.told key value is);
    met = λ key value told. elim (told_cases f ds d (key, value) told) [
      | inl before ↦ was.met key value before
      | inr last ↦ absurd (cc)
    ];
  }

  -- and one that tells of a key
  as_told_more : (eq : K → K → Bool) → IsTestOf eq → (old new : K → Option V) (key : K) (value : V) → f d ≡ Some (key, value) → new key ≡ Some value → ((other : K) → other ≢ key → new other ≡ old other)
      → IsAsToldBy f ds old → IsAsToldBy f (ds ++ d ∷ []) new
  as_told_more eq test old new key value tells its others was = record {
    told = λ other found is. elim (cases eq test key other) [
      | inl same ↦
          let one : value ≡ found = same_Some value found (sym its ∙ (ap new (sym same) ∙ is)) in
          told_last f ds d (other, found) (tells ∙ (λ i. Some (sym same i, one i)))
      | inr apart ↦ told_before f ds d (other, found) (was.told other found (sym (others other apart) ∙ is))
    ];
    met = λ other found told. elim (cases eq test key other) [
      | inl same ↦ is_some_of (new other) value (ap new same ∙ its)
      | inr apart ↦ elim (told_cases f ds d (other, found) told) [
        | inl before ↦ subst (λ (o : Option V). IsSome o) (sym (others other apart)) (was.met other found before)
        | inr last ↦ absurd (apart (ap (λ (p : K × V). p.0) (same_Some (other, found) (key, value) (sym last ∙ tells))))
      ]
    ];
  }

-- ---- a name that is met

-- the names of one declaration more are known, and the rest as before
record HasMetName (ds : List Decl) (d : Decl) (o : Known) : Type 0 where
  names : (name : Name) → IsToldBy name_in (ds ++ d ∷ []) name → knows o name ≡ true
  idents : (name : Name) → ident_of o name ≡ None
  threads : IsAsToldBy space_in ds (space_of o)
  receivers : IsAsToldBy receiver_in ds (receiver_of o)
  spaces : o.spaces ≡ filter_map kernel_in ds
  homes : IsAsToldBy home_in ds (home_of o)

meets : (ds : List Decl) (d : Decl) (name : Name) (o p : Known) → name_in d ≡ Some name → AreNewOwners ds o → IsMet name o p → HasMetName ds d p
meets ds d name o p tells new met =
    let rest = met.rest in
    record {
      names = λ other told. elim (cases is_name name_test name other) [
        | inl same ↦ ap (knows p) same ∙ met.known
        | inr apart ↦ elim (told_cases name_in ds d other told) [
          | inl before ↦ met.other_names other apart ∙ new.names other before
          | inr last ↦ absurd (apart (same_Some other name (sym last ∙ tells)))
        ]
      ];
      idents = λ other. elim (cases is_name name_test name other) [
        | inl same ↦ ap (ident_of p) same ∙ met.its
        | inr apart ↦ met.other_idents other apart ∙ new.idents other
      ];
      threads = subst (λ (x : Known). IsAsToldBy space_in ds (space_of x)) (sym rest) new.threads;
      receivers = subst (λ (x : Known). IsAsToldBy receiver_in ds (receiver_of x)) (sym rest) new.receivers;
      spaces = ap (λ (x : Known). x.spaces) rest ∙ new.spaces;
      homes = subst (λ (x : Known). IsAsToldBy home_in ds (home_of x)) (sym rest) new.homes;
    }

no_more_spaces : (ds : List Decl) (d : Decl) (ks : List KernelNo) → kernel_in d ≡ None → ks ≡ filter_map kernel_in ds → ks ≡ filter_map kernel_in (ds ++ d ∷ [])
no_more_spaces ds d ks nothing is = is ∙ (sym (append-nil (filter_map kernel_in ds)) ∙ (ap (λ (o : Option KernelNo). filter_map kernel_in ds ++ cons_option o []) (sym nothing) ∙ sym (filter_map-append kernel_in ds (d ∷ []))))

-- ---- the declarations

-- a declaration that tells nothing
nothing_more : (ds : List Decl) (d : Decl) (o : Known) → name_in d ≡ None → space_in d ≡ None → receiver_in d ≡ None → kernel_in d ≡ None → home_in d ≡ None → AreNewOwners ds o → AreNewOwners (ds ++ d ∷ []) o
nothing_more ds d o name space receiver kernel home new = record {
  names = λ other told. elim (told_cases name_in ds d other told) [
    | inl before ↦ new.names other before
    | inr last ↦ absurd (cc)
  ];
  idents = new.idents;
  threads = as_told_still space_in ds d (space_of o) space new.threads;
  receivers = as_told_still receiver_in ds d (receiver_of o) receiver new.receivers;
  spaces = no_more_spaces ds d o.spaces kernel new.spaces;
  homes = as_told_still home_in ds d (home_of o) home new.homes;
}

pub heard_nothing : (ds : List Decl) (d quiet : Decl) (o : Known) → d ≡ quiet → name_in quiet ≡ None → space_in quiet ≡ None → receiver_in quiet ≡ None → kernel_in quiet ≡ None → home_in quiet ≡ None → AreNewOwners ds o → AreNewOwners (ds ++ d ∷ []) o
heard_nothing ds d quiet o same name space receiver kernel home new = subst (λ (x : Decl). AreNewOwners (ds ++ x ∷ []) o) (sym same) (nothing_more ds quiet o name space receiver kernel home new)

-- a name alone
pub heard_name : (ds : List Decl) (d : Decl) (name : Name) (o p : Known) → name_in d ≡ Some name → space_in d ≡ None → receiver_in d ≡ None → kernel_in d ≡ None → home_in d ≡ None → AreNewOwners ds o → IsMet name o p → AreNewOwners (ds ++ d ∷ []) p
heard_name ds d name o p tells space receiver kernel home new met =
    let has = meets ds d name o p tells new met in
    record {
      names = has.names;
      idents = has.idents;
      threads = as_told_still space_in ds d (space_of p) space has.threads;
      receivers = as_told_still receiver_in ds d (receiver_of p) receiver has.receivers;
      spaces = no_more_spaces ds d p.spaces kernel has.spaces;
      homes = as_told_still home_in ds d (home_of p) home has.homes;
    }

-- a thread with its space
pub heard_thread : (ds : List Decl) (d : Decl) (name : Name) (thread : ThreadNo) (space : SpaceNo) (o p q : Known) → name_in d ≡ Some name → space_in d ≡ Some (thread, space) → receiver_in d ≡ None → kernel_in d ≡ None → home_in d ≡ None
    → AreNewOwners ds o → IsMet name o p → IsSpaceLearnt thread space p q → AreNewOwners (ds ++ d ∷ []) q
heard_thread ds d name thread space o p q tells is receiver kernel home new met learnt =
    let has = meets ds d name o p tells new met in
    let rest = learnt.rest in
    record {
      names = λ other told. ap (λ (x : Known). knows x other) rest ∙ has.names other told;
      idents = λ other. ap (λ (x : Known). ident_of x other) rest ∙ has.idents other;
      threads = as_told_more space_in ds d is_thread thread_test (space_of p) (space_of q) thread space is learnt.its learnt.others has.threads;
      receivers = as_told_still receiver_in ds d (receiver_of q) receiver (subst (λ (x : Known). IsAsToldBy receiver_in ds (receiver_of x)) (sym rest) has.receivers);
      spaces = no_more_spaces ds d q.spaces kernel (ap (λ (x : Known). x.spaces) rest ∙ has.spaces);
      homes = as_told_still home_in ds d (home_of q) home (subst (λ (x : Known). IsAsToldBy home_in ds (home_of x)) (sym rest) has.homes);
    }

-- a row with its receiver
pub heard_receiver : (ds : List Decl) (d : Decl) (name : Name) (page : SpaceNo × Vpn) (receiver : Option ThreadNo) (thread : ThreadNo) (o p q : Known) → name_in d ≡ Some name → space_in d ≡ None → receiver_in d ≡ option_map (λ (t : ThreadNo). (page, t)) receiver → kernel_in d ≡ None → home_in d ≡ None
    → receiver ≡ Some thread → AreNewOwners ds o → IsMet name o p → IsReceiverLearnt page receiver p q → AreNewOwners (ds ++ d ∷ []) q
heard_receiver ds d name page receiver thread o p q tells space tells_receiver kernel home some new met learnt =
    let has = meets ds d name o p tells new met in
    let rest = learnt.rest in
    let is : receiver_in d ≡ Some (page, thread) = tells_receiver ∙ ap (option_map (λ (t : ThreadNo). (page, t))) some in
    record {
      names = λ other told. ap (λ (x : Known). knows x other) rest ∙ has.names other told;
      idents = λ other. ap (λ (x : Known). ident_of x other) rest ∙ has.idents other;
      threads = as_told_still space_in ds d (space_of q) space (subst (λ (x : Known). IsAsToldBy space_in ds (space_of x)) (sym rest) has.threads);
      receivers = as_told_more receiver_in ds d is_page page_test (receiver_of p) (receiver_of q) page thread is (learnt.its ∙ some) learnt.others has.receivers;
      spaces = no_more_spaces ds d q.spaces kernel (ap (λ (x : Known). x.spaces) rest ∙ has.spaces);
      homes = as_told_still home_in ds d (home_of q) home (subst (λ (x : Known). IsAsToldBy home_in ds (home_of x)) (sym rest) has.homes);
    }

-- a space with its kernel, which has it as its home
pub heard_space : (ds : List Decl) (d : Decl) (name : Name) (kernel : KernelNo) (space : SpaceNo) (o p inside : Known) (spaces : List KernelNo) (homes : List (KernelNo × SpaceNo))
    → name_in d ≡ Some name → space_in d ≡ None → receiver_in d ≡ None → kernel_in d ≡ Some kernel → home_in d ≡ Some (kernel, space) → inside ≡ p → spaces ≡ inside.spaces ++ kernel ∷ [] → lookup (is_kernel kernel) homes ≡ Some space
    → ((other : KernelNo) → is_kernel kernel other ≡ false → lookup (is_kernel other) homes ≡ lookup (is_kernel other) inside.homes)
    → AreNewOwners ds o → IsMet name o p → AreNewOwners (ds ++ d ∷ []) (record inside { spaces = spaces; homes = homes })
heard_space ds d name kernel space o p inside spaces homes tells no_space no_receiver is home same pushed its others new met =
    let has = meets ds d name o inside tells new (subst (λ (x : Known). IsMet name o x) (sym same) met) in
    record {
      names = has.names;
      idents = has.idents;
      threads = as_told_still space_in ds d (space_of inside) no_space has.threads;
      receivers = as_told_still receiver_in ds d (receiver_of inside) no_receiver has.receivers;
      spaces = pushed ∙ (ap (λ (ks : List KernelNo). ks ++ kernel ∷ []) has.spaces ∙ (ap (λ (k : Option KernelNo). filter_map kernel_in ds ++ cons_option k []) (sym is) ∙ sym (filter_map-append kernel_in ds (d ∷ []))));
      homes = as_told_more home_in ds d is_kernel kernel_test (home_of inside) (λ k. lookup (is_kernel k) homes) kernel space home its (λ other far. others other (apart is_kernel kernel_test kernel other far)) has.homes;
    }

pub on_ok : {T E : Type 0} {P Q : Type 0} (r : Result T E) → (P → Q) → OnOk r P → OnOk r Q
on_ok (Ok x) f p = f p
on_ok (Err e) f p = p

pub heard_one_more : (ds : List Decl) (i : ℕ) (d : Decl) (o : Known) → i < length ds → AreNewOwners (take i ds ++ get_or ds i d ∷ []) o → AreNewOwners (take (i + 1) ds) o
heard_one_more ds i d o within heard = subst (λ (xs : List Decl). AreNewOwners xs o) (sym (take_more ds i d within)) heard

-- ---- nothing yet

pub nothing_heard : (o : Known) → o.idents ≡ [] → o.threads ≡ [] → o.receivers ≡ [] → o.spaces ≡ [] → o.homes ≡ [] → AreNewOwners [] o
nothing_heard o idents threads receivers spaces homes = record {
  names = λ name told. absurd (contains_nothing told.0 told.1);
  idents = λ name. ap (λ (xs : List (Name × Option Ident)). option_flatten (lookup (is_name name) xs)) idents;
  threads = subst (λ (xs : List (ThreadNo × SpaceNo)). IsAsToldBy space_in [] (λ thread. lookup (is_thread thread) xs)) (sym threads) (told_nothing space_in);
  receivers = subst (λ (xs : List ((SpaceNo × Vpn) × ThreadNo)). IsAsToldBy receiver_in [] (λ page. lookup (is_page page) xs)) (sym receivers) (told_nothing receiver_in);
  spaces = spaces;
  homes = subst (λ (xs : List (KernelNo × SpaceNo)). IsAsToldBy home_in [] (λ kernel. lookup (is_kernel kernel) xs)) (sym homes) (told_nothing home_in);
}
  where
    told_nothing : {K V : Type 0} (f : Decl → Option (K × V)) → IsAsToldBy f [] (λ key. None)
    told_nothing f = record { told = λ key value is. absurd (cc); met = λ key value told. absurd (contains_nothing told.0 told.1) }

-- ---- a receiver

pub receiver_learnt : (inside o : Known) (news : List ((SpaceNo × Vpn) × ThreadNo)) (page : SpaceNo × Vpn) (receiver : Option ThreadNo) → inside ≡ o → lookup (is_page page) news ≡ receiver
    → ((other : SpaceNo × Vpn) → is_page page other ≡ false → lookup (is_page other) news ≡ lookup (is_page other) inside.receivers) → IsReceiverLearnt page receiver o (record inside { receivers = news })
receiver_learnt inside o news page receiver same its others =
    subst (λ (x : Known). IsReceiverLearnt page receiver x (record inside { receivers = news })) same
    (record { its = its; others = λ other far. others other (apart is_page page_test page other far); rest = refl })
