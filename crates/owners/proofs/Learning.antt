-- Owners stay owners.
use Rattle.std.proofs.Common.{◌≡◌, true, List, [], ◌∷◌, ◌++◌, append_assoc, Option, Some, None, slice_get, refl, ap, sym, ◌∙◌, subst, inl, inr}
use Rattle.std.specs.Prelude.{IfSome, IsSome}
use Rattle.std.specs.List.{list_any}
use Rattle.std.proofs.lemmas.List.Elements.{Contains-append_left}
use Rattle.std.proofs.lemmas.Option.{same_Some}
use Rattle.cache_ident.specs.declared.idents.Ident.{Ident}
use Rattle.cache_ident.specs.declared.names.KernelNo.{KernelNo}
use Rattle.cache_ident.specs.declared.names.Name.{Name}
use Rattle.cache_ident.specs.declared.names.SpaceNo.{SpaceNo}
use Rattle.cache_ident.specs.declared.names.ThreadNo.{ThreadNo}
use Rattle.cache_ident.specs.declared.names.Vpn.{Vpn}
use Rattle.flat_state.specs.declared.events.Decl.{Decl}
use Rattle.flat_state.specs.State.{FlatState}
use Rattle.flat_state.specs.Events.{after_events, flat}
use Rattle.run_journal.specs.declared.entries.Entry.{Entry}
use Rattle.run_journal.specs.Entries.{erase}
use Rattle.run_journal.specs.Legal.{IsLegal}
use Rattle.run_journal.specs.Points.{opening}
use Rattle.run_journal.specs.Told.{is_seal, nothing_told, told}
use Rattle.run_journal.proofs.Growth.{legal-split, sealed_from}
use Rattle.run_journal.proofs.LegalGrowth.{flat-append, state_told}
use Rattle.owners.specs.Known.{home_of, ident_of, knows, receiver_of, space_of, IsNoted, IsReceiverLearnt, IsSpaceLearnt, Known}
use Rattle.owners.specs.Keys.{is_name, is_page, is_thread}
use Rattle.owners.specs.Owning.{AreOwnersOf, HaveMet, IsThreadOf, WasLoadedAs}
use Rattle.owners.proofs.Behind.{spaces_stay}
use Rattle.owners.proofs.KeyLemmas.{cases, name_test, page_test, thread_test}
use Rattle.owners.proofs.Openings.{thread_keeps}

-- ---- a longer journal

seal_there : (ds : List Decl) (rest : List Entry) → list_any is_seal (opening ds ++ rest) ≡ true
seal_there [] rest = refl
seal_there (d ∷ ds) rest = seal_there ds rest

is_sealed : (j : List Entry) (o : Known) → HaveMet j o → (told j).sealed ≡ true
is_sealed j o met = sealed_from nothing_told j ∙ (ap (list_any is_seal) met.begins ∙ seal_there met.decls met.rest)

-- behind the seal the spaces stay
still_spaces : (j es : List Entry) (o : Known) → HaveMet j o → IsLegal (j ++ es) → (flat (erase (j ++ es))).spaces ≡ (flat (erase j)).spaces
still_spaces j es o met legal =
    let behind = (legal-split nothing_told j es legal.each).1 in
    let stay = spaces_stay (told j) es behind (is_sealed j o met) in
    ap (λ (s : FlatState). s.spaces) (flat-append j es)
    ∙ subst (λ (s : FlatState). (after_events s (erase es)).spaces ≡ s.spaces) (state_told j) stay

still_thread : (j es : List Entry) (space : SpaceNo) (thread : ThreadNo) → IsThreadOf (flat (erase j)) space thread → IsThreadOf (flat (erase (j ++ es))) space thread
still_thread j es space thread is = subst (λ (s : FlatState). IsThreadOf s space thread) (sym (flat-append j es)) (thread_keeps (flat (erase j)) (erase es) space thread is)

pub still_owners : (j es : List Entry) (o : Known) → AreOwnersOf j o → IsLegal (j ++ es) → AreOwnersOf (j ++ es) o
still_owners j es o are legal =
    let spaces = still_spaces j es o are.met legal in
    record {
      met = record {
        decls = are.met.decls;
        rest = are.met.rest ++ es;
        begins = ap (λ (xs : List Entry). xs ++ es) are.met.begins ∙ append_assoc (opening are.met.decls) are.met.rest es;
        names = are.met.names;
        threads = are.met.threads;
      };
      threads = λ thread space known. still_thread j es space thread (are.threads thread space known);
      receivers = λ space vpn receiver known. still_thread j es space receiver (are.receivers space vpn receiver known);
      spaces = are.spaces ∙ sym spaces;
      homes = λ kernel space known. ap (λ (ks : List KernelNo). slice_get ks space.0) spaces ∙ are.homes kernel space known;
      housed = λ n kernel there. are.housed n kernel (ap (λ (ks : List KernelNo). slice_get ks n) (sym spaces) ∙ there);
      noted = λ name ident known. let loaded = are.noted name ident known in (loaded.0, Contains-append_left j es _ loaded.1);
    }

-- ---- what is noted and learnt

pub noted_so : (j : List Entry) (old new : Known) (name : Name) (ident : Ident) → AreOwnersOf j old → WasLoadedAs j name ident → IsNoted name ident old new → AreOwnersOf j new
noted_so j old new name ident are loaded noted =
    let rest = noted.rest in
    record {
      met = record {
        decls = are.met.decls;
        rest = are.met.rest;
        begins = are.met.begins;
        names = λ other told. elim (cases is_name name_test name other) [
          | inl same ↦ subst (λ (n : Name). knows new n ≡ true) (sym same) noted.known
          | inr apart ↦ noted.other_names other apart ∙ are.met.names other told
        ];
        threads = λ thread space told. ap (λ (o : Known). space_of o thread) rest ∙ are.met.threads thread space told;
      };
      threads = λ thread space known. are.threads thread space (sym (ap (λ (o : Known). space_of o thread) rest) ∙ known);
      receivers = λ space vpn receiver known. are.receivers space vpn receiver (sym (ap (λ (o : Known). receiver_of o (space, vpn)) rest) ∙ known);
      spaces = ap (λ (o : Known). o.spaces) rest ∙ are.spaces;
      homes = λ kernel space known. are.homes kernel space (sym (ap (λ (o : Known). home_of o kernel) rest) ∙ known);
      housed = λ n kernel there. subst (λ (x : Option SpaceNo). IsSome x) (sym (ap (λ (o : Known). home_of o kernel) rest)) (are.housed n kernel there);
      noted = λ other its known. elim (cases is_name name_test name other) [
        | inl same ↦
            let one : ident ≡ its = same_Some ident its (sym noted.its ∙ (ap (ident_of new) (sym same) ∙ known)) in
            subst (λ (n : Name). WasLoadedAs j n its) (sym same) (subst (WasLoadedAs j name) one loaded)
        | inr apart ↦ are.noted other its (sym (noted.other_idents other apart) ∙ known)
      ];
    }

pub space_so : (j : List Entry) (old new : Known) (thread : ThreadNo) (space : SpaceNo) → AreOwnersOf j old → IsThreadOf (flat (erase j)) space thread → IsSpaceLearnt thread space old new → AreOwnersOf j new
space_so j old new thread space are is learnt =
    let rest = learnt.rest in
    record {
      met = record {
        decls = are.met.decls;
        rest = are.met.rest;
        begins = are.met.begins;
        names = λ name told. ap (λ (o : Known). knows o name) rest ∙ are.met.names name told;
        threads = λ other its told. elim (cases is_thread thread_test thread other) [
          | inl same ↦
              let was = are.met.threads other its told in
              let so = subst (IsThreadOf (flat (erase j)) its) same (are.threads other its was) in
              ap (space_of new) same ∙ (learnt.its ∙ (sym is ∙ so))
          | inr apart ↦ learnt.others other apart ∙ are.met.threads other its told
        ];
      };
      threads = λ other its known. elim (cases is_thread thread_test thread other) [
        | inl same ↦
            let one : Some space ≡ Some its = sym learnt.its ∙ (ap (space_of new) (sym same) ∙ known) in
            subst (IsThreadOf (flat (erase j)) its) (sym same) (is ∙ one)
        | inr apart ↦ are.threads other its (sym (learnt.others other apart) ∙ known)
      ];
      receivers = λ sp vpn receiver known. are.receivers sp vpn receiver (sym (ap (λ (o : Known). receiver_of o (sp, vpn)) rest) ∙ known);
      spaces = ap (λ (o : Known). o.spaces) rest ∙ are.spaces;
      homes = λ kernel sp known. are.homes kernel sp (sym (ap (λ (o : Known). home_of o kernel) rest) ∙ known);
      housed = λ n kernel there. subst (λ (x : Option SpaceNo). IsSome x) (sym (ap (λ (o : Known). home_of o kernel) rest)) (are.housed n kernel there);
      noted = λ name ident known. are.noted name ident (sym (ap (λ (o : Known). ident_of o name) rest) ∙ known);
    }

-- what holds of a receiver, if there is one, holds of the one that is known
learnt_one : (s : FlatState) (space : SpaceNo) (receiver : Option ThreadNo) (thread : ThreadNo) → IfSome receiver (IsThreadOf s space) → receiver ≡ Some thread → IsThreadOf s space thread
learnt_one s space None thread is same = absurd (cc)
learnt_one s space (Some other) thread is same = subst (IsThreadOf s space) (same_Some other thread same) is

pub receiver_so : (j : List Entry) (old new : Known) (space : SpaceNo) (vpn : Vpn) (receiver : Option ThreadNo) → AreOwnersOf j old → IfSome receiver (IsThreadOf (flat (erase j)) space) → IsReceiverLearnt (space, vpn) receiver old new → AreOwnersOf j new
receiver_so j old new space vpn receiver are is learnt =
    let rest = learnt.rest in
    record {
      met = record {
        decls = are.met.decls;
        rest = are.met.rest;
        begins = are.met.begins;
        names = λ name told. ap (λ (o : Known). knows o name) rest ∙ are.met.names name told;
        threads = λ thread sp told. ap (λ (o : Known). space_of o thread) rest ∙ are.met.threads thread sp told;
      };
      threads = λ thread sp known. are.threads thread sp (sym (ap (λ (o : Known). space_of o thread) rest) ∙ known);
      receivers = λ sp page thread known. elim (cases is_page page_test (space, vpn) (sp, page)) [
        | inl same ↦
            let one : receiver ≡ Some thread = sym learnt.its ∙ (ap (receiver_of new) (sym same) ∙ known) in
            subst (λ (p : SpaceNo × Vpn). IsThreadOf (flat (erase j)) p.0 thread) (sym same) (learnt_one (flat (erase j)) space receiver thread is one)
        | inr apart ↦ are.receivers sp page thread (sym (learnt.others (sp, page) apart) ∙ known)
      ];
      spaces = ap (λ (o : Known). o.spaces) rest ∙ are.spaces;
      homes = λ kernel sp known. are.homes kernel sp (sym (ap (λ (o : Known). home_of o kernel) rest) ∙ known);
      housed = λ n kernel there. subst (λ (x : Option SpaceNo). IsSome x) (sym (ap (λ (o : Known). home_of o kernel) rest)) (are.housed n kernel there);
      noted = λ name ident known. are.noted name ident (sym (ap (λ (o : Known). ident_of o name) rest) ∙ known);
    }
