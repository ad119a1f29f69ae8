-- New owners are owners of a journal that begins with what they were told.
use Rattle.std.proofs.Common.{◌≡◌, List, ◌++◌, Option, Some, None, is_some, slice_get, refl, ap, sym, ◌∙◌, subst}
use Rattle.std.specs.Prelude.{IsSome}
use Rattle.std.specs.List.{filter_map}
use Rattle.std.proofs.lemmas.Bool.{true≢false}
use Rattle.std.proofs.lemmas.Option.{same_Some}
use Rattle.cache_ident.specs.declared.names.KernelNo.{KernelNo}
use Rattle.cache_ident.specs.declared.names.SpaceNo.{SpaceNo}
use Rattle.cache_ident.specs.declared.names.ThreadNo.{ThreadNo}
use Rattle.run_journal.specs.flat_laws.proofs.Members.{Contains-from_filter_map}
use Rattle.flat_state.specs.declared.events.Decl.{Decl}
use Rattle.flat_state.specs.declared.events.Decl.TheVariants as decls
use Rattle.flat_state.proofs.Places.{Contains-from_get}
use Rattle.flat_state.specs.Events.{flat}
use Rattle.run_journal.specs.declared.entries.Entry.{Entry}
use Rattle.run_journal.specs.Entries.{erase}
use Rattle.run_journal.specs.Legal.{IsLegal}
use Rattle.run_journal.specs.Points.{opening}
use Rattle.run_journal.specs.Told.{nothing_told}
use Rattle.owners.specs.Known.{ident_of, space_of, Known}
use Rattle.owners.specs.Telling.{home_in, kernel_in, space_in, AreNewOwners, IsToldBy}
use Rattle.owners.specs.Owning.{AreOwnersOf, IsThreadOf}
use Rattle.owners.proofs.Openings.{opening_homes, opening_receivers, opening_spaces, opening_threads}

housed_by : (ds : List Decl) (kernel : KernelNo) → IsToldBy kernel_in ds kernel → (space : SpaceNo) × IsToldBy home_in ds (kernel, space)
housed_by ds kernel told = let home = by told.0 told.2 in (home.0, (told.0, told.1, home.1))
  where
    by : (d : Decl) → kernel_in d ≡ Some kernel → (space : SpaceNo) × (home_in d ≡ Some (kernel, space))
    by (decls.Space n other) is = (n, λ i. Some (same_Some other kernel is i, n))
    by (decls.Machine machine) is = absurd (cc)
    by (decls.Kernel n limits) is = absurd (cc)
    by (decls.Right other group read write) is = absurd (cc)
    by (decls.Thread n space pc priority a0 a1) is = absurd (cc)
    by (decls.Map space vpn frame flags receiver) is = absurd (cc)
    by (decls.Word frame offset value) is = absurd (cc)

some_value : {X : Type 0} (o : Option X) → IsSome o → (x : X) × (o ≡ Some x)
some_value None some = absurd (true≢false (sym some))
some_value (Some x) some = (x, refl)

opened : (ds : List Decl) (rest : List Entry) (o : Known) → AreNewOwners ds o → IsLegal (opening ds ++ rest) → AreOwnersOf (opening ds ++ rest) o
opened ds rest o new legal =
    let spaces : (flat (erase (opening ds ++ rest))).spaces ≡ filter_map kernel_in ds = opening_spaces nothing_told ds rest legal.each in
    let so : (thread : ThreadNo) (space : SpaceNo) → IsToldBy space_in ds (thread, space) → IsThreadOf (flat (erase (opening ds ++ rest))) space thread = λ thread space told. opening_threads nothing_told ds rest (thread, space) legal.each told in
    record {
      met = record {
        decls = ds;
        rest = rest;
        begins = refl;
        names = new.names;
        threads = λ thread space told.
            let found = some_value (space_of o thread) (new.threads.met thread space told) in
            found.1 ∙ (sym (so thread found.0 (new.threads.told thread found.0 found.1)) ∙ so thread space told);
      };
      threads = λ thread space known. so thread space (new.threads.told thread space known);
      receivers = λ space vpn receiver known. opening_receivers nothing_told ds rest ((space, vpn), receiver) legal.each (new.receivers.told (space, vpn) receiver known);
      spaces = new.spaces ∙ sym spaces;
      homes = λ kernel space known. opening_homes nothing_told ds rest (kernel, space) legal.each (new.homes.told kernel space known);
      housed = λ n kernel there.
          let among = Contains-from_get (filter_map kernel_in ds) n kernel (ap (λ (ks : List KernelNo). slice_get ks n) (sym spaces) ∙ there) in
          let home = housed_by ds kernel (Contains-from_filter_map kernel_in ds kernel among) in
          new.homes.met kernel home.0 home.1;
      noted = λ name ident known. absurd (cc_none (ident_of o name) ident (new.idents name) known);
    }
  where
    cc_none : {X : Type 0} (x : Option X) (y : X) → x ≡ None → x ≡ Some y → ⊥
    cc_none x y none some = true≢false (ap is_some (sym some ∙ none))

pub owners_of_opening : (ds : List Decl) (o : Known) → AreNewOwners ds o → (j rest : List Entry) → IsLegal j → j ≡ opening ds ++ rest → AreOwnersOf j o
owners_of_opening ds o new j rest legal begins = subst (λ (x : List Entry). AreOwnersOf x o) (sym begins) (opened ds rest o new (subst IsLegal begins legal))
