-- What is of a ticket stays so where nothing of the copies changes, and where a quantum begins anew.
use Rattle.std.proofs.Common.{◌≡◌, List, [], ◌∷◌, ◌++◌, map, Contains, Option, Some, slice_get, option_map, refl, sym, ◌∙◌, ap, ap₂, subst}
use Rattle.std.proofs.lemmas.Option.{slice_get-map}
use Rattle.cache_ident.specs.declared.idents.Ident.{Ident}
use Rattle.cache_ident.specs.declared.names.Name.TheVariants as name
use Rattle.cache_ident.specs.declared.names.SpaceNo.{SpaceNo}
use Rattle.phys_groups.specs.Translation.{row_of}
use Rattle.flat_rules.specs.flat_state.proofs.Places.{get_from_Contains, get_from_map, Contains-from_get}
use Rattle.thread_cache.specs.rv32_exec.specs.declared.contexts.Context.{Context}
use Rattle.board_threads.specs.flat_laws.proofs.Members.{contains_nothing}
use Rattle.board_threads.specs.run_journal.specs.declared.entries.Entry.{Entry}
use Rattle.board_threads.specs.run_journal.specs.declared.entries.Entry.TheVariants.{Loaded}
use Rattle.board_threads.specs.page_views.specs.Views.{copied, copies_of, dated, Copied, Dated, View}
use Rattle.board_threads.specs.quantum.specs.Ahead.{begun, Ahead, HasSameCopies}
use Rattle.board_commits.specs.Tickets.{state_at, AreAllAsOf, AreOfTicket, IsCopiedIn, IsOfTicket}
use Rattle.board_commits.proofs.KeptLaws.{kept_begun}

-- the bytes with their place are among what was copied
dated_copy : Copied → Option Dated
dated_copy c = option_map (λ place. record { frame = c.frame; bytes = c.first; place = place }) c.taken

dated_copies : (vs : List View) → map dated vs ≡ map dated_copy (copies_of vs)
unfolding dated_copy
dated_copies [] = refl
dated_copies (v ∷ vs) = ap (λ (os : List (Option Dated)). dated v ∷ os) (dated_copies vs)

pub kept_as : (j : List Entry) (a b : Ahead) → HasSameCopies a b → AreAllAsOf j a → AreAllAsOf j b
kept_as j a b same kept o there =
    let dates : map dated b.views ≡ map dated a.views = dated_copies b.views ∙ ap (map dated_copy) same.views ∙ sym (dated_copies a.views) in
    kept o (subst (λ (os : List (Option Dated)). Contains os o) (ap₂ (λ (xs ys : List (Option Dated)). xs ++ ys) dates same.kept) there)

module _ (j : List Entry) (thread : Ident) where
  copied_as : (space : SpaceNo) (v u : View) → copied v ≡ copied u → IsCopiedIn j space v → IsCopiedIn j space u
  copied_as space v u same c = record {
    at = c.at;
    cpu = c.cpu;
    loaded = subst (λ (x : Copied). slice_get j c.at ≡ Some (Loaded x.row (name.Mapping space x.vpn) c.cpu)) same c.loaded;
    row = c.row;
    there = subst (λ (x : Copied). row_of (state_at j c.at).rows space x.vpn.0 ≡ Some c.row) same c.there;
    frame = subst (λ (x : Copied). c.row.frame ≡ x.frame) same c.frame;
    flags = subst (λ (x : Copied). c.row.flags ≡ x.flags) same c.flags;
  }

  of_as : (v u : View) → copied v ≡ copied u → IsOfTicket j thread v → IsOfTicket j thread u
  of_as v u same of = record { space = of.space; of = of.of; copied = copied_as of.space v u same of.copied }

  -- no view is there yet
  pub of_begun : (context : Context) (a : Ahead) → AreAllAsOf j a → AreOfTicket j thread (begun context a)
  of_begun context a kept = record { views = λ v there. absurd (contains_nothing v there); kept = kept_begun j context a kept }

  pub all_of : (a b : Ahead) → HasSameCopies a b → AreOfTicket j thread a → AreOfTicket j thread b
  all_of a b same are = record {
    views = λ u there.
        let at = get_from_Contains b.views u there in
        let copy : slice_get (copies_of a.views) at.0 ≡ Some (copied u) =
        ap (λ (cs : List Copied). slice_get cs at.0) (sym same.views) ∙ slice_get-map copied b.views at.0 ∙ ap (option_map copied) at.1 in
        let from = get_from_map copied a.views at.0 (copied u) copy in
        of_as from.0 u from.2 (are.views from.0 (Contains-from_get a.views at.0 from.0 from.1));
    kept = kept_as j a b same are.kept;
  }
