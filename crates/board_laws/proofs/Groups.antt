-- A group that leaves, in the journal.
use Rattle.std.proofs.Common.{◌≡◌, ◌≢◌, ℕ, ◌<◌, true, List, [], ◌∷◌, ◌++◌, length, map, Contains, Some, refl, ap, sym, ◌∙◌, subst}
use Rattle.cache_ident.specs.declared.idents.Cause.{Cause}
use Rattle.cache_ident.specs.declared.idents.Cause.TheVariants as causes
use Rattle.cache_ident.specs.declared.idents.Ident.{Ident}
use Rattle.cache_ident.specs.declared.idents.Standing.TheVariants.{Live}
use Rattle.cache_ident.specs.declared.names.Caps.{Caps}
use Rattle.cache_ident.specs.declared.rolls.Issued.{Issued}
use Rattle.cache_ident.specs.Residents.{Resident, without}
use Rattle.cache_ident.specs.Rolls.{standing_in}
use Rattle.quantum.specs.depend_lists.specs.declared.nodes.Node.{Node}
use Rattle.quantum.specs.writeback_order.specs.Order.{IsOrder}
use Rattle.quantum.specs.flat_state.specs.declared.events.Machine.{Machine}
use Rattle.quantum.specs.flat_state.specs.State.{FlatState}
use Rattle.desc_tables.specs.run_journal.specs.declared.entries.Entry.{Entry}
use Rattle.desc_tables.specs.run_journal.specs.Groups.{node_of, ArePairsOf, IsGroup, departures}
use Rattle.desc_tables.specs.run_journal.specs.Legal.{first_ident, AreLegal}
use Rattle.desc_tables.specs.run_journal.specs.Told.{Told, told, told_from}
use Rattle.desc_tables.specs.run_journal.proofs.LegalGrowth.{departures_legal, MayGo}
use Rattle.desc_tables.specs.desc_stores.specs.Contents.{residents_of, Contents}
use Rattle.desc_tables.specs.group_laws.specs.Leaving.{without_all}
use Rattle.desc_tables.specs.shown_state.specs.Shown.{shown}
use Rattle.desc_tables.specs.store_residents.proofs.ResidentLemmas.{live_iff}
use Rattle.desc_tables.specs.desc_parents.specs.Seen.{seen}
use Rattle.desc_tables.specs.desc_groups.specs.declared.departures.Gone.{Gone}
use Rattle.desc_tables.specs.desc_groups.specs.Moves.{idents_of}
use Rattle.desc_tables.specs.desc_groups.specs.Whole.{AreWhole}
use Rattle.desc_tables.specs.desc_groups.proofs.LeaveLemmas.{ident_of}
use Rattle.board_laws.specs.Moves.{written_back, IsUnload}
use Rattle.board_laws.specs.Telling.{AreAsTold}
use Rattle.board_laws.proofs.Departing.{group_entries, group_leaves_behind, group_resident, told_unloaded}
use Rattle.board_laws.proofs.Growing.{grown_told, same_told, tells, tells_is}
use Rattle.board_laws.proofs.Shown.{node_shown, pairs_shown}
use Rattle.board_laws.proofs.Standings.{all_stand, length_all, WasIssued}

module _ (m : Machine) (memory : List ℕ) (caps : Caps) (c : Contents) (pairs : List (Ident × Node)) (whole : AreWhole caps c pairs) (root : Resident) (there : Contains (residents_of c) root) (idents : List Ident) (group : IsGroup (seen c) (residents_of c) root idents) where
  -- all of it were issued
  pub group_issued : (ident : Ident) → Contains idents ident → WasIssued c.issued ident
  group_issued ident within never =
      let live = (live_iff c whole.one.sound ident).1 (group_resident (seen c) (residents_of c) root idents group there ident within) in
      absurd (cc)

  -- and its entries are legal
  module _ (j : List Entry) (as_told : AreAsTold m memory c true j) (cpu : ℕ) (few : cpu < 8) (other : root.ident ≢ first_ident) where
    order_told : IsOrder group.pairs (node_of (told j).state root) group.nodes
    order_told = record {
      dependents = group.order.dependents;
      closure = group.order.closure;
      rising = group.order.rising;
      root_last = group.order.root_last ∙ ap (λ (n : Node). group.order.dependents ++ n ∷ []) (node_shown m memory c root ∙ ap (λ (s : FlatState). node_of s root) (sym as_told.state));
    }

    pub group_legal : (cause : Cause) → MayGo (tells m memory c true) root cause → AreLegal (tells m memory c true) (departures cpu group.order.dependents root.ident cause)
    unfolding order_told
    group_legal cause may =
        let is = tells_is m memory c true j as_told in
        subst (λ (k : Told). AreLegal k (departures cpu group.order.dependents root.ident cause)) {x = told j} {y = tells m memory c true} is
        (departures_legal j root group.pairs group.nodes cpu cause as_told.legal as_told.seal few
        (subst (λ (rs : List Resident). Contains rs root) (sym as_told.residents) there)
        other
        (subst (λ (k : Told). ArePairsOf k.state k.residents group.pairs) {x = tells m memory c true} {y = told j} (sym is) (pairs_shown m memory c (residents_of c) group.pairs group.are))
        order_told
        (subst (λ (k : Told). MayGo k root cause) {x = tells m memory c true} {y = told j} (sym is) may))

module _ (m : Machine) (memory : List ℕ) (caps : Caps) (old new : Contents) (pairs : List (Ident × Node)) (j : List Entry) (ident : Ident) (gone : List Gone) (cpu : ℕ)
    (as_told : AreAsTold m memory old true j) (whole : AreWhole caps old pairs) (few : cpu < 8) where
  -- the group of a root that was unloaded
  root_told : (root : Resident) → Contains (residents_of old) root → root.ident ≢ first_ident → IsGroup (seen old) (residents_of old) root (idents_of gone) → IsUnload old new ident (length j) gone → AreAsTold m memory new true (j ++ written_back cpu gone)
  root_told root there other group is =
      let entries : written_back cpu gone ≡ departures cpu group.order.dependents root.ident causes.Unloaded = group_entries (seen old) (residents_of old) root (idents_of gone) group cpu causes.Unloaded gone is.causes in
      let legal : AreLegal (tells m memory old true) (written_back cpu gone) = subst (λ (es : List Entry). AreLegal (tells m memory old true) es) (sym entries) (group_legal m memory caps old pairs whole root there (idents_of gone) group j as_told cpu few other causes.Unloaded tt) in
      let residents : without root.ident (without_all (map ident_of group.order.dependents) (residents_of old)) ≡ residents_of new = group_leaves_behind (seen old) (residents_of old) root (idents_of gone) group ∙ sym is.residents in
      let loads : length old.issued ≡ length new.issued = sym (length_all old.issued (idents_of gone) (length j)) ∙ ap length (sym is.issued) in
      grown_told m memory memory old new true true j as_told (written_back cpu gone) legal
      (ap (told_from (tells m memory old true)) entries
      ∙ told_unloaded cpu group.order.dependents root.ident (tells m memory old true)
      ∙ same_told (shown (Some m) memory old) (shown (Some m) memory new) true true (length old.issued) (length new.issued) (without root.ident (without_all (map ident_of group.order.dependents) (residents_of old))) (residents_of new) (sym (is.shows (Some m) memory)) refl loads residents)
      (λ x. all_stand gone cpu old.issued (length j) x (group_issued m memory caps old pairs whole root there (idents_of gone) group) ∙ ap (λ (issued : List Issued). standing_in issued x) (sym is.issued))

  pub unloaded_told : standing_in old.issued ident ≡ Live → ident ≢ first_ident → IsUnload old new ident (length j) gone → AreAsTold m memory new true (j ++ written_back cpu gone)
  unloaded_told live other is =
      let found = (live_iff old whole.one.sound ident).0 live in
      root_told found.0 found.1 (λ same. other (sym found.2 ∙ same)) (is.group found.0 found.1 found.2) is
