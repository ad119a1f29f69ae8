-- Why there is room for the pairs of one more.
use Rattle.std.proofs.Common.{◌≡◌, Bool, false, List, [], ◌∷◌, map, filter, Contains, ap, sym, ◌∙◌, subst, inl, inr, arith}
use Rattle.std.proofs.lemmas.List.{length-map}
use Rattle.std.proofs.lemmas.List.Sums.{length-filter}
use Rattle.std.proofs.lemmas.List.Elements.{Contains-append_left, Contains-push}
use Rattle.cache_ident.specs.declared.idents.Ident.{Ident}
use Rattle.cache_ident.specs.declared.idents.Kind.{Kind}
use Rattle.cache_ident.specs.declared.names.Caps.{Caps}
use Rattle.cache_ident.specs.declared.names.Name.{Name}
use Rattle.cache_ident.specs.Residents.{Resident, with_loaded}
use Rattle.depend_lists.specs.declared.nodes.Node.{Node}
use Rattle.depend_lists.specs.Pairs.{IsChild}
use Rattle.journal_laws.specs.flat_state.specs.State.{FlatState}
use Rattle.journal_laws.specs.flat_laws.proofs.Members.{Contains-cases, Contains-map}
use Rattle.journal_laws.specs.run_journal.specs.Groups.{ArePairsOf}
use Rattle.journal_laws.specs.run_journal.specs.Legal.{is_kind}
use Rattle.journal_laws.specs.run_journal.proofs.KindLemmas.{is_kind-refl}
use Rattle.journal_laws.specs.run_journal.proofs.Others.{Contains-from_filter}
use Rattle.resident_pairs.specs.Among.{AreFew, HasRoomFor, HasNoIdent}

-- a child of a pair is resident
child_resident : (s : FlatState) (rs : List Resident) (pairs : List (Ident × Node)) → ArePairsOf s rs pairs → (pair : Ident × Node) → Contains pairs pair → (r : Resident) × Contains rs r × (pair.1.ident ≡ r.ident)
child_resident s rs pairs are pair there = let of = are.sound pair there in (of.child, of.child_there, ap (λ (n : Node). n.ident) of.of_child)

pub no_child : (s : FlatState) (rs : List Resident) (pairs : List (Ident × Node)) (ident : Ident) → ArePairsOf s rs pairs → HasNoIdent rs ident → IsChild pairs ident → ⊥
no_child s rs pairs ident are none child =
    let r = child_resident s rs pairs are child.0 child.1.0 in
    none r.0 r.1 (sym r.2 ∙ child.1.1)

module _ (caps : Caps) (s : FlatState) (rs : List Resident) (pairs : List (Ident × Node)) (are : ArePairsOf s rs pairs) (child : Node) (name : Name) where
  abbrev pub all : List Resident
  all = with_loaded child.ident name rs

  abbrev pub new : Resident
  new = record { ident = child.ident; name = name; locked = false }

  abbrev ident_of : Resident → Ident
  ident_of r = r.ident

  module _ (parent : Ident) (of : Kind) where
    abbrev is_of : Resident → Bool
    is_of r = is_kind r.ident.kind of

    -- the identifiers of all residents of a kind
    abbrev idents : List Ident
    idents = map ident_of (filter is_of all)

    listed : (r : Resident) → Contains all r → r.ident.kind ≡ of → Contains idents r.ident
    listed r there same = Contains-map ident_of (filter is_of all) r (Contains-from_filter is_of all r there (ap (λ (k : Kind). is_kind k of) same ∙ is_kind-refl of))

    each : (pair : Ident × Node) → Contains ((parent, child) ∷ pairs) pair → pair.1.ident.kind ≡ of → Contains idents pair.1.ident
    each pair there same = elim (Contains-cases (parent, child) pairs pair there) [
      | inl first ↦ subst (λ (p : Ident × Node). p.1.ident.kind ≡ of → Contains idents p.1.ident) first (listed new (Contains-push rs new)) same
      | inr behind ↦ let r = child_resident s rs pairs are pair behind in
          subst (λ (i : Ident). i.kind ≡ of → Contains idents i) (sym r.2) (listed r.0 (Contains-append_left rs (new ∷ []) r.0 r.1)) same
    ]

  pub has_room : AreFew caps all → HasRoomFor caps pairs child
  has_room few parent of = (idents parent of, omega (arith, few of, length-map (filter (is_of parent of) all) ident_of, length-filter (is_of parent of) all), each parent of)
