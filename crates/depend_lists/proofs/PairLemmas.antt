-- Pairs of parents and children: how they compare, and what an edit of their list leaves.
use Rattle.std.proofs.Common.{◌≡◌, ◌≢◌, List, get_or, AllPairs, sym, ◌∙◌, ap, refl, rules}
use Rattle.std.specs.declared.cmp.Ordering.TheVariants.{Equal}
use Rattle.std.specs.Ordering.{is_eq}
use Rattle.std.proofs.lemmas.Cmp.{tied_itself}
use denote.Enum.Bare.{same_true}
use Rattle.cache_ident.specs.declared.idents.Ident.{Ident}
use Rattle.cache_ident.specs.contracts.idents.IdentOrd.TheImpl as ident
use Rattle.cache_ident.specs.contracts.idents.IdentOrd.TheImpl.Laws as ident_laws
use Rattle.cache_ident.proofs.RollLemmas.{same_ident}
use Rattle.cache_ident.specs.declared.classes.Class.{Class}
use Rattle.depend_lists.specs.declared.nodes.Node.{Node}
use Rattle.cache_ident.specs.contracts.classes.Class.{the_type}
use Rattle.cache_ident.specs.contracts.classes.ClassOrd.TheImpl as class
use Rattle.cache_ident.specs.contracts.classes.ClassOrd.TheImpl.Laws as class_laws
use Rattle.depend_lists.specs.contracts.nodes.NodeOrd.TheImpl as node
use Rattle.depend_lists.specs.contracts.nodes.NodeOrd.TheImpl.Laws as node_laws
use Rattle.sorted_list.specs.Sorted.{IsRising}
use Rattle.sorted_list.proofs.UnderLemmas.{both_tie, less≢equal, same_pair}
use Rattle.depend_lists.specs.Indexes.{pair_cmp, turned, turned_cmp}

-- identifiers that compare as equal are one
pub one_ident : (a b : Ident) → (ident.ghosts).cmp a b ≡ Equal → a ≡ b
one_ident a b ties = same_ident a b (ident_laws.matches_eq-law a b ∙ ap is_eq ties)

-- so are classes
one_class : (a b : Class) → (class.ghosts).cmp a b ≡ Equal → a ≡ b
one_class a b ties = same_true the_type (search rules) a b (class_laws.matches_eq-law a b ∙ ap is_eq ties)

-- nodes of one identifier and one class are one
pub same_node : (a b : Node) → a.ident ≡ b.ident → a.class ≡ b.class → a ≡ b
same_node a b ident class =
    let by_ident : Ident → Node = λ i. record { ident = i; class = a.class } in
    let by_class : Class → Node = λ k. record { ident = b.ident; class = k } in
    ap by_ident ident ∙ ap by_class class

-- and nodes that compare as equal
pub one_node : (a b : Node) → (node.ghosts).cmp a b ≡ Equal → a ≡ b
one_node a b ties =
    let both = both_tie _ _ ties in
    same_node a b (one_ident a.ident b.ident both.0) (one_class a.class b.class both.1)

-- pairs that compare as equal are one
pub one_pair : (a b : Ident × Node) → pair_cmp a b ≡ Equal → a ≡ b
one_pair a b ties =
    let both = both_tie _ _ ties in
    same_pair a b (one_ident a.0 b.0 both.0) (one_node a.1 b.1 both.1)

-- also from their other ends
pub one_turned : (a b : Ident × (Class × Ident)) → turned_cmp a b ≡ Equal → a ≡ b
one_turned a b ties =
    let both = both_tie _ _ ties in
    let rest = both_tie _ _ both.1 in
    same_pair a b (one_ident a.0 b.0 both.0) (same_pair a.1 b.1 (one_class a.1.0 b.1.0 rest.0) (one_ident a.1.1 b.1.1 rest.1))

-- and each with itself
pair_itself : (a : Ident × Node) → pair_cmp a a ≡ Equal
pair_itself a = rw (tied_itself ident_laws.total-law a.0, tied_itself node_laws.total-law a.1) refl

pub turned_itself : (a : Ident × (Class × Ident)) → turned_cmp a a ≡ Equal
turned_itself a = rw (tied_itself ident_laws.total-law a.0, tied_itself class_laws.total-law a.1.0, tied_itself ident_laws.total-law a.1.1) refl

-- a pair is what its other end says
pub turned_back : (a b : Ident × Node) → turned a ≡ turned b → a ≡ b
turned_back a b same =
    let parents : a.0 ≡ b.0 = ap (λ (t : Ident × (Class × Ident)). t.1.1) same in
    let idents : a.1.ident ≡ b.1.ident = ap (λ (t : Ident × (Class × Ident)). t.0) same in
    let classes : a.1.class ≡ b.1.class = ap (λ (t : Ident × (Class × Ident)). t.1.0) same in
    same_pair a b parents (same_node a.1 b.1 idents classes)

-- no pair stands twice in a rising list
pub once_from_rising : (pairs : List (Ident × Node)) → IsRising pair_cmp pairs → AllPairs ◌≢◌ pairs
once_from_rising pairs rising i j d lt within same = less≢equal _ (rising i j d lt within) (ap (pair_cmp (get_or pairs i d)) (sym same) ∙ pair_itself (get_or pairs i d))
