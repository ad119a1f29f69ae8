-- What has left since a group began, and what stays.
use Rattle.std.specs.Prelude.{◌≡◌, ◌⊎◌, ◌↔◌, ◌+◌, ◌-◌, List, map, length, Contains, IsTrue, IfSome, slice_get}
use Rattle.std.specs.declared.cmp.Ordering.TheVariants.{Less}
use Rattle.cache_ident.specs.declared.idents.Ident.{Ident}
use Rattle.cache_ident.specs.declared.idents.Kind.{Kind}
use Rattle.cache_ident.specs.Residents.{Resident}
use Rattle.residents.specs.depend_lists.specs.declared.nodes.Node.{Node}
use Rattle.sorted_list.specs.Sorted.{IsRising}
use Rattle.residents.specs.writeback_order.specs.Order.{leaving_cmp}
use Rattle.residents.specs.flat_state.specs.State.{FlatState}
use Rattle.residents.specs.flat_state.specs.Names.{class_of}
use Rattle.residents.specs.run_journal.specs.Groups.{node_of}
use Rattle.residents.specs.run_journal.specs.Legal.{count_of, AreGood}
use Rattle.journal_tables.specs.journal_laws.specs.Leaving.{AreApart, HaveOneEach, LacksParent}
use Rattle.journal_groups.specs.declared.group.Group.{Group}
use Rattle.journal_groups.specs.declared.gone.Gone.{Gone}

-- what is kept of one that left
abbrev pub gone_of : FlatState → Resident → Gone
gone_of s r = record { ident = r.ident; name = r.name; class = class_of s r.name }

abbrev pub node_of_gone : Gone → Node
node_of_gone gone = record { ident = gone.ident; class = gone.class }

-- Since the group began, when those before were resident, these identifiers left in this order; the rest is resident now. What
-- was resident and what is resident is whole: each stands, is fit, and has all that it depends on.
pub record IsLeaving (group : Group) (s : FlatState) (before now : List Resident) (left : List Ident) : Type 0 where
  pub those : List Resident
  pub idents : left ≡ map (λ r. r.ident) those
  pub kept : group.gone.items ≡ map (gone_of s) those
  pub rising : IsTrue group.rising ↔ IsRising leaving_cmp (map (node_of s) those)
  pub one : HaveOneEach before
  pub apart : AreApart now
  pub whole : AreGood s before
  pub good : AreGood s now
  pub there : (r : Resident) → Contains those r → Contains before r
  pub out : (r : Resident) → Contains those r → Contains now r → ⊥
  pub stay : (r : Resident) → Contains now r → Contains before r
  pub all : (r : Resident) → Contains before r → Contains now r ⊎ Contains those r
  pub counts : (kind : Kind) → count_of before kind ≡ count_of now kind + count_of those kind

-- it leaves behind the one that left last, if something has left
abbrev pub IsBehindLast : List Gone → Gone → Type 0
IsBehindLast all gone = IfSome (slice_get all (length all - 1)) (λ last. leaving_cmp (node_of_gone last) (node_of_gone gone) ≡ Less)

-- each of those that left lacks something that it depends on
abbrev pub LackOneEach : FlatState → List Resident → List Gone → Type 0
LackOneEach s rs all = (gone : Gone) → Contains all gone → LacksParent s rs gone.name
