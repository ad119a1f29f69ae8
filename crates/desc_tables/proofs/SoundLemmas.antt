-- What holds of the tables once the contents changed.
use Rattle.std.proofs.Common.{◌≡◌, ◌+◌, ◌<◌, ◌≤◌, List, length, Some, Contains, ap, sym, ◌∙◌, subst}
use Rattle.cache_ident.specs.declared.classes.Class.{Class}
use Rattle.cache_ident.specs.declared.idents.Ident.{Ident}
use Rattle.cache_ident.specs.declared.idents.Kind.{Kind}
use Rattle.cache_ident.specs.declared.names.Caps.{Caps}
use Rattle.cache_ident.specs.declared.names.Name.{Name}
use Rattle.cache_ident.specs.Names.{amount_of}
use Rattle.cache_ident.specs.Residents.{Resident}
use Rattle.depend_lists.specs.declared.nodes.Node.{Node}
use Rattle.desc_groups.specs.flat_state.specs.Declaration.{locks_granted}
use Rattle.desc_groups.specs.flat_state.specs.State.{FlatState}
use Rattle.desc_groups.specs.flat_state.specs.Dependence.{owner, parents}
use Rattle.desc_groups.specs.flat_state.specs.Names.{class_of}
use Rattle.desc_groups.specs.run_journal.specs.Groups.{node_of, ArePairsOf}
use Rattle.desc_groups.specs.run_journal.specs.Legal.{locked_by, AreGood}
use Rattle.kernel_cache.specs.declared.KernelRec.{KernelRec}
use Rattle.desc_groups.specs.desc_stores.specs.declared.items.Item.TheVariants as item
use Rattle.desc_groups.specs.desc_stores.specs.Changes.{KeepsContents}
use Rattle.desc_groups.specs.desc_stores.specs.Contents.{content_of, residents_of, Contents}
use Rattle.desc_groups.specs.desc_stores.specs.Sound.{AreOwned, IsExactlyOne}
use Rattle.desc_groups.specs.store_residents.specs.Slots.{KeepsSlots}
use Rattle.desc_groups.specs.store_residents.proofs.StayLemmas.{slots-kept}
use Rattle.desc_groups.specs.group_laws.proofs.LockCounts.{locks_same}
use Rattle.desc_groups.specs.desc_parents.specs.Seen.{seen, HasPlainRows}
use Rattle.desc_groups.specs.declared.departures.Gone.{Gone}
use Rattle.desc_tables.specs.May.{wanted_of}
use Rattle.desc_tables.specs.Tables.{ArePlaced, AreSound, IsLimited, LeavesRoom}

-- beside all that the kernels of a state may lock, each cache has room for what is wanted
abbrev pub RoomIn : Caps → FlatState → Type 0
RoomIn caps s = 0 < length s.kernels → (of : Kind) → amount_of (locks_granted s.kernels) of + wanted_of of ≤ amount_of caps of

-- each kernel's counts of locks, as that state and those residents have them
abbrev pub AreCounted : FlatState → List Resident → Contents → Type 0
AreCounted s rs c = (n : Name) (kernel : KernelRec) → content_of c n ≡ Some (item.Kernel kernel) → (kind : Kind) → amount_of kernel.locked kind ≡ locked_by s rs kernel.no kind

-- each resident depends in the one state on what it does in the other, has the same class and owner, and is good there
pub record IsLikeFor (s t : FlatState) (rs : List Resident) : Type 0 where
  pub depends : (r : Resident) → Contains rs r → parents t r.name ≡ parents s r.name
  pub classes : (r : Resident) → Contains rs r → class_of t r.name ≡ class_of s r.name
  pub owners : (r : Resident) → Contains rs r → owner t r.name ≡ owner s r.name
  pub good : AreGood t rs

module _ (s t : FlatState) (rs : List Resident) (like : IsLikeFor s t rs) where
  same_node : (r : Resident) → Contains rs r → node_of s r ≡ node_of t r
  same_node r there =
      let with_class : Class → Node = λ class. record { ident = r.ident; class = class } in
      ap with_class (sym (like.classes r there))

  pub pairs_stay : (pairs : List (Ident × Node)) → ArePairsOf s rs pairs → ArePairsOf t rs pairs
  pairs_stay pairs are = record {
    sound = λ pair there. let of = are.sound pair there in record {
      parent = of.parent;
      child = of.child;
      parent_there = of.parent_there;
      child_there = of.child_there;
      of_parent = of.of_parent;
      of_child = of.of_child ∙ same_node of.child of.child_there;
      depends = subst (λ (names : List Name). Contains names of.parent.name) (sym (like.depends of.child of.child_there)) of.depends;
    };
    complete = λ parent child parent_there child_there depends.
        subst (λ (node : Node). Contains pairs (parent.ident, node)) (same_node child child_there)
        (are.complete parent child parent_there child_there (subst (λ (names : List Name). Contains names parent.name) (like.depends child child_there) depends));
  }

  pub counts_stay : (c : Contents) → AreCounted s rs c → AreCounted t rs c
  counts_stay c counted n kernel there kind = counted n kernel there kind ∙ locks_same s t rs kernel.no kind (λ r r_there. sym (like.owners r r_there))

module _ (caps : Caps) (old new : Contents) (gone : List Gone) (left : List Name) (pairs : List (Ident × Node)) (sound : AreSound (record { caps = caps; contents = old; gone = gone; left = left }) pairs) (one : IsExactlyOne new) (slots : KeepsSlots old new) (residents : residents_of new ≡ residents_of old) where
  -- where what is seen changed, but not for what is loaded
  pub sound_like : HasPlainRows (seen new) → IsLikeFor (seen old) (seen new) (residents_of old) → AreOwned (owner (seen new)) new → AreCounted (seen old) (residents_of old) new
      → LeavesRoom caps new → IsLimited new → ArePlaced (seen new) → AreSound (record { caps = caps; contents = new; gone = gone; left = left }) pairs
  sound_like rows like owned counted room limited placed = record {
    whole = record {
      one = one;
      sized = slots-kept caps old new sound.whole.sized slots;
      rows = rows;
      pairs_are = subst (λ (rs : List Resident). ArePairsOf (seen new) rs pairs) (sym residents) (pairs_stay (seen old) (seen new) (residents_of old) like pairs sound.whole.pairs_are);
      good = subst (λ (rs : List Resident). AreGood (seen new) rs) (sym residents) like.good;
      owned = owned;
      counted = subst (λ (rs : List Resident). AreCounted (seen new) rs new) (sym residents) (counts_stay (seen old) (seen new) (residents_of old) like new counted);
    };
    room = room;
    limited = limited;
    placed = placed;
  }

  -- where no content changed, and what is seen is the same
  pub sound_kept : seen new ≡ seen old → KeepsContents old new → AreOwned (owner (seen old)) new → AreSound (record { caps = caps; contents = new; gone = gone; left = left }) pairs
  sound_kept same keeps owned =
      let like : IsLikeFor (seen old) (seen new) (residents_of old) = record {
        depends = λ r there. ap (λ (s : FlatState). parents s r.name) same;
        classes = λ r there. ap (λ (s : FlatState). class_of s r.name) same;
        owners = λ r there. ap (λ (s : FlatState). owner s r.name) same;
        good = subst (λ (s : FlatState). AreGood s (residents_of old)) (sym same) sound.whole.good;
      } in
      sound_like
      (subst HasPlainRows (sym same) sound.whole.rows)
      like
      (subst (λ (s : FlatState). AreOwned (owner s) new) (sym same) owned)
      (λ n kernel there. sound.whole.counted n kernel (sym (keeps n) ∙ there))
      (subst (RoomIn caps) (sym same) sound.room)
      (λ n kernel there. sound.limited n kernel (sym (keeps n) ∙ there))
      (subst ArePlaced (sym same) sound.placed)
