-- Departures one after another.
use Rattle.std.proofs.Common.{◌≡◌, ℕ, ◌+◌, Bool, true, false, cond, List, [], ◌∷◌, ◌++◌, length, Contains, None, append_assoc, append-nil, length-append, refl, sym, ◌∙◌, ap, subst, inl, inr, arith}
use Rattle.std.specs.Prelude.{count_by, if◌then◌else◌}
use Rattle.std.proofs.lemmas.List.{length-map}
use Rattle.std.proofs.lemmas.List.Sums.{sum_by-cons}
use Rattle.cache_ident.specs.declared.idents.Ident.{Ident}
use Rattle.cache_ident.specs.declared.names.Name.TheVariants as name
use Rattle.cache_ident.specs.declared.names.ThreadNo.{ThreadNo}
use Rattle.cache_ident.specs.Residents.{Resident, IsIdentResident}
use Rattle.flat_state.specs.Events.{after_events}
use Rattle.flat_state.specs.State.{FlatState}
use Rattle.board_checks.specs.run_journal.specs.declared.entries.Entry.{Entry}
use Rattle.board_checks.specs.desc_stores.specs.Changes.{room_of}
use Rattle.board_checks.specs.desc_stores.specs.Contents.{residents_of, Contents}
use Rattle.board_core.specs.group_laws.specs.Leaving.{without_all}
use Rattle.board_core.specs.group_laws.proofs.Remaining.{without_all_cases}
use Rattle.board_checks.specs.desc_groups.specs.declared.departures.Gone.{Gone}
use Rattle.board_checks.specs.desc_groups.specs.Moves.{idents_of}
use Rattle.board_checks.specs.desc_groups.specs.Whole.{IsWhole}
use Rattle.board_checks.specs.desc_parents.specs.Seen.{seen}
use Rattle.board_core.specs.board_laws.specs.Moves.{written_back, IsUnload}
use Rattle.board_core.specs.cached_machine.specs.Cached.{is_loaded, state_of}
use Rattle.board_core.specs.cached_machine.specs.Posts.{mark_of, HasLoadedMarks, OnlyLoadedAreOut}
use Rattle.board_core.specs.cached_machine.proofs.LoadedLaws.{was_loaded, ComesFrom}
use Rattle.board_core.specs.Core.{contents_of, Recorded}
use Rattle.board_core.specs.Growth.{GrowsBy, IsRoomMade}
use Rattle.board_core.proofs.GrowthLaws.{erase_back, grows_more, loaded_itself}
use Rattle.board_core.proofs.RoomLaws.{grows_before, loaded_marks_before, same_checkouts, same_count, same_sealed, same_seen}
use Rattle.board_core.proofs.UnkeptLaws.{group_counts}
use Rattle.board_calls.specs.Departures.{AreDepartures, HasLeftIf, HaveLeft, KeepsRoom, LeaveInTurn, LeavesIfThere}

-- ---- processors

-- who isn't loaded is on none
marks_more : (a b c : Contents) → ComesFrom (residents_of b) (residents_of c) → HasLoadedMarks a b → HasLoadedMarks b c → HasLoadedMarks a c
marks_more a b c comes first second = record {
  marks = λ whom. second.marks whom ∙ by whom (is_loaded c (name.Thread whom)) refl;
  lasts = λ whom. second.lasts whom ∙ first.lasts whom;
}
  where
    by : (whom : ThreadNo) (x : Bool) → is_loaded c (name.Thread whom) ≡ x → (if x then mark_of b whom else None) ≡ (if x then mark_of a whom else None)
    by whom true is = first.marks whom ∙ ap (λ (x : Bool). if x then mark_of a whom else None) (was_loaded (residents_of b) (residents_of c) comes (name.Thread whom) is)
    by whom false is = refl

-- ---- what leaves

-- nothing comes
leaves_were : (s : FlatState) (cpu : ℕ) (ident : Ident) (rs : List Resident) (es : List Entry) (left : List Resident) → LeavesIfThere s cpu ident rs es left → (r : Resident) → Contains left r → Contains rs r
leaves_were s cpu ident rs es left (inl gone) r there = subst (λ (xs : List Resident). Contains xs r) gone.same there
leaves_were s cpu ident rs es left (inr leaves) r there = (without_all_cases leaves.idents rs r (subst (λ (xs : List Resident). Contains xs r) leaves.rest there)).0

turns_were : (s : FlatState) (cpu : ℕ) (idents : List Ident) (rs : List Resident) (es : List Entry) (left : List Resident) → LeaveInTurn s cpu idents rs es left → (r : Resident) → Contains left r → Contains rs r
turns_were s cpu [] rs es left turns r there = subst (λ (xs : List Resident). Contains xs r) turns.1 there
turns_were s cpu (ident ∷ idents) rs es left (first, later, between, split, turn, turns) r there =
    leaves_were s cpu ident rs first between turn r (turns_were s cpu idents between later left turns r there)

comes : (rs left : List Resident) → ((r : Resident) → Contains left r → Contains rs r) → ComesFrom rs left
comes rs left were = record { each = λ r there. (r, were r there, refl, refl) }

-- one more turn
pub turns_more : (s : FlatState) (cpu : ℕ) (xs : List Ident) (y : Ident) (rs mid left : List Resident) (es more : List Entry) → LeaveInTurn s cpu xs rs es mid → LeavesIfThere s cpu y mid more left → LeaveInTurn s cpu (xs ++ y ∷ []) rs (es ++ more) left
turns_more s cpu [] y rs mid left es more turns one =
    (more, [], left, ap (λ (xs : List Entry). xs ++ more) turns.0 ∙ sym (append-nil more), subst (λ (xs : List Resident). LeavesIfThere s cpu y xs more left) turns.1 one, (refl, refl))
turns_more s cpu (x ∷ xs) y rs mid left es more (first, later, between, split, turn, turns) one =
    (first, later ++ more, between, ap (λ (all : List Entry). all ++ more) split ∙ append_assoc first later more, turn, turns_more s cpu xs y between mid left later more turns one)

pub departures_more : (es more : List Entry) (a b c : Recorded) → ComesFrom (residents_of (contents_of b)) (residents_of (contents_of c)) → AreDepartures es a b → AreDepartures more b c → AreDepartures (es ++ more) a c
departures_more es more a b c comes first second = record {
  grows = grows_more es more a b c first.grows second.grows;
  state = second.state ∙ first.state;
  shows = second.shows ∙ first.shows;
  fewer = let one = first.fewer in let two = second.fewer in let long = length-append es more in omega arith;
  marks = marks_more (contents_of a) (contents_of b) (contents_of c) comes first.marks second.marks;
  sealed = second.sealed ∙ first.sealed;
  checkouts = second.checkouts ∙ first.checkouts;
  spare = let one = first.spare in let two = second.spare in omega arith;
}

no_departures : (b : Recorded) → OnlyLoadedAreOut (contents_of b) → AreDepartures [] b b
no_departures b out = record {
  grows = record { entries = sym (append-nil b.journal.entries); state = refl; limit = refl; machine = refl; caps = refl; spare = omega arith };
  state = refl;
  shows = refl;
  fewer = omega arith;
  marks = loaded_itself (contents_of b) out;
  sealed = refl;
  checkouts = refl;
  spare = omega arith;
}

same_room : (b : Recorded) → KeepsRoom b b
same_room b = record { room = refl; sets = refl }

-- nothing left
pub none_left : (cpu : ℕ) (b : Recorded) → OnlyLoadedAreOut (contents_of b) → HaveLeft cpu [] b b
none_left cpu b out = record { entries = []; turns = (refl, refl); are = no_departures b out; room = same_room b }

-- it was gone already
pub gone_already : (cpu : ℕ) (ident : Ident) (b : Recorded) → OnlyLoadedAreOut (contents_of b) → (IsIdentResident (residents_of (contents_of b)) ident → ⊥) → HasLeftIf cpu ident b b
gone_already cpu ident b out absent = record {
  entries = [];
  turn = inl (record { absent = absent; nothing = refl; same = refl });
  are = no_departures b out;
  room = same_room b;
}

count_all : (rs : List Resident) → count_by (λ (r : Resident). true) rs ≡ length rs
count_all [] = refl
count_all (r ∷ rest) =
    let step : count_by (λ (x : Resident). true) (r ∷ rest) ≡ 1 + count_by (λ (x : Resident). true) rest = sum_by-cons (λ (x : Resident). cond true 1 0) r rest in
    let more = count_all rest in
    omega arith

-- it left, with its group
pub left_now : (cpu : ℕ) (ident : Ident) (a b : Recorded) (gone : List Gone) (at : ℕ) → IsWhole (contents_of a) → IsIdentResident (residents_of (contents_of a)) ident → GrowsBy (written_back cpu gone) a b → IsUnload (contents_of a) (contents_of b) ident at gone → HasLoadedMarks (contents_of a) (contents_of b)
    → b.sealed ≡ a.sealed → b.checkouts ≡ a.checkouts → (contents_of b).spare ≡ (contents_of a).spare → room_of (contents_of b) ≡ room_of (contents_of a) → b.machine.sets ≡ a.machine.sets → HasLeftIf cpu ident a b
left_now cpu ident a b gone at whole r grows unload marks sealed checkouts issues room sets =
    let c = contents_of a in
    let one = whole.2.one in
    let group = unload.group r.0 r.1 r.2 in
    let few = group_counts whole.0 c whole.1 whole.2 (λ r. true) r.0 r.1 (idents_of gone) group (λ other there within. refl) in
    let before = count_all (residents_of c) in
    let after = count_all (without_all (idents_of gone) (residents_of c)) in
    let left = ap (λ (rs : List Resident). length rs) unload.residents in
    let long : length (written_back cpu gone) ≡ length (idents_of gone) = length-map gone _ ∙ sym (length-map gone _) in
    record {
      entries = written_back cpu gone;
      turn = inr (record {
        root = r.0;
        there = r.1;
        its = r.2;
        idents = idents_of gone;
        group = group;
        told = ap (written_back cpu) unload.causes;
        rest = unload.residents;
      });
      are = record {
        grows = grows;
        state = grows.state ∙ ap (after_events (state_of a.machine)) (erase_back cpu gone);
        shows = unload.shows None [];
        fewer = omega arith;
        marks = marks;
        sealed = sealed;
        checkouts = checkouts;
        spare = omega arith;
      };
      room = record { room = room; sets = sets };
    }

-- one after the others
pub one_more_left : (cpu : ℕ) (xs : List Ident) (y : Ident) (a b c : Recorded) → HaveLeft cpu xs a b → HasLeftIf cpu y b c → HaveLeft cpu (xs ++ y ∷ []) a c
one_more_left cpu xs y a b c before one =
    let s = seen (contents_of a) in
    let turn = subst (λ (t : FlatState). LeavesIfThere t cpu y (residents_of (contents_of b)) one.entries (residents_of (contents_of c))) before.are.shows one.turn in
    record {
      entries = before.entries ++ one.entries;
      turns = turns_more s cpu xs y (residents_of (contents_of a)) (residents_of (contents_of b)) (residents_of (contents_of c)) before.entries one.entries before.turns turn;
      are = departures_more before.entries one.entries a b c (comes (residents_of (contents_of b)) (residents_of (contents_of c)) (leaves_were s cpu y (residents_of (contents_of b)) one.entries (residents_of (contents_of c)) turn)) before.are one.are;
      room = record { room = one.room.room ∙ before.room.room; sets = one.room.sets ∙ before.room.sets };
    }

-- ---- departures behind room that was made

pub departures_since : (cpu : ℕ) (idents : List Ident) (a b c : Recorded) → IsRoomMade a b → (left : HaveLeft cpu idents b c) → AreDepartures left.entries a c
departures_since cpu idents a b c made left =
    let are = left.are in
    record {
      grows = grows_before a b made left.entries c are.grows;
      state = are.state ∙ made.only.state;
      shows = are.shows ∙ same_seen a b made;
      fewer = let fewer = are.fewer in let same = same_count a b made in omega arith;
      marks = loaded_marks_before a b made (contents_of c) are.marks;
      sealed = are.sealed ∙ same_sealed a b made;
      checkouts = are.checkouts ∙ same_checkouts a b made;
      spare = let more = made.only.spare in let still = are.spare in omega arith;
    }
