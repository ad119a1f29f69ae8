-- What holds of the board where room was made holds before it too, and the other way round.
use Rattle.std.proofs.Common.{◌≡◌, ℕ, ◌≤◌, List, ◌++◌, length, Option, sym, ◌∙◌, ap, subst, arith}
use Rattle.std.specs.Prelude.{if◌then◌else◌, not, None, []}
use Rattle.std.proofs.lemmas.List.{append-nil}
use Rattle.std.proofs.lemmas.List.Sums.{count_by-le-length}
use Rattle.cache_ident.specs.declared.idents.Ident.{Ident}
use Rattle.cache_ident.specs.declared.names.Name.TheVariants as name
use Rattle.cache_ident.specs.Residents.{Resident}
use Rattle.flat_state.specs.Events.{after_events}
use Rattle.flat_state.specs.State.{FlatState}
use Rattle.run_journal.specs.declared.entries.Entry.{Entry}
use Rattle.run_journal.specs.Entries.{erase}
use Rattle.cached_machine.specs.desc_stores.specs.Contents.{residents_of, Contents}
use Rattle.cached_machine.specs.shown_state.specs.Shown.{shown}
use Rattle.cached_machine.specs.desc_parents.specs.Seen.{seen}
use Rattle.cached_machine.specs.board_laws.specs.Moves.{ShowsTheSame}
use Rattle.cached_machine.specs.Cached.{is_loaded}
use Rattle.cached_machine.specs.Posts.{HasLoadedMarks, HasSameMarks, OnlyLoadedAreOut}
use Rattle.board_core.specs.Core.{contents_of, Recorded}
use Rattle.board_core.specs.Growth.{count_loaded, count_unkept, is_kept, GrowsBy, IsRoomMade}
use Rattle.board_core.proofs.GrowthLaws.{loaded_itself, same_marks_more}

-- no more may leave than are loaded
pub few_unkept : (b : Recorded) (keep : List Ident) → count_unkept b keep ≤ count_loaded b
few_unkept b keep = count_by-le-length (λ (r : Resident). not (is_kept keep r)) (residents_of (contents_of b))

-- room that is made twice is room that was made
pub rooms_more : (a b c : Recorded) → IsRoomMade a b → IsRoomMade b c → IsRoomMade a c
rooms_more a b c first second = record {
  rest = second.rest ∙ ap (λ (x : Recorded). record x { machine = c.machine; journal = record x.journal { spare = c.journal.spare } }) first.rest;
  only = record {
    machine = second.only.machine ∙ first.only.machine;
    memory = second.only.memory ∙ first.only.memory;
    caps = second.only.caps ∙ first.only.caps;
    gone = second.only.gone ∙ first.only.gone;
    state = second.only.state ∙ first.only.state;
    loaded = record { residents = second.only.loaded.residents ∙ first.only.loaded.residents; issued = second.only.loaded.issued ∙ first.only.loaded.issued };
    marks = record { marks = λ whom. second.only.marks.marks whom ∙ first.only.marks.marks whom; lasts = λ whom. second.only.marks.lasts whom ∙ first.only.marks.lasts whom };
    room = let one = first.only.room in let two = second.only.room in omega arith;
    sets_room = let one = first.only.sets_room in let two = second.only.sets_room in omega arith;
    spare = let one = first.only.spare in let two = second.only.spare in omega arith;
  };
  spare = let one = first.spare in let two = second.spare in omega arith;
}

module _ (old mid : Recorded) (room : IsRoomMade old mid) where
  pub same_residents : residents_of (contents_of mid) ≡ residents_of (contents_of old)
  same_residents = room.only.loaded.residents

  pub same_issued : (contents_of mid).issued ≡ (contents_of old).issued
  same_issued = room.only.loaded.issued

  pub same_shows : ShowsTheSame (contents_of old) (contents_of mid)
  unfolding shown
  same_shows machine memory = ap (λ (s : FlatState). let x : FlatState = record s { machine = machine; memory = memory } in x) room.only.state

  pub same_seen : seen (contents_of mid) ≡ seen (contents_of old)
  same_seen = same_shows None []

  pub same_entries : mid.journal.entries ≡ old.journal.entries
  same_entries = ap (λ (b : Recorded). b.journal.entries) room.rest

  pub same_sealed : mid.sealed ≡ old.sealed
  same_sealed = ap (λ (b : Recorded). b.sealed) room.rest

  pub same_checkouts : mid.checkouts ≡ old.checkouts
  same_checkouts = ap (λ (b : Recorded). b.checkouts) room.rest

  -- the same is loaded, so there is room for it
  pub same_count : count_loaded mid ≡ count_loaded old
  same_count = ap length same_residents

  -- no entry was written
  pub grows_nothing : GrowsBy [] old mid
  grows_nothing = record {
    entries = same_entries ∙ sym (append-nil old.journal.entries);
    state = room.only.state;
    limit = ap (λ (b : Recorded). b.limit) room.rest;
    machine = room.only.machine;
    caps = room.only.caps;
    spare = let more = room.spare in omega arith;
  }

  pub loaded_marks_still : OnlyLoadedAreOut (contents_of old) → HasLoadedMarks (contents_of old) (contents_of mid)
  loaded_marks_still out = same_marks_more (contents_of old) (contents_of old) (contents_of mid) same_residents (loaded_itself (contents_of old) out) room.only.marks

  -- what happened since happened since then
  pub grows_before : (es : List Entry) (new : Recorded) → GrowsBy es mid new → GrowsBy es old new
  grows_before es new grows = record {
    entries = subst (λ (j : List Entry). new.journal.entries ≡ j ++ es) same_entries grows.entries;
    state = grows.state ∙ ap (λ (s : FlatState). after_events s (erase es)) room.only.state;
    limit = grows.limit ∙ ap (λ (b : Recorded). b.limit) room.rest;
    machine = grows.machine ∙ room.only.machine;
    caps = grows.caps ∙ room.only.caps;
    spare = let more = room.spare in let after = grows.spare in omega arith;
  }

  pub loaded_marks_before : (new : Contents) → HasLoadedMarks (contents_of mid) new → HasLoadedMarks (contents_of old) new
  loaded_marks_before new marks = record {
    marks = λ whom. marks.marks whom ∙ ap (λ (o : Option ℕ). if is_loaded new (name.Thread whom) then o else None) (room.only.marks.marks whom);
    lasts = λ whom. marks.lasts whom ∙ room.only.marks.lasts whom;
  }

  pub same_marks_before : (new : Contents) → HasSameMarks (contents_of mid) new → HasSameMarks (contents_of old) new
  same_marks_before new marks = record {
    marks = λ whom. marks.marks whom ∙ room.only.marks.marks whom;
    lasts = λ whom. marks.lasts whom ∙ room.only.marks.lasts whom;
  }
