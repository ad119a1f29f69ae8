-- Boards that go on, one call after another.
use Rattle.std.proofs.Common.{◌≡◌, ℕ, Bool, true, List, [], ◌∷◌, ◌++◌, refl, sym, ◌∙◌, ap}
use Rattle.std.specs.List.{list_any}
use Rattle.std.specs.Prelude.{◌||◌}
use Rattle.run_journal.specs.declared.entries.Entry.{Entry}
use Rattle.run_journal.specs.Told.{is_seal, nothing_told, told, Told}
use Rattle.run_journal.proofs.Growth.{sealed_from, told_from-append}
use Rattle.cached_machine.specs.Posts.{HasLoadedMarks, HasSameMarks}
use Rattle.board_core.specs.Core.{contents_of, IsSound, Recorded}
use Rattle.board_core.specs.Going.{AreMadeBy, GoesOn, Grew, IsOneEvent}
use Rattle.board_core.specs.Growth.{GrowsBy, IsRoomMade}
use Rattle.board_core.proofs.GrowthLaws.{grows_more}
use Rattle.board_core.proofs.RoomLaws.{grows_nothing, same_checkouts, same_sealed}
use Rattle.board_core.proofs.SoundLaws.{grows_by_none, loaded_marks}

-- ---- makers

pub made_more : (cpu : ℕ) (es more : List Entry) → AreMadeBy cpu es → AreMadeBy cpu more → AreMadeBy cpu (es ++ more)
made_more cpu [] more first second = second
made_more cpu (e ∷ es) more first second = (first.0, made_more cpu es more first.1 second)

-- ---- the seal

-- a seal that a journal has, it has whatever comes behind it
seal_stays : (old new : Recorded) (es : List Entry) → IsSound old → IsSound new → new.journal.entries ≡ old.journal.entries ++ es → old.sealed ≡ true → new.sealed ≡ true
seal_stays old new es was is grown sealed =
    let j = old.journal.entries in
    sym is.told.seal
    ∙ ap (λ (k : List Entry). (told k).sealed) grown
    ∙ ap (λ (k : Told). k.sealed) (told_from-append nothing_told j es)
    ∙ sealed_from (told j) es
    ∙ ap (λ (b : Bool). b || list_any is_seal es) (was.told.seal ∙ sealed)

-- a sound board that grew by entries of one maker into a sound one
pub grew_by : (cpu : ℕ) (es : List Entry) (old new : Recorded) → AreMadeBy cpu es → GrowsBy es old new → IsSound old → IsSound new → Grew cpu old new
grew_by cpu es old new made grows was is = record { entries = es; made = made; grows = grows; sealed = seal_stays old new es was is grows.entries }

-- ---- nothing, and one after another

pub grew_nothing : (cpu : ℕ) (b : Recorded) → Grew cpu b b
grew_nothing cpu b = record { entries = []; made = tt; grows = grows_by_none b; sealed = λ sealed. sealed }

pub grew_more : (cpu : ℕ) (a b c : Recorded) → Grew cpu a b → Grew cpu b c → Grew cpu a c
grew_more cpu a b c first second = record {
  entries = first.entries ++ second.entries;
  made = made_more cpu first.entries second.entries first.made second.made;
  grows = grows_more first.entries second.entries a b c first.grows second.grows;
  sealed = λ sealed. second.sealed (first.sealed sealed);
}

pub goes_nowhere : (cpu : ℕ) (b : Recorded) → GoesOn cpu b b
goes_nowhere cpu b = record { grew = grew_nothing cpu b; marks = λ whom by is. is; lasts = λ whom. refl; checkouts = refl }

pub goes_further : (cpu : ℕ) (a b c : Recorded) → GoesOn cpu a b → GoesOn cpu b c → GoesOn cpu a c
goes_further cpu a b c first second = record {
  grew = grew_more cpu a b c first.grew second.grew;
  marks = λ whom by is. first.marks whom by (second.marks whom by is);
  lasts = λ whom. second.lasts whom ∙ first.lasts whom;
  checkouts = second.checkouts ∙ first.checkouts;
}

pub event_more : (cpu : ℕ) (a b c : Recorded) → IsOneEvent cpu a b → IsOneEvent cpu b c → IsOneEvent cpu a c
event_more cpu a b c first second = record { grew = grew_more cpu a b c first.grew second.grew; was = first.was; sound = second.sound }

-- ---- going on

-- a board that grew, on whose processors nobody came, goes on
pub goes_on : (cpu : ℕ) (old new : Recorded) → Grew cpu old new → HasLoadedMarks (contents_of old) (contents_of new) → new.checkouts ≡ old.checkouts → GoesOn cpu old new
goes_on cpu old new grew has checkouts =
    let keeps = loaded_marks (contents_of old) (contents_of new) has in
    record { grew = grew; marks = keeps.marks; lasts = has.lasts; checkouts = checkouts }

-- .. and so does one on whose processors everybody stays
pub goes_on_so : (cpu : ℕ) (old new : Recorded) → Grew cpu old new → HasSameMarks (contents_of old) (contents_of new) → new.checkouts ≡ old.checkouts → GoesOn cpu old new
goes_on_so cpu old new grew has checkouts = record { grew = grew; marks = λ whom by is. sym (has.marks whom) ∙ is; lasts = has.lasts; checkouts = checkouts }

module _ (cpu : ℕ) (old new : Recorded) (room : IsRoomMade old new) where
  pub room_grew : Grew cpu old new
  room_grew = record { entries = []; made = tt; grows = grows_nothing old new room; sealed = λ sealed. same_sealed old new room ∙ sealed }

  pub room_goes_on : GoesOn cpu old new
  room_goes_on = goes_on_so cpu old new room_grew room.only.marks (same_checkouts old new room)
