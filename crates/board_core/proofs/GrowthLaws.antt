-- Moves one after another.
use Rattle.std.proofs.Common.{◌≡◌, ℕ, Bool, true, false, List, [], ◌∷◌, ◌++◌, None, append_assoc, length-append, refl, sym, ◌∙◌, ap, arith}
use Rattle.std.specs.Prelude.{if◌then◌else◌}
use Rattle.cache_ident.specs.declared.names.Name.TheVariants as name
use Rattle.cache_ident.specs.declared.names.ThreadNo.{ThreadNo}
use Rattle.flat_state.specs.Events.{after_events}
use Rattle.flat_state.specs.State.{FlatState}
use Rattle.run_journal.specs.declared.entries.Entry.{Entry}
use Rattle.run_journal.specs.Entries.{erase}
use Rattle.run_journal.proofs.Growth.{after_events-append, erase-append}
use Rattle.cached_machine.specs.desc_groups.specs.declared.departures.Gone.{Gone}
use Rattle.cached_machine.specs.desc_stores.specs.Contents.{residents_of, Contents}
use Rattle.cached_machine.specs.board_laws.specs.Moves.{written_back}
use Rattle.cached_machine.specs.Cached.{is_loaded, state_of}
use Rattle.cached_machine.specs.Posts.{mark_of, HasLoadedMarks, HasSameMarks, OnlyLoadedAreOut}
use Rattle.cached_machine.proofs.AsideLaws.{loaded_alike}
use Rattle.board_core.specs.Core.{Recorded}
use Rattle.board_core.specs.Growth.{GrowsBy}

-- departures are no events
pub erase_back : (cpu : ℕ) (gone : List Gone) → erase (written_back cpu gone) ≡ []
erase_back cpu [] = refl
erase_back cpu (g ∷ gone) = erase_back cpu gone

pub grows_more : (es more : List Entry) (a b c : Recorded) → GrowsBy es a b → GrowsBy more b c → GrowsBy (es ++ more) a c
grows_more es more a b c first second = record {
  entries = second.entries ∙ ap (λ (xs : List Entry). xs ++ more) first.entries ∙ append_assoc a.journal.entries es more;
  state =
      second.state
      ∙ ap (λ (s : FlatState). after_events s (erase more)) first.state
      ∙ sym (after_events-append (state_of a.machine) (erase es) (erase more))
      ∙ ap (after_events (state_of a.machine)) (sym (erase-append es more));
  limit = second.limit ∙ first.limit;
  machine = second.machine ∙ first.machine;
  caps = second.caps ∙ first.caps;
  spare = let one = first.spare in let two = second.spare in let long = length-append es more in omega arith;
}

-- ---- who is on a processor

pub loaded_itself : (c : Contents) → OnlyLoadedAreOut c → HasLoadedMarks c c
loaded_itself c out = record { marks = λ whom. by whom (is_loaded c (name.Thread whom)) refl; lasts = λ whom. refl }
  where
    by : (whom : ThreadNo) (b : Bool) → is_loaded c (name.Thread whom) ≡ b → mark_of c whom ≡ (if is_loaded c (name.Thread whom) then mark_of c whom else None)
    by whom true is = rw is refl
    by whom false is = rw is (out whom is)

-- where the same is loaded, and marks are the same
pub same_marks_more : (a b c : Contents) → residents_of c ≡ residents_of b → HasLoadedMarks a b → HasSameMarks b c → HasLoadedMarks a c
same_marks_more a b c same first second = record {
  marks = λ whom. second.marks whom ∙ first.marks whom ∙ ap (λ (x : Bool). if x then mark_of a whom else None) (sym (loaded_alike b c same (name.Thread whom)));
  lasts = λ whom. second.lasts whom ∙ first.lasts whom;
}
