-- What stays where nothing changed but memory and what steps change of contents.
use Rattle.std.proofs.Common.{◌≡◌, List, Option, Some, None, refl, sym, ◌∙◌, ap}
use Rattle.std.specs.List.{list_any}
use Rattle.std.specs.Option.{option_map}
use Rattle.cache_ident.specs.declared.names.Name.{Name}
use Rattle.cache_ident.specs.declared.names.Name.TheVariants as name
use Rattle.cache_ident.specs.Residents.{Resident}
use Rattle.thread_sets.specs.kind_store.specs.Changes.{is_name}
use Rattle.board_laws.specs.desc_stores.specs.declared.items.Item.{Item}
use Rattle.board_laws.specs.desc_stores.specs.declared.items.Item.TheVariants as item
use Rattle.board_laws.specs.desc_stores.specs.Changes.{room_of}
use Rattle.board_laws.specs.desc_stores.specs.Contents.{content_of, residents_of, Contents}
use Rattle.board_laws.specs.shown_state.specs.Shown.{HasSameNames}
use Rattle.board_laws.specs.Moves.{KeepsLoaded}
use Rattle.cached_machine.specs.Cached.{is_loaded, Cached}
use Rattle.cached_machine.specs.Aside.{aside_of, but_for_steps, Aside}
use Rattle.cached_machine.specs.Posts.{last_in, mark_in, HasSameMarks, OnlyLoadedAreOut}
use Rattle.cached_machine.specs.Moved.{KeepsBeside}
use Rattle.cached_machine.proofs.AlikeLaws.{same_out}

-- what a step leaves of a content has its processor and its last checkout
pub marked_alike : (o : Option Item) → mark_in (option_map but_for_steps o) ≡ mark_in o
marked_alike None = refl
marked_alike (Some (item.Kernel kernel)) = refl
marked_alike (Some (item.Space space)) = refl
marked_alike (Some (item.Thread thread)) = refl
marked_alike (Some (item.Mapping row)) = refl

pub checked_alike : (o : Option Item) → last_in (option_map but_for_steps o) ≡ last_in o
checked_alike None = refl
checked_alike (Some (item.Kernel kernel)) = refl
checked_alike (Some (item.Space space)) = refl
checked_alike (Some (item.Thread thread)) = refl
checked_alike (Some (item.Mapping row)) = refl

-- who is loaded is read of what is loaded alone
pub loaded_alike : (old new : Contents) → residents_of new ≡ residents_of old → (n : Name) → is_loaded new n ≡ is_loaded old n
loaded_alike old new same n = ap (λ (rs : List Resident). list_any (λ (r : Resident). is_name n r.name) rs) same

-- where the processor and the last checkout in each content stay, those of each thread do
pub marks_by_contents : (old new : Contents) → ((n : Name) → mark_in (content_of new n) ≡ mark_in (content_of old n)) → ((n : Name) → last_in (content_of new n) ≡ last_in (content_of old n)) → HasSameMarks old new
marks_by_contents old new marks lasts = record { marks = λ whom. marks (name.Thread whom); lasts = λ whom. lasts (name.Thread whom) }

module _ (old new : Cached) (same : aside_of new ≡ aside_of old) where
  pub machine_stays : new.machine ≡ old.machine
  machine_stays = ap (λ (a : Aside). a.machine) same

  pub caps_stay : new.held.caps ≡ old.held.caps
  caps_stay = ap (λ (a : Aside). a.caps) same

  pub gone_stays : new.held.gone ≡ old.held.gone
  gone_stays = ap (λ (a : Aside). a.gone) same

  -- the same descriptors stand
  pub names_stay : HasSameNames old.held.contents new.held.contents
  names_stay = record {
    kernels = ap (λ (a : Aside). a.stand.kernels) same;
    spaces = ap (λ (a : Aside). a.stand.spaces) same;
    threads = ap (λ (a : Aside). a.stand.threads) same;
    rows = ap (λ (a : Aside). a.stand.rows) same;
  }

  -- the same is loaded
  pub residents_stay : residents_of new.held.contents ≡ residents_of old.held.contents
  residents_stay = ap (λ (a : Aside). a.residents) same

  pub issued_stays : new.held.contents.issued ≡ old.held.contents.issued
  issued_stays = ap (λ (a : Aside). a.issued) same

  pub loaded_stays : KeepsLoaded old.held.contents new.held.contents
  loaded_stays = record { residents = residents_stay; issued = issued_stays }

  -- there is as much room
  pub spare_stays : new.held.contents.spare ≡ old.held.contents.spare
  spare_stays = ap (λ (a : Aside). a.spare) same

  pub room_stays : room_of new.held.contents ≡ room_of old.held.contents
  room_stays = ap (λ (a : Aside). a.room) same

  pub sets_room_stays : new.sets.room ≡ old.sets.room
  sets_room_stays = ap (λ (a : Aside). a.sets_room) same

  -- contents stay but for what steps change
  pub contents_stay : (n : Name) → option_map but_for_steps (content_of new.held.contents n) ≡ option_map but_for_steps (content_of old.held.contents n)
  contents_stay n = ap (λ (a : Aside). a.contents n) same

  -- each thread has its processor and its last checkout
  pub marks_stay : HasSameMarks old.held.contents new.held.contents
  marks_stay = marks_by_contents old.held.contents new.held.contents
      (λ n. sym (marked_alike (content_of new.held.contents n)) ∙ ap mark_in (contents_stay n) ∙ marked_alike (content_of old.held.contents n))
      (λ n. sym (checked_alike (content_of new.held.contents n)) ∙ ap last_in (contents_stay n) ∙ checked_alike (content_of old.held.contents n))

  -- and only loaded threads have one
  pub out_stays : OnlyLoadedAreOut old.held.contents → OnlyLoadedAreOut new.held.contents
  out_stays = same_out old.held.contents new.held.contents marks_stay (loaded_alike old.held.contents new.held.contents residents_stay)

  pub beside_stays : KeepsBeside old new
  beside_stays = record { machine = machine_stays; caps = caps_stay; gone = gone_stays; spare = spare_stays; loaded = loaded_stays; marks = marks_stay }
