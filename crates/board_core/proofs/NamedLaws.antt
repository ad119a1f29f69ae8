-- Who isn't loaded is on no processor.
use Rattle.std.proofs.Common.{◌≡◌, ℕ, Bool, true, false, Option, None, refl, ◌∙◌, ap}
use Rattle.std.specs.Prelude.{if◌then◌else◌}
use Rattle.cache_ident.specs.declared.names.Name.TheVariants as name
use Rattle.cache_ident.specs.declared.names.ThreadNo.{ThreadNo}
use Rattle.cache_ident.specs.Residents.{IsNameResident}
use Rattle.cached_machine.specs.desc_stores.specs.Contents.{residents_of, Contents}
use Rattle.cached_machine.specs.Cached.{is_loaded}
use Rattle.cached_machine.proofs.LoadedLaws.{not_loaded}
use Rattle.cached_machine.specs.Posts.{mark_of, HasLoadedMarks, OnlyLoadedAreOut}

none_either : (b : Bool) → (let none : Option ℕ = None in if b then none else none) ≡ None
none_either true = refl
none_either false = refl

-- who isn't loaded is on no processor
pub unloaded_unmarked : (c : Contents) (whom : ThreadNo) → OnlyLoadedAreOut c → (IsNameResident (residents_of c) (name.Thread whom) → ⊥) → mark_of c whom ≡ None
unloaded_unmarked c whom out absent = out whom (not_loaded (residents_of c) (name.Thread whom) (λ r there named. absent (r, there, named)))

-- who has just come is on none
pub just_loaded : (old new : Contents) (whom : ThreadNo) → OnlyLoadedAreOut old → HasLoadedMarks old new → (IsNameResident (residents_of old) (name.Thread whom) → ⊥) → mark_of new whom ≡ None
just_loaded old new whom out has absent =
    has.marks whom
    ∙ ap (λ (mark : Option ℕ). if is_loaded new (name.Thread whom) then mark else None) (unloaded_unmarked old whom out absent)
    ∙ none_either (is_loaded new (name.Thread whom))
