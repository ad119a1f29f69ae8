-- What a look at rows tells of the pages of a space.
use Rattle.std.proofs.Common.{◌≡◌, ℕ, ◌%◌, Bool, not, Option, Some, None, Result, Ok, Err, refl, sym, ◌∙◌, ap}
use Rattle.std.specs.Option.{is_some, option_map}
use Rattle.std.specs.Result.{is_err, result_ok}
use Rattle.cache_ident.specs.declared.names.SpaceNo.{SpaceNo}
use Rattle.phys_groups.specs.declared.rows.Row.{Row}
use Rattle.phys_groups.specs.Memory.{word_at}
use Rattle.phys_groups.specs.Translation.{Translated, place_in}
use Rattle.rv32_exec.specs.declared.statuses.Access.{Access}
use Rattle.rv32_exec.specs.declared.statuses.Access.TheVariants.{Fetch}
use Rattle.rv32_exec.specs.declared.statuses.FaultKind.{FaultKind}
use Rattle.rv32_exec.specs.declared.spaces.Width.TheVariants.{Word}
use Rattle.rv32_exec.specs.Pages.{fetched, translates}
use Rattle.flat_state.specs.State.{FlatState}
use Rattle.flat_state.specs.Translation.{reached, rights_of, row_through}
use Rattle.flat_state.specs.Pages.{page_of, pages_of}
use Rattle.flat_state.proofs.Storing.{read-none, read-pages}
use Rattle.flat_state.proofs.Translating.{translation-pages}
use Rattle.flat_rules.specs.Readings.{Reaches}

answer_fails : (r : Result Row FaultKind) (t : Translated) → Reaches r t → is_err r ≡ not (is_some (row_through t))
answer_fails (Ok row) t e = rw e refl
answer_fails (Err kind) t e = rw e.0 refl

translates-mapped : {X : Type 0} (f : Row → X) (found : Option Row) → is_some (option_map f found) ≡ is_some found
translates-mapped f None = refl
translates-mapped f (Some row) = refl

-- an access that isn't reached doesn't translate
pub unreached : (s : FlatState) (access : Access) (space : SpaceNo) (va : ℕ) (r : Result Row FaultKind) (fails : Bool) → Reaches r (reached s access space va) → fails ≡ is_err r → fails ≡ not (translates (pages_of s space) va access)
unfolding translates
unreached s access space va r fails reaches e =
    e ∙ answer_fails r (reached s access space va) reaches
    ∙ ap not (sym (ap is_some (translation-pages (rights_of s space) s.memory s.rows space va access) ∙ translates-mapped (page_of (rights_of s space) s.memory) (row_through (reached s access space va))))

-- the row of an answer
pub answer_row : (r : Result Row FaultKind) (t : Translated) → Reaches r t → result_ok r ≡ row_through t
answer_row (Ok row) t e = rw e refl
answer_row (Err kind) t e = sym e.0

pub fetched_word : (s : FlatState) (space : SpaceNo) (pc : ℕ) (row : Row) → pc % 4 ≡ 0 → row_through (reached s Fetch space pc) ≡ Some row → Some (word_at s.memory (place_in row.frame pc)) ≡ fetched (pages_of s space) pc
fetched_word s space pc row aligned found = sym (read-pages (rights_of s space) space Fetch s.memory s.rows pc Word row aligned found)

pub fetched_none : (s : FlatState) (space : SpaceNo) (pc : ℕ) → row_through (reached s Fetch space pc) ≡ None → None ≡ fetched (pages_of s space) pc
fetched_none s space pc lost = sym (read-none (rights_of s space) space Fetch s.memory s.rows pc Word lost)
