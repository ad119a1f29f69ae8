-- What a run ahead keeps of its steps: their changes, one after another.
use Rattle.std.specs.Prelude.{◌≡◌, ℕ, ◌+◌, ◌*◌, ◌%◌, ◌<◌, ◌≤◌, ◌==◌, ◌||◌, ◌&&◌, Bool, false, if◌then◌else◌, List, [], ◌∷◌, map, Contains, Some, slice_get}
use Rattle.cache_ident.specs.declared.names.SpaceNo.{SpaceNo}
use Rattle.phys_groups.specs.declared.rows.Row.{Row}
use Rattle.phys_groups.specs.Rows.{marked}
use Rattle.rv32_exec.specs.Pages.{put_bytes, is_write}
use Rattle.rv32_exec.specs.Changes.{Change, Marked, Put}
use Rattle.flat_laws.specs.flat_state.specs.declared.records.FlatThread.{FlatThread}
use Rattle.flat_laws.specs.flat_state.specs.State.{FlatState, with_thread}
use Rattle.flat_laws.specs.flat_state.specs.WellFormed.{IsWellFormed}
use Rattle.page_views.specs.Views.{View, HaveOneViewAPage}
use Rattle.quantum.specs.Ahead.{Ahead}
use Rattle.quantum.specs.LocalRun.{touched_views, CouldRun, GoesThrough, state_after, status_by}

-- the bytes of a frame after changes
abbrev pub put_on : List Change → ℕ → List ℕ → List ℕ
put_on [] f bytes = bytes
put_on (Marked n access ∷ cs) f bytes = put_on cs f bytes
put_on (Put frame count at value ∷ cs) f bytes = put_on cs f (if f == frame then put_bytes count bytes at value else bytes)

-- whether some change is the mark of a page, and whether that of a store
abbrev pub has_mark : ℕ → List Change → Bool
has_mark n [] = false
has_mark n (Marked k access ∷ cs) = (n == k) || has_mark n cs
has_mark n (Put frame count at value ∷ cs) = has_mark n cs

abbrev pub has_store_mark : ℕ → List Change → Bool
has_store_mark n [] = false
has_store_mark n (Marked k access ∷ cs) = ((n == k) && is_write access) || has_store_mark n cs
has_store_mark n (Put frame count at value ∷ cs) = has_store_mark n cs

-- each mark is that of a view, and each number was put within the frame of a touched one
abbrev pub AreOf : List View → List Change → Type 0
AreOf vs [] = Unit {0}
AreOf vs (Marked n access ∷ cs) = ((v : View) × Contains vs v × (v.vpn.0 ≡ n)) × AreOf vs cs
AreOf vs (Put frame count at value ∷ cs) = (at + count ≤ 4096) × ((v : View) × Contains (touched_views vs) v × (v.frame.0 ≡ frame)) × AreOf vs cs

-- memory and rows after changes
abbrev pub changed_memory : List Change → List ℕ → List ℕ
changed_memory [] m = m
changed_memory (Marked n access ∷ cs) m = changed_memory cs m
changed_memory (Put frame count at value ∷ cs) m = changed_memory cs (put_bytes count m (4096 * frame + at) value)

abbrev pub changed_rows : SpaceNo → List Change → List Row → List Row
changed_rows space [] rows = rows
changed_rows space (Marked n access ∷ cs) rows = changed_rows space cs (map (marked space n (is_write access)) rows)
changed_rows space (Put frame count at value ∷ cs) rows = changed_rows space cs rows

abbrev pub changed_state : FlatState → SpaceNo → List Change → FlatState
changed_state s space cs = record s { memory = changed_memory cs s.memory; rows = changed_rows space cs s.rows }

-- A view is what the changes made of it. Its contents are, where it agrees with every touched view of its frame in the
-- first contents: then they are these with all that was put there.
pub record IsView (vs : List View) (cs : List Change) (v : View) : Type 0 where
  pub touched : v.touched ≡ has_mark v.vpn.0 cs
  pub written : v.written ≡ has_store_mark v.vpn.0 cs
  pub present : ((u : View) → Contains (touched_views vs) u → u.frame.0 ≡ v.frame.0 → u.first ≡ v.first) → v.present ≡ put_on cs v.frame.0 v.first

-- The changes since the beginning are those of the steps, in any state that they could have been taken in.
pub record IsMade (a : Ahead) : Type 0 where
  pub aligned : a.context.pc % 4 ≡ 0
  pub one_a_page : HaveOneViewAPage a.views
  pub changes : List Change
  pub of : AreOf a.views changes
  pub views : (v : View) → Contains a.views v → IsView a.views changes v
  pub each : (s : FlatState) (n : ℕ) (t : FlatThread) → IsWellFormed s → slice_get s.threads n ≡ Some t → CouldRun s t a
      → (k : ℕ) → k < a.steps → GoesThrough (state_after s n k) n t.space a.views
  pub ahead : (s : FlatState) (n : ℕ) (t : FlatThread) → IsWellFormed s → slice_get s.threads n ≡ Some t → CouldRun s t a
      → state_after s n a.steps ≡ with_thread (changed_state s t.space changes) n (record t { context = a.context; status = status_by a.paused })
