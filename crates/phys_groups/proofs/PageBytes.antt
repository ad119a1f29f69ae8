-- A byte of memory in its page.
use Rattle.std.proofs.Common.{◌≡◌, ◌≢◌, ℕ, ◌+◌, ◌-◌, ◌*◌, ◌<◌, List, drop, get_or, set, refl, subst, inl, inr, arith}
use Rattle.std.proofs.lemmas.List.{drop-set-add, drop-set-lt, get_or-drop, get_or-take, take-set-le}
use Rattle.std.proofs.Math.Seq.{take-set-lt}
use Rattle.std.proofs.lemmas.Bool.{cases_lt}
use Rattle.cache_ident.specs.declared.names.Frame.{Frame}
use Rattle.phys_groups.specs.Memory.{page_at}

-- a byte is read from its page
pub get_or-page_at : (bytes : List ℕ) (frame : Frame) (o d : ℕ) → o < 4096 → get_or (page_at bytes frame) o d ≡ get_or bytes (4096 * frame.0 + o) d
get_or-page_at bytes frame o d within = rw (get_or-take 4096 (drop (4096 * frame.0) bytes) o d within) (get_or-drop (4096 * frame.0) bytes o d)

-- a byte that is written in memory is written in its page
pub page_at-set : (bytes : List ℕ) (frame : Frame) (o b : ℕ) → o < 4096 → page_at (set bytes (4096 * frame.0 + o) b) frame ≡ set (page_at bytes frame) o b
page_at-set bytes frame o b within = rw (drop-set-add (4096 * frame.0) bytes o b) (take-set-lt 4096 (drop (4096 * frame.0) bytes) o b within)

-- the pages of other frames stay
pub page_at-set_other : (bytes : List ℕ) (frame f : Frame) (o b : ℕ) → o < 4096 → f.0 ≢ frame.0 → page_at (set bytes (4096 * frame.0 + o) b) f ≡ page_at bytes f
page_at-set_other bytes frame f o b within other = elim (cases_lt f.0 frame.0) [
  | inl below ↦ subst (λ i. page_at (set bytes i b) f ≡ page_at bytes f) {x = 4096 * f.0 + (4096 * frame.0 + o - 4096 * f.0)} (omega arith) (rw (drop-set-add (4096 * f.0) bytes (4096 * frame.0 + o - 4096 * f.0) b) (take-set-le 4096 (drop (4096 * f.0) bytes) (4096 * frame.0 + o - 4096 * f.0) b (omega arith)))
  | inr above ↦ rw (drop-set-lt (4096 * f.0) bytes (4096 * frame.0 + o) b (omega arith)) refl
]
