-- Changes of the pages of a space, one at a time.
use Rattle.std.specs.Prelude.{ℕ, List, [], ◌∷◌, map}
use Rattle.rv32_exec.specs.declared.statuses.Access.{Access}
use Rattle.rv32_exec.specs.Pages.{Page, mark_page, put_in_frame}

-- the mark of an access to the page of that number; or the low bytes of a number put into each page of a frame: so many,
-- from that place on
pub data Change : Type 0 where
  Marked : (number : ℕ) (access : Access) → Change
  Put : (frame : ℕ) (count : ℕ) (at : ℕ) (value : ℕ) → Change

abbrev pub changed : Change → Page → Page
changed (Marked number access) p = mark_page number access p
changed (Put frame count at value) p = put_in_frame frame count at value p

-- the pages after some changes, the first of the list first
abbrev pub all_changed : List Change → List Page → List Page
all_changed [] ps = ps
all_changed (change ∷ changes) ps = all_changed changes (map (changed change) ps)
