-- A part of a page, as it is where two contents differ.
use Rattle.std.specs.Prelude.{◌≡◌, ℕ, ◌≤◌, List, drop, take}
use Rattle.page_views.specs.declared.part.Part.{Part}

-- two pages are the same before the part and behind it
pub record AreAlikeBut (part : Part) (one other : List ℕ) : Type 0 where
  pub before : take part.from one ≡ take part.from other
  pub behind : drop part.to one ≡ drop part.to other

-- the part lies within a page
abbrev pub IsWithinPage : Part → Type 0
IsWithinPage part = part.to ≤ 4096

-- the part reaches over another
pub record ReachesOver (old new : Part) : Type 0 where
  pub from : new.from ≤ old.from
  pub to : old.to ≤ new.to
