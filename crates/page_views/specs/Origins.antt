-- A view by where it comes from.
use Rattle.std.specs.Prelude.{ℕ, false, List}
use Rattle.page_views.specs.declared.page.Origin.{Origin}
use Rattle.page_views.specs.Views.{filled, View}

-- an untouched view with these first and these present contents
abbrev pub viewed : Origin → List ℕ → List ℕ → View
viewed o first present =
    record {
      vpn = o.vpn;
      frame = o.frame;
      flags = o.flags;
      row = o.row;
      first = first;
      present = present;
      touched = false;
      written = false;
      taken = o.taken;
    }

-- .. beside others
abbrev pub viewed_beside : List View → Origin → List ℕ → View
viewed_beside vs o bytes = filled vs o.vpn o.frame o.flags o.row bytes o.taken
