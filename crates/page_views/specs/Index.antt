-- What is known of the views of a table.
use Rattle.std.specs.Prelude.{◌≡◌, ◌+◌, ◌||◌, Bool, false, List, length}
use Rattle.page_views.specs.declared.index.Index.{Index}
use Rattle.page_views.specs.declared.page.Origin.{Origin}
use Rattle.page_views.specs.Lines.{no_lines, noted, frame_number, page_number, AreNoted}
use Rattle.page_views.specs.Views.{has_message, HaveOneViewAFrame, View}

-- there is no view
abbrev pub no_index : Index
no_index = record { count = 0; messages = false; paired = false; pages = no_lines; frames = no_lines }

-- with a view more behind the others
abbrev pub with_view : Origin → Bool → Index → Index
with_view o shared i =
    record {
      count = i.count + 1;
      messages = i.messages || o.flags.m;
      paired = i.paired || shared;
      pages = noted o.vpn.0 i.count i.pages;
      frames = noted o.frame.0 i.count i.frames;
    }

-- the index tells of these views
pub record IsIndex (vs : List View) (index : Index) : Type 0 where
  pub count : index.count ≡ length vs
  pub flagged : index.messages ≡ has_message vs
  pub apart : index.paired ≡ false → HaveOneViewAFrame vs
  pub pages : AreNoted page_number index.pages vs
  pub frames : AreNoted frame_number index.frames vs
