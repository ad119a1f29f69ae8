-- Rows that are plain, each by itself.
use Rattle.std.proofs.Common.{◌≡◌, ◌<◌, ◌≤◌, true, [], length, All, Contains, Some, None, is_some, arith}
use Rattle.std.proofs.lemmas.List.Elements.{All-contains}
use Rattle.std.proofs.lemmas.List.Sums.{count_by-le-length}
use Rattle.cache_ident.specs.declared.names.Name.{Name}
use Rattle.phys_groups.specs.declared.rows.Row.{Row}
use Rattle.group_laws.specs.signal_pages.specs.Signals.{is_signal_row_of}
use Rattle.group_laws.specs.flat_laws.proofs.Members.{Contains-from_filter_map}
use Rattle.group_laws.specs.flat_state.specs.Declaration.{agree}
use Rattle.store_residents.specs.desc_stores.specs.Contents.{content_of, Contents}
use Rattle.store_residents.specs.desc_stores.specs.Sound.{IsExactlyOne}
use Rattle.shown_state.specs.Shown.{row_of_item, shown}
use Rattle.shown_state.proofs.LookupLemmas.{count_rows}
use Rattle.desc_parents.specs.Seen.{seen, HasPlainRows}

-- the row of a name, if it has one, has flags that agree with its receiver, and a frame that a memory can have
abbrev pub IsPlainIn : Contents → Name → Type 0
IsPlainIn c n = (row : Row) → row_of_item (content_of c n) ≡ Some row → (agree row.flags (is_some row.receiver) ≡ true) × (row.frame.0 < 2048)

module _ (c : Contents) (plain : All (IsPlainIn c) c.rows.names) where
  plain_row : (row : Row) → Contains (seen c).rows row → (agree row.flags (is_some row.receiver) ≡ true) × (row.frame.0 < 2048)
  unfolding shown
  plain_row row there =
      let from = Contains-from_filter_map (λ n. row_of_item (content_of c n)) c.rows.names row there in
      All-contains (IsPlainIn c) c.rows.names from.0 plain from.1 row from.2

  -- where each is plain, and there are four at most, all are
  pub plain_rows : IsExactlyOne c → length c.rows.names ≤ 4 → HasPlainRows (seen c)
  plain_rows one few = record {
    agreed = λ row there. (plain_row row there).0;
    framed = λ row there. (plain_row row there).1;
    few = λ frame. omega (arith, count_by-le-length (is_signal_row_of frame) (seen c).rows, count_rows None [] c one, few);
  }
